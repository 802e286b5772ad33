-- The counts, token by token.
use Rattle.std.proofs.Common.{◌≡◌, refl, sym, ◌∙◌, ap, not, ℕ, zero, suc, ◌+◌, ◌-◌, ◌<◌, ◌≤◌}
use Rattle.std.proofs.Common.{arith, Bool, true, false, ◌&&◌, ◌||◌, List, [], ◌∷◌, length, take}
use Rattle.std.proofs.Common.{drop, get_or, map, cond}
use Rattle.std.specs.Prelude.{nat_le, count_by, if◌then◌else◌}
use Rattle.std.specs.List.{list_all}
use Rattle.std.proofs.lemmas.Bool.{le-leb, lt-leb}
use Rattle.std.proofs.Math.Bool.{and-true}
use Rattle.std.proofs.lemmas.List.{take_rest}
use Rattle.std.proofs.lemmas.List.Sums.{sum_by-cons}
use Rattle.java_token.specs.declared.token.Token.{Token}
use Rattle.java_grammar.specs.declared.part.Part.{Part}
use Rattle.java_grammar.specs.Parts.{part_of, parts}
use Rattle.java_grammar.specs.Tests.{is_group_start}
use Rattle.java_grammar.specs.Counts.{Place, places, bracket_depth, is_counted, takes_prefix}
use Rattle.java_grammar.specs.Counts.{with_prefixes, is_short, ends_run, prepend, runs_of}
use Rattle.java_grammar.specs.Counts.{extent_fits, values_fit}
use Rattle.java_grammar.specs.Counts.{inside_group, group_behind_name, elements_behind}
use Rattle.java_grammar.specs.Extents.{name_from, group_from}
use Rattle.java_grammar.specs.Running.{counted_on, counted_in_run, begins_prefix}
use Rattle.java_grammar.specs.Running.{begins_default, behind_default}
use Rattle.java_grammar.proofs.Passing.{drop_drop, drop_parts, parts_at}

part_at : (ts : List Token) (i : ℕ) (t : Token) (p : Part) → i < length ts → t ≡ get_or ts i t
    → p ≡ part_of t
    → parts (drop i ts) ≡ p ∷ parts (drop (i + 1) ts)
part_at ts i t p h is part = parts_at ts i t h is
    ∙ ap (λ x. x ∷ parts (drop (i + 1) ts)) (sym part)

rest_from : (ts : List Token) (i n : ℕ)
    → drop n (parts (drop (i + 1) ts)) ≡ parts (drop (i + (1 + n)) ts)
rest_from ts i n = drop_parts n (drop (i + 1) ts)
    ∙ ap parts (drop_drop n (i + 1) ts ∙ ap (λ k. drop k ts) (omega arith))

pub take_parts : (n : ℕ) (ts : List Token) → take n (parts ts) ≡ parts (take n ts)
take_parts zero ts = refl
take_parts (suc n) [] = refl
take_parts (suc n) (t ∷ ts) = ap (λ x. part_of t ∷ x) (take_parts n ts)

-- ---- places

left_out : (u : ℕ → Part → List Part → ℕ) (depth n : ℕ) (ps : List Part)
    → places u depth n ps ≡ places u depth 0 (drop n ps)
left_out u depth zero ps = refl
left_out u depth (suc n) [] = refl
left_out u depth (suc n) (p ∷ ps) = left_out u depth n ps

abbrev pub place : ℕ → Part → List Part → ℕ → Place
place depth p ps n = record { depth = depth; part = p; behind = ps; unread = n }

-- the place at a token, and those behind what it leaves out
pub places_at : (u : ℕ → Part → List Part → ℕ) (ts : List Token) (i depth next n : ℕ) (t : Token)
    (p : Part) → i < length ts → t ≡ get_or ts i t
    → p ≡ part_of t → next ≡ bracket_depth depth p
    → n ≡ u depth p (parts (take (length ts - (i + 1)) (drop (i + 1) ts)))
    → places u depth 0 (parts (drop i ts))
    ≡ place depth p (parts (drop (i + 1) ts)) n ∷ places u next 0 (parts (drop (i + (1 + n)) ts))
places_at u ts i depth next n t p h is part deeper behind =
    let rest = parts (drop (i + 1) ts) in
    let e : u depth p rest ≡ n = sym (simp take_rest at behind) in
    ap (places u depth 0) (part_at ts i t p h is part)
    ∙ ap (λ k. place depth p rest k ∷ places u (bracket_depth depth p) k rest) e
    ∙ ap (λ d. place depth p rest n ∷ places u d n rest) (sym deeper)
    ∙ ap (λ x. place depth p rest n ∷ x)
    (left_out u next n rest ∙ ap (places u next 0) (rest_from ts i n))

-- a test of each place holds at this one
pub passes : (test : Place → Bool) (u : ℕ → Part → List Part → ℕ) (ts : List Token)
    (i depth next n : ℕ) (t : Token) (p : Part) → i < length ts
    → t ≡ get_or ts i t → p ≡ part_of t → next ≡ bracket_depth depth p
    → n ≡ u depth p (parts (take (length ts - (i + 1)) (drop (i + 1) ts)))
    → test (place depth p (parts (drop (i + 1) ts)) n) ≡ true
    → list_all test (places u 0 0 (parts ts))
    ≡ list_all test (places u depth 0 (parts (drop i ts)))
    → list_all test (places u 0 0 (parts ts))
    ≡ list_all test (places u next 0 (parts (drop (i + (1 + n)) ts)))
passes test u ts i depth next n t p h is part deeper behind holds same =
    same ∙ ap (list_all test) (places_at u ts i depth next n t p h is part deeper behind)
    ∙ ap (λ b. b && list_all test (places u next 0 (parts (drop (i + (1 + n)) ts)))) holds

-- it fails at this one
pub fails : (test : Place → Bool) (u : ℕ → Part → List Part → ℕ) (ts : List Token)
    (i depth next n : ℕ) (t : Token) (p : Part) → i < length ts
    → t ≡ get_or ts i t → p ≡ part_of t → next ≡ bracket_depth depth p
    → n ≡ u depth p (parts (take (length ts - (i + 1)) (drop (i + 1) ts)))
    → test (place depth p (parts (drop (i + 1) ts)) n) ≡ false
    → list_all test (places u 0 0 (parts ts))
    ≡ list_all test (places u depth 0 (parts (drop i ts)))
    → false ≡ list_all test (places u 0 0 (parts ts))
fails test u ts i depth next n t p h is part deeper behind holds same =
    sym (same ∙ ap (list_all test) (places_at u ts i depth next n t p h is part deeper behind)
    ∙ ap (λ b. b && list_all test (places u next 0 (parts (drop (i + (1 + n)) ts)))) holds)

-- ---- runs

-- so many are counted in a run before the first of these
abbrev pub run_counts : ℕ → Bool → List Part → ℕ
run_counts so_far may run = so_far + count_by (λ at. is_counted at.0 at.1) (with_prefixes may run)

abbrev pub runs_fit : ℕ → Bool → List (List Part) → Bool
runs_fit so_far may [] = nat_le so_far 256
runs_fit so_far may (run ∷ runs) = nat_le (run_counts so_far may run) 256 && list_all is_short runs

pub runs_begin : (runs : List (List Part)) → list_all is_short runs ≡ runs_fit 0 true runs
runs_begin [] = refl
runs_begin (run ∷ runs) = ap (λ n. nat_le n 256 && list_all is_short runs) (omega arith)

run_ends : (so_far : ℕ) (may : Bool) (runs : List (List Part)) → so_far ≤ 256
    → runs_fit so_far may ([] ∷ runs) ≡ runs_fit 0 true runs
run_ends so_far may runs few =
    let e : nat_le so_far 256 ≡ true = le-leb so_far 256 few in
    let k : so_far + 0 ≡ so_far = omega arith in
    ap (λ n. nat_le n 256 && list_all is_short runs) k ∙ ap (λ b. b && list_all is_short runs) e
    ∙ runs_begin runs

counts_on : (so_far : ℕ) (may : Bool) (p : Part) (b : Bool) (n : ℕ) → is_counted may p ≡ b
    → so_far + (cond b 1 0 + n) ≡ counted_on so_far may p + n
counts_on so_far may p true n e = rw e (omega arith)
counts_on so_far may p false n e = rw e (omega arith)

counts_further : (so_far : ℕ) (may : Bool) (p : Part) (run : List Part)
    → run_counts so_far may (p ∷ run) ≡ run_counts (counted_on so_far may p) (takes_prefix p) run
counts_further so_far may p run =
    let rest = with_prefixes (takes_prefix p) run in
    ap (λ n. so_far + n) (sum_by-cons (λ at. cond (is_counted at.0 at.1) 1 0) (may, p) rest)
    ∙ counts_on so_far may p (is_counted may p) (count_by (λ at. is_counted at.0 at.1) rest) refl

run_goes_on : (so_far : ℕ) (may : Bool) (p : Part) (runs : List (List Part))
    → runs_fit so_far may (prepend p runs)
    ≡ runs_fit (counted_on so_far may p) (takes_prefix p) runs
run_goes_on so_far may p [] =
    let k : counted_on so_far may p + 0 ≡ counted_on so_far may p = omega arith in
    ap (λ n. nat_le n 256 && true) (counts_further so_far may p [] ∙ k)
    ∙ and-true (nat_le (counted_on so_far may p) 256)
run_goes_on so_far may p (run ∷ runs) =
    ap (λ n. nat_le n 256 && list_all is_short runs) (counts_further so_far may p run)

run_step : (so_far : ℕ) (may b : Bool) (p : Part) (ps : List Part) → so_far ≤ 256 → ends_run p ≡ b
    → runs_fit so_far may (runs_of (p ∷ ps))
    ≡ runs_fit (counted_in_run so_far may p) (begins_prefix p) (runs_of ps)
run_step so_far may true p ps few e = rw e (run_ends so_far may (runs_of ps) few)
run_step so_far may false p ps few e = rw e (run_goes_on so_far may p (runs_of ps))

too_many : (so_far : ℕ) (may : Bool) (runs : List (List Part)) → 256 < so_far
    → runs_fit so_far may runs ≡ false
too_many so_far may [] many = lt-leb so_far 256 many
too_many so_far may (run ∷ runs) many =
    ap (λ b. b && list_all is_short runs) (lt-leb (run_counts so_far may run) 256 (omega arith))

-- a place of the list is counted in its run
pub run_at : (u : ℕ → Part → List Part → ℕ) (ts : List Token) (i depth next n so_far : ℕ)
    (may : Bool) (t : Token) (p : Part) → i < length ts
    → t ≡ get_or ts i t → p ≡ part_of t → next ≡ bracket_depth depth p
    → n ≡ u depth p (parts (take (length ts - (i + 1)) (drop (i + 1) ts))) → so_far ≤ 256
    → list_all is_short (runs_of (map (λ at. at.part) (places u 0 0 (parts ts))))
    ≡ runs_fit so_far may (runs_of (map (λ at. at.part) (places u depth 0 (parts (drop i ts)))))
    → list_all is_short (runs_of (map (λ at. at.part) (places u 0 0 (parts ts))))
    ≡ runs_fit (counted_in_run so_far may p) (begins_prefix p)
    (runs_of (map (λ at. at.part) (places u next 0 (parts (drop (i + (1 + n)) ts)))))
run_at u ts i depth next n so_far may t p h is part deeper behind few same =
    same ∙ ap (λ x. runs_fit so_far may (runs_of (map (λ at. at.part) x)))
    (places_at u ts i depth next n t p h is part deeper behind)
    ∙ run_step so_far may _ p (map (λ at. at.part)
    (places u next 0 (parts (drop (i + (1 + n)) ts)))) few refl

-- so is it where the code has come to
pub run_further : (so_far next : ℕ) (may then_ : Bool) (p : Part) (runs : List (List Part))
    (r : Bool) → next ≡ counted_in_run so_far may p
    → then_ ≡ begins_prefix p → r ≡ runs_fit (counted_in_run so_far may p) (begins_prefix p) runs
    → r ≡ runs_fit next then_ runs
run_further so_far next may then_ p runs r counted begins same =
    same ∙ ap (λ n. runs_fit n (begins_prefix p) runs) (sym counted)
    ∙ ap (λ b. runs_fit next b runs) (sym begins)

pub run_stops : (n so_far : ℕ) (may : Bool) (runs : List (List Part)) (r : Bool) → n ≡ so_far
    → 256 < n → r ≡ runs_fit so_far may runs
    → false ≡ r
run_stops n so_far may runs r e many same = sym (same ∙ too_many so_far may runs (omega arith))

-- ---- behind `default`

not_there : (depth : ℕ) (p : Part) (ps : List Part) (n : ℕ) (grouped : Bool) (others : List Place)
    → begins_default depth p grouped ≡ false
    → behind_default grouped (place depth p ps n ∷ others)
    ≡ behind_default (grouped || is_group_start p) others
not_there depth p ps n grouped others e = rw e refl

there : (depth : ℕ) (p : Part) (ps : List Part) (n : ℕ) (grouped : Bool) (others : List Place)
    → begins_default depth p grouped ≡ true
    → behind_default grouped (place depth p ps n ∷ others) ≡ ps
there depth p ps n grouped others e = rw e refl

pub default_further : (u : ℕ → Part → List Part → ℕ) (ts : List Token) (i depth next n : ℕ)
    (grouped more : Bool) (t : Token) (p : Part) → i < length ts
    → t ≡ get_or ts i t → p ≡ part_of t → next ≡ bracket_depth depth p
    → n ≡ u depth p (parts (take (length ts - (i + 1)) (drop (i + 1) ts)))
    → begins_default depth p grouped ≡ false → more ≡ (grouped || is_group_start p)
    → behind_default false (places u 0 0 (parts ts))
    ≡ behind_default grouped (places u depth 0 (parts (drop i ts)))
    → behind_default false (places u 0 0 (parts ts))
    ≡ behind_default more (places u next 0 (parts (drop (i + (1 + n)) ts)))
default_further u ts i depth next n grouped more t p h is part deeper behind other group same =
    let others = places u next 0 (parts (drop (i + (1 + n)) ts)) in
    same ∙ ap (behind_default grouped) (places_at u ts i depth next n t p h is part deeper behind)
    ∙ not_there depth p (parts (drop (i + 1) ts)) n grouped others other
    ∙ ap (λ b. behind_default b others) (sym group)

pub default_found : (u : ℕ → Part → List Part → ℕ) (ts : List Token) (i depth : ℕ)
    (grouped : Bool) (t : Token) (p : Part) → i < length ts
    → t ≡ get_or ts i t → p ≡ part_of t → begins_default depth p grouped ≡ true
    → behind_default false (places u 0 0 (parts ts))
    ≡ behind_default grouped (places u depth 0 (parts (drop i ts)))
    → parts (take (length ts - (i + 1)) (drop (i + 1) ts))
    ≡ behind_default false (places u 0 0 (parts ts))
default_found u ts i depth grouped t p h is part found same =
    let rest = parts (drop (i + 1) ts) in
    ap parts (take_rest ts (i + 1))
    ∙ sym (same ∙ ap (λ x. behind_default grouped (places u depth 0 x))
    (part_at ts i t p h is part)
    ∙ there depth p rest (u depth p rest) grouped
    (places u (bracket_depth depth p) (u depth p rest) rest) found)

-- ---- what is inside

pub fits_at : (ts : List Token) (i n : ℕ) (r : Bool)
    → r ≡ extent_fits (parts (take (i + 1 + n - (i + 1)) (drop (i + 1) ts)))
    → extent_fits (take n (parts (drop (i + 1) ts))) ≡ r
fits_at ts i n r is =
    let rest = drop (i + 1) ts in
    let k : i + 1 + n - (i + 1) ≡ n = omega arith in
    ap extent_fits (take_parts n rest ∙ ap (λ m. parts (take m rest)) (sym k)) ∙ sym is

pub elements_at : (ts : List Token) (i : ℕ) (p : Part) (r : Bool)
    → r ≡ values_fit false (elements_behind p
    (parts (take (length ts - (i + 1)) (drop (i + 1) ts))))
    → values_fit false (elements_behind p (parts (drop (i + 1) ts))) ≡ r
elements_at ts i p r is = ap (λ x. values_fit false (elements_behind p (parts x)))
    (sym (take_rest ts (i + 1))) ∙ sym is

pub from_not : (b : Bool) → not b ≡ false → b ≡ true
from_not true e = refl
from_not false e = cc

pub to_not : (b : Bool) → not b ≡ true → b ≡ false
to_not true e = cc
to_not false e = refl

pub group_at : (ts : List Token) (t : Token) (p : Part) (n s : ℕ) (b : Bool) → 1 ≤ length ts
    → t ≡ get_or ts 0 t → p ≡ part_of t
    → b ≡ is_group_start p → b ≡ true → n ≡ group_from (parts (take (length ts - 1) (drop 1 ts)))
    → s ≡ n - 1
    → parts (take s (take (length ts - 1) (drop 1 ts))) ≡ inside_group (parts ts)
group_at [] t p n s b some is part group true_ size less = absurd (omega arith)
group_at (u ∷ ts) t p n s b some is part group true_ size less =
    let start : is_group_start (part_of u) ≡ true = ap (λ x. is_group_start (part_of x)) (sym is)
    ∙ ap is_group_start (sym part) ∙ sym group ∙ true_ in
    let whole : n ≡ group_from (parts ts) = size
    ∙ ap (λ x. group_from (parts x)) (take_rest (u ∷ ts) 1) in
    ap (λ x. parts (take s x)) (take_rest (u ∷ ts) 1) ∙ sym (take_parts s ts)
    ∙ ap (λ k. take k (parts ts)) (less ∙ ap (λ k. k - 1) whole)
    ∙ sym (ap (λ c. if c then take (group_from (parts ts) - 1) (parts ts) else []) start)

pub group_behind : (ts : List Token) (n : ℕ) (r : List Part) → n ≡ name_from (parts ts)
    → r ≡ inside_group (parts (take (length ts - n) (drop n ts)))
    → r ≡ group_behind_name (parts ts)
group_behind ts n r name inside =
    simp take_rest at inside ∙ ap inside_group (sym (drop_parts n ts))
    ∙ ap (λ k. inside_group (drop k (parts ts))) name
