-- Rows of pieces, passed one by one.
use Rattle.std.proofs.Common.{◌≡◌, refl, sym, ◌∙◌, ap, ℕ, zero, suc, ◌+◌, ◌-◌, ◌<◌, ◌≤◌, arith}
use Rattle.std.proofs.Common.{List, [], ◌∷◌, length, take, drop}
use Rattle.std.proofs.lemmas.List.{take_rest, length-drop, drop_all}
use Rattle.java_token.specs.declared.token.Token.{Token}
use Rattle.java_grammar.specs.declared.part.Part.{Part}
use Rattle.java_grammar.specs.Parts.{parts}
use Rattle.std.specs.Prelude.{Bool, true, false, ◌==◌, if◌then◌else◌, Option, Some}
use Rattle.java_grammar.specs.declared.type_arguments.Angled.{Angled}
use Rattle.java_grammar.specs.Extents.{passing, row_from, before, continued, and_behind, with_last}
use Rattle.java_grammar.specs.Extents.{annotations_from, annotated_from, longest_from}
use Rattle.java_grammar.specs.Extents.{arguments_at, typed_by, typed_from, type_from}
use Rattle.java_grammar.specs.Extents.{begins_with_double_colon, referred_by, referred_from}
use Rattle.java_grammar.proofs.Passing.{drop_drop, drop_parts}

-- what stands in the row already is counted
skipped : (f : List Part → ℕ) (more : ℕ) (ts : List Token) → more ≤ length ts
    → row_from f more (parts ts) ≡ more + row_from f 0 (parts (drop more ts))
skipped f zero ts h = omega arith
skipped f (suc more) [] h = absurd (omega arith)
skipped f (suc more) (t ∷ ts) h =
    let k : more ≤ length ts = omega arith in let e = skipped f more ts k in ap suc e ∙ omega arith

passed : (f : List Part → ℕ) (n : ℕ) (ts : List Token) → n ≡ f (parts ts) → 0 < n → n ≤ length ts
    → row_from f 0 (parts ts) ≡ n + row_from f 0 (parts (drop n ts))
passed f zero ts e some h = absurd (omega arith)
passed f (suc n) [] e some h = absurd (omega arith)
passed f (suc n) (t ∷ ts) e some h =
    let k : n ≤ length ts = omega arith in
    let s = skipped f n ts k in
    ap (λ x. passing x (λ more. row_from f more (parts ts))) (sym e) ∙ ap suc s ∙ omega arith

over : (f : List Part → ℕ) (ts : List Token) → 0 ≡ f (parts ts) → row_from f 0 (parts ts) ≡ 0
over f [] e = refl
over f (t ∷ ts) e = ap (λ x. passing x (λ more. row_from f more (parts ts))) (sym e)

-- a piece is passed
pub row_step : (f : List Part → ℕ) (ts : List Token) (i n : ℕ)
    → n ≡ f (parts (take (length ts - i) (drop i ts))) → 0 < n
    → i + n ≤ length ts
    → row_from f 0 (parts ts) ≡ i + row_from f 0 (parts (drop i ts))
    → row_from f 0 (parts ts) ≡ i + n + row_from f 0 (parts (drop (i + n) ts))
row_step f ts i n e some h counted =
    let room : n ≤ length (drop i ts) = simp length-drop (omega arith) in
    let s = passed f n (drop i ts) (simp take_rest at e) some room in
    let d : drop n (drop i ts) ≡ drop (i + n) ts = drop_drop n i ts in
    counted ∙ ap (λ x. i + x) (s ∙ ap (λ x. n + row_from f 0 (parts x)) d) ∙ omega arith

-- no piece follows
pub row_end : (f : List Part → ℕ) (ts : List Token) (i n : ℕ)
    → n ≡ f (parts (take (length ts - i) (drop i ts))) → n ≡ 0
    → row_from f 0 (parts ts) ≡ i + row_from f 0 (parts (drop i ts)) → i ≡ row_from f 0 (parts ts)
row_end f ts i n e none counted =
    sym (counted ∙ ap (λ x. i + x) (over f (drop i ts) (sym none ∙ simp take_rest at e))
    ∙ omega arith)

pub row_over : (f : List Part → ℕ) (ts : List Token) (i : ℕ) → length ts ≤ i
    → row_from f 0 (parts ts) ≡ i + row_from f 0 (parts (drop i ts)) → i ≡ row_from f 0 (parts ts)
row_over f ts i h counted =
    sym (counted ∙ ap (λ x. i + row_from f 0 (parts x)) (drop_all i ts h) ∙ omega arith)

-- ---- one behind the other

rest_of : {Y : Type 0} (f : List Part → Y) (ts : List Token) (n : ℕ) (m : Y)
    → m ≡ f (parts (take (length ts - n) (drop n ts))) → m ≡ f (drop n (parts ts))
rest_of f ts n m e = simp take_rest at e ∙ ap f (sym (drop_parts n ts))

pub behind_one : (f g : List Part → ℕ) (ts : List Token) (n m : ℕ) → n ≡ f (parts ts)
    → m ≡ g (parts (take (length ts - n) (drop n ts)))
    → n + m ≡ and_behind f g (parts ts)
behind_one f g ts n m first second =
    ap (λ x. n + x) (rest_of g ts n m second) ∙ ap (λ k. k + g (drop k (parts ts))) first

pub goes_on : (g : List Part → ℕ) (ts : List Token) (k n m : ℕ) → n ≡ k → 0 < n
    → m ≡ g (parts (take (length ts - n) (drop n ts)))
    → n + m ≡ continued k g (parts ts)
goes_on g ts k zero m first some second = absurd (omega arith)
goes_on g ts k (suc n) m first some second =
    ap (λ x. suc n + x) (rest_of g ts (suc n) m second) ∙ ap (λ x. continued x g (parts ts)) first

pub goes_not_on : (g : List Part → ℕ) (ts : List Token) (k n : ℕ) → n ≡ k → n ≡ 0
    → 0 ≡ continued k g (parts ts)
goes_not_on g ts k n first none = ap (λ x. continued x g (parts ts)) (sym none ∙ first)

pub goes_on_from_last : (g : List Part → ℕ) (ts : List Token) (k n m : ℕ) → n ≡ k → 0 < n
    → m ≡ g (parts (take (length ts - (n - 1)) (drop (n - 1) ts)))
    → n + m ≡ with_last k g (parts ts)
goes_on_from_last g ts k zero m first some second = absurd (omega arith)
goes_on_from_last g ts k (suc n) m first some second =
    let less : suc n - 1 ≡ n = omega arith in
    let last = second ∙ ap (λ i. g (parts (take (length ts - i) (drop i ts)))) less in
    ap (λ x. suc n + x) (rest_of g ts n m last) ∙ ap (λ x. with_last x g (parts ts)) first

pub annotated : (f : List Part → ℕ) (ts : List Token) (n m r : ℕ) → n ≡ annotations_from (parts ts)
    → m ≡ f (parts (take (length ts - n) (drop n ts))) → r ≡ before n m
    → r ≡ annotated_from f (parts ts)
unfolding annotated_from
annotated f ts n m r first second whole =
    whole ∙ ap (before n) (rest_of f ts n m second)
    ∙ ap (λ k. before k (f (drop k (parts ts)))) first

-- ---- types

by_left : (a : Angled) (ps : List Part) → a.left ≡ 0
    → a.count + annotated_from longest_from (drop a.count ps) ≡ typed_by (Some a) ps
by_left a ps none = ap (λ n. if n == 0 then a.count
    + annotated_from longest_from (drop a.count ps) else a.count) (sym none)

pub typed_whole : (ts : List Token) (o : Option Angled) (a : Angled) (m : ℕ)
    → o ≡ arguments_at (parts ts) → o ≡ Some a → a.left ≡ 0
    → m ≡ annotated_from longest_from (parts (take (length ts - a.count) (drop a.count ts)))
    → a.count + m ≡ typed_from (parts ts)
unfolding typed_from
typed_whole ts o a m arguments is none second =
    ap (λ x. a.count + x) (rest_of (annotated_from longest_from) ts a.count m second)
    ∙ by_left a (parts ts) none
    ∙ ap (λ x. typed_by x (parts ts)) (sym is ∙ arguments)

colon_behind : (ts : List Token) (n : ℕ) (b c : Bool)
    → b ≡ begins_with_double_colon (parts (take (length ts - n) (drop n ts))) → b ≡ c
    → c ≡ begins_with_double_colon (drop n (parts ts))
colon_behind ts n b c e is = sym is ∙ rest_of begins_with_double_colon ts n b e

pub referred : (ts : List Token) (n : ℕ) (b : Bool) → n ≡ type_from (parts ts)
    → b ≡ begins_with_double_colon (parts (take (length ts - n) (drop n ts))) → b ≡ true
    → n ≡ referred_from (parts ts)
unfolding referred_from
referred ts n b type colon is =
    ap (λ c. if c then n else 1) (colon_behind ts n b true colon is)
    ∙ ap (λ m. referred_by m (parts ts)) type

pub not_referred : (ts : List Token) (n : ℕ) (b : Bool) → n ≡ type_from (parts ts)
    → b ≡ begins_with_double_colon (parts (take (length ts - n) (drop n ts))) → b ≡ false
    → 1 ≡ referred_from (parts ts)
unfolding referred_from
not_referred ts n b type colon is =
    ap (λ c. if c then n else 1) (colon_behind ts n b false colon is)
    ∙ ap (λ m. referred_by m (parts ts)) type
