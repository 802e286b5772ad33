-- Tokens that are passed one by one.
use Rattle.std.proofs.Common.{◌≡◌, refl, sym, ◌∙◌, ap, ℕ, zero, suc, ◌+◌, ◌-◌, ◌<◌, ◌≤◌, add-one}
use Rattle.std.proofs.Common.{arith, Bool, true, false, List, [], ◌∷◌, length, take, drop, get_or}
use Rattle.std.proofs.Common.{drop-cons, Option, Some, None}
use Rattle.java_token.specs.declared.token.Token.{Token}
use Rattle.java_grammar.specs.Parts.{part_of, parts}
use Rattle.std.proofs.Math.Seq.{drop-nil}
use Rattle.std.proofs.lemmas.List.{take_rest, length-drop}
use Rattle.java_grammar.specs.Extents.{one_more, is_further_word, name_from, elements_from}
use Rattle.java_grammar.specs.Extents.{name_and_elements_from}

pub drop_at : (ts : List Token) (i : ℕ) (t : Token) → i < length ts → t ≡ get_or ts i t
    → drop i ts ≡ t ∷ drop (i + 1) ts
drop_at ts i t h e =
    drop-cons ts i t h ∙ ap (λ x. x ∷ drop (suc i) ts) (sym e)
    ∙ ap (λ n. t ∷ drop n ts) (sym (add-one i))

pub parts_at : (ts : List Token) (i : ℕ) (t : Token) → i < length ts → t ≡ get_or ts i t
    → parts (drop i ts) ≡ part_of t ∷ parts (drop (i + 1) ts)
parts_at ts i t h e = ap parts (drop_at ts i t h e)

-- so many more are counted
abbrev pub later : ℕ → Option ℕ → Option ℕ
later n None = None
later n (Some k) = Some (n + k)

pub later_zero : (x : Option ℕ) → later 0 x ≡ x
later_zero None = refl
later_zero (Some k) = ap Some (omega arith)

pub later_one : (n : ℕ) (x : Option ℕ) → later n (one_more x) ≡ later (n + 1) x
later_one n None = refl
later_one n (Some k) = ap Some (omega arith)

pub drop_drop : {X : Type 0} (k i : ℕ) (xs : List X) → drop k (drop i xs) ≡ drop (i + k) xs
drop_drop k zero xs = ap (λ n. drop n xs) (omega arith)
drop_drop k (suc i) [] = drop-nil k ∙ sym (drop-nil (suc i + k))
drop_drop k (suc i) (x ∷ xs) =
    let e : suc (i + k) ≡ suc i + k = omega arith in drop_drop k i xs ∙ ap (λ n. drop n (x ∷ xs)) e

pub drop_parts : (n : ℕ) (ts : List Token) → drop n (parts ts) ≡ parts (drop n ts)
drop_parts zero ts = refl
drop_parts (suc n) [] = refl
drop_parts (suc n) (t ∷ ts) = drop_parts n ts

-- ---- names

further_length : (ts : List Token) → is_further_word (parts ts) ≡ true → 2 ≤ length ts
further_length [] e = cc
further_length (t ∷ []) e = cc
further_length (t ∷ u ∷ ts) e = omega arith

name_further : (ts : List Token) → is_further_word (parts ts) ≡ true
    → name_from (parts ts) ≡ 2 + name_from (parts (drop 2 ts))
name_further [] e = cc
name_further (t ∷ []) e = cc
name_further (t ∷ u ∷ ts) e = rw e (omega arith)

name_over : (ts : List Token) → is_further_word (parts ts) ≡ false → name_from (parts ts) ≡ 0
name_over [] e = refl
name_over (t ∷ []) e = refl
name_over (t ∷ u ∷ ts) e = rw e refl

-- a further word is passed
pub name_step : (ts : List Token) (i : ℕ) (b : Bool) → i ≤ length ts
    → b ≡ is_further_word (parts (take (length ts - i) (drop i ts))) → b ≡ true
    → name_from (parts ts) ≡ i + name_from (parts (drop i ts))
    → (name_from (parts ts) ≡ i + 2 + name_from (parts (drop (i + 2) ts))) × (i + 2 ≤ length ts)
name_step ts i b h e t counted =
    let f : is_further_word (parts (drop i ts)) ≡ true = sym (simp take_rest at e) ∙ t in
    let n = name_further (drop i ts) f in
    let k = further_length (drop i ts) f in
    let d : drop 2 (drop i ts) ≡ drop (i + 2) ts = drop_drop 2 i ts in (
      counted ∙ ap (λ x. i + x) (n ∙ ap (λ x. 2 + name_from (parts x)) d)
          ∙ omega arith,
      omega (arith, length-drop i ts),
    )

pub name_end : (ts : List Token) (i : ℕ) (b : Bool) → i ≤ length ts
    → b ≡ is_further_word (parts (take (length ts - i) (drop i ts))) → b ≡ false
    → name_from (parts ts) ≡ i + name_from (parts (drop i ts)) → i ≡ name_from (parts ts)
name_end ts i b h e t counted =
    let f : is_further_word (parts (drop i ts)) ≡ false = sym (simp take_rest at e) ∙ t in
    sym (counted ∙ ap (λ x. i + x) (name_over (drop i ts) f) ∙ omega arith)

pub name_elements : (ts : List Token) (n e : ℕ) → n ≡ name_from (parts ts)
    → e ≡ elements_from (parts (take (length ts - n) (drop n ts)))
    → n + e ≡ name_and_elements_from (parts ts)
name_elements ts n e name elements =
    ap (λ x. n + x) (simp take_rest at elements ∙ ap elements_from (sym (drop_parts n ts)))
    ∙ ap (λ m. m + elements_from (drop m (parts ts))) name
