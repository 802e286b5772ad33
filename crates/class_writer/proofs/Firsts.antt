-- An ordered set keeps the first of equal items.
use Rattle.std.proofs.Common.{◌≡◌, Bool, true, false, cond, not, ◌&&◌, ◌||◌, List, [], ◌∷◌, ◌++◌}
use Rattle.std.proofs.Common.{refl, sym, ap, ◌∙◌, append_assoc, append-nil}
use Rattle.std.specs.Prelude.{filter, if◌then◌else◌}
use Rattle.std.specs.List.{list_any}
use Rattle.std.specs.Cmp.{IsEquivalence}
use Rattle.std.proofs.lemmas.List.Folds.{list_any-append}
use Rattle.indexmap.specs.IndexSet.{insert_all}
use Rattle.class_desc.specs.Layout.{firsts}

pub filter_both : {K : Type 0} (p q : K → Bool) (xs : List K)
    → filter p (filter q xs) ≡ filter (λ x. q x && p x) xs
filter_both p q [] = refl
filter_both p q (x ∷ xs) =
    elim (q x) as (λ b. filter p (cond b (x ∷ filter q xs) (filter q xs))
    ≡ cond (b && p x) (x ∷ filter (λ x. q x && p x) xs) (filter (λ x. q x && p x) xs)) [
      | true ↦ ap (λ ys. cond (p x) (x ∷ ys) ys) (filter_both p q xs)
      | false ↦ filter_both p q xs
    ]

pub filter_same : {K : Type 0} (p q : K → Bool) → ((x : K) → p x ≡ q x) → (xs : List K)
    → filter p xs ≡ filter q xs
filter_same p q h [] = refl
filter_same p q h (x ∷ xs) = ap (λ b. cond b (x ∷ filter p xs) (filter p xs)) (h x)
    ∙ ap (λ ys. cond (q x) (x ∷ ys) ys) (filter_same p q h xs)

and_swap : (a b : Bool) → (a && b) ≡ (b && a)
and_swap true true = refl
and_swap true false = refl
and_swap false true = refl
and_swap false false = refl

neither : (a b c : Bool) → b ≡ c → not (a || (b || false)) ≡ (not a && not c)
neither true b c e = refl
neither false true c e = ap not e
neither false false c e = ap not e

not_behind : (e qx qy : Bool) → (e ≡ true → qx ≡ qy) → qy ≡ false → (not e && qx) ≡ qx
not_behind true qx qy h f = sym (h refl ∙ f)
not_behind false qx qy h f = refl

module _ {K : Type 0} (E : K → K → Bool) (laws : IsEquivalence E) where
  firsts_filter : (q : K → Bool) → ((x y : K) → E x y ≡ true → q x ≡ q y) → (xs : List K)
      → filter q (firsts E xs) ≡ firsts E (filter q xs)
  firsts_filter q respects [] = refl
  firsts_filter q respects (y ∷ ys) = by (q y) refl (firsts_filter q respects ys)
    where
      by : (b : Bool) → q y ≡ b → filter q (firsts E ys) ≡ firsts E (filter q ys)
          → filter q (firsts E (y ∷ ys)) ≡ firsts E (filter q (y ∷ ys))
      by true e rest =
          ap (λ b. cond b (y ∷ filter q (filter (λ x. not (E y x)) (firsts E ys)))
          (filter q (filter (λ x. not (E y x)) (firsts E ys)))) e
          ∙ ap (λ zs. y ∷ zs) (filter_both q (λ x. not (E y x)) (firsts E ys)
          ∙ filter_same _ _ (λ x. and_swap (not (E y x)) (q x)) (firsts E ys)
          ∙ sym (filter_both (λ x. not (E y x)) q (firsts E ys))
          ∙ ap (filter (λ x. not (E y x))) rest)
          ∙ sym (ap (λ b. firsts E (cond b (y ∷ filter q ys) (filter q ys))) e)
      by false e rest =
          ap (λ b. cond b (y ∷ filter q (filter (λ x. not (E y x)) (firsts E ys)))
          (filter q (filter (λ x. not (E y x)) (firsts E ys)))) e
          ∙ filter_both q (λ x. not (E y x)) (firsts E ys)
          ∙ filter_same _ _ (λ x. not_behind (E y x) (q x) (q y) (λ h. sym (respects y x h)) e)
          (firsts E ys)
          ∙ rest
          ∙ sym (ap (λ b. firsts E (cond b (y ∷ filter q ys) (filter q ys))) e)

  apart : (k x y : K) → E x y ≡ true → not (E k x) ≡ not (E k y)
  apart k x y h = ap not (laws.symm k x ∙ laws.congr x y k h ∙ laws.symm y k)

  insert_all_after : (acc ks : List K)
      → insert_all E acc ks ≡ acc ++ firsts E (filter (λ x. not (list_any (E x) acc)) ks)
  insert_all_after acc [] = sym (append-nil acc)
  insert_all_after acc (k ∷ ks) = by (list_any (E k) acc) refl (λ more. insert_all_after more ks)
    where
      by : (b : Bool) → list_any (E k) acc ≡ b
          → ((more : List K) → insert_all E more ks ≡ more
          ++ firsts E (filter (λ x. not (list_any (E x) more)) ks))
          → insert_all E acc (k ∷ ks) ≡ acc
          ++ firsts E (filter (λ x. not (list_any (E x) acc)) (k ∷ ks))
      by true e rest =
          ap (λ b. insert_all E (if b then acc else acc ++ k ∷ []) ks) e
          ∙ rest acc
          ∙ sym (ap (λ b. acc ++ firsts E
          (cond (not b) (k ∷ filter (λ x. not (list_any (E x) acc)) ks)
          (filter (λ x. not (list_any (E x) acc)) ks))) e)
      by false e rest =
          ap (λ b. insert_all E (if b then acc else acc ++ k ∷ []) ks) e
          ∙ rest (acc ++ k ∷ [])
          ∙ append_assoc acc (k ∷ []) _
          ∙ ap (λ t. acc ++ k ∷ t) (ap (firsts E)
          (filter_same _ _ (λ x. ap not (list_any-append (E x) acc (k ∷ []))
          ∙ neither (list_any (E x) acc) (E x k) (E k x) (laws.symm x k)) ks
          ∙ sym (filter_both (λ x. not (E k x)) (λ x. not (list_any (E x) acc)) ks))
          ∙ sym (firsts_filter (λ x. not (E k x)) (apart k)
          (filter (λ x. not (list_any (E x) acc)) ks)))
          ∙ sym (ap (λ b. acc ++ firsts E
          (cond (not b) (k ∷ filter (λ x. not (list_any (E x) acc)) ks)
          (filter (λ x. not (list_any (E x) acc)) ks))) e)

  pub insert_all_firsts : (ks : List K) → insert_all E [] ks ≡ firsts E ks
  insert_all_firsts ks = insert_all_after [] ks ∙ ap (firsts E) (filter_all ks)
    where
      filter_all : (xs : List K) → filter (λ x. true) xs ≡ xs
      filter_all [] = refl
      filter_all (x ∷ xs) = ap (λ ys. x ∷ ys) (filter_all xs)
