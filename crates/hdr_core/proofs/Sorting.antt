-- A list that is sorted and freed of repeats, and that no other list is so.
use Rattle.std.proofs.Common.{◌≡◌, ◌<◌, Bool, true, List, [], ◌∷◌, refl, subst, sym, ap, ◌∙◌}
use Rattle.std.proofs.Common.{arith, length, ◌⊎◌, inl, inr, Contains, Ordering, Less, Greater}
use Rattle.std.specs.Cmp.{IsTotalOrder, IsEquivalence}
use Rattle.std.specs.List.Sorted.{IsPermutation, IsSorted, IsStrictlySortedBy}
use Rattle.std.specs.List.Retain.{IsFiltered, DiffersFromLast}
use Rattle.std.specs.Ordering.{eq_by_cmp, ordering_reverse}
use Rattle.std.proofs.lemmas.List.Elements.{All-contains, Contains-append_cases}
use Rattle.std.proofs.lemmas.List.Elements.{Contains-append_left, Contains-append_right}
use Rattle.std.proofs.lemmas.List.Elements.{Contains-push, Contains-push_cases}
use Rattle.std.proofs.lemmas.List.Filters.{dedup_is}
use Rattle.std.proofs.lemmas.List.Kept.{Contains-dedup, Contains-from_dedup}
use Rattle.std.proofs.lemmas.List.Kept.{IsStrictlySortedBy-dedup}
use Rattle.std.proofs.lemmas.List.Sorted.{Contains-permutation, IsPermutation-sym}
use Rattle.std.proofs.lemmas.Map.Views.{All-after_first}
use Rattle.hdr_core.specs.Sorted.{Sorts}

module _ {X : Type 0} {R : X → X → Ordering} (total : IsTotalOrder R) {E : X → X → Bool}
    (equivalence : IsEquivalence E) (ties : (x y : X) → E x y ≡ eq_by_cmp R x y)
    (same : (x y : X) → E x y ≡ true → x ≡ y) where
  -- Items that were sorted and freed of repeats are sorted, each once.
  pub sorts_dedup : (given sorted kept : List X) → IsPermutation given sorted → IsSorted R sorted
      → IsFiltered (DiffersFromLast E) [] sorted kept → Sorts R given kept
  sorts_dedup given sorted kept moved ordered dropped =
      subst (Sorts R given) (sym (dedup_is E sorted kept dropped)) (record {
        ascending = IsStrictlySortedBy-dedup total ties sorted ordered;
        none_new =
            λ x there. Contains-permutation _ _ x (IsPermutation-sym _ _ moved)
            (Contains-from_dedup E sorted x there);
        none_lost =
            λ x there. Contains-dedup equivalence same sorted x
            (Contains-permutation _ _ x moved there);
      })

nothing_in : {X : Type 0} (x : X) → Contains [] x → ⊥
nothing_in {X} x there = let h : there.0 < length {A = X} [] = there.1 in absurd (omega arith)

first_in : {X : Type 0} (x : X) (xs : List X) → Contains (x ∷ xs) x
first_in x xs = Contains-append_left (x ∷ []) xs x (Contains-push [] x)

behind_in : {X : Type 0} (x : X) (xs : List X) (y : X) → Contains xs y → Contains (x ∷ xs) y
behind_in x xs y there = Contains-append_right (x ∷ []) xs y there

-- an item of a list is its first or stands behind it
in_cases : {X : Type 0} (x : X) (xs : List X) (y : X) → Contains (x ∷ xs) y
    → (x ≡ y) ⊎ Contains xs y
in_cases x xs y there = elim (Contains-append_cases (x ∷ []) xs y there) [
  | inl first ↦ elim (Contains-push_cases [] x y first) [
    | inl none ↦ absurd (nothing_in y none)
    | inr e ↦ inl e
  ]
  | inr later ↦ inr later
]

module _ {X : Type 0} {R : X → X → Ordering} (total : IsTotalOrder R) where
  not_both : (x y : X) → R x y ≡ Less → R y x ≡ Less → ⊥
  not_both x y below above =
      let e : Less ≡ Greater = sym below ∙ total.antisymm x y ∙ ap ordering_reverse above in cc

  after : (x : X) (xs : List X) (y : X) → IsStrictlySortedBy R (x ∷ xs) → Contains xs y
      → R x y ≡ Less
  after x xs y sorted there =
      All-contains (λ z. R x z ≡ Less) xs y (All-after_first R x xs sorted) there

  firsts_alike : (x y : X) (xs ys : List X) → IsStrictlySortedBy R (x ∷ xs)
      → IsStrictlySortedBy R (y ∷ ys) → Contains (y ∷ ys) x → Contains (x ∷ xs) y → x ≡ y
  firsts_alike x y xs ys a b here there = elim (in_cases y ys x here) [
    | inl e ↦ sym e
    | inr late ↦ elim (in_cases x xs y there) [
      | inl e ↦ e
      | inr later ↦ absurd
          (not_both x y (after x xs y a later) (after y ys x b late))
    ]
  ]

  -- what stands behind the first is no first
  rest_in : (x y z : X) (xs ys : List X) → x ≡ y → IsStrictlySortedBy R (x ∷ xs) → Contains xs z
      → Contains (y ∷ ys) z → Contains ys z
  rest_in x y z xs ys e a late there = elim (in_cases y ys z there) [
    | inl same ↦ (let twice : R x x
        ≡ Less = subst (λ w. R x w ≡ Less) (sym (e ∙ same)) (after x xs z a late) in
        absurd (not_both x x twice twice))
    | inr later ↦ later
  ]

  ascending_alike : (xs ys : List X) → IsStrictlySortedBy R xs → IsStrictlySortedBy R ys
      → ((z : X) → Contains xs z → Contains ys z) → ((z : X) → Contains ys z → Contains xs z)
      → xs ≡ ys
  unfolding IsStrictlySortedBy
  ascending_alike [] [] a b f g = refl
  ascending_alike [] (y ∷ ys) a b f g = absurd (nothing_in y (g y (first_in y ys)))
  ascending_alike (x ∷ xs) [] a b f g = absurd (nothing_in x (f x (first_in x xs)))
  ascending_alike (x ∷ xs) (y ∷ ys) a b f g =
      let e = firsts_alike x y xs ys a b (f x (first_in x xs)) (g y (first_in y ys)) in
      let there = λ (z : X) (late : Contains xs z). rest_in x y z xs ys e a late
      (f z (behind_in x xs z late)) in
      let back = λ (z : X) (late : Contains ys z). rest_in y x z ys xs (sym e) b late
      (g z (behind_in y ys z late)) in
      let rest = ascending_alike xs ys a.1 b.1 there back in
      λ i. e i ∷ rest i

  -- No two lists are sorted from one.
  pub sorts_alike : (given xs ys : List X) → Sorts R given xs → Sorts R given ys → xs ≡ ys
  sorts_alike given xs ys a b =
      ascending_alike xs ys a.ascending b.ascending (λ z there. b.none_lost z (a.none_new z there))
      (λ z there. a.none_lost z (b.none_new z there))
