-- Lists in order: the members of a list, each once, in the order of a total order.
use Rattle.std.proofs.Common.{◌≡◌, ◌⊎◌, ℕ, zero, suc, List, [], ◌∷◌, ◌++◌, length, map, take}
use Rattle.std.proofs.Common.{drop}
use Rattle.std.proofs.Common.{refl, sym, ap, subst, ◌∙◌, inl, inr, ⊎_elim, arith}
use Rattle.std.specs.Prelude.{Contains}
use Rattle.std.proofs.lemmas.Grind.{common_steps}
use Rattle.std.specs.List.{AllByRecursion}
use Rattle.std.specs.List.Sorted.{IsStrictlySortedBy}
use Rattle.std.specs.Cmp.{IsTotalOrder}
use Rattle.std.specs.declared.cmp.Ordering.{Ordering}
use Rattle.std.specs.declared.cmp.Ordering.TheVariants.{Less, Equal, Greater}
use Rattle.std.specs.Ordering.{match_ordering, ordering_reverse}
use Rattle.std.specs.BTreeSet.{insert_key}
use Rattle.hdr_core.specs.Sorted.{Sorts}
use Rattle.hdr_core.proofs.Sorting.{sorts_alike}
use Rattle.used_files.specs.Order.{in_order}

abbrev pub Among : {X : Type 0} → X → List X → Type 0
Among x [] = ⊥
Among x (y ∷ ys) = (x ≡ y) ⊎ Among x ys

module _ {X : Type 0} where
  pub among_contains : (x : X) (xs : List X) → Contains xs x → Among x xs
  among_contains x [] (k, lt, is) = absurd (omega arith)
  among_contains x (y ∷ ys) (zero, lt, is) = inl (sym is)
  among_contains x (y ∷ ys) (suc k, lt, is) = inr (among_contains x ys (k, omega arith, is))

  pub contains_among : (x : X) (xs : List X) → Among x xs → Contains xs x
  contains_among x [] h = absurd h
  contains_among x (y ∷ ys) h =
      ⊎_elim (λ e. (0, omega arith, sym e))
      (λ h. let c = contains_among x ys h in (suc c.0, omega (arith, c.1), c.2)) h

module _ {X : Type 0} (cmp : X → X → Ordering) (total : IsTotalOrder cmp)
    (exact : (x y : X) → cmp x y ≡ Equal → x ≡ y) where
  abbrev AllAfter : X → List X → Type 0
  AllAfter p qs = AllByRecursion (λ q. cmp p q ≡ Less) qs

  further : (p q : X) (qs : List X) → cmp p q ≡ Less → AllAfter q qs → AllAfter p qs
  further p q [] lt a = tt
  further p q (r ∷ qs) lt a = (total.trans p q r lt a.0, further p q qs lt a.1)

  less_of_greater : (p q : X) → cmp p q ≡ Greater → cmp q p ≡ Less
  less_of_greater p q e = total.antisymm q p ∙ ap ordering_reverse e

  after_insert : (p k : X) (qs : List X) → cmp p k ≡ Less → AllAfter p qs
      → AllAfter p (insert_key cmp qs k)
  after_insert p k [] lt a = (lt, tt)
  after_insert p k (q ∷ qs) lt a = by (cmp k q) (after_insert p k qs lt a.1)
    where
      by : (o : Ordering) → AllAfter p (insert_key cmp qs k)
          → AllAfter p (match_ordering o (k ∷ q ∷ qs) (q ∷ qs) (q ∷ insert_key cmp qs k))
      by Less rest = (lt, a)
      by Equal rest = a
      by Greater rest = (a.0, rest)

  rises_insert : (k : X) (qs : List X) → IsStrictlySortedBy cmp qs
      → IsStrictlySortedBy cmp (insert_key cmp qs k)
  unfolding IsStrictlySortedBy
  rises_insert k [] r = (tt, tt)
  rises_insert k (q ∷ qs) r = by (cmp k q) refl (rises_insert k qs r.1)
    where
      by : (o : Ordering) → cmp k q ≡ o → IsStrictlySortedBy cmp (insert_key cmp qs k)
          → IsStrictlySortedBy cmp
          (match_ordering o (k ∷ q ∷ qs) (q ∷ qs) (q ∷ insert_key cmp qs k))
      by Less e rest = ((e, further k q qs e r.0), r)
      by Equal e rest = r
      by Greater e rest = (after_insert q k qs (less_of_greater k q e) r.0, rest)

  rises : (xs : List X) → IsStrictlySortedBy cmp (in_order cmp xs)
  unfolding IsStrictlySortedBy
  rises [] = tt
  rises (x ∷ xs) = rises_insert x (in_order cmp xs) (rises xs)

  among_insert : (x k : X) (qs : List X) → Among x (insert_key cmp qs k) → (x ≡ k) ⊎ Among x qs
  among_insert x k [] h = h
  among_insert x k (q ∷ qs) h = by (cmp k q) h (λ h. among_insert x k qs h)
    where
      by : (o : Ordering)
          → Among x (match_ordering o (k ∷ q ∷ qs) (q ∷ qs) (q ∷ insert_key cmp qs k))
          → (Among x (insert_key cmp qs k) → (x ≡ k) ⊎ Among x qs)
          → (x ≡ k) ⊎ ((x ≡ q) ⊎ Among x qs)
      by Less h rest = h
      by Equal h rest = inr h
      by Greater h rest =
          ⊎_elim (λ e. inr (inl e)) (λ h. ⊎_elim (λ e. inl e) (λ h. inr (inr h)) (rest h)) h

  insert_old : (x k : X) (qs : List X) → Among x qs → Among x (insert_key cmp qs k)
  insert_old x k [] h = absurd h
  insert_old x k (q ∷ qs) h = by (cmp k q) (λ h. insert_old x k qs h)
    where
      by : (o : Ordering) → (Among x qs → Among x (insert_key cmp qs k))
          → Among x (match_ordering o (k ∷ q ∷ qs) (q ∷ qs) (q ∷ insert_key cmp qs k))
      by Less rest = inr h
      by Equal rest = h
      by Greater rest = ⊎_elim (λ e. inl e) (λ h. inr (rest h)) h

  insert_new : (k : X) (qs : List X) → Among k (insert_key cmp qs k)
  insert_new k [] = inl refl
  insert_new k (q ∷ qs) = by (cmp k q) refl (insert_new k qs)
    where
      by : (o : Ordering) → cmp k q ≡ o → Among k (insert_key cmp qs k)
          → Among k (match_ordering o (k ∷ q ∷ qs) (q ∷ qs) (q ∷ insert_key cmp qs k))
      by Less e rest = inl refl
      by Equal e rest = inl (exact k q e)
      by Greater e rest = inr rest

  pub among_given : (x : X) (xs : List X) → Among x (in_order cmp xs) → Among x xs
  among_given x [] h = h
  among_given x (y ∷ ys) h =
      ⊎_elim (λ e. inl e) (λ h. inr (among_given x ys h)) (among_insert x y (in_order cmp ys) h)

  pub among_order : (x : X) (xs : List X) → Among x xs → Among x (in_order cmp xs)
  among_order x [] h = h
  among_order x (y ∷ ys) h =
      ⊎_elim (λ e. subst (λ z. Among z (insert_key cmp (in_order cmp ys) y)) (sym e)
      (insert_new y (in_order cmp ys)))
      (λ h. insert_old x y (in_order cmp ys) (among_order x ys h)) h

  pub order_sorts : (xs : List X) → Sorts cmp xs (in_order cmp xs)
  order_sorts xs = record {
    ascending = rises xs;
    none_new =
        λ x there. contains_among x xs
        (among_given x xs (among_contains x (in_order cmp xs) there));
    none_lost =
        λ x there. contains_among x (in_order cmp xs)
        (among_order x xs (among_contains x xs there));
  }

  -- what sorts a list is the list in order
  pub sorts_is_order : (xs ys : List X) → Sorts cmp xs ys → ys ≡ in_order cmp xs
  sorts_is_order xs ys sorts = sorts_alike total xs ys (in_order cmp xs) sorts (order_sorts xs)

  -- lists with the same members have one order
  pub same_order : (xs ys : List X) → ((x : X) → Among x xs → Among x ys)
      → ((x : X) → Among x ys → Among x xs) → in_order cmp xs ≡ in_order cmp ys
  same_order xs ys there back =
      let o = order_sorts xs in
      sorts_is_order ys (in_order cmp xs) (record {
        ascending = o.ascending;
        none_new = λ x h. contains_among x ys (there x (among_contains x xs (o.none_new x h)));
        none_lost = λ x h. o.none_lost x (contains_among x xs (back x (among_contains x ys h)));
      })

-- what is mapped keeps its order
module _ {X Y : Type 0} (f : X → Y) (cmp : X → X → Ordering) (by_image : Y → Y → Ordering)
    (agree : (x y : X) → cmp x y ≡ by_image (f x) (f y)) where
  insert_mapped : (k : X) (xs : List X)
      → map f (insert_key cmp xs k) ≡ insert_key by_image (map f xs) (f k)
  insert_mapped k [] = refl
  insert_mapped k (x ∷ xs) = by (cmp k x) (by_image (f k) (f x)) (agree k x) (insert_mapped k xs)
    where
      by : (o p : Ordering) → o ≡ p
          → map f (insert_key cmp xs k) ≡ insert_key by_image (map f xs) (f k)
          → map f (match_ordering o (k ∷ x ∷ xs) (x ∷ xs) (x ∷ insert_key cmp xs k))
          ≡ match_ordering p (f k ∷ f x ∷ map f xs) (f x ∷ map f xs)
          (f x ∷ insert_key by_image (map f xs) (f k))
      by Less p same e =
          ap (λ o. match_ordering o (f k ∷ f x ∷ map f xs) (f x ∷ map f xs)
          (f x ∷ insert_key by_image (map f xs) (f k))) same
      by Equal p same e =
          ap (λ o. match_ordering o (f k ∷ f x ∷ map f xs) (f x ∷ map f xs)
          (f x ∷ insert_key by_image (map f xs) (f k))) same
      by Greater p same e =
          ap (λ ys. f x ∷ ys) e
          ∙ ap (λ o. match_ordering o (f k ∷ f x ∷ map f xs) (f x ∷ map f xs)
          (f x ∷ insert_key by_image (map f xs) (f k))) same

  pub order_mapped : (xs : List X) → map f (in_order cmp xs) ≡ in_order by_image (map f xs)
  order_mapped [] = refl
  order_mapped (x ∷ xs) =
      insert_mapped x (in_order cmp xs) ∙ ap (λ ys. insert_key by_image ys (f x)) (order_mapped xs)

-- a list with members has an order with members
pub not_empty : {X : Type 0} (cmp : X → X → Ordering) (x : X) (xs : List X)
    → in_order cmp (x ∷ xs) ≡ [] → ⊥
not_empty {X} cmp x xs e = by (in_order cmp xs) e
  where
    by : (ys : List X) → insert_key cmp ys x ≡ [] → ⊥
    by [] e = absurd (let both : x ∷ [] ≡ [] = e in cc)
    by (y ∷ ys) e = at (cmp x y) e
      where
        at : (o : Ordering) → match_ordering o (x ∷ y ∷ ys) (y ∷ ys) (y ∷ insert_key cmp ys x) ≡ []
            → ⊥
        at Less e = absurd (let both : x ∷ (y ∷ ys) ≡ [] = e in cc)
        at Equal e = absurd (let both : y ∷ ys ≡ [] = e in cc)
        at Greater e = absurd (let both : y ∷ insert_key cmp ys x ≡ [] = e in cc)

-- a vector's items after they were written over as a slice
pub written_over : {X : Type 0} (given written : List X) (count : ℕ) → length written ≡ count
    → take count (written ++ drop (length written) given) ≡ written
written_over given written count e = grind (arith, common_steps)
