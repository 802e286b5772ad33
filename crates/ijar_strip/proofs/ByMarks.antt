-- Lists by marks: a test of the items that the marks give.
use Rattle.std.proofs.Common.{◌≡◌, ℕ, zero, suc, ◌+◌, ◌<◌, arith, Bool, true, false, cond, List}
use Rattle.std.proofs.Common.{[], ◌∷◌, ◌++◌, length, map, take, get_or, refl, ap, ◌∙◌, sym}
use Rattle.std.specs.Prelude.{filter}
use Rattle.std.specs.List.{SwappedAt}
use Rattle.std.proofs.lemmas.List.{get_or-drop, get_or-map, take_more}
use Rattle.std.proofs.lemmas.List.Filters.{FiltersInPlace, FiltersInPlace-more_swap}
use Rattle.std.proofs.lemmas.List.Filters.{FiltersInPlace-more_no}

module _ {X : Type 0} (p : X → Bool) where
  -- the mark of an item is what the test says of it
  mark_is : (xs : List X) (marks : List Bool) (i : ℕ) (x : X) (m : Bool) → marks ≡ map p xs →
      i < length xs → x ≡ get_or xs i x → m ≡ get_or marks i m → m ≡ p x
  mark_is xs marks i x m are inside is read =
      read ∙ (ap (λ list. get_or list i m) are ∙ (get_or-map p xs i x m inside ∙ ap p (sym is)))

  pub copy_more : (xs : List X) (marks : List Bool) (i : ℕ) (x : X) (m : Bool) →
      marks ≡ map p xs → i < length xs → x ≡ get_or xs i x → m ≡ get_or marks i m
      → filter p (take (i + 1) xs) ≡ (cond m (filter p (take i xs) ++ x ∷ [])
      (filter p (take i xs)))
  copy_more xs marks i x m are inside is read =
      let tells : m ≡ p x = mark_is xs marks i x m are inside is read in
      ap (filter p) (take_more xs i x inside)
      ∙ (pushed (take i xs) (get_or xs i x)
      ∙ (ap (λ y. cond (p y) (filter p (take i xs) ++ y ∷ []) (filter p (take i xs))) (sym is)
      ∙ ap (λ b. cond b (filter p (take i xs) ++ x ∷ []) (filter p (take i xs))) (sym tells)))
    where
      pushed : (xs : List X) (x : X) → filter p (xs ++ x ∷ [])
          ≡ cond (p x) (filter p xs ++ x ∷ []) (filter p xs)
      pushed [] x = refl
      pushed (y ∷ xs) x = by (p y) (p x) (pushed xs x)
        where
          by : (a b : Bool) → filter p (xs ++ x ∷ [])
              ≡ cond b (filter p xs ++ x ∷ []) (filter p xs)
              → cond a (y ∷ filter p (xs ++ x ∷ [])) (filter p (xs ++ x ∷ []))
              ≡ cond b (cond a (y ∷ filter p xs) (filter p xs) ++ x ∷ [])
              (cond a (y ∷ filter p xs) (filter p xs))
          by true true e = ap (λ list. y ∷ list) e
          by true false e = ap (λ list. y ∷ list) e
          by false true e = e
          by false false e = e

  pub record Item (xs : List X) (i : ℕ) : Type 0 where
    pub item : X
    pub is : item ≡ get_or xs i item

  pub item_at : (xs : List X) (i : ℕ) → i < length xs → Item xs i
  item_at [] i inside = absurd (omega arith)
  item_at (x ∷ xs) zero inside = record { item = x; is = refl }
  item_at (x ∷ xs) (suc i) inside = let later = item_at xs i (omega arith)
      in record { item = later.item; is = later.is }

  unmoved : (xs ys : List X) (k i : ℕ) (x : X) → FiltersInPlace p xs ys k i → x ≡ get_or ys i x →
      x ≡ get_or xs i x
  unmoved xs ys k i x front is =
      let e : i + 0 ≡ i = omega arith in
      is ∙ (ap (λ n. get_or ys n x) (sym e)
      ∙ (sym (get_or-drop i ys 0 x)
      ∙ (ap (λ list. get_or list 0 x) front.rest
      ∙ (get_or-drop i xs 0 x ∙ ap (λ n. get_or xs n x) e))))

  pub retain_more : (xs ys zs : List X) (marks : List Bool) (k i : ℕ) (m : Bool) →
      marks ≡ map p xs → FiltersInPlace p xs ys k i → i < length ys
      → m ≡ get_or marks i m → m ≡ true → SwappedAt ys zs k i →
      FiltersInPlace p xs zs (k + 1) (i + 1)
  retain_more xs ys zs marks k i m are front inside read marked swapped =
      let at = item_at ys i inside in
      let long : length ys ≡ length xs = front.long in
      let tells : m ≡ p at.item = mark_is xs marks i at.item m are (omega arith)
      (unmoved xs ys k i at.item front at.is) read in
      FiltersInPlace-more_swap {x = at.item} front inside (sym tells ∙ marked) at.is swapped

  pub retain_same : (xs ys : List X) (marks : List Bool) (k i : ℕ) (m : Bool) → marks ≡ map p xs →
      FiltersInPlace p xs ys k i → i < length ys
      → m ≡ get_or marks i m → m ≡ false → FiltersInPlace p xs ys k (i + 1)
  retain_same xs ys marks k i m are front inside read unmarked =
      let at = item_at ys i inside in
      let long : length ys ≡ length xs = front.long in
      let tells : m ≡ p at.item = mark_is xs marks i at.item m are (omega arith)
      (unmoved xs ys k i at.item front at.is) read in
      FiltersInPlace-more_no {x = at.item} front inside (sym tells ∙ unmarked) at.is
