-- What a filter keeps, and what lies above one class.
use Rattle.std.proofs.Common.{◌≡◌, refl, ap, sym, subst, ◌∙◌, ℕ, zero, suc, ◌+◌, ◌<◌, ◌≤◌, Bool}
use Rattle.std.proofs.Common.{true, false, cond, List, [], ◌∷◌, ◌++◌, length, take, get_or, arith}
use Rattle.std.proofs.Common.{Option, Some, None}
use Rattle.std.specs.Prelude.{Contains, filter, slice_get, option_and_then, is_some}
use Rattle.std.proofs.lemmas.Option.{slice_get_within}
use Rattle.std.proofs.lemmas.List.Elements.{All-contains, All-filter, All-contains_itself}
use Rattle.std.proofs.lemmas.List.Elements.{filter_passes, filter_more, Contains-append_left}
use Rattle.std.proofs.lemmas.List.Elements.{Contains-append_right}
use Rattle.supertypes.specs.Ways.{IsBelow, IsAboveSome}
use Rattle.supertypes.proofs.Marked.{itself, only}
use Rattle.class_views.specs.View.{View, MemberView}
use Rattle.class_views.specs.World.{World}
use Rattle.client_view.specs.Members.{declares}

module _ (test : ℕ → Bool) where
  pub in_filtered : (xs : List ℕ) (k : ℕ) → Contains (filter test xs) k →
      Contains xs k × (test k ≡ true)
  in_filtered xs k here = (
    All-contains (Contains xs) (filter test xs) k
        (All-filter test (Contains xs) xs (All-contains_itself xs)) here,
    All-contains (λ x. test x ≡ true) (filter test xs) k (filter_passes test xs) here,
  )

  pub filtered_in : (xs : List ℕ) (k : ℕ) → Contains xs k → test k ≡ true →
      Contains (filter test xs) k
  filtered_in [] k (i, few, is) t = absurd (omega (arith, few))
  filtered_in (x ∷ xs) k (zero, few, is) t =
      subst (λ (y : ℕ). Contains (cond (test x) (x ∷ filter test xs) (filter test xs)) y) is
      (subst (λ (b : Bool). Contains (cond b (x ∷ filter test xs) (filter test xs)) x)
      (sym (ap test is ∙ t))
      (Contains-append_left (x ∷ []) (filter test xs) x (itself x)))
  filtered_in (x ∷ xs) k (suc i, few, is) t =
      past (test x) (filtered_in xs k (i, omega (arith, few), is) t)
    where
      past : (b : Bool) → Contains (filter test xs) k →
          Contains (cond b (x ∷ filter test xs) (filter test xs)) k
      past true more = Contains-append_right (x ∷ []) (filter test xs) k more
      past false more = more

  pub filtered_short : (xs : List ℕ) → length (filter test xs) ≤ length xs
  filtered_short [] = omega arith
  filtered_short (x ∷ xs) = by (test x) (filtered_short xs)
    where
      by : (b : Bool) → length (filter test xs) ≤ length xs →
          length (cond b (x ∷ filter test xs) (filter test xs)) ≤ length (x ∷ xs)
      by true more = omega (arith, more)
      by false more = omega (arith, more)

  -- one number more
  pub filtered_more : (xs : List ℕ) (i d : ℕ) (old new : List ℕ) → i < length xs →
      old ≡ filter test (take i xs) →
      new ≡ old ++ cond (test (get_or xs i d)) (get_or xs i d ∷ []) [] →
      new ≡ filter test (take (i + 1) xs)
  filtered_more xs i d old new few before made =
      made ∙ ap (λ l. l ++ cond (test (get_or xs i d)) (get_or xs i d ∷ []) []) before
      ∙ sym (filter_more test xs i d few)

-- ---- what lies above one class

pub above_one : (graph : List (List ℕ)) (lower upper : ℕ) →
    IsAboveSome graph (lower ∷ []) upper → IsBelow graph lower upper
above_one graph lower upper (k, here, below) =
    subst (λ (x : ℕ). IsBelow graph x upper) (sym (only lower k here)) below

pub one_above : (graph : List (List ℕ)) (lower upper : ℕ) → IsBelow graph lower upper →
    IsAboveSome graph (lower ∷ []) upper
one_above graph lower upper below = (lower, itself lower, below)

-- what declares something is there
pub declares_small : (world : World) (choice : View → Option MemberView) (k : ℕ) →
    declares world choice k ≡ true → k < length world
declares_small world choice k t = by (slice_get world k) refl t
  where
    by : (o : Option View) → slice_get world k ≡ o →
        is_some (option_and_then choice o) ≡ true → k < length world
    by None e t = absurd cc
    by (Some c) e t = slice_get_within world k c e
