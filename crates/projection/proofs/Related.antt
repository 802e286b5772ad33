-- Lists whose items are related one by one, and what is made of them.
use Rattle.std.proofs.Common.{◌≡◌, refl, ap, subst, Bool, true, false, cond, not, ◌||◌, List}
use Rattle.std.proofs.Common.{[], ◌∷◌, ◌++◌, Option, Some, None, filter, flat_map}
use Rattle.std.specs.List.{list_any, AllByRecursion}
use Rattle.class_desc.specs.Layout.{firsts}
use Rattle.class_views.specs.Alike.{Both, Each}

abbrev pub Equal : {A : Type 0} → A → A → Type 0
Equal x y = x ≡ y

pub both_equal : {A : Type 0} (o p : Option A) → Both Equal o p → o ≡ p
both_equal None None both = refl
both_equal (Some x) (Some y) both = ap Some both
both_equal None (Some y) both = absurd both
both_equal (Some x) None both = absurd both

pub each_equal : {A : Type 0} (xs ys : List A) → Each Equal xs ys → xs ≡ ys
each_equal [] [] each = refl
each_equal (x ∷ xs) (y ∷ ys) each = λ i. each.0 i ∷ each_equal xs ys each.1 i
each_equal [] (y ∷ ys) each = absurd each
each_equal (x ∷ xs) [] each = absurd each

-- what is related is related otherwise too
pub both_more : {X Y : Type 0} {R S : X → Y → Type 0} (o : Option X) (p : Option Y) →
    ((x : X) (y : Y) → o ≡ Some x → R x y → S x y) → Both R o p → Both S o p
both_more None None more both = tt
both_more (Some x) (Some y) more both = more x y refl both
both_more None (Some y) more both = absurd both
both_more (Some x) None more both = absurd both

-- two tests that agree where something holds
pub any_where : {A : Type 0} (Holds : A → Type 0) (test other : A → Bool) →
    ((x : A) → Holds x → test x ≡ other x) → (xs : List A) → AllByRecursion Holds xs →
    list_any test xs ≡ list_any other xs
any_where Holds test other agree [] all = refl
any_where Holds test other agree (x ∷ xs) all =
    λ i. agree x all.0 i || any_where Holds test other agree xs all.1 i

pub data Pairs {X Y : Type 0} (Related : X → Y → Type 0) : List X → List Y → Type 0 where
  no_pair : Pairs Related [] []
  pair : {x : X} {y : Y} {xs : List X} {ys : List Y} → Related x y → Pairs Related xs ys →
      Pairs Related (x ∷ xs) (y ∷ ys)

module _ {X Y : Type 0} {Related : X → Y → Type 0} where
  pub pairs_of : (xs : List X) (ys : List Y) → Each Related xs ys → Pairs Related xs ys
  pairs_of [] [] each = no_pair
  pairs_of (x ∷ xs) (y ∷ ys) each = pair each.0 (pairs_of xs ys each.1)
  pairs_of [] (y ∷ ys) each = absurd each
  pairs_of (x ∷ xs) [] each = absurd each

  pub any_of_pairs : {xs : List X} {ys : List Y} (test : X → Bool) (other : Y → Bool) →
      ((x : X) (y : Y) → Related x y → test x ≡ other y) → Pairs Related xs ys →
      list_any test xs ≡ list_any other ys
  any_of_pairs test other agree no_pair = refl
  any_of_pairs test other agree (pair {x = x} {y = y} one rest) =
      λ i. agree x y one i || any_of_pairs test other agree rest i

  pub flat_pairs : {Z : Type 0} {xs : List X} {ys : List Y} (f : X → List Z) (g : Y → List Z) →
      ((x : X) (y : Y) → Related x y → f x ≡ g y) → Pairs Related xs ys →
      flat_map f xs ≡ flat_map g ys
  flat_pairs f g agree no_pair = refl
  flat_pairs f g agree (pair {x = x} {y = y} one rest) =
      λ i. agree x y one i ++ flat_pairs f g agree rest i

  pub filter_pairs : {xs : List X} {ys : List Y} (test : X → Bool) (other : Y → Bool) →
      ((x : X) (y : Y) → Related x y → test x ≡ other y) → Pairs Related xs ys →
      Pairs Related (filter test xs) (filter other ys)
  filter_pairs test other agree no_pair = no_pair
  filter_pairs test other agree (pair {x = x} {y = y} {xs = xs} {ys = ys} one rest) =
      subst (λ b. Pairs Related (cond (test x) (x ∷ filter test xs) (filter test xs))
      (cond b (y ∷ filter other ys) (filter other ys))) (agree x y one)
      (by (test x) (filter_pairs test other agree rest))
    where
      by : (b : Bool) → Pairs Related (filter test xs) (filter other ys) →
          Pairs Related (cond b (x ∷ filter test xs) (filter test xs))
          (cond b (y ∷ filter other ys) (filter other ys))
      by true more = pair one more
      by false more = more

  pub firsts_of_pairs : {xs : List X} {ys : List Y} (same : X → X → Bool)
      (other : Y → Y → Bool) →
      ((x : X) (y : Y) (u : X) (v : Y) → Related x y → Related u v → same x u ≡ other y v) →
      Pairs Related xs ys → Pairs Related (firsts same xs) (firsts other ys)
  firsts_of_pairs same other agree no_pair = no_pair
  firsts_of_pairs same other agree (pair {x = x} {y = y} one rest) =
      pair one
      (filter_pairs (λ u. not (same x u)) (λ v. not (other y v))
      (λ u v two. ap not (agree x y u v one two)) (firsts_of_pairs same other agree rest))
