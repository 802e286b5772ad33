-- What is among needs is among the first ones of equal needs too.
use Rattle.std.proofs.Common.{◌≡◌, ℕ, ◌==◌, arith, Bool, true, false, cond, not, ◌||◌, ◌&&◌, List}
use Rattle.std.proofs.Common.{[], ◌∷◌, ◌++◌, refl, sym, ap, ◌∙◌}
use Rattle.std.specs.Prelude.{filter}
use Rattle.std.specs.List.{list_any, AllByRecursion}
use Rattle.std.proofs.lemmas.Bool.Decides.{nat_tests}
use Rattle.std.proofs.lemmas.List.Folds.{list_any-append}
use Rattle.class_desc.specs.declared.constant_kind.NumberKind.{NumberKind}
use Rattle.class_desc.specs.declared.constant_kind.NumberKind.TheVariants.{Integer, Float, Long}
use Rattle.class_desc.specs.declared.constant_kind.NumberKind.TheVariants.{Double}
use Rattle.class_desc.specs.Layout.{Need, TextNeed}
use Rattle.class_desc.specs.Layout.{ClassNeed, StringNeed, NumberNeed, is_need, number_tag, firsts}
use lib.Pointwise.{bytes_decides}
use Rattle.class_writer.proofs.Equivalences.{needs_equiv}

-- the need is among these
abbrev pub IsIn : Need → List Need → Type 0
IsIn need needs = list_any (is_need need) needs ≡ true

or_left : (a b : Bool) → a ≡ true → (a || b) ≡ true
or_left true b h = refl
or_left false b h = absurd (cc)

or_right : (a b : Bool) → b ≡ true → (a || b) ≡ true
or_right true b h = refl
or_right false b h = h

pub in_head : (need : Need) (needs : List Need) → IsIn need (need ∷ needs)
in_head need needs = or_left (is_need need need) (list_any (is_need need) needs)
    (needs_equiv.refl need)

pub in_tail : (need other : Need) (needs : List Need) → IsIn need needs → IsIn need (other ∷ needs)
in_tail need other needs = or_right (is_need need other) (list_any (is_need need) needs)

pub in_left : (need : Need) (front rest : List Need) → IsIn need front → IsIn need (front ++ rest)
in_left need front rest h = list_any-append (is_need need) front rest
    ∙ or_left (list_any (is_need need) front) (list_any (is_need need) rest) h

pub in_right : (need : Need) (front rest : List Need) → IsIn need rest → IsIn need (front ++ rest)
in_right need front rest h = list_any-append (is_need need) front rest
    ∙ or_right (list_any (is_need need) front) (list_any (is_need need) rest) h

-- needs are in each list that has all of them
pub all_in : (these all : List Need) → ((need : Need) → IsIn need these → IsIn need all)
    → AllByRecursion (λ need. IsIn need all) these
all_in [] all within = tt
all_in (need ∷ these) all within = (
  within need (in_head need these),
  all_in these all (λ n h. within n (in_tail n need these h)),
)

-- ---- equal needs are the same

both_true : (a b : Bool) → (a && b) ≡ true → (a ≡ true) × (b ≡ true)
both_true true b h = (refl, h)
both_true false b h = absurd (let e : false ≡ true = h in cc)

same_number : (a b : ℕ) → (a == b) ≡ true → b ≡ a
same_number a b h = grind (arith, nat_tests)

same_kind : (k l : NumberKind) → number_tag k ≡ number_tag l → l ≡ k
same_kind Integer Integer h = refl
same_kind Float Float h = refl
same_kind Long Long h = refl
same_kind Double Double h = refl
same_kind _ _ h = absurd (omega (arith, h))

pub need_is : (a b : Need) → is_need a b ≡ true → b ≡ a
need_is (TextNeed a) (TextNeed b) h = ap TextNeed (sym ((bytes_decides a b).0 h))
need_is (ClassNeed a) (ClassNeed b) h = ap ClassNeed (sym ((bytes_decides a b).0 h))
need_is (StringNeed a) (StringNeed b) h = ap StringNeed (sym ((bytes_decides a b).0 h))
need_is (NumberNeed k a) (NumberNeed l b) h =
    let both = both_true (number_tag k == number_tag l) (a == b) h in
    ap (λ kind. NumberNeed kind b)
    (same_kind k l (sym (same_number (number_tag k) (number_tag l) both.0)))
    ∙ ap (NumberNeed k) (same_number a b both.1)
need_is _ _ h = absurd (let e : false ≡ true = h in cc)

-- ---- of equal needs the first

pub in_filter : (need : Need) (keeps : Need → Bool)
    → ((y : Need) → is_need need y ≡ true → keeps y ≡ true) → (ys : List Need)
    → list_any (is_need need) (filter keeps ys) ≡ list_any (is_need need) ys
in_filter need keeps h [] = refl
in_filter need keeps h (y ∷ ys) = by (keeps y) refl (is_need need y) refl
    (in_filter need keeps h ys)
  where
    by : (k : Bool) → keeps y ≡ k → (b : Bool) → is_need need y ≡ b
        → list_any (is_need need) (filter keeps ys) ≡ list_any (is_need need) ys
        → list_any (is_need need) (filter keeps (y ∷ ys)) ≡ list_any (is_need need) (y ∷ ys)
    by true kept b is rest = ap (λ k. list_any (is_need need)
        (cond k (y ∷ filter keeps ys) (filter keeps ys))) kept ∙ ap (λ t. is_need need y || t) rest
    by false dropped true is rest = absurd (let e : keeps y ≡ true = h y is in cc)
    by false dropped false is rest = ap
        (λ k. list_any (is_need need) (cond k (y ∷ filter keeps ys) (filter keeps ys))) dropped
        ∙ rest ∙ sym (ap (λ b. b || list_any (is_need need) ys) is)

-- the firsts that aren't the same as one before them
abbrev others : Need → List Need → List Need
others x xs = filter (λ other. not (is_need x other)) (firsts is_need xs)

-- the firsts of needs have the same needs
pub in_firsts : (need : Need) (needs : List Need)
    → list_any (is_need need) (firsts is_need needs) ≡ list_any (is_need need) needs
in_firsts need [] = refl
in_firsts need (x ∷ xs) = by (is_need need x) refl (in_firsts need xs)
  where
    by : (b : Bool) → is_need need x ≡ b
        → list_any (is_need need) (firsts is_need xs) ≡ list_any (is_need need) xs
        → (is_need need x || list_any (is_need need) (others x xs))
        ≡ (is_need need x || list_any (is_need need) xs)
    by true same rest = ap (λ b. b || list_any (is_need need) (others x xs)) same
        ∙ sym (ap (λ b. b || list_any (is_need need) xs) same)
    by false differs rest =
        ap (λ t. is_need need x || t)
        (in_filter need (λ other. not (is_need x other))
        (λ y h. ap not (needs_equiv.symm x y ∙ sym (needs_equiv.congr need y x h) ∙ differs))
        (firsts is_need xs) ∙ rest)

module _ {A : Type 0} (Holds : A → Type 0) where
  pub all_filter : (keeps : A → Bool) (xs : List A) → AllByRecursion Holds xs
      → AllByRecursion Holds (filter keeps xs)
  all_filter keeps [] all = tt
  all_filter keeps (x ∷ xs) all = by (keeps x) (all_filter keeps xs all.1)
    where
      by : (b : Bool) → AllByRecursion Holds (filter keeps xs)
          → AllByRecursion Holds (cond b (x ∷ filter keeps xs) (filter keeps xs))
      by true rest = (all.0, rest)
      by false rest = rest

  pub all_firsts : (same : A → A → Bool) (xs : List A) → AllByRecursion Holds xs
      → AllByRecursion Holds (firsts same xs)
  all_firsts same [] all = tt
  all_firsts same (x ∷ xs) all =
      (all.0, all_filter (λ other. not (same x other)) (firsts same xs) (all_firsts same xs all.1))
