-- Lists without repeats, and lists of which just one item gives something.
use Rattle.std.proofs.Common.{◌≡◌, refl, ap, sym, subst, ◌∙◌, Bool, true, false, cond, not, ◌⊎◌}
use Rattle.std.proofs.Common.{inl}
use Rattle.std.proofs.Common.{inr, List, [], ◌∷◌, Option, Some, None}
use Rattle.std.specs.Prelude.{filter}
use Rattle.std.specs.List.{filter_map, cons_option}
use Rattle.std.proofs.lemmas.Bool.{cases_Bool, false≢true}
use Rattle.class_desc.specs.Layout.{firsts}
use Rattle.class_views.proofs.Ways.{In, first, later}

abbrev pub NoRepeats : {A : Type 0} → List A → Type 0
NoRepeats [] = Unit {0}
NoRepeats (x ∷ xs) = (In x xs → ⊥) × NoRepeats xs

-- ---- filters

module _ {A : Type 0} (test : A → Bool) where
  pub filter_in : (x : A) (xs : List A) → In x (filter test xs) → In x xs × (test x ≡ true)
  filter_in x [] at = elim at [ ]
  filter_in x (y ∷ xs) at = by y (test y) refl (filter_in x xs) at
    where
      by : (z : A) (b : Bool) → test z ≡ b →
          (In x (filter test xs) → In x xs × (test x ≡ true)) →
          In x (cond b (z ∷ filter test xs) (filter test xs)) →
          In x (z ∷ xs) × (test x ≡ true)
      by z true e more first = (first, e)
      by z true e more (later at) = let found = more at in (later found.0, found.1)
      by z false e more at = let found = more at in (later found.0, found.1)

  pub in_filter : (x : A) (xs : List A) → In x xs → test x ≡ true → In x (filter test xs)
  in_filter x [] at t = elim at [ ]
  in_filter x (y ∷ xs) first t =
      subst (λ (b : Bool). In x (cond b (y ∷ filter test xs) (filter test xs))) (sym t) first
  in_filter x (y ∷ xs) (later at) t = past (test y) (in_filter x xs at t)
    where
      past : (b : Bool) → In x (filter test xs) →
          In x (cond b (y ∷ filter test xs) (filter test xs))
      past true more = later more
      past false more = more

  pub filter_once : (xs : List A) → NoRepeats xs → NoRepeats (filter test xs)
  filter_once [] once = tt
  filter_once (y ∷ xs) once = by (test y) (filter_once xs once.1)
    where
      by : (b : Bool) → NoRepeats (filter test xs) →
          NoRepeats (cond b (y ∷ filter test xs) (filter test xs))
      by true more = (λ at. once.0 (filter_in y xs at).0, more)
      by false more = more

-- ---- each item once

module _ {A : Type 0} (same : A → A → Bool) (itself : (x : A) → same x x ≡ true) where
  pub firsts_once : (xs : List A) → NoRepeats (firsts same xs)
  firsts_once [] = tt
  firsts_once (x ∷ xs) = (
    λ at.
        let t = (filter_in (λ y. not (same x y)) x (firsts same xs) at).1 in
        false≢true (sym (ap not (itself x)) ∙ t),
    filter_once (λ y. not (same x y)) (firsts same xs) (firsts_once xs),
  )

  pub firsts_in : (x : A) (xs : List A) → In x (firsts same xs) → In x xs
  firsts_in x [] at = elim at [ ]
  firsts_in x (y ∷ xs) first = first
  firsts_in x (y ∷ xs) (later at) =
      later (firsts_in x xs (filter_in (λ z. not (same y z)) x (firsts same xs) at).0)

  pub in_firsts : (x : A) (xs : List A) →
      ((y z : A) → In y xs → In z xs → same y z ≡ true → y ≡ z) → In x xs →
      In x (firsts same xs)
  in_firsts x [] means at = elim at [ ]
  in_firsts x (y ∷ xs) means first = first
  in_firsts x (y ∷ xs) means (later at) =
      by (cases_Bool (same y x))
      (in_firsts x xs (λ z w zi wi t. means z w (later zi) (later wi) t) at)
    where
      by : (same y x ≡ true) ⊎ (same y x ≡ false) → In x (firsts same xs) →
          In x (firsts same (y ∷ xs))
      by (inl t) more =
          subst (λ (z : A). In z (firsts same (y ∷ xs))) (means y x first (later at) t) first
      by (inr f) more =
          later (in_filter (λ z. not (same y z)) x (firsts same xs) more (ap not f))

-- ---- what items give

-- the value, if it passes
abbrev pub kept : {B : Type 0} → (B → Bool) → Option B → Option B
kept test None = None
kept test (Some y) = cond (test y) (Some y) None

pub filter_given : {A B : Type 0} (test : B → Bool) (give : A → Option B) (xs : List A) →
    filter test (filter_map give xs) ≡ filter_map (λ x. kept test (give x)) xs
filter_given test give [] = refl
filter_given {B = B} test give (x ∷ xs) = by (give x) (filter_given test give xs)
  where
    passed : (b : Bool) (y : B) →
        filter test (filter_map give xs) ≡ filter_map (λ z. kept test (give z)) xs →
        cond b (y ∷ filter test (filter_map give xs)) (filter test (filter_map give xs))
        ≡ cons_option (cond b (Some y) None) (filter_map (λ z. kept test (give z)) xs)
    passed true y more = ap (λ rest. y ∷ rest) more
    passed false y more = more

    by : (o : Option B) →
        filter test (filter_map give xs) ≡ filter_map (λ z. kept test (give z)) xs →
        filter test (cons_option o (filter_map give xs))
        ≡ cons_option (kept test o) (filter_map (λ z. kept test (give z)) xs)
    by None more = more
    by (Some y) more = passed (test y) y more

pub given_filter : {A B : Type 0} (test : A → Bool) (give : A → Option B) (xs : List A) →
    filter_map give (filter test xs) ≡ filter_map (λ x. cond (test x) (give x) None) xs
given_filter test give [] = refl
given_filter test give (x ∷ xs) = by (test x) (given_filter test give xs)
  where
    by : (b : Bool) → filter_map give (filter test xs)
        ≡ filter_map (λ z. cond (test z) (give z) None) xs →
        filter_map give (cond b (x ∷ filter test xs) (filter test xs))
        ≡ cons_option (cond b (give x) None) (filter_map (λ z. cond (test z) (give z) None) xs)
    by true more = ap (cons_option (give x)) more
    by false more = more

module _ {A B : Type 0} (give : A → Option B) where
  pub none_given : (xs : List A) → ((x : A) → In x xs → give x ≡ None) →
      filter_map give xs ≡ []
  none_given [] all = refl
  none_given (x ∷ xs) all =
      ap (λ o. cons_option o (filter_map give xs)) (all x first)
      ∙ none_given xs (λ y at. all y (later at))

  pub sole_given : (c : A) (d : B) (xs : List A) → NoRepeats xs → In c xs → give c ≡ Some d →
      ((x : A) → In x xs → (give x ≡ None) ⊎ (x ≡ c)) → filter_map give xs ≡ d ∷ []
  sole_given c d [] once at e others = elim at [ ]
  sole_given c d (y ∷ xs) once first e others =
      ap (λ o. cons_option o (filter_map give xs)) e
      ∙ ap (λ rest. d ∷ rest) (none_given xs (λ x at. gives x at (others x (later at))))
    where
      gives : (x : A) → In x xs → (give x ≡ None) ⊎ (x ≡ c) → give x ≡ None
      gives x at (inl none) = none
      gives x at (inr is) = absurd (once.0 (subst (λ (y : A). In y xs) is at))
  sole_given c d (y ∷ xs) once (later at) e others =
      ap (λ o. cons_option o (filter_map give xs)) (gives (others y first))
      ∙ sole_given c d xs once.1 at e (λ x there. others x (later there))
    where
      gives : (give y ≡ None) ⊎ (y ≡ c) → give y ≡ None
      gives (inl none) = none
      gives (inr is) = absurd (once.0 (subst (λ (x : A). In x xs) (sym is) at))

  pub record GivesSome (xs : List A) : Type 0 where
    pub one : B
    pub rest : List B
    pub is : filter_map give xs ≡ one ∷ rest

  some_given : (c : A) (d : B) (xs : List A) → In c xs → give c ≡ Some d → GivesSome xs
  some_given c d [] at e = elim at [ ]
  some_given c d (y ∷ xs) first e = record {
    one = d;
    rest = filter_map give xs;
    is = ap (λ o. cons_option o (filter_map give xs)) e;
  }
  some_given c d (y ∷ xs) (later at) e = by (give y) refl (some_given c d xs at e)
    where
      by : (o : Option B) → give y ≡ o → GivesSome xs → GivesSome (y ∷ xs)
      by None f more = record {
        one = more.one;
        rest = more.rest;
        is = ap (λ o. cons_option o (filter_map give xs)) f ∙ more.is;
      }
      by (Some z) f more = record {
        one = z;
        rest = filter_map give xs;
        is = ap (λ o. cons_option o (filter_map give xs)) f;
      }

  pub record GivesTwo (xs : List A) : Type 0 where
    pub one : B
    pub other : B
    pub rest : List B
    pub is : filter_map give xs ≡ one ∷ other ∷ rest

  head_two : (y : A) (d : B) (xs : List A) → give y ≡ Some d → GivesSome xs → GivesTwo (y ∷ xs)
  head_two y d xs e more = record {
    one = d;
    other = more.one;
    rest = more.rest;
    is = ap (λ o. cons_option o (filter_map give xs)) e ∙ ap (λ rest. d ∷ rest) more.is;
  }

  tail_two : (y : A) (xs : List A) → GivesTwo xs → GivesTwo (y ∷ xs)
  tail_two y xs more = by (give y) refl
    where
      by : (o : Option B) → give y ≡ o → GivesTwo (y ∷ xs)
      by None f = record {
        one = more.one;
        other = more.other;
        rest = more.rest;
        is = ap (λ o. cons_option o (filter_map give xs)) f ∙ more.is;
      }
      by (Some z) f = record {
        one = z;
        other = more.one;
        rest = more.other ∷ more.rest;
        is = ap (λ o. cons_option o (filter_map give xs)) f ∙ ap (λ rest. z ∷ rest) more.is;
      }

  pub two_given : (c e : A) (d f : B) (xs : List A) → (c ≡ e → ⊥) → In c xs → In e xs →
      give c ≡ Some d → give e ≡ Some f → GivesTwo xs
  two_given c e d f [] differ at there gc ge = elim at [ ]
  two_given c e d f (y ∷ xs) differ first first gc ge = absurd (differ refl)
  two_given c e d f (y ∷ xs) differ first (later there) gc ge =
      head_two c d xs gc (some_given e f xs there ge)
  two_given c e d f (y ∷ xs) differ (later at) first gc ge =
      head_two e f xs ge (some_given c d xs at gc)
  two_given c e d f (y ∷ xs) differ (later at) (later there) gc ge =
      tail_two y xs (two_given c e d f xs differ at there gc ge)
