-- Ways along supertypes: from a class to one above it. What some way leads to, a way without
-- repeats leads to, so that the number of classes is depth enough.
use Rattle.std.proofs.Common.{◌≡◌, refl, sym, subst, ◌∙◌, ℕ, zero, suc, ◌≤◌, Bool, true, false}
use Rattle.std.proofs.Common.{◌||◌, ◌⊎◌, inl, inr, List, [], ◌∷◌, length, arith, Option, Some}
use Rattle.std.proofs.Common.{None}
use Rattle.std.specs.Option.{option_map_or}
use Rattle.std.specs.List.{list_any, AllByRecursion, IsDistinct}
use Rattle.std.specs.Set.{is_member}
use Rattle.std.specs.Cmp.{IsEquivalence, both_ways}
use Rattle.std.proofs.lemmas.Bool.{or_cases, or_left, or_right, false≢true, cases_Bool}
use Rattle.std.proofs.lemmas.Map.Made.{length-le_from_is_member}

-- ---- lists

pub data In {A : Type 0} : A → List A → Type 0 where
  first : {x : A} {xs : List A} → In x (x ∷ xs)
  later : {x y : A} {xs : List A} → In x xs → In x (y ∷ xs)

abbrev pub SomePasses : {A : Type 0} → (A → Bool) → List A → Type 0
SomePasses {A} test xs = (x : A) × In x xs × (test x ≡ true)

pub any_in : {A : Type 0} (test : A → Bool) (xs : List A) → list_any test xs ≡ true →
    SomePasses test xs
any_in test [] e = absurd (false≢true e)
any_in {A = A} test (x ∷ xs) e = by (any_in test xs) (or_cases (test x) (list_any test xs) e)
  where
    by : (list_any test xs ≡ true → SomePasses test xs) →
        (test x ≡ true) ⊎ (list_any test xs ≡ true) → SomePasses test (x ∷ xs)
    by more (inl t) = (x, first, t)
    by more (inr t) = let found = more t in (found.0, later found.1, found.2)

pub in_any : {A : Type 0} (test : A → Bool) (x : A) (xs : List A) → In x xs → test x ≡ true →
    list_any test xs ≡ true
in_any test x [] at t = elim at [ ]
in_any test x (y ∷ ys) first t = or_left (test x) (list_any test ys) t
in_any test x (y ∷ ys) (later at) t = or_right (test y) (list_any test ys) (in_any test x ys at t)

-- none passes, so no one does
pub none_in : {A : Type 0} (test : A → Bool) (x : A) (xs : List A) → list_any test xs ≡ false →
    In x xs → test x ≡ true → ⊥
none_in test x xs none at t = false≢true (sym none ∙ in_any test x xs at t)

pub all_fail : {A : Type 0} (test : A → Bool) (xs : List A) → list_any test xs ≡ false →
    AllByRecursion (λ x. test x ≡ false) xs
all_fail test [] none = tt
all_fail test (x ∷ xs) none =
    by (all_fail test xs) (cases_Bool (test x)) (cases_Bool (list_any test xs))
  where
    by : (list_any test xs ≡ false → AllByRecursion (λ y. test y ≡ false) xs) →
        (test x ≡ true) ⊎ (test x ≡ false) →
        (list_any test xs ≡ true) ⊎ (list_any test xs ≡ false) →
        (test x ≡ false) × AllByRecursion (λ y. test y ≡ false) xs
    by more (inl t) u = absurd (false≢true (sym none ∙ or_left (test x) (list_any test xs) t))
    by more (inr t) (inl u) =
        absurd (false≢true (sym none ∙ or_right (test x) (list_any test xs) u))
    by more (inr t) (inr u) = (t, more u)

-- ---- ways

module _ {Name Class : Type 0} (look : Name → Option Class) (above : Class → List Name) where
  -- from a name to another, by these names, each of which has a class
  pub data Way : Name → List Name → Name → Type 0 where
    here : {a : Name} {c : Class} → look a ≡ Some c → Way a (a ∷ []) a
    along : {a b s : Name} {names : List Name} {c : Class} → look a ≡ Some c → In s (above c) →
        Way s names b → Way a (a ∷ names) b

  pub joins : (a b c : Name) (xs ys : List Name) → Way a xs b → Way b ys c →
      (zs : List Name) × Way a zs c
  joins a b c [] ys v w = elim v [ ]
  joins a b c (x ∷ []) ys (here e) w = (ys, w)
  joins a b c (x ∷ xs) ys (along {s = s} e at v) w =
      let rest = joins s b c xs ys v w in
      (a ∷ rest.0, along e at rest.1)

  abbrev pub IsThere : Name → Type 0
  IsThere a = (c : Class) × (look a ≡ Some c)

  pub way_there : (a b x : Name) (names : List Name) → Way a names b → In x names → IsThere x
  way_there a b x [] w at = elim w [ ]
  way_there a b x (y ∷ []) (here {c = c} e) first = (c, e)
  way_there a b x (y ∷ []) (here e) (later at) = elim at [ ]
  way_there a b x (y ∷ names) (along {c = c} e at w) first = (c, e)
  way_there a b x (y ∷ names) (along {s = s} e at w) (later more) = way_there s b x names w more

  module _ (same : Name → Name → Bool) where
    -- whether a way of so many classes leads from one to another
    unfoldable pub leads_at : ℕ → Name → Name → Bool
    leads_at zero a b = false
    leads_at (suc depth) a b =
        option_map_or (λ c. same a b || list_any (λ s. leads_at depth s b) (above c)) (look a)
        false

    module _ (means : (a b : Name) → same a b ≡ true → a ≡ b) where
      abbrev pub ShortWay : ℕ → Name → Name → Type 0
      ShortWay depth a b = (names : List Name) × Way a names b × (length names ≤ depth)

      pub way_of : (depth : ℕ) (a b : Name) → leads_at depth a b ≡ true → ShortWay depth a b
      unfolding leads_at
      way_of zero a b e = absurd (false≢true e)
      way_of (suc depth) a b e = by (look a) refl (λ s. way_of depth s b) e
        where
          through : (c : Class) → look a ≡ Some c →
              ((s : Name) → leads_at depth s b ≡ true → ShortWay depth s b) →
              (same a b ≡ true) ⊎ (list_any (λ s. leads_at depth s b) (above c) ≡ true) →
              ShortWay (suc depth) a b
          through c is more (inl t) =
              (a ∷ [], subst (λ x. Way a (a ∷ []) x) (means a b t) (here is), omega arith)
          through c is more (inr t) =
              let found = any_in (λ s. leads_at depth s b) (above c) t in
              let rest : ShortWay depth found.0 b = more found.0 found.2 in
              let fits : length rest.0 ≤ depth = rest.2 in
              (a ∷ rest.0, along is found.1 rest.1, omega arith)

          by : (o : Option Class) → look a ≡ o →
              ((s : Name) → leads_at depth s b ≡ true → ShortWay depth s b) →
              option_map_or (λ c. same a b || list_any (λ s. leads_at depth s b) (above c)) o false
              ≡ true → ShortWay (suc depth) a b
          by None is more t = absurd (false≢true t)
          by (Some c) is more t =
              through c is more
              (or_cases (same a b) (list_any (λ s. leads_at depth s b) (above c)) t)

    module _ (laws : IsEquivalence same) where
      pub way_leads : (a b : Name) (names : List Name) → Way a names b → (depth : ℕ) →
          length names ≤ depth → leads_at depth a b ≡ true
      unfolding leads_at
      way_leads a b [] w depth fits = elim w [ ]
      way_leads a b (y ∷ []) (here e) zero fits = absurd (omega arith)
      way_leads a b (y ∷ names) (along e at w) zero fits = absurd (omega arith)
      way_leads a b (y ∷ []) (here {c = c} e) (suc depth) fits = starts
        where
          starts : leads_at (suc depth) a a ≡ true
          starts =
              subst (λ o. option_map_or
              (λ d. same a a || list_any (λ s. leads_at depth s a) (above d)) o false ≡ true)
              (sym e) (or_left (same a a) (list_any (λ s. leads_at depth s a) (above c))
              (laws.refl a))
      way_leads a b (y ∷ names) (along {s = s} {c = c} e at w) (suc depth) fits =
          goes (way_leads s b names w depth (omega arith))
        where
          goes : leads_at depth s b ≡ true → leads_at (suc depth) a b ≡ true
          goes t =
              subst (λ o. option_map_or
              (λ d. same a b || list_any (λ x. leads_at depth x b) (above d)) o false ≡ true)
              (sym e) (or_right (same a b) (list_any (λ x. leads_at depth x b) (above c))
              (in_any (λ x. leads_at depth x b) s (above c) at t))

      module _ (means : (a b : Name) → same a b ≡ true → a ≡ b) where
        abbrev pub PlainWay : Name → Name → Type 0
        PlainWay a b = (names : List Name) × Way a names b × IsDistinct same names

        -- the way's end behind a name on it
        behind : (a b x : Name) (names : List Name) → Way a names b → IsDistinct same names →
            In x names → PlainWay x b
        unfolding IsDistinct
        behind a b x [] w distinct at = elim w [ ]
        behind a b x (y ∷ []) (here e) distinct first = (a ∷ [], here e, distinct)
        behind a b x (y ∷ []) (here e) distinct (later at) = elim at [ ]
        behind a b x (y ∷ names) (along e at w) distinct first =
            (a ∷ names, along e at w, distinct)
        behind a b x (y ∷ names) (along {s = s} e at w) distinct (later more) =
            behind s b x names w distinct.1 more

        pub plain : (a b : Name) (names : List Name) → Way a names b → PlainWay a b
        unfolding IsDistinct
        plain a b [] w = elim w [ ]
        plain a b (y ∷ []) (here e) = (a ∷ [], here e, (tt, tt))
        plain a b (y ∷ names) (along {s = s} e at w) = by (plain s b names w)
          where
            met : (rest : PlainWay s b) → (x : Name) × In x rest.0 × (same a x ≡ true) →
                PlainWay a b
            met rest found =
                subst (λ x. PlainWay x b) (sym (means a found.0 found.2))
                (behind s b found.0 rest.0 rest.1 rest.2 found.1)

            by : PlainWay s b → PlainWay a b
            by rest = elim (cases_Bool (list_any (same a) rest.0)) [
              | inl t ↦ met rest (any_in (same a) rest.0 t)
              | inr t ↦ (a ∷ rest.0, along e at rest.1, (all_fail (same a) rest.0 t, rest.2))
            ]

        module _ (names : List Name)
            (listed : (a : Name) → IsThere a → is_member same names a ≡ true) where
          -- a way without repeats has at most as many classes as there are
          pub plain_fits : (a b : Name) (way : PlainWay a b) → length way.0 ≤ length names
          plain_fits a b way =
              length-le_from_is_member laws way.0 names way.2
              (λ q t. here_too q (any_in (same q) way.0 t))
            where
              here_too : (q : Name) → (x : Name) × In x way.0 × (same q x ≡ true) →
                  is_member same names q ≡ true
              here_too q found =
                  listed q
                  (subst IsThere (sym (means q found.0 found.2))
                  (way_there a b found.0 way.0 way.1 found.1))

          pub leads_by_way : (a b : Name) (xs : List Name) → Way a xs b → (depth : ℕ) →
              length names ≤ depth → leads_at depth a b ≡ true
          leads_by_way a b xs way depth enough =
              let short = plain a b xs way in
              let fits : length short.0 ≤ length names = plain_fits a b short in
              way_leads a b short.0 short.1 depth (omega arith)

          -- beyond the number of classes nothing more is met, also in rings
          pub leads_steadily : (a b : Name) (depth : ℕ) → length names ≤ depth →
              leads_at depth a b ≡ leads_at (length names) a b
          leads_steadily a b depth enough =
              both_ways (leads_at depth a b) (leads_at (length names) a b)
              (λ t. let way =
              way_of means depth a b t in leads_by_way a b way.0 way.1 (length names)
              (omega arith))
              (λ t. let way =
              way_of means (length names) a b t in leads_by_way a b way.0 way.1 depth enough)

          pub leads_onward : (a b c : Name) → leads_at (length names) a b ≡ true →
              leads_at (length names) b c ≡ true → leads_at (length names) a c ≡ true
          leads_onward a b c t u =
              let v = way_of means (length names) a b t in
              let w = way_of means (length names) b c u in
              let all = joins a b c v.0 w.0 v.1 w.1 in
              leads_by_way a c all.0 all.1 (length names) (omega arith)
