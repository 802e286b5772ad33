-- What stays after as many rounds as there are items is the least set: each round that changes
-- something adds an item.
use Rattle.std.proofs.Common.{◌≡◌, ℕ, zero, suc, ◌≤◌, arith, Bool, true, false, cond, ◌||◌, List}
use Rattle.std.proofs.Common.{[], ◌∷◌, length, refl, ap, ◌∙◌, sym, ◌⊎◌, inl, inr}
use Rattle.std.specs.Prelude.{filter, Contains}
use Rattle.std.specs.List.{list_any, All}
use Rattle.std.proofs.lemmas.List.Elements.{All-nil, All-cons, All-weaker, All-contains}
use Rattle.std.proofs.lemmas.List.Elements.{Contains-append_left, Contains-append_right}
use Rattle.std.proofs.lemmas.List.Elements.{Contains-push}
use Rattle.std.proofs.lemmas.Bool.{cases_lt}
use Rattle.class_views.proofs.Filtered.{few_stay}
use Rattle.class_views.specs.Staying.{stays_beside, staying_after, stays_in, IsClosed, IsLeast}

-- ---- filters by a test and by a wider one

module _ {A : Type 0} where
  pub contains_first : (x : A) (xs : List A) → Contains (x ∷ xs) x
  contains_first x xs = Contains-append_left (x ∷ []) xs x (Contains-push [] x)

  pub contains_later : (x : A) (xs : List A) (y : A) → Contains xs y → Contains (x ∷ xs) y
  contains_later x xs y has = Contains-append_right (x ∷ []) xs y has

module _ {A : Type 0} (p q : A → Bool) (wider : (x : A) → p x ≡ true → q x ≡ true) where
  pub any_wider : (xs : List A) → list_any p xs ≡ true → list_any q xs ≡ true
  any_wider [] any = any
  any_wider (x ∷ xs) any = by (p x) (q x) (wider x) (any_wider xs) any
    where
      by : (a b : Bool) → (a ≡ true → b ≡ true) → (list_any p xs ≡ true → list_any q xs ≡ true)
          → (a || list_any p xs) ≡ true → (b || list_any q xs) ≡ true
      by true b head tail any = rw (head refl) refl
      by false true head tail any = refl
      by false false head tail any = tail any

  pub no_longer : (xs : List A) → length (filter p xs) ≤ length (filter q xs)
  no_longer [] = omega arith
  no_longer (x ∷ xs) = by (p x) (q x) (wider x) (no_longer xs)
    where
      by : (a b : Bool) → (a ≡ true → b ≡ true) → length (filter p xs) ≤ length (filter q xs)
          → length (cond a (x ∷ filter p xs) (filter p xs)) ≤ length
          (cond b (x ∷ filter q xs) (filter q xs))
      by true true head tail = omega arith
      by true false head tail = let e : false ≡ true = head refl in cc
      by false true head tail = omega arith
      by false false head tail = tail

  -- of the same length they are the same
  as_long : (xs : List A) → length (filter q xs) ≤ length (filter p xs) → filter p xs ≡ filter q xs
  as_long [] level = refl
  as_long (x ∷ xs) level = by (p x) (q x) (wider x) (as_long xs) (no_longer xs) level
    where
      by : (a b : Bool) → (a ≡ true → b ≡ true)
          → (length (filter q xs) ≤ length (filter p xs) → filter p xs ≡ filter q xs)
          → length (filter p xs) ≤ length (filter q xs)
          → length (cond b (x ∷ filter q xs) (filter q xs)) ≤ length
          (cond a (x ∷ filter p xs) (filter p xs))
          → cond a (x ∷ filter p xs) (filter p xs) ≡ cond b (x ∷ filter q xs) (filter q xs)
      by true true head tail few level = ap (λ rest. x ∷ rest) (tail (omega arith))
      by true false head tail few level = let e : false ≡ true = head refl in cc
      by false true head tail few level = absurd (omega arith)
      by false false head tail few level = tail level

module _ {A : Type 0} (t p : A → Bool) where
  Found : List A → A → Type 0
  Found xs x = t x ≡ true → p x ≡ true → list_any p (filter t xs) ≡ true

  each_found : (xs : List A) → All (Found xs) xs
  unfolding Found
  each_found [] = All-nil (Found [])
  each_found (x ∷ xs) =
      All-cons (Found (x ∷ xs)) x xs (here (t x))
      (All-weaker (Found xs) (Found (x ∷ xs))
      (λ y found tests passes. later (t x) (found tests passes)) xs (each_found xs))
    where
      here : (a : Bool) → a ≡ true → p x ≡ true →
          list_any p (cond a (x ∷ filter t xs) (filter t xs)) ≡ true
      here true is passes = rw passes refl
      here false is passes = cc

      later : (a : Bool) → list_any p (filter t xs) ≡ true →
          list_any p (cond a (x ∷ filter t xs) (filter t xs)) ≡ true
      later true any = either (p x) any
        where
          either : (b : Bool) → list_any p (filter t xs) ≡ true → (b || list_any p (filter t xs))
              ≡ true
          either true any = refl
          either false any = any
      later false any = any

  pub any_kept : (xs : List A) (x : A) → Contains xs x → t x ≡ true → p x ≡ true →
      list_any p (filter t xs) ≡ true
  unfolding Found
  any_kept xs x has = All-contains (Found xs) xs x (each_found xs) has

  -- who passes both tests
  pub record Passes (xs : List A) : Type 0 where
    pub item : A
    pub is_there : Contains xs item
    pub tests : t item ≡ true
    pub passes : p item ≡ true

  pub who_passes : (xs : List A) → list_any p (filter t xs) ≡ true → Passes xs
  who_passes [] any = cc
  who_passes (x ∷ xs) any = by (who_passes xs) (t x) refl any
    where
      rest : Passes xs → Passes (x ∷ xs)
      rest found = record {
        item = found.item;
        is_there =
            contains_later x xs found.item found.is_there;
        tests = found.tests;
        passes =
            found.passes;
      }

      first : (list_any p (filter t xs) ≡ true → Passes xs) → (b : Bool) → p x ≡ b → t x ≡ true →
          (b || list_any p (filter t xs)) ≡ true → Passes (x ∷ xs)
      first others true passes tests any =
          record { item = x; is_there = contains_first x xs; tests = tests; passes = passes }
      first others false passes tests any = rest (others any)

      by : (list_any p (filter t xs) ≡ true → Passes xs) → (a : Bool) → t x ≡ a →
          list_any p (cond a (x ∷ filter t xs) (filter t xs)) ≡ true → Passes (x ∷ xs)
      by others true tests any = first others (p x) refl tests any
      by others false tests any = rest (others any)

-- ---- rounds

module _ {A : Type 0} (begins : A → Bool) (names : A → A → Bool) (items : List A) where
  after : ℕ → List A
  after rounds = staying_after begins names items rounds

  stays : ℕ → A → Bool
  stays rounds = stays_beside begins names (after rounds)

  round : (rounds : ℕ) → after (suc rounds) ≡ filter (stays rounds) items
  unfolding after stays staying_after
  round rounds = refl

  -- what one round more leaves has what a round leaves
  more : (rounds : ℕ) (x : A) → stays rounds x ≡ true → stays (suc rounds) x ≡ true
  unfolding after stays staying_after
  more zero x is = by (begins x) is
    where
      by : (a : Bool) → (a || false) ≡ true →
          (a || list_any (λ one. names one x) (filter (stays_beside begins names []) items)) ≡ true
      by true is = refl
      by false is = cc
  more (suc rounds) x is = by (more rounds) (begins x) is
    where
      wide : ((y : A) → stays rounds y ≡ true → stays (suc rounds) y ≡ true) →
          list_any (λ one. names one x) (filter (stays rounds) items) ≡ true →
          list_any (λ one. names one x) (filter (stays (suc rounds)) items) ≡ true
      wide before any =
          let w = who_passes (stays rounds) (λ one. names one x) items any in
          any_kept (stays (suc rounds)) (λ one. names one x) items w.item w.is_there
          (before w.item w.tests) w.passes

      by : ((y : A) → stays rounds y ≡ true → stays (suc rounds) y ≡ true) → (a : Bool) →
          (a || list_any (λ one. names one x) (filter (stays rounds) items)) ≡ true →
          (a || list_any (λ one. names one x) (filter (stays (suc rounds)) items)) ≡ true
      by before true is = refl
      by before false is = wide before is

  empty_or : (xs : List A) → (xs ≡ []) ⊎ (1 ≤ length xs)
  empty_or [] = inl refl
  empty_or (x ∷ xs) = inr (omega arith)

  -- either a round has changed nothing, or there are as many items as rounds
  Settles : ℕ → Type 0
  Settles rounds = (after (suc rounds) ≡ after rounds) ⊎ (suc rounds ≤ length (after (suc rounds)))

  same_again : (rounds : ℕ) → after (suc rounds) ≡ after rounds → after (suc (suc rounds))
      ≡ after (suc rounds)
  unfolding stays
  same_again rounds same =
      round (suc rounds) ∙ (ap (λ left. filter (stays_beside begins names left) items) same
      ∙ sym (round rounds))

  grows : (rounds : ℕ) → suc rounds ≤ length (after (suc rounds)) → Settles (suc rounds)
  unfolding Settles
  grows rounds long =
      let few : length (filter (stays rounds) items) ≤ length (filter (stays (suc rounds)) items)
      = no_longer (stays rounds) (stays (suc rounds)) (more rounds) items in
      let now : length (after (suc rounds)) ≡ length (filter (stays rounds) items) =
      ap length (round rounds) in
      let then : length (after (suc (suc rounds))) ≡ length (filter (stays (suc rounds)) items) =
      ap length (round (suc rounds)) in
      elim (cases_lt (length (after (suc rounds))) (length (after (suc (suc rounds))))) [
        | inl longer ↦ inr (omega arith)
        | inr level ↦ (
            let same : filter (stays rounds) items ≡ filter (stays (suc rounds)) items =
            as_long (stays rounds) (stays (suc rounds)) (more rounds) items (omega arith) in
            inl (round (suc rounds) ∙ (sym same ∙ sym (round rounds)))
            )
      ]

  settles : (rounds : ℕ) → Settles rounds
  unfolding Settles after staying_after
  settles zero = elim (empty_or (after 1)) [ inl none ↦ inl none | inr some ↦ inr some ]
  settles (suc rounds) = elim (settles rounds) [
    | inl same ↦ inl (same_again rounds same)
    | inr long ↦ grows rounds long
  ]

  settled : after (suc (length items)) ≡ after (length items)
  unfolding Settles
  settled = elim (settles (length items)) [
    | inl same ↦ same
    | inr long ↦ (
        let few : length (filter (stays (length items)) items) ≤ length items =
        few_stay (stays (length items)) items in
        let now : length (after (suc (length items)))
        ≡ length (filter (stays (length items)) items) = ap length (round (length items)) in
        absurd (omega arith)
        )
  ]

  -- an item that one that stays names
  stays_by : (rounds : ℕ) (x : A) → list_any (λ one. names one x) (after rounds) ≡ true →
      stays rounds x ≡ true
  unfolding stays after
  stays_by rounds x any = by (begins x) any
    where
      by : (a : Bool) → list_any (λ one. names one x) (staying_after begins names items rounds)
          ≡ true → (a || list_any (λ one. names one x) (staying_after begins names items rounds))
          ≡ true
      by true any = refl
      by false any = any

  all_named : (one other : A) → Contains items one → Contains items other →
      stays (length items) one ≡ true → names one other ≡ true → stays (length items) other ≡ true
  all_named one other has has_other is is_named =
      let test = stays (length items) in
      let any : list_any (λ x. names x other) (filter test items) ≡ true =
      any_kept test (λ x. names x other) items one has is is_named in
      stays_by (length items) other (ap (λ left. list_any (λ x. names x other) left)
      (sym settled ∙ round (length items)) ∙ any)

  module _ (has : A → Bool) (closed : IsClosed begins names items has) where
    -- what a round leaves is in each closed set
    within : (rounds : ℕ) (x : A) → Contains items x → stays rounds x ≡ true → has x ≡ true
    unfolding stays after staying_after
    within zero x is_there is = by (begins x) (closed.begun x is_there) is
      where
        by : (a : Bool) → (a ≡ true → has x ≡ true) → (a || false) ≡ true → has x ≡ true
        by true begun is = begun refl
        by false begun is = cc
    within (suc rounds) x is_there is = by (within rounds) (begins x) (closed.begun x is_there) is
      where
        named : ((y : A) → Contains items y → stays rounds y ≡ true → has y ≡ true) →
            list_any (λ one. names one x) (filter (stays rounds) items) ≡ true → has x ≡ true
        named before any =
            let w = who_passes (stays rounds) (λ one. names one x) items any in
            closed.named w.item x w.is_there is_there (before w.item w.is_there w.tests) w.passes

        by : ((y : A) → Contains items y → stays rounds y ≡ true → has y ≡ true) → (a : Bool) →
            (a ≡ true → has x ≡ true) → (a
            || list_any (λ one. names one x) (filter (stays rounds) items)) ≡ true → has x ≡ true
        by before true begun is = begun refl
        by before false begun is = named before is

  begun : (x : A) → begins x ≡ true → stays (length items) x ≡ true
  unfolding stays
  begun x is = rw is refl

  pub least : IsLeast begins names items (stays_in begins names items)
  unfolding stays after
  least = record {
    closed = record { begun = λ x is_there is. begun x is; named = all_named };
    least = λ has closed x. within has closed (length items) x;
  }
