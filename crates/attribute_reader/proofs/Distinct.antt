-- A list without repeats: each item is like none before it.
use Rattle.std.proofs.Common.{◌≡◌, ℕ, ◌||◌, Bool, true, false, true≢false, List, [], ◌∷◌, ◌++◌}
use Rattle.std.proofs.Common.{refl, sym, subst, ◌∙◌, append_assoc, append-nil}
use Rattle.std.specs.Cmp.Lexicographic.{same_text}
use Rattle.std.specs.List.{AllByRecursion, IsDistinct, list_any}
use Rattle.std.proofs.lemmas.List.Folds.{list_any-append}
use Rattle.java_names.specs.Names.{is_text}

neither : (p q : Bool) → (p || (q || false)) ≡ false → (p ≡ false) × (q ≡ false)
neither true q e = absurd (true≢false e)
neither false true e = absurd (true≢false e)
neither false false e = (refl, refl)

module _ {A : Type 0} (same : A → A → Bool)
    (other : (a b : A) → same a b ≡ false → same b a ≡ false) where
  -- it is like none of those
  abbrev pub IsNew : List A → A → Type 0
  IsNew seen item = list_any (same item) seen ≡ false

  -- each is like none before it, nor like one that was seen
  abbrev pub AreNew : List A → List A → Type 0
  AreNew seen [] = Unit {0}
  AreNew seen (item ∷ items) = IsNew seen item × AreNew (seen ++ item ∷ []) items

  -- all of them were unseen, and they differ
  record AreApart (seen items : List A) : Type 0 where
    unseen_each : AllByRecursion (IsNew seen) items
    distinct : IsDistinct same items

  split_last : (seen : List A) (item next : A) → IsNew (seen ++ item ∷ []) next
      → IsNew seen next × (same next item ≡ false)
  split_last seen item next new =
      neither (list_any (same next) seen) (same next item)
      (sym (list_any-append (same next) seen (item ∷ [])) ∙ new)

  join_last : (seen : List A) (item next : A) → IsNew seen next → same next item ≡ false
      → IsNew (seen ++ item ∷ []) next
  join_last seen item next new differs = list_any-append (same next) seen (item ∷ [])
      ∙ rw (new, differs) refl

  all_split : (seen : List A) (item : A) (items : List A)
      → AllByRecursion (IsNew (seen ++ item ∷ [])) items → AllByRecursion (IsNew seen) items
      × AllByRecursion (λ k. same item k ≡ false) items
  all_split seen item [] all = (tt, tt)
  all_split seen item (k ∷ ks) all =
      let one = split_last seen item k all.0 in
      let others = all_split seen item ks all.1 in
      ((one.0, others.0), (other k item one.1, others.1))

  all_joined : (seen : List A) (item : A) (items : List A) → AllByRecursion (IsNew seen) items
      → AllByRecursion (λ k. same item k ≡ false) items
      → AllByRecursion (IsNew (seen ++ item ∷ [])) items
  all_joined seen item [] new differ = tt
  all_joined seen item (k ∷ ks) new differ = (
    join_last seen item k new.0 (other item k differ.0),
    all_joined seen item ks new.1 differ.1,
  )

  apart : (seen items : List A) → AreNew seen items → AreApart seen items
  unfolding IsDistinct
  apart seen [] new = record { unseen_each = tt; distinct = tt }
  apart seen (item ∷ items) new =
      let others = apart (seen ++ item ∷ []) items new.1 in
      let split = all_split seen item items others.unseen_each in
      record { unseen_each = (new.0, split.0); distinct = (split.1, others.distinct) }

  from_apart : (seen items : List A) → AreApart seen items → AreNew seen items
  unfolding IsDistinct
  from_apart seen [] a = tt
  from_apart seen (item ∷ items) a = (
    a.unseen_each.0,
    from_apart (seen ++ item ∷ []) items (record {
      unseen_each = all_joined seen item items a.unseen_each.1 a.distinct.0;
      distinct = a.distinct.1;
    }),
  )

  none_seen : (items : List A) → AllByRecursion (IsNew []) items
  none_seen [] = tt
  none_seen (item ∷ items) = (refl, none_seen items)

  pub distinct_new : (items : List A) → AreNew [] items → IsDistinct same items
  distinct_new items new = (apart [] items new).distinct

  pub new_distinct : (items : List A) → IsDistinct same items → AreNew [] items
  new_distinct items distinct = from_apart [] items
      (record { unseen_each = none_seen items; distinct = distinct })

  -- ---- behind some that were seen

  pub new_parts : (seen items more : List A) → AreNew seen (items ++ more)
      → AreNew seen items × AreNew (seen ++ items) more
  new_parts seen [] more new =
      (tt, subst (λ (s : List A). AreNew s more) (sym (append-nil seen)) new)
  new_parts seen (item ∷ items) more new =
      let p = new_parts (seen ++ item ∷ []) items more new.1 in (
        (new.0, p.0),
        subst (λ (s : List A). AreNew s more)
            (append_assoc seen (item ∷ []) items) p.1,
      )

  pub new_joined : (seen items more : List A) → AreNew seen items → AreNew (seen ++ items) more
      → AreNew seen (items ++ more)
  new_joined seen [] more new later =
      subst (λ (s : List A). AreNew s more) (append-nil seen) later
  new_joined seen (item ∷ items) more new later = (
    new.0,
    new_joined (seen ++ item ∷ []) items more new.1
        (subst (λ (s : List A). AreNew s more) (sym (append_assoc seen (item ∷ []) items)) later),
  )

-- ---- texts

-- being one text goes both ways
pub flipped : (a b : List ℕ) → is_text a b ≡ true → is_text b a ≡ true
flipped a b e =
    let same : a ≡ b = same_text a b (sym e) in
    let own : is_text a a ≡ true = subst (λ t. is_text a t ≡ true) (sym same) e in
    subst (λ t. is_text t a ≡ true) same own

-- texts that differ do so both ways
pub other_text : (a b : List ℕ) → is_text a b ≡ false → is_text b a ≡ false
other_text a b e = by (is_text b a) refl
  where
    by : (t : Bool) → is_text b a ≡ t → is_text b a ≡ false
    by true is = absurd (true≢false (sym (flipped b a is) ∙ e))
    by false is = is
