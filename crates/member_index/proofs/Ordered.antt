-- What a stable sort gives.
use Rattle.std.proofs.Common.{◌≡◌, refl, ap, sym, subst, ◌∙◌, ℕ, zero, suc, Bool, true, false, cond}
use Rattle.std.proofs.Common.{◌||◌, ◌++◌, length-append}
use Rattle.std.proofs.Common.{List, [], ◌∷◌, length, ◌⊎◌, inl, inr, ◌<◌, ◌+◌, arith, take, get_or}
use Rattle.std.specs.Prelude.{slice_get, slice_index_or, Some, ◌^◌, Result, Ok, Err, OnOk}
use Rattle.std.specs.List.{filter, list_any, range_with_len}
use Rattle.std.specs.List.Sorted.{IsPermutation, IsSortedByKey, IsStableByKey, ties}
use Rattle.std.specs.Ordering.{is_lt}
use Rattle.std.proofs.lemmas.Bool.{cases_Bool}
use Rattle.std.proofs.lemmas.List.{take_more, length-map}
use Rattle.std.proofs.lemmas.List.Elements.{filter_agree}
use Rattle.std.proofs.lemmas.List.Sorted.{list_any-IsPermutation}
use Rattle.class_desc.specs.ClassFile.{Key, is_key, field_key, method_key}
use Rattle.class_desc.specs.declared.class.ClassDesc.{ClassDesc}
use Rattle.member_index.specs.Index.{HasFewMembers}
use Rattle.member_index.specs.Order.{name_key, key_cmp, key_at, keys_of, has_key, IsOrderOf, AreOrdersOf}
use Rattle.member_index.specs.declared.kind.Kind.{Kind}
use Rattle.member_index.specs.declared.kind.Kind.TheVariants as kinds
use Rattle.member_index.proofs.Keys.{ties_are, key_equiv}
use Rattle.member_index.proofs.Listed.{places_listed}

none_kept : {A : Type 0} (test : A → Bool) (xs : List A) → list_any test xs ≡ false →
    filter test xs ≡ []
none_kept test [] f = refl
none_kept test (x ∷ xs) f = by (test x) (none_kept test xs) f
  where
    by : (b : Bool) → (list_any test xs ≡ false → filter test xs ≡ []) →
        (b || list_any test xs) ≡ false → cond b (x ∷ filter test xs) (filter test xs) ≡ []
    by true more g = absurd cc
    by false more g = more g

some_passes : {A : Type 0} (test : A → Bool) (xs : List A) → list_any test xs ≡ true →
    (x : A) × (test x ≡ true)
some_passes test [] t = absurd cc
some_passes {A} test (x ∷ xs) t = by (test x) refl (some_passes test xs) t
  where
    by : (b : Bool) → test x ≡ b → (list_any test xs ≡ true → (y : A) × (test y ≡ true)) →
        (b || list_any test xs) ≡ true → (y : A) × (test y ≡ true)
    by true e more g = (x, e)
    by false e more g = more g

module _ (keys : List Key) (given order : List ℕ) (permuted : IsPermutation given order)
    (stable : IsStableByKey (key_at keys) key_cmp given order) (key : Key) where
  abbrev Same : Type 0
  Same = filter (has_key keys key) order ≡ filter (has_key keys key) given

  like_one : (place : ℕ) → has_key keys key place ≡ true → (other : ℕ) →
      ties (λ x y. is_lt (key_cmp (key_at keys x) (key_at keys y))) place other
      ≡ has_key keys key other
  like_one place t other =
      ties_are (key_at keys place) (key_at keys other)
      ∙ key_equiv.symm (key_at keys other) (key_at keys place)
      ∙ key_equiv.congr (key_at keys place) key (key_at keys other) t
      ∙ key_equiv.symm key (key_at keys other)

  pub stays : Same
  stays = by (cases_Bool (list_any (has_key keys key) given))
    where
      by : (list_any (has_key keys key) given ≡ true) ⊎ (list_any (has_key keys key) given ≡ false) →
          Same
      by (inl t) =
          let one = some_passes (has_key keys key) given t in
          sym (filter_agree (ties (λ x y. is_lt (key_cmp (key_at keys x) (key_at keys y))) one.0)
          (has_key keys key) (like_one one.0 one.1) order)
          ∙ stable one.0
          ∙ filter_agree (ties (λ x y. is_lt (key_cmp (key_at keys x) (key_at keys y))) one.0)
          (has_key keys key) (like_one one.0 one.1) given
      by (inr f) =
          none_kept (has_key keys key) order
          (sym (list_any-IsPermutation (has_key keys key) given order permuted) ∙ f)
          ∙ sym (none_kept (has_key keys key) given f)

pub ordered : (keys : List Key) (given order : List ℕ) →
    given ≡ range_with_len 0 (length keys) → IsPermutation given order →
    IsSortedByKey (key_at keys) key_cmp order →
    IsStableByKey (key_at keys) key_cmp given order → IsOrderOf keys order
ordered keys given order all permuted up stable = record {
  sorted = up;
  each = λ key.
      stays keys given order permuted stable key
      ∙ ap (filter (has_key keys key)) all
      ∙ sym (places_listed (λ k. is_key k key) ([], []) keys);
}

-- ---- one class after another

module _ (kind : Kind) where
  abbrev Each : List (List ℕ) → List ClassDesc → Type 0
  Each orders classes =
      (class : ℕ) (desc : ClassDesc) → slice_get classes class ≡ Some desc →
      IsOrderOf (keys_of kind desc) (slice_index_or orders class [])

  module _ (row : List ℕ) (d : ClassDesc) (is : IsOrderOf (keys_of kind d) row) where
    pushed : (orders : List (List ℕ)) (classes : List ClassDesc) →
        length orders ≡ length classes → Each orders classes →
        Each (orders ++ row ∷ []) (classes ++ d ∷ [])
    pushed [] [] level each zero desc at =
        let same : d ≡ desc = cc in
        subst (λ (c : ClassDesc). IsOrderOf (keys_of kind c) row) same is
    pushed [] [] level each (suc class) desc at = absurd cc
    pushed [] (c ∷ classes) level each class desc at = absurd (omega (arith, level))
    pushed (o ∷ orders) [] level each class desc at = absurd (omega (arith, level))
    pushed (o ∷ orders) (c ∷ classes) level each zero desc at = each 0 desc at
    pushed (o ∷ orders) (c ∷ classes) level each (suc class) desc at =
        pushed orders classes (omega (arith, level)) (λ k e there. each (suc k) e there) class
        desc at

  pub orders_more : (orders orders' : List (List ℕ)) (row : List ℕ) (classes : List ClassDesc)
      (i : ℕ) (d : ClassDesc) → i < length classes → d ≡ get_or classes i d →
      IsOrderOf (keys_of kind d) row → orders' ≡ orders ++ row ∷ [] →
      AreOrdersOf kind orders (take i classes) → AreOrdersOf kind orders' (take (i + 1) classes)
  orders_more orders orders' row classes i d few at is more before =
      subst (λ (l : List ClassDesc). AreOrdersOf kind orders' l)
      (sym (take_more classes i d few ∙ ap (λ y. take i classes ++ y ∷ []) (sym at)))
      (subst (λ (o : List (List ℕ)). AreOrdersOf kind o (take i classes ++ d ∷ [])) (sym more)
      (record {
        level =
            let one = length-append orders (row ∷ []) in
            let two = length-append (take i classes) (d ∷ []) in
            let level = before.level in omega (arith, one, two, level);
        each = pushed row d is orders (take i classes) before.level before.each;
      }))

pub no_orders : (kind : Kind) (orders : List (List ℕ)) → orders ≡ [] → AreOrdersOf kind orders []
no_orders kind orders e =
    subst (λ (o : List (List ℕ)). AreOrdersOf kind o []) (sym e)
    (record { level = refl; each = λ class desc at. absurd cc })

pub few_keys : (kind : Kind) (d : ClassDesc) → HasFewMembers d → length (keys_of kind d) < 2 ^ 32
few_keys kinds.Fields d few =
    let long = length-map d.fields field_key in let less = few.fields in omega (arith, long, less)
few_keys kinds.Names d few =
    let long = length-map d.fields name_key in let less = few.fields in omega (arith, long, less)
few_keys kinds.Methods d few =
    let long = length-map d.methods method_key in
    let less = few.methods in omega (arith, long, less)

pub all_ok : {T E P Q R S : Type 0} (r : Result T E) → OnOk r P → OnOk r Q → OnOk r R →
    (P → Q → R → S) → OnOk r S
all_ok (Ok x) p q s from = from p q s
all_ok (Err e) p q s from = tt
