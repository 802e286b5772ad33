-- The places of those that pass, among all places.
use Rattle.std.proofs.Common.{◌≡◌, refl, ap, sym, ◌∙◌, ℕ, zero, suc, ◌+◌, arith, Bool, true, false}
use Rattle.std.proofs.Common.{cond, ◌&&◌, List, [], ◌∷◌, ◌++◌, length, map, get_or}
use Rattle.std.proofs.Common.{Option, Some, None}
use Rattle.std.specs.Prelude.{slice_get}
use Rattle.std.specs.List.{filter, range_with_len}
use Rattle.std.specs.Option.{option_map_or}
use Rattle.java_names.specs.Names.{is_text}
use Rattle.class_desc.specs.ClassFile.{Key, is_key, field_key, method_key}
use Rattle.class_desc.specs.declared.class.ClassDesc.{ClassDesc}
use Rattle.member_index.specs.Index.{fields_by, names_by, methods_by}
use Rattle.member_index.specs.Order.{name_key, placed}
use Rattle.member_index.specs.Places.{places_of}
use Rattle.member_index.specs.declared.kind.Kind.TheVariants as kind
use Rattle.member_index.proofs.Firsts.{next}

range_next : (a n : ℕ) → range_with_len (suc a) n ≡ map next (range_with_len a n)
range_next a zero = refl
range_next a (suc n) =
    ap (λ k. suc a ∷ range_with_len k n) (let e : suc a + 1 ≡ suc (a + 1) = omega arith in e)
    ∙ ap (λ l. suc a ∷ l) (range_next (a + 1) n)

range_push : (a n : ℕ) (j : ℕ) → a + n ≡ j →
    range_with_len a (suc n) ≡ range_with_len a n ++ j ∷ []
range_push a zero j e = ap (λ k. k ∷ []) (let f : a ≡ j = omega (arith, e) in f)
range_push a (suc n) j e =
    ap (λ l. a ∷ l)
    (range_push (a + 1) n j (let f : a + 1 + n ≡ j = omega (arith, e) in f))

-- one place more
pub range_more : (n : ℕ) → range_with_len 0 (n + 1) ≡ range_with_len 0 n ++ n ∷ []
range_more n =
    ap (range_with_len 0) (let e : n + 1 ≡ suc n = omega arith in e)
    ∙ range_push 0 n n (omega arith)

filter_next : (test : ℕ → Bool) (places : List ℕ) →
    filter test (map next places) ≡ map next (filter (λ place. test (next place)) places)
filter_next test [] = refl
filter_next test (p ∷ places) = by (test (next p)) (filter_next test places)
  where
    by : (b : Bool) →
        filter test (map next places) ≡ map next (filter (λ place. test (next place)) places) →
        cond b (next p ∷ filter test (map next places)) (filter test (map next places))
        ≡ map next (cond b (p ∷ filter (λ place. test (next place)) places)
        (filter (λ place. test (next place)) places))
    by true more = ap (λ l. next p ∷ l) more
    by false more = more

module _ {A : Type 0} (test : A → Bool) (other : A) where
  abbrev passing : List A → ℕ → Bool
  passing xs place = test (get_or xs place other)

  pub places_listed : (xs : List A) →
      places_of test xs ≡ filter (passing xs) (range_with_len 0 (length xs))
  places_listed [] = refl
  places_listed (x ∷ xs) =
      by (test x) (filter (passing (x ∷ xs)) (range_with_len 1 (length xs)))
      (ap (map next) (places_listed xs)
      ∙ sym (filter_next (passing (x ∷ xs)) (range_with_len 0 (length xs)))
      ∙ sym (ap (filter (passing (x ∷ xs))) (range_next 0 (length xs))))
    where
      by : (b : Bool) (behind : List ℕ) → map next (places_of test xs) ≡ behind →
          cond b (0 ∷ []) [] ++ map next (places_of test xs) ≡ cond b (0 ∷ behind) behind
      by true behind more = ap (λ l. 0 ∷ l) more
      by false behind more = more

-- ---- keys of members

places_map : {A B : Type 0} (f : A → B) (test : B → Bool) (whole : A → Bool) →
    ((x : A) → test (f x) ≡ whole x) → (xs : List A) →
    places_of test (map f xs) ≡ places_of whole xs
places_map f test whole same [] = refl
places_map f test whole same (x ∷ xs) =
    ap (λ b. cond b (0 ∷ []) [] ++ map next (places_of test (map f xs))) (same x)
    ∙ ap (λ l. cond (whole x) (0 ∷ []) [] ++ map next l) (places_map f test whole same xs)

module _ {M : Type 0} (members : ClassDesc → List M) (key_of : M → Key) (key : Key)
    (whole : M → Bool) (same : (m : M) → is_key (key_of m) key ≡ whole m) where
  members_placed : (o : Option ClassDesc) →
      option_map_or (λ d. places_of (λ k. is_key k key) (map key_of (members d))) o []
      ≡ places_of whole (option_map_or members o [])
  members_placed None = refl
  members_placed (Some d) = places_map key_of (λ k. is_key k key) whole same (members d)

module _ (classes : List ClassDesc) (class : ℕ) where
  pub fields_placed : (key : Key) →
      placed kind.Fields classes class key ≡ fields_by classes class key
  fields_placed key =
      members_placed (λ d. d.fields) field_key key (λ f. is_key (field_key f) key) (λ f. refl)
      (slice_get classes class)

  alone : (b : Bool) → (b && true) ≡ b
  alone true = refl
  alone false = refl

  pub names_placed : (name : List ℕ) →
      placed kind.Names classes class (name, []) ≡ names_by classes class name
  names_placed name =
      members_placed (λ d. d.fields) name_key (name, []) (λ f. is_text f.name name)
      (λ f. alone (is_text f.name name)) (slice_get classes class)

  pub methods_placed : (key : Key) →
      placed kind.Methods classes class key ≡ methods_by classes class key
  methods_placed key =
      members_placed (λ d. d.methods) method_key key (λ m. is_key (method_key m) key) (λ m. refl)
      (slice_get classes class)
