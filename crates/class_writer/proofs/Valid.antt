-- A valid description is never refused: a file that spells it has what it needs in a pool of its
-- own.
use Rattle.std.proofs.Common.{◌≡◌, ℕ, suc, ◌+◌, ◌<◌, ◌≤◌, ◌^◌, arith, Bool, true, false, cond, not}
use Rattle.std.proofs.Common.{List, [], ◌∷◌, ◌++◌, length, refl, sym, ap, ◌∙◌, subst}
use Rattle.std.specs.Prelude.{filter, nat_lt, Option, Some, None}
use Rattle.std.specs.List.{flat_map, AllByRecursion, IsDistinct}
use Rattle.std.proofs.lemmas.Bool.Decides.{nat_tests}
use Rattle.class_desc.specs.declared.class.ClassDesc.{ClassDesc}
use Rattle.class_desc.specs.declared.class.FieldDesc.{FieldDesc}
use Rattle.class_desc.specs.declared.class.MethodDesc.{MethodDesc}
use Rattle.class_desc.specs.declared.place.Place.TheVariants as place
use Rattle.class_desc.specs.ClassFile.{NamesSuper, NamesClasses, FieldSpells, MethodSpells}
use Rattle.class_desc.specs.ClassFile.{SpellsOver, IsValid}
use Rattle.class_desc.specs.Items.{CountedSpells}
use Rattle.class_desc.specs.Pool.{Entry, entry_bytes, EntryFits, numbered}
use Rattle.class_desc.specs.Layout.{Need, TextNeed, is_need, Item, Tag, ParameterCount, Count}
use Rattle.class_desc.specs.Layout.{BodyLength, EntryNumber, item_needs, class_item, or_no_entry}
use Rattle.class_desc.specs.Layout.{counted, attribute_items, field_items, method_items}
use Rattle.class_desc.specs.Layout.{class_items, needs, firsts, pool_of, numbers_needed}
use Rattle.lemmas.proofs.Lists.{all_append, all_front}
use Rattle.class_writer.specs.declared.error.PoolErr.{PoolErr}
use Rattle.class_writer.specs.declared.error.PoolErr.TheVariants.{TextTooLong, TooMany, PoolFull}
use Rattle.class_writer.specs.Refusal.{or_next, first_refusal, need_refusal, item_refusal}
use Rattle.class_writer.specs.Refusal.{pool_refusal, refusal}
use Rattle.class_writer.proofs.Bytes.{ItemIsBytes}
use Rattle.class_writer.proofs.Entries.{IsByte, NeedFits}
use Rattle.class_writer.proofs.Held.{HasFewNumbers}
use Rattle.class_writer.proofs.Laid.{Laid, counted_laid}
use Rattle.class_writer.proofs.LaidAttributes.{attributes_laid, member_laid}
use Rattle.class_writer.proofs.Pooled.{IsMet, ItemIsMet, AreMet, named_in, names_few}
use Rattle.class_writer.proofs.Named.{class_named}
use Rattle.class_writer.proofs.Needed.{in_firsts, all_filter}
use Rattle.class_writer.proofs.Weights.{all_of, distinct_among}

-- ---- the first ones are distinct

module _ {A : Type 0} (same : A → A → Bool) where
  filter_distinct : (keeps : A → Bool) (xs : List A) → IsDistinct same xs
      → IsDistinct same (filter keeps xs)
  unfolding IsDistinct
  filter_distinct keeps [] distinct = tt
  filter_distinct keeps (x ∷ xs) distinct = by (keeps x) (filter_distinct keeps xs distinct.1)
    where
      by : (b : Bool) → IsDistinct same (filter keeps xs)
          → IsDistinct same (cond b (x ∷ filter keeps xs) (filter keeps xs))
      by true rest = (all_filter (λ y. same x y ≡ false) keeps xs distinct.0, rest)
      by false rest = rest

  all_differ : (x : A) (xs : List A)
      → AllByRecursion (λ y. same x y ≡ false) (filter (λ other. not (same x other)) xs)
  all_differ x [] = tt
  all_differ x (y ∷ xs) = by (same x y) refl (all_differ x xs)
    where
      by : (b : Bool) → same x y ≡ b
          → AllByRecursion (λ y. same x y ≡ false) (filter (λ other. not (same x other)) xs)
          → AllByRecursion (λ y. same x y ≡ false)
          (cond (not b) (y ∷ filter (λ other. not (same x other)) xs)
          (filter (λ other. not (same x other)) xs))
      by true is rest = rest
      by false is rest = (is, rest)

  firsts_distinct : (xs : List A) → IsDistinct same (firsts same xs)
  unfolding IsDistinct
  firsts_distinct [] = tt
  firsts_distinct (x ∷ xs) = (
    all_differ x (firsts same xs),
    filter_distinct
        (λ other. not (same x other)) (firsts same xs) (firsts_distinct xs),
  )

-- ---- over the pool of a file

module _ (pool : List Entry) (fit : AllByRecursion EntryFits pool)
    (octets : AllByRecursion IsByte (flat_map entry_bytes pool)) where
  super_met : (n : ℕ) (name : List ℕ) (super : Option (List ℕ)) → NamesSuper pool n name super
      → ItemIsMet pool (or_no_entry class_item super)
  super_met n name None given = tt
  super_met n name (Some super) given = (class_named pool fit octets n super given.1).met

  classes_met : (numbers : List ℕ) (names : List (List ℕ)) → NamesClasses pool numbers names
      → AreMet pool (flat_map (λ name. class_item name ∷ []) names)
  classes_met [] [] given = tt
  classes_met (n ∷ numbers) (name ∷ names) given =
      ((class_named pool fit octets n name given.0).met, classes_met numbers names given.1)
  classes_met [] (name ∷ names) given = absurd given
  classes_met (n ∷ numbers) [] given = absurd given

  field_laid : (f : FieldDesc) (bytes : List ℕ) → FieldSpells pool f bytes
      → Laid pool (field_items f) bytes (λ entries. FieldSpells entries f)
  field_laid f bytes given =
      member_laid pool fit octets _ _ _ f.flags f.name f.descriptor f.attrs bytes given

  pub fields_laid : (fields : List FieldDesc) (bytes : List ℕ)
      → CountedSpells (FieldSpells pool) fields bytes
      → Laid pool (counted field_items fields) bytes
      (λ entries. CountedSpells (FieldSpells entries) fields)
  fields_laid = counted_laid pool FieldSpells field_items field_laid

  method_laid : (m : MethodDesc) (bytes : List ℕ) → MethodSpells pool m bytes
      → Laid pool (method_items m) bytes (λ entries. MethodSpells entries m)
  method_laid m bytes given =
      member_laid pool fit octets _ _ _ m.flags m.name m.descriptor m.attrs bytes given

  pub methods_laid : (methods : List MethodDesc) (bytes : List ℕ)
      → CountedSpells (MethodSpells pool) methods bytes
      → Laid pool (counted method_items methods) bytes
      (λ entries. CountedSpells (MethodSpells entries) methods)
  methods_laid = counted_laid pool MethodSpells method_items method_laid

interfaces_many : (pool : List Entry) (numbers : List ℕ) (names : List (List ℕ))
    → NamesClasses pool numbers names → length names ≡ length numbers
interfaces_many pool [] [] given = refl
interfaces_many pool (n ∷ numbers) (name ∷ names) given = ap suc
    (interfaces_many pool numbers names given.1)
interfaces_many pool [] (name ∷ names) given = absurd given
interfaces_many pool (n ∷ numbers) [] given = absurd given

pub interfaces_few : (d : ClassDesc) → IsValid d → length d.interfaces < 2 ^ 16
interfaces_few d valid =
    let spelled = valid.2.1 in
    let many : length d.interfaces ≡ length spelled.parts.interfaces =
    interfaces_many valid.2.0 spelled.parts.interfaces d.interfaces spelled.interfaces in
    let few : length spelled.parts.interfaces < 2 ^ 16 = spelled.interface_count in
    omega arith

-- the pool's bytes, behind the head of a file
pub octets_of : (d : ClassDesc) (bytes : List ℕ) (pool : List Entry) → AllByRecursion IsByte bytes
    → (spelled : SpellsOver d bytes pool) → AllByRecursion IsByte (flat_map entry_bytes pool)
octets_of d bytes pool all spelled =
    let whole = subst (AllByRecursion IsByte) spelled.whole all in
    all_front IsByte (flat_map entry_bytes pool) _ whole.1.1.1.1.1.1.1.1.1.1

-- a file has all that its description needs
items_met : (d : ClassDesc) (valid : IsValid d) → AreMet valid.2.0 (class_items d)
items_met d valid =
    let pool = valid.2.0 in
    let spelled = valid.2.1 in
    let parts = spelled.parts in
    let fit = spelled.entries in
    let octets = octets_of d valid.0 pool valid.1 spelled in
    let classes = flat_map (λ name. class_item name ∷ []) d.interfaces in
    let fields = counted field_items d.fields in
    let methods = counted method_items d.methods in
    let attrs = counted attribute_items d.attrs in
    let members : AreMet pool (fields ++ (methods ++ attrs)) =
    all_append (ItemIsMet pool) fields (methods ++ attrs)
    (fields_laid pool fit octets d.fields parts.fields spelled.fields).met
    (all_append (ItemIsMet pool) methods attrs
    (methods_laid pool fit octets d.methods parts.methods spelled.methods).met
    (attributes_laid pool fit octets place.Class [] d.attrs parts.attributes
    spelled.attributes).met) in (
      tt,
      (
        (class_named pool fit octets parts.this d.name spelled.this).met,
        (
          super_met pool fit octets parts.super d.name d.super_name spelled.super,
          (
            interfaces_few d valid,
            all_append (ItemIsMet pool) classes (fields ++ (methods ++ attrs))
                (classes_met pool fit octets parts.interfaces d.interfaces spelled.interfaces)
                members,
          ),
        ),
      ),
    )

-- ---- what is met is not refused

needs_of_items : (pool : List Entry) (items : List Item) → AreMet pool items
    → AllByRecursion (IsMet pool) (flat_map item_needs items)
needs_of_items pool [] met = tt
needs_of_items pool (item ∷ items) met =
    all_append (IsMet pool) (item_needs item) (flat_map item_needs items)
    (one item met.0) (needs_of_items pool items met.1)
  where
    one : (item : Item) → ItemIsMet pool item → AllByRecursion (IsMet pool) (item_needs item)
    one (EntryNumber need) met = met
    one _ met = tt

needs_met : (d : ClassDesc) (valid : IsValid d) → AllByRecursion (IsMet valid.2.0) (needs d)
needs_met d valid = needs_of_items valid.2.0 (class_items d) (items_met d valid)

all_fit : (pool : List Entry) (these : List Need) → AllByRecursion (IsMet pool) these
    → AllByRecursion NeedFits these
all_fit pool [] met = tt
all_fit pool (need ∷ these) met = (met.0.fits, all_fit pool these met.1)

pub needs_fit : (d : ClassDesc) → IsValid d → AllByRecursion NeedFits (needs d)
needs_fit d valid = all_fit valid.2.0 (needs d) (needs_met d valid)

pub items_are_bytes : (d : ClassDesc) → IsValid d → AllByRecursion ItemIsBytes (class_items d)
items_are_bytes d valid = all (class_items d) (items_met d valid)
  where
    one : (item : Item) → ItemIsMet valid.2.0 item → ItemIsBytes item
    one (Tag tag) met = met
    one _ met = tt

    all : (items : List Item) → AreMet valid.2.0 items → AllByRecursion ItemIsBytes items
    all [] met = tt
    all (item ∷ items) met = (one item met.0, all items met.1)

pub few_numbers : (d : ClassDesc) → IsValid d → HasFewNumbers (pool_of d)
few_numbers d valid =
    let pool = valid.2.0 in
    let met = needs_met d valid in
    let among : numbers_needed (pool_of d) ≤ numbers_needed (named_in pool) =
    distinct_among (pool_of d) (named_in pool) (firsts_distinct is_need (needs d))
    (λ need h. (all_of (IsMet pool) (needs d) met need
    (sym (in_firsts need (needs d)) ∙ h)).named) in
    let few : numbers_needed (named_in pool) ≤ length (numbered pool) = names_few pool in
    let count : length (numbered pool) + 1 < 2 ^ 16 = valid.2.1.pool_count in
    omega arith

passes : (most n : ℕ) (e : PoolErr) → n ≤ most → cond (nat_lt most n) (Some e) None ≡ None
passes most n e h = let within : nat_lt most n
    ≡ false = grind (arith, nat_tests) in ap (λ b. cond b (Some e) None) within

texts_pass : (these : List Need) → AllByRecursion NeedFits these
    → first_refusal need_refusal these ≡ None
texts_pass [] fit = refl
texts_pass (need ∷ these) fit = ap (λ r. or_next r (first_refusal need_refusal these))
    (one need fit.0) ∙ texts_pass these fit.1
  where
    one : (need : Need) → NeedFits need → need_refusal need ≡ None
    one (TextNeed text) fit =
        let short : length text < 2 ^ 16 = fit.0 in
        passes 65535 (length text) (TextTooLong (length text)) (omega arith)
    one _ fit = refl

counts_pass : (pool : List Entry) (items : List Item) → AreMet pool items
    → first_refusal item_refusal items ≡ None
counts_pass pool [] met = refl
counts_pass pool (item ∷ items) met = ap (λ r. or_next r (first_refusal item_refusal items))
    (one item met.0) ∙ counts_pass pool items met.1
  where
    one : (item : Item) → ItemIsMet pool item → item_refusal item ≡ None
    one (ParameterCount count) met = passes 255 count (TooMany count) (omega arith)
    one (Count count) met = passes 65535 count (TooMany count) (omega arith)
    one (BodyLength bytes) met = passes 4294967295 bytes (TooMany bytes) (omega arith)
    one _ met = refl

pub not_refused : (d : ClassDesc) → IsValid d → refusal d ≡ None
not_refused d valid =
    let needed = numbers_needed (pool_of d) in
    let counts = first_refusal item_refusal (class_items d) in
    let few : needed ≤ 65534 = few_numbers d valid in
    ap (λ r. or_next r (or_next counts (pool_refusal needed)))
    (texts_pass (needs d) (needs_fit d valid))
    ∙ ap (λ r. or_next r (pool_refusal needed))
    (counts_pass valid.2.0 (class_items d) (items_met d valid))
    ∙ passes 65534 needed (PoolFull needed) few
