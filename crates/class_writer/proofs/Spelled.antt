-- What is written for a valid description spells it.
use Rattle.std.proofs.Common.{◌≡◌, ℕ, ◌+◌, ◌<◌, ◌≤◌, ◌^◌, arith, List, [], ◌∷◌, ◌++◌, length}
use Rattle.std.proofs.Common.{map, refl, sym, ap, ◌∙◌}
use Rattle.std.specs.Prelude.{Option, Some, None}
use Rattle.std.specs.List.{flat_map, AllByRecursion}
use Rattle.std.specs.Int.{w16, to_be_bytes}
use Rattle.std.proofs.lemmas.List.{length-map}
use Rattle.class_desc.specs.declared.class.ClassDesc.{ClassDesc}
use Rattle.class_desc.specs.declared.place.Place.TheVariants as place
use Rattle.class_desc.specs.Pool.{Entry, numbered, entry_bytes, EntryFits}
use Rattle.class_desc.specs.ClassFile.{NamesSuper, NamesClasses, Parts, file_bytes, ClassSpells}
use Rattle.class_desc.specs.ClassFile.{IsValid}
use Rattle.class_desc.specs.Layout.{Need, ClassNeed, is_need, number_in, need_bytes, item_bytes}
use Rattle.class_desc.specs.Layout.{class_item, or_no_entry, counted, attribute_items, field_items}
use Rattle.class_desc.specs.Layout.{method_items, class_items, needs, pool_of, numbers_needed}
use Rattle.class_desc.specs.Layout.{head_bytes, layout}
use Rattle.class_writer.proofs.Entries.{IsByte, entries_in, entries_have_bytes}
use Rattle.class_writer.proofs.Entries.{entries_have_numbers, NeedFits, entries_fit}
use Rattle.class_writer.proofs.Held.{bytes_over, bytes_append, IsHeld, AreHeld, held_items}
use Rattle.class_writer.proofs.Held.{held_front, held_behind, HasFewNumbers, number_in_fits}
use Rattle.class_writer.proofs.LaidAttributes.{attributes_laid}
use Rattle.class_writer.proofs.Named.{class_named}
use Rattle.class_writer.proofs.Needed.{in_firsts, all_in, all_firsts}
use Rattle.class_writer.proofs.Valid.{needs_fit, few_numbers, interfaces_few, octets_of}
use Rattle.class_writer.proofs.Valid.{fields_laid, methods_laid}

-- ---- bytes

abbrev super_number : List Need → Option (List ℕ) → ℕ
super_number pool None = 0
super_number pool (Some name) = number_in pool (ClassNeed name)

abbrev class_numbers : List Need → List (List ℕ) → List ℕ
class_numbers pool names = map (λ name. number_in pool (ClassNeed name)) names

-- the parts of the layout behind the pool
abbrev parts_over : List Need → ClassDesc → Parts
parts_over pool d = record {
  this = number_in pool (ClassNeed d.name);
  super = super_number pool d.super_name;
  interfaces = class_numbers pool d.interfaces;
  fields = bytes_over pool (counted field_items d.fields);
  methods = bytes_over pool (counted method_items d.methods);
  attributes = bytes_over pool (counted attribute_items d.attrs);
}

super_bytes : (pool : List Need) (super : Option (List ℕ))
    → item_bytes (number_in pool) (or_no_entry class_item super)
    ≡ to_be_bytes w16 (super_number pool super)
super_bytes pool None = refl
super_bytes pool (Some name) = refl

class_bytes : (pool : List Need) (names : List (List ℕ))
    → bytes_over pool (flat_map (λ name. class_item name ∷ []) names)
    ≡ flat_map (to_be_bytes w16) (class_numbers pool names)
class_bytes pool [] = refl
class_bytes pool (name ∷ names) =
    ap (λ t. to_be_bytes w16 (number_in pool (ClassNeed name)) ++ t) (class_bytes pool names)

-- what stands behind the pool
abbrev parts_bytes : ℕ → Parts → List ℕ
parts_bytes flags p =
    to_be_bytes w16 flags ++ (to_be_bytes w16 p.this ++ (to_be_bytes w16 p.super
    ++ (to_be_bytes w16 (length p.interfaces) ++ (flat_map (to_be_bytes w16) p.interfaces
    ++ (p.fields ++ (p.methods ++ p.attributes))))))

parts_are : (pool : List Need) (d : ClassDesc)
    → bytes_over pool (class_items d) ≡ parts_bytes d.flags (parts_over pool d)
parts_are pool d =
    let classes = flat_map (λ name. class_item name ∷ []) d.interfaces in
    let fields = counted field_items d.fields in
    let methods = counted method_items d.methods in
    let attrs = counted attribute_items d.attrs in
    let numbers = class_numbers pool d.interfaces in
    let super = item_bytes (number_in pool) (or_no_entry class_item d.super_name) in
    let members : bytes_over pool (fields ++ (methods ++ attrs))
    ≡ bytes_over pool fields ++ (bytes_over pool methods ++ bytes_over pool attrs) =
    bytes_append pool fields (methods ++ attrs)
    ∙ ap (λ t. bytes_over pool fields ++ t) (bytes_append pool methods attrs) in
    let rest : bytes_over pool (classes ++ (fields ++ (methods ++ attrs)))
    ≡ flat_map (to_be_bytes w16) numbers
    ++ (bytes_over pool fields ++ (bytes_over pool methods ++ bytes_over pool attrs)) =
    bytes_append pool classes (fields ++ (methods ++ attrs))
    ∙ ap (λ t. t ++ bytes_over pool (fields ++ (methods ++ attrs))) (class_bytes pool d.interfaces)
    ∙ ap (λ t. flat_map (to_be_bytes w16) numbers ++ t) members in
    let whole = λ (first : List ℕ) (count : ℕ) (last : List ℕ).
    to_be_bytes w16 d.flags ++ (to_be_bytes w16 (number_in pool (ClassNeed d.name))
    ++ (first ++ (to_be_bytes w16 count ++ last))) in
    let last = flat_map (to_be_bytes w16) numbers
    ++ (bytes_over pool fields ++ (bytes_over pool methods ++ bytes_over pool attrs)) in
    ap (λ t. whole super (length d.interfaces) t) rest
    ∙ ap (λ n. whole super n last)
    (sym (length-map d.interfaces (λ name. number_in pool (ClassNeed name))))
    ∙ ap (λ t. whole t (length numbers) last) (super_bytes pool d.super_name)

layout_is_file : (d : ClassDesc)
    → layout d ≡ file_bytes d (entries_in (pool_of d) (pool_of d)) (parts_over (pool_of d) d)
unfolding layout
layout_is_file d =
    let pool = pool_of d in
    let entries = entries_in pool pool in
    let behind = parts_bytes d.flags (parts_over pool d) in
    let file = λ (n : ℕ) (put last : List ℕ). head_bytes d
    ++ ((to_be_bytes w16 (n + 1) ++ put) ++ last) in
    ap (λ t. file (numbers_needed pool) (flat_map (need_bytes pool) pool) t) (parts_are pool d)
    ∙ ap (λ n. file n (flat_map (need_bytes pool) pool) behind)
    (sym (entries_have_numbers pool pool))
    ∙ ap (λ put. file (length (numbered entries)) put behind) (entries_have_bytes pool pool)

-- ---- over a pool that has what is needed

module _ (read : List Entry) (fit : AllByRecursion EntryFits read)
    (octets : AllByRecursion IsByte (flat_map entry_bytes read)) (pool : List Need)
    (few : HasFewNumbers pool) where
  super_named : (n : ℕ) (name : List ℕ) (super : Option (List ℕ)) → NamesSuper read n name super
      → IsHeld pool (or_no_entry class_item super)
      → NamesSuper (entries_in pool pool) (super_number pool super) name super
  super_named n name None given held = (refl, given.1)
  super_named n name (Some super) given held =
      (given.0, (class_named read fit octets n super given.1).named pool few held)

  super_fits : (super : Option (List ℕ)) → super_number pool super < 2 ^ 16
  super_fits None = omega arith
  super_fits (Some super) = number_in_fits pool few (ClassNeed super)

  classes_named : (numbers : List ℕ) (names : List (List ℕ)) → NamesClasses read numbers names
      → AreHeld pool (flat_map (λ name. class_item name ∷ []) names)
      → NamesClasses (entries_in pool pool) (class_numbers pool names) names
  classes_named [] [] given held = tt
  classes_named (n ∷ numbers) (name ∷ names) given held = (
    (class_named read fit octets n name given.0).named pool few held.0,
    classes_named numbers names given.1 held.1,
  )
  classes_named [] (name ∷ names) given held = absurd given
  classes_named (n ∷ numbers) [] given held = absurd given

-- what the items of a description need is in its pool
pool_holds : (d : ClassDesc) → AreHeld (pool_of d) (class_items d)
pool_holds d = held_items (pool_of d) (class_items d)
    (all_in (needs d) (pool_of d) (λ need h. in_firsts need (needs d) ∙ h))

pub layout_spells : (d : ClassDesc) → IsValid d → ClassSpells d (layout d)
layout_spells d valid =
    let read = valid.2.0 in
    let given = valid.2.1 in
    let parts = given.parts in
    let fit = given.entries in
    let octets = octets_of d valid.0 read valid.1 given in
    let pool = pool_of d in
    let few = few_numbers d valid in
    let entries = entries_in pool pool in
    let classes = flat_map (λ name. class_item name ∷ []) d.interfaces in
    let fields = counted field_items d.fields in
    let methods = counted method_items d.methods in
    let attrs = counted attribute_items d.attrs in
    let held = pool_holds d in
    let members : AreHeld pool (fields ++ (methods ++ attrs)) =
    held_behind pool classes (fields ++ (methods ++ attrs)) held.1.1.1.1 in
    let behind : AreHeld pool (methods ++ attrs) =
    held_behind pool fields (methods ++ attrs) members in
    let many : length (class_numbers pool d.interfaces) ≡ length d.interfaces =
    length-map d.interfaces (λ name. number_in pool (ClassNeed name)) in
    let interfaces_fit : length d.interfaces < 2 ^ 16 = interfaces_few d valid in
    let numbers : length (numbered entries) ≡ numbers_needed pool =
    entries_have_numbers pool pool in
    let within : numbers_needed pool ≤ 65534 = few in (
      entries,
      record {
        parts = parts_over pool d;
        whole = layout_is_file d;
        entries = entries_fit pool few pool
            (all_firsts NeedFits is_need (needs d) (needs_fit d valid));
        pool_count = omega arith;
        minor = given.minor;
        major = given.major;
        flags = given.flags;
        this = (class_named read fit octets parts.this d.name given.this).named pool few held.1.0;
        super = super_named read fit octets pool few parts.super d.name d.super_name given.super
            held.1.1.0;
        super_fits = super_fits read fit octets pool few d.super_name;
        interface_count = omega arith;
        interfaces = classes_named read fit octets pool few parts.interfaces d.interfaces
            given.interfaces (held_front pool classes (fields ++ (methods ++ attrs))
            held.1.1.1.1);
        fields = (fields_laid read fit octets d.fields parts.fields given.fields).spelled pool few
            (held_front pool fields (methods ++ attrs) members);
        distinct_fields = given.distinct_fields;
        methods = (methods_laid read fit octets d.methods parts.methods given.methods).spelled pool
            few (held_front pool methods attrs behind);
        distinct_methods = given.distinct_methods;
        attributes = (attributes_laid read fit octets place.Class [] d.attrs parts.attributes
            given.attributes).spelled pool few (held_behind pool methods attrs behind);
      },
      valid.2.2,
    )
