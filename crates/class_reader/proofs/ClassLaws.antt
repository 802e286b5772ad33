-- The whole class: what is read is spelled, and what is spelled is read.
use Rattle.std.proofs.Common.{◌≡◌, ℕ, ◌+◌, ◌-◌, Bool, true, false, cond, eqb, List, []}
use Rattle.std.proofs.Common.{◌++◌}
use Rattle.std.proofs.Common.{length, Option, Result, Ok, Err, refl, sym, ap, subst, ◌∙◌}
use Rattle.std.proofs.Common.{append_assoc, append-nil, arith}
use Rattle.std.specs.Prelude.{IfOk}
use Rattle.std.specs.List.{flat_map}
use Rattle.std.specs.Int.{w16, w32, to_be_bytes}
use Rattle.std.proofs.lemmas.Bool.{eqb-true}
use Rattle.std.proofs.lemmas.List.{nil_from_length}
use Rattle.class_desc.specs.declared.attribute.Attr.{Attr}
use Rattle.class_desc.specs.declared.class.ClassDesc.{ClassDesc}
use Rattle.class_desc.specs.declared.class.FieldDesc.{FieldDesc}
use Rattle.class_desc.specs.declared.class.MethodDesc.{MethodDesc}
use Rattle.class_desc.specs.declared.limits.TheConstants.{MOST_TEXT}
use Rattle.class_desc.specs.declared.place.Place.TheVariants as place
use Rattle.class_desc.specs.Pool.{Entry, entry_bytes, numbered}
use Rattle.class_desc.specs.ClassFile.{magic, FieldSpells, MethodSpells, field_key}
use Rattle.class_desc.specs.Items.{NamesClassOf, Numbered}
use Rattle.class_desc.specs.ClassFile.{method_key}
use Rattle.class_desc.specs.Attributes.{AttributesSpell}
use Rattle.class_desc.specs.ClassFile.{Parts, SpellsOver, ClassSpells}
use Rattle.class_desc.specs.Texts.{total, option_texts, field_texts, class_texts}
use Rattle.pool_reader.specs.declared.fault.ClassFault.{ClassFault}
use Rattle.pool_reader.specs.declared.fault.ReadErr.{ReadErr}
use Rattle.pool_reader.specs.Reading.{◌>>=◌, Position, left_with, start, Read, Answers, left_over}
use Rattle.pool_reader.specs.Reading.{ended}
use Rattle.pool_reader.specs.Pooled.{rows_of, pool_at}
use Rattle.pool_reader.proofs.Laws.{IsBytes, bind_ok, ok_is, Weighs, counted_before, reads_as}
use Rattle.pool_reader.proofs.Laws.{reads_same, regrouped_step, Then, joined, weighs_then}
use Rattle.pool_reader.proofs.Laws.{reads_then, reads_then_of, Made, weighs_made}
use Rattle.pool_reader.proofs.Rows.{PoolSpells, reads_pool}
use Rattle.class_reader.specs.Reading.{class_flags_at, super_at}
use Rattle.class_reader.specs.Reading.{interfaces_at}
use Rattle.class_reader.specs.Reading.{fields_at, methods_at, head_at}
use Rattle.class_reader.specs.Reading.{class_over_at, file_at, class_of}
use Rattle.attribute_reader.specs.Attributes.{attributes_at}
use Rattle.attribute_reader.specs.Items.{class_at}
use Rattle.attribute_reader.proofs.AttributeLaws.{reads_of_class}
use Rattle.attribute_reader.proofs.ItemLaws.{weighs_class}
use Rattle.class_reader.proofs.HeadLaws.{VersionSpells, reads_version, FlagsSpell, reads_flags}
use Rattle.class_reader.proofs.HeadLaws.{SuperSpells}
use Rattle.class_reader.proofs.HeadLaws.{reads_super, InterfacesSpell, reads_interfaces}
use Rattle.class_reader.proofs.MemberLaws.{DistinctSpell, reads_fields, reads_methods}

abbrev pub described : ℕ × ℕ → ℕ → List ℕ → Option (List ℕ) → List (List ℕ) → List FieldDesc
    → List MethodDesc → List Attr → ClassDesc
described version flags name super interfaces fields methods attrs = record {
  minor = version.0;
  major = version.1;
  flags = flags;
  name = name;
  super_name = super;
  interfaces = interfaces;
  fields = fields;
  methods = methods;
  attrs = attrs;
}

module _ (version : ℕ × ℕ) (pool : List Entry) where
  abbrev Head : Type 0
  Head = ℕ × List ℕ × Option (List ℕ) × List (List ℕ)

  abbrev of_head : Head → List FieldDesc → List MethodDesc → List Attr → ClassDesc
  of_head h fields methods attrs = described version h.0 h.1 h.2 h.3 fields methods attrs

  abbrev FromMethods : Head → List FieldDesc → ClassDesc → List ℕ → Type 0
  FromMethods h fields =
      Then (DistinctSpell (MethodSpells pool) method_key) (λ methods.
      Made (λ attrs. of_head h fields methods attrs) (AttributesSpell pool place.Class []))

  abbrev FromInterfaces : ℕ → List ℕ → Option (List ℕ) → ClassDesc → List ℕ → Type 0
  FromInterfaces flags name super =
      Then (InterfacesSpell pool) (λ interfaces.
      Then (DistinctSpell (FieldSpells pool) field_key) (λ fields.
      FromMethods (flags, name, super, interfaces) fields))

  abbrev FromFlags : ClassDesc → List ℕ → Type 0
  FromFlags =
      Then FlagsSpell (λ flags.
      Then (Numbered (NamesClassOf pool)) (λ name.
      Then (SuperSpells pool name) (λ super. FromInterfaces flags name super)))

  abbrev methods_on : Head → List FieldDesc → Position → Read ClassDesc
  methods_on h fields p =
      methods_at (rows_of pool) p >>= λ methods.
      attributes_at (rows_of pool) place.Class [] methods.1 >>= λ attrs.
      Ok (of_head h fields methods.0 attrs.0, attrs.1)

  -- what stands in front of the fields was counted, and the fields
  reads_from_methods : (h : Head) (fields : List FieldDesc)
      → Weighs
      (length h.1 + option_texts h.2 + total length h.3 + total field_texts fields) class_texts
      (methods_on h fields) (FromMethods h fields)
  reads_from_methods h fields =
      weighs_then
      (λ begun methods rest. attributes_at (rows_of pool) place.Class [] rest >>= λ attrs.
      Ok (of_head h fields methods attrs.0, attrs.1))
      (reads_methods pool)
      (λ begun methods.
      weighs_made (λ attrs. of_head h fields methods attrs) (λ attrs. omega arith)
      (reads_of_class pool []))

  abbrev interfaces_on : ℕ → List ℕ → Option (List ℕ) → Position → Read ClassDesc
  interfaces_on flags name super p =
      interfaces_at (rows_of pool) p >>= λ interfaces.
      fields_at (rows_of pool) interfaces.1 >>= λ fields.
      methods_on (flags, name, super, interfaces.0) fields.0 fields.1

  reads_from_interfaces : (flags : ℕ) (name : List ℕ) (super : Option (List ℕ))
      → Weighs (length name + option_texts super) class_texts (interfaces_on flags name super)
      (FromInterfaces flags name super)
  reads_from_interfaces flags name super =
      weighs_then
      (λ begun interfaces rest. fields_at (rows_of pool) rest >>= λ fields.
      methods_on (flags, name, super, interfaces) fields.0 fields.1)
      (reads_interfaces pool)
      (λ begun interfaces.
      weighs_then (λ later fields rest. methods_on (flags, name, super, interfaces) fields rest)
      (reads_fields pool)
      (λ later fields. reads_from_methods (flags, name, super, interfaces) fields))

  abbrev flags_on : Position → Read ClassDesc
  flags_on p =
      class_flags_at p >>= λ flags. class_at (rows_of pool) flags.1 >>= λ name.
      super_at (rows_of pool) name.0 name.1 >>= λ super.
      interfaces_on flags.0 name.0 super.0 super.1

  reads_from_flags : Weighs 0 class_texts flags_on FromFlags
  reads_from_flags =
      reads_then
      (λ begun flags rest. class_at (rows_of pool) rest >>= λ name.
      super_at (rows_of pool) name.0 name.1 >>= λ super.
      interfaces_on flags name.0 super.0 super.1)
      reads_flags
      (λ begun flags.
      weighs_then
      (λ later name rest. super_at (rows_of pool) name rest >>= λ super.
      interfaces_on flags name super.0 super.1)
      (weighs_class pool)
      (λ later name.
      weighs_then (λ third super rest. interfaces_on flags name super rest) (reads_super pool name)
      (λ third super.
      counted_before (omega arith) (reads_from_interfaces flags name super))))

  -- the head read as a row of its own
  over_is : (p : Position) → class_over_at version (rows_of pool) p ≡ flags_on p
  unfolding class_over_at head_at
  over_is p =
      regrouped_step (class_flags_at p) _ _ _ (λ flags.
      regrouped_step (class_at (rows_of pool) flags.1) _ _ _ (λ name.
      regrouped_step (super_at (rows_of pool) name.0 name.1) _ _ _ (λ super.
      regrouped_step (interfaces_at (rows_of pool) super.1) _ _ _ (λ interfaces. refl))))

abbrev FileParts : ClassDesc → List ℕ → Type 0
FileParts = Then VersionSpells (λ version. Then PoolSpells (λ pool. FromFlags version pool))

reads_parts : Weighs 0 class_texts file_at FileParts
unfolding file_at
reads_parts =
    reads_then
    (λ begun version rest. pool_at rest >>= λ rows. class_over_at version rows.0 rows.1)
    reads_version
    (λ begun version.
    reads_then_of (λ later rows rest. class_over_at version rows rest) reads_pool
    (λ later pool. reads_same (over_is version pool) (reads_from_flags version pool)))

-- the parts of a file in their order, however they are grouped
regrouped : (first minor major count entries flags this super number interfaces others : List ℕ)
    → (first ++ (minor ++ major)) ++ ((count ++ entries)
    ++ (flags ++ (this ++ (super ++ ((number ++ interfaces) ++ others)))))
    ≡ first ++ (minor ++ (major ++ (count
    ++ (entries ++ (flags ++ (this ++ (super ++ (number ++ (interfaces ++ others)))))))))
regrouped first minor major count entries flags this super number interfaces others =
    simp append_assoc

-- the bytes spell the description, however much text it has
abbrev SpellsSome : ClassDesc → List ℕ → Type 0
SpellsSome d text = (pool : List Entry) × SpellsOver d text pool

to_class_file : (d : ClassDesc) (text : List ℕ) → FileParts d text → SpellsSome d text
to_class_file d text v =
    let p = v.second in
    let flags = p.second in
    let name = flags.second in
    let super = name.second in
    let interfaces = super.second in
    let fields = interfaces.second in
    let methods = fields.second in
    let pool = p.item in
    let these = interfaces.first.numbers in
    let parts : Parts = record {
      this = name.first.number;
      super = super.first.number;
      interfaces = these;
      fields = fields.front;
      methods = methods.front;
      attributes = methods.rest;
    } in
    let others = fields.front ++ (methods.front ++ methods.rest) in
    let from_super = joined interfaces interfaces.first.whole
    (joined fields refl (joined methods refl refl)) in
    let from_flags = joined flags flags.first.whole
    (joined name name.first.is (joined super super.first.is from_super)) in
    let whole = joined v v.first.whole (joined p p.first.whole from_flags) in
    subst (λ d. SpellsSome d text) methods.second.is (
      pool,
      record {
        parts = parts;
        whole = whole ∙ regrouped (to_be_bytes w32 magic) (to_be_bytes w16 v.item.0)
            (to_be_bytes w16 v.item.1) (to_be_bytes w16 (length (numbered pool) + 1))
            (flat_map entry_bytes pool) (to_be_bytes w16 flags.item)
            (to_be_bytes w16 name.first.number) (to_be_bytes w16 super.first.number)
            (to_be_bytes w16 (length these)) (flat_map (to_be_bytes w16) these) others;
        entries = p.first.entries;
        pool_count = p.first.count;
        minor = v.first.minor;
        major = v.first.major;
        flags = flags.first.fits;
        this = name.first.named;
        super = super.first.named;
        super_fits = super.first.fits;
        interface_count = interfaces.first.count;
        interfaces = interfaces.first.named;
        fields = fields.first.spells;
        distinct_fields = fields.first.distinct;
        methods = methods.first.spells;
        distinct_methods = methods.first.distinct;
        attributes = methods.second.spells;
      },
    )

from_super_on : (d : ClassDesc) (pool : List Entry) (bytes : List ℕ) (s : SpellsOver d bytes pool)
    → FromInterfaces (d.minor, d.major) pool d.flags d.name d.super_name d
    ((to_be_bytes w16 (length s.parts.interfaces)
    ++ flat_map (to_be_bytes w16) s.parts.interfaces)
    ++ (s.parts.fields ++ (s.parts.methods ++ s.parts.attributes)))
from_super_on d pool bytes s =
    let parts = s.parts in
    record {
      item = d.interfaces;
      front = to_be_bytes w16 (length parts.interfaces)
          ++ flat_map (to_be_bytes w16) parts.interfaces;
      rest = parts.fields ++ (parts.methods ++ parts.attributes);
      whole = refl;
      first = record {
        numbers = parts.interfaces;
        count = s.interface_count;
        named = s.interfaces;
        whole = refl;
      };
      second = record {
        item = d.fields;
        front = parts.fields;
        rest = parts.methods ++ parts.attributes;
        whole = refl;
        first = record { spells = s.fields; distinct = s.distinct_fields };
        second = record {
          item = d.methods;
          front = parts.methods;
          rest = parts.attributes;
          whole = refl;
          first = record { spells = s.methods; distinct = s.distinct_methods };
          second = record { item = d.attrs; is = refl; spells = s.attributes };
        };
      };
    }

from_class_file : (d : ClassDesc) (text : List ℕ) → SpellsSome d text → FileParts d text
from_class_file d text (pool, s) =
    let parts = s.parts in
    let others = parts.fields ++ (parts.methods ++ parts.attributes) in
    let interfaces = (to_be_bytes w16 (length parts.interfaces)
    ++ flat_map (to_be_bytes w16) parts.interfaces) ++ others in
    let super = to_be_bytes w16 parts.super ++ interfaces in
    let this = to_be_bytes w16 parts.this ++ super in
    let flags = to_be_bytes w16 d.flags ++ this in
    record {
      item = (d.minor, d.major);
      front = to_be_bytes w32 magic ++ (to_be_bytes w16 d.minor ++ to_be_bytes w16 d.major);
      rest = (to_be_bytes w16 (length (numbered pool) + 1) ++ flat_map entry_bytes pool) ++ flags;
      whole = s.whole ∙ sym (regrouped (to_be_bytes w32 magic) (to_be_bytes w16 d.minor)
          (to_be_bytes w16 d.major) (to_be_bytes w16 (length (numbered pool) + 1))
          (flat_map entry_bytes pool) (to_be_bytes w16 d.flags) (to_be_bytes w16 parts.this)
          (to_be_bytes w16 parts.super) (to_be_bytes w16 (length parts.interfaces))
          (flat_map (to_be_bytes w16) parts.interfaces) others);
      first = record { minor = s.minor; major = s.major; whole = refl };
      second = record {
        item = pool;
        front = to_be_bytes w16 (length (numbered pool) + 1) ++ flat_map entry_bytes pool;
        rest = flags;
        whole = refl;
        first = record { count = s.pool_count; entries = s.entries; whole = refl };
        second = record {
          item = d.flags;
          front = to_be_bytes w16 d.flags;
          rest = this;
          whole = refl;
          first = record { fits = s.flags; whole = refl };
          second = record {
            item = d.name;
            front = to_be_bytes w16 parts.this;
            rest = super;
            whole = refl;
            first = record { number = parts.this; fits = s.this.fits; named = s.this; is = refl };
            second = record {
              item = d.super_name;
              front = to_be_bytes w16 parts.super;
              rest = interfaces;
              whole = refl;
              first = record {
                number = parts.super;
                fits = s.super_fits;
                named = s.super;
                is =
                    refl;
              };
              second = from_super_on d pool text s;
            };
          };
        };
      };
    }

reads_file : Weighs 0 class_texts file_at SpellsSome
reads_file = reads_as SpellsSome reads_parts to_class_file from_class_file

-- no byte is left
guard_ended : {A : Type 0} (b : Bool) (fault : ClassFault) (x y : A)
    → cond b (Ok x) (Err fault) ≡ Ok y
    → b ≡ true
guard_ended true fault x y e = refl
guard_ended false fault x y e = absurd cc

-- what is read is spelled
pub class_takes : (bytes : List ℕ) (d : ClassDesc)
    → IsBytes bytes
    → class_of bytes ≡ Ok d
    → ClassSpells d bytes
unfolding class_of
class_takes bytes d fits e =
    let b = bind_ok (file_at (start bytes)) (λ d. ended d.1 >>= λ end. Ok d.0) d e in
    let left = b.0.1 in
    let c = bind_ok (ended left) (λ end. Ok b.0.0) d b.2 in
    let none = guard_ended (eqb (length left.rest) 0) (left_over left left.outer) tt c.0 c.1 in
    let t = reads_file.takes (start bytes) b.0.0 left fits b.1 in
    let nothing : left.rest ≡ [] = nil_from_length left.rest (eqb-true _ _ none) in
    let whole : bytes ≡ t.text = t.parts ∙ ap (λ (r : List ℕ). t.text ++ r) nothing
    ∙ append-nil t.text in
    let s = subst (SpellsSome b.0.0) (sym whole) t.spells in
    subst (λ c. ClassSpells c bytes) (ok_is b.0.0 d c.2) (s.0, s.1, omega (arith, t.spent))

-- what is spelled is read
pub class_again : (bytes : List ℕ) (d : ClassDesc) → ClassSpells d bytes → class_of bytes ≡ Ok d
unfolding class_of
class_again bytes d (pool, s, few) =
    let spare = MOST_TEXT - class_texts d in
    let whole : bytes ++ [] ≡ bytes = append-nil bytes in
    let read : file_at (start bytes) ≡ Ok (d, left_with (start bytes) [] spare) =
    ap (λ (t : List ℕ). file_at (left_with (start bytes) t MOST_TEXT)) (sym whole)
    ∙ reads_file.again (start bytes) d bytes [] spare (pool, s) (omega (arith, few)) in
    rw read refl

pub only_one : (bytes : List ℕ) (d e : ClassDesc) → ClassSpells d bytes → ClassSpells e bytes → d
    ≡ e
only_one bytes d e p q = ok_is d e (sym (class_again bytes d p) ∙ class_again bytes e q)

pub is_found : (bytes : List ℕ) (r : Result ClassDesc ReadErr)
    → IsBytes bytes
    → Answers (λ d. d) r (class_of bytes)
    → IfOk r (λ d. ClassSpells d bytes)
is_found bytes (Ok d) fits exact = class_takes bytes d fits exact
is_found bytes (Err e) fits exact = tt
