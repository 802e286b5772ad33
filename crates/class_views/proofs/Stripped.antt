-- A file of the stripped description has the pool of the description's file, of the bytes of the
-- members those of the members that stay, and the bytes of what is left of the attributes.
use Rattle.std.proofs.Common.{◌≡◌, ◌∙◌, ℕ, ◌+◌, List, [], ◌++◌, length, refl, sym}
use Rattle.std.proofs.Common.{subst, append_assoc, arith}
use Rattle.std.specs.List.{flat_map}
use Rattle.std.specs.Int.{w16, w32, to_be_bytes}
use Rattle.class_desc.specs.declared.class.ClassDesc.{ClassDesc}
use Rattle.class_desc.specs.declared.place.Place.TheVariants as place
use Rattle.class_desc.specs.Attributes.{ComponentSpells}
use Rattle.class_desc.specs.Pool.{Entry, entry_bytes, numbered}
use Rattle.class_desc.specs.ClassFile.{FieldSpells, MethodSpells, is_key, field_key, method_key}
use Rattle.class_desc.specs.ClassFile.{Parts, magic, file_bytes, IsValid}
use Rattle.class_views.specs.Strip.{stays_field, stays_method, strip_class}
use Rattle.lemmas.proofs.Lists.{all_append, all_front, all_behind}
use Rattle.class_views.proofs.Filtered.{IsByte, AreBytes, distinct_stay, counted_stay}
use Rattle.class_views.proofs.StrippedAttributes.{attributes_left}
use Rattle.class_views.proofs.StrippedTexts.{stripped_texts}

-- the parts of a file in front of its members
before_members : ClassDesc → List Entry → Parts → List ℕ
before_members d pool p =
    to_be_bytes w32 magic ++ (to_be_bytes w16 d.minor ++ (to_be_bytes w16 d.major
    ++ (to_be_bytes w16 (length (numbered pool) + 1) ++ (flat_map entry_bytes pool
    ++ (to_be_bytes w16 d.flags ++ (to_be_bytes w16 p.this ++ (to_be_bytes w16 p.super
    ++ (to_be_bytes w16 (length p.interfaces) ++ flat_map (to_be_bytes w16) p.interfaces))))))))

regrouped : (a b c d e f g h i j rest : List ℕ)
    → a ++ (b ++ (c ++ (d ++ (e ++ (f ++ (g ++ (h ++ (i ++ (j ++ rest)))))))))
    ≡ (a ++ (b ++ (c ++ (d ++ (e ++ (f ++ (g ++ (h ++ (i ++ j))))))))) ++ rest
regrouped a b c d e f g h i j rest = simp append_assoc

in_two : (d : ClassDesc) (pool : List Entry) (p : Parts) → file_bytes d pool p
    ≡ before_members d pool p ++ (p.fields ++ (p.methods ++ p.attributes))
unfolding before_members
in_two d pool p =
    regrouped (to_be_bytes w32 magic) (to_be_bytes w16 d.minor) (to_be_bytes w16 d.major)
    (to_be_bytes w16 (length (numbered pool) + 1)) (flat_map entry_bytes pool)
    (to_be_bytes w16 d.flags) (to_be_bytes w16 p.this) (to_be_bytes w16 p.super)
    (to_be_bytes w16 (length p.interfaces)) (flat_map (to_be_bytes w16) p.interfaces)
    (p.fields ++ (p.methods ++ p.attributes))

pub stripped_valid : (d : ClassDesc) → IsValid d → IsValid (strip_class d)
unfolding before_members
stripped_valid d (bytes, all, (pool, s, few)) =
    let p = s.parts in
    let front = before_members d pool p in
    let parts : AreBytes (front ++ (p.fields ++ (p.methods ++ p.attributes))) =
    subst AreBytes (s.whole ∙ in_two d pool p) all in
    let members : AreBytes (p.fields ++ (p.methods ++ p.attributes)) =
    all_behind IsByte front (p.fields ++ (p.methods ++ p.attributes)) parts in
    let behind : AreBytes (p.methods ++ p.attributes) =
    all_behind IsByte p.fields (p.methods ++ p.attributes) members in
    let fields = counted_stay stays_field (FieldSpells pool) d.fields p.fields
    (all_front IsByte p.fields (p.methods ++ p.attributes) members) s.fields in
    let methods = counted_stay stays_method (MethodSpells pool) d.methods p.methods
    (all_front IsByte p.methods p.attributes behind) s.methods in
    let attributes = attributes_left d pool place.Class [] (ComponentSpells pool) d.attrs
    p.attributes (all_behind IsByte p.methods p.attributes behind) s.attributes in
    let left : Parts = record p {
      fields = fields.bytes;
      methods = methods.bytes;
      attributes = attributes.bytes;
    } in
    let fit : AreBytes (front ++ (fields.bytes ++ (methods.bytes ++ attributes.bytes))) =
    all_append IsByte front (fields.bytes ++ (methods.bytes ++ attributes.bytes))
    (all_front IsByte front (p.fields ++ (p.methods ++ p.attributes)) parts)
    (all_append IsByte fields.bytes (methods.bytes ++ attributes.bytes) fields.are
    (all_append IsByte methods.bytes attributes.bytes methods.are attributes.are)) in (
      file_bytes (strip_class d) pool left,
      subst AreBytes (sym (in_two (strip_class d) pool left)) fit,
      (
        pool,
        record {
          parts = left;
          whole = refl;
          entries = s.entries;
          pool_count = s.pool_count;
          minor = s.minor;
          major = s.major;
          flags = s.flags;
          this = s.this;
          super = s.super;
          super_fits = s.super_fits;
          interface_count = s.interface_count;
          interfaces = s.interfaces;
          fields = fields.spelled;
          distinct_fields = distinct_stay stays_field field_key is_key d.fields s.distinct_fields;
          methods = methods.spelled;
          distinct_methods = distinct_stay stays_method method_key is_key d.methods
              s.distinct_methods;
          attributes = attributes.spelled;
        },
        omega (arith, stripped_texts d, few),
      ),
    )
