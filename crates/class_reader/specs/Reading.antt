-- Reading a class file from front to back (JVMS 4.1), item by item, up to the first check that
-- fails.
use Rattle.std.specs.Prelude.{◌≡◌, ℕ, zero, suc, ◌^◌, ◌||◌, List, [], ◌∷◌}
use Rattle.std.specs.Prelude.{◌++◌, length}
use Rattle.std.specs.Prelude.{Option, Some, None, Result, Ok, Err, nat_lt, ◌==◌, if◌then◌else◌}
use Rattle.std.specs.Int.{w16, w32}
use Rattle.std.specs.List.{list_any}
use Rattle.class_desc.specs.declared.class.ClassDesc.{ClassDesc}
use Rattle.class_desc.specs.declared.class.FieldDesc.{FieldDesc}
use Rattle.class_desc.specs.declared.class.MethodDesc.{MethodDesc}
use Rattle.class_desc.specs.declared.place.Place.{Place}
use Rattle.class_desc.specs.declared.place.Place.TheVariants as place
use Rattle.java_names.specs.Names.{is_text}
use Rattle.class_desc.specs.ClassFile.{object_name, magic, Key, is_key}
use Rattle.pool_reader.specs.declared.fault.ClassKind.TheVariants.{F2, F3, F9, F11}
use Rattle.pool_reader.specs.declared.fault.ClassFault.{ClassFault}
use Rattle.pool_reader.specs.Reading.{◌>>=◌, Position, offset, start, Read, fault_at, told}
use Rattle.pool_reader.specs.Reading.{number_at, spent_at, ended}
use Rattle.pool_reader.specs.Pooled.{Row, pool_at}
use Rattle.attribute_reader.specs.declared.forms.Form.{Form}
use Rattle.attribute_reader.specs.declared.forms.Form.TheVariants as form
use Rattle.attribute_reader.specs.Attributes.{attributes_at}
use Rattle.attribute_reader.specs.Forms.{form_fault}
use Rattle.attribute_reader.specs.Items.{text_at, class_checked, class_at, counted_at}
use Rattle.class_reader.specs.declared.member.Member.{Member}
use Rattle.class_reader.specs.declared.member.MemberKind.{MemberKind}
use Rattle.class_reader.specs.declared.member.MemberKind.TheVariants as kind
use Rattle.class_reader.specs.declared.head.Head.{Head}

-- the magic and the two parts of the version: 45 to 61 are JDK 1.0.2 to Java SE 17 (JVMS table
-- 4.1-A)
unfoldable pub version_at : Position → Read (ℕ × ℕ)
version_at p = do
  first ← number_at w32 p
  minor ← (if first.0 == magic then number_at w16 first.1 else Err (told p F2))
  major ← number_at w16 minor.1
  if nat_lt major.0 45 || nat_lt 61 major.0 then Err (told minor.1 F3) else Ok
      ((minor.0, major.0), major.1)

-- ---- the head of a class

-- the flags of a class: without the highest bit, MODULE
unfoldable pub class_flags_at : Position → Read ℕ
class_flags_at p = do
  flags ← number_at w16 p
  if nat_lt flags.0 (2 ^ 15) then Ok flags else Err (told p F11)

-- The superclass of the class of this name. Only java/lang/Object has none, and it has none.
unfoldable pub super_at : List Row → List ℕ → Position → Read (Option (List ℕ))
super_at rows name p = do
  n ← number_at w16 p
  if n.0 == 0
      then (if is_text name object_name then Ok (None, n.1) else Err (told p F11))
      else (class_checked rows (offset p) n.0 >>= λ super.
      if is_text name object_name then Err (told p F11) else
      (spent_at (offset p) (length super) n.1 >>= λ room. Ok (Some super, room.1)))

unfoldable pub interfaces_at : List Row → Position → Read (List (List ℕ))
interfaces_at rows p = counted_at (class_at rows) p

-- what stands between the pool and the fields
unfoldable pub head_at : List Row → Position → Read Head
head_at rows p = do
  flags ← class_flags_at p
  name ← class_at rows flags.1
  super ← super_at rows name.0 name.1
  interfaces ← interfaces_at rows super.1
  Ok (
    record { flags = flags.0; name = name.0; super_name = super.0; interfaces = interfaces.0 },
    interfaces.1,
  )

-- ---- fields and methods

abbrev pub place_of : MemberKind → Place
place_of kind.Field = place.Field
place_of kind.Method = place.Method

abbrev pub name_form : MemberKind → Form
name_form kind.Field = form.FieldName
name_form kind.Method = form.MethodName

-- the form of the descriptor of a member of these flags
abbrev pub descriptor_form : MemberKind → ℕ → Form
descriptor_form kind.Field flags = form.FieldDescriptor
descriptor_form kind.Method flags = form.MethodDescriptor flags

-- that no member was seen that has this name and descriptor: told at the name's offset
abbrev pub unseen : ℕ → Key → List Key → Result (Unit {0}) ClassFault
unseen at key seen = if list_any (is_key key) seen then Err (fault_at at F9) else Ok tt

-- the lists have the same keys, in whatever order
abbrev pub HaveSame : List Key → List Key → Type 0
HaveSame a b = (key : Key) → list_any (is_key key) a ≡ list_any (is_key key) b

-- What stands in front of the attributes of a member. That it is new is the last check of the
-- descriptor.
unfoldable pub signed_at : List Row → MemberKind → List Key → Position → Read (ℕ × List ℕ × List ℕ)
signed_at rows kind seen p = do
  flags ← number_at w16 p
  name ← text_at rows (form_fault (name_form kind)) flags.1
  descriptor ← text_at rows (form_fault (descriptor_form kind flags.0)) name.1
  new ← unseen (offset flags.1) (name.0, descriptor.0) seen
  Ok ((flags.0, name.0, descriptor.0), descriptor.1)

unfoldable pub member_at : List Row → MemberKind → List Key → Position → Read Member
member_at rows kind seen p = do
  front ← signed_at rows kind seen p
  attrs ← attributes_at rows (place_of kind) front.0.2 front.1
  Ok (
    record { flags = front.0.0; name = front.0.1; descriptor = front.0.2; attrs = attrs.0 },
    attrs.1,
  )

-- as many members as that, of which none has the name and descriptor of another
unfoldable pub members_at : {A : Type 0} → (Member → A) → (List Key → Position → Read Member)
    → List Key → ℕ → Position → Read (List A)
members_at make read seen zero p = Ok ([], p)
members_at make read seen (suc n) p = do
  m ← read seen p
  ms ← members_at make read (seen ++ (m.0.name, m.0.descriptor) ∷ []) n m.1
  Ok (make m.0 ∷ ms.0, ms.1)

abbrev pub as_field : Member → FieldDesc
as_field m = record { flags = m.flags; name = m.name; descriptor = m.descriptor; attrs = m.attrs }

abbrev pub as_method : Member → MethodDesc
as_method m = record { flags = m.flags; name = m.name; descriptor = m.descriptor; attrs = m.attrs }

unfoldable pub fields_at : List Row → Position → Read (List FieldDesc)
fields_at rows p = do
  count ← number_at w16 p
  members_at as_field (member_at rows kind.Field) [] count.0 count.1

unfoldable pub methods_at : List Row → Position → Read (List MethodDesc)
methods_at rows p = do
  count ← number_at w16 p
  members_at as_method (member_at rows kind.Method) [] count.0 count.1

-- ---- the class

-- the class of this version over this pool
unfoldable pub class_over_at : ℕ × ℕ → List Row → Position → Read ClassDesc
class_over_at version rows p = do
  head ← head_at rows p
  fields ← fields_at rows head.1
  methods ← methods_at rows fields.1
  attrs ← attributes_at rows place.Class [] methods.1
  Ok (
    record {
      minor = version.0;
      major = version.1;
      flags = head.0.flags;
      name = head.0.name;
      super_name = head.0.super_name;
      interfaces = head.0.interfaces;
      fields = fields.0;
      methods = methods.0;
      attrs = attrs.0;
    },
    attrs.1,
  )

-- the class at the front
unfoldable pub file_at : Position → Read ClassDesc
file_at p = do
  version ← version_at p
  rows ← pool_at version.1
  class_over_at version.0 rows.0 rows.1

-- the class of a whole file: no byte follows it
unfoldable pub class_of : List ℕ → Result ClassDesc ClassFault
class_of bytes = do
  d ← file_at (start bytes)
  end ← ended d.1
  Ok d.0
