-- Reading attributes (JVMS 4.7): the bodies of those that a description keeps; the others are
-- passed over.
use Rattle.std.specs.Prelude.{◌≡◌, ℕ, List, [], ◌∷◌, length, map, Option, Some, None, Result, Ok}
use Rattle.std.specs.Prelude.{Err}
use Rattle.std.specs.Prelude.{if◌then◌else◌}
use Rattle.std.specs.Int.{w16, w32}
use Rattle.std.specs.List.{list_any}
use Rattle.class_desc.specs.declared.attribute.Attr.{Attr}
use Rattle.class_desc.specs.declared.attribute.Attr.TheVariants as attr
use Rattle.class_desc.specs.declared.attribute.ComponentDesc.{ComponentDesc, roll-ComponentDesc}
use Rattle.class_desc.specs.declared.attribute.InnerEntry.{InnerEntry}
use Rattle.class_desc.specs.declared.attribute.ParamEntry.{ParamEntry}
use Rattle.class_desc.specs.declared.attribute_kind.AttributeKind.{AttributeKind}
use Rattle.class_desc.specs.declared.attribute_kind.AttributeKind.TheVariants as kind
use Rattle.class_desc.specs.declared.place.Place.{Place}
use Rattle.class_desc.specs.declared.place.Place.TheVariants as place
use Rattle.java_names.specs.Names.{is_text}
use Rattle.class_desc.specs.Constants.{field_constant}
use Rattle.class_desc.specs.Places.{attribute_name, kept_kind}
use Rattle.pool_reader.specs.declared.fault.ClassKind.TheVariants.{F5, F9}
use Rattle.pool_reader.specs.declared.fault.ClassFault.{ClassFault}
use Rattle.pool_reader.specs.Reading.{◌>>=◌, Position, offset, Read, fault_at, told, number_at}
use Rattle.pool_reader.specs.Reading.{piece_at, within}
use Rattle.pool_reader.specs.Pooled.{Row}
use Rattle.attribute_reader.specs.declared.constants.ConstantPlace.TheVariants as constant
use Rattle.attribute_reader.specs.declared.forms.Form.TheVariants as form
use Rattle.attribute_reader.specs.Forms.{form_fault}
use Rattle.attribute_reader.specs.Items.{text_checked, class_checked, numbered_at, text_at}
use Rattle.attribute_reader.specs.Items.{class_at, constant_at, optional_at, attribute_name_at}
use Rattle.attribute_reader.specs.Items.{counted_at, for_parameters_at, growing}
use Rattle.attribute_reader.specs.Values.{field_descriptor_at, top_value_at, annotations_at}

-- that this text is none of those that were seen: told at this offset
abbrev pub unseen : ℕ → List ℕ → List (List ℕ) → Result (Unit {0}) ClassFault
unseen at text seen = if list_any (is_text text) seen then Err (fault_at at F9) else Ok tt

-- the lists have the same texts, in whatever order
abbrev pub HaveSame : List (List ℕ) → List (List ℕ) → Type 0
HaveSame a b = (text : List ℕ) → list_any (is_text text) a ≡ list_any (is_text text) b

-- an item that is made of the one that is read
abbrev pub made_at : {A B : Type 0} → (A → B) → Read A → Read B
made_at make read = read >>= λ item. Ok (make item.0, item.1)

-- ---- the bodies

abbrev pub name_or_zero_at : List Row → Position → Read (Option (List ℕ))
name_or_zero_at rows = optional_at (text_checked rows (form_fault form.AnyText))

abbrev pub class_or_zero_at : List Row → Position → Read (Option (List ℕ))
class_or_zero_at rows = optional_at (class_checked rows)

-- a class that no entry before has (JVMS 4.7.6)
abbrev pub new_class_checked : List Row → List (List ℕ) → ℕ → ℕ → Result (List ℕ) ClassFault
new_class_checked rows seen at n =
    class_checked rows at n >>= λ name. unseen at name seen >>= λ new. Ok name

abbrev pub inner_name_at : List Row → List (List ℕ) → Position → Read (List ℕ)
inner_name_at rows seen = numbered_at length (new_class_checked rows seen)

-- an entry of InnerClasses, of a class that was not seen (JVMS 4.7.6)
unfoldable pub inner_class_at : List Row → List (List ℕ) → Position → Read InnerEntry
inner_class_at rows seen p = do
  inner ← inner_name_at rows seen p
  outer ← class_or_zero_at rows inner.1
  name ← name_or_zero_at rows outer.1
  flags ← number_at w16 name.1
  Ok (
    record { inner = inner.0; outer = outer.0; name = name.0; flags = flags.0 },
    flags.1,
  )

-- an entry behind these
abbrev pub next_inner_class_at : List Row → List InnerEntry → Position → Read (List InnerEntry)
next_inner_class_at rows before p =
    made_at (λ e. e ∷ []) (inner_class_at rows (map (λ e. e.inner) before) p)

unfoldable pub inner_classes_at : List Row → Position → Read (List InnerEntry)
inner_classes_at rows p = do
  count ← number_at w16 p
  growing (next_inner_class_at rows) [] count.0 count.1

-- an entry of MethodParameters (JVMS 4.7.24)
unfoldable pub parameter_at : List Row → Position → Read ParamEntry
parameter_at rows p = do
  name ← name_or_zero_at rows p
  flags ← number_at w16 name.1
  Ok (record { name = name.0; flags = flags.0 }, flags.1)

-- The components of a class, by how each is read (JVMS 4.7.30). No other place keeps a Record.
unfoldable pub record_at : (Position → Read ComponentDesc) → Place → Position
    → Read (List ComponentDesc)
record_at component place.Class p = counted_at component p
record_at component place.Field p = Err (told p F5)
record_at component place.Method p = Err (told p F5)
record_at component place.Component p = Err (told p F5)

-- an attribute that is passed over, behind its name
unfoldable pub passed_body_at : Position → Read (Unit {0})
passed_body_at p = do
  count ← number_at w32 p
  body ← piece_at count.0 count.1
  Ok (tt, body.1)

module _ (rows : List Row) (component : Position → Read ComponentDesc) where
  -- the body of an attribute of each kind
  abbrev pub body_of : Place → List ℕ → AttributeKind → Position → Read Attr
  body_of place descriptor kind.ConstantValue p =
      made_at attr.ConstantValue
      (constant_at constant.Field rows (field_constant descriptor) p)
  body_of place descriptor kind.Exceptions p =
      made_at attr.Exceptions (counted_at (class_at rows) p)
  body_of place descriptor kind.Signature p =
      made_at attr.Signature (text_at rows (form_fault (form.Signature place)) p)
  body_of place descriptor kind.Deprecated p = Ok (attr.Deprecated, p)
  body_of place descriptor kind.Synthetic p = Ok (attr.Synthetic, p)
  body_of place descriptor kind.InnerClasses p =
      made_at attr.InnerClasses (inner_classes_at rows p)
  body_of place descriptor kind.Record p = made_at attr.Components (record_at component place p)
  body_of place descriptor kind.PermittedSubclasses p =
      made_at attr.PermittedSubclasses (counted_at (class_at rows) p)
  body_of place descriptor kind.AnnotationDefault p =
      made_at attr.AnnotationDefault (top_value_at rows p)
  body_of place descriptor kind.MethodParameters p =
      made_at attr.MethodParameters (for_parameters_at (parameter_at rows) p)
  body_of place descriptor kind.VisibleAnnotations p =
      made_at attr.VisibleAnns (annotations_at rows p)
  body_of place descriptor kind.InvisibleAnnotations p =
      made_at attr.InvisibleAnns (annotations_at rows p)
  body_of place descriptor kind.VisibleParameterAnnotations p =
      made_at attr.VisibleParamAnns (for_parameters_at (annotations_at rows) p)
  body_of place descriptor kind.InvisibleParameterAnnotations p =
      made_at attr.InvisibleParamAnns (for_parameters_at (annotations_at rows) p)

  -- ---- lists of attributes

  -- What stands behind the name of an attribute, which stands at this offset: of one that is kept,
  -- where none of its name was seen. Nothing is kept of one that is passed over.
  abbrev pub behind_name : Place → List ℕ → List (List ℕ) → ℕ → List ℕ → Option AttributeKind
      → Position → Read (List Attr)
  behind_name place descriptor seen at name None p = made_at (λ passed. []) (passed_body_at p)
  behind_name place descriptor seen at name (Some kind) p =
      unseen at name seen >>= λ new.
      made_at (λ attribute. attribute ∷ []) (within (body_of place descriptor kind) p)

  -- an attribute behind those that were kept before, if this one is kept
  unfoldable pub attribute_at : Place → List ℕ → List Attr → Position → Read (List Attr)
  attribute_at place descriptor before p = do
    name ← attribute_name_at rows p
    behind_name place descriptor (map attribute_name before) (offset p) name.0
        (kept_kind place name.0) name.1

  unfoldable pub attributes_over : Place → List ℕ → Position → Read (List Attr)
  attributes_over place descriptor p = do
    count ← number_at w16 p
    growing (attribute_at place descriptor) [] count.0 count.1

-- a component of a record, which keeps no Record of its own (JVMS 4.7.30)
unfoldable pub component_at : List Row → Position → Read ComponentDesc
component_at rows p = do
  name ← text_at rows (form_fault form.FieldName) p
  descriptor ← field_descriptor_at rows name.1
  attrs ← attributes_over rows (λ q. Err (told q F5)) place.Component descriptor.0 descriptor.1
  Ok (
    roll-ComponentDesc (record {
      name = name.0;
      descriptor = descriptor.0;
      attrs = attrs.0;
    }),
    attrs.1,
  )

-- how a component is read, where attributes stand here
abbrev pub component_of : List Row → Place → Position → Read ComponentDesc
component_of rows place.Class = component_at rows
component_of rows place.Field = component_at rows
component_of rows place.Method = component_at rows
component_of rows place.Component = λ q. Err (told q F5)

-- the attributes that are kept, their count first; at a field the descriptor is the field's
abbrev pub attributes_at : List Row → Place → List ℕ → Position → Read (List Attr)
attributes_at rows place descriptor =
    attributes_over rows (component_of rows place) place descriptor
