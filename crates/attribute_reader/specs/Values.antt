-- Reading values of elements and annotations (JVMS 4.7.16, 4.7.16.1).
use Rattle.std.specs.Prelude.{ℕ, zero, suc, ◌==◌, ◌||◌, Bool, List, Option, Some, None, is_some}
use Rattle.std.specs.Prelude.{Ok, Err, if◌then◌else◌}
use Rattle.std.specs.Int.{w8}
use Rattle.class_desc.specs.declared.annotation.AnnDesc.{AnnDesc, roll-AnnDesc}
use Rattle.class_desc.specs.declared.annotation.ElemPair.{ElemPair, roll-ElemPair}
use Rattle.class_desc.specs.declared.annotation.ElemValue.{ElemValue}
use Rattle.class_desc.specs.declared.annotation.ElemValue.TheVariants as value
use Rattle.class_desc.specs.declared.annotation.TheConstants.{DEEPEST_VALUE}
use Rattle.class_desc.specs.declared.constant_kind.ConstantKind.{ConstantKind}
use Rattle.class_desc.specs.declared.element_tag.TheConstants.{ENUMERATED, CLASS, ANNOTATION, LIST}
use Rattle.class_desc.specs.Constants.{element_constant}
use Rattle.pool_reader.specs.declared.fault.ClassKind.TheVariants.{F7, F12}
use Rattle.pool_reader.specs.Reading.{◌>>=◌, Position, offset, Read, fault_at, told, number_at}
use Rattle.pool_reader.specs.Pooled.{Row}
use Rattle.attribute_reader.specs.declared.constants.ConstantPlace.TheVariants as place
use Rattle.attribute_reader.specs.declared.forms.Form.TheVariants as form
use Rattle.attribute_reader.specs.Forms.{form_fault}
use Rattle.attribute_reader.specs.Items.{constant_at, text_at, counted_at}

abbrev pub any_text_at : List Row → Position → Read (List ℕ)
any_text_at rows = text_at rows (form_fault form.AnyText)

abbrev pub field_descriptor_at : List Row → Position → Read (List ℕ)
field_descriptor_at rows = text_at rows (form_fault form.FieldDescriptor)

-- the tags of values (JVMS table 4.7.16.1-A)
abbrev pub is_tag : ℕ → Bool
is_tag tag =
    tag == ENUMERATED || tag == CLASS || tag == ANNOTATION || tag == LIST
    || is_some (element_constant tag)

-- ---- an annotation, by how the values of its elements are read

unfoldable pub element_at : List Row → (Position → Read ElemValue) → Position → Read ElemPair
element_at rows read p = do
  name ← any_text_at rows p
  value ← read name.1
  Ok (roll-ElemPair (record { name = name.0; value = value.0 }), value.1)

unfoldable pub annotation_over : List Row → (Position → Read ElemValue) → Position → Read AnnDesc
annotation_over rows read p = do
  descriptor ← field_descriptor_at rows p
  elements ← counted_at (element_at rows read) descriptor.1
  Ok (
    roll-AnnDesc (record { descriptor = descriptor.0; elements = elements.0 }),
    elements.1,
  )

-- ---- what stands behind a tag, by how values in it are read

unfoldable pub enumerated_at : List Row → Position → Read ElemValue
enumerated_at rows p = do
  descriptor ← field_descriptor_at rows p
  name ← any_text_at rows descriptor.1
  Ok (value.Enumerated descriptor.0 name.0, name.1)

unfoldable pub class_value_at : List Row → Position → Read ElemValue
class_value_at rows p = do
  descriptor ← text_at rows (form_fault form.ReturnDescriptor) p
  Ok (value.ClassOf descriptor.0, descriptor.1)

unfoldable pub nested_at : List Row → (Position → Read ElemValue) → Position → Read ElemValue
nested_at rows read p = do
  annotation ← annotation_over rows read p
  Ok (value.Nested annotation.0, annotation.1)

unfoldable pub list_at : (Position → Read ElemValue) → Position → Read ElemValue
list_at read p = do
  values ← counted_at read p
  Ok (value.List values.0, values.1)

-- a constant under a tag of this offset
unfoldable pub constant_value_at : List Row → Option ConstantKind → ℕ → ℕ → Position
    → Read ElemValue
constant_value_at rows None tag tag_at p = Err (fault_at tag_at F7)
constant_value_at rows (Some kind) tag tag_at p = do
  constant ← constant_at place.Element rows (Some kind) p
  Ok (value.Const tag constant.0, constant.1)

unfoldable pub behind_tag : List Row → (Position → Read ElemValue) → ℕ → ℕ → Position
    → Read ElemValue
behind_tag rows read tag tag_at p =
    if tag == ENUMERATED then enumerated_at rows p
    else if tag == CLASS then class_value_at rows p
    else if tag == ANNOTATION then nested_at rows read p
    else if tag == LIST then list_at read p
    else constant_value_at rows (element_constant tag) tag tag_at p

-- ---- values

-- A value, nested at most as deep as this. An unknown tag is told before one that is too deep.
unfoldable pub value_at : List Row → ℕ → Position → Read ElemValue
value_at rows zero p = do
  tag ← number_at w8 p
  if is_tag tag.0 then Err (told p F12) else Err (told p F7)
value_at rows (suc left) p = do
  tag ← number_at w8 p
  behind_tag rows (value_at rows left) tag.0 (offset p) tag.1

-- a value that stands in no other
abbrev pub top_value_at : List Row → Position → Read ElemValue
top_value_at rows = value_at rows DEEPEST_VALUE

abbrev pub annotation_at : List Row → Position → Read AnnDesc
annotation_at rows = annotation_over rows (top_value_at rows)

-- annotations behind their count (JVMS 4.7.16, 4.7.17)
abbrev pub annotations_at : List Row → Position → Read (List AnnDesc)
annotations_at rows = counted_at (annotation_at rows)
