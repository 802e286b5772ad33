-- The one class file of a description (JVMS 4.1), over the pool of what it needs, each entry at
-- its first need.
-- The layout is total: it gives a file for descriptions too that no class file spells.
use Rattle.std.specs.Prelude.{ℕ, ◌+◌, ◌-◌, ◌^◌, ◌==◌, ◌&&◌, Bool, false, not, min, List, []}
use Rattle.std.specs.Prelude.{◌∷◌, ◌++◌, length, filter, Option, Some, None, if◌then◌else◌}
use Rattle.std.specs.List.{flat_map, sum_by}
use Rattle.std.specs.Int.{w8, w16, w32, w64, to_be_bytes, cast_unsigned}
use Rattle.class_desc.specs.declared.annotation.AnnDesc.{AnnDesc, fold-AnnDesc}
use Rattle.class_desc.specs.declared.annotation.ElemPair.{ElemPair, fold-ElemPair}
use Rattle.class_desc.specs.declared.annotation.ElemValue.{ElemValue, fold-ElemValue}
use Rattle.class_desc.specs.declared.annotation.ElemValue.TheOpen.{ElemValue-F, AnnDesc-F}
use Rattle.class_desc.specs.declared.annotation.ElemValue.TheOpen.{ElemPair-F}
use Rattle.class_desc.specs.declared.attribute.Attr.{Attr, out-Attr, fold-Attr}
use Rattle.class_desc.specs.declared.attribute.Attr.TheOpen.{Attr-F, ComponentDesc-F}
use Rattle.class_desc.specs.declared.attribute.ComponentDesc.{ComponentDesc, fold-ComponentDesc}
use Rattle.class_desc.specs.declared.attribute.InnerEntry.{InnerEntry}
use Rattle.class_desc.specs.declared.attribute.ParamEntry.{ParamEntry}
use Rattle.class_desc.specs.declared.constant_kind.NumberKind.{NumberKind}
use Rattle.class_desc.specs.declared.constant_kind.NumberKind.TheVariants as kind
use Rattle.class_desc.specs.declared.element_tag.TheConstants.{ENUMERATED, CLASS, ANNOTATION, LIST}
use Rattle.class_desc.specs.declared.class.ClassDesc.{ClassDesc}
use Rattle.class_desc.specs.declared.class.FieldDesc.{FieldDesc}
use Rattle.class_desc.specs.declared.class.MethodDesc.{MethodDesc}
use Rattle.class_desc.specs.declared.value.Value.{Value}
use Rattle.class_desc.specs.declared.value.Value.TheVariants as constant
use Rattle.java_names.specs.Names.{is_text}
use Rattle.class_desc.specs.Places.{layer_name}
use Rattle.class_desc.specs.ClassFile.{magic}

-- ---- entries of the pool

-- JVMS table 4.4-A
abbrev pub number_tag : NumberKind → ℕ
number_tag kind.Integer = 3
number_tag kind.Float = 4
number_tag kind.Long = 5
number_tag kind.Double = 6

-- what something in a class file needs in the pool, by what it says
pub data Need : Type 0 where
  -- a text (JVMS 4.4.7)
  TextNeed : List ℕ → Need
  -- the class of this name (JVMS 4.4.1)
  ClassNeed : List ℕ → Need
  -- the string of this text (JVMS 4.4.3)
  StringNeed : List ℕ → Need
  -- a number of these bits (JVMS 4.4.4, 4.4.5)
  NumberNeed : NumberKind → ℕ → Need

abbrev pub is_need : Need → Need → Bool
is_need (TextNeed a) (TextNeed b) = is_text a b
is_need (ClassNeed a) (ClassNeed b) = is_text a b
is_need (StringNeed a) (StringNeed b) = is_text a b
is_need (NumberNeed k a) (NumberNeed l b) = (number_tag k == number_tag l) && (a == b)
is_need _ _ = false

-- an entry with the entry that it names before it
abbrev pub with_its_text : Need → List Need
with_its_text (TextNeed text) = TextNeed text ∷ []
with_its_text (ClassNeed name) = TextNeed name ∷ ClassNeed name ∷ []
with_its_text (StringNeed text) = TextNeed text ∷ StringNeed text ∷ []
with_its_text (NumberNeed kind bits) = NumberNeed kind bits ∷ []

-- how many numbers an entry takes: a long and a double take the one behind theirs too (JVMS 4.4.5)
abbrev pub kind_width : NumberKind → ℕ
kind_width kind.Integer = 1
kind_width kind.Float = 1
kind_width kind.Long = 2
kind_width kind.Double = 2

abbrev pub width : Need → ℕ
width (TextNeed text) = 1
width (ClassNeed name) = 1
width (StringNeed text) = 1
width (NumberNeed kind bits) = kind_width kind

-- the number of a need in the pool: one more than the widths of those before it
abbrev pub number_in : List Need → Need → ℕ
number_in [] need = 1
number_in (first ∷ pool) need = if is_need need first then 1 else width first + number_in pool need

abbrev pub bits_bytes : NumberKind → ℕ → List ℕ
bits_bytes kind.Integer bits = to_be_bytes w32 bits
bits_bytes kind.Float bits = to_be_bytes w32 bits
bits_bytes kind.Long bits = to_be_bytes w64 bits
bits_bytes kind.Double bits = to_be_bytes w64 bits

-- the bytes of an entry of the pool: its tag, and what stands behind it
abbrev pub need_bytes : List Need → Need → List ℕ
need_bytes pool (TextNeed text) = 1 ∷ to_be_bytes w16 (length text) ++ text
need_bytes pool (ClassNeed name) = 7 ∷ to_be_bytes w16 (number_in pool (TextNeed name))
need_bytes pool (StringNeed text) = 8 ∷ to_be_bytes w16 (number_in pool (TextNeed text))
need_bytes pool (NumberNeed kind bits) = number_tag kind ∷ bits_bytes kind bits

-- ---- what stands behind the pool

pub data Item : Type 0 where
  -- the tag of an element's value, in one byte (JVMS 4.7.16.1)
  Tag : ℕ → Item
  -- flags, in two bytes
  Flags : ℕ → Item
  -- the number of parameters, in one byte (JVMS 4.7.18, 4.7.19, 4.7.24)
  ParameterCount : ℕ → Item
  -- the length of another list, in two bytes
  Count : ℕ → Item
  -- the length of an attribute's body, in four bytes (JVMS 4.7)
  BodyLength : ℕ → Item
  -- the number of an entry, in two bytes
  EntryNumber : Need → Item
  -- the number 0, in place of that of an entry
  NoEntry : Item

-- how many bytes an item has
abbrev pub item_size : Item → ℕ
item_size (Tag tag) = 1
item_size (Flags flags) = 2
item_size (ParameterCount count) = 1
item_size (Count count) = 2
item_size (BodyLength bytes) = 4
item_size (EntryNumber need) = 2
item_size NoEntry = 2

abbrev pub size : List Item → ℕ
size items = sum_by item_size items

-- the bytes of an item, of a number that is too great for its field the low ones
abbrev pub item_bytes : (Need → ℕ) → Item → List ℕ
item_bytes number (Tag tag) = tag ∷ []
item_bytes number (Flags flags) = to_be_bytes w16 flags
item_bytes number (ParameterCount count) = to_be_bytes w8 count
item_bytes number (Count count) = to_be_bytes w16 count
item_bytes number (BodyLength bytes) = to_be_bytes w32 bytes
item_bytes number (EntryNumber need) = to_be_bytes w16 (number need)
item_bytes number NoEntry = to_be_bytes w16 0

abbrev pub item_needs : Item → List Need
item_needs (EntryNumber need) = with_its_text need
item_needs _ = []

abbrev pub text_item : List ℕ → Item
text_item text = EntryNumber (TextNeed text)

abbrev pub class_item : List ℕ → Item
class_item name = EntryNumber (ClassNeed name)

abbrev pub or_no_entry : (List ℕ → Item) → Option (List ℕ) → Item
or_no_entry item None = NoEntry
or_no_entry item (Some text) = item text

-- a list behind its length
abbrev pub counted : {A : Type 0} → (A → List Item) → List A → List Item
counted items list = Count (length list) ∷ flat_map items list

-- a list with an item for each parameter, behind their number
abbrev pub for_parameters : {A : Type 0} → (A → List Item) → List A → List Item
for_parameters items list = ParameterCount (length list) ∷ flat_map items list

-- the entry of a constant is that of its own kind; what a text gives depends on its place
abbrev pub constant_need : (List ℕ → Need) → Value → Need
constant_need of_text (constant.Integer number) =
    NumberNeed kind.Integer (cast_unsigned w32 number)
constant_need of_text (constant.Long number) = NumberNeed kind.Long (cast_unsigned w64 number)
constant_need of_text (constant.Raw32 bits) = NumberNeed kind.Float bits
constant_need of_text (constant.Raw64 bits) = NumberNeed kind.Double bits
constant_need of_text (constant.Str text) = of_text text

-- ---- values and annotations (JVMS 4.7.16, 4.7.16.1, 4.7.17), each made of the items of its parts

abbrev pub value_layer : ElemValue-F (List Item) (List Item) (List Item) → List Item
value_layer (ElemValue-F.Const tag value) = Tag tag ∷ EntryNumber (constant_need TextNeed value)
    ∷ []
value_layer (ElemValue-F.Enumerated descriptor name) = Tag ENUMERATED ∷ text_item descriptor
    ∷ text_item name ∷ []
value_layer (ElemValue-F.ClassOf descriptor) = Tag CLASS ∷ text_item descriptor ∷ []
value_layer (ElemValue-F.Nested annotation) = Tag ANNOTATION ∷ annotation
value_layer (ElemValue-F.List values) = Tag LIST ∷ counted (λ value. value) values

abbrev pub annotation_layer : AnnDesc-F (List Item) (List Item) (List Item) → List Item
annotation_layer a = text_item a.descriptor ∷ counted (λ element. element) a.elements

abbrev pub element_layer : ElemPair-F (List Item) (List Item) (List Item) → List Item
element_layer e = text_item e.name ∷ e.value

unfoldable pub value_items : ElemValue → List Item
value_items value =
    fold-ElemValue (List Item) (List Item)
    (List Item) value_layer annotation_layer element_layer value

unfoldable pub annotation_items : AnnDesc → List Item
annotation_items annotation =
    fold-AnnDesc (List Item) (List Item)
    (List Item) value_layer annotation_layer element_layer annotation

unfoldable pub element_items : ElemPair → List Item
element_items element =
    fold-ElemPair (List Item) (List Item)
    (List Item) value_layer annotation_layer element_layer element

-- ---- attributes (JVMS 4.7)

-- a size is told up to the greatest number of 64 bits
abbrev pub told : ℕ → ℕ
told n = min n (2 ^ 64 - 1)

-- an attribute is the number of its name, the length of its body, and the body
abbrev pub attribute : List ℕ → List Item → List Item
attribute name body = text_item name ∷ BodyLength (told (size body)) ∷ body

-- JVMS 4.7.6
abbrev pub inner_class_items : InnerEntry → List Item
inner_class_items e =
    class_item e.inner ∷ or_no_entry class_item e.outer ∷ or_no_entry text_item e.name
    ∷ Flags e.flags ∷ []

-- JVMS 4.7.24
abbrev pub parameter_items : ParamEntry → List Item
parameter_items e = or_no_entry text_item e.name ∷ Flags e.flags ∷ []

-- numbers of classes (JVMS 4.1, 4.7.5, 4.7.31)
abbrev pub class_list : List (List ℕ) → List Item
class_list names = counted (λ name. class_item name ∷ []) names

-- JVMS 4.7.16, 4.7.17; in 4.7.18 and 4.7.19 one for each parameter
abbrev pub annotation_list : List AnnDesc → List Item
annotation_list annotations = counted annotation_items annotations

-- The body of an attribute of each kind, by the items of a component: in the order of the cases
-- JVMS 4.7.2, 4.7.5, 4.7.9, 4.7.15, 4.7.8, 4.7.6, 4.7.30, 4.7.31, 4.7.22, 4.7.24, and 4.7.16 to
-- 4.7.19.
abbrev pub layer_body : {A C : Type 0} → (C → List Item) → Attr-F A C → List Item
layer_body of_component (Attr-F.ConstantValue value) = EntryNumber (constant_need StringNeed value)
    ∷ []
layer_body of_component (Attr-F.Exceptions names) = class_list names
layer_body of_component (Attr-F.Signature text) = text_item text ∷ []
layer_body of_component Attr-F.Deprecated = []
layer_body of_component Attr-F.Synthetic = []
layer_body of_component (Attr-F.InnerClasses entries) = counted inner_class_items entries
layer_body of_component (Attr-F.Components components) = counted of_component components
layer_body of_component (Attr-F.PermittedSubclasses names) = class_list names
layer_body of_component (Attr-F.AnnotationDefault value) = value_items value
layer_body of_component (Attr-F.MethodParameters entries) = for_parameters parameter_items entries
layer_body of_component (Attr-F.VisibleAnns annotations) = annotation_list annotations
layer_body of_component (Attr-F.InvisibleAnns annotations) = annotation_list annotations
layer_body of_component (Attr-F.VisibleParamAnns lists) = for_parameters annotation_list lists
layer_body of_component (Attr-F.InvisibleParamAnns lists) = for_parameters annotation_list lists

abbrev pub attribute_layer : Attr-F (List Item) (List Item) → List Item
attribute_layer layer = attribute (layer_name layer) (layer_body (λ component. component) layer)

-- JVMS 4.7.30
abbrev pub component_layer : ComponentDesc-F (List Item) (List Item) → List Item
component_layer c = text_item c.name ∷ text_item c.descriptor
    ∷ counted (λ attribute. attribute) c.attrs

unfoldable pub attribute_items : Attr → List Item
attribute_items attr = fold-Attr (List Item) (List Item) attribute_layer component_layer attr

unfoldable pub component_items : ComponentDesc → List Item
component_items component = fold-ComponentDesc (List Item)
    (List Item) attribute_layer component_layer component

-- ---- the class

-- a field or a method (JVMS 4.5, 4.6)
abbrev pub member_items : ℕ → List ℕ → List ℕ → List Attr → List Item
member_items flags name descriptor attrs = Flags flags ∷ text_item name ∷ text_item descriptor
    ∷ counted attribute_items attrs

abbrev pub field_items : FieldDesc → List Item
field_items f = member_items f.flags f.name f.descriptor f.attrs

abbrev pub method_items : MethodDesc → List Item
method_items m = member_items m.flags m.name m.descriptor m.attrs

-- what stands behind the pool (JVMS 4.1)
abbrev pub class_items : ClassDesc → List Item
class_items d =
    (Flags d.flags ∷ class_item d.name ∷ or_no_entry class_item d.super_name
    ∷ class_list d.interfaces)
    ++ (counted field_items d.fields
    ++ (counted method_items d.methods ++ counted attribute_items d.attrs))

-- in the order of the file
abbrev pub needs : ClassDesc → List Need
needs d = flat_map item_needs (class_items d)

-- the items, and of equal ones only the first
abbrev pub firsts : {A : Type 0} → (A → A → Bool) → List A → List A
firsts same [] = []
firsts same (item ∷ items) = item ∷ filter (λ other. not (same item other)) (firsts same items)

abbrev pub pool_of : ClassDesc → List Need
pool_of d = firsts is_need (needs d)

-- how many numbers the entries take
abbrev pub numbers_needed : List Need → ℕ
numbers_needed pool = sum_by width pool

-- what stands before the pool (JVMS 4.1)
abbrev pub head_bytes : ClassDesc → List ℕ
head_bytes d = to_be_bytes w32 magic ++ (to_be_bytes w16 d.minor ++ to_be_bytes w16 d.major)

-- the pool, behind a count of one more than its numbers (JVMS 4.1)
abbrev pub pool_bytes : List Need → List ℕ
pool_bytes pool = to_be_bytes w16 (numbers_needed pool + 1) ++ flat_map (need_bytes pool) pool

-- the file of a description over a pool
abbrev pub file_over : List Need → ClassDesc → List ℕ
file_over pool d = head_bytes d
    ++ (pool_bytes pool ++ flat_map (item_bytes (number_in pool)) (class_items d))

unfoldable pub layout : ClassDesc → List ℕ
layout d = file_over (pool_of d) d
