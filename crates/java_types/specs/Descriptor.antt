-- Which values are descriptors of fields and methods (JVMS 4.3.2, 4.3.3).
-- The limit of 255 slots (JVMS 4.3.3) is no part of a descriptor's form.
use Rattle.std.specs.Prelude.{◌≡◌, ◌&&◌, Bool, true, false, ℕ, nat_le, List, [], ◌∷◌, codes}
use Rattle.std.specs.List.{list_all}
use Rattle.java_types.specs.declared.types.JType.{JType, out-JType}
use Rattle.java_types.specs.declared.types.JType.TheVariants as type
use Rattle.java_types.specs.declared.types.JPart.{JPart, roll-JPart, out-JPart}
use Rattle.java_types.specs.declared.types.JArg.{JArg}
use Rattle.java_types.specs.declared.types.JArg.TheOpen.{JType-F, JPart-F}
use Rattle.java_types.specs.declared.types.JParam.{JParam}
use Rattle.java_types.specs.declared.types.JSig.{JSig}
use Rattle.java_types.specs.declared.types.JSig.TheVariants.{OfClass, OfMethod, OfField}
use Rattle.java_names.specs.Names.{is_among, is_class_name}
use Rattle.java_types.specs.Types.{signature_text}

-- the letter of a primitive type
abbrev pub is_primitive : ℕ → Bool
is_primitive letter = is_among (codes "BCDFIJSZ") letter

abbrev pub has_no_params : List JParam → Bool
has_no_params [] = true
has_no_params (param ∷ params) = false

abbrev pub has_no_throws : List JType → Bool
has_no_throws [] = true
has_no_throws (thrown ∷ throws) = false

abbrev pub has_no_args : List JArg → Bool
has_no_args [] = true
has_no_args (arg ∷ args) = false

-- a class is one part, the binary name without type arguments
abbrev pub plain_part : JPart-F JArg JType JPart → Bool
plain_part part = is_class_name part.name && has_no_args part.args

abbrev pub is_plain_class : List JPart → Bool
is_plain_class [] = false
is_plain_class (part ∷ []) = plain_part (out-JPart part)
is_plain_class (part ∷ second ∷ parts) = false

-- the class of this name, without type arguments
abbrev pub class_named : List ℕ → JType
class_named name = type.Named (roll-JPart (record { name = name; args = [] }) ∷ [])

-- what no array is: a primitive type or a class
abbrev pub element_layer : JType-F JArg JType JPart → Bool
element_layer (JType-F.Prim letter) = is_primitive letter
element_layer (JType-F.Named parts) = is_plain_class parts
element_layer JType-F.Void = false
element_layer (JType-F.Var name) = false
element_layer (JType-F.Array element dims) = false

abbrev pub is_element : JType → Bool
is_element type = element_layer (out-JType type)

-- a field type (JVMS 4.3.2): at most 255 dimensions
abbrev pub field_layer : JType-F JArg JType JPart → Bool
field_layer (JType-F.Prim letter) = is_primitive letter
field_layer (JType-F.Named parts) = is_plain_class parts
field_layer (JType-F.Array element dims) = nat_le 1 dims && nat_le dims 255 && is_element element
field_layer JType-F.Void = false
field_layer (JType-F.Var name) = false

abbrev pub is_field_type : JType → Bool
is_field_type type = field_layer (out-JType type)

-- the result of a method: a field type, or void
abbrev pub return_layer : JType-F JArg JType JPart → Bool
return_layer JType-F.Void = true
return_layer (JType-F.Prim letter) = field_layer (JType-F.Prim letter)
return_layer (JType-F.Named parts) = field_layer (JType-F.Named parts)
return_layer (JType-F.Var name) = field_layer (JType-F.Var name)
return_layer (JType-F.Array element dims) = field_layer (JType-F.Array element dims)

abbrev pub is_return_type : JType → Bool
is_return_type type = return_layer (out-JType type)

abbrev pub is_descriptor : JSig → Bool
is_descriptor (OfField type) = is_field_type type
is_descriptor (OfMethod params formals ret throws) =
    has_no_params params && list_all is_field_type formals && is_return_type ret
    && has_no_throws throws
is_descriptor (OfClass params super interfaces) = false

abbrev pub IsDescriptor : JSig → Type 0
IsDescriptor sig = is_descriptor sig ≡ true

-- the text is the descriptor
pub record DescriptorSpells (sig : JSig) (text : List ℕ) : Type 0 where
  pub form : IsDescriptor sig
  pub whole : text ≡ signature_text sig
