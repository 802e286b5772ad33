-- Which values are signatures of classes, methods and fields (JVMS 4.7.9.1).
-- Signatures have neither the limit of dimensions nor that
-- of slots: the numbers of dimensions are those of 32 bits.
use Rattle.std.specs.Prelude.{◌≡◌, ◌&&◌, ◌^◌, Bool, true, false, ℕ, nat_le, nat_lt, List, [], ◌∷◌}
use Rattle.std.specs.Prelude.{Option, Some, None}
use Rattle.std.specs.List.{list_all}
use Rattle.java_types.specs.declared.production.Production.{Production}
use Rattle.java_types.specs.declared.production.Production.TheVariants.{AnyResult, AnyType}
use Rattle.java_types.specs.declared.production.Production.TheVariants.{Reference, Thrown}
use Rattle.java_types.specs.declared.production.Production.TheVariants.{ClassType, Element}
use Rattle.java_types.specs.declared.production.SigPlace.{SigPlace}
use Rattle.java_types.specs.declared.production.SigPlace.TheVariants.{ClassPlace, MethodPlace}
use Rattle.java_types.specs.declared.production.SigPlace.TheVariants.{FieldPlace}
use Rattle.java_types.specs.declared.types.JType.{JType, fold-JType}
use Rattle.java_types.specs.declared.types.JPart.{JPart, fold-JPart}
use Rattle.java_types.specs.declared.types.JArg.{JArg, fold-JArg}
use Rattle.java_types.specs.declared.types.JArg.TheOpen.{JType-F, JPart-F, JArg-F}
use Rattle.java_types.specs.declared.types.JParam.{JParam}
use Rattle.java_types.specs.declared.types.JSig.{JSig}
use Rattle.java_types.specs.declared.types.JSig.TheVariants.{OfClass, OfMethod, OfField}
use Rattle.java_names.specs.Names.{is_identifier, is_binary_name}
use Rattle.java_types.specs.Types.{signature_text}
use Rattle.java_types.specs.Descriptor.{is_primitive}

-- ---- what the productions allow

abbrev pub allows_void : Production → Bool
allows_void AnyResult = true
allows_void AnyType = false
allows_void Reference = false
allows_void Thrown = false
allows_void ClassType = false
allows_void Element = false

abbrev pub allows_primitive : Production → Bool
allows_primitive AnyResult = true
allows_primitive AnyType = true
allows_primitive Reference = false
allows_primitive Thrown = false
allows_primitive ClassType = false
allows_primitive Element = true

abbrev pub allows_variable : Production → Bool
allows_variable AnyResult = true
allows_variable AnyType = true
allows_variable Reference = true
allows_variable Thrown = true
allows_variable ClassType = false
allows_variable Element = true

abbrev pub allows_array : Production → Bool
allows_array AnyResult = true
allows_array AnyType = true
allows_array Reference = true
allows_array Thrown = false
allows_array ClassType = false
allows_array Element = false

-- whether a part is right where its name has this form
abbrev pub PartForm : Type 0
PartForm = (List ℕ → Bool) → Bool

-- the first part has a binary name, each later one is an identifier
abbrev pub are_parts : List PartForm → Bool
are_parts [] = false
are_parts (first ∷ later) = first is_binary_name && list_all (λ part. part is_identifier) later

-- whether a type is what a production asks, from the
-- same of its parts: a class is right at each place
abbrev pub type_layer_is : JType-F Bool (Production → Bool) PartForm → Production → Bool
type_layer_is JType-F.Void at = allows_void at
type_layer_is (JType-F.Prim letter) at = allows_primitive at && is_primitive letter
type_layer_is (JType-F.Named parts) at = are_parts parts
type_layer_is (JType-F.Var name) at = allows_variable at && is_identifier name
type_layer_is (JType-F.Array element dims) at =
    allows_array at && nat_le 1 dims && nat_lt dims (2 ^ 32) && element Element

abbrev pub part_layer_is : JPart-F Bool (Production → Bool) PartForm → PartForm
part_layer_is part is_name = is_name part.name && list_all (λ arg. arg) part.args

abbrev pub arg_layer_is : JArg-F Bool (Production → Bool) PartForm → Bool
arg_layer_is (JArg-F.Exact type) = type Reference
arg_layer_is (JArg-F.Extends type) = type Reference
arg_layer_is (JArg-F.Super type) = type Reference
arg_layer_is JArg-F.Any = true

-- whether the type is one that the production allows
abbrev pub is_type : JType → Production → Bool
is_type type =
    fold-JType Bool (Production → Bool) PartForm arg_layer_is type_layer_is part_layer_is type

-- whether the part is a class with right type arguments, its name of this form
abbrev pub is_part : JPart → PartForm
is_part part =
    fold-JPart Bool (Production → Bool) PartForm arg_layer_is type_layer_is part_layer_is part

abbrev pub is_arg : JArg → Bool
is_arg arg =
    fold-JArg Bool (Production → Bool) PartForm arg_layer_is type_layer_is part_layer_is arg

abbrev pub are_types : Production → List JType → Bool
are_types at types = list_all (λ type. is_type type at) types

abbrev pub is_class_bound : Option JType → Bool
is_class_bound None = true
is_class_bound (Some bound) = is_type bound Reference

abbrev pub is_param : JParam → Bool
is_param param =
    is_identifier param.name && is_class_bound param.class_bound
    && are_types Reference param.interface_bounds

abbrev pub is_signature : SigPlace → JSig → Bool
is_signature ClassPlace (OfClass params super interfaces) =
    list_all is_param params && is_type super ClassType && are_types ClassType interfaces
is_signature MethodPlace (OfMethod params formals ret throws) =
    list_all is_param params && are_types AnyType formals && is_type ret AnyResult
    && are_types Thrown throws
is_signature FieldPlace (OfField type) = is_type type Reference
is_signature ClassPlace (OfMethod params formals ret throws) = false
is_signature ClassPlace (OfField type) = false
is_signature MethodPlace (OfClass params super interfaces) = false
is_signature MethodPlace (OfField type) = false
is_signature FieldPlace (OfClass params super interfaces) = false
is_signature FieldPlace (OfMethod params formals ret throws) = false

abbrev pub IsSignature : SigPlace → JSig → Type 0
IsSignature place sig = is_signature place sig ≡ true

-- the text is the signature, at this place
pub record SignatureSpells (place : SigPlace) (sig : JSig) (text : List ℕ) : Type 0 where
  pub form : IsSignature place sig
  pub whole : text ≡ signature_text sig
