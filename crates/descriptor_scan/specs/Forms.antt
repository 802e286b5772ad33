-- What a text is as a descriptor, as functions of the text (JVMS 4.3.2, 4.3.3).
use Rattle.std.specs.Prelude.{ℕ, ◌+◌, Bool, true, false, List, [], ◌∷◌, codes, Option, Some, None}
use Rattle.std.specs.Prelude.{if◌then◌else◌}
use Rattle.java_names.specs.Names.{is_among}
use Rattle.java_types.specs.declared.types.JType.{JType, out-JType}
use Rattle.java_types.specs.declared.types.JPart.{JPart}
use Rattle.java_types.specs.declared.types.JArg.{JArg}
use Rattle.java_types.specs.declared.types.JArg.TheOpen.{JType-F}
use Rattle.java_types.specs.declared.types.JSig.{JSig}
use Rattle.java_types.specs.declared.types.JSig.TheVariants.{OfClass, OfMethod, OfField}
use Rattle.java_types.specs.Trees.{descriptor_of}

-- how many slots a parameter takes: two for long and double, else one (JVMS 4.3.3)
abbrev pub letter_slots : ℕ → ℕ
letter_slots letter = if is_among (codes "DJ") letter then 2 else 1

abbrev pub layer_slots : JType-F JArg JType JPart → ℕ
layer_slots JType-F.Void = 1
layer_slots (JType-F.Prim letter) = letter_slots letter
layer_slots (JType-F.Named parts) = 1
layer_slots (JType-F.Var name) = 1
layer_slots (JType-F.Array element dims) = 1

abbrev pub type_slots : JType → ℕ
type_slots parameter = layer_slots (out-JType parameter)

-- how many slots parameters take, without that of this
abbrev pub slots : List JType → ℕ
slots [] = 0
slots (parameter ∷ parameters) = type_slots parameter + slots parameters

abbrev pub is_of_field : Option JSig → Bool
is_of_field None = false
is_of_field (Some (OfClass params super interfaces)) = false
is_of_field (Some (OfMethod params formals ret throws)) = false
is_of_field (Some (OfField of)) = true

abbrev pub slots_of : Option JSig → Option ℕ
slots_of None = None
slots_of (Some (OfClass params super interfaces)) = None
slots_of (Some (OfMethod params formals ret throws)) = Some (slots formals)
slots_of (Some (OfField of)) = None

-- whether the text is the descriptor of a field
abbrev pub is_field_descriptor : List ℕ → Bool
is_field_descriptor text = is_of_field (descriptor_of text)

-- the slots of a method's parameters, where the text is the descriptor of a method
abbrev pub parameter_slots : List ℕ → Option ℕ
parameter_slots text = slots_of (descriptor_of text)
