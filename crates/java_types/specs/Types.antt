-- The text of a type, a descriptor or a signature (JVMS 4.3.2, 4.3.3, 4.7.9.1).
-- Descriptors and signatures write what they share with the same bytes, so one function serves
-- both; which values are descriptors or signatures is told by Descriptor and Signature.
use Rattle.std.specs.Prelude.{ℕ, List, [], ◌∷◌, ◌++◌, replicate, codes, Option, Some, None}
use Rattle.std.specs.List.{flat_map, concat}
use Rattle.java_types.specs.declared.types.JType.{JType, fold-JType}
use Rattle.java_types.specs.declared.types.JPart.{JPart, fold-JPart}
use Rattle.java_types.specs.declared.types.JArg.{JArg, fold-JArg}
use Rattle.java_types.specs.declared.types.JArg.TheOpen.{JType-F, JPart-F, JArg-F}
use Rattle.java_types.specs.declared.types.JParam.{JParam}
use Rattle.java_types.specs.declared.types.JSig.{JSig}
use Rattle.java_types.specs.declared.types.JSig.TheVariants.{OfClass, OfMethod, OfField}
use Rattle.java_types.specs.Bytes.{bracket}

-- the texts of the parts of a class, with . between
abbrev pub parts_text : List (List ℕ) → List ℕ
parts_text [] = []
parts_text (first ∷ later) = first ++ flat_map (λ part. codes "." ++ part) later

-- the texts of type arguments, between < and > where there are some
abbrev pub args_text : List (List ℕ) → List ℕ
args_text [] = []
args_text (arg ∷ args) = codes "<" ++ (concat (arg ∷ args) ++ codes ">")

-- the text of a type, from those of its parts
abbrev pub type_layer_text : JType-F (List ℕ) (List ℕ) (List ℕ) → List ℕ
type_layer_text JType-F.Void = codes "V"
type_layer_text (JType-F.Prim letter) = letter ∷ []
type_layer_text (JType-F.Named parts) = codes "L" ++ (parts_text parts ++ codes ";")
type_layer_text (JType-F.Var name) = codes "T" ++ (name ++ codes ";")
type_layer_text (JType-F.Array element dims) = replicate dims bracket ++ element

abbrev pub part_layer_text : JPart-F (List ℕ) (List ℕ) (List ℕ) → List ℕ
part_layer_text part = part.name ++ args_text part.args

abbrev pub arg_layer_text : JArg-F (List ℕ) (List ℕ) (List ℕ) → List ℕ
arg_layer_text (JArg-F.Exact type) = type
arg_layer_text (JArg-F.Extends type) = codes "+" ++ type
arg_layer_text (JArg-F.Super type) = codes "-" ++ type
arg_layer_text JArg-F.Any = codes "*"

abbrev pub type_text : JType → List ℕ
type_text type =
    fold-JType (List ℕ) (List ℕ) (List ℕ) arg_layer_text type_layer_text part_layer_text type

abbrev pub part_text : JPart → List ℕ
part_text part =
    fold-JPart (List ℕ) (List ℕ) (List ℕ) arg_layer_text type_layer_text part_layer_text part

abbrev pub arg_text : JArg → List ℕ
arg_text arg =
    fold-JArg (List ℕ) (List ℕ) (List ℕ) arg_layer_text type_layer_text part_layer_text arg

abbrev pub bound_text : Option JType → List ℕ
bound_text None = []
bound_text (Some bound) = type_text bound

-- a type parameter: a : stands before the class bound,
-- there or not, and before each interface bound
abbrev pub param_text : JParam → List ℕ
param_text param =
    param.name ++ (codes ":" ++ (bound_text param.class_bound
    ++ flat_map (λ bound. codes ":" ++ type_text bound) param.interface_bounds))

-- type parameters, between < and > where there are some
abbrev pub params_text : List JParam → List ℕ
params_text [] = []
params_text (param ∷ params) = codes "<" ++ (flat_map param_text (param ∷ params) ++ codes ">")

abbrev pub signature_text : JSig → List ℕ
signature_text (OfClass params super interfaces) =
    params_text params ++ (type_text super ++ flat_map type_text interfaces)
signature_text (OfMethod params formals ret throws) =
    params_text params ++ (codes "("
    ++ (flat_map type_text formals
    ++ (codes ")" ++ (type_text ret
    ++ flat_map (λ thrown. codes "^" ++ type_text thrown) throws))))
signature_text (OfField type) = type_text type
