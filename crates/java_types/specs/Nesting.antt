-- How deep type arguments are nested, and where in the text they open (JVMS 4.7.9.1).
-- The < of type parameters opens no type arguments. Arguments nest through
-- those of any part of a class, through bounds and through arrays.
use Rattle.std.specs.Prelude.{ℕ, ◌+◌, max, nat_lt, List, [], ◌∷◌, ◌++◌, map, replicate, Option}
use Rattle.std.specs.Prelude.{Some, None}
use Rattle.std.specs.List.{flat_map, position_or_len}
use Rattle.java_types.specs.declared.types.JType.{JType, fold-JType}
use Rattle.java_types.specs.declared.types.JPart.{JPart, fold-JPart}
use Rattle.java_types.specs.declared.types.JArg.{JArg, fold-JArg}
use Rattle.java_types.specs.declared.types.JArg.TheOpen.{JType-F, JPart-F, JArg-F}
use Rattle.java_types.specs.declared.types.JParam.{JParam}
use Rattle.java_types.specs.declared.types.JSig.{JSig}
use Rattle.java_types.specs.declared.types.JSig.TheVariants.{OfClass, OfMethod, OfField}

-- a number for each byte of a text that stands inside type arguments nested
-- so deep: for a < that opens type arguments their own depth, else 0
abbrev pub Levels : Type 0
Levels = ℕ → List ℕ

-- bytes that open no type arguments
abbrev pub flat : List ℕ → List ℕ
flat bytes = map (λ b. 0) bytes

abbrev pub parts_levels : List Levels → Levels
parts_levels [] depth = []
parts_levels (first ∷ later) depth = first depth ++ flat_map (λ part. 0 ∷ part depth) later

abbrev pub args_levels : List Levels → Levels
args_levels [] depth = []
args_levels (arg ∷ args) depth =
    (depth + 1) ∷ flat_map (λ levels. levels (depth + 1)) (arg ∷ args) ++ (0 ∷ [])

abbrev pub type_layer_levels : JType-F Levels Levels Levels → Levels
type_layer_levels JType-F.Void depth = 0 ∷ []
type_layer_levels (JType-F.Prim letter) depth = 0 ∷ []
type_layer_levels (JType-F.Named parts) depth = 0 ∷ parts_levels parts depth ++ (0 ∷ [])
type_layer_levels (JType-F.Var name) depth = 0 ∷ flat name ++ (0 ∷ [])
type_layer_levels (JType-F.Array element dims) depth = replicate dims 0 ++ element depth

abbrev pub part_layer_levels : JPart-F Levels Levels Levels → Levels
part_layer_levels part depth = flat part.name ++ args_levels part.args depth

abbrev pub arg_layer_levels : JArg-F Levels Levels Levels → Levels
arg_layer_levels (JArg-F.Exact type) depth = type depth
arg_layer_levels (JArg-F.Extends type) depth = 0 ∷ type depth
arg_layer_levels (JArg-F.Super type) depth = 0 ∷ type depth
arg_layer_levels JArg-F.Any depth = 0 ∷ []

abbrev pub type_levels : JType → Levels
type_levels type =
    fold-JType Levels Levels Levels arg_layer_levels type_layer_levels part_layer_levels type

abbrev pub part_levels : JPart → Levels
part_levels part =
    fold-JPart Levels Levels Levels arg_layer_levels type_layer_levels part_layer_levels part

abbrev pub arg_levels : JArg → Levels
arg_levels arg =
    fold-JArg Levels Levels Levels arg_layer_levels type_layer_levels part_layer_levels arg

-- the levels of a type that stands in no type arguments
abbrev pub top_levels : JType → List ℕ
top_levels type = type_levels type 0

abbrev pub bound_levels : Option JType → List ℕ
bound_levels None = []
bound_levels (Some bound) = top_levels bound

abbrev pub param_levels : JParam → List ℕ
param_levels param =
    flat param.name ++ (0 ∷ bound_levels param.class_bound
    ++ flat_map (λ bound. 0 ∷ top_levels bound) param.interface_bounds)

abbrev pub params_levels : List JParam → List ℕ
params_levels [] = []
params_levels (param ∷ params) = 0 ∷ flat_map param_levels (param ∷ params) ++ (0 ∷ [])

-- a number for each byte of the signature's text
abbrev pub levels : JSig → List ℕ
levels (OfClass params super interfaces) =
    params_levels params ++ (top_levels super ++ flat_map top_levels interfaces)
levels (OfMethod params formals ret throws) =
    params_levels params ++ (0 ∷ flat_map top_levels formals
    ++ (0 ∷ top_levels ret ++ flat_map (λ thrown. 0 ∷ top_levels thrown) throws))
levels (OfField type) = top_levels type

-- the greatest of the numbers, 0 where there is none
abbrev pub greatest : List ℕ → ℕ
greatest [] = 0
greatest (n ∷ ns) = max n (greatest ns)

-- the deepest nesting of type arguments
abbrev pub nesting : JSig → ℕ
nesting sig = greatest (levels sig)

-- the place in the text where type arguments are first nested
-- deeper than the limit, or the text's length where they aren't
abbrev pub opens_at : ℕ → JSig → ℕ
opens_at limit sig = position_or_len (λ level. nat_lt limit level) (levels sig)

-- how deep type arguments may be nested
abbrev pub nesting_limit : ℕ
nesting_limit = 64
