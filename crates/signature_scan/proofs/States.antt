-- What each state of the machine stands for, and that each step keeps it.
use Rattle.std.proofs.Common.{◌≡◌, refl, ℕ, zero, suc, ◌<◌, Bool, true, false, List, [], ◌∷◌}
use Rattle.std.proofs.Common.{◌++◌, map, Option, Some, None}
use Rattle.lemmas.proofs.Tables.{below, same_below}
use Rattle.java_types.specs.declared.production.Production.TheVariants.{AnyResult, AnyType}
use Rattle.java_types.specs.declared.production.Production.TheVariants.{Reference, Thrown}
use Rattle.java_types.specs.declared.production.Production.TheVariants.{ClassType, Element}
use Rattle.java_types.specs.declared.production.SigPlace.{SigPlace}
use Rattle.java_types.specs.declared.production.SigPlace.TheVariants.{ClassPlace, MethodPlace}
use Rattle.java_types.specs.declared.production.SigPlace.TheVariants.{FieldPlace}
use Rattle.java_types.specs.declared.production.Production.{Production}
use Rattle.signature_scan.specs.declared.part.Part.{Part}
use Rattle.signature_scan.specs.declared.part.Part.TheVariants as part
use Rattle.signature_scan.specs.declared.state.Around.{Around}
use Rattle.signature_scan.specs.declared.state.Around.TheVariants as around
use Rattle.signature_scan.specs.declared.state.State.{State}
use Rattle.signature_scan.specs.declared.state.State.TheVariants as state
use Rattle.signature_scan.specs.Machine.{next}
use Rattle.signature_scan.proofs.Expressions.{Expr, Byte, NameByte, Many, Maybe, Both, Kind, Dims}
use Rattle.signature_scan.proofs.Expressions.{names, slashes, argument, arguments, inners}
use Rattle.signature_scan.proofs.Expressions.{class_row, variable_row, derive_all}

abbrev pub bounds : Expr
bounds = Many (Both (Byte 58) (Kind Reference))

abbrev pub parameter : Expr
parameter = Both (Both (Both (Both NameByte names) (Byte 58)) (Maybe (Kind Reference))) bounds

abbrev pub parameters : Expr
parameters = Maybe (Both (Both (Both (Byte 60) parameter) (Many parameter)) (Byte 62))

abbrev pub throws : Expr
throws = Many (Both (Byte 94) (Kind Thrown))

-- what stands behind type parameters
abbrev pub body_row : SigPlace → List Expr
body_row ClassPlace = Kind ClassType ∷ Many (Kind ClassType) ∷ []
body_row MethodPlace = Byte 40 ∷ Many (Kind AnyType) ∷ Byte 41 ∷ Kind AnyResult ∷ throws ∷ []
body_row FieldPlace = Kind Reference ∷ []

-- what stands behind a type that is in no type arguments
abbrev pub outermost : Around → List Expr
outermost (around.Bounds place) = bounds ∷ Many parameter ∷ Byte 62 ∷ body_row place
outermost around.Supertypes = Many (Kind ClassType) ∷ []
outermost around.Formals = Many (Kind AnyType) ∷ Byte 41 ∷ Kind AnyResult ∷ throws ∷ []
outermost around.Throws = throws ∷ []
outermost around.Nothing = []

-- what stands behind a type
abbrev pub beyond : Around → ℕ → List Expr
beyond a zero = outermost a
beyond a (suc depth) = Many argument ∷ Byte 62 ∷ inners ∷ Byte 59 ∷ beyond a depth

-- what is left of a type
abbrev pub part_row : Part → List Expr
part_row (part.Type w) = Kind w ∷ []
part_row (part.Dimensions more) = Dims more ∷ []
part_row (part.ClassName false) = class_row
part_row (part.ClassName true) = names ∷ slashes ∷ arguments ∷ inners ∷ Byte 59 ∷ []
part_row (part.InnerName false) = NameByte ∷ names ∷ arguments ∷ inners ∷ Byte 59 ∷ []
part_row (part.InnerName true) = names ∷ arguments ∷ inners ∷ Byte 59 ∷ []
part_row (part.VariableName false) = variable_row
part_row (part.VariableName true) = names ∷ Byte 59 ∷ []
part_row part.Argument = argument ∷ []
part_row part.ArgumentsClosed = inners ∷ Byte 59 ∷ []

-- behind the first : of a type parameter
abbrev pub colon_row : SigPlace → List Expr
colon_row place = Maybe (Kind Reference) ∷ outermost (around.Bounds place)

abbrev pub name_row : SigPlace → List Expr
name_row place = names ∷ Byte 58 ∷ colon_row place

abbrev pub start_row : SigPlace → List Expr
start_row ClassPlace = parameters ∷ body_row ClassPlace
start_row MethodPlace = parameters ∷ body_row MethodPlace
start_row FieldPlace = body_row FieldPlace

-- what may follow in a state
abbrev pub rows : State → List (List Expr)
rows (state.Start place) = start_row place ∷ []
rows (state.Parameter place) = (parameter ∷ Many parameter ∷ Byte 62 ∷ body_row place) ∷ []
rows (state.ParameterName place) = name_row place ∷ []
rows (state.FirstBound place) = colon_row place ∷ []
rows (state.ClassOrName place started) =
    (part_row (part.ClassName started) ++ outermost (around.Bounds place)) ∷ name_row place ∷ []
rows (state.VariableOrName place started) =
    (part_row (part.VariableName started) ++ outermost (around.Bounds place)) ∷ name_row place ∷ []
rows state.Parenthesis = body_row MethodPlace ∷ []
rows (state.Behind a depth) = beyond a depth ∷ []
rows (state.Within p a depth) = (part_row p ++ beyond a depth) ∷ []

abbrev pub rows_if : Option State → List (List Expr)
rows_if None = []
rows_if (Some s) = rows s

-- ---- the table

abbrev Tabled : State → Type 0
Tabled s = map (derive_all (rows s)) (below 256) ≡ map (λ b. rows_if (next s b)) (below 256)

type_tabled : (w : Production) (a : Around) (depth : ℕ)
    → Tabled (state.Within (part.Type w) a depth)
type_tabled AnyResult a depth = refl
type_tabled AnyType a depth = refl
type_tabled Reference a depth = refl
type_tabled Thrown a depth = refl
type_tabled ClassType a depth = refl
type_tabled Element a depth = refl

dimensions_tabled : (more : ℕ) (a : Around) (depth : ℕ)
    → Tabled (state.Within (part.Dimensions more) a depth)
dimensions_tabled zero a depth = refl
dimensions_tabled (suc more) a depth = refl

class_name_tabled : (started : Bool) (a : Around) (depth : ℕ)
    → Tabled (state.Within (part.ClassName started) a depth)
class_name_tabled false a depth = refl
class_name_tabled true a depth = refl

inner_name_tabled : (started : Bool) (a : Around) (depth : ℕ)
    → Tabled (state.Within (part.InnerName started) a depth)
inner_name_tabled false a depth = refl
inner_name_tabled true a depth = refl

variable_name_tabled : (started : Bool) (a : Around) (depth : ℕ)
    → Tabled (state.Within (part.VariableName started) a depth)
variable_name_tabled false a depth = refl
variable_name_tabled true a depth = refl

argument_tabled : (a : Around) (depth : ℕ) → Tabled (state.Within part.Argument a depth)
argument_tabled a depth = refl

closed_tabled : (a : Around) (depth : ℕ) → Tabled (state.Within part.ArgumentsClosed a depth)
closed_tabled a depth = refl

within_tabled : (p : Part) (a : Around) (depth : ℕ) → Tabled (state.Within p a depth)
within_tabled (part.Type w) a depth = type_tabled w a depth
within_tabled (part.Dimensions more) a depth = dimensions_tabled more a depth
within_tabled (part.ClassName started) a depth = class_name_tabled started a depth
within_tabled (part.InnerName started) a depth = inner_name_tabled started a depth
within_tabled (part.VariableName started) a depth = variable_name_tabled started a depth
within_tabled part.Argument a depth = argument_tabled a depth
within_tabled part.ArgumentsClosed a depth = closed_tabled a depth

outermost_tabled : (a : Around) → Tabled (state.Behind a zero)
outermost_tabled (around.Bounds ClassPlace) = refl
outermost_tabled (around.Bounds MethodPlace) = refl
outermost_tabled (around.Bounds FieldPlace) = refl
outermost_tabled around.Supertypes = refl
outermost_tabled around.Formals = refl
outermost_tabled around.Throws = refl
outermost_tabled around.Nothing = refl

behind_tabled : (a : Around) (depth : ℕ) → Tabled (state.Behind a depth)
behind_tabled a zero = outermost_tabled a
behind_tabled a (suc depth) = refl

start_tabled : (place : SigPlace) → Tabled (state.Start place)
start_tabled ClassPlace = refl
start_tabled MethodPlace = refl
start_tabled FieldPlace = refl

parameter_tabled : (place : SigPlace) → Tabled (state.Parameter place)
parameter_tabled place = refl

name_tabled : (place : SigPlace) → Tabled (state.ParameterName place)
name_tabled place = refl

colon_tabled : (place : SigPlace) → Tabled (state.FirstBound place)
colon_tabled ClassPlace = refl
colon_tabled MethodPlace = refl
colon_tabled FieldPlace = refl

class_or_name_tabled : (place : SigPlace) (started : Bool)
    → Tabled (state.ClassOrName place started)
class_or_name_tabled place false = refl
class_or_name_tabled place true = refl

variable_or_name_tabled : (place : SigPlace) (started : Bool)
    → Tabled (state.VariableOrName place started)
variable_or_name_tabled place false = refl
variable_or_name_tabled place true = refl

parenthesis_tabled : Tabled state.Parenthesis
parenthesis_tabled = refl

state_tabled : (s : State) → Tabled s
state_tabled (state.Start place) = start_tabled place
state_tabled (state.Parameter place) = parameter_tabled place
state_tabled (state.ParameterName place) = name_tabled place
state_tabled (state.FirstBound place) = colon_tabled place
state_tabled (state.ClassOrName place started) = class_or_name_tabled place started
state_tabled (state.VariableOrName place started) = variable_or_name_tabled place started
state_tabled state.Parenthesis = parenthesis_tabled
state_tabled (state.Behind a depth) = behind_tabled a depth
state_tabled (state.Within p a depth) = within_tabled p a depth

-- what may follow behind a byte is what may follow in the next state
pub next_rows : (s : State) (b : ℕ) → b < 256 → derive_all (rows s) b ≡ rows_if (next s b)
next_rows s b h =
    same_below (derive_all (rows s)) (λ b. rows_if (next s b)) 256 b (state_tabled s) h
