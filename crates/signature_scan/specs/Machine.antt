-- The machine that goes over a text byte by byte. Contracts of private functions alone cite it.
use Rattle.std.specs.Prelude.{ℕ, zero, suc, ◌==◌, Bool, true, false, not, ◌&&◌, ◌||◌, Option}
use Rattle.std.specs.Prelude.{Some, None, codes, nat_lt, if◌then◌else◌}
use Rattle.java_names.specs.Names.{is_among}
use Rattle.java_types.specs.Descriptor.{is_primitive}
use Rattle.java_types.specs.declared.production.Production.{Production}
use Rattle.java_types.specs.declared.production.Production.TheVariants.{AnyResult, AnyType}
use Rattle.java_types.specs.declared.production.Production.TheVariants.{Reference, Thrown}
use Rattle.java_types.specs.declared.production.Production.TheVariants.{ClassType, Element}
use Rattle.java_types.specs.Signature.{allows_void, allows_primitive, allows_variable}
use Rattle.java_types.specs.Signature.{allows_array}
use Rattle.java_types.specs.Bytes.{class_letter, variable_letter, void_letter, bracket, less}
use Rattle.java_types.specs.Bytes.{greater, opening, closing, slash, dot, semicolon, colon, caret}
use Rattle.java_types.specs.Bytes.{plus, minus, star}
use Rattle.java_types.specs.declared.production.SigPlace.{SigPlace}
use Rattle.java_types.specs.declared.production.SigPlace.TheVariants.{ClassPlace, MethodPlace}
use Rattle.java_types.specs.declared.production.SigPlace.TheVariants.{FieldPlace}
use Rattle.signature_scan.specs.declared.part.Part.{Part}
use Rattle.signature_scan.specs.declared.part.Part.TheVariants as part
use Rattle.signature_scan.specs.declared.state.Around.{Around}
use Rattle.signature_scan.specs.declared.state.Around.TheVariants as around
use Rattle.signature_scan.specs.declared.state.State.{State}
use Rattle.signature_scan.specs.declared.state.State.TheVariants as state

-- a byte that may stand in an identifier
abbrev pub is_name_byte : ℕ → Bool
is_name_byte b = not (is_among (codes ".;[/<>:") b)

abbrev pub wants : Production → Around → State
wants w a = state.Within (part.Type w) a 0

abbrev pub body : SigPlace → State
body ClassPlace = wants ClassType around.Supertypes
body MethodPlace = state.Parenthesis
body FieldPlace = wants Reference around.Nothing

-- a signature there may have type parameters
abbrev pub has_parameters : SigPlace → Bool
has_parameters ClassPlace = true
has_parameters MethodPlace = true
has_parameters FieldPlace = false

-- the first byte of a type
abbrev pub type_begins : Production → Around → ℕ → ℕ → Option State
type_begins w a depth b =
    if b == class_letter then Some (state.Within (part.ClassName false) a depth)
    else (if b == variable_letter && allows_variable w
    then Some (state.Within (part.VariableName false) a depth)
    else (if b == bracket && allows_array w
    then Some (state.Within (part.Dimensions 4294967294) a depth)
    else (if (b == void_letter && allows_void w) || (is_primitive b && allows_primitive w)
    then Some (state.Behind a depth) else None)))

abbrev pub parenthesis : ℕ → Option State
parenthesis b = if b == opening then Some (state.Behind around.Formals 0) else None

abbrev pub begun : SigPlace → ℕ → Option State
begun ClassPlace b = type_begins ClassType around.Supertypes 0 b
begun MethodPlace b = parenthesis b
begun FieldPlace b = type_begins Reference around.Nothing 0 b

abbrev pub name_goes_on : SigPlace → ℕ → Option State
name_goes_on place b = if is_name_byte b then Some (state.ParameterName place) else None

abbrev pub in_parameter_name : SigPlace → ℕ → Option State
in_parameter_name place b =
    if b == colon then Some (state.FirstBound place) else name_goes_on place b

abbrev pub behind_bound : SigPlace → ℕ → Option State
behind_bound place b =
    if b == colon then Some (wants Reference (around.Bounds place))
    else (if b == greater then Some (body place) else name_goes_on place b)

abbrev pub behind_colon : SigPlace → ℕ → Option State
behind_colon place b =
    if b == class_letter then Some (state.ClassOrName place false)
    else (if b == variable_letter then Some (state.VariableOrName place false)
    else (if b == bracket then type_begins Reference (around.Bounds place) 0 b
    else behind_bound place b))

-- behind a class with its type arguments
abbrev pub behind_name : Around → ℕ → ℕ → Option State
behind_name a depth b =
    if b == dot then Some (state.Within (part.InnerName false) a depth)
    else (if b == semicolon then Some (state.Behind a depth) else None)

-- behind the name of a class
abbrev pub behind_class_name : Around → ℕ → ℕ → Option State
behind_class_name a depth b =
    if b == less then Some (state.Within part.Argument a (suc depth)) else behind_name a depth b

abbrev pub in_class_name : Bool → Around → ℕ → ℕ → Option State
in_class_name true a depth b =
    if is_name_byte b then Some (state.Within (part.ClassName true) a depth)
    else (if b == slash then Some (state.Within (part.ClassName false) a depth)
    else behind_class_name a depth b)
in_class_name false a depth b =
    if is_name_byte b then Some (state.Within (part.ClassName true) a depth) else None

abbrev pub in_inner_name : Bool → Around → ℕ → ℕ → Option State
in_inner_name true a depth b =
    if is_name_byte b then Some (state.Within (part.InnerName true) a depth)
    else behind_class_name a depth b
in_inner_name false a depth b =
    if is_name_byte b then Some (state.Within (part.InnerName true) a depth) else None

abbrev pub in_variable_name : Bool → Around → ℕ → ℕ → Option State
in_variable_name true a depth b =
    if is_name_byte b then Some (state.Within (part.VariableName true) a depth)
    else (if b == semicolon then Some (state.Behind a depth) else None)
in_variable_name false a depth b =
    if is_name_byte b then Some (state.Within (part.VariableName true) a depth) else None

abbrev pub in_class_or_name : SigPlace → Bool → ℕ → Option State
in_class_or_name place started b =
    if is_name_byte b then Some (state.ClassOrName place true)
    else (if b == colon then Some (state.FirstBound place)
    else in_class_name started (around.Bounds place) 0 b)

abbrev pub in_variable_or_name : SigPlace → Bool → ℕ → Option State
in_variable_or_name place started b =
    if is_name_byte b then Some (state.VariableOrName place true)
    else (if b == colon then Some (state.FirstBound place)
    else in_variable_name started (around.Bounds place) 0 b)

abbrev pub in_dimensions : ℕ → Around → ℕ → ℕ → Option State
in_dimensions zero a depth b = if b == bracket then None else type_begins Element a depth b
in_dimensions (suc more) a depth b =
    if b == bracket then Some (state.Within (part.Dimensions more) a depth)
    else type_begins Element a depth b

-- the first byte of a type argument
abbrev pub argument_begins : Around → ℕ → ℕ → Option State
argument_begins a depth b =
    if b == star then Some (state.Behind a depth)
    else (if b == plus || b == minus then Some (state.Within (part.Type Reference) a depth)
    else type_begins Reference a depth b)

abbrev pub within : Part → Around → ℕ → ℕ → Option State
within (part.Type w) a depth b = type_begins w a depth b
within (part.Dimensions more) a depth b = in_dimensions more a depth b
within (part.ClassName started) a depth b = in_class_name started a depth b
within (part.InnerName started) a depth b = in_inner_name started a depth b
within (part.VariableName started) a depth b = in_variable_name started a depth b
within part.Argument a depth b = argument_begins a depth b
within part.ArgumentsClosed a depth b = behind_name a depth b

abbrev pub behind_formal : ℕ → Option State
behind_formal b =
    if b == closing then Some (wants AnyResult around.Throws)
    else type_begins AnyType around.Formals 0 b

-- behind a type that is in no type arguments
abbrev pub behind_outermost : Around → ℕ → Option State
behind_outermost (around.Bounds place) b = behind_bound place b
behind_outermost around.Supertypes b = type_begins ClassType around.Supertypes 0 b
behind_outermost around.Formals b = behind_formal b
behind_outermost around.Throws b = if b == caret then Some (wants Thrown around.Throws) else None
behind_outermost around.Nothing b = None

abbrev pub behind : Around → ℕ → ℕ → Option State
behind a zero b = behind_outermost a b
behind a (suc depth) b =
    if b == greater then Some (state.Within part.ArgumentsClosed a depth)
    else argument_begins a (suc depth) b

abbrev pub next : State → ℕ → Option State
next (state.Start place) b =
    if b == less && has_parameters place then Some (state.Parameter place) else begun place b
next (state.Parameter place) b = name_goes_on place b
next (state.ParameterName place) b = in_parameter_name place b
next (state.FirstBound place) b = behind_colon place b
next (state.ClassOrName place started) b = in_class_or_name place started b
next (state.VariableOrName place started) b = in_variable_or_name place started b
next state.Parenthesis b = parenthesis b
next (state.Behind a depth) b = behind a depth b
next (state.Within p a depth) b = within p a depth b

abbrev pub may_end : Around → Bool
may_end (around.Bounds place) = false
may_end around.Supertypes = true
may_end around.Formals = false
may_end around.Throws = true
may_end around.Nothing = true

-- whether a signature may end here
abbrev pub is_whole : State → Bool
is_whole (state.Start place) = false
is_whole (state.Parameter place) = false
is_whole (state.ParameterName place) = false
is_whole (state.FirstBound place) = false
is_whole (state.ClassOrName place started) = false
is_whole (state.VariableOrName place started) = false
is_whole state.Parenthesis = false
is_whole (state.Behind a zero) = may_end a
is_whole (state.Behind a (suc depth)) = false
is_whole (state.Within p a depth) = false

-- how many type arguments are open
abbrev pub depth_of : State → ℕ
depth_of (state.Start place) = 0
depth_of (state.Parameter place) = 0
depth_of (state.ParameterName place) = 0
depth_of (state.FirstBound place) = 0
depth_of (state.ClassOrName place started) = 0
depth_of (state.VariableOrName place started) = 0
depth_of state.Parenthesis = 0
depth_of (state.Behind a depth) = depth
depth_of (state.Within p a depth) = depth

-- where type arguments were first nested too deep,
-- once the byte at this place has led to this state
abbrev pub deeper : Option ℕ → State → ℕ → Option ℕ
deeper None s at = if nat_lt 64 (depth_of s) then Some at else None
deeper (Some first) s at = Some first
