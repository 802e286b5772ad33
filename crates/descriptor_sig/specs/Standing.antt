-- What is read where a part of a signature is known to stand
-- (JVMS 4.7.9.1): a value's text is in front, and more behind it.
-- Type arguments are nested no deeper than the limit.
use Rattle.std.specs.Prelude.{◌≡◌, ℕ, ◌≤◌, ◌<◌, ◌^◌, ◌==◌, Bool, true, false, List, [], ◌∷◌, ◌++◌}
use Rattle.std.specs.Prelude.{map, replicate, codes, Option, Some, None, Result, Ok, Err}
use Rattle.std.specs.List.{list_all}
use Rattle.java_types.specs.declared.types.JType.{JType}
use Rattle.java_types.specs.declared.types.JPart.{JPart}
use Rattle.java_types.specs.declared.types.JArg.{JArg}
use Rattle.java_types.specs.declared.types.JParam.{JParam}
use Rattle.java_types.specs.declared.types.JSig.{JSig}
use Rattle.java_types.specs.Types.{type_text, part_text, arg_text, parts_text, args_text}
use Rattle.java_types.specs.Types.{bound_text, param_text, params_text}
use Rattle.java_types.specs.Bytes.{bracket, less, opening, closing, semicolon, colon}
use Rattle.java_types.specs.declared.production.Production.{Production}
use Rattle.java_types.specs.declared.production.Production.TheVariants.{AnyType}
use Rattle.java_types.specs.declared.production.SigPlace.{SigPlace}
use Rattle.java_types.specs.Signature.{is_type, is_part, is_arg, are_parts, is_param}
use Rattle.java_types.specs.Signature.{is_class_bound, SignatureSpells}
use Rattle.java_types.specs.Fronts.{begins_with, begins_among, is_plain_name, is_before_type}
use Rattle.java_types.specs.Nesting.{greatest, nesting_limit, nesting, type_levels, part_levels}
use Rattle.java_types.specs.Nesting.{arg_levels, parts_levels, args_levels, bound_levels}
use Rattle.java_types.specs.Nesting.{param_levels, params_levels}
use Rattle.descriptor_sig.specs.declared.error.SigErr.{SigErr}
use Rattle.descriptor_sig.specs.declared.error.SigErr.TheVariants.{Memory}

-- ---- what reading gives

-- the value, with these bytes left, unless memory runs out
abbrev pub Gives : {T : Type 0} → T → List ℕ → Result T SigErr → List ℕ → Type 0
Gives value more (Ok read) left = (read ≡ value) × (left ≡ more)
Gives value more (Err e) left = e ≡ Memory

-- each value that stands at the front is read
pub record Builds {T : Type 0} (Stands : T → List ℕ → List ℕ → Type 0) (bytes : List ℕ)
    (result : Result T SigErr) (left : List ℕ) : Type 0 where
  pub gives : (value : T) (more : List ℕ) → Stands value bytes more → Gives value more result left

-- ---- bytes

-- the next byte, and the bytes behind it
abbrev pub Takes : List ℕ → Option ℕ → List ℕ → Type 0
Takes bytes (Some b) left = bytes ≡ b ∷ left
Takes bytes None left = bytes ≡ []

-- whether a byte was passed over
abbrev pub Passes : ℕ → List ℕ → Bool → List ℕ → Type 0
Passes byte bytes true left = bytes ≡ byte ∷ left
Passes byte bytes false left = (begins_with byte bytes ≡ false) × (left ≡ bytes)

-- ---- names

pub record NameStands (name bytes more : List ℕ) : Type 0 where
  pub plain : is_plain_name name ≡ true
  pub stops : begins_among (codes ".;[<>:") more ≡ true
  pub whole : bytes ≡ name ++ more

-- the name of a type variable, with its ;
pub record VariableStands (name bytes more : List ℕ) : Type 0 where
  pub plain : is_plain_name name ≡ true
  pub whole : bytes ≡ name ++ (semicolon ∷ more)

-- ---- types

-- nested no deeper than the limit
abbrev pub Shallow : List ℕ → Type 0
Shallow levels = greatest levels ≤ nesting_limit

pub record DimensionsStand (dims : ℕ) (bytes more : List ℕ) : Type 0 where
  pub few : dims < 2 ^ 32
  pub stops : begins_with bracket more ≡ false
  pub whole : bytes ≡ replicate dims bracket ++ more

pub record TypeStands (at : Production) (depth : ℕ) (type : JType)
    (bytes more : List ℕ) : Type 0 where
  pub form : is_type type at ≡ true
  pub shallow : Shallow (type_levels type depth)
  pub whole : bytes ≡ type_text type ++ more

-- a part, before the next one or the end of the class
pub record PartStands (depth : ℕ) (part : JPart) (bytes more : List ℕ) : Type 0 where
  pub form : is_part part is_plain_name ≡ true
  pub shallow : Shallow (part_levels part depth)
  pub stops : begins_among (codes ".;") more ≡ true
  pub whole : bytes ≡ part_text part ++ more

-- the parts of a class, with its ;
pub record PartsStand (depth : ℕ) (parts : List JPart) (bytes more : List ℕ) : Type 0 where
  pub form : are_parts (map is_part parts) ≡ true
  pub shallow : Shallow (parts_levels (map part_levels parts) depth)
  pub whole : bytes ≡ parts_text (map part_text parts) ++ (semicolon ∷ more)

pub record ArgsStand (depth : ℕ) (args : List JArg) (bytes more : List ℕ) : Type 0 where
  pub form : list_all (λ arg. arg) (map is_arg args) ≡ true
  pub shallow : Shallow (args_levels (map arg_levels args) depth)
  pub stops : begins_among (codes ".;") more ≡ true
  pub whole : bytes ≡ args_text (map arg_text args) ++ more

pub record ArgStands (depth : ℕ) (arg : JArg) (bytes more : List ℕ) : Type 0 where
  pub form : is_arg arg ≡ true
  pub shallow : Shallow (arg_levels arg depth)
  pub whole : bytes ≡ arg_text arg ++ more

-- ---- one behind the other

abbrev pub Row : {T : Type 0} → (T → List ℕ → List ℕ → Type 0) → List T → List ℕ → List ℕ → Type 0
Row Stands [] bytes more = bytes ≡ more
Row Stands (item ∷ items) bytes more =
    (middle : List ℕ) × Stands item bytes middle × Row Stands items middle more

-- the same, with this byte at the end
abbrev pub RowTo : {T : Type 0} → ℕ → (T → List ℕ → List ℕ → Type 0) → List T → List ℕ → List ℕ
    → Type 0
RowTo stop Stands items bytes more = Row Stands items bytes (stop ∷ more)

-- the same, each behind a byte of its own
pub record Marked {T : Type 0} (mark : ℕ) (Stands : T → List ℕ → List ℕ → Type 0) (item : T)
    (bytes more : List ℕ) : Type 0 where
  pub behind : List ℕ
  pub front : bytes ≡ mark ∷ behind
  pub stands : Stands item behind more

-- types, before the end or a )
abbrev pub ends_types : List ℕ → Bool
ends_types [] = true
ends_types (b ∷ bytes) = b == closing

pub record TypesStand (types : List JType) (bytes more : List ℕ) : Type 0 where
  pub row : Row (TypeStands AnyType 0) types bytes more
  pub stops : ends_types more ≡ true

-- types behind a mark each, before something else
pub record MarkedStand (mark : ℕ) (types : List JType) (bytes more : List ℕ) : Type 0 where
  pub row : Row (Marked mark (TypeStands AnyType 0)) types bytes more
  pub stops : begins_with mark more ≡ false

-- ---- type parameters

-- the class bound of a type parameter, there or not
pub record BoundStands (bound : Option JType) (bytes more : List ℕ) : Type 0 where
  pub form : is_class_bound bound ≡ true
  pub shallow : Shallow (bound_levels bound)
  pub stops : is_before_type more ≡ false
  pub whole : bytes ≡ bound_text bound ++ more

-- a type parameter, before the next one or the end of them
pub record ParamStands (param : JParam) (bytes more : List ℕ) : Type 0 where
  pub form : is_param param ≡ true
  pub shallow : Shallow (param_levels param)
  pub unmarked : begins_with colon more ≡ false
  pub stops : is_before_type more ≡ false
  pub whole : bytes ≡ param_text param ++ more

pub record ParamsStand (params : List JParam) (bytes more : List ℕ) : Type 0 where
  pub form : list_all is_param params ≡ true
  pub shallow : Shallow (params_levels params)
  pub stops : begins_with less more ≡ false
  pub whole : bytes ≡ params_text params ++ more

-- ---- signatures

-- the types of a method's parameters, between ( and )
pub record FormalsStand (formals : List JType) (bytes more : List ℕ) : Type 0 where
  pub behind : List ℕ
  pub front : bytes ≡ opening ∷ behind
  pub types : TypesStand formals behind (closing ∷ more)

-- a whole signature
pub record SigStands (place : SigPlace) (sig : JSig) (bytes more : List ℕ) : Type 0 where
  pub spelled : SignatureSpells place sig bytes
  pub nested : nesting sig ≤ nesting_limit
  pub ends : more ≡ []
