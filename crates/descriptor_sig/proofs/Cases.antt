-- Each type, part and argument is one of its variants.
use Rattle.std.proofs.Common.{◌≡◌, sym, ◌∙◌, ℕ, List}
use Rattle.java_types.specs.declared.types.JType.{JType, out-JType, roll-JType, roll-out-JType}
use Rattle.java_types.specs.declared.types.JArg.{JArg, out-JArg, roll-JArg, roll-out-JArg}
use Rattle.java_types.specs.declared.types.JPart.{JPart}
use Rattle.java_types.specs.declared.types.JArg.TheOpen.{JType-F, JArg-F}
use Rattle.java_types.specs.declared.types.JType.TheVariants as type
use Rattle.java_types.specs.declared.types.JArg.TheVariants as arg

pub data TypeKind (t : JType) : Type 0 where
  is_void : t ≡ type.Void → TypeKind t
  is_prim : (letter : ℕ) → t ≡ type.Prim letter → TypeKind t
  is_named : (parts : List JPart) → t ≡ type.Named parts → TypeKind t
  is_var : (name : List ℕ) → t ≡ type.Var name → TypeKind t
  is_array : (element : JType) (dims : ℕ) → t ≡ type.Array element dims → TypeKind t

pub type_kind : (t : JType) → TypeKind t
type_kind t = by (out-JType t) (sym (roll-out-JType t)) where
  by : (layer : _) → t ≡ roll-JType layer → TypeKind t
  by JType-F.Void e = is_void (e ∙ type.rolls-Void)
  by (JType-F.Prim letter) e = is_prim letter (e ∙ type.rolls-Prim letter)
  by (JType-F.Named parts) e = is_named parts (e ∙ type.rolls-Named parts)
  by (JType-F.Var name) e = is_var name (e ∙ type.rolls-Var name)
  by (JType-F.Array element dims) e = is_array element dims (e ∙ type.rolls-Array element dims)

pub data ArgKind (a : JArg) : Type 0 where
  is_exact : (t : JType) → a ≡ arg.Exact t → ArgKind a
  is_extends : (t : JType) → a ≡ arg.Extends t → ArgKind a
  is_super : (t : JType) → a ≡ arg.Super t → ArgKind a
  is_any : a ≡ arg.Any → ArgKind a

pub arg_kind : (a : JArg) → ArgKind a
arg_kind a = by (out-JArg a) (sym (roll-out-JArg a)) where
  by : (layer : _) → a ≡ roll-JArg layer → ArgKind a
  by (JArg-F.Exact t) e = is_exact t (e ∙ arg.rolls-Exact t)
  by (JArg-F.Extends t) e = is_extends t (e ∙ arg.rolls-Extends t)
  by (JArg-F.Super t) e = is_super t (e ∙ arg.rolls-Super t)
  by JArg-F.Any e = is_any (e ∙ arg.rolls-Any)
