-- What the definitions over types say at each kind of type, part and argument.
use Rattle.std.proofs.Common.{◌≡◌, ap, sym, ◌∙◌, ℕ, Bool, true, List, [], ◌∷◌, ◌++◌, ◌&&◌, ◌^◌}
use Rattle.std.proofs.Common.{map, replicate}
use Rattle.std.specs.Prelude.{codes, nat_le, nat_lt}
use Rattle.std.specs.List.{list_all}
use Rattle.java_types.specs.declared.types.JType.{JType, fold-roll-JType}
use Rattle.java_types.specs.declared.types.JPart.{JPart, out-JPart, fold_out-JPart, roll-JPart}
use Rattle.java_types.specs.declared.types.JPart.{fold-roll-JPart}
use Rattle.java_types.specs.declared.types.JArg.{JArg, fold-roll-JArg}
use Rattle.java_types.specs.declared.types.JArg.TheOpen.{JType-F, JPart-F, JArg-F}
use Rattle.java_types.specs.declared.types.JType.TheVariants as type
use Rattle.java_types.specs.declared.types.JArg.TheVariants as arg
use Rattle.java_types.specs.Types.{type_text, part_text, arg_text, arg_layer_text}
use Rattle.java_types.specs.Types.{type_layer_text, part_layer_text, parts_text, args_text}
use Rattle.java_types.specs.declared.production.Production.{Production}
use Rattle.java_types.specs.declared.production.Production.TheVariants.{Element, Reference}
use Rattle.java_types.specs.Signature.{PartForm, is_type, is_part, is_arg, arg_layer_is}
use Rattle.java_types.specs.Signature.{type_layer_is, part_layer_is, are_parts, allows_void}
use Rattle.java_types.specs.Signature.{allows_primitive, allows_variable, allows_array}
use Rattle.java_names.specs.Names.{is_identifier}
use Rattle.java_types.specs.Descriptor.{is_primitive}
use Rattle.java_types.specs.Nesting.{Levels, type_levels, part_levels, arg_levels}
use Rattle.java_types.specs.Nesting.{arg_layer_levels, type_layer_levels, part_layer_levels}
use Rattle.java_types.specs.Nesting.{parts_levels, args_levels, flat}

-- ---- texts

pub text_void : type_text type.Void ≡ codes "V"
text_void =
    ap type_text (sym type.rolls-Void)
    ∙ fold-roll-JType (List ℕ) (List ℕ) (List ℕ) arg_layer_text type_layer_text part_layer_text
    JType-F.Void

pub text_prim : (letter : ℕ) → type_text (type.Prim letter) ≡ letter ∷ []
text_prim letter =
    ap type_text (sym (type.rolls-Prim letter))
    ∙ fold-roll-JType (List ℕ) (List ℕ) (List ℕ) arg_layer_text type_layer_text part_layer_text
    (JType-F.Prim letter)

pub text_named : (parts : List JPart)
    → type_text (type.Named parts) ≡ codes "L" ++ (parts_text (map part_text parts) ++ codes ";")
text_named parts =
    ap type_text (sym (type.rolls-Named parts))
    ∙ fold-roll-JType (List ℕ) (List ℕ) (List ℕ) arg_layer_text type_layer_text part_layer_text
    (JType-F.Named parts)

pub text_var : (name : List ℕ) → type_text (type.Var name) ≡ codes "T" ++ (name ++ codes ";")
text_var name =
    ap type_text (sym (type.rolls-Var name))
    ∙ fold-roll-JType (List ℕ) (List ℕ) (List ℕ) arg_layer_text type_layer_text part_layer_text
    (JType-F.Var name)

pub text_array : (element : JType) (dims : ℕ)
    → type_text (type.Array element dims) ≡ replicate dims 91 ++ type_text element
text_array element dims =
    ap type_text (sym (type.rolls-Array element dims))
    ∙ fold-roll-JType (List ℕ) (List ℕ) (List ℕ) arg_layer_text type_layer_text part_layer_text
    (JType-F.Array element dims)

pub text_part : (part : JPart)
    → part_text part ≡ (out-JPart part).name ++ args_text (map arg_text (out-JPart part).args)
text_part part =
    fold_out-JPart (List ℕ) (List ℕ) (List ℕ) arg_layer_text type_layer_text part_layer_text part

pub text_rolled_part : (layer : JPart-F JArg JType JPart)
    → part_text (roll-JPart layer) ≡ layer.name ++ args_text (map arg_text layer.args)
text_rolled_part layer =
    fold-roll-JPart (List ℕ) (List ℕ) (List ℕ) arg_layer_text type_layer_text part_layer_text layer

pub text_exact : (ty : JType) → arg_text (arg.Exact ty) ≡ type_text ty
text_exact ty =
    ap arg_text (sym (arg.rolls-Exact ty))
    ∙ fold-roll-JArg (List ℕ) (List ℕ) (List ℕ) arg_layer_text type_layer_text part_layer_text
    (JArg-F.Exact ty)

pub text_extends : (ty : JType) → arg_text (arg.Extends ty) ≡ codes "+" ++ type_text ty
text_extends ty =
    ap arg_text (sym (arg.rolls-Extends ty))
    ∙ fold-roll-JArg (List ℕ) (List ℕ) (List ℕ) arg_layer_text type_layer_text part_layer_text
    (JArg-F.Extends ty)

pub text_super : (ty : JType) → arg_text (arg.Super ty) ≡ codes "-" ++ type_text ty
text_super ty =
    ap arg_text (sym (arg.rolls-Super ty))
    ∙ fold-roll-JArg (List ℕ) (List ℕ) (List ℕ) arg_layer_text type_layer_text part_layer_text
    (JArg-F.Super ty)

pub text_any : arg_text arg.Any ≡ codes "*"
text_any =
    ap arg_text (sym arg.rolls-Any)
    ∙ fold-roll-JArg (List ℕ) (List ℕ) (List ℕ) arg_layer_text type_layer_text part_layer_text
    JArg-F.Any

-- ---- forms in signatures

pub form_void : (place : Production) → is_type type.Void place ≡ allows_void place
form_void place =
    ap (λ t. is_type t place) (sym type.rolls-Void)
    ∙ ap (λ f. f place) (fold-roll-JType Bool (Production → Bool) PartForm arg_layer_is
    type_layer_is part_layer_is JType-F.Void)

pub form_prim : (letter : ℕ) (place : Production)
    → is_type (type.Prim letter) place ≡ allows_primitive place && is_primitive letter
form_prim letter place =
    ap (λ t. is_type t place) (sym (type.rolls-Prim letter))
    ∙ ap (λ f. f place) (fold-roll-JType Bool (Production → Bool) PartForm arg_layer_is
    type_layer_is part_layer_is (JType-F.Prim letter))

pub form_named : (parts : List JPart) (place : Production)
    → is_type (type.Named parts) place ≡ are_parts (map is_part parts)
form_named parts place =
    ap (λ t. is_type t place) (sym (type.rolls-Named parts))
    ∙ ap (λ f. f place) (fold-roll-JType Bool (Production → Bool) PartForm arg_layer_is
    type_layer_is part_layer_is (JType-F.Named parts))

pub form_var : (name : List ℕ) (place : Production)
    → is_type (type.Var name) place ≡ allows_variable place && is_identifier name
form_var name place =
    ap (λ t. is_type t place) (sym (type.rolls-Var name))
    ∙ ap (λ f. f place) (fold-roll-JType Bool (Production → Bool) PartForm arg_layer_is
    type_layer_is part_layer_is (JType-F.Var name))

pub form_array : (element : JType) (dims : ℕ) (place : Production)
    → is_type (type.Array element dims) place
    ≡ allows_array place && nat_le 1 dims && nat_lt dims (2 ^ 32) && is_type element Element
form_array element dims place =
    ap (λ t. is_type t place) (sym (type.rolls-Array element dims))
    ∙ ap (λ f. f place) (fold-roll-JType Bool (Production → Bool) PartForm arg_layer_is
    type_layer_is part_layer_is (JType-F.Array element dims))

pub form_part : (part : JPart) (is_name : List ℕ → Bool)
    → is_part part is_name ≡ is_name (out-JPart part).name
    && list_all (λ a. a) (map is_arg (out-JPart part).args)
form_part part is_name =
    ap (λ f. f is_name) (fold_out-JPart Bool (Production → Bool) PartForm arg_layer_is
    type_layer_is
    part_layer_is part)

pub form_rolled_part : (layer : JPart-F JArg JType JPart) (is_name : List ℕ → Bool)
    → is_part (roll-JPart layer) is_name
    ≡ is_name layer.name && list_all (λ a. a) (map is_arg layer.args)
form_rolled_part layer is_name =
    ap (λ f. f is_name) (fold-roll-JPart Bool (Production → Bool) PartForm arg_layer_is
    type_layer_is part_layer_is layer)

pub form_exact : (ty : JType) → is_arg (arg.Exact ty) ≡ is_type ty Reference
form_exact ty =
    ap is_arg (sym (arg.rolls-Exact ty))
    ∙ fold-roll-JArg Bool (Production → Bool) PartForm arg_layer_is type_layer_is part_layer_is
    (JArg-F.Exact ty)

pub form_extends : (ty : JType) → is_arg (arg.Extends ty) ≡ is_type ty Reference
form_extends ty =
    ap is_arg (sym (arg.rolls-Extends ty))
    ∙ fold-roll-JArg Bool (Production → Bool) PartForm arg_layer_is type_layer_is part_layer_is
    (JArg-F.Extends ty)

pub form_super : (ty : JType) → is_arg (arg.Super ty) ≡ is_type ty Reference
form_super ty =
    ap is_arg (sym (arg.rolls-Super ty))
    ∙ fold-roll-JArg Bool (Production → Bool) PartForm arg_layer_is type_layer_is part_layer_is
    (JArg-F.Super ty)

pub form_any : is_arg arg.Any ≡ true
form_any =
    ap is_arg (sym arg.rolls-Any)
    ∙ fold-roll-JArg Bool (Production → Bool) PartForm arg_layer_is type_layer_is part_layer_is
    JArg-F.Any

-- ---- levels of nesting

pub levels_void : (depth : ℕ) → type_levels type.Void depth ≡ 0 ∷ []
levels_void depth =
    ap (λ t. type_levels t depth) (sym type.rolls-Void)
    ∙ ap (λ f. f depth) (fold-roll-JType Levels Levels Levels arg_layer_levels type_layer_levels
    part_layer_levels JType-F.Void)

pub levels_prim : (letter : ℕ) (depth : ℕ) → type_levels (type.Prim letter) depth ≡ 0 ∷ []
levels_prim letter depth =
    ap (λ t. type_levels t depth) (sym (type.rolls-Prim letter))
    ∙ ap (λ f. f depth) (fold-roll-JType Levels Levels Levels arg_layer_levels type_layer_levels
    part_layer_levels (JType-F.Prim letter))

pub levels_named : (parts : List JPart) (depth : ℕ)
    → type_levels (type.Named parts) depth
    ≡ 0 ∷ parts_levels (map part_levels parts) depth ++ (0 ∷ [])
levels_named parts depth =
    ap (λ t. type_levels t depth) (sym (type.rolls-Named parts))
    ∙ ap (λ f. f depth) (fold-roll-JType Levels Levels Levels arg_layer_levels type_layer_levels
    part_layer_levels (JType-F.Named parts))

pub levels_var : (name : List ℕ) (depth : ℕ)
    → type_levels (type.Var name) depth ≡ 0 ∷ flat name ++ (0 ∷ [])
levels_var name depth =
    ap (λ t. type_levels t depth) (sym (type.rolls-Var name))
    ∙ ap (λ f. f depth) (fold-roll-JType Levels Levels Levels arg_layer_levels type_layer_levels
    part_layer_levels (JType-F.Var name))

pub levels_array : (element : JType) (dims : ℕ) (depth : ℕ)
    → type_levels (type.Array element dims) depth ≡ replicate dims 0 ++ type_levels element depth
levels_array element dims depth =
    ap (λ t. type_levels t depth) (sym (type.rolls-Array element dims))
    ∙ ap (λ f. f depth) (fold-roll-JType Levels Levels Levels arg_layer_levels type_layer_levels
    part_layer_levels (JType-F.Array element dims))

pub levels_part : (part : JPart) (depth : ℕ)
    → part_levels part depth ≡ flat (out-JPart part).name
    ++ args_levels (map arg_levels (out-JPart part).args) depth
levels_part part depth =
    ap (λ f. f depth) (fold_out-JPart Levels Levels Levels arg_layer_levels type_layer_levels
    part_layer_levels part)

pub levels_rolled_part : (layer : JPart-F JArg JType JPart) (depth : ℕ)
    → part_levels (roll-JPart layer) depth
    ≡ flat layer.name ++ args_levels (map arg_levels layer.args) depth
levels_rolled_part layer depth =
    ap (λ f. f depth) (fold-roll-JPart Levels Levels Levels arg_layer_levels type_layer_levels
    part_layer_levels layer)

pub levels_exact : (ty : JType) (depth : ℕ) → arg_levels (arg.Exact ty) depth
    ≡ type_levels ty depth
levels_exact ty depth =
    ap (λ t. arg_levels t depth) (sym (arg.rolls-Exact ty))
    ∙ ap (λ f. f depth) (fold-roll-JArg Levels Levels Levels arg_layer_levels type_layer_levels
    part_layer_levels (JArg-F.Exact ty))

pub levels_extends : (ty : JType) (depth : ℕ)
    → arg_levels (arg.Extends ty) depth ≡ 0 ∷ type_levels ty depth
levels_extends ty depth =
    ap (λ t. arg_levels t depth) (sym (arg.rolls-Extends ty))
    ∙ ap (λ f. f depth) (fold-roll-JArg Levels Levels Levels arg_layer_levels type_layer_levels
    part_layer_levels (JArg-F.Extends ty))

pub levels_super : (ty : JType) (depth : ℕ)
    → arg_levels (arg.Super ty) depth ≡ 0 ∷ type_levels ty depth
levels_super ty depth =
    ap (λ t. arg_levels t depth) (sym (arg.rolls-Super ty))
    ∙ ap (λ f. f depth) (fold-roll-JArg Levels Levels Levels arg_layer_levels type_layer_levels
    part_layer_levels (JArg-F.Super ty))

pub levels_any : (depth : ℕ) → arg_levels arg.Any depth ≡ 0 ∷ []
levels_any depth =
    ap (λ t. arg_levels t depth) (sym arg.rolls-Any)
    ∙ ap (λ f. f depth) (fold-roll-JArg Levels Levels Levels arg_layer_levels type_layer_levels
    part_layer_levels JArg-F.Any)
