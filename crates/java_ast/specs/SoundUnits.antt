-- What a sound unit is: its texts are texts, its names are names, and each node has only the
-- parts that its production of the grammar can give (JLS 3.8, 4, 6.5, 7 to 9). Tests that compute
-- over the trees.
use Rattle.std.specs.Prelude.{◌≡◌, ℕ, ◌<◌, ◌^◌, ◌-◌, ◌==◌, Bool, true, false, not, ◌&&◌, ◌||◌}
use Rattle.std.specs.Prelude.{nat_le, nat_lt, List, [], ◌∷◌, ◌++◌, map, length, codes, nat_eq}
use Rattle.std.specs.Prelude.{bit_and, Option, Some, None}
use Rattle.std.specs.List.{list_all, list_any, flat_map, AllByRecursion}
use lib.Pointwise.{pointwise}
use Rattle.java_ast.specs.declared.types.Primitive.{Primitive}
use Rattle.java_ast.specs.declared.types.TypeTree.{TypeTree, fold-TypeTree}
use Rattle.java_ast.specs.declared.types.ArgTree.TheOpen.{ArgTree-F, TypeTree-F, NamePart-F}
use Rattle.java_ast.specs.declared.expression.Expr.{Expr, fold-Expr}
use Rattle.java_ast.specs.declared.expression.Expr.TheOpen.{Expr-F, Link-F}
use Rattle.java_ast.specs.declared.expression.Lit.{Lit}
use Rattle.java_ast.specs.declared.annotation.AnnTree.{AnnTree, fold-AnnTree}
use Rattle.java_ast.specs.declared.annotation.ElemTree.{ElemTree, fold-ElemTree}
use Rattle.java_ast.specs.declared.annotation.ElemTree.TheOpen.{ElemTree-F, AnnTree-F, ElemArg-F}
use Rattle.java_ast.specs.declared.modifiers.Modifiers.{Modifiers}
use Rattle.java_ast.specs.declared.modifiers.TheConstants.{PUBLIC, PRIVATE, PROTECTED}
use Rattle.java_ast.specs.declared.modifiers.TheConstants.{ACCESS_FLAGS, MODIFIER_FLAGS}
use Rattle.java_ast.specs.declared.member.FieldDecl.{FieldDecl}
use Rattle.java_ast.specs.declared.member.Init.{Init}
use Rattle.java_ast.specs.declared.member.Init.TheVariants as init
use Rattle.java_ast.specs.declared.member.MethodDecl.{MethodDecl}
use Rattle.java_ast.specs.declared.member.MethodKind.{MethodKind}
use Rattle.java_ast.specs.declared.member.MethodKind.TheVariants as method
use Rattle.java_ast.specs.declared.member.Param.{Param}
use Rattle.java_ast.specs.declared.declaration.DeclKind.{DeclKind}
use Rattle.java_ast.specs.declared.declaration.DeclKind.TheVariants as declares
use Rattle.java_ast.specs.declared.declaration.TypeParam.{TypeParam}
use Rattle.java_ast.specs.declared.declaration.EnumConst.{EnumConst}
use Rattle.java_ast.specs.declared.declaration.TypeDecl.{TypeDecl, fold-TypeDecl}
use Rattle.java_ast.specs.declared.declaration.Member.TheOpen.{Member-F, TypeDecl-F}
use Rattle.java_ast.specs.declared.unit.Import.{Import}
use Rattle.java_ast.specs.declared.unit.Unit as unit
use Rattle.java_names.specs.Names.{is_identifier}
use Rattle.java_names.specs.ModifiedUtf8.{IsModifiedUtf8}
use Rattle.java_ast.specs.Texts.{unit_texts}

-- ---- what a node says of itself, where a part is given as what it says

-- what holds of a type at a place
pub data Place : Type 0 where
  -- any type but `void`
  AnyType : Place
  -- a result, or the type of a class literal
  AnyResult : Place
  -- a type argument
  Reference : Place
  -- what is extended, implemented, permitted or thrown, or bounds a type parameter
  Named : Place
  -- the element of an array
  Element : Place

abbrev pub allows_void : Place → Bool
allows_void AnyResult = true
allows_void _ = false

abbrev pub allows_primitive : Place → Bool
allows_primitive Reference = false
allows_primitive Named = false
allows_primitive _ = true

abbrev pub allows_array : Place → Bool
allows_array Named = false
allows_array Element = false
allows_array _ = true

abbrev pub is_filled : {X : Type 0} → List X → Bool
is_filled [] = false
is_filled (x ∷ xs) = true

abbrev pub all_given : {X : Type 0} → (X → Bool) → Option (List X) → Bool
all_given is None = true
all_given is (Some xs) = list_all is xs

-- the number of dimensions is at least 1, and one more is a number of 32 bits
abbrev pub are_dims : ℕ → Bool
are_dims dims = nat_le 1 dims && nat_lt dims (2 ^ 32 - 1)

abbrev pub type_layer_sound : TypeTree-F Bool (Place → Bool) Bool → Place → Bool
type_layer_sound TypeTree-F.Void at = allows_void at
type_layer_sound (TypeTree-F.Primitive p) at = allows_primitive at
type_layer_sound (TypeTree-F.Named line parts) at = is_filled parts
    && list_all (λ part. part) parts
type_layer_sound (TypeTree-F.Array element dims) at = allows_array at
    && (are_dims dims && element Element)

abbrev pub part_layer_sound : NamePart-F Bool (Place → Bool) Bool → Bool
part_layer_sound part = is_identifier part.name && all_given (λ arg. arg) part.args

abbrev pub arg_layer_sound : ArgTree-F Bool (Place → Bool) Bool → Bool
arg_layer_sound (ArgTree-F.Exact type) = type Reference
arg_layer_sound (ArgTree-F.Extends type) = type Reference
arg_layer_sound (ArgTree-F.Super type) = type Reference
arg_layer_sound ArgTree-F.Any = true

unfoldable pub is_sound_type : Place → TypeTree → Bool
is_sound_type at type = fold-TypeTree Bool
    (Place → Bool) Bool arg_layer_sound type_layer_sound part_layer_sound type at

-- ---- expressions and annotations

abbrev pub are_words : List (List ℕ) → Bool
are_words words = is_filled words && list_all is_identifier words

abbrev pub expression_layer_sound : Expr-F Bool Bool → Bool
expression_layer_sound (Expr-F.Lit l) = true
expression_layer_sound (Expr-F.Name words) = are_words words
expression_layer_sound (Expr-F.ClassLit type) = is_sound_type AnyResult type
expression_layer_sound (Expr-F.Unary op operand) = operand
expression_layer_sound (Expr-F.Chain first rest) = first
    && (is_filled rest && list_all (λ link. link) rest)
expression_layer_sound (Expr-F.Cond test chosen other) = test && (chosen && other)
expression_layer_sound (Expr-F.Cast type operand) = is_sound_type AnyType type && operand

abbrev pub link_layer_sound : Link-F Bool Bool → Bool
link_layer_sound link = link.right

unfoldable pub is_sound_expression : Expr → Bool
is_sound_expression e = fold-Expr Bool Bool expression_layer_sound link_layer_sound e

abbrev pub element_layer_sound : ElemTree-F Bool Bool Bool → Bool
element_layer_sound (ElemTree-F.Value e) = is_sound_expression e
element_layer_sound (ElemTree-F.Ann a) = a
element_layer_sound (ElemTree-F.List values) = list_all (λ value. value) values

abbrev pub annotation_layer_sound : AnnTree-F Bool Bool Bool → Bool
annotation_layer_sound a = are_words a.names && list_all (λ arg. arg) a.args

abbrev pub element_arg_layer_sound : ElemArg-F Bool Bool Bool → Bool
element_arg_layer_sound arg = is_identifier arg.name && arg.value

unfoldable pub is_sound_annotation : AnnTree → Bool
is_sound_annotation a = fold-AnnTree Bool Bool Bool element_layer_sound annotation_layer_sound
    element_arg_layer_sound a

unfoldable pub is_sound_element : ElemTree → Bool
is_sound_element e = fold-ElemTree Bool Bool Bool element_layer_sound annotation_layer_sound
    element_arg_layer_sound e

-- ---- declarations

-- the flags are those of modifier words, of `public`, `private` and `protected` at most one
abbrev pub are_modifier_flags : ℕ → Bool
are_modifier_flags flags =
    (bit_and flags MODIFIER_FLAGS == flags)
    && list_any (λ access. bit_and flags ACCESS_FLAGS == access)
    (0 ∷ PUBLIC ∷ PRIVATE ∷ PROTECTED ∷ [])

abbrev pub are_sound_modifiers : Modifiers → Bool
are_sound_modifiers mods = are_modifier_flags mods.flags && list_all is_sound_annotation mods.anns

-- annotations alone
abbrev pub are_annotations : Modifiers → Bool
are_annotations mods = (mods.flags == 0)
    && not (mods.is_default || (mods.is_sealed || mods.non_sealed))

abbrev pub are_named : List TypeTree → Bool
are_named types = list_all (is_sound_type Named) types

abbrev pub is_sound_type_param : TypeParam → Bool
is_sound_type_param p = is_identifier p.name && are_named p.bounds

abbrev pub is_sound_param : Param → Bool
is_sound_param p = are_sound_modifiers p.mods
    && (is_sound_type AnyType p.ty && is_identifier p.name)

abbrev pub is_sound_component : Param → Bool
is_sound_component p = are_annotations p.mods && is_sound_param p

abbrev pub is_sound_init : Init → Bool
is_sound_init init.Absent = true
is_sound_init init.Other = true
is_sound_init (init.Plain e) = is_sound_expression e

abbrev pub is_sound_field : FieldDecl → Bool
is_sound_field f =
    are_sound_modifiers f.mods &&
    (is_sound_type AnyType f.ty && (is_identifier f.name && is_sound_init f.init))

abbrev pub is_void : TypeTree → Bool
is_void type = is_sound_type AnyResult type && not (is_sound_type AnyType type)

abbrev pub is_init_name : List ℕ → Bool
is_init_name name = pointwise nat_eq name (codes "<init>")

abbrev pub is_sound_default : Option ElemTree → Bool
is_sound_default None = true
is_sound_default (Some e) = is_sound_element e

abbrev pub is_empty_default : Option ElemTree → Bool
is_empty_default None = true
is_empty_default (Some e) = false

abbrev pub is_empty : {X : Type 0} → List X → Bool
is_empty xs = not (is_filled xs)

-- a method of this kind in a class of that kind
abbrev pub is_sound_kind : MethodKind → DeclKind → MethodDecl → Bool
is_sound_kind method.Plain kind m = is_identifier m.name
is_sound_kind method.Constructor kind m = is_init_name m.name
    && (is_void m.ret && is_empty_default m.default_value)
is_sound_kind method.Compact declares.Recorded m =
    is_init_name m.name && (is_void m.ret && (is_empty_default m.default_value
    && (is_empty m.params && (is_empty m.formals && is_empty m.throws))))
is_sound_kind method.Compact kind m = false

abbrev pub is_sound_method : DeclKind → MethodDecl → Bool
is_sound_method kind m =
    is_sound_kind m.kind kind m &&
    (are_sound_modifiers m.mods && (list_all is_sound_type_param m.params
    && (is_sound_type AnyResult m.ret && (list_all is_sound_param m.formals && (are_named m.throws
    && is_sound_default m.default_value)))))

abbrev pub is_sound_constant : EnumConst → Bool
is_sound_constant c = is_identifier c.name && list_all is_sound_annotation c.anns

abbrev pub is_at_most_one : {X : Type 0} → List X → Bool
is_at_most_one xs = nat_le (length xs) 1

-- what a kind of declaration can't have is empty, whatever stands for its members
abbrev pub has_only : {M D : Type 0} → DeclKind → TypeDecl-F M D → Bool
has_only declares.Class d = is_at_most_one d.extends
    && (is_empty d.constants && is_empty d.components)
has_only declares.Interface d = is_empty d.implements
    && (is_empty d.constants && is_empty d.components)
has_only declares.Enumeration d = is_empty d.params
    && (is_empty d.extends && (is_empty d.permits && is_empty d.components))
has_only declares.Recorded d = is_empty d.extends && (is_empty d.permits && is_empty d.constants)
has_only declares.Annotation d =
    is_empty d.params && (is_empty d.extends && (is_empty d.implements && (is_empty d.permits
    && (is_empty d.constants && is_empty d.components))))

abbrev pub member_layer_sound : Member-F (DeclKind → Bool) Bool → DeclKind → Bool
member_layer_sound (Member-F.Field f) kind = is_sound_field f
member_layer_sound (Member-F.Method m) kind = is_sound_method kind m
member_layer_sound (Member-F.Nested d) kind = d

abbrev pub declaration_layer_sound : TypeDecl-F (DeclKind → Bool) Bool → Bool
declaration_layer_sound d =
    has_only d.kind d && (are_sound_modifiers d.mods
    && (is_identifier d.name && (list_all is_sound_type_param d.params
    && (are_named d.extends && (are_named d.implements
    && (are_named d.permits && (list_all is_sound_constant d.constants
    && (list_all is_sound_component d.components
    && list_all (λ member. member d.kind) d.members))))))))

unfoldable pub is_sound_declaration : TypeDecl → Bool
is_sound_declaration d = fold-TypeDecl
    (DeclKind → Bool) Bool member_layer_sound declaration_layer_sound d

abbrev pub is_sound_import : Import → Bool
is_sound_import i = are_words i.names

-- the names and the parts of a unit are right
unfoldable pub is_sound_form : unit.Unit → Bool
is_sound_form u =
    list_all is_identifier u.package
    && (list_all is_sound_import u.imports && list_all is_sound_declaration u.types)

-- the unit is sound
pub record IsSound (u : unit.Unit) : Type 0 where
  pub texts : AllByRecursion IsModifiedUtf8 (unit_texts u)
  pub form : is_sound_form u ≡ true
