-- The texts of trees: their names and the texts of their literals.
use Rattle.std.specs.Prelude.{ℕ, List, [], ◌∷◌, ◌++◌, Option, Some, None}
use Rattle.std.specs.List.{flat_map}
use Rattle.java_ast.specs.declared.types.TypeTree.{TypeTree, fold-TypeTree}
use Rattle.java_ast.specs.declared.types.ArgTree.TheOpen.{ArgTree-F, TypeTree-F, NamePart-F}
use Rattle.java_ast.specs.declared.expression.Expr.{Expr, fold-Expr}
use Rattle.java_ast.specs.declared.expression.Expr.TheOpen.{Expr-F, Link-F}
use Rattle.java_ast.specs.declared.expression.Lit.{Lit}
use Rattle.java_ast.specs.declared.expression.Lit.TheVariants as literal
use Rattle.java_ast.specs.declared.annotation.AnnTree.{AnnTree, fold-AnnTree}
use Rattle.java_ast.specs.declared.annotation.ElemTree.{ElemTree, fold-ElemTree}
use Rattle.java_ast.specs.declared.annotation.ElemTree.TheOpen.{ElemTree-F, AnnTree-F, ElemArg-F}
use Rattle.java_ast.specs.declared.modifiers.Modifiers.{Modifiers}
use Rattle.java_ast.specs.declared.member.FieldDecl.{FieldDecl}
use Rattle.java_ast.specs.declared.member.Init.{Init}
use Rattle.java_ast.specs.declared.member.Init.TheVariants as init
use Rattle.java_ast.specs.declared.member.MethodDecl.{MethodDecl}
use Rattle.java_ast.specs.declared.member.Param.{Param}
use Rattle.java_ast.specs.declared.declaration.TypeParam.{TypeParam}
use Rattle.java_ast.specs.declared.declaration.EnumConst.{EnumConst}
use Rattle.java_ast.specs.declared.declaration.TypeDecl.{TypeDecl, fold-TypeDecl}
use Rattle.java_ast.specs.declared.declaration.Member.TheOpen.{Member-F, TypeDecl-F}
use Rattle.java_ast.specs.declared.unit.Import.{Import}
use Rattle.java_ast.specs.declared.unit.Unit as unit

abbrev pub Texts : Type 0
Texts = List (List ℕ)

abbrev pub all : List Texts → Texts
all lists = flat_map (λ texts. texts) lists

abbrev pub given : {X : Type 0} → (X → Texts) → Option X → Texts
given texts_of None = []
given texts_of (Some x) = texts_of x

abbrev pub type_layer_texts : TypeTree-F Texts Texts Texts → Texts
type_layer_texts TypeTree-F.Void = []
type_layer_texts (TypeTree-F.Primitive p) = []
type_layer_texts (TypeTree-F.Named line parts) = all parts
type_layer_texts (TypeTree-F.Array element dims) = element

abbrev pub part_layer_texts : NamePart-F Texts Texts Texts → Texts
part_layer_texts part = part.name ∷ given all part.args

abbrev pub arg_layer_texts : ArgTree-F Texts Texts Texts → Texts
arg_layer_texts (ArgTree-F.Exact type) = type
arg_layer_texts (ArgTree-F.Extends type) = type
arg_layer_texts (ArgTree-F.Super type) = type
arg_layer_texts ArgTree-F.Any = []

unfoldable pub type_texts : TypeTree → Texts
type_texts type = fold-TypeTree Texts Texts Texts arg_layer_texts type_layer_texts
    part_layer_texts type

abbrev pub literal_texts : Lit → Texts
literal_texts (literal.Str text) = text ∷ []
literal_texts _ = []

abbrev pub expression_layer_texts : Expr-F Texts Texts → Texts
expression_layer_texts (Expr-F.Lit l) = literal_texts l
expression_layer_texts (Expr-F.Name words) = words
expression_layer_texts (Expr-F.ClassLit type) = type_texts type
expression_layer_texts (Expr-F.Unary op operand) = operand
expression_layer_texts (Expr-F.Chain first rest) = first ++ all rest
expression_layer_texts (Expr-F.Cond test chosen other) = test ++ (chosen ++ other)
expression_layer_texts (Expr-F.Cast type operand) = type_texts type ++ operand

abbrev pub link_layer_texts : Link-F Texts Texts → Texts
link_layer_texts link = link.right

unfoldable pub expression_texts : Expr → Texts
expression_texts e = fold-Expr Texts Texts expression_layer_texts link_layer_texts e

abbrev pub element_layer_texts : ElemTree-F Texts Texts Texts → Texts
element_layer_texts (ElemTree-F.Value e) = expression_texts e
element_layer_texts (ElemTree-F.Ann a) = a
element_layer_texts (ElemTree-F.List values) = all values

abbrev pub annotation_layer_texts : AnnTree-F Texts Texts Texts → Texts
annotation_layer_texts a = a.names ++ all a.args

abbrev pub element_arg_layer_texts : ElemArg-F Texts Texts Texts → Texts
element_arg_layer_texts arg = arg.name ∷ arg.value

unfoldable pub annotation_texts : AnnTree → Texts
annotation_texts a = fold-AnnTree Texts Texts Texts element_layer_texts annotation_layer_texts
    element_arg_layer_texts a

unfoldable pub element_texts : ElemTree → Texts
element_texts e = fold-ElemTree Texts Texts Texts element_layer_texts annotation_layer_texts
    element_arg_layer_texts e

abbrev pub modifier_texts : Modifiers → Texts
modifier_texts mods = flat_map annotation_texts mods.anns

abbrev pub type_param_texts : TypeParam → Texts
type_param_texts p = p.name ∷ flat_map type_texts p.bounds

abbrev pub param_texts : Param → Texts
param_texts p = modifier_texts p.mods ++ (type_texts p.ty ++ p.name ∷ [])

abbrev pub init_texts : Init → Texts
init_texts (init.Plain e) = expression_texts e
init_texts _ = []

abbrev pub field_texts : FieldDecl → Texts
field_texts f = modifier_texts f.mods ++ (type_texts f.ty ++ f.name ∷ init_texts f.init)

abbrev pub method_texts : MethodDecl → Texts
method_texts m =
    modifier_texts m.mods ++ (flat_map type_param_texts m.params ++
    (type_texts m.ret ++ m.name ∷ (flat_map param_texts m.formals
    ++ (flat_map type_texts m.throws ++ given element_texts m.default_value))))

abbrev pub constant_texts : EnumConst → Texts
constant_texts c = c.name ∷ flat_map annotation_texts c.anns

abbrev pub member_layer_texts : Member-F Texts Texts → Texts
member_layer_texts (Member-F.Field f) = field_texts f
member_layer_texts (Member-F.Method m) = method_texts m
member_layer_texts (Member-F.Nested d) = d

abbrev pub declaration_layer_texts : TypeDecl-F Texts Texts → Texts
declaration_layer_texts d =
    modifier_texts d.mods ++ d.name ∷
    (flat_map type_param_texts d.params ++ (flat_map type_texts d.extends
    ++ (flat_map type_texts d.implements ++
    (flat_map type_texts d.permits ++ (flat_map constant_texts d.constants
    ++ (flat_map param_texts d.components ++ all d.members))))))

unfoldable pub declaration_texts : TypeDecl → Texts
declaration_texts d = fold-TypeDecl Texts Texts member_layer_texts declaration_layer_texts d

abbrev pub import_texts : Import → Texts
import_texts i = i.names

-- every text of the unit but its path
unfoldable pub unit_texts : unit.Unit → Texts
unit_texts u = u.package ++ (flat_map import_texts u.imports ++ flat_map declaration_texts u.types)
