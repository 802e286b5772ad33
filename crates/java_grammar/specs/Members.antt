-- Which texts spell which fields, methods and constructors (JLS 8.3, 8.4, 8.8, 8.10.4, 9.3, 9.4,
-- 9.6.1), each in the text of one segment.
use Rattle.std.specs.Prelude.{◌≡◌, ℕ, Bool, true, false, List, [], ◌∷◌, ◌++◌, length, codes, None}
use Rattle.java_token.specs.declared.token.Token.{Token}
use Rattle.java_ast.specs.declared.types.TypeTree.{TypeTree, out-TypeTree}
use Rattle.java_ast.specs.declared.types.TypeTree.TheVariants as tree
use Rattle.java_ast.specs.declared.types.ArgTree.TheOpen.{TypeTree-F}
use Rattle.java_ast.specs.declared.expression.Expr.{Expr}
use Rattle.java_ast.specs.declared.annotation.AnnTree.{AnnTree}
use Rattle.java_ast.specs.declared.annotation.ElemTree.{ElemTree}
use Rattle.java_ast.specs.declared.declaration.TypeParam.{TypeParam}
use Rattle.java_ast.specs.declared.modifiers.Modifiers.{Modifiers}
use Rattle.java_ast.specs.declared.member.FieldDecl.{FieldDecl}
use Rattle.java_ast.specs.declared.member.Init.{Init}
use Rattle.java_ast.specs.declared.member.Init.TheVariants as init
use Rattle.java_ast.specs.declared.member.MethodDecl.{MethodDecl}
use Rattle.java_ast.specs.declared.member.MethodKind.TheVariants as method
use Rattle.java_ast.specs.declared.member.Param.{Param}
use Rattle.java_grammar.specs.declared.part.Part.TheVariants as part
use Rattle.java_grammar.specs.declared.part.ModifierWord.TheVariants as modifier
use Rattle.java_grammar.specs.Parts.{part_of, parts}
use Rattle.java_grammar.specs.Extents.{extent_of}
use Rattle.java_grammar.specs.Counts.{is_plain}
use Rattle.java_grammar.specs.Marks.{Mark, Single, Group, Semi, Line, marks}
use Rattle.java_grammar.specs.Words.{Nothing, ◌⨾◌, Either, Perhaps, Given, Row, Is, Word, WordOn}
use Rattle.java_grammar.specs.Words.{Comma, Commas, PerhapsCommas}
use Rattle.java_grammar.specs.Expressions.{Dot, InParentheses, TypeLayer, ExprSpells}
use Rattle.java_grammar.specs.Annotations.{AnyAnns, AnnSpells, ElemSpells}
use Rattle.java_grammar.specs.Types.{Dims, TypeSpells, BareSpells, NamedTypes, TypeParams}
use Rattle.java_grammar.specs.Types.{more_dims}
use Rattle.java_grammar.specs.Modifiers.{ModifiersSpell, AnnotationsSpell}

-- the end of a segment: a skipped group, or `;`
abbrev pub SkippedGroup : Line
SkippedGroup text = text ≡ Group ∷ []

abbrev pub Semicolon : Line
Semicolon text = text ≡ Semi ∷ []

abbrev pub with_dims : TypeTree → ℕ → TypeTree
with_dims t n = more_dims t (out-TypeTree t) n

-- ---- fields

-- an initialiser, as the tokens of its extent before these tokens
pub record Initialiser (is : List Token → Type 0) (behind : List Mark)
    (text : List Mark) : Type 0 where
  pub assign : Token
  pub tokens : List Token
  pub following : List Token
  pub whole : text ≡ Single assign ∷ marks tokens
  pub equals : part_of assign ≡ part.Assign
  pub rest : behind ≡ marks following ++ Semi ∷ []
  pub extent : extent_of (parts (tokens ++ following)) ≡ length tokens
  pub spelled : is tokens

abbrev pub IsExpression : List Token → Expr → Type 0
IsExpression tokens e = (is_plain (parts tokens) ≡ true) × ExprSpells e (marks tokens)

-- a plain extent that is an expression gives that, every other one gives Other
abbrev pub InitSpells : Init → List Mark → Line
InitSpells init.Absent behind = Nothing
InitSpells (init.Plain e) behind = Initialiser (λ tokens. IsExpression tokens e) behind
InitSpells init.Other behind = Initialiser
    (λ tokens. (e : Expr) → IsExpression tokens e → ⊥) behind

-- a declarator (JLS 8.3) before this text, of a field with these modifiers and this type
pub record DeclaratorSpells (mods : Modifiers) (base : TypeTree) (f : FieldDecl)
    (behind text : List Mark) : Type 0 where
  pub dims : ℕ
  pub spelled : (WordOn f.line f.name ⨾ (Dims dims ⨾ InitSpells f.init behind)) text
  pub same_mods : f.mods ≡ mods
  pub type : f.ty ≡ with_dims base dims

-- one behind the other, where the first may depend on what is behind it
pub record Before (first : List Mark → Line) (second : Line) (text : List Mark) : Type 0 where
  pub front : List Mark
  pub rest : List Mark
  pub whole : text ≡ front ++ rest
  pub before : first rest front
  pub after : second rest

abbrev pub Declarators : Modifiers → TypeTree → List FieldDecl → Line
Declarators mods base [] text = ⊥
Declarators mods base (f ∷ []) text = Before (DeclaratorSpells mods base f) Semicolon text
Declarators mods base (f ∷ g ∷ fields) text =
    Before (DeclaratorSpells mods base f) (Comma ⨾ Declarators mods base (g ∷ fields)) text

pub record FieldsSpell (fields : List FieldDecl) (text : List Mark) : Type 0 where
  pub mods : Modifiers
  pub base : TypeTree
  pub spelled : (ModifiersSpell mods ⨾ (BareSpells base ⨾ Declarators mods base fields)) text

-- ---- formal parameters (JLS 8.4.1)

abbrev pub Ellipsis : Bool → Line
Ellipsis true = AnyAnns ⨾ Is part.Ellipsis
Ellipsis false = Nothing

pub record FormalSpells (p : Param) (text : List Mark) : Type 0 where
  pub base : TypeTree
  pub dims : ℕ
  pub spelled : (ModifiersSpell p.mods
      ⨾ (BareSpells base ⨾ (Ellipsis p.varargs ⨾ (WordOn p.line p.name ⨾ Dims dims)))) text
  pub type : p.ty ≡ with_dims base dims

abbrev pub AnyType : Line
AnyType text = (t : TypeTree) × TypeSpells t text

abbrev pub AnyWord : Line
AnyWord text = (name : List ℕ) × Word name text

-- a receiver parameter, which leaves nothing in the tree
abbrev pub Receiver : Line
Receiver = AnyType ⨾ (Perhaps (AnyWord ⨾ Dot) ⨾ Is part.This)

abbrev pub BehindReceiver : List Param → Line
BehindReceiver [] = Nothing
BehindReceiver (p ∷ formals) = Comma ⨾ Commas FormalSpells (p ∷ formals)

abbrev pub Formals : List Param → Line
Formals formals = InParentheses
    (Either (PerhapsCommas FormalSpells formals) (Receiver ⨾ BehindReceiver formals))

-- ---- components of records (JLS 8.10.1)

abbrev pub ComponentSpells : Param → Line
ComponentSpells p = AnnotationsSpell p.mods
    ⨾ (BareSpells p.ty ⨾ (Ellipsis p.varargs ⨾ WordOn p.line p.name))

abbrev pub Components : List Param → Line
Components components = InParentheses (PerhapsCommas ComponentSpells components)

-- ---- methods (JLS 8.4)

abbrev pub Throws : List TypeTree → Line
Throws [] = Nothing
Throws (t ∷ types) = Is part.Throws ⨾ NamedTypes (t ∷ types)

-- JLS 9.6.2
abbrev pub DefaultValue : ElemTree → Line
DefaultValue e = Is (part.Modifier modifier.Default) ⨾ ElemSpells e

-- type parameters, and the annotations behind them
abbrev pub Generic : List TypeParam → List AnnTree → Line
Generic [] anns text = (anns ≡ []) × Nothing text
Generic (p ∷ params) anns text = (TypeParams (p ∷ params) ⨾ Row AnnSpells anns) text

-- the result without the dimensions behind the formals, of which `void` has none
abbrev pub Result : TypeLayer → TypeTree → ℕ → Line
Result TypeTree-F.Void t dims text = (dims ≡ 0) × Is part.Void text
Result layer t dims text = BareSpells t text

abbrev pub with_anns : Modifiers → List AnnTree → Modifiers
with_anns mods anns = record {
  flags = mods.flags;
  is_default = mods.is_default;
  is_sealed = mods.is_sealed;
  non_sealed = mods.non_sealed;
  anns = mods.anns ++ anns;
}

pub record MethodSpells (m : MethodDecl) (text : List Mark) : Type 0 where
  pub mods : Modifiers
  pub anns : List AnnTree
  pub base : TypeTree
  pub dims : ℕ
  pub spelled : (ModifiersSpell mods
      ⨾ (Generic m.params anns ⨾ (Result (out-TypeTree base) base dims ⨾ (WordOn m.line m.name
      ⨾ (Formals m.formals ⨾ (Dims dims
      ⨾ (Throws m.throws ⨾ (Given DefaultValue m.default_value
      ⨾ Either SkippedGroup Semicolon)))))))) text
  pub kind : m.kind ≡ method.Plain
  pub all_mods : m.mods ≡ with_anns mods anns
  pub result : m.ret ≡ with_dims base dims

-- ---- constructors (JLS 8.8), of a class of this name

abbrev pub IsInitialiser : MethodDecl → Type 0
IsInitialiser m = (m.name ≡ codes "<init>") × (m.ret ≡ tree.Void) × (m.default_value ≡ None)

pub record ConstructorSpells (name : List ℕ) (m : MethodDecl) (text : List Mark) : Type 0 where
  pub spelled : (ModifiersSpell m.mods
      ⨾ (TypeParams m.params ⨾ (WordOn m.line name ⨾ (Formals m.formals
      ⨾ (Throws m.throws ⨾ SkippedGroup))))) text
  pub kind : m.kind ≡ method.Constructor
  pub initialises : IsInitialiser m

-- a compact one (JLS 8.10.4.2), of a record of this name
pub record CompactSpells (name : List ℕ) (m : MethodDecl) (text : List Mark) : Type 0 where
  pub spelled : (ModifiersSpell m.mods ⨾ (WordOn m.line name ⨾ SkippedGroup)) text
  pub kind : m.kind ≡ method.Compact
  pub initialises : IsInitialiser m
  pub no_params : m.params ≡ []
  pub no_formals : m.formals ≡ []
  pub no_throws : m.throws ≡ []
