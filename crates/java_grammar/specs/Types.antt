-- Which texts spell which types (JLS 4.1 to 4.5, 10.1). Their annotations (JLS 9.7.4) leave
-- nothing in the tree.
use Rattle.std.specs.Prelude.{◌≡◌, ℕ, zero, suc, ◌+◌, Bool, true, false, not, ◌&&◌, ◌||◌, List}
use Rattle.std.specs.Prelude.{[], ◌∷◌, is_none}
use Rattle.java_ast.specs.declared.types.TypeTree.{TypeTree, out-TypeTree}
use Rattle.java_ast.specs.declared.types.TypeTree.TheVariants as tree
use Rattle.java_ast.specs.declared.types.NamePart.{NamePart, out-NamePart}
use Rattle.java_ast.specs.declared.types.ArgTree.{ArgTree, out-ArgTree}
use Rattle.java_ast.specs.declared.types.ArgTree.TheOpen.{TypeTree-F, ArgTree-F}
use Rattle.java_ast.specs.declared.declaration.TypeParam.{TypeParam}
use Rattle.java_grammar.specs.declared.part.Part.TheVariants as part
use Rattle.java_grammar.specs.declared.part.Pair.TheVariants as pair
use Rattle.java_ast.specs.declared.expression.BinOp.TheVariants as binary
use Rattle.java_grammar.specs.Parts.{is_sealed_name}
use Rattle.java_grammar.specs.Marks.{Line}
use Rattle.java_grammar.specs.Words.{Nothing, ◌⨾◌, Given, Row, Separated, Is, Word, WordOn}
use Rattle.java_grammar.specs.Words.{ClosingAngle, Commas, PerhapsCommas}
use Rattle.java_grammar.specs.Expressions.{Dot, TypeLayer, PartLayer}
use Rattle.java_grammar.specs.Annotations.{AnyAnns}

-- ---- parts

abbrev pub ArgLayer : Type 0
ArgLayer = ArgTree-F ArgTree TypeTree NamePart

abbrev pub InAngles : Line → Line
InAngles line = Is (part.Binary binary.Less) ⨾ (line ⨾ ClosingAngle)

-- dimensions, each with annotations before it (JLS 10.2)
abbrev pub Dims : ℕ → Line
Dims zero = Nothing
Dims (suc n) = AnyAnns ⨾ (Is (part.Opening pair.Brackets)
    ⨾ (Is (part.Closing pair.Brackets) ⨾ Dims n))

-- a type argument is no primitive type
abbrev pub is_primitive : TypeLayer → Bool
is_primitive (TypeTree-F.Primitive p) = true
is_primitive _ = false

abbrev pub Reference : (TypeTree → Line) → TypeTree → Line
Reference Inner t text = (is_primitive (out-TypeTree t) ≡ false) × Inner t text

-- JLS 4.5.1
abbrev pub ArgLine : (TypeTree → Line) → ArgLayer → Line
ArgLine Inner (ArgTree-F.Exact t) = Reference Inner t
ArgLine Inner (ArgTree-F.Extends t) = AnyAnns
    ⨾ (Is part.Question ⨾ (Is part.Extends ⨾ Reference Inner t))
ArgLine Inner (ArgTree-F.Super t) = AnyAnns
    ⨾ (Is part.Question ⨾ (Is part.Super ⨾ Reference Inner t))
ArgLine Inner ArgTree-F.Any = AnyAnns ⨾ Is part.Question

abbrev pub Args : (TypeTree → Line) → List ArgTree → Line
Args Inner args = InAngles (PerhapsCommas (λ a. ArgLine Inner (out-ArgTree a)) args)

abbrev pub FurtherPart : (TypeTree → Line) → NamePart → Line
FurtherPart Inner p =
    Dot ⨾ (AnyAnns ⨾ (Word (out-NamePart p).name ⨾ Given (Args Inner) (out-NamePart p).args))

abbrev pub is_empty : {X : Type 0} → List X → Bool
is_empty [] = true
is_empty (x ∷ xs) = false

-- `sealed` begins a type only where a further word follows it (JLS 3.9)
abbrev pub may_begin : PartLayer → List NamePart → Bool
may_begin first further = not (is_sealed_name first.name)
    || (is_none first.args && not (is_empty further))

-- a name with type arguments, without annotations before it, its first word on this line of the
-- source
abbrev pub NamedLine : (TypeTree → Line) → ℕ → List NamePart → Line
NamedLine Inner line [] text = ⊥
NamedLine Inner line (p ∷ parts) text =
    (may_begin (out-NamePart p) parts ≡ true)
    × (WordOn line (out-NamePart p).name
    ⨾ (Given (Args Inner) (out-NamePart p).args ⨾ Row (FurtherPart Inner) parts)) text

-- a primitive type or a name
abbrev pub BaseLine : (TypeTree → Line) → TypeLayer → Line
BaseLine Inner (TypeTree-F.Primitive p) text = Is (part.Primitive p) text
BaseLine Inner (TypeTree-F.Named line parts) text = NamedLine Inner line parts text
BaseLine Inner TypeTree-F.Void text = ⊥
BaseLine Inner (TypeTree-F.Array element dims) text = ⊥

-- a type without annotations before it
abbrev pub BareLine : (TypeTree → Line) → TypeLayer → Line
BareLine Inner (TypeTree-F.Array element zero) = λ text. ⊥
BareLine Inner (TypeTree-F.Array element (suc n)) = BaseLine Inner (out-TypeTree element)
    ⨾ Dims (suc n)
BareLine Inner base = BaseLine Inner base

-- ---- types

-- a type, with fewer than so many types inside each other
unfoldable pub TypeWithin : ℕ → TypeTree → Line
TypeWithin zero t text = ⊥
TypeWithin (suc n) t text = (AnyAnns ⨾ BareLine (TypeWithin n) (out-TypeTree t)) text

-- the text spells the type
abbrev pub TypeSpells : TypeTree → Line
TypeSpells t text = (n : ℕ) × TypeWithin n t text

-- the same, where annotations before it belong to something else
abbrev pub BareSpells : TypeTree → Line
BareSpells t text = (n : ℕ) × BareLine (TypeWithin n) (out-TypeTree t) text

-- a name, with no dimension: what is extended, implemented, permitted, thrown, or bounds a type
-- parameter
abbrev pub is_named : TypeLayer → Bool
is_named (TypeTree-F.Named line parts) = true
is_named _ = false

abbrev pub NamedSpells : TypeTree → Line
NamedSpells t text = (is_named (out-TypeTree t) ≡ true) × TypeSpells t text

-- JLS 8.1.4 to 8.1.6
abbrev pub NamedTypes : List TypeTree → Line
NamedTypes types = Commas NamedSpells types

-- ---- type parameters (JLS 8.1.2, 8.4.4)

abbrev pub Bounds : List TypeTree → Line
Bounds [] = Nothing
Bounds (t ∷ bounds) = Is part.Extends
    ⨾ Separated (Is (part.Binary binary.And)) NamedSpells (t ∷ bounds)

abbrev pub ParamSpells : TypeParam → Line
ParamSpells p = AnyAnns ⨾ (Word p.name ⨾ Bounds p.bounds)

-- no list of type parameters is empty
abbrev pub TypeParams : List TypeParam → Line
TypeParams [] = Nothing
TypeParams (p ∷ params) = InAngles (Commas ParamSpells (p ∷ params))

-- ---- dimensions behind a name (JLS 8.3, 8.4.1, 8.4)

abbrev pub array : TypeTree → ℕ → TypeTree
array element dims = tree.Array element dims

-- the type with so many dimensions more
abbrev pub more_dims : TypeTree → TypeLayer → ℕ → TypeTree
more_dims t layer zero = t
more_dims t (TypeTree-F.Array element dims) (suc n) = array element (dims + suc n)
more_dims t layer (suc n) = array t (suc n)
