-- Which texts spell which annotations and which values of their elements (JLS 9.7, 9.7.1).
use Rattle.std.specs.Prelude.{◌≡◌, ℕ, zero, suc, List, [], ◌∷◌, codes}
use Rattle.java_ast.specs.declared.annotation.AnnTree.{AnnTree, out-AnnTree}
use Rattle.java_ast.specs.declared.annotation.ElemArg.{ElemArg, out-ElemArg}
use Rattle.java_ast.specs.declared.annotation.ElemTree.{ElemTree, out-ElemTree}
use Rattle.java_ast.specs.declared.annotation.ElemTree.TheOpen.{ElemTree-F, AnnTree-F, ElemArg-F}
use Rattle.java_grammar.specs.declared.part.Part.TheVariants as part
use Rattle.java_grammar.specs.declared.part.Pair.TheVariants as pair
use Rattle.java_grammar.specs.Marks.{Line}
use Rattle.java_grammar.specs.Words.{Nothing, ◌⨾◌, Either, Perhaps, Row, Is, IsOn, Word, Comma}
use Rattle.java_grammar.specs.Words.{Commas, PerhapsCommas}
use Rattle.java_grammar.specs.Expressions.{QName, InParentheses, ExprSpells}

abbrev pub AnnLayer : Type 0
AnnLayer = AnnTree-F ElemTree AnnTree ElemArg

abbrev pub ArgLayer : Type 0
ArgLayer = ElemArg-F ElemTree AnnTree ElemArg

abbrev pub ElemLayer : Type 0
ElemLayer = ElemTree-F ElemTree AnnTree ElemArg

-- an element with its name
abbrev pub Pair : (ElemTree → Line) → ElemArg → Line
Pair Elem a = Word (out-ElemArg a).name ⨾ (Is part.Assign ⨾ Elem (out-ElemArg a).value)

-- a sole value, of the element `value` (JLS 9.7.3)
abbrev pub SoleValue : (ElemTree → Line) → List ElemArg → Line
SoleValue Elem [] text = ⊥
SoleValue Elem (a ∷ b ∷ rest) text = ⊥
SoleValue Elem (a ∷ []) text = ((out-ElemArg a).name ≡ codes "value") × Elem
    (out-ElemArg a).value text

abbrev pub NoElements : List ElemArg → Line
NoElements args text = (args ≡ []) × Nothing text

abbrev pub Elements : (ElemTree → Line) → List ElemArg → Line
Elements Elem args =
    Either (NoElements args)
    (InParentheses (Either (NoElements args)
    (Either (SoleValue Elem args) (Commas (Pair Elem) args))))

-- an annotation, whose elements are spelled as `Elem` says
abbrev pub AnnLine : (ElemTree → Line) → AnnLayer → Line
AnnLine Elem a = IsOn a.line part.At ⨾ (QName a.names ⨾ Elements Elem a.args)

abbrev pub InBraces : Line → Line
InBraces line = Is (part.Opening pair.Braces) ⨾ (line ⨾ Is (part.Closing pair.Braces))

abbrev pub ElemLine : (ElemTree → Line) → ElemLayer → Line
ElemLine Elem (ElemTree-F.Value e) = ExprSpells e
ElemLine Elem (ElemTree-F.Ann a) = AnnLine Elem (out-AnnTree a)
ElemLine Elem (ElemTree-F.List values) = InBraces (PerhapsCommas Elem values ⨾ Perhaps Comma)

-- a value, with fewer than so many values inside each other
unfoldable pub ElemWithin : ℕ → ElemTree → Line
ElemWithin zero e text = ⊥
ElemWithin (suc n) e text = ElemLine (ElemWithin n) (out-ElemTree e) text

-- the text spells the value
abbrev pub ElemSpells : ElemTree → Line
ElemSpells e text = (n : ℕ) × ElemWithin n e text

-- the text spells the annotation
abbrev pub AnnSpells : AnnTree → Line
AnnSpells a text = (n : ℕ) × AnnLine (ElemWithin n) (out-AnnTree a) text

-- annotations that leave nothing in a tree
abbrev pub AnyAnns : Line
AnyAnns text = (anns : List AnnTree) × Row AnnSpells anns text
