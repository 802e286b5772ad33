-- That annotations and the expressions in them have no skipped group, nor the end of a segment.
use Rattle.std.proofs.Common.{◌≡◌, sym, subst, ℕ, zero, suc, List, [], ◌∷◌, ◌++◌, inl, inr, true}
use Rattle.std.proofs.Common.{false}
use Rattle.java_token.specs.declared.token.Token.{Token}
use Rattle.java_ast.specs.declared.types.NamePart.{NamePart, out-NamePart}
use Rattle.java_ast.specs.declared.types.TypeTree.{out-TypeTree}
use Rattle.java_ast.specs.declared.types.ArgTree.TheOpen.{TypeTree-F}
use Rattle.java_ast.specs.declared.expression.Expr.{Expr, out-Expr}
use Rattle.java_ast.specs.declared.expression.Link.{Link, out-Link}
use Rattle.java_ast.specs.declared.expression.Expr.TheOpen.{Expr-F, Link-F}
use Rattle.java_ast.specs.declared.expression.BinOp.{BinOp}
use Rattle.java_ast.specs.declared.expression.BinOp.TheVariants as binary
use Rattle.java_ast.specs.declared.expression.UnOp.{UnOp}
use Rattle.java_ast.specs.declared.expression.UnOp.TheVariants as unary
use Rattle.java_ast.specs.declared.annotation.AnnTree.{AnnTree, out-AnnTree}
use Rattle.java_ast.specs.declared.annotation.ElemArg.{ElemArg, out-ElemArg}
use Rattle.java_ast.specs.declared.annotation.ElemTree.{ElemTree, out-ElemTree}
use Rattle.java_ast.specs.declared.annotation.ElemTree.TheOpen.{ElemTree-F}
use Rattle.java_grammar.specs.declared.part.Part.{Part}
use Rattle.java_grammar.specs.declared.part.Part.TheVariants as part
use Rattle.java_grammar.specs.declared.part.Pair.TheVariants as pair
use Rattle.java_grammar.specs.Parts.{part_of}
use Rattle.java_grammar.specs.Tests.{angles}
use Rattle.java_grammar.specs.Marks.{Mark, Single, Angle, Group, Semi, Line, angle_marks}
use Rattle.java_grammar.specs.Marks.{marks_by, token_marks, marks}
use Rattle.java_grammar.specs.Words.{Nothing, ◌⨾◌, Either, Perhaps, Row, Separated, Is, IsOn}
use Rattle.java_grammar.specs.Words.{Word, WordOn, Comma, Commas, PerhapsCommas}
use Rattle.java_grammar.specs.Expressions.{Dot, QName, Operator, Prefix, TypeLayer, PartLayer}
use Rattle.java_grammar.specs.Expressions.{PlainWord, FurtherWord, PlainName, BracketPairs}
use Rattle.java_grammar.specs.Expressions.{PlainBase, LiteralType, InParentheses, Unsigned}
use Rattle.java_grammar.specs.Expressions.{CastLine, LinkLine, ChainLine, NodeLine, ExprWithin}
use Rattle.java_grammar.specs.Expressions.{ExprSpells, operator_level, conditional, unary_level}
use Rattle.java_grammar.specs.Annotations.{AnnLayer, Pair, SoleValue, NoElements, Elements}
use Rattle.java_grammar.specs.Annotations.{AnnLine, ElemLine, ElemWithin, AnnSpells}

-- a token or a closing angle
abbrev pub OfToken : Mark → Type 0
OfToken (Single token) = Unit {0}
OfToken (Angle more) = Unit {0}
OfToken Group = ⊥
OfToken Semi = ⊥

abbrev pub OfTokens : List Mark → Type 0
OfTokens [] = Unit {0}
OfTokens (m ∷ text) = OfToken m × OfTokens text

-- so is each text of a line
abbrev pub GivesTokens : Line → Type 0
GivesTokens line = (text : List Mark) → line text → OfTokens text

pub joined : (a b : List Mark) → OfTokens a → OfTokens b → OfTokens (a ++ b)
joined [] b x y = y
joined (m ∷ a) b x y = (x.0, joined a b x.1 y)

-- ---- the words of the grammar

one : (t : Token) (text : List Mark) → text ≡ Single t ∷ [] → OfTokens text
one t text e = subst OfTokens (sym e) (tt, tt)

pub of_nothing : GivesTokens Nothing
of_nothing text e = subst OfTokens (sym e) tt

pub of_is : (p : Part) → GivesTokens (Is p)
of_is p text x = one x.token text x.whole

pub of_is_on : (line : ℕ) (p : Part) → GivesTokens (IsOn line p)
of_is_on line p text x = one x.token text x.whole

pub of_word : (name : List ℕ) → GivesTokens (Word name)
of_word name text x = one x.token text x.whole

pub of_word_on : (line : ℕ) (name : List ℕ) → GivesTokens (WordOn line name)
of_word_on line name text x = one x.token text x.whole

pub of_behind : (a b : Line) → GivesTokens a → GivesTokens b → GivesTokens (a ⨾ b)
of_behind a b f g text x =
    subst OfTokens (sym x.whole) (joined x.front x.rest (f x.front x.before) (g x.rest x.after))

pub of_either : (a b : Line) → GivesTokens a → GivesTokens b → GivesTokens (Either a b)
of_either a b f g text (inl x) = f text x
of_either a b f g text (inr x) = g text x

pub of_perhaps : (a : Line) → GivesTokens a → GivesTokens (Perhaps a)
of_perhaps a f text x = of_either Nothing a of_nothing f text x

pub of_row : {X : Type 0} (line : X → Line) → ((x : X) → GivesTokens (line x)) → (xs : List X)
    → GivesTokens (Row line xs)
of_row line f [] text y = of_nothing text y
of_row line f (x ∷ xs) text y = of_behind (line x) (Row line xs) (f x) (of_row line f xs) text y

pub of_separated : {X : Type 0} (between : Line) (line : X → Line) → GivesTokens between
    → ((x : X) → GivesTokens (line x)) → (xs : List X)
    → GivesTokens (Separated between line xs)
of_separated between line g f [] text y = absurd y
of_separated between line g f (x ∷ []) text y = f x text y
of_separated between line g f (x ∷ z ∷ xs) text y =
    of_behind (line x) (between ⨾ Separated between line (z ∷ xs)) (f x)
    (of_behind between (Separated between line (z ∷ xs)) g
    (of_separated between line g f (z ∷ xs))) text y

pub of_perhaps_commas : {X : Type 0} (line : X → Line) → ((x : X) → GivesTokens (line x))
    → (xs : List X) → GivesTokens (PerhapsCommas line xs)
of_perhaps_commas line f [] text y = of_nothing text y
of_perhaps_commas line f (x ∷ xs) text y = of_separated Comma line (of_is part.Comma) f
    (x ∷ xs) text y

of_enclosed : (p q : Part) (line : Line) → GivesTokens line → GivesTokens (Is p ⨾ (line ⨾ Is q))
of_enclosed p q line f text x =
    of_behind (Is p) (line ⨾ Is q) (of_is p) (of_behind line (Is q) f (of_is q)) text x

-- ---- expressions

of_qname : (words : List (List ℕ)) → GivesTokens (QName words)
of_qname words text x = of_separated Dot Word (of_is part.Dot) of_word words text x

of_angles : (text : List Mark) (some : List Mark) → text ≡ some → OfTokens some → OfTokens text
of_angles text some e x = subst OfTokens (sym e) x

of_operator : (op : BinOp) → GivesTokens (Operator op)
of_operator binary.Greater text x = of_angles text (Angle false ∷ []) x (tt, tt)
of_operator binary.ShiftRight text x = of_angles text (Angle true ∷ Angle false ∷ []) x
    (tt, (tt, tt))
of_operator binary.ShiftRightUnsigned text x = of_angles text
    (Angle true ∷ Angle true ∷ Angle false ∷ []) x (tt, (tt, (tt, tt)))
of_operator binary.OrOr text x = of_is (part.Binary binary.OrOr) text x
of_operator binary.AndAnd text x = of_is (part.Binary binary.AndAnd) text x
of_operator binary.Or text x = of_is (part.Binary binary.Or) text x
of_operator binary.Xor text x = of_is (part.Binary binary.Xor) text x
of_operator binary.And text x = of_is (part.Binary binary.And) text x
of_operator binary.Equal text x = of_is (part.Binary binary.Equal) text x
of_operator binary.NotEqual text x = of_is (part.Binary binary.NotEqual) text x
of_operator binary.Less text x = of_is (part.Binary binary.Less) text x
of_operator binary.LessEqual text x = of_is (part.Binary binary.LessEqual) text x
of_operator binary.GreaterEqual text x = of_is (part.Binary binary.GreaterEqual) text x
of_operator binary.ShiftLeft text x = of_is (part.Binary binary.ShiftLeft) text x
of_operator binary.Plus text x = of_is (part.Binary binary.Plus) text x
of_operator binary.Minus text x = of_is (part.Binary binary.Minus) text x
of_operator binary.Star text x = of_is (part.Binary binary.Star) text x
of_operator binary.Slash text x = of_is (part.Binary binary.Slash) text x
of_operator binary.Percent text x = of_is (part.Binary binary.Percent) text x

of_prefix : (op : UnOp) → GivesTokens (Prefix op)
of_prefix unary.Plus text x = of_is (part.Binary binary.Plus) text x
of_prefix unary.Minus text x = of_is (part.Binary binary.Minus) text x
of_prefix unary.Complement text x = of_is (part.Unary unary.Complement) text x
of_prefix unary.Not text x = of_is (part.Unary unary.Not) text x

of_plain_word : (p : PartLayer) (word : Line) → GivesTokens word → GivesTokens (PlainWord p word)
of_plain_word p word f text x = f text x.1

of_further_word : (p : NamePart) → GivesTokens (FurtherWord p)
of_further_word p text x =
    of_behind Dot (PlainWord (out-NamePart p) (Word (out-NamePart p).name)) (of_is part.Dot)
    (of_plain_word (out-NamePart p) (Word (out-NamePart p).name)
    (of_word (out-NamePart p).name)) text x

of_plain_name : (line : ℕ) (parts : List NamePart) → GivesTokens (PlainName line parts)
of_plain_name line [] text x = absurd x
of_plain_name line (p ∷ parts) text x =
    of_behind (PlainWord (out-NamePart p) (WordOn line (out-NamePart p).name))
    (Row FurtherWord parts)
    (of_plain_word (out-NamePart p) (WordOn line (out-NamePart p).name)
    (of_word_on line (out-NamePart p).name))
    (of_row FurtherWord of_further_word parts) text x

of_bracket_pairs : (n : ℕ) → GivesTokens (BracketPairs n)
of_bracket_pairs zero text x = of_nothing text x
of_bracket_pairs (suc n) text x =
    of_behind (Is (part.Opening pair.Brackets)) (Is (part.Closing pair.Brackets) ⨾ BracketPairs n)
    (of_is (part.Opening pair.Brackets))
    (of_behind (Is (part.Closing pair.Brackets)) (BracketPairs n)
    (of_is (part.Closing pair.Brackets)) (of_bracket_pairs n)) text x

of_plain_base : (layer : TypeLayer) → GivesTokens (PlainBase layer)
of_plain_base (TypeTree-F.Primitive p) text x = of_is (part.Primitive p) text x
of_plain_base (TypeTree-F.Named line parts) text x = of_plain_name line parts text x
of_plain_base TypeTree-F.Void text x = absurd x
of_plain_base (TypeTree-F.Array element dims) text x = absurd x

of_literal_type : (layer : TypeLayer) → GivesTokens (LiteralType layer)
of_literal_type TypeTree-F.Void text x = of_is part.Void text x
of_literal_type (TypeTree-F.Array element zero) text x = absurd x
of_literal_type (TypeTree-F.Array element (suc n)) text x =
    of_behind (PlainBase (out-TypeTree element)) (BracketPairs (suc n))
    (of_plain_base (out-TypeTree element)) (of_bracket_pairs (suc n)) text x
of_literal_type (TypeTree-F.Primitive p) text x = of_is (part.Primitive p) text x
of_literal_type (TypeTree-F.Named line parts) text x = of_plain_name line parts text x

of_parentheses : (line : Line) → GivesTokens line → GivesTokens (InParentheses line)
of_parentheses line f text x = of_enclosed (part.Opening pair.Parentheses)
    (part.Closing pair.Parentheses) line f text x

of_cast : (operand : Line) → GivesTokens operand → (layer : TypeLayer)
    → GivesTokens (CastLine operand layer)
of_cast operand f (TypeTree-F.Primitive p) text x =
    of_behind (InParentheses (Is (part.Primitive p))) operand
    (of_parentheses (Is (part.Primitive p)) (of_is (part.Primitive p))) f text x
of_cast operand f (TypeTree-F.Named line parts) text x =
    of_behind (InParentheses (PlainName line parts)) (Unsigned operand)
    (of_parentheses (PlainName line parts) (of_plain_name line parts))
    (λ t y. f t y.1) text x
of_cast operand f TypeTree-F.Void text x = absurd x
of_cast operand f (TypeTree-F.Array element dims) text x = absurd x

abbrev Operands : Type 1
Operands = ℕ → Expr → Line

of_link : (Operand : Operands) → ((level : ℕ) (e : Expr) → GivesTokens (Operand level e))
    → (level : ℕ) (l : Link-F Expr Link)
    → GivesTokens (LinkLine Operand level l)
of_link Operand f level l text x =
    of_behind (Operator l.op) (Operand (suc level) l.right) (of_operator l.op)
    (f (suc level) l.right) text x.1

of_chain : (Operand : Operands) → ((level : ℕ) (e : Expr) → GivesTokens (Operand level e))
    → (first : Expr) (rest : List Link)
    → GivesTokens (ChainLine Operand first rest)
of_chain Operand f first [] text x = absurd x
of_chain Operand f first (l ∷ rest) text x =
    let level = operator_level (out-Link l).op in
    of_behind (Operand (suc level) first)
    (Row (λ link. LinkLine Operand level (out-Link link)) (l ∷ rest)) (f (suc level) first)
    (of_row (λ link. LinkLine Operand level (out-Link link))
    (λ link. of_link Operand f level (out-Link link)) (l ∷ rest)) text x

of_node : (Operand : Operands) → ((level : ℕ) (e : Expr) → GivesTokens (Operand level e))
    → (node : Expr-F Expr Link)
    → GivesTokens (NodeLine Operand node)
of_node Operand f (Expr-F.Lit l) text x = one x.token text x.whole
of_node Operand f (Expr-F.Name words) text x = of_qname words text x
of_node Operand f (Expr-F.ClassLit type) text x =
    of_behind (LiteralType (out-TypeTree type)) (Dot ⨾ Is part.Class)
    (of_literal_type (out-TypeTree type))
    (of_behind Dot (Is part.Class) (of_is part.Dot) (of_is part.Class)) text x
of_node Operand f (Expr-F.Unary op operand) text x =
    of_behind (Prefix op) (Operand unary_level operand) (of_prefix op)
    (f unary_level operand) text x
of_node Operand f (Expr-F.Chain first rest) text x = of_chain Operand f first rest text x
of_node Operand f (Expr-F.Cond test chosen other) text x =
    let last = Is part.Colon ⨾ Operand conditional other in
    of_behind (Operand (suc conditional) test)
    (Is part.Question ⨾ (Operand conditional chosen ⨾ last)) (f (suc conditional) test)
    (of_behind (Is part.Question) (Operand conditional chosen ⨾ last) (of_is part.Question)
    (of_behind (Operand conditional chosen) last (f conditional chosen)
    (of_behind (Is part.Colon) (Operand conditional other) (of_is part.Colon)
    (f conditional other)))) text x
of_node Operand f (Expr-F.Cast type operand) text x =
    of_cast (Operand unary_level operand) (f unary_level operand) (out-TypeTree type) text x

of_expression_within : (n level : ℕ) (e : Expr) → GivesTokens (ExprWithin n level e)
unfolding ExprWithin
of_expression_within zero level e text x = absurd x
of_expression_within (suc n) level e text (inl x) = of_node (ExprWithin n)
    (of_expression_within n) (out-Expr e) text x.1
of_expression_within (suc n) level e text (inr x) =
    of_parentheses (ExprWithin n conditional e) (of_expression_within n conditional e) text x

of_expression : (e : Expr) → GivesTokens (ExprSpells e)
of_expression e text x = of_expression_within x.0 conditional e text x.1

-- ---- annotations

abbrev Elems : Type 1
Elems = ElemTree → Line

of_pair : (Elem : Elems) → ((e : ElemTree) → GivesTokens (Elem e)) → (a : ElemArg)
    → GivesTokens (Pair Elem a)
of_pair Elem f a text x =
    of_behind (Word (out-ElemArg a).name) (Is part.Assign ⨾ Elem (out-ElemArg a).value)
    (of_word (out-ElemArg a).name)
    (of_behind (Is part.Assign) (Elem (out-ElemArg a).value) (of_is part.Assign)
    (f (out-ElemArg a).value)) text x

of_sole : (Elem : Elems) → ((e : ElemTree) → GivesTokens (Elem e)) → (args : List ElemArg)
    → GivesTokens (SoleValue Elem args)
of_sole Elem f [] text x = absurd x
of_sole Elem f (a ∷ []) text x = f (out-ElemArg a).value text x.1
of_sole Elem f (a ∷ b ∷ rest) text x = absurd x

of_no_elements : (args : List ElemArg) → GivesTokens (NoElements args)
of_no_elements args text x = of_nothing text x.1

of_elements : (Elem : Elems) → ((e : ElemTree) → GivesTokens (Elem e)) → (args : List ElemArg)
    → GivesTokens (Elements Elem args)
of_elements Elem f args text x =
    let named : GivesTokens (Commas (Pair Elem) args) = of_separated Comma (Pair Elem)
    (of_is part.Comma) (of_pair Elem f) args in
    let values = Either (SoleValue Elem args) (Commas (Pair Elem) args) in
    let inside : GivesTokens (Either (NoElements args) values) =
    of_either (NoElements args) values (of_no_elements args)
    (of_either (SoleValue Elem args) (Commas (Pair Elem) args) (of_sole Elem f args) named) in
    of_either (NoElements args) (InParentheses (Either (NoElements args) values))
    (of_no_elements args)
    (of_parentheses (Either (NoElements args) values) inside) text x

of_annotation_line : (Elem : Elems) → ((e : ElemTree) → GivesTokens (Elem e)) → (a : AnnLayer)
    → GivesTokens (AnnLine Elem a)
of_annotation_line Elem f a text x =
    of_behind (IsOn a.line part.At) (QName a.names ⨾ Elements Elem a.args)
    (of_is_on a.line part.At)
    (of_behind (QName a.names) (Elements Elem a.args) (of_qname a.names)
    (of_elements Elem f a.args)) text x

of_element_line : (Elem : Elems) → ((e : ElemTree) → GivesTokens (Elem e))
    → (layer : ElemTree-F ElemTree AnnTree ElemArg)
    → GivesTokens (ElemLine Elem layer)
of_element_line Elem f (ElemTree-F.Value e) text x = of_expression e text x
of_element_line Elem f (ElemTree-F.Ann a) text x = of_annotation_line Elem f (out-AnnTree a) text x
of_element_line Elem f (ElemTree-F.List values) text x =
    of_enclosed (part.Opening pair.Braces) (part.Closing pair.Braces)
    (PerhapsCommas Elem values ⨾ Perhaps Comma)
    (of_behind (PerhapsCommas Elem values) (Perhaps Comma) (of_perhaps_commas Elem f values)
    (of_perhaps Comma (of_is part.Comma))) text x

of_element_within : (n : ℕ) (e : ElemTree) → GivesTokens (ElemWithin n e)
unfolding ElemWithin
of_element_within zero e text x = absurd x
of_element_within (suc n) e text x = of_element_line (ElemWithin n) (of_element_within n)
    (out-ElemTree e) text x

pub of_annotation : (a : AnnTree) → GivesTokens (AnnSpells a)
of_annotation a text x = of_annotation_line (ElemWithin x.0) (of_element_within x.0)
    (out-AnnTree a) text x.1

-- ---- lists of tokens

of_angle_marks : (n : ℕ) → OfTokens (angle_marks n)
of_angle_marks zero = (tt, tt)
of_angle_marks (suc n) = (tt, of_angle_marks n)

of_marks_by : (n : ℕ) (t : Token) → OfTokens (marks_by n t)
of_marks_by zero t = (tt, tt)
of_marks_by (suc n) t = of_angle_marks n

pub of_marks : (ts : List Token) → OfTokens (marks ts)
unfolding token_marks
of_marks [] = tt
of_marks (t ∷ ts) = joined (token_marks t) (marks ts) (of_marks_by (angles (part_of t)) t)
    (of_marks ts)
