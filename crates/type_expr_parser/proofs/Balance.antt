-- That the brackets of annotations and types pair among themselves.
use Rattle.std.proofs.Common.{◌≡◌, refl, sym, ◌∙◌, ap, subst, ℕ, zero, suc, true, false}
use Rattle.std.proofs.Common.{List, [], ◌∷◌, ◌++◌, append_assoc, Option, Some, None}
use Rattle.std.proofs.Common.{inl, inr}
use Rattle.java_token.specs.declared.token.Token.{Token}
use Rattle.java_ast.specs.declared.types.NamePart.{NamePart, out-NamePart}
use Rattle.java_ast.specs.declared.types.TypeTree.{TypeTree, out-TypeTree}
use Rattle.java_ast.specs.declared.types.ArgTree.{ArgTree, out-ArgTree}
use Rattle.java_ast.specs.declared.types.ArgTree.TheOpen.{TypeTree-F, ArgTree-F}
use Rattle.java_ast.specs.declared.expression.Expr.{Expr, out-Expr}
use Rattle.java_ast.specs.declared.expression.Link.{Link, out-Link}
use Rattle.java_ast.specs.declared.expression.Expr.TheOpen.{Expr-F, Link-F}
use Rattle.java_ast.specs.declared.expression.BinOp.{BinOp}
use Rattle.java_ast.specs.declared.expression.BinOp.TheVariants as binary
use Rattle.java_ast.specs.declared.expression.UnOp.{UnOp}
use Rattle.java_ast.specs.declared.expression.UnOp.TheVariants as unary
use Rattle.java_ast.specs.declared.annotation.AnnTree.{AnnTree, out-AnnTree}
use Rattle.java_ast.specs.declared.annotation.ElemArg.{ElemArg, out-ElemArg}
use Rattle.java_ast.specs.declared.annotation.ElemTree.{ElemTree, out-ElemTree}
use Rattle.java_ast.specs.declared.annotation.ElemTree.TheOpen.{ElemTree-F}
use Rattle.java_grammar.specs.declared.part.Part.{Part}
use Rattle.java_grammar.specs.declared.part.Part.TheVariants as part
use Rattle.java_grammar.specs.declared.part.Pair.{Pair as BracketPair}
use Rattle.java_grammar.specs.declared.part.Pair.TheVariants as pair
use Rattle.java_grammar.specs.Parts.{part_of}
use Rattle.java_grammar.specs.Marks.{Mark, Single, Angle, Line}
use Rattle.java_grammar.specs.Words.{Nothing, ◌⨾◌, Either, Perhaps, Given, Row, Separated, Is}
use Rattle.java_grammar.specs.Words.{IsOn}
use Rattle.java_grammar.specs.Words.{Word, WordOn, ClosingAngle, Comma, Commas, PerhapsCommas}
use Rattle.java_grammar.specs.Expressions.{Dot, QName, Operator, Prefix, TypeLayer, PartLayer}
use Rattle.java_grammar.specs.Expressions.{PlainWord, FurtherWord, PlainName, BracketPairs}
use Rattle.java_grammar.specs.Expressions.{PlainBase, LiteralType, InParentheses, Unsigned}
use Rattle.java_grammar.specs.Expressions.{CastLine, LinkLine, ChainLine, NodeLine, ExprWithin}
use Rattle.java_grammar.specs.Expressions.{ExprSpells, operator_level, conditional, unary_level}
use Rattle.java_grammar.specs.Annotations.{AnnLayer, Pair, SoleValue, NoElements, Elements}
use Rattle.java_grammar.specs.Annotations.{AnnLine, ElemLine, ElemWithin, AnnSpells, AnyAnns}
use Rattle.java_grammar.specs.Types.{ArgLayer, Dims, Reference, ArgLine, Args, FurtherPart}
use Rattle.java_grammar.specs.Types.{NamedLine, BaseLine, BareLine, TypeWithin, TypeSpells}
use Rattle.type_expr_parser.specs.Pairing.{is_bracket, step_part, step_depth, depth_behind}
use Rattle.type_expr_parser.specs.Pairing.{Balanced}
use Rattle.type_expr_parser.specs.Reading.{◌>>=◌}
use Rattle.type_expr_parser.proofs.TokenKinds.{IsWordPart, plain, «sealed», word_is, literal_read}

-- ---- texts whose brackets pair

abbrev pub Balances : Line → Type 0
Balances line = (text : List Mark) → line text → Balanced text

depth_step : (o : Option ℕ) (a b : List Mark)
    → ((d : ℕ) → depth_behind d (a ++ b) ≡ (depth_behind d a >>= λ e. depth_behind e b))
    → (o >>= λ d. depth_behind d (a ++ b)) ≡ ((o >>= λ d. depth_behind d a) >>= λ e.
    depth_behind e b)
depth_step None a b f = refl
depth_step (Some d) a b f = f d

pub depth_append : (a b : List Mark) (d : ℕ)
    → depth_behind d (a ++ b) ≡ (depth_behind d a >>= λ e. depth_behind e b)
depth_append [] b d = refl
depth_append (m ∷ a) b d = depth_step (step_depth d m) a b (depth_append a b)

pub joined : (a b : List Mark) → Balanced a → Balanced b → Balanced (a ++ b)
joined a b x y d = depth_append a b d ∙ ap (λ o. o >>= λ e. depth_behind e b) (x d) ∙ y d

no_step : (p : Part) (d : ℕ) → is_bracket p ≡ false → step_part d p ≡ Some d
no_step (part.Opening q) d e = absurd (cc)
no_step (part.Closing q) d e = absurd (cc)
no_step p d e = refl

-- one token that is no bracket
one : (t : Token) (text : List Mark) → text ≡ Single t ∷ [] → is_bracket (part_of t) ≡ false
    → Balanced text
one t text e h = subst Balanced (sym e)
    (λ d. ap (λ o. o >>= λ n. depth_behind n []) (no_step (part_of t) d h))

-- ---- the words of the grammar

pub of_nothing : Balances Nothing
of_nothing text e = subst Balanced (sym e) (λ d. refl)

of_is : (p : Part) → is_bracket p ≡ false → Balances (Is p)
of_is p e text x = one x.token text x.whole (ap is_bracket x.part ∙ e)

of_is_on : (line : ℕ) (p : Part) → is_bracket p ≡ false → Balances (IsOn line p)
of_is_on line p e text x = one x.token text x.whole (ap is_bracket x.part ∙ e)

word_no_bracket : (p : Part) → IsWordPart p → is_bracket p ≡ false
word_no_bracket p plain = refl
word_no_bracket p «sealed» = refl

of_word : (name : List ℕ) → Balances (Word name)
of_word name text x =
    one x.token text x.whole (word_no_bracket (part_of x.token) (word_is x.token name x.word))

of_word_on : (line : ℕ) (name : List ℕ) → Balances (WordOn line name)
of_word_on line name text x =
    one x.token text x.whole (word_no_bracket (part_of x.token) (word_is x.token name x.word))

of_behind : (a b : Line) → Balances a → Balances b → Balances (a ⨾ b)
of_behind a b f g text x =
    subst Balanced (sym x.whole) (joined x.front x.rest (f x.front x.before) (g x.rest x.after))

of_either : (a b : Line) → Balances a → Balances b → Balances (Either a b)
of_either a b f g text (inl x) = f text x
of_either a b f g text (inr x) = g text x

of_perhaps : (a : Line) → Balances a → Balances (Perhaps a)
of_perhaps a f text x = of_either Nothing a of_nothing f text x

of_row : {X : Type 0} (line : X → Line) → ((x : X) → Balances (line x)) → (xs : List X)
    → Balances (Row line xs)
of_row line f [] text y = of_nothing text y
of_row line f (x ∷ xs) text y = of_behind (line x) (Row line xs) (f x) (of_row line f xs) text y

of_separated : {X : Type 0} (between : Line) (line : X → Line) → Balances between
    → ((x : X) → Balances (line x)) → (xs : List X)
    → Balances (Separated between line xs)
of_separated between line g f [] text y = absurd y
of_separated between line g f (x ∷ []) text y = f x text y
of_separated between line g f (x ∷ z ∷ xs) text y =
    of_behind (line x) (between ⨾ Separated between line (z ∷ xs)) (f x)
    (of_behind between (Separated between line (z ∷ xs)) g
    (of_separated between line g f (z ∷ xs))) text y

of_perhaps_commas : {X : Type 0} (line : X → Line) → ((x : X) → Balances (line x))
    → (xs : List X) → Balances (PerhapsCommas line xs)
of_perhaps_commas line f [] text y = of_nothing text y
of_perhaps_commas line f (x ∷ xs) text y = of_separated Comma line (of_is part.Comma refl) f
    (x ∷ xs) text y

-- a text between an opening and a closing bracket
of_pair_of_brackets : (p q : BracketPair) (inside opening closing : List Mark) → Balanced inside
    → Is (part.Opening p) opening → Is (part.Closing q) closing
    → Balanced (opening ++ (inside ++ closing))
of_pair_of_brackets p q inside opening closing f x y d =
    ap (λ l. depth_behind d (l ++ (inside ++ closing))) x.whole
    ∙ ap (λ r. step_part d r >>= λ e. depth_behind e (inside ++ closing)) x.part
    ∙ depth_append inside closing (suc d)
    ∙ ap (λ o. o >>= λ e. depth_behind e closing) (f (suc d))
    ∙ ap (depth_behind (suc d)) y.whole
    ∙ ap (λ r. step_part (suc d) r >>= λ e. depth_behind e []) y.part

of_enclosed : (p q : BracketPair) (line : Line) → Balances line
    → Balances (Is (part.Opening p) ⨾ (line ⨾ Is (part.Closing q)))
of_enclosed p q line f text x =
    subst Balanced (sym (x.whole ∙ ap (λ l. x.front ++ l) x.after.whole))
    (of_pair_of_brackets p q x.after.front x.front x.after.rest (f x.after.front x.after.before)
    x.before x.after.after)

-- ---- expressions

of_qname : (words : List (List ℕ)) → Balances (QName words)
of_qname words text x = of_separated Dot Word (of_is part.Dot refl) of_word words text x

of_angles : (text : List Mark) (some : List Mark) → text ≡ some → Balanced some → Balanced text
of_angles text some e x = subst Balanced (sym e) x

of_operator : (op : BinOp) → Balances (Operator op)
of_operator binary.Greater text x = of_angles text (Angle false ∷ []) x (λ d. refl)
of_operator binary.ShiftRight text x = of_angles text (Angle true ∷ Angle false ∷ []) x
    (λ d. refl)
of_operator binary.ShiftRightUnsigned text x = of_angles text
    (Angle true ∷ Angle true ∷ Angle false ∷ []) x (λ d. refl)
of_operator binary.OrOr text x = of_is (part.Binary binary.OrOr) refl text x
of_operator binary.AndAnd text x = of_is (part.Binary binary.AndAnd) refl text x
of_operator binary.Or text x = of_is (part.Binary binary.Or) refl text x
of_operator binary.Xor text x = of_is (part.Binary binary.Xor) refl text x
of_operator binary.And text x = of_is (part.Binary binary.And) refl text x
of_operator binary.Equal text x = of_is (part.Binary binary.Equal) refl text x
of_operator binary.NotEqual text x = of_is (part.Binary binary.NotEqual) refl text x
of_operator binary.Less text x = of_is (part.Binary binary.Less) refl text x
of_operator binary.LessEqual text x = of_is (part.Binary binary.LessEqual) refl text x
of_operator binary.GreaterEqual text x = of_is (part.Binary binary.GreaterEqual) refl text x
of_operator binary.ShiftLeft text x = of_is (part.Binary binary.ShiftLeft) refl text x
of_operator binary.Plus text x = of_is (part.Binary binary.Plus) refl text x
of_operator binary.Minus text x = of_is (part.Binary binary.Minus) refl text x
of_operator binary.Star text x = of_is (part.Binary binary.Star) refl text x
of_operator binary.Slash text x = of_is (part.Binary binary.Slash) refl text x
of_operator binary.Percent text x = of_is (part.Binary binary.Percent) refl text x

of_prefix : (op : UnOp) → Balances (Prefix op)
of_prefix unary.Plus text x = of_is (part.Binary binary.Plus) refl text x
of_prefix unary.Minus text x = of_is (part.Binary binary.Minus) refl text x
of_prefix unary.Complement text x = of_is (part.Unary unary.Complement) refl text x
of_prefix unary.Not text x = of_is (part.Unary unary.Not) refl text x

of_plain_word : (p : PartLayer) (word : Line) → Balances word → Balances (PlainWord p word)
of_plain_word p word f text x = f text x.1

of_further_word : (p : NamePart) → Balances (FurtherWord p)
of_further_word p text x =
    of_behind Dot (PlainWord (out-NamePart p) (Word (out-NamePart p).name)) (of_is part.Dot refl)
    (of_plain_word (out-NamePart p) (Word (out-NamePart p).name)
    (of_word (out-NamePart p).name)) text x

of_plain_name : (line : ℕ) (parts : List NamePart) → Balances (PlainName line parts)
of_plain_name line [] text x = absurd x
of_plain_name line (p ∷ parts) text x =
    of_behind (PlainWord (out-NamePart p) (WordOn line (out-NamePart p).name))
    (Row FurtherWord parts)
    (of_plain_word (out-NamePart p) (WordOn line (out-NamePart p).name)
    (of_word_on line (out-NamePart p).name))
    (of_row FurtherWord of_further_word parts) text x

of_bracket_pairs : (n : ℕ) → Balances (BracketPairs n)
of_bracket_pairs zero text x = of_nothing text x
of_bracket_pairs (suc n) text x =
    subst Balanced (sym (x.whole ∙ ap (λ l. x.front ++ l) x.after.whole
    ∙ sym (append_assoc x.front x.after.front x.after.rest)))
    (joined (x.front ++ x.after.front) x.after.rest
    (of_pair_of_brackets pair.Brackets pair.Brackets [] x.front x.after.front (λ d. refl) x.before
    x.after.before)
    (of_bracket_pairs n x.after.rest x.after.after))

of_plain_base : (layer : TypeLayer) → Balances (PlainBase layer)
of_plain_base (TypeTree-F.Primitive p) text x = of_is (part.Primitive p) refl text x
of_plain_base (TypeTree-F.Named line parts) text x = of_plain_name line parts text x
of_plain_base TypeTree-F.Void text x = absurd x
of_plain_base (TypeTree-F.Array element dims) text x = absurd x

of_literal_type : (layer : TypeLayer) → Balances (LiteralType layer)
of_literal_type TypeTree-F.Void text x = of_is part.Void refl text x
of_literal_type (TypeTree-F.Array element zero) text x = absurd x
of_literal_type (TypeTree-F.Array element (suc n)) text x =
    of_behind (PlainBase (out-TypeTree element)) (BracketPairs (suc n))
    (of_plain_base (out-TypeTree element)) (of_bracket_pairs (suc n)) text x
of_literal_type (TypeTree-F.Primitive p) text x = of_is (part.Primitive p) refl text x
of_literal_type (TypeTree-F.Named line parts) text x = of_plain_name line parts text x

of_parentheses : (line : Line) → Balances line → Balances (InParentheses line)
of_parentheses line f text x = of_enclosed pair.Parentheses pair.Parentheses line f text x

of_cast : (operand : Line) → Balances operand → (layer : TypeLayer)
    → Balances (CastLine operand layer)
of_cast operand f (TypeTree-F.Primitive p) text x =
    of_behind (InParentheses (Is (part.Primitive p))) operand
    (of_parentheses (Is (part.Primitive p)) (of_is (part.Primitive p) refl)) f text x
of_cast operand f (TypeTree-F.Named line parts) text x =
    of_behind (InParentheses (PlainName line parts)) (Unsigned operand)
    (of_parentheses (PlainName line parts) (of_plain_name line parts))
    (λ t y. f t y.1) text x
of_cast operand f TypeTree-F.Void text x = absurd x
of_cast operand f (TypeTree-F.Array element dims) text x = absurd x

abbrev Operands : Type 1
Operands = ℕ → Expr → Line

of_link : (Operand : Operands) → ((level : ℕ) (e : Expr) → Balances (Operand level e))
    → (level : ℕ) (l : Link-F Expr Link)
    → Balances (LinkLine Operand level l)
of_link Operand f level l text x =
    of_behind (Operator l.op) (Operand (suc level) l.right) (of_operator l.op)
    (f (suc level) l.right) text x.1

of_chain : (Operand : Operands) → ((level : ℕ) (e : Expr) → Balances (Operand level e))
    → (first : Expr) (rest : List Link)
    → Balances (ChainLine Operand first rest)
of_chain Operand f first [] text x = absurd x
of_chain Operand f first (l ∷ rest) text x =
    let level = operator_level (out-Link l).op in
    of_behind (Operand (suc level) first)
    (Row (λ link. LinkLine Operand level (out-Link link)) (l ∷ rest)) (f (suc level) first)
    (of_row (λ link. LinkLine Operand level (out-Link link))
    (λ link. of_link Operand f level (out-Link link)) (l ∷ rest)) text x

of_node : (Operand : Operands) → ((level : ℕ) (e : Expr) → Balances (Operand level e))
    → (node : Expr-F Expr Link)
    → Balances (NodeLine Operand node)
of_node Operand f (Expr-F.Lit l) text x =
    one x.token text x.whole (ap is_bracket (literal_read l x.token x.is).1)
of_node Operand f (Expr-F.Name words) text x = of_qname words text x
of_node Operand f (Expr-F.ClassLit type) text x =
    of_behind (LiteralType (out-TypeTree type)) (Dot ⨾ Is part.Class)
    (of_literal_type (out-TypeTree type))
    (of_behind Dot (Is part.Class) (of_is part.Dot refl) (of_is part.Class refl)) text x
of_node Operand f (Expr-F.Unary op operand) text x =
    of_behind (Prefix op) (Operand unary_level operand) (of_prefix op)
    (f unary_level operand) text x
of_node Operand f (Expr-F.Chain first rest) text x = of_chain Operand f first rest text x
of_node Operand f (Expr-F.Cond test chosen other) text x =
    let last = Is part.Colon ⨾ Operand conditional other in
    of_behind (Operand (suc conditional) test)
    (Is part.Question ⨾ (Operand conditional chosen ⨾ last)) (f (suc conditional) test)
    (of_behind (Is part.Question) (Operand conditional chosen ⨾ last) (of_is part.Question refl)
    (of_behind (Operand conditional chosen) last (f conditional chosen)
    (of_behind (Is part.Colon) (Operand conditional other) (of_is part.Colon refl)
    (f conditional other)))) text x
of_node Operand f (Expr-F.Cast type operand) text x =
    of_cast (Operand unary_level operand) (f unary_level operand) (out-TypeTree type) text x

of_expression_within : (n level : ℕ) (e : Expr) → Balances (ExprWithin n level e)
unfolding ExprWithin
of_expression_within zero level e text x = absurd x
of_expression_within (suc n) level e text (inl x) = of_node (ExprWithin n)
    (of_expression_within n) (out-Expr e) text x.1
of_expression_within (suc n) level e text (inr x) =
    of_parentheses (ExprWithin n conditional e) (of_expression_within n conditional e) text x

of_expression : (e : Expr) → Balances (ExprSpells e)
of_expression e text x = of_expression_within x.0 conditional e text x.1

-- ---- annotations

abbrev Elems : Type 1
Elems = ElemTree → Line

of_pair : (Elem : Elems) → ((e : ElemTree) → Balances (Elem e)) → (a : ElemArg)
    → Balances (Pair Elem a)
of_pair Elem f a text x =
    of_behind (Word (out-ElemArg a).name) (Is part.Assign ⨾ Elem (out-ElemArg a).value)
    (of_word (out-ElemArg a).name)
    (of_behind (Is part.Assign) (Elem (out-ElemArg a).value) (of_is part.Assign refl)
    (f (out-ElemArg a).value)) text x

of_sole : (Elem : Elems) → ((e : ElemTree) → Balances (Elem e)) → (args : List ElemArg)
    → Balances (SoleValue Elem args)
of_sole Elem f [] text x = absurd x
of_sole Elem f (a ∷ []) text x = f (out-ElemArg a).value text x.1
of_sole Elem f (a ∷ b ∷ rest) text x = absurd x

of_no_elements : (args : List ElemArg) → Balances (NoElements args)
of_no_elements args text x = of_nothing text x.1

of_elements : (Elem : Elems) → ((e : ElemTree) → Balances (Elem e)) → (args : List ElemArg)
    → Balances (Elements Elem args)
of_elements Elem f args text x =
    let named : Balances (Commas (Pair Elem) args) = of_separated Comma (Pair Elem)
    (of_is part.Comma refl) (of_pair Elem f) args in
    let values = Either (SoleValue Elem args) (Commas (Pair Elem) args) in
    let inside : Balances (Either (NoElements args) values) =
    of_either (NoElements args) values (of_no_elements args)
    (of_either (SoleValue Elem args) (Commas (Pair Elem) args) (of_sole Elem f args) named) in
    of_either (NoElements args) (InParentheses (Either (NoElements args) values))
    (of_no_elements args)
    (of_parentheses (Either (NoElements args) values) inside) text x

of_annotation_line : (Elem : Elems) → ((e : ElemTree) → Balances (Elem e)) → (a : AnnLayer)
    → Balances (AnnLine Elem a)
of_annotation_line Elem f a text x =
    of_behind (IsOn a.line part.At) (QName a.names ⨾ Elements Elem a.args)
    (of_is_on a.line part.At refl)
    (of_behind (QName a.names) (Elements Elem a.args) (of_qname a.names)
    (of_elements Elem f a.args)) text x

of_element_line : (Elem : Elems) → ((e : ElemTree) → Balances (Elem e))
    → (layer : ElemTree-F ElemTree AnnTree ElemArg)
    → Balances (ElemLine Elem layer)
of_element_line Elem f (ElemTree-F.Value e) text x = of_expression e text x
of_element_line Elem f (ElemTree-F.Ann a) text x = of_annotation_line Elem f (out-AnnTree a) text x
of_element_line Elem f (ElemTree-F.List values) text x =
    of_enclosed pair.Braces pair.Braces
    (PerhapsCommas Elem values ⨾ Perhaps Comma)
    (of_behind (PerhapsCommas Elem values) (Perhaps Comma) (of_perhaps_commas Elem f values)
    (of_perhaps Comma (of_is part.Comma refl))) text x

of_element_within : (n : ℕ) (e : ElemTree) → Balances (ElemWithin n e)
unfolding ElemWithin
of_element_within zero e text x = absurd x
of_element_within (suc n) e text x = of_element_line (ElemWithin n) (of_element_within n)
    (out-ElemTree e) text x

pub of_annotation : (a : AnnTree) → Balances (AnnSpells a)
of_annotation a text x = of_annotation_line (ElemWithin x.0) (of_element_within x.0)
    (out-AnnTree a) text x.1

-- ---- types

pub of_any_annotations : Balances AnyAnns
of_any_annotations text x = of_row AnnSpells of_annotation x.0 text x.1

of_angle : Balances ClosingAngle
of_angle text x = subst Balanced (sym x.1) (λ d. refl)

of_dims : (n : ℕ) → Balances (Dims n)
of_dims zero text x = of_nothing text x
of_dims (suc n) text x =
    let y = x.after in
    subst Balanced (sym (x.whole ∙ ap (λ l. x.front ++ l) (y.whole ∙ ap (λ l. y.front ++ l)
    y.after.whole ∙ sym (append_assoc y.front y.after.front y.after.rest))))
    (joined x.front ((y.front ++ y.after.front) ++ y.after.rest)
    (of_any_annotations x.front x.before)
    (joined (y.front ++ y.after.front) y.after.rest
    (of_pair_of_brackets pair.Brackets pair.Brackets [] y.front y.after.front (λ d. refl) y.before
    y.after.before)
    (of_dims n y.after.rest y.after.after)))

abbrev Types : Type 1
Types = TypeTree → Line

of_reference : (Spells : Types) → ((t : TypeTree) → Balances (Spells t)) → (t : TypeTree)
    → Balances (Reference Spells t)
of_reference Spells f t text x = f t text x.1

of_arg : (Spells : Types) → ((t : TypeTree) → Balances (Spells t)) → (layer : ArgLayer)
    → Balances (ArgLine Spells layer)
of_arg Spells f (ArgTree-F.Exact t) text x = of_reference Spells f t text x
of_arg Spells f (ArgTree-F.Extends t) text x =
    of_behind AnyAnns (Is part.Question ⨾ (Is part.Extends ⨾ Reference Spells t))
    of_any_annotations
    (of_behind (Is part.Question) (Is part.Extends ⨾ Reference Spells t) (of_is part.Question refl)
    (of_behind (Is part.Extends) (Reference Spells t) (of_is part.Extends refl)
    (of_reference Spells f t))) text x
of_arg Spells f (ArgTree-F.Super t) text x =
    of_behind AnyAnns (Is part.Question ⨾ (Is part.Super ⨾ Reference Spells t))
    of_any_annotations
    (of_behind (Is part.Question) (Is part.Super ⨾ Reference Spells t) (of_is part.Question refl)
    (of_behind (Is part.Super) (Reference Spells t) (of_is part.Super refl)
    (of_reference Spells f t))) text x
of_arg Spells f ArgTree-F.Any text x =
    of_behind AnyAnns (Is part.Question) of_any_annotations (of_is part.Question refl) text x

of_args : (Spells : Types) → ((t : TypeTree) → Balances (Spells t)) → (args : List ArgTree)
    → Balances (Args Spells args)
of_args Spells f args text x =
    let line = PerhapsCommas (λ a. ArgLine Spells (out-ArgTree a)) args in
    of_behind (Is (part.Binary binary.Less)) (line ⨾ ClosingAngle)
    (of_is (part.Binary binary.Less) refl)
    (of_behind line ClosingAngle
    (of_perhaps_commas (λ a. ArgLine Spells (out-ArgTree a))
    (λ a. of_arg Spells f (out-ArgTree a)) args) of_angle) text x

of_given_args : (Spells : Types) → ((t : TypeTree) → Balances (Spells t))
    → (args : Option (List ArgTree)) → Balances (Given (Args Spells) args)
of_given_args Spells f None text x = of_nothing text x
of_given_args Spells f (Some args) text x = of_args Spells f args text x

of_further_part : (Spells : Types) → ((t : TypeTree) → Balances (Spells t)) → (p : NamePart)
    → Balances (FurtherPart Spells p)
of_further_part Spells f p text x =
    let word = Word (out-NamePart p).name in
    let args = Given (Args Spells) (out-NamePart p).args in
    of_behind Dot (AnyAnns ⨾ (word ⨾ args)) (of_is part.Dot refl)
    (of_behind AnyAnns (word ⨾ args) of_any_annotations
    (of_behind word args (of_word (out-NamePart p).name)
    (of_given_args Spells f (out-NamePart p).args))) text x

of_named : (Spells : Types) → ((t : TypeTree) → Balances (Spells t)) → (line : ℕ)
    (parts : List NamePart) → Balances (NamedLine Spells line parts)
of_named Spells f line [] text x = absurd x
of_named Spells f line (p ∷ parts) text x =
    let word = WordOn line (out-NamePart p).name in
    let args = Given (Args Spells) (out-NamePart p).args in
    of_behind word (args ⨾ Row (FurtherPart Spells) parts) (of_word_on line (out-NamePart p).name)
    (of_behind args (Row (FurtherPart Spells) parts)
    (of_given_args Spells f (out-NamePart p).args)
    (of_row (FurtherPart Spells) (of_further_part Spells f) parts)) text x.1

of_base : (Spells : Types) → ((t : TypeTree) → Balances (Spells t)) → (layer : TypeLayer)
    → Balances (BaseLine Spells layer)
of_base Spells f (TypeTree-F.Primitive p) text x = of_is (part.Primitive p) refl text x
of_base Spells f (TypeTree-F.Named line parts) text x = of_named Spells f line parts text x
of_base Spells f TypeTree-F.Void text x = absurd x
of_base Spells f (TypeTree-F.Array element dims) text x = absurd x

of_bare : (Spells : Types) → ((t : TypeTree) → Balances (Spells t)) → (layer : TypeLayer)
    → Balances (BareLine Spells layer)
of_bare Spells f TypeTree-F.Void text x = absurd x
of_bare Spells f (TypeTree-F.Primitive p) text x = of_is (part.Primitive p) refl text x
of_bare Spells f (TypeTree-F.Named line parts) text x = of_named Spells f line parts text x
of_bare Spells f (TypeTree-F.Array element zero) text x = absurd x
of_bare Spells f (TypeTree-F.Array element (suc n)) text x =
    of_behind (BaseLine Spells (out-TypeTree element)) (Dims (suc n))
    (of_base Spells f (out-TypeTree element)) (of_dims (suc n)) text x

of_type_within : (n : ℕ) (t : TypeTree) → Balances (TypeWithin n t)
unfolding TypeWithin
of_type_within zero t text x = absurd x
of_type_within (suc n) t text x =
    of_behind AnyAnns (BareLine (TypeWithin n) (out-TypeTree t)) of_any_annotations
    (of_bare (TypeWithin n) (of_type_within n) (out-TypeTree t)) text x

pub of_type : (t : TypeTree) → Balances (TypeSpells t)
of_type t text x = of_type_within x.0 t text x.1
