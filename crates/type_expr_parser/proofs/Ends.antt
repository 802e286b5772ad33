-- With what begins an expression, and behind what marks none goes on.
use Rattle.std.proofs.Common.{◌≡◌, refl, sym, ◌∙◌, ap, subst, ℕ, zero, suc, ◌≤◌, ◌<◌}
use Rattle.std.proofs.Common.{arith, Bool, true, false, List, [], ◌∷◌, ◌++◌, length}
use Rattle.std.proofs.Common.{Some, None, ◌⊎◌, inl, inr}
use Rattle.std.specs.Prelude.{nat_le, ◌||◌}
use Rattle.std.proofs.lemmas.Bool.{leb-true}
use Rattle.java_token.specs.declared.token.Token.{Token}
use Rattle.java_ast.specs.declared.types.TypeTree.{out-TypeTree}
use Rattle.java_ast.specs.declared.types.ArgTree.TheOpen.{TypeTree-F}
use Rattle.java_ast.specs.declared.types.NamePart.{NamePart}
use Rattle.java_ast.specs.declared.expression.Expr.{Expr, out-Expr}
use Rattle.java_ast.specs.declared.expression.Expr.TheOpen.{Expr-F}
use Rattle.java_ast.specs.declared.expression.Link.{Link}
use Rattle.java_ast.specs.declared.expression.BinOp.{BinOp}
use Rattle.java_ast.specs.declared.expression.BinOp.TheVariants as binary
use Rattle.java_ast.specs.declared.expression.UnOp.{UnOp}
use Rattle.java_ast.specs.declared.expression.UnOp.TheVariants as unary
use Rattle.java_grammar.specs.declared.part.Part.{Part}
use Rattle.java_grammar.specs.declared.part.Part.TheVariants as part
use Rattle.java_grammar.specs.declared.part.Pair.TheVariants as pair
use Rattle.java_grammar.specs.Parts.{part_of}
use Rattle.java_grammar.specs.Tests.{angles}
use Rattle.java_grammar.specs.Marks.{Mark, Single, Line}
use Rattle.java_grammar.specs.Words.{◌⨾◌, Is, Word}
use Rattle.java_grammar.specs.Reading.{front_part, binary_of}
use Rattle.java_grammar.specs.Expressions.{TypeLayer, Dot, QName, PlainName, PlainBase}
use Rattle.java_grammar.specs.Expressions.{LiteralType}
use Rattle.java_grammar.specs.Expressions.{Operator, Prefix, InParentheses, CastLine, ChainLine}
use Rattle.java_grammar.specs.Expressions.{NodeLine, ExprWithin, is_sign}
use Rattle.java_grammar.specs.declared.sign.Sign.TheVariants as sign
use Rattle.java_grammar.specs.Signs.{sign_is}
use Rattle.type_expr_parser.specs.Reading.{found, ◌>>=◌, comes_by, alone, operator_at}
use Rattle.type_expr_parser.specs.Literals.{goes_on}
use Rattle.type_expr_parser.specs.Levels.{looseness}
use Rattle.type_expr_parser.specs.Expressions.{begins_unsigned}
use Rattle.type_expr_parser.specs.Follows.{Ends}
use Rattle.type_expr_parser.proofs.Lines.{value_is, to_row}
use Rattle.type_expr_parser.proofs.TokenLaws.{operator_again}
use Rattle.type_expr_parser.proofs.TokenKinds.{IsWordPart, plain, «sealed», word_is, literal_read}

-- ---- with what an expression begins

abbrev pub begins_operand : Part → Bool
begins_operand p = is_sign p || begins_unsigned (Some p)

pub record Begins (text : List Mark) : Type 0 where
  pub token : Token
  pub rest : List Mark
  pub whole : text ≡ Single token ∷ rest
  pub begins : begins_operand (part_of token) ≡ true

begins_part : (p : Part) (text : List Mark) → begins_operand p ≡ true → Is p text → Begins text
begins_part p text e x = record {
  token = x.token;
  rest = [];
  whole = x.whole;
  begins = ap begins_operand x.part ∙ e;
}

begins_front : {a b : Line} {text : List Mark} (x : (a ⨾ b) text) → Begins x.front → Begins text
begins_front x y = record {
  token = y.token;
  rest = y.rest ++ x.rest;
  whole = x.whole ∙ ap (λ l. l ++ x.rest) y.whole;
  begins = y.begins;
}

word_part : (p : Part) → IsWordPart p → begins_operand p ≡ true
word_part p plain = refl
word_part p «sealed» = refl

begins_word : (name : List ℕ) (text : List Mark) → Word name text → Begins text
begins_word name text x = record {
  token = x.token;
  rest = [];
  whole = x.whole;
  begins = word_part (part_of x.token) (word_is x.token name x.word);
}

begins_name : (words : List (List ℕ)) (text : List Mark) → QName words text → Begins text
begins_name [] text x = absurd x
begins_name (w ∷ words) text x =
    let y = to_row Dot Word w words text x in begins_front y (begins_word w y.front y.before)

begins_plain : (line : ℕ) (parts : List NamePart) (text : List Mark) → PlainName line parts text
    → Begins text
begins_plain line [] text x = absurd x
begins_plain line (p ∷ parts) text x =
    let word = x.before.1 in
    begins_front x (record {
      token = word.token;
      rest = [];
      whole = word.whole;
      begins = word_part (part_of word.token) (word_is word.token _ word.word);
    })

begins_base : (layer : TypeLayer) (text : List Mark) → PlainBase layer text → Begins text
begins_base TypeTree-F.Void text x = absurd x
begins_base (TypeTree-F.Primitive p) text x = begins_part (part.Primitive p) text refl x
begins_base (TypeTree-F.Named line parts) text x = begins_plain line parts text x
begins_base (TypeTree-F.Array element dims) text x = absurd x

begins_type : (layer : TypeLayer) (text : List Mark) → LiteralType layer text → Begins text
begins_type TypeTree-F.Void text x = begins_part part.Void text refl x
begins_type (TypeTree-F.Primitive p) text x = begins_part (part.Primitive p) text refl x
begins_type (TypeTree-F.Named line parts) text x = begins_plain line parts text x
begins_type (TypeTree-F.Array element zero) text x = absurd x
begins_type (TypeTree-F.Array element (suc n)) text x =
    begins_front x (begins_base (out-TypeTree element) x.front x.before)

begins_prefix : (op : UnOp) (text : List Mark) → Prefix op text → Begins text
begins_prefix unary.Plus text x = begins_part (part.Binary binary.Plus) text refl x
begins_prefix unary.Minus text x = begins_part (part.Binary binary.Minus) text refl x
begins_prefix unary.Complement text x = begins_part (part.Unary unary.Complement) text refl x
begins_prefix unary.Not text x = begins_part (part.Unary unary.Not) text refl x

begins_group : (line : Line) (text : List Mark) → InParentheses line text → Begins text
begins_group line text x =
    begins_front x (begins_part (part.Opening pair.Parentheses) x.front refl x.before)

begins_cast : (operand : Line) (layer : TypeLayer) (text : List Mark)
    → CastLine operand layer text → Begins text
begins_cast operand TypeTree-F.Void text x = absurd x
begins_cast operand (TypeTree-F.Primitive p) text x =
    begins_front x (begins_group (Is (part.Primitive p)) x.front x.before)
begins_cast operand (TypeTree-F.Named line parts) text x =
    begins_front x (begins_group (PlainName line parts) x.front x.before)
begins_cast operand (TypeTree-F.Array element dims) text x = absurd x

begins_chain : (O : ℕ → Expr → Line)
    → ((level : ℕ) (e : Expr) (t : List Mark) → O level e t → Begins t)
    → (first : Expr) (links : List Link) (text : List Mark) → ChainLine O first links text
    → Begins text
begins_chain O f first [] text x = absurd x
begins_chain O f first (l ∷ links) text x = begins_front x (f _ first x.front x.before)

begins_node : (O : ℕ → Expr → Line)
    → ((level : ℕ) (e : Expr) (t : List Mark) → O level e t → Begins t)
    → (node : Expr-F Expr Link) (text : List Mark) → NodeLine O node text → Begins text
begins_node O f (Expr-F.Lit l) text x = record {
  token = x.token;
  rest = [];
  whole = x.whole;
  begins = ap begins_operand (literal_read l x.token x.is).1;
}
begins_node O f (Expr-F.Name words) text x = begins_name words text x
begins_node O f (Expr-F.ClassLit type) text x =
    begins_front x (begins_type (out-TypeTree type) x.front x.before)
begins_node O f (Expr-F.Unary op operand) text x =
    begins_front x (begins_prefix op x.front x.before)
begins_node O f (Expr-F.Chain first rest) text x = begins_chain O f first rest text x
begins_node O f (Expr-F.Cond test chosen other) text x =
    begins_front x (f _ test x.front x.before)
begins_node O f (Expr-F.Cast type operand) text x =
    begins_cast _ (out-TypeTree type) text x

pub begins : (n level : ℕ) (e : Expr) (text : List Mark) → ExprWithin n level e text → Begins text
unfolding ExprWithin
begins zero level e text x = absurd x
begins (suc n) level e text (inl x) = begins_node (ExprWithin n) (begins n) (out-Expr e) text x.1
begins (suc n) level e text (inr x) = begins_group _ text x

pub begins_some : {text : List Mark} → Begins text → 1 ≤ length text
begins_some x = let e = ap length x.whole in omega arith

-- ---- behind what an expression ends, whose operators bind at most so loosely

pub tighter_ends : (j k : ℕ) (left : List Mark) → j ≤ k → Ends k left → Ends j left
tighter_ends j k left h x = record {
  operator = λ op rest e. let f = x.operator op rest e in omega arith;
  operand = x.operand;
  goes = x.goes;
  question = λ f. x.question (omega arith);
}

pub at_end : (k : ℕ) → Ends k []
unfolding operator_at
at_end k = record {
  operator = λ op rest e. absurd (cc);
  operand = refl;
  goes = refl;
  question = λ f. refl;
}

-- a token that is no operator ends an expression
no_binary : (t : Token) (left : List Mark) (p : Part) → part_of t ≡ p
    → alone (binary_of p) (angles p) ≡ None → operator_at (Single t ∷ left) ≡ None
unfolding operator_at
no_binary t left p e h =
    ap (λ q. alone (binary_of q) (angles q) >>= λ o. found o left) e
    ∙ ap (λ r. r >>= λ o. found o left) h

pub ends_at : (k : ℕ) (p : Part) (text left : List Mark) → Is p text
    → alone (binary_of p) (angles p) ≡ None
    → begins_unsigned (Some p) ≡ false
    → (sign_is sign.LeftBracket p || sign_is sign.Dot p) ≡ false
    → (10 < k → sign_is sign.Question p ≡ false)
    → Ends k (text ++ left)
ends_at k p text left x none operand goes question =
    subst (λ l. Ends k (l ++ left)) (sym x.whole) (record {
      operator = λ op rest e.
          let f : None ≡ Some (op, rest) = sym (no_binary x.token left p x.part none) ∙ e in
          absurd (cc);
      operand = ap (λ q. begins_unsigned (Some q)) x.part ∙ operand;
      goes = ap (λ q. sign_is sign.LeftBracket q || sign_is sign.Dot q) x.part ∙ goes;
      question = λ f. ap (sign_is sign.Question) x.part ∙ question f;
    })

pub ends_at_parenthesis : (k : ℕ) (text left : List Mark)
    → Is (part.Closing pair.Parentheses) text → Ends k (text ++ left)
ends_at_parenthesis k text left x =
    ends_at k (part.Closing pair.Parentheses) text left x refl refl refl (λ f. refl)

pub ends_at_brace : (k : ℕ) (text left : List Mark)
    → Is (part.Closing pair.Braces) text → Ends k (text ++ left)
ends_at_brace k text left x =
    ends_at k (part.Closing pair.Braces) text left x refl refl refl (λ f. refl)

pub ends_at_comma : (k : ℕ) (text left : List Mark) → Is part.Comma text → Ends k (text ++ left)
ends_at_comma k text left x = ends_at k part.Comma text left x refl refl refl (λ f. refl)

pub ends_at_colon : (k : ℕ) (text left : List Mark) → Is part.Colon text → Ends k (text ++ left)
ends_at_colon k text left x = ends_at k part.Colon text left x refl refl refl (λ f. refl)

pub ends_at_question : (k : ℕ) (text left : List Mark) → k ≤ 10 → Is part.Question text
    → Ends k (text ++ left)
ends_at_question k text left h x =
    ends_at k part.Question text left x refl refl refl (λ f. absurd (omega arith))

-- ---- operators

abbrev OperatorFront : BinOp → List Mark → Type 0
OperatorFront op text = (front_part text ≡ None) ⊎ (front_part text ≡ Some (part.Binary op))

single_front : (op : BinOp) (text left : List Mark) → Is (part.Binary op) text
    → OperatorFront op (text ++ left)
single_front op text left x = inr (ap (λ l. front_part (l ++ left)) x.whole ∙ ap Some x.part)

operator_front : (op : BinOp) (text left : List Mark) → Operator op text
    → OperatorFront op (text ++ left)
operator_front binary.OrOr text left x = single_front binary.OrOr text left x
operator_front binary.AndAnd text left x = single_front binary.AndAnd text left x
operator_front binary.Or text left x = single_front binary.Or text left x
operator_front binary.Xor text left x = single_front binary.Xor text left x
operator_front binary.And text left x = single_front binary.And text left x
operator_front binary.Equal text left x = single_front binary.Equal text left x
operator_front binary.NotEqual text left x = single_front binary.NotEqual text left x
operator_front binary.Less text left x = single_front binary.Less text left x
operator_front binary.LessEqual text left x = single_front binary.LessEqual text left x
operator_front binary.Greater text left x = inl (ap (λ l. front_part (l ++ left)) x)
operator_front binary.GreaterEqual text left x = single_front binary.GreaterEqual text left x
operator_front binary.ShiftLeft text left x = single_front binary.ShiftLeft text left x
operator_front binary.ShiftRight text left x = inl (ap (λ l. front_part (l ++ left)) x)
operator_front binary.ShiftRightUnsigned text left x = inl (ap (λ l. front_part (l ++ left)) x)
operator_front binary.Plus text left x = single_front binary.Plus text left x
operator_front binary.Minus text left x = single_front binary.Minus text left x
operator_front binary.Star text left x = single_front binary.Star text left x
operator_front binary.Slash text left x = single_front binary.Slash text left x
operator_front binary.Percent text left x = single_front binary.Percent text left x

pub operator_some : (op : BinOp) (text : List Mark) → Operator op text → 1 ≤ length text
operator_some binary.OrOr text x = let e = ap length x.whole in omega arith
operator_some binary.AndAnd text x = let e = ap length x.whole in omega arith
operator_some binary.Or text x = let e = ap length x.whole in omega arith
operator_some binary.Xor text x = let e = ap length x.whole in omega arith
operator_some binary.And text x = let e = ap length x.whole in omega arith
operator_some binary.Equal text x = let e = ap length x.whole in omega arith
operator_some binary.NotEqual text x = let e = ap length x.whole in omega arith
operator_some binary.Less text x = let e = ap length x.whole in omega arith
operator_some binary.LessEqual text x = let e = ap length x.whole in omega arith
operator_some binary.Greater text x = let e = ap length x in omega arith
operator_some binary.GreaterEqual text x = let e = ap length x.whole in omega arith
operator_some binary.ShiftLeft text x = let e = ap length x.whole in omega arith
operator_some binary.ShiftRight text x = let e = ap length x in omega arith
operator_some binary.ShiftRightUnsigned text x = let e = ap length x in omega arith
operator_some binary.Plus text x = let e = ap length x.whole in omega arith
operator_some binary.Minus text x = let e = ap length x.whole in omega arith
operator_some binary.Star text x = let e = ap length x.whole in omega arith
operator_some binary.Slash text x = let e = ap length x.whole in omega arith
operator_some binary.Percent text x = let e = ap length x.whole in omega arith

loose_within : (op : BinOp) → nat_le (looseness op) 10 ≡ true
loose_within binary.OrOr = refl
loose_within binary.AndAnd = refl
loose_within binary.Or = refl
loose_within binary.Xor = refl
loose_within binary.And = refl
loose_within binary.Equal = refl
loose_within binary.NotEqual = refl
loose_within binary.Less = refl
loose_within binary.LessEqual = refl
loose_within binary.Greater = refl
loose_within binary.GreaterEqual = refl
loose_within binary.ShiftLeft = refl
loose_within binary.ShiftRight = refl
loose_within binary.ShiftRightUnsigned = refl
loose_within binary.Plus = refl
loose_within binary.Minus = refl
loose_within binary.Star = refl
loose_within binary.Slash = refl
loose_within binary.Percent = refl

loose_some : (op : BinOp) → nat_le 1 (looseness op) ≡ true
loose_some binary.OrOr = refl
loose_some binary.AndAnd = refl
loose_some binary.Or = refl
loose_some binary.Xor = refl
loose_some binary.And = refl
loose_some binary.Equal = refl
loose_some binary.NotEqual = refl
loose_some binary.Less = refl
loose_some binary.LessEqual = refl
loose_some binary.Greater = refl
loose_some binary.GreaterEqual = refl
loose_some binary.ShiftLeft = refl
loose_some binary.ShiftRight = refl
loose_some binary.ShiftRightUnsigned = refl
loose_some binary.Plus = refl
loose_some binary.Minus = refl
loose_some binary.Star = refl
loose_some binary.Slash = refl
loose_some binary.Percent = refl

pub loosest : (op : BinOp) → looseness op ≤ 10
loosest op = leb-true (looseness op) 10 (loose_within op)

pub least_loose : (op : BinOp) → 1 ≤ looseness op
least_loose op = leb-true 1 (looseness op) (loose_some op)

operator_ends : (op : BinOp) (text : List Mark) → OperatorFront op text
    → (begins_unsigned (front_part text) ≡ false) × (goes_on text ≡ false)
operator_ends op text (inl e) = (
  ap begins_unsigned e,
  ap (λ q. comes_by sign.LeftBracket q || comes_by sign.Dot q) e,
)
operator_ends op text (inr e) = (
  ap begins_unsigned e,
  ap (λ q. comes_by sign.LeftBracket q || comes_by sign.Dot q) e,
)

pub ends_at_operator : (k : ℕ) (op : BinOp) (text left : List Mark) → Operator op text
    → k < looseness op → Ends k (text ++ left)
ends_at_operator k op text left x h =
    let y = operator_ends op (text ++ left) (operator_front op text left x) in
    let most = loosest op in
    record {
      operator = λ o rest e.
          let f : Some (op, left) ≡ Some (o, rest) = sym (operator_again op text left x) ∙ e in
          let same : op ≡ o = value_is f in
          subst (λ (v : BinOp). k < looseness v) same h;
      operand = y.0;
      goes = y.1;
      question = λ f. absurd (omega arith);
    }
