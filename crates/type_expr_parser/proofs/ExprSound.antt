-- What is read as an expression of any level is spelled as one.
use Rattle.std.proofs.Common.{◌≡◌, refl, sym, ◌∙◌, ap, subst, ℕ, zero, suc, ◌+◌, ◌≤◌, ◌==◌}
use Rattle.std.proofs.Common.{arith, Bool, true, false, List, [], ◌∷◌, ◌++◌, map}
use Rattle.std.proofs.Common.{Option, Some, None, inl, inr}
use Rattle.std.specs.Prelude.{nat_le, if◌then◌else◌, ◌&&◌}
use Rattle.std.proofs.lemmas.Bool.{le-leb, eqb-true, false≢true}
use Rattle.java_ast.specs.declared.types.TypeTree.{TypeTree, out-TypeTree}
use Rattle.java_ast.specs.declared.types.TypeTree.TheVariants as tree
use Rattle.java_ast.specs.declared.types.Primitive.{Primitive}
use Rattle.java_ast.specs.declared.types.ArgTree.TheOpen.{TypeTree-F}
use Rattle.java_ast.specs.declared.expression.Expr.{Expr, out-Expr}
use Rattle.java_ast.specs.declared.expression.Expr.TheVariants as expr
use Rattle.java_ast.specs.declared.expression.Expr.TheOpen.{Expr-F, Link-F}
use Rattle.java_ast.specs.declared.expression.Expr.TheViews.{roll-Link, out-roll-Link}
use Rattle.java_ast.specs.declared.expression.Link.{Link, out-Link}
use Rattle.java_ast.specs.declared.expression.BinOp.{BinOp}
use Rattle.java_ast.specs.declared.expression.BinOp.TheVariants as binary
use Rattle.java_ast.specs.declared.expression.UnOp.{UnOp}
use Rattle.java_grammar.specs.declared.part.Part.{Part}
use Rattle.java_grammar.specs.declared.part.Part.TheVariants as part
use Rattle.java_grammar.specs.declared.part.Pair.TheVariants as pair
use Rattle.java_grammar.specs.Parts.{part_of}
use Rattle.java_grammar.specs.Tests.{is_word}
use Rattle.java_grammar.specs.Marks.{Mark, Single, Angle, Group, Semi, Line}
use Rattle.java_grammar.specs.Words.{◌⨾◌, Row, Is}
use Rattle.java_grammar.specs.Reading.{front_part, behind_mark, IsFront}
use Rattle.java_grammar.specs.Expressions.{conditional, unary_level, primary, operator_level}
use Rattle.java_grammar.specs.Expressions.{TypeLayer, QName, PlainName, CastLine}
use Rattle.java_grammar.specs.Expressions.{LinkLine, NodeLine, ExprWithin}
use Rattle.java_grammar.specs.Expressions.{is_sign, begins_with_sign, Unsigned}
use Rattle.java_grammar.specs.declared.sign.Sign.TheVariants as sign
use Rattle.type_expr_parser.specs.Reading.{Read, found, ◌>>=◌, many, token_at, front_line, comes}
use Rattle.type_expr_parser.specs.Reading.{sign_at}
use Rattle.type_expr_parser.specs.Reading.{operator_at}
use Rattle.type_expr_parser.specs.Names.{plain_part, plain_type}
use Rattle.type_expr_parser.specs.Levels.{looseness, prefix_of}
use Rattle.type_expr_parser.specs.Expressions.{Place, Whole, Operand, Nested, is_word_part}
use Rattle.type_expr_parser.specs.Expressions.{begins_unsigned, closed_by, closed_primitive}
use Rattle.type_expr_parser.specs.Expressions.{cast_over, primitive_cast_over, named_by}
use Rattle.type_expr_parser.specs.Expressions.{behind_name_over, grouped_over, opened_by}
use Rattle.type_expr_parser.specs.Expressions.{opened_over, prefixed_over, unprefixed_by}
use Rattle.type_expr_parser.specs.Expressions.{unprefixed_over, unary_by, unary_over, link_over}
use Rattle.type_expr_parser.specs.Expressions.{chain_of, chain_over, chosen_over, conditional_over}
use Rattle.type_expr_parser.specs.Expressions.{nested_at}
use Rattle.type_expr_parser.proofs.Lines.{value_is, left_is, bound, then_front, front_as}
use Rattle.type_expr_parser.proofs.Lines.{many_takes}
use Rattle.type_expr_parser.proofs.TokenLaws.{sign_takes, operator_takes}
use Rattle.type_expr_parser.proofs.NameLaws.{plain_name}
use Rattle.type_expr_parser.proofs.Grammar.{within_more, looser, of_group}
use Rattle.type_expr_parser.proofs.TokenKinds.{part_takes, prefix_takes}
use Rattle.type_expr_parser.proofs.ExprTakes.{out_type_primitive, out_type_named, out_unary}
use Rattle.type_expr_parser.proofs.ExprTakes.{out_cast, out_chain, out_conditional, node_front}
use Rattle.type_expr_parser.proofs.ExprTakes.{nothing_left, named_takes, primitive_takes}
use Rattle.type_expr_parser.proofs.ExprTakes.{void_takes, literal_takes}

abbrev pub place_level : Place → ℕ
place_level Whole = conditional
place_level Operand = unary_level

-- what a nested reading gives is spelled, with fewer than so many nodes inside each other
abbrev pub Sound : ℕ → Nested → Type 0
Sound m nested = (place : Place) (text : List Mark) (e : Expr) (left : List Mark)
    → nested place text ≡ Some (e, left) → IsFront (ExprWithin m (place_level place) e) text left

-- the same, of what is given
same_given : (n level : ℕ) {text rest left : List Mark} {e made : Expr}
    → IsFront (ExprWithin n level made) text rest → made ≡ e → rest ≡ left
    → IsFront (ExprWithin n level e) text left
same_given n level {text} {rest} {e = e} x is behind =
    subst (λ (l : List Mark). IsFront (ExprWithin n level e) text l) behind
    (subst (λ (o : Expr). IsFront (ExprWithin n level o) text rest) is x)

as_unary : (n : ℕ) (e : Expr) {text left : List Mark}
    → IsFront (ExprWithin n primary e) text left → IsFront (ExprWithin n unary_level e) text left
as_unary n e x =
    let h : unary_level ≤ primary = omega arith in
    front_as (λ t y. looser n unary_level primary e t h y) x

-- ---- casts and parentheses

cast_takes : (m : ℕ) (nested : Nested) → Sound m nested → (type : TypeTree) (layer : TypeLayer)
    (text mid : List Mark) (e : Expr) (left : List Mark)
    → out-TypeTree type ≡ layer
    → ((operand : Line) → IsFront operand mid left → IsFront (CastLine operand layer) text left)
    → cast_over nested type mid ≡ Some (e, left)
    → IsFront (ExprWithin (suc m) unary_level e) text left
unfolding cast_over
cast_takes m nested sound type layer text mid e left is whole h =
    let b = bound (nested Operand mid) (λ operand. Some (expr.Cast type operand.0, operand.1))
    e left h in
    let made : expr.Cast type b.item ≡ e = value_is b.second in
    let behind : b.rest ≡ left = left_is b.second in
    let first = b.first ∙ ap (λ l. Some (b.item, l)) behind in
    let operand = sound Operand mid b.item left first in
    let spelled : IsFront (CastLine (ExprWithin m unary_level b.item)
    (out-TypeTree type)) text left =
    subst (λ (o : TypeLayer). IsFront (CastLine (ExprWithin m unary_level b.item) o) text left)
    (sym is) (whole (ExprWithin m unary_level b.item) operand) in
    same_given (suc m) unary_level
    (node_front m unary_level (expr.Cast type b.item) (Expr-F.Cast type b.item)
    (out_cast type b.item) refl spelled) made refl

primitive_cast_takes : (m : ℕ) (nested : Nested) → Sound m nested → (p : Primitive)
    (text rest : List Mark) (e : Expr) (left : List Mark)
    → IsFront (Is (part.Opening pair.Parentheses)) text rest
    → front_part rest ≡ Some (part.Primitive p)
    → primitive_cast_over nested p rest ≡ Some (e, left)
    → IsFront (ExprWithin (suc m) unary_level e) text left
unfolding primitive_cast_over
primitive_cast_takes m nested sound p text rest e left opening f h =
    let b = bound (token_at rest) (λ token. sign_at sign.RightParenthesis token.1 >>= λ closing.
    cast_over nested (tree.Primitive p) closing.1) e left h in
    let c = bound (sign_at sign.RightParenthesis b.rest) (λ closing.
    cast_over nested (tree.Primitive p) closing.1) e left b.second in
    let type = part_takes (part.Primitive p) rest b.item b.rest b.first f in
    let closing = sign_takes sign.RightParenthesis b.rest c.item c.rest c.first in
    cast_takes m nested sound (tree.Primitive p) (TypeTree-F.Primitive p) text c.rest e left
    (out_type_primitive p)
    (λ operand x. then_front (then_front opening (then_front type closing)) x) c.second

closed_is : (p : Primitive) (o : Option Part) (behind : List Mark) → closed_by o behind ≡ Some p
    → o ≡ Some (part.Primitive p)
closed_is p (Some (part.Primitive q)) behind e = by (comes sign.RightParenthesis behind) e
  where
    by : (b : Bool) → (if b then Some q else None) ≡ Some p
        → Some (part.Primitive q) ≡ Some (part.Primitive p)
    by true e = let same_one : q ≡ p = cc in ap (λ r. Some (part.Primitive r)) same_one
    by false e = absurd cc
closed_is p None behind e = absurd cc
closed_is p (Some q) behind e = absurd cc

-- the words of a name that isn't in parentheses
name_text : (n level : ℕ) (e : Expr) (words : List (List ℕ)) (text left : List Mark)
    → out-Expr e ≡ Expr-F.Name words → is_word_part (front_part (text ++ left)) ≡ true
    → ExprWithin n level e text → QName words text
unfolding ExprWithin
name_text zero level e words text left is f x = absurd x
name_text (suc n) level e words text left is f (inl x) =
    subst (λ (o : Expr-F Expr Link). NodeLine (ExprWithin n) o text) is x.1
name_text (suc n) level e words text left is f (inr x) =
    let first = x.before in
    let whole : text ++ left ≡ Single first.token ∷ (x.rest ++ left) =
    ap (λ l. l ++ left) (x.whole ∙ ap (λ l. l ++ x.rest) first.whole) in
    let no : is_word (part.Opening pair.Parentheses) ≡ true =
    sym (ap is_word first.part) ∙ (sym (ap (λ l. is_word_part (front_part l)) whole) ∙ f) in
    absurd (false≢true no)

unsigned_part : (p : Part) → begins_unsigned (Some p) ≡ true → is_sign p ≡ false
unsigned_part (part.Binary op) e = absurd (false≢true e)
unsigned_part p e = refl

unsigned_text : (text left : List Mark) → begins_unsigned (front_part (text ++ left)) ≡ true
    → begins_with_sign text ≡ false
unsigned_text [] left e = refl
unsigned_text (Single t ∷ text) left e = unsigned_part (part_of t) e
unsigned_text (Angle more ∷ text) left e = refl
unsigned_text (Group ∷ text) left e = refl
unsigned_text (Semi ∷ text) left e = refl

unsigned_front : {operand : Line} {text left : List Mark}
    → begins_unsigned (front_part text) ≡ true → IsFront operand text left
    → IsFront (Unsigned operand) text left
unsigned_front {left} e x = record {
  front = x.front;
  whole = x.whole;
  spelled = (
    unsigned_text x.front left (sym (ap (λ l. begins_unsigned (front_part l)) x.whole) ∙ e),
    x.spelled,
  );
}

group_front : (m : ℕ) (inner : Expr) {text rest mid left : List Mark}
    → IsFront (Is (part.Opening pair.Parentheses)) text rest
    → IsFront (ExprWithin m conditional inner) rest mid
    → IsFront (Is (part.Closing pair.Parentheses)) mid left
    → IsFront (ExprWithin (suc m) unary_level inner) text left
group_front m inner opening x closing =
    front_as (λ t y. of_group m unary_level inner t y) (then_front opening (then_front x closing))

-- behind an expression in parentheses before what may be an operand
behind_takes : (m : ℕ) (nested : Nested) → Sound m nested → (inner : Expr)
    (node : Expr-F Expr Link) (text rest mid last : List Mark) (e : Expr) (left : List Mark)
    → IsFront (Is (part.Opening pair.Parentheses)) text rest
    → IsFront (ExprWithin m conditional inner) rest mid
    → IsFront (Is (part.Closing pair.Parentheses)) mid last
    → out-Expr inner ≡ node
    → is_word_part (front_part rest) ≡ true → begins_unsigned (front_part last) ≡ true
    → named_by nested (front_line rest) inner node last ≡ Some (e, left)
    → IsFront (ExprWithin (suc m) unary_level e) text left
behind_takes m nested sound inner (Expr-F.Name words) text rest mid last e left opening x closing
    is word operand h =
    let named : is_word_part (front_part (x.front ++ mid)) ≡ true =
    sym (ap (λ l. is_word_part (front_part l)) x.whole) ∙ word in
    let q = name_text m conditional inner words x.front mid is named x.spelled in
    let line : front_line (x.front ++ mid) ≡ front_line rest = sym (ap front_line x.whole) in
    let plain : IsFront (PlainName (front_line rest) (map plain_part words)) rest mid = record {
      front = x.front;
      whole = x.whole;
      spelled = subst (λ (n : ℕ). PlainName n (map plain_part words) x.front) line
          (plain_name words x.front mid q);
    } in
    cast_takes m nested sound (plain_type (front_line rest) words)
    (TypeTree-F.Named (front_line rest) (map plain_part words)) text last e left
    (out_type_named (front_line rest) (map plain_part words))
    (λ o y. then_front (then_front opening (then_front plain closing))
    (unsigned_front operand y)) h
behind_takes m nested sound inner node text rest mid last e left opening x closing is word operand
    h = same_given (suc m) unary_level (group_front m inner opening x closing) (value_is h)
    (left_is h)

grouped_by : (m : ℕ) (nested : Nested) → Sound m nested → (inner : Expr)
    (text rest mid last : List Mark) (e : Expr) (left : List Mark) (w u : Bool)
    → IsFront (Is (part.Opening pair.Parentheses)) text rest
    → IsFront (ExprWithin m conditional inner) rest mid
    → IsFront (Is (part.Closing pair.Parentheses)) mid last
    → is_word_part (front_part rest) ≡ w → begins_unsigned (front_part last) ≡ u
    → (if w && u then behind_name_over nested (front_line rest) inner last
    else Some (inner, last)) ≡ Some (e, left)
    → IsFront (ExprWithin (suc m) unary_level e) text left
unfolding behind_name_over
grouped_by m nested sound inner text rest mid last e left true true opening x closing w u h =
    behind_takes m nested sound inner (out-Expr inner) text rest mid last e left opening x closing
    refl w u h
grouped_by m nested sound inner text rest mid last e left true false opening x closing w u h =
    same_given (suc m) unary_level (group_front m inner opening x closing) (value_is h) (left_is h)
grouped_by m nested sound inner text rest mid last e left false u opening x closing w v h =
    same_given (suc m) unary_level (group_front m inner opening x closing) (value_is h) (left_is h)

opened_rest : (m : ℕ) (nested : Nested) → Sound m nested → (o : Option Primitive)
    (text rest : List Mark) (e : Expr) (left : List Mark)
    → IsFront (Is (part.Opening pair.Parentheses)) text rest
    → closed_primitive rest ≡ o
    → opened_by nested o rest ≡ Some (e, left)
    → IsFront (ExprWithin (suc m) unary_level e) text left
unfolding grouped_over
opened_rest m nested sound (Some p) text rest e left opening o h =
    primitive_cast_takes m nested sound p text rest e left opening
    (closed_is p (front_part rest) (behind_mark rest) o) h
opened_rest m nested sound None text rest e left opening o h =
    let b = bound (nested Whole rest) (λ inner. sign_at sign.RightParenthesis inner.1 >>= λ
    closing.
    if is_word_part (front_part rest) && begins_unsigned (front_part closing.1)
    then behind_name_over nested (front_line rest) inner.0 closing.1
    else Some (inner.0, closing.1)) e left h in
    let c = bound (sign_at sign.RightParenthesis b.rest) (λ closing.
    if is_word_part (front_part rest) && begins_unsigned (front_part closing.1)
    then behind_name_over nested (front_line rest) b.item closing.1
    else Some (b.item, closing.1)) e left b.second in
    grouped_by m nested sound b.item text rest b.rest c.rest e left
    (is_word_part (front_part rest)) (begins_unsigned (front_part c.rest)) opening
    (sound Whole rest b.item b.rest b.first)
    (sign_takes sign.RightParenthesis b.rest c.item c.rest c.first) refl refl c.second

opened_takes : (m : ℕ) (nested : Nested) → Sound m nested → (text : List Mark) (e : Expr)
    (left : List Mark) → opened_over nested text ≡ Some (e, left)
    → IsFront (ExprWithin (suc m) unary_level e) text left
unfolding opened_over
opened_takes m nested sound text e left h =
    let b = bound (sign_at sign.LeftParenthesis text) (λ opening.
    opened_by nested (closed_primitive opening.1) opening.1) e left h in
    opened_rest m nested sound (closed_primitive b.rest) text b.rest e left
    (sign_takes sign.LeftParenthesis text b.item b.rest b.first) refl b.second

-- ---- prefix operators

prefixed_takes : (m : ℕ) (nested : Nested) → Sound m nested → (op : UnOp) (text : List Mark)
    (e : Expr) (left : List Mark)
    → prefix_of (front_part text) ≡ Some op
    → prefixed_over nested op text ≡ Some (e, left)
    → IsFront (ExprWithin (suc m) unary_level e) text left
unfolding prefixed_over
prefixed_takes m nested sound op text e left f h =
    let b = bound (token_at text) (λ token. nested Operand token.1 >>= λ operand.
    Some (expr.Unary op operand.0, operand.1)) e left h in
    let c = bound (nested Operand b.rest) (λ operand.
    Some (expr.Unary op operand.0, operand.1)) e left b.second in
    let made : expr.Unary op c.item ≡ e = value_is c.second in
    let behind : c.rest ≡ left = left_is c.second in
    same_given (suc m) unary_level
    (node_front m unary_level (expr.Unary op c.item) (Expr-F.Unary op c.item)
    (out_unary op c.item) refl
    (then_front (prefix_takes op text b.item b.rest f b.first)
    (sound Operand b.rest c.item c.rest c.first))) made behind

unprefixed_takes : (m : ℕ) (nested : Nested) → Sound m nested → (n : ℕ) (o : Option Part)
    (text : List Mark) (e : Expr) (left : List Mark)
    → front_part text ≡ o
    → unprefixed_by nested n o text ≡ Some (e, left)
    → IsFront (ExprWithin (suc m) unary_level e) text left
unprefixed_takes m nested sound n (Some (part.Opening pair.Parentheses)) text e left f h =
    opened_takes m nested sound text e left h
unprefixed_takes m nested sound n (Some part.Word) text e left f h =
    as_unary (suc m) e (named_takes m n text e left h)
unprefixed_takes m nested sound n (Some part.Sealed) text e left f h =
    as_unary (suc m) e (named_takes m n text e left h)
unprefixed_takes m nested sound n (Some part.Literal) text e left f h =
    as_unary (suc m) e (literal_takes m text e left h)
unprefixed_takes m nested sound n (Some (part.Primitive p)) text e left f h =
    as_unary (suc m) e (primitive_takes m n p text e left f h)
unprefixed_takes m nested sound n (Some part.Void) text e left f h =
    as_unary (suc m) e (void_takes m text e left f h)
unprefixed_takes m nested sound n None text e left f h = absurd cc
unprefixed_takes m nested sound n (Some p) text e left f h = absurd cc

unary_by_takes : (m : ℕ) (nested : Nested) → Sound m nested → (n : ℕ) (o : Option UnOp)
    (text : List Mark) (e : Expr) (left : List Mark)
    → prefix_of (front_part text) ≡ o
    → unary_by nested n text o ≡ Some (e, left)
    → IsFront (ExprWithin (suc m) unary_level e) text left
unfolding unprefixed_over
unary_by_takes m nested sound n (Some op) text e left f h =
    prefixed_takes m nested sound op text e left f h
unary_by_takes m nested sound n None text e left f h =
    unprefixed_takes m nested sound n (front_part text) text e left refl h

unary_takes : (m : ℕ) (nested : Nested) → Sound m nested → (n : ℕ) (text : List Mark) (e : Expr)
    (left : List Mark) → unary_over nested n text ≡ Some (e, left)
    → IsFront (ExprWithin (suc m) unary_level e) text left
unfolding unary_over
unary_takes m nested sound n text e left h =
    unary_by_takes m nested sound n (prefix_of (front_part text)) text e left refl h

-- ---- binary operators

pub level_sum : (op : BinOp) → operator_level op + looseness op ≡ 11
level_sum binary.OrOr = refl
level_sum binary.AndAnd = refl
level_sum binary.Or = refl
level_sum binary.Xor = refl
level_sum binary.And = refl
level_sum binary.Equal = refl
level_sum binary.NotEqual = refl
level_sum binary.Less = refl
level_sum binary.LessEqual = refl
level_sum binary.Greater = refl
level_sum binary.GreaterEqual = refl
level_sum binary.ShiftLeft = refl
level_sum binary.ShiftRight = refl
level_sum binary.ShiftRightUnsigned = refl
level_sum binary.Plus = refl
level_sum binary.Minus = refl
level_sum binary.Star = refl
level_sum binary.Slash = refl
level_sum binary.Percent = refl

link_by : (O : ℕ → Expr → Line) (level k : ℕ) (operand : List Mark → Read Expr)
    → level + suc k ≡ 11
    → ((text : List Mark) (e : Expr) (left : List Mark) → operand text ≡ Some (e, left)
    → IsFront (O (suc level) e) text left)
    → (op : BinOp) (text mid : List Mark) (l : Link) (left : List Mark) (b : Bool)
    → operator_at text ≡ Some (op, mid)
    → (looseness op == suc k) ≡ b
    → (if b then (operand mid >>= λ right.
    found (roll-Link (record { op = op; right = right.0 })) right.1) else None) ≡ Some (l, left)
    → IsFront (LinkLine O level (out-Link l)) text left
link_by O level k operand sum sound op text mid l left false o t h = absurd cc
link_by O level k operand sum sound op text mid l left true o t h =
    let b = bound (operand mid) (λ right.
    found (roll-Link (record { op = op; right = right.0 })) right.1) l left h in
    let made : roll-Link (record { op = op; right = b.item }) ≡ l = value_is b.second in
    let behind : b.rest ≡ left = left_is b.second in
    let layer : Link-F Expr Link = record { op = op; right = b.item } in
    let is : out-Link l ≡ layer = sym (ap out-Link made) ∙ out-roll-Link layer in
    let loose : looseness op ≡ suc k = eqb-true (looseness op) (suc k) t in
    let all = level_sum op in
    let of_level : operator_level op ≡ level = omega arith in
    let x = then_front (operator_takes text op mid o) (sound mid b.item b.rest b.first) in
    let whole : IsFront (LinkLine O level layer) text b.rest = record {
      front = x.front;
      whole = x.whole;
      spelled = (of_level, x.spelled);
    } in
    subst (λ (r : List Mark). IsFront (LinkLine O level (out-Link l)) text r) behind
    (subst (λ (o : Link-F Expr Link). IsFront (LinkLine O level o) text b.rest) (sym is) whole)

link_takes : (O : ℕ → Expr → Line) (level k : ℕ) (operand : List Mark → Read Expr)
    → level + suc k ≡ 11
    → ((text : List Mark) (e : Expr) (left : List Mark) → operand text ≡ Some (e, left)
    → IsFront (O (suc level) e) text left)
    → (text : List Mark) (l : Link) (left : List Mark)
    → link_over operand k text ≡ Some (l, left)
    → IsFront (LinkLine O level (out-Link l)) text left
unfolding link_over
link_takes O level k operand sum sound text l left h =
    let b = bound (operator_at text) (λ op. if looseness op.0 == suc k then
    (operand op.1 >>= λ right.
    found (roll-Link (record { op = op.0; right = right.0 })) right.1) else None) l left h in
    link_by O level k operand sum sound b.item text b.rest l left (looseness b.item == suc k)
    b.first refl b.second

-- the first operand, and the links behind it
chain_front : (n level : ℕ) (first : Expr) (links : List Link) {text mid left : List Mark}
    → level ≤ unary_level
    → IsFront (ExprWithin n (suc level) first) text mid
    → IsFront (Row (λ l. LinkLine (ExprWithin n) level (out-Link l)) links) mid left
    → IsFront (ExprWithin (suc n) level (chain_of first links)) text left
chain_front n level first [] {text} le x y =
    let h : level ≤ suc level = omega arith in
    subst (λ (l : List Mark). IsFront (ExprWithin (suc n) level first) text l) (nothing_left y)
    (front_as (λ t z. looser (suc n) level (suc level) first t h
    (within_more n (suc level) first t z)) x)
chain_front n level first (l ∷ links) {text} {mid} {left} le x y =
    let is : operator_level (out-Link l).op ≡ level = y.spelled.before.0 in
    let whole = then_front x y in
    node_front n level (expr.Chain first (l ∷ links)) (Expr-F.Chain first (l ∷ links))
    (out_chain first (l ∷ links))
    (ap (nat_le level) is ∙ le-leb level level (omega arith))
    (subst (λ (v : ℕ). IsFront (ExprWithin n (suc v) first
    ⨾ Row (λ k. LinkLine (ExprWithin n) v (out-Link k)) (l ∷ links)) text left) (sym is) whole)

-- nodes inside each other, down to these operators
abbrev pub deep : ℕ → ℕ → ℕ
deep m zero = suc m
deep m (suc k) = suc (deep m k)

chain_takes : (m : ℕ) (nested : Nested) → Sound m nested → (n k level : ℕ) → level + k ≡ 11
    → (text : List Mark) (e : Expr) (left : List Mark)
    → chain_over nested n k text ≡ Some (e, left)
    → IsFront (ExprWithin (deep m k) level e) text left
unfolding chain_over
chain_takes m nested sound n zero level sum text e left h =
    let is : unary_level ≡ level = omega arith in
    subst (λ (v : ℕ). IsFront (ExprWithin (suc m) v e) text left) is
    (unary_takes m nested sound n text e left h)
chain_takes m nested sound n (suc k) level sum text e left h =
    let b = bound (chain_over nested n k text) (λ first.
    let links = many (link_over (chain_over nested n k) k) n first.1 in
    Some (chain_of first.0 links.0, links.1)) e left h in
    let links = many (link_over (chain_over nested n k) k) n b.rest in
    let made : chain_of b.item links.0 ≡ e = value_is b.second in
    let behind : links.1 ≡ left = left_is b.second in
    let tighter : suc level + k ≡ 11 = omega arith in
    let le : level ≤ unary_level = omega arith in
    let operand = chain_takes m nested sound n k (suc level) tighter in
    same_given (suc (deep m k)) level
    (chain_front (deep m k) level b.item links.0 le (operand text b.item b.rest b.first)
    (many_takes (link_over (chain_over nested n k) k)
    (λ l. LinkLine (ExprWithin (deep m k)) level (out-Link l))
    (link_takes (ExprWithin (deep m k)) level k (chain_over nested n k) sum operand) n b.rest))
    made behind

-- ---- conditionals

rise : (m k level : ℕ) (e : Expr) (text : List Mark) → ExprWithin m level e text
    → ExprWithin (deep m k) level e text
rise m zero level e text x = within_more m level e text x
rise m (suc k) level e text x = within_more (deep m k) level e text (rise m k level e text x)

chosen_takes : (m : ℕ) (nested : Nested) → Sound m nested → (test : Expr)
    (text mid : List Mark) (e : Expr) (left : List Mark)
    → IsFront (ExprWithin (deep m 10) 1 test) text mid
    → chosen_over nested test mid ≡ Some (e, left)
    → IsFront (ExprWithin (suc (deep m 10)) conditional e) text left
unfolding chosen_over
chosen_takes m nested sound test text mid e left x h =
    let b = bound (sign_at sign.Question mid) (λ question. nested Whole question.1 >>= λ chosen.
    sign_at sign.Colon chosen.1 >>= λ colon. nested Whole colon.1 >>= λ other.
    found (expr.Cond test chosen.0 other.0) other.1) e left h in
    let c = bound (nested Whole b.rest) (λ chosen.
    sign_at sign.Colon chosen.1 >>= λ colon. nested Whole colon.1 >>= λ other.
    found (expr.Cond test chosen.0 other.0) other.1) e left b.second in
    let d = bound (sign_at sign.Colon c.rest) (λ colon. nested Whole colon.1 >>= λ other.
    found (expr.Cond test c.item other.0) other.1) e left c.second in
    let f = bound (nested Whole d.rest) (λ other.
    found (expr.Cond test c.item other.0) other.1) e left d.second in
    let made : expr.Cond test c.item f.item ≡ e = value_is f.second in
    let behind : f.rest ≡ left = left_is f.second in
    same_given (suc (deep m 10)) conditional
    (node_front (deep m 10) conditional (expr.Cond test c.item f.item)
    (Expr-F.Cond test c.item f.item) (out_conditional test c.item f.item) refl
    (then_front x
    (then_front (sign_takes sign.Question mid b.item b.rest b.first)
    (then_front (front_as (rise m 10 conditional c.item)
    (sound Whole b.rest c.item c.rest c.first))
    (then_front (sign_takes sign.Colon c.rest d.item d.rest d.first)
    (front_as (rise m 10 conditional f.item)
    (sound Whole d.rest f.item f.rest f.first))))))) made behind

tested_takes : (m : ℕ) (nested : Nested) → Sound m nested → (test : Expr) (b : Bool)
    (text mid : List Mark) (e : Expr) (left : List Mark)
    → IsFront (ExprWithin (deep m 10) 1 test) text mid
    → (if b then chosen_over nested test mid else Some (test, mid)) ≡ Some (e, left)
    → IsFront (ExprWithin (suc (deep m 10)) conditional e) text left
tested_takes m nested sound test true text mid e left x h =
    chosen_takes m nested sound test text mid e left x h
tested_takes m nested sound test false text mid e left x h =
    let le : 0 ≤ 1 = omega arith in
    same_given (suc (deep m 10)) conditional
    (front_as (λ t y. looser (suc (deep m 10)) conditional 1 test t le
    (within_more (deep m 10) 1 test t y)) x) (value_is h) (left_is h)

pub conditional_takes : (m : ℕ) (nested : Nested) → Sound m nested → (n : ℕ) (text : List Mark)
    (e : Expr) (left : List Mark) → conditional_over nested n text ≡ Some (e, left)
    → IsFront (ExprWithin (suc (deep m 10)) conditional e) text left
unfolding conditional_over
conditional_takes m nested sound n text e left h =
    let b = bound (chain_over nested n 10 text) (λ test.
    if comes sign.Question test.1 then chosen_over nested test.0 test.1 else Some test) e left h in
    tested_takes m nested sound b.item (comes sign.Question b.rest) text b.rest e left
    (chain_takes m nested sound n 10 1 refl text b.item b.rest b.first) b.second

-- ---- expressions

abbrev pub bound_of : ℕ → ℕ
bound_of zero = 0
bound_of (suc n) = suc (deep (bound_of n) 10)

pub nested_takes : (n : ℕ) → Sound (bound_of n) (nested_at n)
unfolding nested_at
nested_takes zero place text e left h = absurd cc
nested_takes (suc n) Whole text e left h =
    conditional_takes (bound_of n) (nested_at n) (nested_takes n) n text e left h
nested_takes (suc n) Operand text e left h =
    front_as (λ t y. within_more (deep (bound_of n) 10) unary_level e t
    (raise (bound_of n) 10 t y))
    (unary_takes (bound_of n) (nested_at n) (nested_takes n) n text e left h)
  where
    raise : (m k : ℕ) (t : List Mark) → ExprWithin (suc m) unary_level e t
        → ExprWithin (deep m k) unary_level e t
    raise m zero t y = y
    raise m (suc k) t y = within_more (deep m k) unary_level e t (raise m k t y)
