-- What is spelled as an expression is read, where nothing goes on with it.
use Rattle.std.proofs.Common.{◌≡◌, refl, sym, ◌∙◌, ap, subst, ℕ, zero, suc, ◌+◌, ◌≤◌, ◌<◌, ◌==◌}
use Rattle.std.proofs.Common.{arith, Bool, true, false, List, [], ◌∷◌, ◌++◌, length, map}
use Rattle.std.proofs.Common.{append_assoc, Option, Some, None, inl, inr}
use Rattle.std.specs.Prelude.{nat_le, if◌then◌else◌, ◌&&◌, ◌||◌}
use Rattle.std.proofs.lemmas.Bool.{leb-true, le-leb, leb-false, eq-eqb, eqb-true, false≢true}
use Rattle.java_ast.specs.declared.types.TypeTree.{TypeTree, out-TypeTree}
use Rattle.java_ast.specs.declared.types.TypeTree.TheVariants as tree
use Rattle.java_ast.specs.declared.types.NamePart.{NamePart}
use Rattle.java_ast.specs.declared.types.Primitive.{Primitive}
use Rattle.java_ast.specs.declared.types.ArgTree.TheOpen.{TypeTree-F}
use Rattle.java_ast.specs.declared.types.ArgTree.TheViews.{roll-TypeTree, roll-out-TypeTree}
use Rattle.java_ast.specs.declared.expression.Expr.{Expr, out-Expr}
use Rattle.java_ast.specs.declared.expression.Expr.TheVariants as expr
use Rattle.java_ast.specs.declared.expression.Expr.TheOpen.{Expr-F}
use Rattle.java_ast.specs.declared.expression.Expr.TheViews.{roll-Expr, roll-out-Expr}
use Rattle.java_ast.specs.declared.expression.Expr.TheViews.{roll-Link, roll-out-Link}
use Rattle.java_ast.specs.declared.expression.Link.{Link, out-Link}
use Rattle.java_ast.specs.declared.expression.BinOp.{BinOp}
use Rattle.java_ast.specs.declared.expression.UnOp.{UnOp}
use Rattle.java_grammar.specs.declared.part.Part.{Part}
use Rattle.java_grammar.specs.declared.part.Part.TheVariants as part
use Rattle.java_grammar.specs.declared.part.Pair.TheVariants as pair
use Rattle.java_grammar.specs.Parts.{part_of}
use Rattle.java_grammar.specs.Tests.{is_word}
use Rattle.java_grammar.specs.Marks.{Mark, Single, Angle, Group, Semi}
use Rattle.java_grammar.specs.Words.{◌⨾◌, Row, Is}
use Rattle.java_grammar.specs.Reading.{front_part, behind_mark}
use Rattle.java_grammar.specs.Expressions.{conditional, unary_level, operator_level, TypeLayer}
use Rattle.java_grammar.specs.Expressions.{Prefix, InParentheses, CastLine}
use Rattle.java_grammar.specs.Expressions.{LinkLine, NodeLine, level_of}
use Rattle.java_grammar.specs.Expressions.{ExprWithin, is_sign, begins_with_sign}
use Rattle.java_grammar.specs.declared.sign.Sign.TheVariants as sign
use Rattle.java_grammar.specs.Signs.{sign_is}
use Rattle.type_expr_parser.specs.Reading.{Read, found, ◌>>=◌, many, many_count}
use Rattle.type_expr_parser.specs.Reading.{front_line}
use Rattle.type_expr_parser.specs.Reading.{comes_by, comes, sign_at, operator_at}
use Rattle.type_expr_parser.specs.Names.{bracket_pair_at, plain_part, plain_type, with_dims}
use Rattle.type_expr_parser.specs.Literals.{class_literal_at, primitive_class_at}
use Rattle.type_expr_parser.specs.Levels.{looseness}
use Rattle.type_expr_parser.specs.Expressions.{Place, Whole, Operand, Nested, is_word_part}
use Rattle.type_expr_parser.specs.Expressions.{begins_unsigned, closed_by, closed_primitive}
use Rattle.type_expr_parser.specs.Expressions.{cast_over, primitive_cast_over, named_by}
use Rattle.type_expr_parser.specs.Expressions.{behind_name_over, grouped_over, opened_by}
use Rattle.type_expr_parser.specs.Expressions.{opened_over, prefixed_over}
use Rattle.type_expr_parser.specs.Expressions.{unary_by, unary_over, link_over, chain_of}
use Rattle.type_expr_parser.specs.Expressions.{chain_over, chosen_over, conditional_over}
use Rattle.type_expr_parser.specs.Expressions.{nested_at}
use Rattle.type_expr_parser.proofs.Lines.{bind_is, regroup, both_lengths, none_come, Rows}
use Rattle.type_expr_parser.proofs.Lines.{many_again}
use Rattle.type_expr_parser.proofs.TokenLaws.{sign_again, sign_missing, operator_again}
use Rattle.type_expr_parser.proofs.NameLaws.{type_words}
use Rattle.type_expr_parser.proofs.Grammar.{of_node, of_group}
use Rattle.type_expr_parser.proofs.TokenKinds.{part_read, prefix_read, IsWordPart, plain, «sealed»}
use Rattle.type_expr_parser.proofs.ExprTakes.{count_is, out_name}
use Rattle.type_expr_parser.proofs.ExprSound.{place_level, level_sum}
use Rattle.type_expr_parser.proofs.Ends.{begins_operand, Begins, begins, begins_some}
use Rattle.type_expr_parser.specs.Follows.{Ends}
use Rattle.type_expr_parser.proofs.Ends.{tighter_ends, ends_at_parenthesis, ends_at_colon}
use Rattle.type_expr_parser.proofs.Ends.{ends_at_question, ends_at_operator, operator_some}
use Rattle.type_expr_parser.proofs.Ends.{loosest, least_loose}
use Rattle.type_expr_parser.proofs.ExprAgain.{place_looseness, Complete, unary_is, comes_this}
use Rattle.type_expr_parser.proofs.ExprAgain.{pair_missing, first_word, type_again}
use Rattle.type_expr_parser.proofs.ExprAgain.{literal_again, name_again}

-- ---- parentheses

open_paren : (nested : Nested) (n : ℕ) (text left : List Mark) (r : Read Expr)
    → Is (part.Opening pair.Parentheses) text
    → opened_by nested (closed_primitive left) left ≡ r
    → unary_over nested n (text ++ left) ≡ r
unfolding opened_over
open_paren nested n text left r x h =
    let f = part_read (part.Opening pair.Parentheses) text left x in
    unary_is nested n (part.Opening pair.Parentheses) (text ++ left) r f.3 refl
    (bind_is (λ opening. opened_by nested (closed_primitive opening.1) opening.1)
    (sign_again sign.LeftParenthesis text left x) h)

none_or : {X : Type 0} (o : Option X) → ((x : X) → o ≡ Some x → ⊥) → o ≡ None
none_or None absent = refl
none_or (Some x) absent = absurd (absent x refl)

-- an expression in parentheses, behind `(`
group_again : (most : ℕ) (nested : Nested) → Complete most nested → (n m : ℕ) (e : Expr)
    (text left : List Mark)
    → InParentheses (ExprWithin m conditional e) text → length text ≤ suc most
    → begins_unsigned (front_part left) ≡ false
    → unary_over nested n (text ++ left) ≡ Some (e, left)
unfolding grouped_over
group_again most nested law n m e text left x few operand =
    let opening = x.before in
    let inner = x.after in
    let closing = inner.after in
    let behind = inner.rest ++ left in
    let a = ap length opening.whole in
    let l = both_lengths x in
    let k = both_lengths inner in
    let fits : length inner.front ≤ most = omega arith in
    let r = law.reads Whole m e inner.front behind inner.before fits
    (ends_at_parenthesis 11 inner.rest left closing) in
    let not_closed : closed_primitive (inner.front ++ behind) ≡ None =
    none_or (closed_primitive (inner.front ++ behind))
    (λ p c. let f = sym (law.refuses p (inner.front ++ behind) c) ∙ r in absurd (cc)) in
    let word = is_word_part (front_part (inner.front ++ behind)) in
    ap (unary_over nested n) (regroup x left)
    ∙ open_paren nested n x.front (x.rest ++ left) _ opening
    (ap (λ l. opened_by nested (closed_primitive l) l) (regroup inner left)
    ∙ ap (λ o. opened_by nested o (inner.front ++ behind)) not_closed
    ∙ bind_is (λ i. sign_at sign.RightParenthesis i.1 >>= λ c.
    if word && begins_unsigned (front_part c.1)
    then behind_name_over nested (front_line (inner.front ++ behind)) i.0 c.1
    else Some (i.0, c.1)) r
    (bind_is (λ c. if word && begins_unsigned (front_part c.1)
    then behind_name_over nested (front_line (inner.front ++ behind)) e c.1
    else Some (e, c.1)) (sign_again sign.RightParenthesis inner.rest left closing)
    (by word (begins_unsigned (front_part left)) operand
    (behind_name_over nested (front_line (inner.front ++ behind)) e left))))
  where
    by : (w u : Bool) → u ≡ false → (r : Read Expr)
        → (if w && u then r else Some (e, left)) ≡ Some (e, left)
    by true true h r = absurd (false≢true (sym h))
    by true false h r = refl
    by false u h r = refl

-- ---- casts

cast_again : (most : ℕ) (nested : Nested) → Complete most nested → (m : ℕ) (type : TypeTree)
    (e : Expr) (text left : List Mark)
    → ExprWithin m unary_level e text → length text ≤ most → Ends 0 left
    → cast_over nested type (text ++ left) ≡ Some (expr.Cast type e, left)
unfolding cast_over
cast_again most nested law m type e text left x few ends =
    bind_is (λ operand. Some (expr.Cast type operand.0, operand.1))
    (law.reads Operand m e text left x few ends) refl

primitive_again : (most : ℕ) (nested : Nested) → Complete most nested → (n m : ℕ) (p : Primitive)
    (e : Expr) (text left : List Mark)
    → (InParentheses (Is (part.Primitive p)) ⨾ ExprWithin m unary_level e) text
    → length text ≤ suc most → Ends 0 left
    → unary_over nested n (text ++ left) ≡ Some (expr.Cast (tree.Primitive p) e, left)
unfolding primitive_cast_over
primitive_again most nested law n m p e text left x few ends =
    let group = x.before in
    let opening = group.before in
    let inner = group.after in
    let closing = inner.after in
    let operand = x.rest ++ left in
    let behind = inner.rest ++ operand in
    let a = ap length opening.whole in
    let l = both_lengths x in
    let k = both_lengths group in
    let fits : length x.rest ≤ most = omega arith in
    let r = part_read (part.Primitive p) inner.front behind inner.before in
    let ahead : behind_mark (inner.front ++ behind) ≡ behind =
    ap (λ l. behind_mark (l ++ behind)) r.1 in
    let closed : closed_primitive (inner.front ++ behind) ≡ Some p =
    ap (λ f. closed_by f (behind_mark (inner.front ++ behind))) r.3
    ∙ ap (λ l. if comes sign.RightParenthesis l then Some p else None) ahead
    ∙ ap (λ b. if b then Some p else None)
    (comes_this sign.RightParenthesis inner.rest operand closing) in
    let whole : text ++ left ≡ group.front ++ ((inner.front ++ inner.rest) ++ operand) =
    regroup x left ∙ regroup group operand
    ∙ ap (λ l. group.front ++ (l ++ operand)) inner.whole in
    ap (unary_over nested n) whole
    ∙ open_paren nested n group.front ((inner.front ++ inner.rest) ++ operand) _ opening
    (ap (λ l. opened_by nested (closed_primitive l) l)
    (append_assoc inner.front inner.rest operand)
    ∙ ap (λ o. opened_by nested o (inner.front ++ behind)) closed
    ∙ bind_is (λ token. sign_at sign.RightParenthesis token.1 >>= λ c.
    cast_over nested (tree.Primitive p) c.1) r.2
    (bind_is (λ c. cast_over nested (tree.Primitive p) c.1)
    (sign_again sign.RightParenthesis inner.rest operand closing)
    (cast_again most nested law m (tree.Primitive p) e x.rest left x.after fits ends)))

-- what begins an operand without a sign
unsigned_part : (p : Part) → begins_operand p ≡ true → is_sign p ≡ false
    → begins_unsigned (Some p) ≡ true
unsigned_part p e h = ap (λ b. b || begins_unsigned (Some p)) (sym h) ∙ e

unsigned_front : (text left : List Mark) → Begins text → begins_with_sign text ≡ false
    → begins_unsigned (front_part (text ++ left)) ≡ true
unsigned_front text left x e =
    ap (λ l. begins_unsigned (front_part (l ++ left))) x.whole
    ∙ unsigned_part (part_of x.token) x.begins (sym (ap begins_with_sign x.whole) ∙ e)

word_is_word : (p : Part) → IsWordPart p → is_word p ≡ true
word_is_word p plain = refl
word_is_word p «sealed» = refl

word_not_closed : (p : Part) (behind : List Mark) → IsWordPart p → closed_by (Some p) behind ≡ None
word_not_closed p behind plain = refl
word_not_closed p behind «sealed» = refl

named_again : (most : ℕ) (nested : Nested) → Complete most nested → (n m line : ℕ)
    (parts : List NamePart) (e : Expr) (text left : List Mark)
    → CastLine (ExprWithin m unary_level e) (TypeTree-F.Named line parts) text
    → length text ≤ suc most → Ends 0 left
    → unary_over nested n (text ++ left) ≡ Some (expr.Cast (tree.Named line parts) e, left)
unfolding grouped_over behind_name_over
named_again most nested law n m line parts e text left x few ends =
    let group = x.before in
    let opening = group.before in
    let inner = group.after in
    let closing = inner.after in
    let operand = x.rest ++ left in
    let behind = inner.rest ++ operand in
    let a = ap length opening.whole in
    let l = both_lengths x in
    let k = both_lengths group in
    let j = both_lengths inner in
    let fits : length x.rest ≤ most = omega arith in
    let short : length inner.front ≤ most = omega arith in
    let w = type_words line parts inner.front inner.before in
    let f = first_word w.words inner.front behind w.named in
    let name = expr.Name w.words in
    let within : ExprWithin 1 conditional name inner.front =
    of_node 0 conditional name (Expr-F.Name w.words) inner.front (out_name w.words) refl w.named in
    let r = law.reads Whole 1 name inner.front behind within short
    (ends_at_parenthesis 11 inner.rest operand closing) in
    let of_line = front_line (inner.front ++ behind) in
    let type = plain_type of_line w.words in
    let of : type ≡ tree.Named line parts =
    ap (λ v. tree.Named v (map plain_part w.words)) (w.on behind)
    ∙ ap (λ ps. tree.Named line ps) (sym w.are) in
    let not_closed : closed_primitive (inner.front ++ behind) ≡ None =
    ap (λ o. closed_by o (behind_mark (inner.front ++ behind))) f.2
    ∙ word_not_closed f.0 (behind_mark (inner.front ++ behind)) f.1 in
    let word : is_word_part (front_part (inner.front ++ behind)) ≡ true =
    ap is_word_part f.2 ∙ word_is_word f.0 f.1 in
    let begun : begins_unsigned (front_part operand) ≡ true =
    unsigned_front x.rest left (begins m unary_level e x.rest x.after.1) x.after.0 in
    let whole : text ++ left ≡ group.front ++ ((inner.front ++ inner.rest) ++ operand) =
    regroup x left ∙ regroup group operand
    ∙ ap (λ l. group.front ++ (l ++ operand)) inner.whole in
    let cast = cast_again most nested law m type e x.rest left x.after.1 fits ends in
    ap (unary_over nested n) whole
    ∙ open_paren nested n group.front ((inner.front ++ inner.rest) ++ operand) _ opening
    (ap (λ l. opened_by nested (closed_primitive l) l)
    (append_assoc inner.front inner.rest operand)
    ∙ ap (λ o. opened_by nested o (inner.front ++ behind)) not_closed
    ∙ bind_is (λ i. sign_at sign.RightParenthesis i.1 >>= λ c.
    if is_word_part (front_part (inner.front ++ behind)) && begins_unsigned (front_part c.1)
    then behind_name_over nested of_line i.0 c.1 else Some (i.0, c.1)) r
    (bind_is (λ c.
    if is_word_part (front_part (inner.front ++ behind)) && begins_unsigned (front_part c.1)
    then behind_name_over nested of_line name c.1 else Some (name, c.1))
    (sign_again sign.RightParenthesis inner.rest operand closing)
    (ap (λ b. if b && begins_unsigned (front_part operand)
    then behind_name_over nested of_line name operand else Some (name, operand)) word
    ∙ ap (λ b. if b then behind_name_over nested of_line name operand else Some (name, operand))
    begun
    ∙ ap (λ node. named_by nested of_line name node operand) (out_name w.words)
    ∙ cast ∙ ap (λ t. Some (expr.Cast t e, left)) of)))

-- ---- expressions that begin with no binary operator

prefixed_again : (most : ℕ) (nested : Nested) → Complete most nested → (n m : ℕ) (op : UnOp)
    (e : Expr) (text left : List Mark)
    → (Prefix op ⨾ ExprWithin m unary_level e) text → length text ≤ suc most → Ends 0 left
    → unary_over nested n (text ++ left) ≡ Some (expr.Unary op e, left)
unfolding unary_over prefixed_over
prefixed_again most nested law n m op e text left x few ends =
    let r = prefix_read op x.front (x.rest ++ left) x.before in
    let a = ap length r.1 in
    let l = both_lengths x in
    let fits : length x.rest ≤ most = omega arith in
    let behind = x.rest ++ left in
    ap (unary_over nested n) (regroup x left)
    ∙ ap (unary_by nested n (x.front ++ behind)) r.3
    ∙ bind_is (λ token. nested Operand token.1 >>= λ operand.
    Some (expr.Unary op operand.0, operand.1)) r.2
    (bind_is (λ operand. Some (expr.Unary op operand.0, operand.1))
    (law.reads Operand m e x.rest left x.after fits ends) refl)

cast_node : (most : ℕ) (nested : Nested) → Complete most nested → (n m : ℕ) (type : TypeTree)
    (layer : TypeLayer) (e : Expr) (text left : List Mark)
    → roll-TypeTree layer ≡ type
    → CastLine (ExprWithin m unary_level e) layer text → length text ≤ suc most → Ends 0 left
    → unary_over nested n (text ++ left) ≡ Some (expr.Cast type e, left)
cast_node most nested law n m type TypeTree-F.Void e text left is x few ends = absurd x
cast_node most nested law n m type (TypeTree-F.Primitive p) e text left is x few ends =
    primitive_again most nested law n m p e text left x few ends
    ∙ ap (λ t. Some (expr.Cast t e, left)) (sym (tree.rolls-Primitive p) ∙ is)
cast_node most nested law n m type (TypeTree-F.Named line parts) e text left is x few ends =
    named_again most nested law n m line parts e text left x few ends
    ∙ ap (λ t. Some (expr.Cast t e, left)) (sym (tree.rolls-Named line parts) ∙ is)
cast_node most nested law n m type (TypeTree-F.Array u d) e text left is x few ends = absurd x

class_node : (nested : Nested) (n : ℕ) (type : TypeTree) (text left : List Mark)
    → NodeLine (λ level e t. ⊥) (Expr-F.ClassLit type) text → length text ≤ suc n
    → unary_over nested n (text ++ left) ≡ Some (expr.ClassLit type, left)
class_node nested n type text left x few =
    let l = both_lengths x in
    let fits : length x.front ≤ suc n = omega arith in
    ap (unary_over nested n) (regroup x left)
    ∙ type_again nested n type (out-TypeTree type) x.front x.rest left (roll-out-TypeTree type)
    x.before x.after fits

too_loose : (op : BinOp) → nat_le unary_level (operator_level op) ≡ true → ⊥
too_loose op e =
    let a = leb-true 11 (operator_level op) e in
    let b = level_sum op in
    let c = least_loose op in
    absurd (omega arith)

unary_node : (nested : Nested) (n : ℕ) → Complete n nested → (m : ℕ) (e : Expr)
    (node : Expr-F Expr Link) (text left : List Mark)
    → roll-Expr node ≡ e → nat_le unary_level (level_of node) ≡ true
    → NodeLine (ExprWithin m) node text → length text ≤ suc n → Ends 0 left
    → unary_over nested n (text ++ left) ≡ Some (e, left)
unary_node nested n law m e (Expr-F.Lit l) text left is le x few ends =
    literal_again nested n l text left x ∙ ap (λ v. Some (v, left)) (sym (expr.rolls-Lit l) ∙ is)
unary_node nested n law m e (Expr-F.Name words) text left is le x few ends =
    name_again nested n words text left x few ends.goes
    ∙ ap (λ v. Some (v, left)) (sym (expr.rolls-Name words) ∙ is)
unary_node nested n law m e (Expr-F.ClassLit type) text left is le x few ends =
    class_node nested n type text left x few
    ∙ ap (λ v. Some (v, left)) (sym (expr.rolls-ClassLit type) ∙ is)
unary_node nested n law m e (Expr-F.Unary op operand) text left is le x few ends =
    prefixed_again n nested law n m op operand text left x few ends
    ∙ ap (λ v. Some (v, left)) (sym (expr.rolls-Unary op operand) ∙ is)
unary_node nested n law m e (Expr-F.Chain first []) text left is le x few ends = absurd x
unary_node nested n law m e (Expr-F.Chain first (l ∷ rest)) text left is le x few ends =
    absurd (too_loose (out-Link l).op le)
unary_node nested n law m e (Expr-F.Cond test chosen other) text left is le x few ends =
    absurd (false≢true le)
unary_node nested n law m e (Expr-F.Cast type operand) text left is le x few ends =
    cast_node n nested law n m type (out-TypeTree type) operand text left (roll-out-TypeTree type)
    x few ends
    ∙ ap (λ v. Some (v, left)) (sym (expr.rolls-Cast type operand) ∙ is)

unary_again : (nested : Nested) (n : ℕ) → Complete n nested → (m : ℕ) (e : Expr)
    (text left : List Mark)
    → ExprWithin m unary_level e text → length text ≤ suc n → Ends 0 left
    → unary_over nested n (text ++ left) ≡ Some (e, left)
unfolding ExprWithin
unary_again nested n law zero e text left x few ends = absurd x
unary_again nested n law (suc m) e text left (inl x) few ends =
    unary_node nested n law m e (out-Expr e) text left (roll-out-Expr e) x.0 x.1 few ends
unary_again nested n law (suc m) e text left (inr x) few ends =
    group_again n nested law n m e text left x few ends.operand

-- ---- binary operators

link_missing : (operand : List Mark → Read Expr) (k : ℕ) (left : List Mark) → Ends (suc k) left
    → link_over operand k left ≡ None
unfolding link_over
link_missing operand k left ends = by (operator_at left) refl
  where
    differs : (op : BinOp) (b : Bool) → (looseness op == suc k) ≡ b → suc k < looseness op
        → (r : Read Link) → (if b then r else None) ≡ None
    differs op true e h r =
        let f = eqb-true (looseness op) (suc k) e in absurd (omega arith)
    differs op false e h r = refl

    by : (r : Read BinOp) → operator_at left ≡ r
        → (r >>= λ op. if looseness op.0 == suc k then (operand op.1 >>= λ right.
        found (roll-Link (record { op = op.0; right = right.0 })) right.1) else None) ≡ None
    by None e = refl
    by (Some op) e =
        differs op.0 (looseness op.0 == suc k) refl (ends.operator op.0 op.1 e)
        (operand op.1 >>= λ right.
        found (roll-Link (record { op = op.0; right = right.0 })) right.1)

-- without links, an expression of a tighter place
chain_alone : (nested : Nested) (n k : ℕ) (e : Expr) (text left : List Mark)
    → chain_over nested n k (text ++ left) ≡ Some (e, left) → Ends (suc k) left
    → chain_over nested n (suc k) (text ++ left) ≡ Some (e, left)
unfolding chain_over
chain_alone nested n k e text left h ends =
    let operand = chain_over nested n k in
    bind_is (λ first. let links = many (link_over operand k) n first.1 in
    Some (chain_of first.0 links.0, links.1)) h
    (ap (λ (r : List Link × List Mark). Some (chain_of e r.0, r.1))
    (none_come (link_over operand k) n left (link_missing operand k left ends)))

-- how operands of a place are read
abbrev Reads : (List Mark → Read Expr) → ℕ → ℕ → ℕ → Type 0
Reads operand most k level = (m : ℕ) (e : Expr) (text left : List Mark)
    → ExprWithin m level e text → length text ≤ most → Ends k left
    → operand (text ++ left) ≡ Some (e, left)

link_again : (operand : List Mark → Read Expr) (most k level m : ℕ) → level + suc k ≡ 11
    → Reads operand most k (suc level) → (l : Link) (text left : List Mark)
    → LinkLine (ExprWithin m) level (out-Link l) text → length text ≤ most → Ends k left
    → link_over operand k (text ++ left) ≡ Some (l, left)
unfolding link_over
link_again operand most k level m sum reads l text left x few ends =
    let op = (out-Link l).op in
    let right = (out-Link l).right in
    let y = x.1 in
    let all = level_sum op in
    let level_is = x.0 in
    let loose : looseness op ≡ suc k = omega arith in
    let b = both_lengths y in
    let fits : length y.rest ≤ most = omega arith in
    let more : Read Link = (operand (y.rest ++ left) >>= λ r.
    found (roll-Link (record { op = op; right = r.0 })) r.1) in
    ap (link_over operand k) (regroup y left)
    ∙ bind_is (λ o. if looseness o.0 == suc k then (operand o.1 >>= λ r.
    found (roll-Link (record { op = o.0; right = r.0 })) r.1) else None)
    (operator_again op y.front (y.rest ++ left) y.before)
    (ap (λ c. if c then more else None) (eq-eqb (looseness op) (suc k) loose)
    ∙ bind_is (λ r. found (roll-Link (record { op = op; right = r.0 })) r.1)
    (reads m right y.rest left y.after fits ends)
    (ap (λ v. Some (v, left)) (roll-out-Link l)))

link_rows : (operand : List Mark → Read Expr) (most k level m : ℕ) → level + suc k ≡ 11
    → Reads operand most k (suc level)
    → Rows (link_over operand k) (λ l. LinkLine (ExprWithin m) level (out-Link l)) (Ends k) most
link_rows operand most k level m sum reads = record {
  again = λ l text left x few ends.
      link_again operand most k level m sum reads l text left x few ends;
  next = λ l text left x.
      let op = (out-Link l).op in
      let all = level_sum op in
      let level_is = x.0 in
      let loose : k < looseness op = omega arith in
      subst (Ends k) (sym (regroup x.1 left))
      (ends_at_operator k op x.1.front (x.1.rest ++ left) x.1.before loose);
  some = λ l text x.
      let a = operator_some (out-Link l).op x.1.front x.1.before in
      let b = both_lengths x.1 in
      omega arith;
}

-- with links
links_again : (nested : Nested) (n k level m : ℕ) → level + suc k ≡ 11
    → Reads (chain_over nested n k) (suc n) k (suc level)
    → (first : Expr) (links : List Link) (text left : List Mark)
    → (ExprWithin m (suc level) first
    ⨾ Row (λ l. LinkLine (ExprWithin m) level (out-Link l)) links) text
    → length text ≤ suc n → Ends (suc k) left
    → chain_over nested n (suc k) (text ++ left) ≡ Some (chain_of first links, left)
unfolding chain_over
links_again nested n k level m sum reads first links text left x few ends =
    let operand = chain_over nested n k in
    let law = link_rows operand (suc n) k level m sum reads in
    let a = begins_some (begins m (suc level) first x.front x.before) in
    let b = both_lengths x in
    let short : length x.front ≤ suc n = omega arith in
    let fewer : length x.rest ≤ n = omega arith in
    let within : n ≤ suc n = omega arith in
    let j : k ≤ suc k = omega arith in
    let tight = tighter_ends k (suc k) left j ends in
    ap (chain_over nested n (suc k)) (regroup x left)
    ∙ bind_is (λ f. let ls = many (link_over operand k) n f.1 in
    Some (chain_of f.0 ls.0, ls.1))
    (reads m first x.front (x.rest ++ left) x.before short
    (follows law links x.rest left x.after tight))
    (ap (λ (r : List Link × List Mark). Some (chain_of first r.0, r.1))
    (many_again law n links x.rest left x.after fewer within tight
    (link_missing operand k left ends)))
  where
    follows : Rows (link_over (chain_over nested n k) k)
        (λ l. LinkLine (ExprWithin m) level (out-Link l)) (Ends k) (suc n)
        → (ls : List Link) (t : List Mark) (behind : List Mark)
        → Row (λ l. LinkLine (ExprWithin m) level (out-Link l)) ls t
        → Ends k behind → Ends k (t ++ behind)
    follows law [] t behind y f = subst (λ l. Ends k (l ++ behind)) (sym y) f
    follows law (l ∷ ls) t behind y f =
        subst (Ends k) (sym (regroup y behind))
        (law.next l y.front (y.rest ++ behind) y.before)

-- a node of this place: tighter, or a chain of its operators
chain_node : (nested : Nested) (n k level m : ℕ) → level + suc k ≡ 11
    → Reads (chain_over nested n k) (suc n) k (suc level)
    → (e : Expr) (node : Expr-F Expr Link) (text left : List Mark)
    → out-Expr e ≡ node → roll-Expr node ≡ e → nat_le level (level_of node) ≡ true
    → 1 ≤ level
    → NodeLine (ExprWithin m) node text → length text ≤ suc n → Ends (suc k) left
    → chain_over nested n (suc k) (text ++ left) ≡ Some (e, left)
chain_node nested n k level m sum reads e node text left out is le some x few ends =
    by node out is le x
  where
    tighter : (node : Expr-F Expr Link) → out-Expr e ≡ node
        → nat_le (suc level) (level_of node) ≡ true → NodeLine (ExprWithin m) node text
        → chain_over nested n (suc k) (text ++ left) ≡ Some (e, left)
    tighter node out h x =
        let j : k ≤ suc k = omega arith in
        chain_alone nested n k e text left
        (reads (suc m) e text left (of_node m (suc level) e node text out h x) few
        (tighter_ends k (suc k) left j ends)) ends

    of_twelve : nat_le (suc level) 12 ≡ true
    of_twelve = le-leb (suc level) 12 (omega arith)

    of_eleven : nat_le (suc level) 11 ≡ true
    of_eleven = le-leb (suc level) 11 (omega arith)

    at_level : (first : Expr) (l : Link) (rest : List Link) (b : Bool)
        → nat_le (suc level) (operator_level (out-Link l).op) ≡ b
        → out-Expr e ≡ Expr-F.Chain first (l ∷ rest)
        → roll-Expr (Expr-F.Chain first (l ∷ rest)) ≡ e
        → nat_le level (operator_level (out-Link l).op) ≡ true
        → NodeLine (ExprWithin m) (Expr-F.Chain first (l ∷ rest)) text
        → chain_over nested n (suc k) (text ++ left) ≡ Some (e, left)
    at_level first l rest true b out is le x = tighter (Expr-F.Chain first (l ∷ rest)) out b x
    at_level first l rest false b out is le x =
        let op_level = operator_level (out-Link l).op in
        let low = leb-true level op_level le in
        let high = leb-false (suc level) op_level b in
        let same : op_level ≡ level = omega arith in
        links_again nested n k level m sum reads first (l ∷ rest) text left
        (subst (λ (v : ℕ). (ExprWithin m (suc v) first
        ⨾ Row (λ j. LinkLine (ExprWithin m) v (out-Link j)) (l ∷ rest)) text) same x) few ends
        ∙ ap (λ v. Some (v, left)) (sym (expr.rolls-Chain first (l ∷ rest)) ∙ is)

    by : (node : Expr-F Expr Link) → out-Expr e ≡ node → roll-Expr node ≡ e
        → nat_le level (level_of node) ≡ true → NodeLine (ExprWithin m) node text
        → chain_over nested n (suc k) (text ++ left) ≡ Some (e, left)
    by (Expr-F.Lit l) out is le x = tighter (Expr-F.Lit l) out of_twelve x
    by (Expr-F.Name words) out is le x = tighter (Expr-F.Name words) out of_twelve x
    by (Expr-F.ClassLit type) out is le x = tighter (Expr-F.ClassLit type) out of_twelve x
    by (Expr-F.Unary op operand) out is le x = tighter (Expr-F.Unary op operand) out of_eleven x
    by (Expr-F.Cast type operand) out is le x = tighter (Expr-F.Cast type operand) out of_eleven x
    by (Expr-F.Cond test chosen other) out is le x =
        let h = leb-true level 0 le in absurd (omega arith)
    by (Expr-F.Chain first []) out is le x = absurd x
    by (Expr-F.Chain first (l ∷ rest)) out is le x =
        at_level first l rest (nat_le (suc level) (operator_level
        (out-Link l).op)) refl out is le x

pub chain_again : (nested : Nested) (n : ℕ) → Complete n nested → (k level : ℕ) → level + k ≡ 11
    → 1 ≤ level → Reads (chain_over nested n k) (suc n) k level
unfolding ExprWithin chain_over
chain_again nested n law zero level sum some m e text left x few ends =
    let is : level ≡ unary_level = omega arith in
    unary_again nested n law m e text left
    (subst (λ (v : ℕ). ExprWithin m v e text) is x) few ends
chain_again nested n law (suc k) level sum some zero e text left x few ends = absurd x
chain_again nested n law (suc k) level sum some (suc m) e text left (inl x) few ends =
    let up : suc level + k ≡ 11 = omega arith in
    let more : 1 ≤ suc level = omega arith in
    chain_node nested n k level m sum (chain_again nested n law k (suc level) up more) e
    (out-Expr e) text left refl (roll-out-Expr e) x.0 some x.1 few ends
chain_again nested n law (suc k) level sum some (suc m) e text left (inr x) few ends =
    let up : suc level + k ≡ 11 = omega arith in
    let more : 1 ≤ suc level = omega arith in
    let j : k ≤ suc k = omega arith in
    chain_alone nested n k e text left
    (chain_again nested n law k (suc level) up more (suc m) e text left
    (of_group m (suc level) e text x) few (tighter_ends k (suc k) left j ends)) ends

-- ---- conditionals

chosen_again : (nested : Nested) (n m : ℕ) → Complete n nested → (test chosen other : Expr)
    (text left : List Mark)
    → NodeLine (ExprWithin m) (Expr-F.Cond test chosen other) text → length text ≤ suc n
    → Ends 11 left
    → conditional_over nested n (text ++ left) ≡ Some (expr.Cond test chosen other, left)
unfolding conditional_over chosen_over
chosen_again nested n m law test chosen other text left x few ends =
    let a = x.after in
    let b = a.after in
    let c = b.after in
    let d = c.after in
    let lx = both_lengths x in
    let la = both_lengths a in
    let lb = both_lengths b in
    let lc = both_lengths c in
    let q = ap length a.before.whole in
    let some = begins_some (begins m 1 test x.front x.before) in
    let fits_test : length x.front ≤ suc n = omega arith in
    let fits_chosen : length b.front ≤ n = omega arith in
    let fits_other : length c.rest ≤ n = omega arith in
    let behind_colon = c.rest ++ left in
    let behind_chosen = c.front ++ behind_colon in
    let behind_question = b.front ++ behind_chosen in
    let behind_test = a.front ++ behind_question in
    let whole : text ++ left ≡ x.front ++ behind_test =
    regroup x left ∙ ap (λ l. x.front ++ l) (regroup a left
    ∙ ap (λ l. a.front ++ l) (regroup b left
    ∙ ap (λ l. b.front ++ l) (regroup c left))) in
    let ten : 10 ≤ 10 = omega arith in
    let one : 1 ≤ 1 = omega arith in
    let tested = chain_again nested n law 10 1 refl one m test x.front behind_test x.before
    fits_test
    (ends_at_question 10 a.front behind_question ten a.before) in
    ap (conditional_over nested n) whole
    ∙ bind_is (λ t. if comes sign.Question t.1 then chosen_over nested t.0 t.1 else Some t) tested
    (ap (λ v. if v then chosen_over nested test behind_test else Some (test, behind_test))
    (comes_this sign.Question a.front behind_question a.before)
    ∙ bind_is (λ question. nested Whole question.1 >>= λ c.
    sign_at sign.Colon c.1 >>= λ colon. nested Whole colon.1 >>= λ o.
    found (expr.Cond test c.0 o.0) o.1)
    (sign_again sign.Question a.front behind_question a.before)
    (bind_is (λ c. sign_at sign.Colon c.1 >>= λ colon. nested Whole colon.1 >>= λ o.
    found (expr.Cond test c.0 o.0) o.1)
    (law.reads Whole m chosen b.front behind_chosen b.before fits_chosen
    (ends_at_colon 11 c.front behind_colon c.before))
    (bind_is (λ colon. nested Whole colon.1 >>= λ o. found (expr.Cond test chosen o.0) o.1)
    (sign_again sign.Colon c.front behind_colon c.before)
    (bind_is (λ o. found (expr.Cond test chosen o.0) o.1)
    (law.reads Whole m other c.rest left c.after fits_other ends) refl))))

untested : (nested : Nested) (n : ℕ) (e : Expr) (text left : List Mark)
    → chain_over nested n 10 (text ++ left) ≡ Some (e, left) → Ends 11 left
    → conditional_over nested n (text ++ left) ≡ Some (e, left)
unfolding conditional_over
untested nested n e text left h ends =
    bind_is (λ t. if comes sign.Question t.1 then chosen_over nested t.0 t.1 else Some t) h
    (ap (λ b. if b then chosen_over nested e left else Some (e, left))
    (ends.question (omega arith)))

conditional_node : (nested : Nested) (n m : ℕ) → Complete n nested → (e : Expr)
    (node : Expr-F Expr Link) (text left : List Mark)
    → out-Expr e ≡ node → roll-Expr node ≡ e
    → NodeLine (ExprWithin m) node text → length text ≤ suc n → Ends 11 left
    → conditional_over nested n (text ++ left) ≡ Some (e, left)
conditional_node nested n m law e node text left out is x few ends = by node out is x
  where
    tight : Ends 10 left
    tight = let h : 10 ≤ 11 = omega arith in tighter_ends 10 11 left h ends

    tighter : (node : Expr-F Expr Link) → out-Expr e ≡ node
        → nat_le 1 (level_of node) ≡ true → NodeLine (ExprWithin m) node text
        → conditional_over nested n (text ++ left) ≡ Some (e, left)
    tighter node out h x =
        let one : 1 ≤ 1 = omega arith in
        untested nested n e text left
        (chain_again nested n law 10 1 refl one (suc m) e text left
        (of_node m 1 e node text out h x) few tight) ends

    op_tight : (op : BinOp) → nat_le 1 (operator_level op) ≡ true
    op_tight op =
        let a = level_sum op in
        let b = loosest op in
        le-leb 1 (operator_level op) (omega arith)

    by : (node : Expr-F Expr Link) → out-Expr e ≡ node → roll-Expr node ≡ e
        → NodeLine (ExprWithin m) node text
        → conditional_over nested n (text ++ left) ≡ Some (e, left)
    by (Expr-F.Lit l) out is x = tighter (Expr-F.Lit l) out refl x
    by (Expr-F.Name words) out is x = tighter (Expr-F.Name words) out refl x
    by (Expr-F.ClassLit type) out is x = tighter (Expr-F.ClassLit type) out refl x
    by (Expr-F.Unary op operand) out is x = tighter (Expr-F.Unary op operand) out refl x
    by (Expr-F.Cast type operand) out is x = tighter (Expr-F.Cast type operand) out refl x
    by (Expr-F.Chain first []) out is x = absurd x
    by (Expr-F.Chain first (l ∷ rest)) out is x =
        tighter (Expr-F.Chain first (l ∷ rest)) out (op_tight (out-Link l).op) x
    by (Expr-F.Cond test chosen other) out is x =
        chosen_again nested n m law test chosen other text left x few ends
        ∙ ap (λ v. Some (v, left)) (sym (expr.rolls-Cond test chosen other) ∙ is)

pub conditional_again : (nested : Nested) (n : ℕ) → Complete n nested → (m : ℕ) (e : Expr)
    (text left : List Mark)
    → ExprWithin m conditional e text → length text ≤ suc n → Ends 11 left
    → conditional_over nested n (text ++ left) ≡ Some (e, left)
unfolding ExprWithin
conditional_again nested n law zero e text left x few ends = absurd x
conditional_again nested n law (suc m) e text left (inl x) few ends =
    conditional_node nested n m law e (out-Expr e) text left refl (roll-out-Expr e) x.1 few ends
conditional_again nested n law (suc m) e text left (inr x) few ends =
    let one : 1 ≤ 1 = omega arith in
    let h : 10 ≤ 11 = omega arith in
    untested nested n e text left
    (chain_again nested n law 10 1 refl one (suc m) e text left (of_group m 1 e text x) few
    (tighter_ends 10 11 left h ends)) ends

-- ---- a primitive type and `)` begin no expression

closed_front : (p : Primitive) (o : Option Part) (behind : List Mark)
    → closed_by o behind ≡ Some p
    → (o ≡ Some (part.Primitive p)) × (comes sign.RightParenthesis behind ≡ true)
closed_front p (Some (part.Primitive q)) behind e = by (comes sign.RightParenthesis behind) refl e
  where
    by : (b : Bool) → comes sign.RightParenthesis behind ≡ b
        → (if b then Some q else None) ≡ Some p
        → (Some (part.Primitive q) ≡ Some (part.Primitive p))
        × (comes sign.RightParenthesis behind ≡ true)
    by true c e =
        let same : q ≡ p = cc in (ap (λ r. Some (part.Primitive r)) same, c)
    by false c e = absurd (cc)
closed_front p None behind e = absurd (cc)
closed_front p (Some q) behind e = absurd (cc)

no_class : (p : Primitive) (n : ℕ) (text : List Mark) → comes sign.RightParenthesis text ≡ true
    → class_literal_at (tree.Primitive p) n text ≡ None
unfolding class_literal_at
no_class p n text e =
    let o = other (front_part text) e in
    let pairs : many_count bracket_pair_at n text ≡ (0, text) =
    count_is bracket_pair_at n text
    ∙ ap (λ (r : List (Unit {0}) × List Mark). (length r.0, r.1))
    (none_come bracket_pair_at n text (pair_missing text o.0)) in
    ap (λ (d : ℕ × List Mark). sign_at sign.Dot d.1 >>= λ dot.
    sign_at sign.Class dot.1 >>= λ word.
    Some (expr.ClassLit (with_dims (tree.Primitive p) d.0), word.1)) pairs
    ∙ ap (λ r. r >>= λ dot. sign_at sign.Class dot.1 >>= λ word.
    Some (expr.ClassLit (tree.Primitive p), word.1)) (sign_missing sign.Dot text o.1)
  where
    other_part : (q : Part) → sign_is sign.RightParenthesis q ≡ true
        → (sign_is sign.LeftBracket q ≡ false) × (sign_is sign.Dot q ≡ false)
    other_part (part.Closing pair.Parentheses) e = (refl, refl)
    other_part q e = absurd (cc)

    other : (f : Option Part) → comes_by sign.RightParenthesis f ≡ true
        → (comes_by sign.LeftBracket f ≡ false) × (comes_by sign.Dot f ≡ false)
    other None e = absurd (cc)
    other (Some q) e = other_part q e

unary_refuses : (nested : Nested) (n : ℕ) (p : Primitive) (text : List Mark)
    → closed_primitive text ≡ Some p → unary_over nested n text ≡ None
unfolding primitive_class_at
unary_refuses nested n p text c =
    let f = closed_front p (front_part text) (behind_mark text) c in
    unary_is nested n (part.Primitive p) text None f.0 refl (by text f.0 f.1)
  where
    by : (text : List Mark) → front_part text ≡ Some (part.Primitive p)
        → comes sign.RightParenthesis (behind_mark text) ≡ true
        → primitive_class_at p n text ≡ None
    by [] f c = refl
    by (Single t ∷ text) f c = no_class p n text c
    by (Angle more ∷ text) f c = refl
    by (Group ∷ text) f c = refl
    by (Semi ∷ text) f c = refl

pub chain_refuses : (nested : Nested) (n k : ℕ) (text : List Mark)
    → unary_over nested n text ≡ None
    → chain_over nested n k text ≡ None
unfolding chain_over
chain_refuses nested n zero text e = e
chain_refuses nested n (suc k) text e =
    ap (λ r. r >>= λ first. let links = many (link_over (chain_over nested n k) k) n first.1 in
    Some (chain_of first.0 links.0, links.1)) (chain_refuses nested n k text e)

nested_refuses : (n : ℕ) (p : Primitive) (text : List Mark) → closed_primitive text ≡ Some p
    → nested_at n Whole text ≡ None
unfolding nested_at conditional_over
nested_refuses zero p text c = refl
nested_refuses (suc n) p text c =
    ap (λ r. r >>= λ t.
    if comes sign.Question t.1 then chosen_over (nested_at n) t.0 t.1 else Some t)
    (chain_refuses (nested_at n) n 10 text (unary_refuses (nested_at n) n p text c))

-- ---- expressions

again_by : (n : ℕ) → Complete n (nested_at n) → (place : Place) (m : ℕ) (e : Expr)
    (text left : List Mark)
    → ExprWithin m (place_level place) e text → length text ≤ suc n
    → Ends (place_looseness place) left → nested_at (suc n) place (text ++ left) ≡ Some (e, left)
unfolding nested_at
again_by n law Whole m e text left x few ends =
    conditional_again (nested_at n) n law m e text left x few ends
again_by n law Operand m e text left x few ends =
    unary_again (nested_at n) n law m e text left x few ends

none_within : (place : Place) (m : ℕ) (e : Expr) (text : List Mark)
    → ExprWithin m (place_level place) e text → length text ≤ 0 → ⊥
none_within place m e text x few =
    let some : 1 ≤ length text = begins_some (begins m (place_level place) e text x) in
    absurd (omega arith)

pub nested_again : (n : ℕ) → Complete n (nested_at n)
nested_again zero = record {
  reads = λ place m e text left x few ends. absurd (none_within place m e text x few);
  refuses = nested_refuses zero;
}
nested_again (suc n) = record {
  reads = again_by n (nested_again n);
  refuses = nested_refuses (suc n);
}
