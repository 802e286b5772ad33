-- Whole lists of tokens.
use Rattle.std.proofs.Common.{◌≡◌, refl, sym, ◌∙◌, ap, subst, ℕ, zero, suc, ◌+◌, ◌*◌, ◌≤◌, arith}
use Rattle.std.proofs.Common.{true, false, List, [], ◌∷◌, ◌++◌, length, append-nil}
use Rattle.std.proofs.Common.{length-append, None}
use Rattle.std.specs.Prelude.{nat_le}
use Rattle.std.proofs.lemmas.Bool.{leb-true}
use Rattle.java_token.specs.declared.token.Token.{Token}
use Rattle.java_ast.specs.declared.expression.Expr.{Expr}
use Rattle.java_ast.specs.declared.expression.BinOp.{BinOp}
use Rattle.java_ast.specs.declared.expression.BinOp.TheVariants as binary
use Rattle.java_grammar.specs.declared.part.Part.{Part}
use Rattle.java_grammar.specs.declared.part.Part.TheVariants as part
use Rattle.java_grammar.specs.Parts.{part_of, parts}
use Rattle.java_grammar.specs.Tests.{angles, operator_angles}
use Rattle.java_grammar.specs.Counts.{expression_fits}
use Rattle.java_grammar.specs.Marks.{Mark, angle_marks, marks_by, token_marks}
use Rattle.java_grammar.specs.Marks.{marks}
use Rattle.java_grammar.specs.Reading.{is_end}
use Rattle.java_grammar.specs.Expressions.{conditional, ExprWithin, ExprSpells}
use Rattle.type_expr_parser.specs.Reading.{found}
use Rattle.type_expr_parser.specs.Expressions.{Whole, nested_at}
use Rattle.type_expr_parser.specs.Calls.{IsExpr, IsNoExpr}
use Rattle.type_expr_parser.proofs.Lines.{value_is, left_is}
use Rattle.type_expr_parser.proofs.ExprSound.{bound_of, nested_takes}
use Rattle.type_expr_parser.proofs.Ends.{at_end}
use Rattle.type_expr_parser.proofs.ExprComplete.{nested_again}

-- ---- how many marks tokens are

pub angle_count : (n : ℕ) → length (angle_marks n) ≡ n + 1
angle_count zero = refl
angle_count (suc n) = let e = angle_count n in omega arith

few_operator : (op : BinOp) → nat_le (operator_angles op) 3 ≡ true
few_operator binary.Greater = refl
few_operator binary.ShiftRight = refl
few_operator binary.ShiftRightUnsigned = refl
few_operator _ = refl

few_part : (p : Part) → nat_le (angles p) 3 ≡ true
few_part (part.Binary op) = few_operator op
few_part _ = refl

pub few_angles : (p : Part) → angles p ≤ 3
few_angles p = leb-true (angles p) 3 (few_part p)

few_by : (n : ℕ) (t : Token) → n ≤ 3 → length (marks_by n t) ≤ 3
few_by zero t h = omega arith
few_by (suc n) t h = let e = angle_count n in omega arith

few_marks : (t : Token) → length (token_marks t) ≤ 3
unfolding token_marks
few_marks t = few_by (angles (part_of t)) t (few_angles (part_of t))

pub marks_within : (tokens : List Token) → length (marks tokens) ≤ 3 * length tokens
marks_within [] = omega arith
marks_within (t ∷ tokens) =
    let a = few_marks t in
    let b = marks_within tokens in
    let c = length-append (token_marks t) (marks tokens) in
    omega arith

-- ---- expressions

ended : (left : List Mark) → is_end left ≡ true → left ≡ []
ended [] e = refl
ended (m ∷ left) e = absurd (cc)

-- an expression is read whole
pub expression_read : (n : ℕ) (tokens : List Token) (e : Expr)
    → n ≡ 3 * length tokens + 1 → ExprSpells e (marks tokens)
    → nested_at n Whole (marks tokens) ≡ found e []
expression_read n tokens e is x =
    let a = marks_within tokens in
    let few : length (marks tokens) ≤ n = omega arith in
    sym (ap (nested_at n Whole) (append-nil (marks tokens)))
    ∙ (nested_again n).reads Whole x.0 e (marks tokens) [] x.1 few (at_end 11)

pub expression_is : (n : ℕ) (tokens : List Token) (e : Expr) (left : List Mark)
    → n ≡ 3 * length tokens + 1
    → expression_fits (parts tokens) ≡ true
    → nested_at n Whole (marks tokens) ≡ found e left → is_end left ≡ true
    → IsExpr tokens e
expression_is n tokens e left is fits h end =
    let none = ended left end in
    let x = nested_takes n Whole (marks tokens) e left h in
    let whole : marks tokens ≡ x.front =
    x.whole ∙ ap (λ l. x.front ++ l) none ∙ append-nil x.front in
    record {
      fits = fits;
      spells = (bound_of n, subst (ExprWithin (bound_of n) conditional e) (sym whole) x.spelled);
      alone = λ other y. value_is (sym (expression_read n tokens other is y) ∙ h);
    }

pub no_expression : (n : ℕ) (tokens : List Token)
    → n ≡ 3 * length tokens + 1
    → expression_fits (parts tokens) ≡ true
    → nested_at n Whole (marks tokens) ≡ None
    → IsNoExpr tokens
no_expression n tokens is fits h = record {
  fits = fits;
  none = λ e x. let f = sym (expression_read n tokens e is x) ∙ h in absurd (cc);
}

pub no_whole_expression : (n : ℕ) (tokens : List Token) (e : Expr) (left : List Mark)
    → n ≡ 3 * length tokens + 1
    → expression_fits (parts tokens) ≡ true
    → nested_at n Whole (marks tokens) ≡ found e left → is_end left ≡ false
    → IsNoExpr tokens
no_whole_expression n tokens e left is fits h end = record {
  fits = fits;
  none = λ other x.
      let none : [] ≡ left = left_is (sym (expression_read n tokens other is x) ∙ h) in
      let f : true ≡ false = ap is_end none ∙ end in
      absurd (cc);
}
