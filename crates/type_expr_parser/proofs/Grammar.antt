-- How expressions are put together in the grammar: from a node, from a tighter place, from
-- parentheses.
use Rattle.std.proofs.Common.{◌≡◌, sym, subst, ℕ, zero, suc, ◌≤◌, arith}
use Rattle.std.proofs.Common.{true, List, [], ◌∷◌, inl, inr}
use Rattle.std.specs.Prelude.{nat_le}
use Rattle.std.proofs.lemmas.Bool.{leb-true, le-leb}
use Rattle.java_ast.specs.declared.types.TypeTree.{out-TypeTree}
use Rattle.java_ast.specs.declared.types.ArgTree.TheOpen.{TypeTree-F}
use Rattle.java_ast.specs.declared.expression.Expr.{Expr, out-Expr}
use Rattle.java_ast.specs.declared.expression.Expr.TheOpen.{Expr-F}
use Rattle.java_ast.specs.declared.expression.Link.{Link, out-Link}
use Rattle.java_grammar.specs.declared.part.Part.{Part}
use Rattle.java_grammar.specs.declared.part.Part.TheVariants as part
use Rattle.java_grammar.specs.declared.part.Pair.TheVariants as pair
use Rattle.java_grammar.specs.Marks.{Mark, Line}
use Rattle.java_grammar.specs.Words.{◌⨾◌, Is}
use Rattle.java_grammar.specs.Expressions.{conditional, unary_level, operator_level, TypeLayer}
use Rattle.java_grammar.specs.Expressions.{Operator, Prefix, InParentheses, CastLine, LinkLine}
use Rattle.java_grammar.specs.Expressions.{ChainLine, NodeLine, level_of, ExprWithin}
use Rattle.type_expr_parser.proofs.Lines.{both_as, row_as}

pub same : (a : Line) (text : List Mark) → a text → a text
same a text x = x

-- ---- operands of which more are spelled

link_weaker : (O P : ℕ → Expr → Line)
    → ((level : ℕ) (e : Expr) (t : List Mark) → O level e t → P level e t)
    → (level : ℕ) (l : Link) (text : List Mark)
    → LinkLine O level (out-Link l) text → LinkLine P level (out-Link l) text
link_weaker O P f level l text x =
    (x.0, both_as (same (Operator (out-Link l).op)) (f (suc level) (out-Link l).right) text x.1)

chain_weaker : (O P : ℕ → Expr → Line)
    → ((level : ℕ) (e : Expr) (t : List Mark) → O level e t → P level e t)
    → (first : Expr) (rest : List Link) (text : List Mark)
    → ChainLine O first rest text → ChainLine P first rest text
chain_weaker O P f first [] text x = absurd x
chain_weaker O P f first (l ∷ rest) text x =
    let level = operator_level (out-Link l).op in
    both_as (f (suc level) first) (row_as (link_weaker O P f level) (l ∷ rest)) text x

cast_weaker : (a b : Line) → ((t : List Mark) → a t → b t) → (layer : TypeLayer)
    → (text : List Mark) → CastLine a layer text → CastLine b layer text
cast_weaker a b f (TypeTree-F.Primitive p) text x =
    both_as (same (InParentheses (Is (part.Primitive p)))) f text x
cast_weaker a b f (TypeTree-F.Named line parts) text x = record {
  front = x.front;
  rest = x.rest;
  whole = x.whole;
  before = x.before;
  after = (x.after.0, f x.rest x.after.1);
}
cast_weaker a b f TypeTree-F.Void text x = absurd x
cast_weaker a b f (TypeTree-F.Array element dims) text x = absurd x

node_weaker : (O P : ℕ → Expr → Line)
    → ((level : ℕ) (e : Expr) (t : List Mark) → O level e t → P level e t)
    → (node : Expr-F Expr Link) (text : List Mark) → NodeLine O node text → NodeLine P node text
node_weaker O P f (Expr-F.Lit l) text x = x
node_weaker O P f (Expr-F.Name words) text x = x
node_weaker O P f (Expr-F.ClassLit type) text x = x
node_weaker O P f (Expr-F.Unary op operand) text x =
    both_as (same (Prefix op)) (f unary_level operand) text x
node_weaker O P f (Expr-F.Chain first rest) text x = chain_weaker O P f first rest text x
node_weaker O P f (Expr-F.Cond test chosen other) text x =
    both_as (f (suc conditional) test)
    (both_as (same (Is part.Question))
    (both_as (f conditional chosen) (both_as (same (Is part.Colon)) (f conditional other)))) text x
node_weaker O P f (Expr-F.Cast type operand) text x =
    cast_weaker (O unary_level operand) (P unary_level operand) (f unary_level operand)
    (out-TypeTree type) text x

pub enclosed : {a b : Line} (p q : Part) → ((t : List Mark) → a t → b t) → (text : List Mark)
    → (Is p ⨾ (a ⨾ Is q)) text → (Is p ⨾ (b ⨾ Is q)) text
enclosed p q f text x = both_as (same (Is p)) (both_as f (same (Is q))) text x

-- ---- deeper ones

pub within_more : (n level : ℕ) (e : Expr) (text : List Mark)
    → ExprWithin n level e text → ExprWithin (suc n) level e text
unfolding ExprWithin
within_more zero level e text x = absurd x
within_more (suc n) level e text (inl x) =
    inl (
      x.0,
      node_weaker (ExprWithin n) (ExprWithin (suc n)) (within_more n)
          (out-Expr e) text x.1,
    )
within_more (suc n) level e text (inr x) =
    inr (enclosed (part.Opening pair.Parentheses) (part.Closing pair.Parentheses)
    (within_more n conditional e) text x)

-- ---- looser places

le_trans : (a b : ℕ) (c : ℕ) → a ≤ b → nat_le b c ≡ true → nat_le a c ≡ true
le_trans a b c h e = let g : b ≤ c = leb-true b c e in le-leb a c (omega arith)

pub looser : (n level tighter : ℕ) (e : Expr) (text : List Mark) → level ≤ tighter
    → ExprWithin n tighter e text → ExprWithin n level e text
unfolding ExprWithin
looser zero level tighter e text h x = absurd x
looser (suc n) level tighter e text h (inl x) =
    inl (le_trans level tighter (level_of (out-Expr e)) h x.0, x.1)
looser (suc n) level tighter e text h (inr x) = inr x

-- ---- from a node, and from parentheses

pub of_node : (n level : ℕ) (e : Expr) (node : Expr-F Expr Link) (text : List Mark)
    → out-Expr e ≡ node → nat_le level (level_of node) ≡ true
    → NodeLine (ExprWithin n) node text → ExprWithin (suc n) level e text
unfolding ExprWithin
of_node n level e node text is le x = inl (
  subst (λ (o : Expr-F Expr Link). nat_le level (level_of o) ≡ true) (sym is) le,
  subst (λ (o : Expr-F Expr Link). NodeLine (ExprWithin n) o text) (sym is) x,
)

pub of_group : (n level : ℕ) (e : Expr) (text : List Mark)
    → InParentheses (ExprWithin n conditional e) text → ExprWithin (suc n) level e text
unfolding ExprWithin
of_group n level e text x = inr x
