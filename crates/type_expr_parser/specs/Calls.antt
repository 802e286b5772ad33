-- What the calls on whole lists of tokens answer.
use Rattle.std.specs.Prelude.{◌≡◌, ℕ, ◌-◌, ◌≤◌, true, false, List, ◌++◌, length, drop, Result, Ok}
use Rattle.std.specs.Prelude.{Err}
use Rattle.java_token.specs.declared.token.Token.{Token}
use Rattle.java_ast.specs.declared.expression.Expr.{Expr}
use Rattle.java_grammar.specs.Parts.{parts}
use Rattle.java_grammar.specs.Counts.{expression_fits, tokens_fit}
use Rattle.java_grammar.specs.Marks.{Mark, marks}
use Rattle.java_grammar.specs.Reading.{first_angles}
use Rattle.java_grammar.specs.Expressions.{ExprSpells}
use Rattle.type_expr_parser.specs.declared.parsed.Parsed.{Parsed}
use Rattle.type_expr_parser.specs.declared.error.ExprErr.{ExprErr}
use Rattle.type_expr_parser.specs.declared.error.ExprErr.TheVariants as error

-- the tokens pass no count, and are spelled by this expression and no other
pub record IsExpr (tokens : List Token) (e : Expr) : Type 0 where
  pub fits : expression_fits (parts tokens) ≡ true
  pub spells : ExprSpells e (marks tokens)
  pub alone : (other : Expr) → ExprSpells other (marks tokens) → other ≡ e

-- they pass none, and no expression is spelled so
pub record IsNoExpr (tokens : List Token) : Type 0 where
  pub fits : expression_fits (parts tokens) ≡ true
  pub none : (e : Expr) → ExprSpells e (marks tokens) → ⊥

-- The expression that is spelled, or that none is, where the tokens pass no count; `TooDeep`
-- exactly where they pass one. Only want of memory may stand in the place of the first two.
abbrev pub ExprAnswer : List Token → Result Expr ExprErr → Type 0
ExprAnswer tokens (Ok e) = IsExpr tokens e
ExprAnswer tokens (Err error.NotSpelled) = IsNoExpr tokens
ExprAnswer tokens (Err error.TooDeep) = expression_fits (parts tokens) ≡ false
ExprAnswer tokens (Err error.Memory) = expression_fits (parts tokens) ≡ true

-- ---- fronts

-- the marks behind so many tokens and so many angles of the next
abbrev pub behind_front : List Token → ℕ → ℕ → List Mark
behind_front tokens used part = drop part (marks (drop used tokens))

-- the tokens pass no count, and of their fronts that spell something this is the longest, with
-- this tree and no other. It has so many of the tokens, and angles of the next, but never all of
-- that one's: so one front has one pair of numbers
pub record IsLongest {A : Type 0} (Spells : A → List Mark → Type 0) (tokens : List Token)
    (tree : A) (used part : ℕ) : Type 0 where
  pub fits : tokens_fit (parts tokens) ≡ true
  pub front : List Mark
  pub whole : marks tokens ≡ front ++ behind_front tokens used part
  pub counted : used ≤ length tokens
  pub within : part ≤ first_angles (parts (drop used tokens)) - 1
  pub spells : Spells tree front
  pub alone : (other : A) → Spells other front → other ≡ tree
  pub longest : (other : A) (text left : List Mark) → Spells other text
      → marks tokens ≡ text ++ left → length text ≤ length front

-- they pass none, and no front spells anything
pub record HasNone {A : Type 0} (Spells : A → List Mark → Type 0) (tokens : List Token)
    : Type 0 where
  pub fits : tokens_fit (parts tokens) ≡ true
  pub none : (tree : A) (text left : List Mark) → Spells tree text → marks tokens ≡ text ++ left
      → ⊥

abbrev pub FrontAnswer : {A : Type 0} → (A → List Mark → Type 0) → List Token
    → Result (Parsed A) ExprErr → Type 0
FrontAnswer Spells tokens (Ok p) = IsLongest Spells tokens p.tree p.used p.part
FrontAnswer Spells tokens (Err error.NotSpelled) = HasNone Spells tokens
FrontAnswer Spells tokens (Err error.TooDeep) = tokens_fit (parts tokens) ≡ false
FrontAnswer Spells tokens (Err error.Memory) = tokens_fit (parts tokens) ≡ true
