-- Reading marks from the front: each reading gives an item and the marks behind it, or finds that
-- the item isn't there.
use Rattle.std.specs.Prelude.{◌≡◌, ℕ, zero, suc, ◌==◌, Bool, true, false, if◌then◌else◌, List, []}
use Rattle.std.specs.Prelude.{◌∷◌, ◌++◌, Option, Some, None, Result, Ok, Err}
use Rattle.java_token.specs.declared.token.Token.{Token}
use Rattle.java_token.specs.declared.token.TokenKind.{TokenKind}
use Rattle.java_token.specs.declared.token.TokenKind.TheVariants as kind
use Rattle.java_ast.specs.declared.expression.BinOp.{BinOp}
use Rattle.java_ast.specs.declared.expression.BinOp.TheVariants as binary
use Rattle.java_grammar.specs.declared.part.Part.{Part}
use Rattle.java_grammar.specs.Parts.{part_of}
use Rattle.java_grammar.specs.Tests.{angles}
use Rattle.java_grammar.specs.Marks.{Mark, Single, Angle, Group, Semi}
use Rattle.java_grammar.specs.Reading.{front_part, binary_of}
use Rattle.type_expr_parser.specs.declared.error.Unread.{Unread}
use Rattle.type_expr_parser.specs.declared.error.Unread.TheVariants as unread
use Rattle.java_grammar.specs.declared.sign.Sign.{Sign}
use Rattle.java_grammar.specs.Signs.{sign_is}

abbrev pub Read : Type 0 → Type 0
Read A = Option (A × List Mark)

abbrev pub found : {A : Type 0} → A → List Mark → Read A
found item left = Some (item, left)

infixl 10 ◌>>=◌
abbrev pub ◌>>=◌ : {A B : Type 0} → Option A → (A → Option B) → Option B
(Some x) >>= f = f x
None >>= f = None

-- ---- what a function returned is what reading gives, unless memory ran out

abbrev pub Fails : {Y : Type 0} → Unread → Option Y → Type 0
Fails unread.NotSpelled read = read ≡ None
Fails unread.Memory read = Unit {0}

-- with what is left behind it
abbrev pub Gives : {X Y : Type 0} → (X → Y) → Result X Unread → List Mark → Read Y → Type 0
Gives view (Ok x) left read = read ≡ Some (view x, left)
Gives view (Err e) left read = Fails e read

-- with nothing left
abbrev pub Found : {X : Type 0} → Result X Unread → Option X → Type 0
Found (Ok x) read = read ≡ Some x
Found (Err e) read = Fails e read

-- a value that is there in any case
abbrev pub Makes : {X : Type 0} → Result X Unread → X → Type 0
Makes result x = Found result (Some x)

-- ---- items one behind the other, as many as come, and no more than a number

abbrev pub step : {A B : Type 0} → Read A → B → (A → List Mark → B) → B
step None stop more = stop
step (Some x) stop more = more x.0 x.1

-- the items before these
abbrev pub prepended : {A : Type 0} → List A → List A × List Mark → List A × List Mark
prepended front read = (front ++ read.0, read.1)

unfoldable pub many : {A : Type 0} → (List Mark → Read A) → ℕ → List Mark → List A × List Mark
many item zero text = ([], text)
many item (suc n) text = step (item text) ([], text)
    (λ x rest. prepended (x ∷ []) (many item n rest))

-- how many they are
unfoldable pub many_count : {A : Type 0} → (List Mark → Read A) → ℕ → List Mark → ℕ × List Mark
many_count item zero text = (0, text)
many_count item (suc n) text = step (item text) (0, text)
    (λ x rest. (suc (many_count item n rest).0, (many_count item n rest).1))

-- what is behind them
unfoldable pub behind_many : {A : Type 0} → (List Mark → Read A) → ℕ → List Mark → List Mark
behind_many item zero text = text
behind_many item (suc n) text = step (item text) text (λ x rest. behind_many item n rest)

-- ---- tokens

abbrev pub token_by : Mark → List Mark → Read Token
token_by (Single token) text = Some (token, text)
token_by (Angle more) text = None
token_by Group text = None
token_by Semi text = None

abbrev pub token_at : List Mark → Read Token
token_at [] = None
token_at (m ∷ text) = token_by m text

abbrev pub line_of : Read Token → ℕ
line_of None = 0
line_of (Some x) = x.0.line

abbrev pub front_line : List Mark → ℕ
front_line text = line_of (token_at text)

abbrev pub comes_by : Sign → Option Part → Bool
comes_by sign None = false
comes_by sign (Some p) = sign_is sign p

-- this sign comes next
abbrev pub comes : Sign → List Mark → Bool
comes sign text = comes_by sign (front_part text)

unfoldable pub sign_at : Sign → List Mark → Read (Unit {0})
sign_at sign text = if comes sign text then (token_at text >>= λ t. Some (tt, t.1)) else None

abbrev pub word_in : TokenKind → Option (List ℕ)
word_in (kind.Word name) = Some name
word_in (kind.Keyword keyword) = None
word_in (kind.Lit literal) = None
word_in (kind.Op operator) = None

unfoldable pub word_at : List Mark → Read (List ℕ)
word_at text = do
  token ← token_at text
  name ← word_in token.0.kind
  Some (name, token.1)

-- ---- binary operators

abbrev pub alone : Option BinOp → ℕ → Option BinOp
alone operator angles = if angles == 0 then operator else None

abbrev pub angles_at : Bool → List Mark → Read BinOp
angles_at false text = Some (binary.Greater, text)
angles_at true [] = None
angles_at true (Angle false ∷ text) = Some (binary.ShiftRight, text)
angles_at true (Angle true ∷ []) = None
angles_at true (Angle true ∷ Angle false ∷ text) = Some (binary.ShiftRightUnsigned, text)
angles_at true _ = None

abbrev pub operator_by : Mark → List Mark → Read BinOp
operator_by (Single token) text = do
  operator ← alone (binary_of (part_of token)) (angles (part_of token))
  Some (operator, text)
operator_by (Angle more) text = angles_at more text
operator_by Group text = None
operator_by Semi text = None

unfoldable pub operator_at : List Mark → Read BinOp
operator_at [] = None
operator_at (m ∷ text) = operator_by m text
