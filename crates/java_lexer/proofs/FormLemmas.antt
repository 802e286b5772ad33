-- What each form of the machine stands for: what the grammar leaves behind some text.
use Rattle.std.proofs.Common.{◌≡◌, ℕ, ◌<◌, Bool, true, false, if◌then◌else◌, List, [], ◌∷◌, ◌++◌}
use Rattle.std.proofs.Common.{map, codes, Option, Some, None, refl}
use Rattle.lemmas.proofs.Tables.{below, same_below}
use Rattle.java_token.specs.declared.operator.OpTok.{OpTok}
use Rattle.java_token.specs.declared.operator.OpTok.TheVariants as op
use Rattle.java_token.specs.contracts.operator.OpTokPartialEq.TheImpl.{ghosts}
use Rattle.java_lexer.specs.declared.operator.TheConstants.{OPERATORS}
use Rattle.java_lexer.specs.declared.kind.Kind.{Kind}
use Rattle.java_lexer.specs.declared.form.Form.{Form}
use Rattle.java_lexer.specs.declared.form.Form.TheVariants as form
use Rattle.java_lexer.specs.declared.number.Number.{Number}
use Rattle.java_lexer.specs.declared.number.Number.TheVariants as number
use Rattle.java_lexer.specs.declared.quoted.Quoted.{Quoted}
use Rattle.java_lexer.specs.declared.quoted.Quoted.TheVariants as quoted
use Rattle.java_lexer.specs.Grammar.{Production, Spelling, Except, Many, StringTail, BlockTail}
use Rattle.java_lexer.specs.Grammar.{Read, Characters, Quote, TwoQuotes, Backslash, the}
use Rattle.java_lexer.specs.Grammar.{line_terminators, blanks, integers, decimals, hexadecimals}
use Rattle.java_lexer.specs.Grammar.{literals, operators, kind_by, grammar, comment}
use Rattle.java_lexer.specs.declared.kind.Kind.TheVariants as kind
use Rattle.java_lexer.specs.Machine.{next_form, first_form, form_kind}
use Rattle.java_lexer.proofs.Derive.{derive}

abbrev pub behind : List ℕ → List Production → List Production
behind [] ps = ps
behind (c ∷ w) ps = behind w (derive ps c)

-- how the table writes an operator
abbrev pub spelling_in : List Spelling → OpTok → List ℕ
spelling_in [] operator = []
spelling_in (entry ∷ entries) operator =
    if ghosts.eq entry.1 operator then entry.0.now else spelling_in entries operator

abbrev pub spelling : OpTok → List ℕ
spelling operator = spelling_in OPERATORS operator

-- a text that leads to each form of a number
abbrev pub number_text : Number → List ℕ
number_text number.Zero = codes "0"
number_text number.Octal = codes "00"
number_text number.OctalGap = codes "0_"
number_text number.Digits = codes "08"
number_text number.DigitsGap = codes "08_"
number_text number.Decimal = codes "1"
number_text number.DecimalGap = codes "1_"
number_text number.Point = codes "0."
number_text number.Fraction = codes ".0"
number_text number.FractionGap = codes ".0_"
number_text number.Exponent = codes "0e"
number_text number.ExponentSign = codes "0e+"
number_text number.ExponentDigits = codes "0e0"
number_text number.ExponentGap = codes "0e0_"
number_text number.HexMark = codes "0x"
number_text number.Hex = codes "0x0"
number_text number.HexGap = codes "0x0_"
number_text number.HexPoint = codes "0x0."
number_text number.HexBarePoint = codes "0x."
number_text number.HexFraction = codes "0x.0"
number_text number.HexFractionGap = codes "0x.0_"
number_text number.BinaryMark = codes "0b"
number_text number.Binary = codes "0b0"
number_text number.BinaryGap = codes "0b0_"

-- the same of a quotation; those inside a string or a text block are stated below
abbrev pub quoted_text : Quoted → List ℕ
quoted_text quoted.Quote = 34 ∷ []
quoted_text quoted.TwoQuotes = 34 ∷ 34 ∷ []
quoted_text quoted.BlockOpening = 34 ∷ 34 ∷ 34 ∷ []
quoted_text quoted.Apostrophe = 39 ∷ []
quoted_text quoted.CharacterEscape = 39 ∷ 92 ∷ []
quoted_text quoted.LowOctal = 39 ∷ 92 ∷ 48 ∷ []
quoted_text quoted.Octal = 39 ∷ 92 ∷ 52 ∷ []
quoted_text _ = []

-- what is left of a text block
abbrev pub block_left : Read → List Production
block_left read = (kind.TextBlock, BlockTail read ∷ []) ∷ []

abbrev pub numbers : List Production
numbers = integers ++ (decimals ++ hexadecimals)

-- What may follow each form: what the grammar leaves, or that part of it of which something is
-- left. Where a form stands behind most symbols, that is written out. The rows below check all of
-- it.
unfoldable pub stands : Form → List Production
stands (form.Closed k) = (k, []) ∷ []
stands form.Return = behind (13 ∷ []) blanks
stands form.LineComment = (kind.Blank, Many (Except line_terminators) ∷ []) ∷ []
stands (form.Comment true) = behind (codes "/**") comment
stands (form.Comment false) = behind (codes "/*") comment
stands (form.Operator op.Dot) = behind (codes ".") grammar
stands (form.Operator op.Slash) = behind (codes "/") grammar
stands (form.Operator operator) = behind (spelling operator) operators
stands form.TwoDots = behind (codes "..") operators
stands (form.Number n) = behind (number_text n) numbers
stands (form.Quoted quoted.Text) = (kind.String, StringTail false ∷ the 34 ∷ []) ∷ []
stands (form.Quoted quoted.TextEscape) = (kind.String, StringTail true ∷ the 34 ∷ []) ∷ []
stands (form.Quoted quoted.Block) = block_left Characters
stands (form.Quoted quoted.BlockQuote) = block_left Quote
stands (form.Quoted quoted.BlockTwoQuotes) = block_left TwoQuotes
stands (form.Quoted quoted.BlockEscape) = block_left Backslash
stands (form.Quoted quoted.Character) = (kind.Character, the 39 ∷ []) ∷ []
stands (form.Quoted q) = behind (quoted_text q) literals

abbrev pub stands_if : Option Form → List Production
stands_if None = []
stands_if (Some q) = stands q

-- what is left behind each symbol
abbrev pub row : List Production → List (List Production)
row ps = map (derive ps) (below 129)

abbrev pub next_row : Form → List (List Production)
next_row q = map (λ s. stands_if (next_form q s)) (below 129)

tabled : (q : Form) → row (stands q) ≡ next_row q → (s : ℕ) → s < 129
    → derive (stands q) s ≡ stands_if (next_form q s)
tabled q e s h = same_below (derive (stands q)) (λ t. stands_if (next_form q t)) 129 s e h

number_rows : (x : Number) → row (stands (form.Number x)) ≡ next_row (form.Number x)
unfolding stands grammar comment
number_rows number.Zero = refl
number_rows number.Octal = refl
number_rows number.OctalGap = refl
number_rows number.Digits = refl
number_rows number.DigitsGap = refl
number_rows number.Decimal = refl
number_rows number.DecimalGap = refl
number_rows number.Point = refl
number_rows number.Fraction = refl
number_rows number.FractionGap = refl
number_rows number.Exponent = refl
number_rows number.ExponentSign = refl
number_rows number.ExponentDigits = refl
number_rows number.ExponentGap = refl
number_rows number.HexMark = refl
number_rows number.Hex = refl
number_rows number.HexGap = refl
number_rows number.HexPoint = refl
number_rows number.HexBarePoint = refl
number_rows number.HexFraction = refl
number_rows number.HexFractionGap = refl
number_rows number.BinaryMark = refl
number_rows number.Binary = refl
number_rows number.BinaryGap = refl

quoted_rows : (x : Quoted) → row (stands (form.Quoted x)) ≡ next_row (form.Quoted x)
unfolding stands grammar comment
quoted_rows quoted.Quote = refl
quoted_rows quoted.TwoQuotes = refl
quoted_rows quoted.Text = refl
quoted_rows quoted.TextEscape = refl
quoted_rows quoted.BlockOpening = refl
quoted_rows quoted.Block = refl
quoted_rows quoted.BlockQuote = refl
quoted_rows quoted.BlockTwoQuotes = refl
quoted_rows quoted.BlockEscape = refl
quoted_rows quoted.Apostrophe = refl
quoted_rows quoted.CharacterEscape = refl
quoted_rows quoted.LowOctal = refl
quoted_rows quoted.Octal = refl
quoted_rows quoted.Character = refl

operator_rows : (x : OpTok) → row (stands (form.Operator x)) ≡ next_row (form.Operator x)
unfolding stands grammar comment
operator_rows op.LeftParenthesis = refl
operator_rows op.RightParenthesis = refl
operator_rows op.LeftBrace = refl
operator_rows op.RightBrace = refl
operator_rows op.LeftBracket = refl
operator_rows op.RightBracket = refl
operator_rows op.Semicolon = refl
operator_rows op.Comma = refl
operator_rows op.Dot = refl
operator_rows op.Ellipsis = refl
operator_rows op.At = refl
operator_rows op.DoubleColon = refl
operator_rows op.Assign = refl
operator_rows op.Greater = refl
operator_rows op.Less = refl
operator_rows op.Not = refl
operator_rows op.Complement = refl
operator_rows op.Question = refl
operator_rows op.Colon = refl
operator_rows op.Arrow = refl
operator_rows op.Equal = refl
operator_rows op.GreaterEqual = refl
operator_rows op.LessEqual = refl
operator_rows op.NotEqual = refl
operator_rows op.AndAnd = refl
operator_rows op.OrOr = refl
operator_rows op.Increment = refl
operator_rows op.Decrement = refl
operator_rows op.Plus = refl
operator_rows op.Minus = refl
operator_rows op.Star = refl
operator_rows op.Slash = refl
operator_rows op.And = refl
operator_rows op.Or = refl
operator_rows op.Xor = refl
operator_rows op.Percent = refl
operator_rows op.ShiftLeft = refl
operator_rows op.ShiftRight = refl
operator_rows op.ShiftRightUnsigned = refl
operator_rows op.PlusAssign = refl
operator_rows op.MinusAssign = refl
operator_rows op.StarAssign = refl
operator_rows op.SlashAssign = refl
operator_rows op.AndAssign = refl
operator_rows op.OrAssign = refl
operator_rows op.XorAssign = refl
operator_rows op.PercentAssign = refl
operator_rows op.ShiftLeftAssign = refl
operator_rows op.ShiftRightAssign = refl
operator_rows op.ShiftRightUnsignedAssign = refl

line_comment_row : row (stands form.LineComment) ≡ next_row form.LineComment
unfolding stands grammar comment
line_comment_row = refl

comment_rows : (star : Bool) → row (stands (form.Comment star)) ≡ next_row (form.Comment star)
unfolding stands grammar comment
comment_rows true = refl
comment_rows false = refl

two_dots_row : row (stands form.TwoDots) ≡ next_row form.TwoDots
unfolding stands grammar comment
two_dots_row = refl

return_row : row (stands form.Return) ≡ next_row form.Return
unfolding stands grammar comment
return_row = refl

closed_next : (k : Kind) (s : ℕ)
    → derive (stands (form.Closed k)) s ≡ stands_if (next_form (form.Closed k) s)
unfolding stands
closed_next k s = refl

-- the machine's next form stands for what the symbol leaves
pub next-stands : (q : Form) (s : ℕ) → s < 129 → derive (stands q) s ≡ stands_if (next_form q s)
next-stands (form.Closed k) s h = closed_next k s
next-stands form.Return s h = tabled form.Return return_row s h
next-stands form.LineComment s h = tabled form.LineComment line_comment_row s h
next-stands (form.Comment star) s h = tabled (form.Comment star) (comment_rows star) s h
next-stands (form.Operator x) s h = tabled (form.Operator x) (operator_rows x) s h
next-stands form.TwoDots s h = tabled form.TwoDots two_dots_row s h
next-stands (form.Number x) s h = tabled (form.Number x) (number_rows x) s h
next-stands (form.Quoted x) s h = tabled (form.Quoted x) (quoted_rows x) s h

first_row : row grammar ≡ map (λ s. stands_if (first_form s)) (below 129)
unfolding stands grammar comment
first_row = refl

-- the machine's first form stands for what the symbol leaves of the grammar
pub first-stands : (s : ℕ) → s < 129 → derive grammar s ≡ stands_if (first_form s)
first-stands s h = same_below (derive grammar) (λ t. stands_if (first_form t)) 129 s first_row h

number_kinds : (x : Number) → kind_by (stands (form.Number x)) [] ≡ form_kind (form.Number x)
unfolding stands grammar comment kind_by
number_kinds number.Zero = refl
number_kinds number.Octal = refl
number_kinds number.OctalGap = refl
number_kinds number.Digits = refl
number_kinds number.DigitsGap = refl
number_kinds number.Decimal = refl
number_kinds number.DecimalGap = refl
number_kinds number.Point = refl
number_kinds number.Fraction = refl
number_kinds number.FractionGap = refl
number_kinds number.Exponent = refl
number_kinds number.ExponentSign = refl
number_kinds number.ExponentDigits = refl
number_kinds number.ExponentGap = refl
number_kinds number.HexMark = refl
number_kinds number.Hex = refl
number_kinds number.HexGap = refl
number_kinds number.HexPoint = refl
number_kinds number.HexBarePoint = refl
number_kinds number.HexFraction = refl
number_kinds number.HexFractionGap = refl
number_kinds number.BinaryMark = refl
number_kinds number.Binary = refl
number_kinds number.BinaryGap = refl

quoted_kinds : (x : Quoted) → kind_by (stands (form.Quoted x)) [] ≡ form_kind (form.Quoted x)
unfolding stands grammar comment kind_by
quoted_kinds quoted.Quote = refl
quoted_kinds quoted.TwoQuotes = refl
quoted_kinds quoted.Text = refl
quoted_kinds quoted.TextEscape = refl
quoted_kinds quoted.BlockOpening = refl
quoted_kinds quoted.Block = refl
quoted_kinds quoted.BlockQuote = refl
quoted_kinds quoted.BlockTwoQuotes = refl
quoted_kinds quoted.BlockEscape = refl
quoted_kinds quoted.Apostrophe = refl
quoted_kinds quoted.CharacterEscape = refl
quoted_kinds quoted.LowOctal = refl
quoted_kinds quoted.Octal = refl
quoted_kinds quoted.Character = refl

operator_kinds : (x : OpTok) → kind_by (stands (form.Operator x)) [] ≡ form_kind (form.Operator x)
unfolding stands grammar comment kind_by
operator_kinds op.LeftParenthesis = refl
operator_kinds op.RightParenthesis = refl
operator_kinds op.LeftBrace = refl
operator_kinds op.RightBrace = refl
operator_kinds op.LeftBracket = refl
operator_kinds op.RightBracket = refl
operator_kinds op.Semicolon = refl
operator_kinds op.Comma = refl
operator_kinds op.Dot = refl
operator_kinds op.Ellipsis = refl
operator_kinds op.At = refl
operator_kinds op.DoubleColon = refl
operator_kinds op.Assign = refl
operator_kinds op.Greater = refl
operator_kinds op.Less = refl
operator_kinds op.Not = refl
operator_kinds op.Complement = refl
operator_kinds op.Question = refl
operator_kinds op.Colon = refl
operator_kinds op.Arrow = refl
operator_kinds op.Equal = refl
operator_kinds op.GreaterEqual = refl
operator_kinds op.LessEqual = refl
operator_kinds op.NotEqual = refl
operator_kinds op.AndAnd = refl
operator_kinds op.OrOr = refl
operator_kinds op.Increment = refl
operator_kinds op.Decrement = refl
operator_kinds op.Plus = refl
operator_kinds op.Minus = refl
operator_kinds op.Star = refl
operator_kinds op.Slash = refl
operator_kinds op.And = refl
operator_kinds op.Or = refl
operator_kinds op.Xor = refl
operator_kinds op.Percent = refl
operator_kinds op.ShiftLeft = refl
operator_kinds op.ShiftRight = refl
operator_kinds op.ShiftRightUnsigned = refl
operator_kinds op.PlusAssign = refl
operator_kinds op.MinusAssign = refl
operator_kinds op.StarAssign = refl
operator_kinds op.SlashAssign = refl
operator_kinds op.AndAssign = refl
operator_kinds op.OrAssign = refl
operator_kinds op.XorAssign = refl
operator_kinds op.PercentAssign = refl
operator_kinds op.ShiftLeftAssign = refl
operator_kinds op.ShiftRightAssign = refl
operator_kinds op.ShiftRightUnsignedAssign = refl

-- a form's kind is that of a piece that ends there
pub kind-stands : (q : Form) → kind_by (stands q) [] ≡ form_kind q
unfolding stands grammar comment kind_by
kind-stands (form.Closed k) = refl
kind-stands form.Return = refl
kind-stands form.LineComment = refl
kind-stands (form.Comment true) = refl
kind-stands (form.Comment false) = refl
kind-stands (form.Operator x) = operator_kinds x
kind-stands form.TwoDots = refl
kind-stands (form.Number x) = number_kinds x
kind-stands (form.Quoted x) = quoted_kinds x

-- a comment's units behind `/*`
pub comment_behind : derive (derive comment 47) 42 ≡ stands (form.Comment false)
unfolding stands
comment_behind = refl

pub comment_slash : kind_by (derive comment 47) [] ≡ None
unfolding kind_by comment
comment_slash = refl

pub comment_opening : kind_by (stands (form.Comment false)) [] ≡ None
unfolding stands grammar comment kind_by
comment_opening = refl
