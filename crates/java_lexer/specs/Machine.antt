-- The machine that goes over a piece unit by unit. Only contracts of private functions cite it.
use Rattle.std.specs.Prelude.{ℕ, ◌+◌, List, [], ◌∷◌, codes, Bool, ◌&&◌, ◌||◌, ◌==◌, nat_le}
use Rattle.std.specs.Prelude.{Option, Some, None, if◌then◌else◌}
use Rattle.std.specs.Char
use Rattle.std.specs.Char.{is_ascii_digit, is_ascii_hexdigit}
use Rattle.java_token.specs.declared.operator.OpTok.{OpTok}
use Rattle.java_token.specs.declared.operator.OpTok.TheVariants as op
use Rattle.java_lexer.specs.declared.kind.Kind.{Kind}
use Rattle.java_lexer.specs.declared.kind.Kind.TheVariants as kind
use Rattle.std.specs.Char.Utf16.{is_high_surrogate, is_low_surrogate, surrogate_pair_char}
use Rattle.java_text.specs.declared.character.TheConstants.{APOSTROPHE, ASTERISK, BACKSLASH}
use Rattle.java_text.specs.declared.character.TheConstants.{CARRIAGE_RETURN, FORM_FEED, LINE_FEED}
use Rattle.java_text.specs.declared.character.TheConstants.{LOW_LINE, QUOTATION_MARK, SLASH}
use Rattle.java_text.specs.declared.character.TheConstants.{SPACE, TAB}
use Rattle.java_text.specs.Letters.{is_start, is_part}
use Rattle.java_lexer.specs.Grammar.{symbol}
use Rattle.java_lexer.specs.declared.state.State.{State}
use Rattle.java_lexer.specs.declared.state.State.TheVariants as state
use Rattle.java_lexer.specs.declared.form.Form.{Form}
use Rattle.java_lexer.specs.declared.form.Form.TheVariants as form
use Rattle.java_lexer.specs.declared.number.Number.{Number}
use Rattle.java_lexer.specs.declared.number.Number.TheVariants as number
use Rattle.java_lexer.specs.declared.quoted.Quoted.{Quoted}
use Rattle.java_lexer.specs.declared.quoted.Quoted.TheVariants as quoted

-- the character of a text that has one
abbrev pub sole : List ℕ → ℕ
sole [] = 0
sole (c ∷ text) = c

abbrev pub is_digit : ℕ → Bool
is_digit c = is_ascii_digit c

abbrev pub is_octal : ℕ → Bool
is_octal c = Char.is_digit c 8

abbrev pub is_hex : ℕ → Bool
is_hex c = is_ascii_hexdigit c

-- numbers

abbrev pub after_exponent_digits : ℕ → Option Form
after_exponent_digits c =
    if ((c == sole (codes "f") || c == sole (codes "F")) || c == sole (codes "d"))
    || c == sole (codes "D") then Some (form.Closed kind.FloatingPoint) else None

abbrev pub after_fraction : ℕ → Option Form
after_fraction c =
    if c == sole (codes "e") || c == sole (codes "E") then Some (form.Number number.Exponent)
    else after_exponent_digits c

abbrev pub after_digits : ℕ → Option Form
after_digits c = if c == sole (codes ".") then Some (form.Number number.Point)
    else after_fraction c

abbrev pub after_long_suffix : ℕ → Option Form
after_long_suffix c =
    if c == sole (codes "l") || c == sole (codes "L") then Some (form.Closed kind.Integer)
    else None

abbrev pub after_integer_digits : ℕ → Option Form
after_integer_digits c =
    if c == sole (codes "l") || c == sole (codes "L") then Some (form.Closed kind.Integer)
    else after_digits c

abbrev pub run : ℕ → Number → Number → Option Form → Option Form
run c more gap other =
    if is_digit c then Some (form.Number more)
    else (if c == LOW_LINE then Some (form.Number gap) else other)

abbrev pub exponent_digit : ℕ → Option Form
exponent_digit c = if is_digit c then Some (form.Number number.ExponentDigits) else None

abbrev pub binary_exponent : ℕ → Option Form
binary_exponent c =
    if c == sole (codes "p") || c == sole (codes "P") then Some (form.Number number.Exponent)
    else None

abbrev pub after_hex_digits : ℕ → Option Form
after_hex_digits c = if c == LOW_LINE then Some (form.Number number.HexGap)
    else (if c == sole (codes ".") then Some (form.Number number.HexPoint)
    else (if c == sole (codes "l") || c == sole (codes "L") then Some (form.Closed kind.Integer)
    else binary_exponent c))

abbrev pub after_zero : ℕ → Option Form
after_zero c = if is_octal c then Some (form.Number number.Octal)
    else (if is_digit c then Some (form.Number number.Digits)
    else (if c == LOW_LINE then Some (form.Number number.OctalGap)
    else (if c == sole (codes "x") || c == sole (codes "X") then Some (form.Number number.HexMark)
    else (if c == sole (codes "b")
    || c == sole (codes "B") then Some (form.Number number.BinaryMark)
    else after_integer_digits c))))

abbrev pub after_octal_digits : Number → ℕ → Option Form
after_octal_digits number.Octal c = after_integer_digits c
after_octal_digits _ c = None

abbrev pub after_octal : Number → ℕ → Option Form
after_octal n c = if is_octal c then Some (form.Number number.Octal)
    else (if is_digit c then Some (form.Number number.Digits)
    else (if c == LOW_LINE then Some (form.Number number.OctalGap) else after_octal_digits n c))

abbrev pub after_decimal : Number → ℕ → Option Form
after_decimal number.Digits c = run c number.Digits number.DigitsGap (after_digits c)
after_decimal number.DigitsGap c = run c number.Digits number.DigitsGap None
after_decimal number.Decimal c = run c number.Decimal number.DecimalGap (after_integer_digits c)
after_decimal _ c = run c number.Decimal number.DecimalGap None

abbrev pub after_point : Number → ℕ → Option Form
after_point number.Point c =
    if is_digit c then Some (form.Number number.Fraction) else after_fraction c
after_point number.Fraction c = run c number.Fraction number.FractionGap (after_fraction c)
after_point _ c = run c number.Fraction number.FractionGap None

abbrev pub after_exponent : Number → ℕ → Option Form
after_exponent number.Exponent c =
    if c == sole (codes "+") || c == sole (codes "-") then Some (form.Number number.ExponentSign)
    else exponent_digit c
after_exponent number.ExponentSign c = exponent_digit c
after_exponent number.ExponentDigits c =
    run c number.ExponentDigits number.ExponentGap (after_exponent_digits c)
after_exponent _ c = run c number.ExponentDigits number.ExponentGap None

abbrev pub after_hex_part : Number → ℕ → Option Form
after_hex_part number.HexMark c =
    if c == sole (codes ".") then Some (form.Number number.HexBarePoint) else None
after_hex_part number.Hex c = after_hex_digits c
after_hex_part _ c = if c == LOW_LINE then Some (form.Number number.HexGap) else None

abbrev pub after_hex : Number → ℕ → Option Form
after_hex n c = if is_hex c then Some (form.Number number.Hex) else after_hex_part n c

abbrev pub after_hex_fraction : Number → ℕ → Option Form
after_hex_fraction number.HexPoint c = binary_exponent c
after_hex_fraction number.HexBarePoint c = None
after_hex_fraction number.HexFraction c =
    if c == LOW_LINE then Some (form.Number number.HexFractionGap) else binary_exponent c
after_hex_fraction _ c = if c == LOW_LINE then Some (form.Number number.HexFractionGap) else None

abbrev pub after_hex_point : Number → ℕ → Option Form
after_hex_point n c =
    if is_hex c then Some (form.Number number.HexFraction) else after_hex_fraction n c

abbrev pub after_binary_digits : Number → ℕ → Option Form
after_binary_digits number.BinaryMark c = None
after_binary_digits number.Binary c =
    if c == LOW_LINE then Some (form.Number number.BinaryGap) else after_long_suffix c
after_binary_digits _ c = if c == LOW_LINE then Some (form.Number number.BinaryGap) else None

abbrev pub after_binary : Number → ℕ → Option Form
after_binary n c =
    if c == sole (codes "0") || c == sole (codes "1") then Some (form.Number number.Binary)
    else after_binary_digits n c

abbrev pub next_number : Number → ℕ → Option Form
next_number number.Zero c = after_zero c
next_number number.Octal c = after_octal number.Octal c
next_number number.OctalGap c = after_octal number.OctalGap c
next_number number.Digits c = after_decimal number.Digits c
next_number number.DigitsGap c = after_decimal number.DigitsGap c
next_number number.Decimal c = after_decimal number.Decimal c
next_number number.DecimalGap c = after_decimal number.DecimalGap c
next_number number.Point c = after_point number.Point c
next_number number.Fraction c = after_point number.Fraction c
next_number number.FractionGap c = after_point number.FractionGap c
next_number number.Exponent c = after_exponent number.Exponent c
next_number number.ExponentSign c = after_exponent number.ExponentSign c
next_number number.ExponentDigits c = after_exponent number.ExponentDigits c
next_number number.ExponentGap c = after_exponent number.ExponentGap c
next_number number.HexMark c = after_hex number.HexMark c
next_number number.Hex c = after_hex number.Hex c
next_number number.HexGap c = after_hex number.HexGap c
next_number number.HexPoint c = after_hex_point number.HexPoint c
next_number number.HexBarePoint c = after_hex_point number.HexBarePoint c
next_number number.HexFraction c = after_hex_point number.HexFraction c
next_number number.HexFractionGap c = after_hex_point number.HexFractionGap c
next_number number.BinaryMark c = after_binary number.BinaryMark c
next_number number.Binary c = after_binary number.Binary c
next_number number.BinaryGap c = after_binary number.BinaryGap c

abbrev pub number_kind : Number → Option Kind
number_kind number.Zero = Some kind.Integer
number_kind number.Octal = Some kind.Integer
number_kind number.Decimal = Some kind.Integer
number_kind number.Hex = Some kind.Integer
number_kind number.Binary = Some kind.Integer
number_kind number.Point = Some kind.FloatingPoint
number_kind number.Fraction = Some kind.FloatingPoint
number_kind number.ExponentDigits = Some kind.FloatingPoint
number_kind _ = None

-- quotations

abbrev pub begins_escape : ℕ → Bool
begins_escape c =
    is_octal c
    || ((((((((c == sole (codes "b") || c == sole (codes "s")) || c == sole (codes "t"))
    || c == sole (codes "n")) || c == sole (codes "f")) || c == sole (codes "r"))
    || c == QUOTATION_MARK) || c == APOSTROPHE) || c == BACKSLASH)

abbrev pub closing : ℕ → Option Form
closing c = if c == APOSTROPHE then Some (form.Closed kind.Character) else None

abbrev pub escape_symbol : ℕ → Option Form
escape_symbol c =
    if nat_le (sole (codes "0")) c
    && nat_le c (sole (codes "3")) then Some (form.Quoted quoted.LowOctal)
    else (if is_octal c then Some (form.Quoted quoted.Octal)
    else (if begins_escape c then Some (form.Quoted quoted.Character) else None))

abbrev pub character_symbol : ℕ → Option Form
character_symbol c = if c == BACKSLASH then Some (form.Quoted quoted.CharacterEscape)
    else (if (c == APOSTROPHE || c == LINE_FEED) || c == CARRIAGE_RETURN then None
    else Some (form.Quoted quoted.Character))

abbrev pub block_symbol : ℕ → Form → Option Form
block_symbol c at_quote = if c == QUOTATION_MARK then Some at_quote
    else (if c == BACKSLASH then Some (form.Quoted quoted.BlockEscape)
    else Some (form.Quoted quoted.Block))

abbrev pub text_symbol : ℕ → Option Form
text_symbol c = if c == BACKSLASH then Some (form.Quoted quoted.TextEscape)
    else (if c == LINE_FEED || c == CARRIAGE_RETURN then None else Some (form.Quoted quoted.Text))

abbrev pub after_text : Quoted → ℕ → Option Form
after_text quoted.Quote c =
    if c == QUOTATION_MARK then Some (form.Quoted quoted.TwoQuotes) else text_symbol c
after_text quoted.TwoQuotes c =
    if c == QUOTATION_MARK then Some (form.Quoted quoted.BlockOpening) else None
after_text quoted.Text c =
    if c == QUOTATION_MARK then Some (form.Closed kind.String) else text_symbol c
after_text _ c = if begins_escape c then Some (form.Quoted quoted.Text) else None

abbrev pub after_block : Quoted → ℕ → Option Form
after_block quoted.BlockOpening c =
    if (c == SPACE || c == TAB) || c == FORM_FEED then Some (form.Quoted quoted.BlockOpening)
    else (if c == LINE_FEED || c == CARRIAGE_RETURN then Some (form.Quoted quoted.Block) else None)
after_block quoted.Block c = block_symbol c (form.Quoted quoted.BlockQuote)
after_block quoted.BlockQuote c = block_symbol c (form.Quoted quoted.BlockTwoQuotes)
after_block quoted.BlockTwoQuotes c = block_symbol c (form.Closed kind.TextBlock)
after_block _ c =
    if (begins_escape c || c == LINE_FEED)
    || c == CARRIAGE_RETURN then Some (form.Quoted quoted.Block) else None

abbrev pub after_character : Quoted → ℕ → Option Form
after_character quoted.Apostrophe c = character_symbol c
after_character quoted.CharacterEscape c = escape_symbol c
after_character quoted.LowOctal c =
    if is_octal c then Some (form.Quoted quoted.Octal) else closing c
after_character quoted.Octal c =
    if is_octal c then Some (form.Quoted quoted.Character) else closing c
after_character _ c = closing c

abbrev pub next_quoted : Quoted → ℕ → Option Form
next_quoted quoted.Quote c = after_text quoted.Quote c
next_quoted quoted.TwoQuotes c = after_text quoted.TwoQuotes c
next_quoted quoted.Text c = after_text quoted.Text c
next_quoted quoted.TextEscape c = after_text quoted.TextEscape c
next_quoted quoted.BlockOpening c = after_block quoted.BlockOpening c
next_quoted quoted.Block c = after_block quoted.Block c
next_quoted quoted.BlockQuote c = after_block quoted.BlockQuote c
next_quoted quoted.BlockTwoQuotes c = after_block quoted.BlockTwoQuotes c
next_quoted quoted.BlockEscape c = after_block quoted.BlockEscape c
next_quoted quoted.Apostrophe c = after_character quoted.Apostrophe c
next_quoted quoted.CharacterEscape c = after_character quoted.CharacterEscape c
next_quoted quoted.LowOctal c = after_character quoted.LowOctal c
next_quoted quoted.Octal c = after_character quoted.Octal c
next_quoted quoted.Character c = after_character quoted.Character c

abbrev pub quoted_kind : Quoted → Option Kind
quoted_kind quoted.TwoQuotes = Some kind.String
quoted_kind _ = None

-- operators

abbrev pub single_operator : ℕ → Option OpTok
single_operator c =
    if c == sole (codes "(") then Some op.LeftParenthesis
    else (if c == sole (codes ")") then Some op.RightParenthesis
    else (if c == sole (codes "{") then Some op.LeftBrace
    else (if c == sole (codes "}") then Some op.RightBrace
    else (if c == sole (codes "[") then Some op.LeftBracket
    else (if c == sole (codes "]") then Some op.RightBracket
    else (if c == sole (codes ";") then Some op.Semicolon
    else (if c == sole (codes ",") then Some op.Comma
    else (if c == sole (codes ".") then Some op.Dot else (if c == sole (codes "@") then Some op.At
    else (if c == sole (codes "=") then Some op.Assign
    else (if c == sole (codes ">") then Some op.Greater
    else (if c == sole (codes "<") then Some op.Less
    else (if c == sole (codes "!") then Some op.Not
    else (if c == sole (codes "~") then Some op.Complement
    else (if c == sole (codes "?") then Some op.Question
    else (if c == sole (codes ":") then Some op.Colon
    else (if c == sole (codes "+") then Some op.Plus
    else (if c == sole (codes "-") then Some op.Minus else (if c == ASTERISK then Some op.Star
    else (if c == SLASH then Some op.Slash else (if c == sole (codes "&") then Some op.And
    else (if c == sole (codes "|") then Some op.Or else (if c == sole (codes "^") then Some op.Xor
    else (if c == sole (codes "%") then Some op.Percent else None))))))))))))))))))))))))

abbrev pub with_equals_sign : OpTok → Option OpTok
with_equals_sign op.Assign = Some op.Equal
with_equals_sign op.Greater = Some op.GreaterEqual
with_equals_sign op.Less = Some op.LessEqual
with_equals_sign op.Not = Some op.NotEqual
with_equals_sign op.Plus = Some op.PlusAssign
with_equals_sign op.Minus = Some op.MinusAssign
with_equals_sign op.Star = Some op.StarAssign
with_equals_sign op.Slash = Some op.SlashAssign
with_equals_sign op.And = Some op.AndAssign
with_equals_sign op.Or = Some op.OrAssign
with_equals_sign op.Xor = Some op.XorAssign
with_equals_sign op.Percent = Some op.PercentAssign
with_equals_sign op.ShiftLeft = Some op.ShiftLeftAssign
with_equals_sign op.ShiftRight = Some op.ShiftRightAssign
with_equals_sign op.ShiftRightUnsigned = Some op.ShiftRightUnsignedAssign
with_equals_sign _ = None

abbrev pub with_greater_sign : OpTok → Option OpTok
with_greater_sign op.Minus = Some op.Arrow
with_greater_sign op.Greater = Some op.ShiftRight
with_greater_sign op.ShiftRight = Some op.ShiftRightUnsigned
with_greater_sign _ = None

abbrev pub doubled : OpTok → ℕ → Option OpTok
doubled op.Less c = if c == sole (codes "<") then Some op.ShiftLeft else None
doubled op.And c = if c == sole (codes "&") then Some op.AndAnd else None
doubled op.Or c = if c == sole (codes "|") then Some op.OrOr else None
doubled op.Plus c = if c == sole (codes "+") then Some op.Increment else None
doubled op.Minus c = if c == sole (codes "-") then Some op.Decrement else None
doubled op.Colon c = if c == sole (codes ":") then Some op.DoubleColon else None
doubled _ c = None

abbrev pub form_of_operator : Option OpTok → Option Form
form_of_operator None = None
form_of_operator (Some operator) = Some (form.Operator operator)

abbrev pub next_operator : OpTok → ℕ → Option Form
next_operator operator c =
    form_of_operator (if c == sole (codes "=") then with_equals_sign operator
    else (if c == sole (codes ">") then with_greater_sign operator else doubled operator c))

abbrev pub after_dot : ℕ → Option Form
after_dot c =
    if c == sole (codes ".") then Some form.TwoDots
    else (if is_digit c then Some (form.Number number.Fraction) else None)

abbrev pub after_operator : OpTok → ℕ → Option Form
after_operator op.Dot c = after_dot c
after_operator op.Slash c = if c == SLASH then Some form.LineComment else next_operator op.Slash c
after_operator operator c = next_operator operator c

-- every form

abbrev pub next_form : Form → ℕ → Option Form
next_form (form.Closed kind) c = None
next_form form.Return c = if c == LINE_FEED then Some (form.Closed kind.Blank) else None
next_form form.LineComment c =
    if c == LINE_FEED || c == CARRIAGE_RETURN then None else Some form.LineComment
next_form (form.Comment star) c =
    if star && c == SLASH then Some (form.Closed kind.Blank)
    else Some (form.Comment (c == ASTERISK))
next_form (form.Operator operator) c = after_operator operator c
next_form form.TwoDots c = if c == sole (codes ".") then Some (form.Operator op.Ellipsis) else None
next_form (form.Number number) c = next_number number c
next_form (form.Quoted quoted) c = next_quoted quoted c

abbrev pub first_form : ℕ → Option Form
first_form c =
    if ((c == SPACE || c == TAB) || c == FORM_FEED)
    || c == LINE_FEED then Some (form.Closed kind.Blank)
    else (if c == CARRIAGE_RETURN then Some form.Return
    else (if c == sole (codes "0") then Some (form.Number number.Zero)
    else (if nat_le (sole (codes "1")) c
    && nat_le c (sole (codes "9")) then Some (form.Number number.Decimal)
    else (if c == QUOTATION_MARK then Some (form.Quoted quoted.Quote)
    else (if c == APOSTROPHE then Some (form.Quoted quoted.Apostrophe)
    else form_of_operator (single_operator c))))))

abbrev pub form_kind : Form → Option Kind
form_kind (form.Closed kind) = Some kind
form_kind form.Return = Some kind.Blank
form_kind form.LineComment = Some kind.Blank
form_kind (form.Comment star) = None
form_kind (form.Operator operator) = Some (kind.Operator operator)
form_kind form.TwoDots = None
form_kind (form.Number number) = number_kind number
form_kind (form.Quoted quoted) = quoted_kind quoted

-- a whole piece, words too

abbrev pub other : Option Form → Option State
other None = None
other (Some q) = Some (state.Other q)

abbrev pub next_state : State → ℕ → Option State
next_state state.Start c = if is_high_surrogate c then Some (state.FirstPair c)
    else (if is_start c then Some state.Word else other (first_form (symbol c)))
next_state (state.FirstPair high) c =
    if is_low_surrogate c && is_start (surrogate_pair_char high c) then Some state.Word else None
next_state state.Word c =
    if is_high_surrogate c then Some (state.WordPair c)
    else (if is_part c then Some state.Word else None)
next_state (state.WordPair high) c =
    if is_low_surrogate c && is_part (surrogate_pair_char high c) then Some state.Word else None
next_state (state.Other q) c = other (next_form q (symbol c))

abbrev pub state_kind : State → Option Kind
state_kind state.Word = Some kind.Word
state_kind (state.Other q) = form_kind q
state_kind _ = None

-- the piece that ends here, or a shorter one
abbrev pub better : ℕ → Option Kind → Option (ℕ × Kind) → Option (ℕ × Kind)
better n None best = best
better n (Some k) best = Some (n, k)

abbrev pub go_on : Option State → (State → Option (ℕ × Kind)) → Option (ℕ × Kind)
    → Option (ℕ × Kind)
go_on None further best = best
go_on (Some q) further best = further q

-- The units from the n-th on, from this state: the last place at which a piece may end.
abbrev pub scan : State → ℕ → Option (ℕ × Kind) → List ℕ → Option (ℕ × Kind)
scan q n best [] = best
scan q n best (c ∷ units) =
    go_on (next_state q c)
    (λ next. scan next (n + 1) (better (n + 1) (state_kind next) best) units) best
