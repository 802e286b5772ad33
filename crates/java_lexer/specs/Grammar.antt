-- The lexical grammar of JLS 3.6, 3.7, 3.10, 3.11 and 3.12: productions, each a sequence of items.
-- A production spells a list of units where the list is cut into parts that its items spell, one
-- after the other. Identifiers (JLS 3.8) are in Words, traditional comments in `comment` below.
use Rattle.std.specs.Prelude.{ℕ, Bool, true, false, ◌&&◌, ◌||◌, not, ◌==◌, nat_le, List, [], ◌∷◌}
use Rattle.std.specs.Prelude.{◌++◌, map, min, codes, Option, Some, None, if◌then◌else◌}
use Rattle.std.specs.List.{list_any, list_all}
use Rattle.java_token.specs.declared.operator.OpTok.{OpTok}
use Rattle.java_text.specs.declared.character.TheConstants.{APOSTROPHE, ASTERISK, BACKSLASH}
use Rattle.java_text.specs.declared.character.TheConstants.{CARRIAGE_RETURN, FORM_FEED, LINE_FEED}
use Rattle.java_text.specs.declared.character.TheConstants.{LOW_LINE, QUOTATION_MARK, SLASH}
use Rattle.java_text.specs.declared.character.TheConstants.{SPACE, TAB}
use Rattle.java_lexer.specs.declared.kind.Kind.{Kind}
use Rattle.java_lexer.specs.declared.kind.Kind.TheVariants as kind
use Rattle.java_lexer.specs.declared.escape.TheConstants.{SIMPLE_ESCAPES}
use Rattle.java_lexer.specs.declared.operator.TheConstants.{OPERATORS}

-- The grammar tells ASCII units apart. Every unit above them is as 128.
abbrev pub symbol : ℕ → ℕ
symbol c = min c 128

-- a set of units: from some ranges, or all but a few
pub data Units : Type 0 where
  Within : List (ℕ × ℕ) → Units
  Except : List ℕ → Units

abbrev pub holds : Units → ℕ → Bool
holds (Within ranges) s = list_any (λ r. nat_le r.0 s && nat_le s r.1) ranges
holds (Except units) s = not (list_any (λ u. u == s) units)

-- the unit is of the set
abbrev pub has : Units → ℕ → Bool
has units c = holds units (symbol c)

-- what has been read of a text block: whole characters, or one or two quotation marks of three, or
-- the backslash of an escape
pub data Read : Type 0 where
  Characters : Read
  Quote : Read
  TwoQuotes : Read
  Backslash : Read

-- What an item spells:
-- One: one unit of the set. Maybe: the same, or nothing. Many: any number of units of the set.
-- Tail: what follows a digit in a run of digits: digits and underscores, of which the last is no
--   underscore (JLS 3.10.1); the flag says that an underscore stands right before.
-- StringTail: the characters of a string up to its closing quotation mark (JLS 3.10.5); the flag
--   says that an escape has begun.
-- BlockTail: the rest of a text block (JLS 3.10.6), behind what has been read of it.
-- CommentTail: the rest of a traditional comment (JLS 3.7), which ends at its first `*/`; the flag
--   says that an asterisk stands right before.
pub data Item : Type 0 where
  One : Units → Item
  Maybe : Units → Item
  Many : Units → Item
  Tail : Units → Bool → Item
  StringTail : Bool → Item
  BlockTail : Read → Item
  CommentTail : Bool → Item

abbrev pub is_empty : List ℕ → Bool
is_empty [] = true
is_empty (c ∷ w) = false

-- a line terminator is a line feed, a carriage return, or the one behind the other (JLS 3.4)
abbrev pub line_terminators : List ℕ
line_terminators = LINE_FEED ∷ CARRIAGE_RETURN ∷ []

abbrev pub any_of : List ℕ → Units
any_of units = Within (map (λ c. (c, c)) units)

abbrev pub first_and_last : List ℕ → ℕ × ℕ
first_and_last (first ∷ last ∷ units) = (first, last)
first_and_last _ = (1, 0)

-- the units from the first one of a text to its second, for each of these texts
abbrev pub from_to : List (List ℕ) → Units
from_to texts = Within (map first_and_last texts)

abbrev pub octal_digit : Units
octal_digit = from_to (codes "07" ∷ [])

-- What stands behind a backslash in an escape of one unit (JLS 3.10.7): a letter or a sign of the
-- table, or an octal digit. Further octal digits spell characters too, so they need no rule in a
-- string.
abbrev pub simple_escape : Units
simple_escape = any_of (map (λ (entry : ℕ × ℕ). entry.0) SIMPLE_ESCAPES)

abbrev pub begins_escape : ℕ → Bool
begins_escape c = has simple_escape c || has octal_digit c

abbrev pub is_tail : Units → Bool → List ℕ → Bool
is_tail digits gap [] = not gap
is_tail digits gap (c ∷ w) = if has digits c then is_tail digits false w
    else (symbol c == LOW_LINE && is_tail digits true w)

abbrev pub is_string_tail : Bool → List ℕ → Bool
is_string_tail escaped [] = not escaped
is_string_tail false (c ∷ w) = if symbol c == BACKSLASH then is_string_tail true w
    else (has (Except (QUOTATION_MARK ∷ line_terminators)) c && is_string_tail false w)
is_string_tail true (c ∷ w) = begins_escape c && is_string_tail false w

-- some front passes p, and what follows it q
abbrev pub is_cut : (List ℕ → Bool) → (List ℕ → Bool) → List ℕ → Bool
is_cut p q [] = p [] && q []
is_cut p q (c ∷ w) = (p [] && q (c ∷ w)) || is_cut (λ v. p (c ∷ v)) q w

-- the characters of a text block: any unit but a backslash, or an escape, which may be one of a
-- line terminator
abbrev pub are_block_characters : List ℕ → Bool
are_block_characters [] = true
are_block_characters (c ∷ []) = not (c == BACKSLASH)
are_block_characters (c ∷ d ∷ w) = if c == BACKSLASH
    then (begins_escape d || has (any_of line_terminators) d) && are_block_characters w
    else are_block_characters (d ∷ w)

abbrev pub are_three_quotes : List ℕ → Bool
are_three_quotes (a ∷ b ∷ c ∷ []) =
    a == QUOTATION_MARK && (b == QUOTATION_MARK && c == QUOTATION_MARK)
are_three_quotes _ = false

-- such characters, and three quotation marks behind them
abbrev pub ends_block : List ℕ → Bool
ends_block w = is_cut are_block_characters are_three_quotes w

abbrev pub is_some : List ℕ → Bool
is_some w = not (is_empty w)

-- that is the rest of a text block of which no shorter front is so
abbrev pub is_block_rest : List ℕ → Bool
is_block_rest w = ends_block w && not (is_cut ends_block is_some w)

abbrev pub read_units : Read → List ℕ
read_units Characters = []
read_units Quote = QUOTATION_MARK ∷ []
read_units TwoQuotes = QUOTATION_MARK ∷ QUOTATION_MARK ∷ []
read_units Backslash = BACKSLASH ∷ []

abbrev pub is_comment_tail : Bool → List ℕ → Bool
is_comment_tail star [] = false
is_comment_tail star (c ∷ w) = if star && symbol c == SLASH then is_empty w
    else is_comment_tail (symbol c == ASTERISK) w

abbrev pub is_one : Units → List ℕ → Bool
is_one units [] = false
is_one units (c ∷ w) = has units c && is_empty w

-- the item spells these units
abbrev pub is_item : Item → List ℕ → Bool
is_item (One units) w = is_one units w
is_item (Maybe units) w = is_empty w || is_one units w
is_item (Many units) w = list_all (has units) w
is_item (Tail digits gap) w = is_tail digits gap w
is_item (StringTail escaped) w = is_string_tail escaped w
is_item (BlockTail read) w = is_block_rest (read_units read ++ w)
is_item (CommentTail star) w = is_comment_tail star w

-- the items, one after the other, spell these units
abbrev pub is_spelled : List Item → List ℕ → Bool
is_spelled [] w = is_empty w
is_spelled (x ∷ items) w = is_cut (is_item x) (is_spelled items) w

abbrev pub Production : Type 0
Production = Kind × List Item

-- the kind of the first production that spells the units
unfoldable pub kind_by : List Production → List ℕ → Option Kind
kind_by [] w = None
kind_by (p ∷ ps) w = if is_spelled p.1 w then Some p.0 else kind_by ps w

-- one given unit
abbrev pub the : ℕ → Item
the c = One (any_of (c ∷ []))

-- a text, unit by unit
abbrev pub text : List ℕ → List Item
text units = map the units

-- White space (JLS 3.6): a space, a tab, a form feed, or a line terminator. An end-of-line comment
-- (JLS 3.7) goes on to the end of its line.
abbrev pub blanks : List Production
blanks = (kind.Blank, One (any_of (SPACE ∷ TAB ∷ FORM_FEED ∷ LINE_FEED ∷ [])) ∷ [])
    ∷ (kind.Blank, the CARRIAGE_RETURN ∷ Maybe (any_of (LINE_FEED ∷ [])) ∷ [])
    ∷ (kind.Blank, text (codes "//") ++ Many (Except line_terminators) ∷ []) ∷ []

abbrev pub digit : Units
digit = from_to (codes "09" ∷ [])

abbrev pub non_zero_digit : Units
non_zero_digit = from_to (codes "19" ∷ [])

abbrev pub hex_digit : Units
hex_digit = from_to (codes "09" ∷ codes "AF" ∷ codes "af" ∷ [])

abbrev pub binary_digit : Units
binary_digit = from_to (codes "01" ∷ [])

-- digits, with underscores between them
abbrev pub digits : Units → List Item
digits set = One set ∷ Tail set false ∷ []

-- an integer literal of these items, behind which a suffix may stand
abbrev pub integer : List Item → Production
integer items = (kind.Integer, items ++ Maybe (any_of (codes "lL")) ∷ [])

abbrev pub hex_mark : List Item
hex_mark = text (codes "0") ++ One (any_of (codes "xX")) ∷ []

abbrev pub binary_mark : List Item
binary_mark = text (codes "0") ++ One (any_of (codes "bB")) ∷ []

-- Integer literals (JLS 3.10.1): 0, or digits of which the first is not 0; 0x and hexadecimal
-- digits; 0 and octal digits, with underscores before the first or without; 0b and binary digits.
abbrev pub integers : List Production
integers = integer (text (codes "0"))
    ∷ integer (One non_zero_digit ∷ Tail digit false ∷ [])
    ∷ integer (hex_mark ++ digits hex_digit)
    ∷ integer (text (codes "0") ++ digits octal_digit)
    ∷ integer (text (codes "0_") ++ Tail octal_digit true ∷ [])
    ∷ integer (binary_mark ++ digits binary_digit) ∷ []

-- an exponent indicator, a sign or none, and decimal digits
abbrev pub exponent : List ℕ → List Item
exponent indicators = One (any_of indicators) ∷ Maybe (any_of (codes "+-")) ∷ digits digit

abbrev pub exponent_part : List Item
exponent_part = exponent (codes "eE")

abbrev pub binary_exponent : List Item
binary_exponent = exponent (codes "pP")

abbrev pub float_type_suffix : Units
float_type_suffix = any_of (codes "fFdD")

-- a floating-point literal of these items, behind which a suffix may stand
abbrev pub floating_point : List Item → Production
floating_point items = (kind.FloatingPoint, items ++ Maybe float_type_suffix ∷ [])

abbrev pub point : List Item
point = text (codes ".")

-- Decimal floating-point literals (JLS 3.10.2): digits, a point, and then digits or none, an
-- exponent or none; a point and digits; digits and an exponent; digits and a suffix. A suffix may
-- follow each.
abbrev pub decimals : List Production
decimals = floating_point (digits digit ++ (point ++ (digits digit ++ exponent_part)))
    ∷ floating_point (digits digit ++ (point ++ digits digit))
    ∷ floating_point (digits digit ++ (point ++ exponent_part))
    ∷ floating_point (digits digit ++ point)
    ∷ floating_point (point ++ (digits digit ++ exponent_part))
    ∷ floating_point (point ++ digits digit)
    ∷ floating_point (digits digit ++ exponent_part)
    ∷ (kind.FloatingPoint, digits digit ++ One float_type_suffix ∷ []) ∷ []

-- Hexadecimal floating-point literals (JLS 3.10.2): the digits may have a point behind them,
-- before them or among them, and a binary exponent follows.
abbrev pub hexadecimals : List Production
hexadecimals =
    floating_point (hex_mark ++ (digits hex_digit ++ Maybe (any_of (codes ".")) ∷ binary_exponent))
    ∷ floating_point (hex_mark ++ (point ++ (digits hex_digit ++ binary_exponent)))
    ∷ floating_point
    (hex_mark ++ (digits hex_digit ++ (point ++ (digits hex_digit ++ binary_exponent)))) ∷ []

abbrev pub zero_to_three : Units
zero_to_three = from_to (codes "03" ∷ [])

-- a character literal of these items
abbrev pub character : List Item → Production
character items = (kind.Character, the APOSTROPHE ∷ (items ++ the APOSTROPHE ∷ []))

-- A character literal (JLS 3.10.4) holds one unit, or an escape (JLS 3.10.7): a backslash and a
-- letter or sign, or one to three octal digits, three only where the first is at most 3. A string
-- literal (JLS 3.10.5) stands on one line. A text block (JLS 3.10.6) has white space and a line
-- terminator behind its opening quotation marks.
abbrev pub literals : List Production
literals = character (One (Except (APOSTROPHE ∷ BACKSLASH ∷ line_terminators)) ∷ [])
    ∷ character (the BACKSLASH ∷ One simple_escape ∷ [])
    ∷ character (the BACKSLASH ∷ One octal_digit ∷ [])
    ∷ character (the BACKSLASH ∷ One octal_digit ∷ One octal_digit ∷ [])
    ∷ character (the BACKSLASH ∷ One zero_to_three ∷ One octal_digit ∷ One octal_digit ∷ [])
    ∷ (kind.String, the QUOTATION_MARK ∷ StringTail false ∷ the QUOTATION_MARK ∷ [])
    ∷ (
      kind.TextBlock,
      text (QUOTATION_MARK ∷ QUOTATION_MARK ∷ QUOTATION_MARK ∷ [])
          ++ (Many (any_of (SPACE ∷ TAB ∷ FORM_FEED ∷ [])) ∷ One (any_of line_terminators)
          ∷ BlockTail Characters ∷ []),
    ) ∷ []

-- how a separator or an operator is written
abbrev pub Spelling : Type 0
Spelling = (record { now : List ℕ }) × OpTok

-- the separators (JLS 3.11) and the operators (JLS 3.12)
abbrev pub operator : Spelling → Production
operator spelling = (kind.Operator spelling.1, text spelling.0.now)

abbrev pub operators : List Production
operators = map operator OPERATORS

-- every input element but identifiers and traditional comments
unfoldable pub grammar : List Production
grammar = blanks ++ (integers ++ (decimals ++ (hexadecimals ++ (literals ++ operators))))

-- A traditional comment (JLS 3.7): comments do not nest.
unfoldable pub comment : List Production
comment = (kind.Blank, text (codes "/*") ++ CommentTail false ∷ []) ∷ []
