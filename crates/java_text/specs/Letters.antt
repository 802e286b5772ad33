-- The characters of identifiers (JLS 3.8), by their general categories in Unicode.
use Rattle.std.specs.Prelude.{ℕ, Bool, true, false, ◌&&◌, ◌||◌, not, ◌==◌, nat_le}
use Rattle.std.specs.Str.{all_scalars}
use Rattle.std.specs.Prelude.{[], ◌∷◌}
use Rattle.unicode.specs.GeneralCategory.{general_category}
use Rattle.ucd_category.specs.declared.GeneralCategory.{GeneralCategory}
use Rattle.ucd_category.specs.declared.GeneralCategory.TheVariants.{UppercaseLetter}
use Rattle.ucd_category.specs.declared.GeneralCategory.TheVariants.{LowercaseLetter}
use Rattle.ucd_category.specs.declared.GeneralCategory.TheVariants.{TitlecaseLetter}
use Rattle.ucd_category.specs.declared.GeneralCategory.TheVariants.{ModifierLetter, OtherLetter}
use Rattle.ucd_category.specs.declared.GeneralCategory.TheVariants.{LetterNumber, CurrencySymbol}
use Rattle.ucd_category.specs.declared.GeneralCategory.TheVariants.{ConnectorPunctuation}
use Rattle.ucd_category.specs.declared.GeneralCategory.TheVariants.{DecimalNumber, NonspacingMark}
use Rattle.ucd_category.specs.declared.GeneralCategory.TheVariants.{SpacingMark, Format}
use Rattle.ucd_category.specs.declared.GeneralCategory.TheVariants.{SpaceSeparator, LineSeparator}
use Rattle.ucd_category.specs.declared.GeneralCategory.TheVariants.{ParagraphSeparator}

-- letters, letter numbers, currency signs and connecting punctuation begin an identifier
abbrev pub begins_name : GeneralCategory → Bool
begins_name UppercaseLetter = true
begins_name LowercaseLetter = true
begins_name TitlecaseLetter = true
begins_name ModifierLetter = true
begins_name OtherLetter = true
begins_name LetterNumber = true
begins_name CurrencySymbol = true
begins_name ConnectorPunctuation = true
begins_name _ = false

-- they go on one too, and so do digits, marks and format characters
abbrev pub goes_on : GeneralCategory → Bool
goes_on DecimalNumber = true
goes_on NonspacingMark = true
goes_on SpacingMark = true
goes_on Format = true
goes_on category = begins_name category

-- the control characters that an identifier may hold
abbrev pub is_ignorable : ℕ → Bool
is_ignorable c =
    nat_le c 0x08 || ((nat_le 0x0E c && nat_le c 0x1B) || (nat_le 0x7F c && nat_le c 0x9F))

-- the code point is a character, and begins an identifier
unfoldable pub is_start : ℕ → Bool
is_start c = all_scalars (c ∷ []) && begins_name (general_category c)

-- the code point is a character, and goes on one
unfoldable pub is_part : ℕ → Bool
is_part c = all_scalars (c ∷ []) && (is_ignorable c || goes_on (general_category c))

-- spaces and separators of lines and paragraphs
abbrev pub separates : GeneralCategory → Bool
separates SpaceSeparator = true
separates LineSeparator = true
separates ParagraphSeparator = true
separates _ = false

-- no-break spaces are no white space
abbrev pub is_no_break : ℕ → Bool
is_no_break c = c == 0xA0 || (c == 0x2007 || c == 0x202F)

-- tabs, line ends and the ASCII separators
abbrev pub is_control_white : ℕ → Bool
is_control_white c = (nat_le 0x09 c && nat_le c 0x0D) || (nat_le 0x1C c && nat_le c 0x1F)

-- the code point is a character, and white space where text blocks are stripped (JLS 3.10.6,
-- String.stripIndent)
unfoldable pub is_white : ℕ → Bool
is_white c =
    all_scalars (c ∷ [])
    && ((separates (general_category c) && not (is_no_break c)) || is_control_white c)
