-- Sums with a text (JLS 15.18.1).
use Rattle.std.specs.Prelude.{ℕ, ℤ, List, [], ◌∷◌, ◌++◌, codes, if◌then◌else◌}
use Rattle.std.specs.Fmt.{signed_decimal}
use Rattle.java_names.specs.ModifiedUtf8.{modified_utf8}
use Rattle.const_values.specs.declared.constant.Constant.{Constant}
use Rattle.const_values.specs.declared.constant.Constant.TheVariants.{Boolean, Byte, Short, Char}
use Rattle.const_values.specs.declared.constant.Constant.TheVariants.{Int, Long, Str}
use Rattle.const_values.specs.Outcome.{Outcome, text_or_too_long}

-- the digits of a number, the highest first, behind a minus sign where it is negative
abbrev pub decimal_text : ℤ → List ℕ
decimal_text n = signed_decimal n

-- the text of a constant (JLS 5.1.11): a char is its unit, and a boolean its name
abbrev pub text_of : Constant → List ℕ
text_of (Boolean b) = if b then codes "true" else codes "false"
text_of (Byte n) = decimal_text n
text_of (Short n) = decimal_text n
text_of (Char unit) = modified_utf8 (unit ∷ [])
text_of (Int n) = decimal_text n
text_of (Long n) = decimal_text n
text_of (Str text) = text

abbrev pub concatenation : Constant → Constant → Outcome
concatenation a b = text_or_too_long (text_of a ++ text_of b)
