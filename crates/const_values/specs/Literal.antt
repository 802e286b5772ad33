-- Literals, by themselves or with a unary minus before them (JLS 3.10, 15.8.1).
use Rattle.std.specs.Prelude.{ℕ, ◌+◌, ◌-◌, ◌^◌, ℤ, pos, neg_ℤ, Bool, true, false, nat_le}
use Rattle.std.specs.Prelude.{if◌then◌else◌, Option, Some, None, Ok, Err}
use Rattle.std.specs.Int.{w32, w64}
use Rattle.java_ast.specs.declared.expression.Lit.{Lit}
use Rattle.java_ast.specs.declared.expression.Lit.TheVariants as of
use Rattle.java_ast.specs.declared.expression.UnOp.TheVariants.{Minus}
use Rattle.const_values.specs.declared.constant.Constant.TheVariants.{Boolean, Char, Int, Long}
use Rattle.const_values.specs.declared.constant.NoConstant.TheVariants.{NotConst, Range}
use Rattle.const_values.specs.declared.constant.NoConstant.TheVariants.{Unsupported}
use Rattle.const_values.specs.Numbers.{wrapped}
use Rattle.const_values.specs.Outcome.{Outcome, text_or_too_long}
use Rattle.const_values.specs.Unary.{unary}

-- the greatest right literal of a type that has so many numbers from 0 up: the greatest of these,
-- or one more behind a minus; one that isn't decimal may use the bit of the sign
abbrev pub greatest : Bool → Bool → ℕ → ℕ
greatest true true half = half
greatest true false half = half - 1
greatest false negated half = half + half - 1

abbrev pub signed : Bool → ℕ → ℤ
signed negated n = if negated then neg_ℤ (pos n) else pos n

abbrev pub int_integer : ℕ → Bool → Bool → Outcome
int_integer n decimal negated =
    if nat_le n (greatest decimal negated (2 ^ 31)) then Ok (Int (wrapped w32 (signed negated n)))
    else Err Range

abbrev pub long_integer : ℕ → Bool → Bool → Outcome
long_integer n decimal negated =
    if nat_le n (greatest decimal negated (2 ^ 63)) then Ok (Long (wrapped w64 (signed negated n)))
    else Err Range

-- none stands for a literal above 64 bits
abbrev pub integer : Option ℕ → Bool → Bool → Bool → Outcome
integer (Some n) decimal true negated = long_integer n decimal negated
integer (Some n) decimal false negated = int_integer n decimal negated
integer None decimal long negated = Err Range

abbrev pub negated_if : Bool → Outcome → Outcome
negated_if true a = unary Minus a
negated_if false a = a

abbrev pub literal : Lit → Bool → Outcome
literal (of.Int value decimal long) negated = integer value decimal long negated
literal (of.Real double) negated = Err Unsupported
literal (of.Char unit) negated = negated_if negated (Ok (Char unit))
literal (of.Str text) negated = negated_if negated (text_or_too_long text)
literal (of.Bool b) negated = negated_if negated (Ok (Boolean b))
literal of.Null negated = Err NotConst
