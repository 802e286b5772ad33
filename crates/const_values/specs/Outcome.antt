-- What an expression comes to: a constant, or why there is none (JLS 15.29).
use Rattle.std.specs.Prelude.{ℕ, ℤ, Bool, List, [], ◌∷◌, length, nat_le, if◌then◌else◌, Option}
use Rattle.std.specs.Prelude.{Some, None, Result, Ok, Err}
use Rattle.const_values.specs.declared.constant.Constant.{Constant}
use Rattle.const_values.specs.declared.constant.Constant.TheVariants.{Boolean, Int, Long, Str}
use Rattle.const_values.specs.declared.constant.NoConstant.{NoConstant}
use Rattle.const_values.specs.declared.constant.NoConstant.TheVariants.{NotConst, Range, TooLong}
use Rattle.const_values.specs.declared.constant.NoConstant.TheVariants.{Unsupported}
use Rattle.const_values.specs.declared.constant.TheConstants.{LONGEST_TEXT}

abbrev pub Outcome : Type 0
Outcome = Result Constant NoConstant

-- the first of two reasons
abbrev pub earlier : NoConstant → NoConstant → NoConstant
earlier NotConst other = NotConst
earlier Range NotConst = NotConst
earlier Range other = Range
earlier TooLong NotConst = NotConst
earlier TooLong Range = Range
earlier TooLong other = TooLong
earlier Unsupported other = other

abbrev pub or_earlier : NoConstant → Outcome → NoConstant
or_earlier reason (Ok c) = reason
or_earlier reason (Err other) = earlier reason other

-- what an operator makes of one operand, if it is a constant
abbrev pub with_one : (Constant → Outcome) → Outcome → Outcome
with_one f (Ok a) = f a
with_one f (Err reason) = Err reason

-- of two operands, if both are constants
abbrev pub with_two : (Constant → Constant → Outcome) → Outcome → Outcome → Outcome
with_two f (Ok a) (Ok b) = f a b
with_two f (Ok a) (Err reason) = Err reason
with_two f (Err reason) b = Err (or_earlier reason b)

-- of three operands, if all are constants
abbrev pub with_three : (Constant → Constant → Constant → Outcome) → Outcome → Outcome → Outcome
    → Outcome
with_three f (Ok a) b c = with_two (f a) b c
with_three f (Err reason) b c = Err (or_earlier (or_earlier reason b) c)

-- a constant of the type, where there is one
abbrev pub boolean_or_none : Option Bool → Outcome
boolean_or_none (Some b) = Ok (Boolean b)
boolean_or_none None = Err NotConst

abbrev pub int_or_none : Option ℤ → Outcome
int_or_none (Some n) = Ok (Int n)
int_or_none None = Err NotConst

abbrev pub long_or_none : Option ℤ → Outcome
long_or_none (Some n) = Ok (Long n)
long_or_none None = Err NotConst

-- a text, unless it has more bytes than a class file can hold (JVMS 4.4.7)
abbrev pub text_or_too_long : List ℕ → Outcome
text_or_too_long text = if nat_le (length text) LONGEST_TEXT then Ok (Str text) else Err TooLong
