-- Numeric promotion (JLS 5.6).
use Rattle.std.specs.Prelude.{ℤ, pos, Option, Some, None, option_map}
use Rattle.const_values.specs.declared.constant.Constant.{Constant}
use Rattle.const_values.specs.declared.constant.Constant.TheVariants as constant
use Rattle.const_values.specs.declared.promotion.Promoted.{Promoted}
use Rattle.const_values.specs.declared.promotion.Promoted.TheVariants.{Int, Long}
use Rattle.const_values.specs.declared.promotion.Pair.{Pair}
use Rattle.const_values.specs.declared.promotion.Pair.TheVariants.{Ints, Longs}

-- unary promotion: a byte, short or char is an int
abbrev pub promoted : Constant → Option Promoted
promoted (constant.Boolean b) = None
promoted (constant.Byte n) = Some (Int n)
promoted (constant.Short n) = Some (Int n)
promoted (constant.Char unit) = Some (Int (pos unit))
promoted (constant.Int n) = Some (Int n)
promoted (constant.Long n) = Some (Long n)
promoted (constant.Str text) = None

-- binary promotion: both are longs where one is a long, else both are ints
abbrev pub pair_of : Option Promoted → Option Promoted → Option Pair
pair_of (Some (Int a)) (Some (Int b)) = Some (Ints a b)
pair_of (Some (Int a)) (Some (Long b)) = Some (Longs a b)
pair_of (Some (Long a)) (Some (Int b)) = Some (Longs a b)
pair_of (Some (Long a)) (Some (Long b)) = Some (Longs a b)
pair_of _ _ = None

abbrev pub promoted_pair : Constant → Constant → Option Pair
promoted_pair a b = pair_of (promoted a) (promoted b)

-- the number itself, which promotion doesn't change
abbrev pub value_of : Promoted → ℤ
value_of (Int n) = n
value_of (Long n) = n

abbrev pub number_of : Constant → Option ℤ
number_of a = option_map value_of (promoted a)
