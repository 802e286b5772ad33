-- Of several parts the first reason that there is no constant.
use Rattle.std.specs.Prelude.{ℕ, Bool, false, ◌==◌, List, find, Option, Ok, Err}
use Rattle.std.specs.List.{list_any}
use Rattle.const_values.specs.declared.constant.NoConstant.{NoConstant}
use Rattle.const_values.specs.declared.constant.NoConstant.TheVariants.{NotConst, Range, TooLong}
use Rattle.const_values.specs.declared.constant.NoConstant.TheVariants.{Unsupported}
use Rattle.const_values.specs.declared.several_parts.TheConstants.{REASONS}
use Rattle.const_values.specs.Outcome.{Outcome}

-- the place in the order
abbrev pub place : NoConstant → ℕ
place NotConst = 0
place Range = 1
place TooLong = 2
place Unsupported = 3

-- the part is no constant, for this reason
abbrev pub has : NoConstant → Outcome → Bool
has reason (Ok a) = false
has reason (Err other) = place other == place reason

-- the first of the reasons that a part has
abbrev pub combined : List Outcome → Option NoConstant
combined parts = find (λ reason. list_any (has reason) parts) REASONS
