-- How translated units end, as far as the next one asks. Only contracts of private functions cite
-- it.
use Rattle.std.specs.Prelude.{◌≡◌, List, length, not, take_while}
use Rattle.java_text.specs.declared.escape.Input.{Input}
use Rattle.java_text.specs.declared.escape.Ending.{Ending}
use Rattle.java_text.specs.Source.{is_backslash, is_first_escaped, is_even}

-- so end the units of which the most recent stand first
pub record EndsSo (recent : List Input) (ending : Ending) : Type 0 where
  pub escaped : ending.is_escaped ≡ is_first_escaped recent
  pub odd : ending.is_odd ≡ not (is_even (length (take_while is_backslash recent)))
