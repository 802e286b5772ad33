-- What a job makes, and how it is handed over.
use Rattle.std.specs.Prelude.{◌≡◌, List, map}
use Rattle.command_line.specs.Words.{Command, Ijar, Asks}
use Rattle.run_ends.specs.OutFiles.{file_seen}
use Rattle.run_ends.specs.Outside.{OutsState, SinkState}
use Rattle.run_ends.specs.Tells.{FilesPut, TextTold, all_lines}
use Rattle.run_ends.specs.declared.status.Status.{Status}
use Rattle.run_ends.specs.declared.status.Status.TheVariants.{Done}
use Rattle.commands.specs.declared.made.Made.{Made}
use Rattle.commands.specs.declared.made.Made.TheVariants.{Files, Lines}
use Rattle.commands.specs.Outcome.{Outcome, made, told}

-- what it comes to
abbrev pub outcome_made : Made → Outcome
outcome_made (Files list) = made (map file_seen list.items)
outcome_made (Lines lines) = told lines.items

-- what a command makes: `ijar` files, `ask` lines
abbrev pub Makes : Command → Made → Type 0
Makes (Ijar inputs output) (Files list) = Unit {0}
Makes (Ijar inputs output) (Lines lines) = ⊥
Makes (Asks asked) (Files list) = ⊥
Makes (Asks asked) (Lines lines) = Unit {0}

-- Files are written or lines are told, all or a front of them, and the other object is left alone.
abbrev pub HandedOver : Made → Status → OutsState → OutsState → SinkState → SinkState → Type 0
HandedOver (Files list) s outs outs' out out' =
    (out' ≡ out) × FilesPut (map file_seen list.items) s outs outs'
HandedOver (Lines lines) s outs outs' out out' =
    (outs' ≡ outs) × TextTold Done (all_lines lines.items) s out out'
