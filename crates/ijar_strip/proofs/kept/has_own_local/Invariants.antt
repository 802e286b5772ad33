use Rattle.std.proofs.Common.{◌≡◌, take, false}
use Rattle.std.specs.List.{list_any}
use Rattle.class_views.specs.Kept.{is_own_local}
use Rattle.ijar_strip.proofs.kept.has_own_local.Given as goal

abbrev pub invariant-loop-entry : goal.invariant-loop-entry
invariant-loop-entry l = list_any (is_own_local l.name) (take l.entry-index l.entries) ≡ false
