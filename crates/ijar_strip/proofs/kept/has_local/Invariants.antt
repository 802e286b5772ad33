use Rattle.std.proofs.Common.{◌≡◌, take, false}
use Rattle.std.specs.List.{list_any}
use Rattle.class_views.specs.Kept.{is_local}
use Rattle.ijar_strip.proofs.kept.has_local.Given as goal

abbrev pub invariant-loop-desc : goal.invariant-loop-desc
invariant-loop-desc l = list_any is_local (take l.desc-index l.list) ≡ false
