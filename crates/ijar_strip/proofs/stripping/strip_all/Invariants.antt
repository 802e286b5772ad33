use Rattle.std.proofs.Common.{◌≡◌, map, take}
use Rattle.std.specs.Prelude.{Some, None, if◌then◌else◌}
use Rattle.class_views.specs.Strip.{strip_class}
use Rattle.class_views.specs.Kept.{is_kept}
use Rattle.ijar_strip.proofs.stripping.strip_all.Given as goal

abbrev pub invariant-loop-index : goal.invariant-loop-index
invariant-loop-index l = l.all.items
    ≡ map (λ d. if is_kept l.list d then Some (strip_class d) else None) (take l.index l.list)
