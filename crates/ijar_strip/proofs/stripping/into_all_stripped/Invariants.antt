use Rattle.std.proofs.Common.{◌≡◌, ◌≤◌, length, map, take, drop}
use Rattle.std.specs.Prelude.{Some, None, if◌then◌else◌}
use Rattle.std.specs.Vec.Iter.{into_iter_items}
use Rattle.class_views.specs.Strip.{strip_class}
use Rattle.class_views.specs.Kept.{is_kept}
use Rattle.ijar_strip.proofs.stripping.into_all_stripped.Given as goal

abbrev pub invariant-loop-desc : goal.invariant-loop-desc
invariant-loop-desc l =
    let all = into_iter_items l.initial.desc-iterator in
    record {
      within : l.index ≤ length all;
      rest : into_iter_items l.desc-iterator ≡ drop l.index all;
      done : l.all.items ≡ map (λ d. if is_kept all d then Some (strip_class d) else None)
          (take l.index all);
    }
