use Rattle.std.proofs.Common.{map, ap, ◌∙◌}
use Rattle.std.specs.Prelude.{Some, None, if◌then◌else◌}
use Rattle.std.proofs.lemmas.List.{take_all}
use Rattle.class_views.specs.Strip.{strip_class}
use Rattle.class_views.specs.Kept.{is_kept}
use Rattle.projection.proofs.Written.{left_keeps}
use Rattle.ijar_strip.proofs.stripping.strip_all.Goals as goal

pub returns-clause-answers : goal.returns-clause-answers
returns-clause-answers c = λ one.
    let list = c.args.list.now in
    left_keeps list c.loop-index.all.items
    (c.loop-index.invariant
    ∙ ap (map (λ d. if is_kept list d then Some (strip_class d) else None))
    (take_all c.loop-index.index list c.loop-index-test.false))
    one
