use Rattle.std.proofs.Common.{◌∙◌, ◌++◌, ap}
use Rattle.std.specs.Prelude.{option_to_list}
use Rattle.std.specs.List.{filter_map}
use Rattle.class_views.specs.View.{view_of_desc}
use Rattle.client_view.specs.Indexed.{superclasses}
use Rattle.client_view.specs.Numbers.{number_of, row_of}
use Rattle.client_view.proofs.Repeats.{rows_more}
use Rattle.client_view.proofs.numbers.superclass_rows.Goals as goal

pub loop-class-preserved : goal.loop-class-preserved
loop-class-preserved c = λ world tells.
    rows_more (λ d. row_of world superclasses (view_of_desc d)) c.args.classes.now
    c.loop-class.class-index c.class-item.result c.loop-class.rows c.push.new.self
    c.deref.result.now c.loop-class-test.true c.class-item.is
    (c.loop-class.invariant world tells)
    (c.deref.ensures.value ∙ c.in_ok-push_superclass.ensures world tells
    ∙ ap (λ l. l ++ filter_map (number_of world)
    (option_to_list c.class-item.result.super_name)) c.clear.ensures.items)
    c.in_ok-push.ensures.ok
