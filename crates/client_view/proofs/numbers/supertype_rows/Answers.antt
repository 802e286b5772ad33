use Rattle.std.proofs.Common.{◌∙◌, ◌++◌, ap, sym}
use Rattle.std.specs.Prelude.{option_to_list}
use Rattle.std.specs.List.{filter_map}
use Rattle.std.proofs.lemmas.List.Elements.{filter_map-append}
use Rattle.class_views.specs.View.{view_of_desc}
use Rattle.class_views.specs.World.{supertypes}
use Rattle.client_view.specs.Numbers.{number_of, row_of}
use Rattle.client_view.proofs.Repeats.{rows_more}
use Rattle.client_view.proofs.numbers.supertype_rows.Goals as goal

pub loop-class-preserved : goal.loop-class-preserved
loop-class-preserved c = λ world tells.
    let d = c.class-item.result in
    rows_more (λ x. row_of world supertypes (view_of_desc x)) c.args.classes.now
    c.loop-class.class-index d c.loop-class.rows c.push.new.self
    c.deref.result.now c.loop-class-test.true c.class-item.is
    (c.loop-class.invariant world tells)
    (c.deref.ensures.value ∙ c.in_ok-push_superclass.ensures world tells
    ∙ ap (λ l. l ++ filter_map (number_of world) (option_to_list d.super_name))
    (c.in_ok-push_superinterfaces.ensures world tells
    ∙ ap (λ l. l ++ filter_map (number_of world) d.interfaces) c.clear.ensures.items)
    ∙ sym (filter_map-append (number_of world) d.interfaces (option_to_list d.super_name)))
    c.in_ok-push.ensures.ok
