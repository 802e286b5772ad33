use Rattle.std.proofs.lemmas.Result.{on_ok_weaker}
use Rattle.class_writer.proofs.ValueSteps.{constant_put, enumerated_put, class_of_put, nested_put}
use Rattle.class_writer.proofs.ValueSteps.{list_put, annotation_put, element_put}
use Rattle.class_writer.proofs.items.Items.+values.Goals as goal

pub annotation-returns : goal.annotation-returns
annotation-returns t c =
    on_ok_weaker c.elements.result (annotation_put c.args.annotation.now c.items.result.now
    c.items.ensures c.in_ok-text.ensures) c.elements.ensures

pub element-returns : goal.element-returns
element-returns t c = on_ok_weaker c.value.result
    (element_put c.args.element.now c.in_ok-text.ensures) c.value.ensures

pub value-returns-in_ok-push-in-Const : goal.value-returns-in_ok-push-in-Const
value-returns-in_ok-push-in-Const t c =
    on_ok_weaker c.push-in-Const.result
    (constant_put c.args.value.now c.in-Const.tag c.in-Const.value _ c.in-Const.is
    c.need_of.ensures c.in_ok-push-in-Const.ensures)
    c.push-in-Const.ensures

pub value-returns-in_ok-text-in-Enumerated : goal.value-returns-in_ok-text-in-Enumerated
value-returns-in_ok-text-in-Enumerated t c =
    on_ok_weaker c.text-in-Enumerated.result
    (enumerated_put c.args.value.now c.in-Enumerated.descriptor c.in-Enumerated.name
    c.in-Enumerated.is
    c.in_ok-push-in-Enumerated.ensures c.in_ok-text-in-Enumerated.ensures)
    c.text-in-Enumerated.ensures

pub value-returns-in_ok-push-in-ClassOf : goal.value-returns-in_ok-push-in-ClassOf
value-returns-in_ok-push-in-ClassOf t c =
    on_ok_weaker c.text-in-ClassOf.result
    (class_of_put c.args.value.now c.in-ClassOf.descriptor c.in-ClassOf.is
    c.in_ok-push-in-ClassOf.ensures)
    c.text-in-ClassOf.ensures

pub value-returns-in_ok-push-in-Nested : goal.value-returns-in_ok-push-in-Nested
value-returns-in_ok-push-in-Nested t c =
    on_ok_weaker c.annotation.result
    (nested_put c.args.value.now c.in-Nested.annotation c.get.result.now c.in-Nested.is
    c.get.ensures c.in_ok-push-in-Nested.ensures)
    c.annotation.ensures

pub value-returns-in_ok-push-in-List : goal.value-returns-in_ok-push-in-List
value-returns-in_ok-push-in-List t c =
    on_ok_weaker c.values.result
    (list_put c.args.value.now c.in-List.values c.items.result.now c.in-List.is c.items.ensures
    c.in_ok-push-in-List.ensures)
    c.values.ensures
