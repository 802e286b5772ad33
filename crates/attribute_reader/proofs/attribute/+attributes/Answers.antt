use Rattle.std.proofs.Common.{List, [], sym, ap, subst, ◌∙◌}
use Rattle.std.specs.List.{cons_option}
use Rattle.std.proofs.lemmas.Result.{err_from_is_err_and}
use Rattle.class_desc.specs.declared.attribute.Attr.{Attr}
use Rattle.pool_reader.specs.Reading.{Fails}
use Rattle.pool_reader.proofs.Times.{goes_on, ends, is_done}
use Rattle.attribute_reader.specs.Attributes.{attribute_at, component_at, component_of}
use Rattle.attribute_reader.proofs.Loops.{grows, growing_ends, grown}
use Rattle.attribute_reader.proofs.attribute.+attributes.Goals as goal

pub attribute_list-returns-in_err-next : goal.attribute_list-returns-in_err-next
attribute_list-returns-in_err-next t c =
    let p = err_from_is_err_and c.from_residual.result c.from_residual.ensures.1 in
    let pool = c.args.pool.now in
    let read = attribute_at pool (component_of pool c.args.place) c.args.place
    c.args.descriptor.now in
    rw (p.1, p.2)
    (growing_ends read c.in_err-next.field-0.0 c.loop.attrs.items c.args.count c.loop.counter
    c.loop.reader _ c.loop-test.true
    (subst (λ (before : List Attr). Fails c.in_err-next.field-0.0 (read before c.loop.reader))
    c.deref.ensures.value c.in_err-next.ensures)
    c.loop.invariant)

pub attribute_list-loop-preserved : goal.attribute_list-loop-preserved
attribute_list-loop-preserved t c =
    let pool = c.args.pool.now in
    let read = attribute_at pool (component_of pool c.args.place) c.args.place
    c.args.descriptor.now in
    rw c.in_ok-add_some.ensures
    (grows read c.loop.attrs.items (cons_option c.in_ok-next.next []) c.args.count c.loop.counter
    c.loop.reader c.attribute.new.reader _ c.loop-test.true
    (ap (λ (before : List Attr). read before c.loop.reader) (sym c.deref.ensures.value)
    ∙ c.in_ok-next.ensures)
    c.loop.invariant)

pub attribute_list-returns : goal.attribute_list-returns
attribute_list-returns t c =
    let pool = c.args.pool.now in
    rw c.of.ensures
    (grown (attribute_at pool (component_of pool c.args.place) c.args.place c.args.descriptor.now)
    c.loop.attrs.items c.args.count c.loop.counter c.loop.reader _ c.loop-test.false
    c.loop.invariant)

pub component_list-returns-in_err-next : goal.component_list-returns-in_err-next
component_list-returns-in_err-next t c =
    let p = err_from_is_err_and c.from_residual-in_err-next.result
    c.from_residual-in_err-next.ensures.1 in
    rw (p.1, p.2)
    (ends c.in_err-next.field-0.0
    (component_at c.args.pool.now) _ c.args.count c.loop.counter
    c.loop.body _
    c.loop-test.true c.in_err-next.ensures c.loop.invariant)

pub component_list-loop-preserved : goal.component_list-loop-preserved
component_list-loop-preserved t c =
    rw c.in_ok-push.ensures.items
    (goes_on
    (component_at c.args.pool.now) _ c.args.count c.loop.counter
    c.loop.body c.in_ok-next.next
    c.component.new.body _ c.loop-test.true c.in_ok-next.ensures c.loop.invariant)

pub component_list-returns : goal.component_list-returns
component_list-returns t c =
    rw c.of.ensures
    (is_done
    (component_at c.args.pool.now) _ c.args.count c.loop.counter
    c.loop.body _ c.loop-test.false
    c.loop.invariant)
