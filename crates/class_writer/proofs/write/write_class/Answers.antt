use Rattle.std.proofs.Common.{ap, ◌∙◌}
use Rattle.std.specs.List.{flat_map}
use Rattle.std.proofs.lemmas.Result.{err_from_is_err_and}
use Rattle.class_desc.specs.Layout.{class_items, item_needs, needs, pool_of, numbers_needed}
use Rattle.class_writer.specs.Refusal.{first_refusal, need_refusal, item_refusal, pool_refusal}
use Rattle.class_writer.specs.Refusal.{checked, refusal}
use Rattle.class_writer.proofs.Pools.{is_layout, numbers_written}
use Rattle.class_writer.proofs.Refusals.{no_refusal, third_refusal, is_cause}
use Rattle.class_writer.proofs.Writes.{writes_as}
use Rattle.class_writer.proofs.write.write_class.Goals as goal

pub returns-in_err-check_pool-clause-refused : goal.returns-in_err-check_pool-clause-refused
returns-in_err-check_pool-clause-refused c =
    let d = c.args.desc.now in
    let same = c.items-items.ensures ∙ c.in_ok-outline.ensures in
    let p = err_from_is_err_and c.from_residual-in_err-check_pool.result
    c.from_residual-in_err-check_pool.ensures.1 in
    let numbers = numbers_written d c.in_ok-writer.writer c.write.new.self c.in_ok-writer.ensures
    (writes_as same c.in_ok-write.ensures) in
    rw (p.1, p.2) (is_cause c.in_err-check_pool.field-0.0 (refusal d)
    (third_refusal (first_refusal need_refusal (needs d))
    (first_refusal item_refusal (class_items d))
    (pool_refusal (numbers_needed (pool_of d))) c.in_err-check_pool.field-0.0
    (c.in_ok-check_texts.ensures ∙ ap
    (λ items. checked (first_refusal need_refusal (flat_map item_needs items))) same)
    (c.in_ok-check_counts.ensures ∙ ap (λ items. checked (first_refusal item_refusal items)) same)
    (c.in_err-check_pool.ensures ∙ ap (λ n. checked (pool_refusal n)) numbers)))

pub returns-clause-layout : goal.returns-clause-layout
returns-clause-layout c =
    let same = c.items-items.ensures ∙ c.in_ok-outline.ensures in
    c.in_ok-file.ensures
    ∙ is_layout c.args.desc.now c.in_ok-writer.writer c.write.new.self c.in_ok-writer.ensures
    (writes_as same c.in_ok-write.ensures)

pub returns-clause-fits : goal.returns-clause-fits
returns-clause-fits c =
    let d = c.args.desc.now in
    let same = c.items-items.ensures ∙ c.in_ok-outline.ensures in
    let numbers = numbers_written d c.in_ok-writer.writer c.write.new.self c.in_ok-writer.ensures
    (writes_as same c.in_ok-write.ensures) in
    no_refusal (first_refusal need_refusal (needs d)) (first_refusal item_refusal (class_items d))
    (pool_refusal (numbers_needed (pool_of d)))
    (c.in_ok-check_texts.ensures ∙ ap
    (λ items. checked (first_refusal need_refusal (flat_map item_needs items))) same)
    (c.in_ok-check_counts.ensures ∙ ap (λ items. checked (first_refusal item_refusal items)) same)
    (c.in_ok-check_pool.ensures ∙ ap (λ n. checked (pool_refusal n)) numbers)
