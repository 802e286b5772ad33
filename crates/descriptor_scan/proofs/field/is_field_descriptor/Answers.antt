use Rattle.std.proofs.Common.{◌∙◌, sym, ap, length, false}
use Rattle.std.proofs.lemmas.Bool.{eqb-true, eq-eqb, false≢true}
use Rattle.std.proofs.lemmas.List.{nil_from_length}
use Rattle.descriptor_scan.proofs.Passed.{field_spelled, field_ends, field_none, by_text}
use Rattle.descriptor_scan.proofs.field.is_field_descriptor.Goals as goal

pub returns-in-Some-clause-spelled : goal.returns-in-Some-clause-spelled
returns-in-Some-clause-spelled c = λ e.
    field_spelled c.args.text.now c.in-Some.rest.now c.in-Some.ensures
    (nil_from_length c.in-Some.rest.now
    (eqb-true (length c.in-Some.rest.now) 0 (sym c.is_empty.ensures ∙ e)))

pub returns-in-Some-clause-only : goal.returns-in-Some-clause-only
returns-in-Some-clause-only c = λ t s.
    c.is_empty.ensures
    ∙ eq-eqb (length c.in-Some.rest.now) 0 (ap length
    (field_ends c.args.text.now c.in-Some.rest.now c.in-Some.ensures t s))

pub returns-in-Some-clause-by_text : goal.returns-in-Some-clause-by_text
returns-in-Some-clause-by_text c
    = by_text c.args.text.now c.is_empty.result (returns-in-Some-clause-spelled c)
    (returns-in-Some-clause-only c)

pub returns-in-None-clause-only : goal.returns-in-None-clause-only
returns-in-None-clause-only c = λ t s. absurd (field_none c.args.text.now c.in-None.ensures t s)

pub returns-in-None-clause-by_text : goal.returns-in-None-clause-by_text
returns-in-None-clause-by_text c
    = by_text c.args.text.now false (λ e. absurd (false≢true e)) (returns-in-None-clause-only c)
