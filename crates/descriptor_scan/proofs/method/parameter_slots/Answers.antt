use Rattle.std.proofs.Common.{◌∙◌, sym, arith}
use Rattle.std.proofs.lemmas.Bool.{false≢true}
use Rattle.descriptor_scan.proofs.Passed.{first_byte, tail_of, otherwise_at, otherwise_at_end}
use Rattle.descriptor_scan.proofs.Methods.{no_method, no_parameters, no_result, none_by_text}
use Rattle.descriptor_scan.proofs.Methods.{only_so, some_by_text}
use Rattle.descriptor_scan.proofs.method.parameter_slots.Goals as goal

pub returns-in_default-clause-by_text : goal.returns-in_default-clause-by_text
returns-in_default-clause-by_text c
    = none_by_text c.args.text.now (no_method c.args.text.now
    (otherwise_at_end 40 c.args.text.now c.in_default.len_below))

pub returns-in_default-2-clause-by_text : goal.returns-in_default-2-clause-by_text
returns-in_default-2-clause-by_text c
    = none_by_text c.args.text.now (no_method c.args.text.now
    (otherwise_at 40 c.args.text.now (λ e. absurd (omega arith))))

pub returns-then-is_result-clause-only : goal.returns-then-is_result-clause-only
returns-then-is_result-clause-only c =
    let text = c.args.text.now in
    only_so text (tail_of text) c.in-Some.ret.now c.in-Some.count (first_byte 40 text (omega arith)
    (omega arith)) c.in-Some.ensures

pub returns-then-is_result-clause-by_text : goal.returns-then-is_result-clause-by_text
returns-then-is_result-clause-by_text c =
    let text = c.args.text.now in
    some_by_text text (tail_of text) c.in-Some.ret.now c.in-Some.count (first_byte 40 text
    (omega arith) (omega arith)) c.in-Some.ensures
    (c.is_result.ensures.spelled c.if-is_result.true)

pub returns-else-is_result-clause-only : goal.returns-else-is_result-clause-only
returns-else-is_result-clause-only c =
    let text = c.args.text.now in
    λ formals ret s. absurd (no_result text (tail_of text) c.in-Some.ret.now c.in-Some.count
    (first_byte 40 text (omega arith) (omega arith)) c.in-Some.ensures
    (λ t right whole. false≢true (sym c.if-is_result.false
    ∙ c.is_result.ensures.only t right whole)) formals ret s)

pub returns-else-is_result-clause-by_text : goal.returns-else-is_result-clause-by_text
returns-else-is_result-clause-by_text c =
    let text = c.args.text.now in
    none_by_text text (no_result text (tail_of text) c.in-Some.ret.now c.in-Some.count
    (first_byte 40 text (omega arith) (omega arith)) c.in-Some.ensures
    (λ t right whole. false≢true (sym c.if-is_result.false
    ∙ c.is_result.ensures.only t right whole)))

pub returns-in_default-behind_formals-clause-by_text
    : goal.returns-in_default-behind_formals-clause-by_text
returns-in_default-behind_formals-clause-by_text c =
    let text = c.args.text.now in
    none_by_text text (λ formals ret s. no_parameters text (tail_of text) formals ret
    (first_byte 40 text (omega arith) (omega arith)) c.in_default-behind_formals.ensures s)
