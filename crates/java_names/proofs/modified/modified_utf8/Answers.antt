use Rattle.std.proofs.Common.{◌∙◌, sym, append-nil, append_assoc}
use Rattle.std.proofs.lemmas.List.{drop_all, drop_more}
use Rattle.java_names.proofs.modified.modified_utf8.Goals as goal

pub loop-unit-preserved : goal.loop-unit-preserved
loop-unit-preserved c = rw (c.in_ok-push_unit.ensures, append_assoc)
    (rw (drop_more c.args.units.now _ 0 c.loop-unit-test.true) at c.loop-unit.invariant)

pub returns : goal.returns
returns c =
    c.from.ensures ∙ sym (append-nil _)
    ∙ (rw (drop_all _ c.args.units.now c.loop-unit-test.false) at c.loop-unit.invariant)
