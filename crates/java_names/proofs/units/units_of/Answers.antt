use Rattle.std.proofs.Common.{◌∙◌, sym, ap, length}
use Rattle.std.proofs.lemmas.Bool.{eqb-false, eqb-true}
use Rattle.std.proofs.lemmas.List.{nil_from_length}
use Rattle.java_names.proofs.ModifiedUtf8.{front_stuck, front_done}
use Rattle.java_names.proofs.Decoded.{accepted, refused}
use Rattle.java_names.proofs.units.units_of.Goals as goal

pub returns-in_default : goal.returns-in_default
returns-in_default c =
    sym (refused c.args.bytes.now
    (front_stuck c.args.bytes.now c.loop-rest.units.items c.loop-rest.rest.now
    c.loop-rest.invariant
    (λ empty. eqb-false (length c.loop-rest.rest.now) 0
    (sym c.is_empty.ensures ∙ c.loop-rest-test.true) (ap length empty))
    c.in_default.ensures))

pub returns : goal.returns
returns c =
    sym (accepted c.args.bytes.now c.loop-rest.units.items
    (front_done c.args.bytes.now c.loop-rest.units.items c.loop-rest.rest.now
    c.loop-rest.invariant
    (nil_from_length c.loop-rest.rest.now
    (eqb-true (length c.loop-rest.rest.now) 0
    (sym c.is_empty.ensures ∙ c.loop-rest-test.false)))) c.loop-rest.invariant.fit)
