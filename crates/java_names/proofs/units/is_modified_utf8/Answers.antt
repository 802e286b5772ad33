use Rattle.std.proofs.Common.{◌∙◌, sym, ap, length}
use Rattle.std.specs.Prelude.{is_some}
use Rattle.std.proofs.lemmas.Bool.{eqb-false, eqb-true}
use Rattle.std.proofs.lemmas.List.{nil_from_length}
use Rattle.java_names.proofs.ModifiedUtf8.{front_more, front_stuck, front_done}
use Rattle.java_names.proofs.Decoded.{accepted, refused}
use Rattle.java_names.proofs.units.is_modified_utf8.Goals as goal

pub returns-in_default-clause-exact : goal.returns-in_default-clause-exact
returns-in_default-clause-exact c =
    let front = c.loop-rest.invariant in
    sym (ap is_some (refused c.args.bytes.now
    (front_stuck c.args.bytes.now front.0 c.loop-rest.rest.now front.1
    (λ empty. eqb-false (length c.loop-rest.rest.now) 0
    (sym c.is_empty.ensures ∙ c.loop-rest-test.true) (ap length empty))
    c.in_default.ensures)))

pub returns-in_default-clause-refused : goal.returns-in_default-clause-refused
returns-in_default-clause-refused c = λ e valid.
    let front = c.loop-rest.invariant in
    front_stuck c.args.bytes.now front.0 c.loop-rest.rest.now front.1
    (λ empty. eqb-false (length c.loop-rest.rest.now) 0
    (sym c.is_empty.ensures ∙ c.loop-rest-test.true) (ap length empty))
    c.in_default.ensures valid

pub loop-rest-preserved : goal.loop-rest-preserved
loop-rest-preserved c =
    let front = c.loop-rest.invariant in (
      _,
      front_more c.args.bytes.now front.0 c.loop-rest.rest.now c.in-Some.field-0-0
          c.in-Some.behind.now front.1 c.in-Some.ensures,
    )

pub returns-clause-exact : goal.returns-clause-exact
returns-clause-exact c =
    let front = c.loop-rest.invariant in
    sym (ap is_some (accepted c.args.bytes.now front.0
    (front_done c.args.bytes.now front.0 c.loop-rest.rest.now front.1
    (nil_from_length c.loop-rest.rest.now
    (eqb-true (length c.loop-rest.rest.now) 0
    (sym c.is_empty.ensures ∙ c.loop-rest-test.false)))) front.1.fit))
