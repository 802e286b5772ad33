use Rattle.std.proofs.Common.{refl, sym, ap, ◌∙◌}
use Rattle.std.specs.declared.vec.Vec.{Vec}
use Rattle.std.specs.declared.alloc.Global.{Global}
use Rattle.questions.specs.declared.ask.AskedValue.{AskedValue}
use Rattle.questions.specs.Asked.{all_asked}
use Rattle.questions.specs.Kinds.{kind_of}
use Rattle.questions.proofs.Asked.{asked_more, asked_nothing}
use Rattle.questions.proofs.ask.asked_values.Goals as goal
use Rattle.questions.proofs.ask.asked_values.Goals.{in-Some+in_ok-push, in_default}

pub loop-one-preserved : goal.loop-one-preserved
loop-one-preserved c = elim c.match-of_option.branch [
  | in-Some+in_ok-push w ↦
      ap (λ (v : Vec AskedValue Global). all_asked v.items) w.found-is
      ∙ asked_more c.args.given.now c.loop-one.one-index _ c.loop-one.found.items
      c.loop-one-test.true c.loop-one.invariant w.push.new.self.items _ w.in_ok-push.ensures.items
      (sym (w.in-Some.ensures ∙ ap kind_of c.as_bytes.ensures.value)) refl
  | in_default w ↦
      ap (λ (v : Vec AskedValue Global). all_asked v.items) w.found-is
      ∙ asked_nothing c.args.given.now c.loop-one.one-index _ c.loop-one.found.items
      c.loop-one-test.true c.loop-one.invariant
      (sym (w.in_default.ensures ∙ ap kind_of c.as_bytes.ensures.value))
]
