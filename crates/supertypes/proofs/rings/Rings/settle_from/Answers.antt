use Rattle.std.proofs.Common.{◌∙◌, ap, sym, refl, length, arith}
use Rattle.supertypes.proofs.Stepped.{new_few, set_out_first, entered_open, settled_on}
use Rattle.supertypes.proofs.Work.{then_new, entered_were_new}
use Rattle.supertypes.proofs.rings.Rings.settle_from.Goals as goal

pub enter-requires : goal.enter-requires
enter-requires c =
    new_few c.args.self.now.standings.items c.args.class (sym c.standing.ensures ∙ c.in-New.is)

pub loop-self-init : goal.loop-self-init
loop-self-init c =
    let is_new = sym c.standing.ensures ∙ c.in-New.is in
    record {
      on_way = set_out_first c.args.graph.now c.args.self.now c.enter.new.self c.args.class
          c.args.class c.requires.settled is_new c.in_ok-enter.ensures;
      new = entered_were_new c.args.self.now c.args.self.now c.enter.new.self c.args.class
          c.in_ok-enter.ensures is_new refl;
      started =
          entered_open c.args.graph.now c.args.self.now c.enter.new.self
          c.requires.settled.on_way.picture c.requires.settled.on_way.shows c.args.class is_new
          c.in_ok-enter.ensures;
    }

pub loop-self-preserved : goal.loop-self-preserved
loop-self-preserved c = record {
  on_way = c.in_ok-step.ensures.on_way;
  new = then_new c.args.self.now c.loop-self.self c.step.new.self c.loop-self.invariant.new
      c.in_ok-step.ensures.new;
  started = λ e. c.loop-self.invariant.started (c.in_ok-step.ensures.new c.args.class e);
}

pub returns-in_default : goal.returns-in_default
returns-in_default c =
    settled_on c.args.graph.now c.args.self.now c.args.self.now c.args.class c.requires.settled
    c.requires.settled.on_way (ap length c.requires.settled.none) (λ n e. e)
    (λ e. c.in_default.not-New (c.standing.ensures ∙ e))

pub returns : goal.returns
returns c =
    let long = ap length c.as_slice.ensures.value in
    settled_on c.args.graph.now c.args.self.now c.loop-self.self c.args.class c.requires.settled
    c.loop-self.invariant.on_way (omega (arith, long, c.loop-self-test.false))
    c.loop-self.invariant.new c.loop-self.invariant.started
