use Rattle.std.proofs.Common.{ℕ, List}
use Rattle.std.specs.Borrow.{Bor}
use Rattle.option_words.specs.Paths.{path_of}
use Rattle.option_words.proofs.Each.{made_none_yet, made_more, made_none, made_all}
use Rattle.option_words.proofs.paths.path_values.Goals as goal

abbrev now : Bor (List ℕ) → List ℕ
now text = text.now

pub loop-value-init : goal.loop-value-init
loop-value-init c =
    made_none_yet now now path_of c.args.values.now c.in_ok-paths.paths.items
    c.in_ok-paths.ensures.items

pub loop-value-preserved : goal.loop-value-preserved
loop-value-preserved c =
    made_more now now path_of c.args.values.now c.loop-value.paths.items c.loop-value.value-index
    _ c.loop-value-test.true c.loop-value.invariant c.push.new.self.items c.in-Some.path
    c.in_ok-push-in-Some.ensures.items c.in-Some.ensures

pub returns-in-None : goal.returns-in-None
returns-in-None c =
    made_none now now path_of c.args.values.now c.loop-value.paths.items c.loop-value.value-index
    _ c.loop-value-test.true c.loop-value.invariant c.in-None.ensures

pub returns : goal.returns
returns c =
    made_all now now path_of c.args.values.now c.loop-value.paths.items c.loop-value.value-index
    c.loop-value-test.false c.loop-value.invariant
