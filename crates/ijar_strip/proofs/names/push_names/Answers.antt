use Rattle.ijar_strip.proofs.Loops.{take_step}
use Rattle.ijar_strip.proofs.names.push_names.Goals as goal

pub loop-name-preserved : goal.loop-name-preserved
loop-name-preserved c =
    cc (
      take_step c.args.places.now c.args.names.now c.loop-name.name-index c.name-item.result
          c.loop-name-test.true c.name-item.is,
      c.in_ok-push.ensures.new,
      c.bytes.ensures,
    )
