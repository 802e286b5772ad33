use Rattle.class_views.specs.Strip.{thrown_names, stays_method}
use Rattle.ijar_strip.proofs.Loops.{filtered_step}
use Rattle.ijar_strip.proofs.names.push_all_staying.Goals as goal

pub loop-method-preserved : goal.loop-method-preserved
loop-method-preserved c =
    cc (
      filtered_step thrown_names stays_method c.args.places.now c.args.methods.now
          c.loop-method.method-index c.method-item.result c.loop-method-test.true c.method-item.is,
      c.in_ok-push_staying.ensures,
    )
