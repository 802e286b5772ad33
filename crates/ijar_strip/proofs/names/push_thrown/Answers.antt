use Rattle.std.proofs.Common.{[]}
use Rattle.std.specs.Prelude.{unwrap_or}
use Rattle.class_desc.specs.declared.attribute.Attr.{out-Attr}
use Rattle.class_views.specs.View.{thrown_in}
use Rattle.ijar_strip.proofs.Loops.{flat_step}
use Rattle.ijar_strip.proofs.names.push_thrown.Goals as goal

pub loop-attribute-preserved : goal.loop-attribute-preserved
loop-attribute-preserved c =
    cc (
      flat_step (λ a. unwrap_or (thrown_in (out-Attr a)) []) c.args.places.now
          c.args.attributes.now c.loop-attribute.attribute-index c.attribute-item.result
          c.loop-attribute-test.true c.attribute-item.is,
      c.in_ok-push_names.ensures,
      c.thrown.ensures,
    )
