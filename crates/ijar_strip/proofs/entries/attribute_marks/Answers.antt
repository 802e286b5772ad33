use Rattle.ijar_strip.specs.Marks.{attribute_marks}
use Rattle.ijar_strip.proofs.Loops.{map_step}
use Rattle.ijar_strip.proofs.entries.attribute_marks.Goals as goal

pub loop-attribute-preserved : goal.loop-attribute-preserved
loop-attribute-preserved c =
    cc (
      map_step (attribute_marks c.args.desc.now) c.items-attributes.result.now
          c.loop-attribute.attribute-index c.attribute-item.result c.loop-attribute-test.true
          c.attribute-item.is,
      c.in_ok-marks_of.ensures,
      c.in_ok-push.ensures.items,
    )
