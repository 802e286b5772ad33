use Rattle.std.proofs.Common.{length}
use Rattle.class_desc.specs.Layout.{Count, annotation_items}
use Rattle.class_writer.proofs.Putting.{puts_more}
use Rattle.class_writer.proofs.items.Items.annotations.Goals as goal

pub loop-annotation-preserved : goal.loop-annotation-preserved
loop-annotation-preserved c =
    puts_more annotation_items (Count (length c.args.annotations.now))
    c.loop-annotation.annotation-index c.args.annotations.now
    c.annotation-item.result c.loop-annotation-test.true c.annotation-item.is
    c.loop-annotation.invariant c.in_ok-annotation.ensures
