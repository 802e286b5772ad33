use Rattle.std.proofs.Common.{length}
use Rattle.class_desc.specs.Layout.{Count, inner_class_items}
use Rattle.class_writer.proofs.Putting.{puts_more}
use Rattle.class_writer.proofs.items.Items.inner_classes.Goals as goal

pub loop-entry-preserved : goal.loop-entry-preserved
loop-entry-preserved c =
    puts_more inner_class_items (Count (length c.args.entries.now)) c.loop-entry.entry-index
    c.args.entries.now
    c.entry-item.result c.loop-entry-test.true c.entry-item.is c.loop-entry.invariant
    c.in_ok-inner_class.ensures
