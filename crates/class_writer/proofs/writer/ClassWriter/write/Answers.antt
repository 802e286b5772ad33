use Rattle.class_writer.specs.Seen.{item_seen}
use Rattle.class_writer.proofs.Writes.{writes_more}
use Rattle.class_writer.proofs.writer.ClassWriter.write.Goals as goal

pub loop-item-preserved : goal.loop-item-preserved
loop-item-preserved c =
    writes_more item_seen c.loop-item.item-index c.args.items.now _ c.loop-item-test.true
    c.loop-item.invariant c.in_ok-item.ensures
