use Rattle.std.proofs.Common.{length}
use Rattle.class_desc.specs.Layout.{ParameterCount, parameter_items}
use Rattle.class_writer.proofs.Putting.{puts_more}
use Rattle.class_writer.proofs.items.Items.parameters.Goals as goal

pub loop-entry-preserved : goal.loop-entry-preserved
loop-entry-preserved c =
    puts_more parameter_items (ParameterCount (length c.args.entries.now))
    c.loop-entry.entry-index c.args.entries.now
    c.entry-item.result c.loop-entry-test.true c.entry-item.is c.loop-entry.invariant
    c.in_ok-parameter.ensures
