use Rattle.std.proofs.Common.{length, ap}
use Rattle.class_desc.specs.Layout.{Count, member_items, method_items}
use Rattle.class_writer.proofs.Putting.{puts_as, puts_more}
use Rattle.class_writer.proofs.items.Items.methods.Goals as goal

pub loop-method-preserved : goal.loop-method-preserved
loop-method-preserved c =
    let x = c.method-item.result in
    puts_more method_items (Count (length c.args.methods.now)) c.loop-method.method-index
    c.args.methods.now
    x c.loop-method-test.true c.method-item.is c.loop-method.invariant
    (puts_as (ap (member_items x.flags x.name x.descriptor) c.items.ensures)
    c.in_ok-member.ensures)
