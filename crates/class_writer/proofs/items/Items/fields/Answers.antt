use Rattle.std.proofs.Common.{length, ap}
use Rattle.class_desc.specs.Layout.{Count, member_items, field_items}
use Rattle.class_writer.proofs.Putting.{puts_as, puts_more}
use Rattle.class_writer.proofs.items.Items.fields.Goals as goal

pub loop-field-preserved : goal.loop-field-preserved
loop-field-preserved c =
    let x = c.field-item.result in
    puts_more field_items (Count (length c.args.fields.now)) c.loop-field.field-index
    c.args.fields.now
    x c.loop-field-test.true c.field-item.is c.loop-field.invariant
    (puts_as (ap (member_items x.flags x.name x.descriptor) c.items.ensures)
    c.in_ok-member.ensures)
