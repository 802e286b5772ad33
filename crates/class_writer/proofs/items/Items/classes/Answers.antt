use Rattle.std.proofs.Common.{◌∷◌, [], length}
use Rattle.class_desc.specs.Layout.{Count, class_item}
use Rattle.class_writer.proofs.Putting.{puts_more}
use Rattle.class_writer.proofs.items.Items.classes.Goals as goal

pub loop-name-preserved : goal.loop-name-preserved
loop-name-preserved c =
    puts_more (λ name. class_item name ∷ []) (Count (length c.args.names.now))
    c.loop-name.name-index c.args.names.now
    c.name-item.result c.loop-name-test.true c.name-item.is c.loop-name.invariant
    c.in_ok-class.ensures
