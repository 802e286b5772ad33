use Rattle.class_writer.proofs.Seen.{ends}
use Rattle.class_writer.proofs.items.Items.end_attribute.Goals as goal

pub returns : goal.returns
returns c =
    ends c.args.body c.args.self.now c.self.inside.items.items c.self.inside.size
    c.size-size.result
    c.saturating_add.result c.saturating_add-self-inside.result
    c.self.view_is c.size-size.ensures c.size-size.type_inv c.saturating_add.ensures
    c.saturating_add-self-inside.ensures
