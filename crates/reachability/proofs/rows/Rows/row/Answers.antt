use Rattle.reachability.proofs.Laid.{in_ends}
use Rattle.reachability.proofs.rows.Rows.row.Goals as goal

pub row_of-requires-clause-index : goal.row_of-requires-clause-index
row_of-requires-clause-index c =
    rw c.deref-2.ensures.value (in_ends c.self.inside.ends.items c.self.inside.numbers.items
    c.args.self.now c.args.index c.self.view_is c.requires)
