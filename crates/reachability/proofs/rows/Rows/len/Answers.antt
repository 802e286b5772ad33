use Rattle.std.proofs.Common.{◌∙◌, sym, ap, length}
use Rattle.reachability.proofs.Laid.{length_rows}
use Rattle.reachability.proofs.rows.Rows.len.Goals as goal

pub returns : goal.returns
returns c = ap length c.as_slice.ensures.value
    ∙ sym (length_rows 0 c.self.inside.ends.items c.self.inside.numbers.items)
    ∙ ap length c.self.view_is
