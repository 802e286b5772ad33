use Rattle.std.proofs.Common.{◌∙◌, ap, ◌++◌, ◌∷◌, []}
use Rattle.reachability.proofs.Laid.{laid_more, rows_more}
use Rattle.reachability.proofs.rows.Rows.push.Goals as goal

pub invariant_of-self-2 : goal.invariant_of-self-2
invariant_of-self-2 c =
    rw (
      c.in_ok-push.ensures.items,
      c.in_ok-extend_from_slice.ensures.items,
      c.in_ok-reserve.ensures.items,
      c.as_slice.ensures.value,
    )
    (laid_more 0 c.self.inside.ends.items c.self.inside.numbers.items c.args.row.now
    c.self.invariant)

pub returns-clause-ok : goal.returns-clause-ok
returns-clause-ok c =
    rw (
      c.in_ok-push.ensures.items,
      c.in_ok-extend_from_slice.ensures.items,
      c.in_ok-reserve.ensures.items,
      c.as_slice.ensures.value,
    )
    (rows_more 0 c.self.inside.ends.items c.self.inside.numbers.items c.args.row.now
    c.self.invariant ∙ ap (λ rows. rows ++ c.args.row.now ∷ []) c.self.view_is)
