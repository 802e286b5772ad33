use Rattle.supertypes.proofs.Marked.{clean_anew}
use Rattle.supertypes.proofs.state.State.new.Goals as goal

pub returns-clause-clean : goal.returns-clause-clean
returns-clause-clean c =
    clean_anew _ c.args.classes (c.in_ok-from_elem.ensures.items_if_clones_equal (λ y h. h))
    c.in_ok-with_capacity.ensures.items
    c.in_ok-with_capacity-2.ensures.items c.in_ok-with_capacity.ensures.exact
    c.in_ok-with_capacity-2.ensures.exact
