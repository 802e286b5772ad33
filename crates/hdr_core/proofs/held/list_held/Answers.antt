use Rattle.hdr_core.proofs.Listing.{is_held_listing}
use Rattle.hdr_core.proofs.held.list_held.Goals as goal

pub returns : goal.returns
returns c =
    is_held_listing _ _ _ _ _ c.in_ok-paths.ensures c.sort_unstable.ensures.permutation
    c.sort_unstable.ensures.sorted c.dedup.ensures.filtered
