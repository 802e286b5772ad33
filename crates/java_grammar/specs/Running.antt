-- What the code finds part by part: what it counts, which brackets are open, and what it has met.
-- Contracts of private functions alone cite these.
use Rattle.std.specs.Prelude.{ℕ, ◌+◌, ◌-◌, ◌==◌, Bool, ◌&&◌, ◌||◌, if◌then◌else◌, List, [], ◌∷◌}
use Rattle.std.specs.Prelude.{Option, Some, None}
use Rattle.java_grammar.specs.declared.part.Part.{Part}
use Rattle.java_grammar.specs.Tests.{is_opening, is_closing, is_group_start}
use Rattle.java_grammar.specs.Extents.{one_more}
use Rattle.java_grammar.specs.Counts.{Place, is_counted, takes_prefix, ends_run, is_default}

-- ---- expressions

-- how many are counted with this part, where so many were before
abbrev pub counted_on : ℕ → Bool → Part → ℕ
counted_on so_far may_prefix p = if is_counted may_prefix p then so_far + 1 else so_far

-- the same where the part may end the run
abbrev pub counted_in_run : ℕ → Bool → Part → ℕ
counted_in_run so_far may_prefix p = if ends_run p then 0 else counted_on so_far may_prefix p

-- behind the part a prefix operator may stand
abbrev pub begins_prefix : Part → Bool
begins_prefix p = ends_run p || takes_prefix p

-- ---- partners

-- at a closing bracket, where `inside` others are open
abbrev pub partner_if_closed : ℕ → Option ℕ → Option ℕ
partner_if_closed inside behind = if inside == 0 then Some 1 else one_more behind

-- how many parts stand up to the partner of a bracket, where `inside` more brackets are open
abbrev pub partner_from : ℕ → List Part → Option ℕ
partner_from inside [] = None
partner_from inside (p ∷ ps) =
    if is_opening p then one_more (partner_from (inside + 1) ps)
    else (if is_closing p then partner_if_closed inside (partner_from (inside - 1) ps)
    else one_more (partner_from inside ps))

-- ---- behind `default`

-- where so many brackets are open, and a group stands before it or none
abbrev pub begins_default : ℕ → Part → Bool → Bool
begins_default depth p behind_group = is_default p && ((depth == 0) && behind_group)

abbrev pub behind_default : Bool → List Place → List Part
behind_default behind_group [] = []
behind_default behind_group (at ∷ others) =
    if begins_default at.depth at.part behind_group then at.behind
    else behind_default (behind_group || is_group_start at.part) others
