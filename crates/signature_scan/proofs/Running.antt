-- The verdict of the machine on a text.
use Rattle.std.proofs.Common.{ℕ, ◌+◌, Bool, true, false, List, [], ◌∷◌, Option, Some, None}
use Rattle.signature_scan.specs.declared.state.State.{State}
use Rattle.signature_scan.specs.declared.verdict.Verdict.{Verdict}
use Rattle.signature_scan.specs.declared.verdict.Verdict.TheVariants as verdict
use Rattle.signature_scan.specs.Machine.{next, deeper, is_whole}

abbrev pub whole_verdict : Option ℕ → Verdict
whole_verdict None = verdict.Fine
whole_verdict (Some at) = verdict.TooDeep at

abbrev pub end_verdict : Bool → Option ℕ → ℕ → Verdict
end_verdict true deep at = whole_verdict deep
end_verdict false deep at = verdict.BadText at

abbrev pub go_on : Option State → (State → Verdict) → ℕ → Verdict
go_on None further at = verdict.BadText at
go_on (Some s) further at = further s

-- the verdict on a text of which these bytes are left at this place
abbrev pub run : State → Option ℕ → ℕ → List ℕ → Verdict
run s deep at [] = end_verdict (is_whole s) deep at
run s deep at (b ∷ bytes) =
    go_on (next s b) (λ next. run next (deeper deep next at) (at + 1) bytes) at
