use Rattle.std.proofs.Common.{◌≡◌, drop}
use Rattle.segments.specs.Steps.{start, run}
use Rattle.segments.proofs.cut.segments.Given as goal

-- the rest of the tokens leads where all of them lead
abbrev pub invariant-loop-token : goal.invariant-loop-token
invariant-loop-token l = run l.cutter (drop l.token-index l.tokens) ≡ run (start 64) l.tokens
