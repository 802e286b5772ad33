use Rattle.std.specs.Prelude.{ℕ}
use Rattle.hdr_core.specs.declared.faults.Faults.{Faults}

-- how many calls of an adapter failed
abbrev pub fault_count : Faults → ℕ
fault_count faults = faults.count
