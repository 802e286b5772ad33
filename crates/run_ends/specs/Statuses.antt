use Rattle.std.specs.Prelude.{ℕ}
use Rattle.run_ends.specs.declared.status.Status.{Status}
use Rattle.run_ends.specs.declared.status.Status.TheVariants.{Done, Diagnosed, Usage, ReadFault}
use Rattle.run_ends.specs.declared.status.Status.TheVariants.{WriteFault, Memory}

-- the status of the process
abbrev pub status_number : Status → ℕ
status_number Done = 0
status_number Diagnosed = 1
status_number Usage = 2
status_number ReadFault = 3
status_number WriteFault = 4
status_number Memory = 5
