-- What is told and written, with the state of the object before and after.
use Rattle.std.specs.Prelude.{◌≡◌, ◌⊎◌, ℕ, List, ◌++◌, codes, string_bytes, Option, Some, None}
use Rattle.std.specs.Prelude.{flat_map}
use Rattle.hdr_core.specs.Causes.{Rose, grown, GrewByFront}
use Rattle.hdr_core.specs.Diagnostics.{printed}
use Rattle.used_files.specs.Paths.{File}
use Rattle.run_ends.specs.Outside.{OutsState, SinkState, RoseAtMostOnce}
use Rattle.run_ends.specs.declared.status.Status.{Status}
use Rattle.run_ends.specs.declared.status.Status.TheVariants as status
use Rattle.used_files.specs.declared.stop.Stop.{Stop}
use Rattle.used_files.specs.declared.stop.Stop.TheVariants as stop

-- the line that names the root or path at which a call failed
abbrev pub fault_line : List ℕ → List ℕ
fault_line path = codes "read fault: " ++ (path ++ codes "\n")

-- a line is told, or a front of it where the sink failed
pub record TellsLine (line : List ℕ) (before after : SinkState) : Type 0 where
  pub front : GrewByFront before.told after.told line
  pub whole : (Rose before.faults after.faults → ⊥) → after.told ≡ grown before.told line
  pub count : RoseAtMostOnce before.faults after.faults

-- a line is told under its status, or memory ran out behind a front of it
abbrev pub LineTold : Status → List ℕ → Status → SinkState → SinkState → Type 0
LineTold own line s before after =
    ((s ≡ own) × TellsLine line before after)
    ⊎ ((s ≡ status.Memory) × (after.faults ≡ before.faults)
    × GrewByFront before.told after.told line)

-- a text is told whole under its status; or the sink failed, or memory ran out, behind a front
-- of it
abbrev pub TextTold : Status → List ℕ → Status → SinkState → SinkState → Type 0
TextTold own text s before after =
    ((s ≡ own) × (after.faults ≡ before.faults)
    × (after.told ≡ grown before.told text))
    ⊎ (((s ≡ status.WriteFault) × Rose before.faults after.faults
    × GrewByFront before.told after.told text)
    ⊎ ((s ≡ status.Memory) × (after.faults ≡ before.faults)
    × GrewByFront before.told after.told text))

abbrev pub StopTold : Stop → Status → SinkState → SinkState → Type 0
StopTold (stop.Fault path) s before after =
    LineTold status.ReadFault (fault_line (string_bytes path)) s before after
StopTold (stop.Diagnosed list) s before after =
    TextTold status.Diagnosed (printed list.items) s before after
StopTold stop.Memory s before after = (s ≡ status.Memory) × (after ≡ before)

-- lines, one behind the other
abbrev pub all_lines : List (List ℕ) → List ℕ
all_lines = flat_map (λ line. line)

-- the written files with more behind them, where they are told
abbrev pub with_files : Option (List File) → List File → Option (List File)
with_files None files = None
with_files (Some before) files = Some (before ++ files)

-- what was written has grown by a front of the files
abbrev pub GrewByFiles : Option (List File) → Option (List File) → List File → Type 0
GrewByFiles before after files =
    (front : List File) × (rest : List File)
    × (front ++ rest ≡ files) × (after ≡ with_files before front)

-- the files are written; or a call failed, or memory ran out, behind a front of them
abbrev pub FilesPut : List File → Status → OutsState → OutsState → Type 0
FilesPut files s before after =
    ((s ≡ status.Done) × (after.faults ≡ before.faults)
    × (after.written ≡ with_files before.written files))
    ⊎ (((s ≡ status.WriteFault) × Rose before.faults after.faults
    × GrewByFiles before.written after.written files)
    ⊎ ((s ≡ status.Memory) × (after.faults ≡ before.faults)
    × GrewByFiles before.written after.written files))
