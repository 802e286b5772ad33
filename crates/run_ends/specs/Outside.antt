-- The outside of a run at one moment: how many calls on each object failed, and what it tells of
-- its contents.
use Rattle.std.specs.Prelude.{◌≡◌, ◌⊎◌, ℕ, ◌-◌, ◌^◌, ◌<◌, List, Option}
use Rattle.hdr_core.specs.Causes.{Rose}
use Rattle.hdr_core.specs.declared.files.Files.{Ghosts as FilesMembers}
use Rattle.hdr_core.specs.declared.outs.Outs.{Ghosts as OutsMembers}
use Rattle.hdr_core.specs.declared.sink.Sink.{Ghosts as SinkMembers}
use Rattle.used_files.specs.Paths.{File}

pub record FilesState : Type 0 where
  pub faults : ℕ
  pub held : Option (List File)

pub record OutsState : Type 0 where
  pub faults : ℕ
  pub written : Option (List File)

pub record SinkState : Type 0 where
  pub faults : ℕ
  pub told : Option (List ℕ)

-- the files, where files are written, standard output and standard error
pub record Outside : Type 0 where
  pub files : FilesState
  pub outs : OutsState
  pub out : SinkState
  pub err : SinkState

abbrev pub files_state : {F : Type 0} → FilesMembers F → F → FilesState
files_state members files = record { faults = members.faults files; held = members.held files }

abbrev pub outs_state : {O : Type 0} → OutsMembers O → O → OutsState
outs_state members outs = record { faults = members.faults outs; written = members.written outs }

abbrev pub sink_state : {S : Type 0} → SinkMembers S → S → SinkState
sink_state members sink = record { faults = members.faults sink; told = members.told sink }

abbrev pub outside : {F O S : Type 0} → FilesMembers F → OutsMembers O → SinkMembers S
    → F → O → S → S → Outside
outside of_files of_outs of_sink files outs out err = record {
  files = files_state of_files files;
  outs = outs_state of_outs outs;
  out = sink_state of_sink out;
  err = sink_state of_sink err;
}

-- a count of faults is what it was, or rose by one
abbrev pub RoseAtMostOnce : ℕ → ℕ → Type 0
RoseAtMostOnce before after = (after ≡ before) ⊎ Rose before after

-- At most one call on each object failed. Since any call may fail, none was made behind it.
pub record FailsAtMostOnce (before after : Outside) : Type 0 where
  pub files : RoseAtMostOnce before.files.faults after.files.faults
  pub outs : RoseAtMostOnce before.outs.faults after.outs.faults
  pub out : RoseAtMostOnce before.out.faults after.out.faults
  pub err : RoseAtMostOnce before.err.faults after.err.faults

-- each count of faults is below its greatest number, so that it rises where a call fails
abbrev pub CanRise : Outside → Type 0
CanRise o =
    (o.files.faults < 2 ^ 64 - 1) × (o.outs.faults < 2 ^ 64 - 1)
    × (o.out.faults < 2 ^ 64 - 1) × (o.err.faults < 2 ^ 64 - 1)
