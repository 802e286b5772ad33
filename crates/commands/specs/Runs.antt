-- What is true of every run: of the job of its words, its status, and the outside before and
-- after.
--
-- Where an answer is said to come, want of memory may be answered in its place.
use Rattle.std.specs.Prelude.{◌≡◌, ◌⊎◌, ℕ, ◌<◌, List, None, IfSome, IsSome}
use Rattle.hdr_core.specs.Causes.{grown, GrewByFront}
use Rattle.command_line.specs.Words.{Ijar, Asks, Job, Refused, Doing, usage_line}
use Rattle.used_files.specs.Paths.{File}
use Rattle.run_ends.specs.declared.status.Status.{Status}
use Rattle.run_ends.specs.declared.status.Status.TheVariants.{Done, Diagnosed, Usage, ReadFault}
use Rattle.run_ends.specs.declared.status.Status.TheVariants.{WriteFault, Memory}
use Rattle.commands.specs.Found.{ShowsTheSameOf}
use Rattle.commands.specs.Outcome.{Outcome, outcome}
use Rattle.run_ends.specs.Outside.{Outside}
use Rattle.commands.specs.JobPaths.{IsPathOfJob}
use Rattle.run_ends.specs.Tells.{fault_line, with_files, GrewByFiles}

-- The run came to this outcome: to its status, by writing its files and telling its texts.
pub record Meets (o : Outcome) (status : Status) (before after : Outside) : Type 0 where
  pub is : status ≡ o.status
  pub files : after.outs.written ≡ with_files before.outs.written o.files
  pub out : after.out.told ≡ grown before.out.told o.out
  pub err : after.err.told ≡ grown before.err.told o.err

-- It wrote a front of the files of this outcome, and told fronts of its texts.
pub record MeetsFront (o : Outcome) (before after : Outside) : Type 0 where
  pub files : GrewByFiles before.outs.written after.outs.written o.files
  pub out : GrewByFront before.out.told after.out.told o.out
  pub err : GrewByFront before.err.told after.err.told o.err

-- a fact of the outcome of the job, where the files tell what they hold
abbrev pub OfOutcome : Job → Outside → (Outcome → Type 0) → Type 0
OfOutcome job before IsSo = IfSome before.files.held (λ held. IsSo (outcome job held))

-- a call on the files failed
abbrev pub FilesFailed : Outside → Outside → Type 0
FilesFailed before after = before.files.faults < after.files.faults

-- a write to standard error failed
abbrev pub ErrFailed : Outside → Outside → Type 0
ErrFailed before after = before.err.faults < after.err.faults

-- a call on one of the others failed
abbrev pub OthersFailed : Outside → Outside → Type 0
OthersFailed before after =
    (before.outs.faults < after.outs.faults)
    ⊎ ((before.out.faults < after.out.faults) ⊎ ErrFailed before after)

-- no call failed
pub record NoneFailed (before after : Outside) : Type 0 where
  pub files : FilesFailed before after → ⊥
  pub others : OthersFailed before after → ⊥

-- each count is what it was
pub record Stood (before after : Outside) : Type 0 where
  pub files : after.files.faults ≡ before.files.faults
  pub outs : after.outs.faults ≡ before.outs.faults
  pub out : after.out.faults ≡ before.out.faults
  pub err : after.err.faults ≡ before.err.faults

-- The line of the refusal is told, and nothing else is done. The outcome is that of any files.
pub record Refuses (job : Job) (status : Status) (before after : Outside) : Type 0 where
  pub is : (status ≡ Usage) ⊎ (status ≡ Memory)
  pub files : after.files ≡ before.files
  pub outs : after.outs ≡ before.outs
  pub out : after.out ≡ before.out
  pub front : (held : List File) → MeetsFront (outcome job held) before after
  pub whole : status ≡ Usage → (ErrFailed before after → ⊥) →
      (held : List File) → Meets (outcome job held) status before after

-- The line of the root or used path at which a call failed is told, nothing is written, and
-- nothing is told on standard output.
pub record TellsFault (job : Job) (status : Status) (before after : Outside) : Type 0 where
  pub is : (status ≡ ReadFault) ⊎ (status ≡ Memory)
  pub outs : after.outs ≡ before.outs
  pub out : after.out ≡ before.out
  pub path : List ℕ
  pub named : IfSome before.files.held (λ held. IsPathOfJob held job path)
  pub front : GrewByFront before.err.told after.err.told (fault_line path)
  pub whole : status ≡ ReadFault → (ErrFailed before after → ⊥) →
      after.err.told ≡ grown before.err.told (fault_line path)

-- What a job leaves alone, so that nothing is written or told there and no call fails: of `ijar`
-- standard output, and of `ask` where files are written.
abbrev pub LeavesAlone : Job → Outside → Outside → Type 0
LeavesAlone (Refused refusal) before after =
    (after.outs ≡ before.outs) × (after.out ≡ before.out)
LeavesAlone (Doing (Ijar inputs output)) before after = after.out ≡ before.out
LeavesAlone (Doing (Asks asked)) before after = after.outs ≡ before.outs

pub record Runs (job : Job) (status : Status) (before after : Outside) : Type 0 where
  -- Usage comes where the words are no job, also where telling of it failed, and nowhere else.
  pub usage : IsSome (usage_line job) → Refuses job status before after
  pub usage_only : status ≡ Usage → IsSome (usage_line job)
  -- ReadFault comes where a call on the files failed, and nowhere else.
  pub files_first : FilesFailed before after → TellsFault job status before after
  pub read_fault : status ≡ ReadFault → FilesFailed before after
  -- WriteFault comes where another call failed and none on the files, and nowhere else.
  pub others_next : usage_line job ≡ None → (FilesFailed before after → ⊥) →
      OthersFailed before after → (status ≡ WriteFault) ⊎ (status ≡ Memory)
  pub write_fault : status ≡ WriteFault → OthersFailed before after
  -- Unless a call on the files failed, what was written and told are fronts of the outcome's.
  pub fronts : (FilesFailed before after → ⊥) →
      OfOutcome job before (λ o. MeetsFront o before after)
  -- On Done and Diagnosed no call failed, and the outcome is met.
  pub met : (status ≡ Done) ⊎ (status ≡ Diagnosed) →
      Stood before after × OfOutcome job before (λ o. Meets o status before after)
  -- On Done of `ijar` each question of a client that succeeds over the classes read has the same
  -- answer over those whose layouts are the files of the outcome. Of `ask` there are no files.
  pub shows : status ≡ Done → IfSome before.files.held (ShowsTheSameOf job)
  -- Where no call failed, a job is done or diagnosed, as its outcome says.
  pub complete : usage_line job ≡ None → NoneFailed before after →
      (status ≡ Done) ⊎ ((status ≡ Diagnosed) ⊎ (status ≡ Memory))
  pub exact : usage_line job ≡ None → NoneFailed before after →
      OfOutcome job before (λ o. (status ≡ o.status) ⊎ (status ≡ Memory))
  -- Also where the files don't tell what they hold: on Usage, ReadFault and Diagnosed nothing is
  -- written and nothing told on standard output, and on Done nothing is told on standard error.
  pub untouched : (status ≡ Usage) ⊎ ((status ≡ ReadFault) ⊎ (status ≡ Diagnosed)) →
      (after.outs ≡ before.outs) × (after.out ≡ before.out)
  pub silent : status ≡ Done → after.err ≡ before.err
  pub alone : LeavesAlone job before after
