-- No object is called behind a call on it that failed.
use Rattle.std.proofs.Common.{◌≡◌, ℕ, List, ap, inl, inr}
use Rattle.std.specs.Prelude.{Result, Ok, Err}
use Rattle.used_files.specs.Paths.{File}
use Rattle.used_files.specs.Stops.{FaultRises}
use Rattle.used_files.specs.declared.stop.Stop.{Stop}
use Rattle.used_files.specs.declared.stop.Stop.TheVariants as stop
use Rattle.run_ends.specs.Outside.{OutsState, SinkState, RoseAtMostOnce}
use Rattle.run_ends.specs.Tells.{LineTold, TextTold, StopTold, FilesPut}
use Rattle.run_ends.specs.declared.status.Status.{Status}
use Rattle.commands.specs.Made.{HandedOver}
use Rattle.commands.specs.declared.made.Made.{Made}
use Rattle.commands.specs.declared.made.Made.TheVariants.{Files, Lines}

pub once_of_line : (own : Status) (line : List ℕ) (s : Status) (before after : SinkState)
    → LineTold own line s before after → RoseAtMostOnce before.faults after.faults
once_of_line own line s before after (inl told) = told.1.count
once_of_line own line s before after (inr memory) = inl memory.1

once_of_text : (own : Status) (text : List ℕ) (s : Status) (before after : SinkState)
    → TextTold own text s before after → RoseAtMostOnce before.faults after.faults
once_of_text own text s before after (inl told) = inl told.1
once_of_text own text s before after (inr (inl failed)) = inr failed.1
once_of_text own text s before after (inr (inr memory)) = inl memory.1

once_of_files : (files : List File) (s : Status) (before after : OutsState)
    → FilesPut files s before after → RoseAtMostOnce before.faults after.faults
once_of_files files s before after (inl put) = inl put.1
once_of_files files s before after (inr (inl failed)) = inr failed.1
once_of_files files s before after (inr (inr memory)) = inl memory.1

pub once_of_stop : (why : Stop) (s : Status) (before after : SinkState)
    → StopTold why s before after → RoseAtMostOnce before.faults after.faults
once_of_stop (stop.Fault path) s before after told = once_of_line _ _ s before after told
once_of_stop (stop.Diagnosed list) s before after told = once_of_text _ _ s before after told
once_of_stop stop.Memory s before after told = inl (ap (λ (x : SinkState). x.faults) told.1)

-- what was made is handed over
pub once_of_made : (made : Made) (s : Status) (outs outs' : OutsState) (out out' : SinkState)
    → HandedOver made s outs outs' out out'
    → RoseAtMostOnce outs.faults outs'.faults × RoseAtMostOnce out.faults out'.faults
once_of_made (Files list) s outs outs' out out' p =
    (once_of_files _ s outs outs' p.1, inl (ap (λ (x : SinkState). x.faults) p.0))
once_of_made (Lines lines) s outs outs' out out' p =
    (inl (ap (λ (x : OutsState). x.faults) p.0), once_of_text _ _ s out out' p.1)

pub once_of_reading : {A : Type 0} (r : Result A Stop) (before after : ℕ)
    → FaultRises r before after → RoseAtMostOnce before after
once_of_reading (Ok x) before after level = inl level
once_of_reading (Err (stop.Fault path)) before after rose = inr rose
once_of_reading (Err (stop.Diagnosed list)) before after level = inl level
once_of_reading (Err stop.Memory) before after level = inl level
