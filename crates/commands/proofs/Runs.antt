-- What is true of a run, by the way in which it ended.
use Rattle.std.proofs.Common.{◌≡◌, ℕ, ◌-◌, ◌^◌, ◌<◌, List, [], map, refl, sym, ap, subst, ◌∙◌, inl}
use Rattle.std.proofs.Common.{inr, ⊎_elim, arith}
use Rattle.std.specs.Prelude.{string_bytes, Err, IfSome}
use Rattle.std.specs.declared.vec.Vec.{Vec}
use Rattle.std.specs.declared.alloc.Global.{Global}
use Rattle.hdr_core.specs.Causes.{Rose, grown, GrewByFront}
use Rattle.hdr_core.specs.Diagnostics.{printed}
use Rattle.hdr_core.specs.declared.diagnostics.Diag.{Diag}
use Rattle.command_line.specs.Words.{Refusal, Command, Ijar, Asks, Job, Refused, Doing}
use Rattle.command_line.specs.Words.{refusal_line}
use Rattle.used_files.specs.Paths.{File}
use Rattle.run_ends.specs.declared.status.Status.{Status}
use Rattle.run_ends.specs.declared.status.Status.TheVariants.{Done, Diagnosed, Usage, ReadFault}
use Rattle.run_ends.specs.declared.status.Status.TheVariants.{WriteFault, Memory}
use Rattle.used_files.specs.declared.stop.Stop.{Stop}
use Rattle.used_files.specs.declared.stop.Stop.TheVariants as stop
use Rattle.commands.specs.Found.{ReadsValid}
use Rattle.commands.specs.Outcome.{Outcome, outcome, outcome_of, made, told, diagnosed}
use Rattle.commands.specs.Made.{outcome_made, Makes, HandedOver}
use Rattle.commands.specs.declared.made.Made.{Made}
use Rattle.commands.specs.declared.made.Made.TheVariants.{Files, Lines}
use Rattle.run_ends.specs.Outside.{Outside, OutsState, SinkState, CanRise}
use Rattle.used_files.specs.Stops.{StopsOnly, FaultRises}
use Rattle.commands.specs.JobPaths.{IsPathOf}
use Rattle.run_ends.specs.OutFiles.{file_seen}
use Rattle.run_ends.specs.declared.out_file.OutFile.{OutFile}
use Rattle.run_ends.specs.Tells.{TellsLine, LineTold, StopTold, GrewByFiles, fault_line}
use Rattle.run_ends.specs.Tells.{with_files}
use Rattle.commands.specs.Runs.{Meets, MeetsFront, OfOutcome, FilesFailed, OthersFailed, Stood}
use Rattle.commands.specs.Runs.{LeavesAlone, Runs}
use Rattle.used_files.proofs.Options.{if_some, from_some}
use Rattle.commands.proofs.Found.{shows_the_same}
use Rattle.run_ends.proofs.Told.{grown_nothing, grew_nothing, grew_whole}
use Rattle.run_ends.proofs.Written.{with_none, wrote_nothing, wrote_all}

above : (before after : ℕ) → before < 2 ^ 64 - 1 → Rose before after → before < after
above before after few rose = omega arith

level : (before after : ℕ) → after ≡ before → before < after → ⊥
level before after same up = omega arith

as_run : (j : Job) (s own : Status) (before after : Outside) → s ≡ own → Runs j own before after
    → Runs j s before after
as_run j s own before after is r = let P : Status → Type 0 = λ t. Runs j t before after in
    subst P (sym is) r

-- a sink that is told nothing tells the front of a text, and the whole of none
same_front : (before after : SinkState) (text : List ℕ) → after ≡ before
    → GrewByFront before.told after.told text
same_front before after text e = let P : SinkState → Type 0 =
    λ x. GrewByFront before.told x.told text in subst P (sym e) (grew_nothing before.told text)

same_told : (before after : SinkState) → after ≡ before → after.told ≡ grown before.told []
same_told before after e = ap (λ (x : SinkState). x.told) e ∙ grown_nothing before.told

same_files : (before after : OutsState) (files : List File) → after ≡ before
    → GrewByFiles before.written after.written files
same_files before after files e = let P : OutsState → Type 0 =
    λ x. GrewByFiles before.written x.written files in
    subst P (sym e) (wrote_nothing before.written files)

same_written : (before after : OutsState) → after ≡ before
    → after.written ≡ with_files before.written []
same_written before after e = ap (λ (x : OutsState). x.written) e ∙ with_none before.written

-- what is met is met as far as a front
front_of : (o : Outcome) (s : Status) (before after : Outside) → Meets o s before after
    → MeetsFront o before after
front_of o s before after m = record {
  files = wrote_all before.outs.written after.outs.written o.files m.files;
  out = grew_whole before.out.told after.out.told o.out m.out;
  err = grew_whole before.err.told after.err.told o.err m.err;
}

-- where both are left alone, so is what a job leaves alone
both_alone : (j : Job) (before after : Outside) → after.outs ≡ before.outs
    → after.out ≡ before.out → LeavesAlone j before after
both_alone (Refused refusal) before after outs out = (outs, out)
both_alone (Doing (Ijar inputs output)) before after outs out = out
both_alone (Doing (Asks asked)) before after outs out = outs

-- nothing is done, since memory ran out
pub undone : (j : Job) (o : Outside) → Runs j Memory o o
undone j o = record {
  usage =
      λ _. record {
        is = inr refl;
        files = refl;
        outs = refl;
        out = refl;
        front = none;
        whole = λ e. absurd cc;
      };
  usage_only = λ e. absurd cc;
  files_first = λ up. absurd (level o.files.faults o.files.faults refl up);
  read_fault = λ e. absurd cc;
  others_next = λ _ _ _. inr refl;
  write_fault = λ e. absurd cc;
  fronts = λ _. if_some o.files.held _ (λ held _. none held);
  met = λ e. ⊎_elim (λ e. absurd cc) (λ e. absurd cc) e;
  shows = λ e. absurd cc;
  complete = λ _ _. inr (inr refl);
  exact = λ _ _. if_some o.files.held _ (λ held _. inr refl);
  untouched = λ _. (refl, refl);
  silent = λ _. refl;
  alone = both_alone j o o refl refl;
}
  where
    none : (held : List File) → MeetsFront (outcome j held) o o
    none held = record {
      files = wrote_nothing o.outs.written (outcome j held).files;
      out = grew_nothing o.out.told (outcome j held).out;
      err = grew_nothing o.err.told (outcome j held).err;
    }

-- a command that makes files tells nothing on standard output
files_alone : (before after : Outside) (c : Command) (list : Vec OutFile Global)
    → Makes c (Files list) → after.out ≡ before.out → LeavesAlone (Doing c) before after
files_alone before after (Ijar inputs output) list fits out = out
files_alone before after (Asks asked) list fits out = absurd fits

-- a command that makes lines writes no file
lines_alone : (before after : Outside) (c : Command) (lines : Vec (List ℕ) Global)
    → Makes c (Lines lines) → after.outs ≡ before.outs → LeavesAlone (Doing c) before after
lines_alone before after (Ijar inputs output) lines fits outs = absurd fits
lines_alone before after (Asks asked) lines fits outs = outs

module _ (before after : Outside) (few : CanRise before) where
  -- no count of the others rose
  quiet : {P : Type 0} → after.outs.faults ≡ before.outs.faults
      → after.out.faults ≡ before.out.faults → after.err.faults ≡ before.err.faults
      → OthersFailed before after → P
  quiet outs out err failed =
      absurd
      (⊎_elim (level before.outs.faults after.outs.faults outs)
      (⊎_elim (level before.out.faults after.out.faults out)
      (level before.err.faults after.err.faults err)) failed)

  -- words that are no job
  module _ (r : Refusal) (files : after.files ≡ before.files)
      (outs : after.outs ≡ before.outs) (out : after.out ≡ before.out) where
    abbrev line : List ℕ
    line = refusal_line r

    fronts_refused : GrewByFront before.err.told after.err.told line → (held : List File)
        → MeetsFront (outcome (Refused r) held) before after
    fronts_refused front held = record {
      files = same_files before.outs after.outs [] outs;
      out = same_front before.out after.out [] out;
      err = front;
    }

    still : {P : Type 0} → FilesFailed before after → P
    still failed =
        absurd (level before.files.faults after.files.faults (ap (λ x. x.faults) files) failed)

    in_usage : TellsLine line before.err after.err → Runs (Refused r) Usage before after
    in_usage t = record {
      usage = λ _. record {
        is = inl refl;
        files = files;
        outs = outs;
        out = out;
        front = fronts_refused t.front;
        whole = λ _ quiet held. record {
          is = refl;
          files = same_written before.outs after.outs outs;
          out = same_told before.out after.out out;
          err = t.whole (λ rose. quiet (above before.err.faults after.err.faults few.3 rose));
        };
      };
      usage_only = λ _. refl;
      files_first = λ failed. still failed;
      read_fault = λ e. absurd cc;
      others_next = λ e. absurd cc;
      write_fault = λ e. absurd cc;
      fronts = λ _. if_some before.files.held _ (λ held _. fronts_refused t.front held);
      met = λ e. ⊎_elim (λ e. absurd cc) (λ e. absurd cc) e;
      shows = λ e. absurd cc;
      complete = λ e. absurd cc;
      exact = λ e. absurd cc;
      untouched = λ _. (outs, out);
      silent = λ e. absurd cc;
      alone = (outs, out);
    }

    refused_in_memory : GrewByFront before.err.told after.err.told line
        → Runs (Refused r) Memory before after
    refused_in_memory front = record {
      usage =
          λ _. record {
            is = inr refl;
            files = files;
            outs = outs;
            out = out;
            front = fronts_refused front;
            whole = λ e. absurd cc;
          };
      usage_only = λ e. absurd cc;
      files_first = λ failed. still failed;
      read_fault = λ e. absurd cc;
      others_next = λ _ _ _. inr refl;
      write_fault = λ e. absurd cc;
      fronts = λ _. if_some before.files.held _ (λ held _. fronts_refused front held);
      met = λ e. ⊎_elim (λ e. absurd cc) (λ e. absurd cc) e;
      shows = λ e. absurd cc;
      complete = λ _ _. inr (inr refl);
      exact = λ _ _. if_some before.files.held _ (λ held _. inr refl);
      untouched = λ e. ⊎_elim (λ e. absurd cc) (λ e. ⊎_elim (λ e. absurd cc) (λ e. absurd cc) e) e;
      silent = λ e. absurd cc;
      alone = (outs, out);
    }

    pub refused : (s : Status) → LineTold Usage line s before.err after.err
        → Runs (Refused r) s before after
    refused s t =
        ⊎_elim (λ u. as_run (Refused r) s Usage before after u.0 (in_usage u.1))
        (λ m. as_run (Refused r) s Memory before after m.0 (refused_in_memory m.2)) t

  -- a command
  module _ (c : Command) where
    abbrev Fronts : Type 0
    Fronts = OfOutcome (Doing c) before (λ o. MeetsFront o before after)

    -- a call on the files failed
    module _ (rose : Rose before.files.faults after.files.faults) (outs : after.outs ≡ before.outs)
        (out : after.out ≡ before.out) (path : List ℕ)
        (named : IfSome before.files.held (λ held. IsPathOf held c path)) where
      failed : FilesFailed before after
      failed = above before.files.faults after.files.faults few.0 rose

      in_read_fault : TellsLine (fault_line path) before.err after.err
          → Runs (Doing c) ReadFault before after
      in_read_fault t = record {
        usage = λ h. absurd cc;
        usage_only = λ e. absurd cc;
        files_first =
            λ _. record {
              is = inl refl;
              outs = outs;
              out = out;
              path = path;
              named = named;
              front = t.front;
              whole =
                  λ _ quiet. t.whole
                  (λ rose. quiet (above before.err.faults after.err.faults few.3 rose));
            };
        read_fault = λ _. failed;
        others_next = λ _ still _. absurd (still failed);
        write_fault = λ e. absurd cc;
        fronts = λ still. absurd (still failed);
        met = λ e. ⊎_elim (λ e. absurd cc) (λ e. absurd cc) e;
        shows = λ e. absurd cc;
        complete = λ _ none. absurd (none.files failed);
        exact = λ _ none. absurd (none.files failed);
        untouched = λ _. (outs, out);
        silent = λ e. absurd cc;
        alone = both_alone (Doing c) before after outs out;
      }

      faulted_in_memory : GrewByFront before.err.told after.err.told (fault_line path)
          → Runs (Doing c) Memory before after
      faulted_in_memory front = record {
        usage = λ h. absurd cc;
        usage_only = λ e. absurd cc;
        files_first =
            λ _. record {
              is = inr refl;
              outs = outs;
              out = out;
              path = path;
              named = named;
              front = front;
              whole = λ e. absurd cc;
            };
        read_fault = λ e. absurd cc;
        others_next = λ _ still _. absurd (still failed);
        write_fault = λ e. absurd cc;
        fronts = λ still. absurd (still failed);
        met = λ e. ⊎_elim (λ e. absurd cc) (λ e. absurd cc) e;
        shows = λ e. absurd cc;
        complete = λ _ none. absurd (none.files failed);
        exact = λ _ none. absurd (none.files failed);
        untouched = λ _. (outs, out);
        silent = λ e. absurd cc;
        alone = both_alone (Doing c) before after outs out;
      }

    -- no call on the files failed
    module _ (files : after.files.faults ≡ before.files.faults)
        (alone : LeavesAlone (Doing c) before after) where
      level_files : {P : Type 0} → FilesFailed before after → P
      level_files failed = absurd (level before.files.faults after.files.faults files failed)

      in_memory : Fronts → Runs (Doing c) Memory before after
      in_memory fronts = record {
        usage = λ h. absurd cc;
        usage_only = λ e. absurd cc;
        files_first = λ failed. level_files failed;
        read_fault = λ e. absurd cc;
        others_next = λ _ _ _. inr refl;
        write_fault = λ e. absurd cc;
        fronts = λ _. fronts;
        met = λ e. ⊎_elim (λ e. absurd cc) (λ e. absurd cc) e;
        shows = λ e. absurd cc;
        complete = λ _ _. inr (inr refl);
        exact = λ _ _. if_some before.files.held _ (λ held _. inr refl);
        untouched =
            λ e. ⊎_elim (λ e. absurd cc) (λ e. ⊎_elim (λ e. absurd cc) (λ e. absurd cc) e) e;
        silent = λ e. absurd cc;
        alone = alone;
      }

      in_write_fault : OthersFailed before after → Fronts → Runs (Doing c) WriteFault before after
      in_write_fault others fronts = record {
        usage = λ h. absurd cc;
        usage_only = λ e. absurd cc;
        files_first = λ failed. level_files failed;
        read_fault = λ e. absurd cc;
        others_next = λ _ _ _. inl refl;
        write_fault = λ _. others;
        fronts = λ _. fronts;
        met = λ e. ⊎_elim (λ e. absurd cc) (λ e. absurd cc) e;
        shows = λ e. absurd cc;
        complete = λ _ none. absurd (none.others others);
        exact = λ _ none. absurd (none.others others);
        untouched =
            λ e. ⊎_elim (λ e. absurd cc) (λ e. ⊎_elim (λ e. absurd cc) (λ e. absurd cc) e) e;
        silent = λ e. absurd cc;
        alone = alone;
      }

      -- no other call failed
      module _ (outs : after.outs.faults ≡ before.outs.faults)
          (out : after.out.faults ≡ before.out.faults)
          (err : after.err.faults ≡ before.err.faults) where
        stood : Stood before after
        stood = record { files = files; outs = outs; out = out; err = err }

        in_done : OfOutcome (Doing c) before (λ o. Meets o Done before after)
            → IfSome before.files.held (ReadsValid c) → after.err ≡ before.err
            → Runs (Doing c) Done before after
        in_done met valid silent = record {
          usage = λ h. absurd cc;
          usage_only = λ e. absurd cc;
          files_first = λ failed. level_files failed;
          read_fault = λ e. absurd cc;
          others_next = λ _ _ failed. quiet outs out err failed;
          write_fault = λ e. absurd cc;
          fronts =
              λ _. if_some before.files.held _
              (λ held e. front_of (outcome_of c held) Done before after
              (from_some before.files.held _ held met e));
          met = λ _. (stood, met);
          shows =
              λ _. if_some before.files.held _
              (λ held e. let m : Meets
              (outcome_of c held) Done before after = from_some before.files.held _ held met e in
              shows_the_same c held (from_some before.files.held (ReadsValid c) held valid e)
              (sym m.is));
          complete = λ _ _. inl refl;
          exact =
              λ _ _. if_some before.files.held _
              (λ held e. let m : Meets
              (outcome_of c held) Done before after = from_some before.files.held _ held met e in
              inl m.is);
          untouched =
              λ e. ⊎_elim (λ e. absurd cc) (λ e. ⊎_elim (λ e. absurd cc) (λ e. absurd cc) e) e;
          silent = λ _. silent;
          alone = alone;
        }

        in_diagnosed : OfOutcome (Doing c) before (λ o. Meets o Diagnosed before after)
            → (after.outs ≡ before.outs) × (after.out ≡ before.out)
            → Runs (Doing c) Diagnosed before after
        in_diagnosed met untouched = record {
          usage = λ h. absurd cc;
          usage_only = λ e. absurd cc;
          files_first = λ failed. level_files failed;
          read_fault = λ e. absurd cc;
          others_next = λ _ _ failed. quiet outs out err failed;
          write_fault = λ e. absurd cc;
          fronts =
              λ _. if_some before.files.held _
              (λ held e. front_of (outcome_of c held) Diagnosed before after
              (from_some before.files.held _ held met e));
          met = λ _. (stood, met);
          shows = λ e. absurd cc;
          complete = λ _ _. inr (inl refl);
          exact =
              λ _ _. if_some before.files.held _
              (λ held e. let m : Meets
              (outcome_of c held) Diagnosed before after =
              from_some before.files.held _ held met e in inl m.is);
          untouched = λ _. untouched;
          silent = λ e. absurd cc;
          alone = alone;
        }

    -- What the outcome has was made.
    module _ (o : Outcome) (done : o.status ≡ Done) (mute : o.err ≡ [])
        (are : IfSome before.files.held (λ held. outcome_of c held ≡ o))
        (valid : IfSome before.files.held (ReadsValid c))
        (files : after.files.faults ≡ before.files.faults) (err : after.err ≡ before.err)
        (alone : LeavesAlone (Doing c) before after) where
      abbrev Of : (Outcome → Type 0) → Type 0
      Of P = OfOutcome (Doing c) before P

      of_made : (P : Outcome → Type 0) → P o → Of P
      of_made P p =
          if_some before.files.held _
          (λ held e. subst P
          (sym (from_some before.files.held (λ held. outcome_of c held ≡ o) held are e)) p)

      err_faults : after.err.faults ≡ before.err.faults
      err_faults = ap (λ (x : SinkState). x.faults) err

      fronts_made : GrewByFiles before.outs.written after.outs.written o.files
          → GrewByFront before.out.told after.out.told o.out → Fronts
      fronts_made wrote told =
          of_made (λ o. MeetsFront o before after)
          (record {
            files = wrote;
            out = told;
            err = same_front before.err after.err o.err err;
          })

      made_whole : after.outs.faults ≡ before.outs.faults → after.out.faults ≡ before.out.faults
          → after.outs.written ≡ with_files before.outs.written o.files
          → after.out.told ≡ grown before.out.told o.out → Runs (Doing c) Done before after
      made_whole outs out wrote told =
          in_done files alone outs out err_faults
          (of_made (λ o. Meets o Done before after)
          (record {
            is = sym done;
            files = wrote;
            out = told;
            err = same_told before.err after.err err ∙ ap (grown before.err.told) (sym mute);
          })) valid err

    -- Files are written, or lines are told.
    pub handed_over : (m : Made) → IfSome before.files.held (λ held. outcome_of c held
        ≡ outcome_made m)
        → IfSome before.files.held (ReadsValid c) → Makes c m
        → after.files.faults ≡ before.files.faults → after.err ≡ before.err
        → (s : Status) → HandedOver m s before.outs after.outs before.out after.out
        → Runs (Doing c) s before after
    handed_over (Files list) are valid fits files err s p =
        let o : Outcome = made (map file_seen list.items) in
        let alone = files_alone before after c list fits p.0 in
        let silent : GrewByFront before.out.told after.out.told [] =
        same_front before.out after.out [] p.0 in
        ⊎_elim
        (λ d. as_run (Doing c) s Done before after d.0
        (made_whole o refl refl are valid files err alone d.1
        (ap (λ (x : SinkState). x.faults) p.0) d.2 (same_told before.out after.out p.0)))
        (λ q. ⊎_elim
        (λ w. as_run (Doing c) s WriteFault before after w.0
        (in_write_fault files alone (inl (above before.outs.faults after.outs.faults few.1 w.1))
        (fronts_made o refl refl are valid files err alone w.2 silent)))
        (λ m. as_run (Doing c) s Memory before after m.0
        (in_memory files alone (fronts_made o refl refl are valid files err alone m.2 silent))) q)
        p.1
    handed_over (Lines lines) are valid fits files err s p =
        let o : Outcome = told lines.items in
        let alone = lines_alone before after c lines fits p.0 in
        let unwritten : GrewByFiles before.outs.written after.outs.written [] =
        same_files before.outs after.outs [] p.0 in
        ⊎_elim
        (λ d. as_run (Doing c) s Done before after d.0
        (made_whole o refl refl are valid files err alone (ap (λ (x : OutsState). x.faults) p.0) d.1
        (same_written before.outs after.outs p.0) d.2))
        (λ q. ⊎_elim
        (λ w. as_run (Doing c) s WriteFault before after w.0
        (in_write_fault files alone
        (inr (inl (above before.out.faults after.out.faults few.2 w.1)))
        (fronts_made o refl refl are valid files err alone unwritten w.2)))
        (λ m. as_run (Doing c) s Memory before after m.0
        (in_memory files alone (fronts_made o refl refl are valid files err alone unwritten m.2)))
        q)
        p.1

    -- It was said why there are none.
    module _ (outs : after.outs ≡ before.outs) (out : after.out ≡ before.out) where
      alone : LeavesAlone (Doing c) before after
      alone = both_alone (Doing c) before after outs out

      abbrev AreDiags : List Diag → Type 0
      AreDiags list = IfSome before.files.held (λ held. outcome_of c held ≡ diagnosed list)

      of_diagnosed : (list : List Diag) → AreDiags list → (P : Outcome → Type 0)
          → P (diagnosed list) → OfOutcome (Doing c) before P
      of_diagnosed list are P p =
          if_some before.files.held _
          (λ held e. subst P
          (sym (from_some before.files.held (λ held. outcome_of c held
          ≡ diagnosed list) held are e)) p)

      fronts_told : (list : List Diag) → AreDiags list
          → GrewByFront before.err.told after.err.told (printed list) → Fronts
      fronts_told list are front =
          of_diagnosed list are (λ o. MeetsFront o before after)
          (record {
            files = same_files before.outs after.outs [] outs;
            out = same_front before.out after.out [] out;
            err = front;
          })

      pub stopped : (why : Stop)
          → FaultRises {A = Unit {0}} (Err why) before.files.faults after.files.faults
          → StopsOnly why (λ path. IfSome before.files.held (λ held. IsPathOf held c path))
          AreDiags
          → (s : Status) → StopTold why s before.err after.err → Runs (Doing c) s before after
      stopped (stop.Fault path) rose named s t =
          ⊎_elim
          (λ r. as_run (Doing c) s ReadFault before after r.0
          (in_read_fault rose outs out (string_bytes path) named r.1))
          (λ m. as_run (Doing c) s Memory before after m.0
          (faulted_in_memory rose outs out (string_bytes path) named m.2)) t
      stopped (stop.Diagnosed list) files are s t =
          ⊎_elim
          (λ d. as_run (Doing c) s Diagnosed before after d.0
          (in_diagnosed files alone (ap (λ (x : OutsState). x.faults) outs)
          (ap (λ (x : SinkState). x.faults) out) d.1
          (of_diagnosed list.items are (λ o. Meets o Diagnosed before after)
          (record {
            is = refl;
            files = same_written before.outs after.outs outs;
            out = same_told before.out after.out out;
            err = d.2;
          })) (outs, out)))
          (λ t. ⊎_elim
          (λ w. as_run (Doing c) s WriteFault before after w.0
          (in_write_fault files alone (inr (inr (above before.err.faults after.err.faults few.3 w.1)))
          (fronts_told list.items are w.2)))
          (λ m. as_run (Doing c) s Memory before after m.0
          (in_memory files alone (fronts_told list.items are m.2))) t)
          t
      stopped stop.Memory files _ s t =
          as_run (Doing c) s Memory before after t.0
          (in_memory files alone (if_some before.files.held _ (λ held _. record {
            files = same_files before.outs after.outs (outcome_of c held).files outs;
            out = same_front before.out after.out (outcome_of c held).out out;
            err = same_front before.err after.err (outcome_of c held).err t.1;
          })))
