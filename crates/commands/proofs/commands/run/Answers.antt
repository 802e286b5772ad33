use Rattle.std.specs.Prelude.{string_bytes}
use Rattle.std.proofs.Common.{map, refl, sym, ap, subst, ◌∙◌, inl}
use Rattle.command_line.specs.Words.{Job, job}
use Rattle.command_line.specs.Seen.{refusal_seen, command_seen, job_seen}
use Rattle.run_ends.specs.Outside.{Outside, outside, outs_state, sink_state}
use Rattle.commands.specs.Runs.{Runs}
use Rattle.commands.proofs.Once.{once_of_line, once_of_made, once_of_reading, once_of_stop}
use Rattle.commands.proofs.Runs.{undone, refused, handed_over, stopped}
use Rattle.commands.proofs.commands.run.Goals as goal

pub returns-in_default-clause-runs : goal.returns-in_default-clause-runs
returns-in_default-clause-runs g c =
    undone (job (map string_bytes c.args.words.now))
    (outside g.F.Files g.O.Outs g.S.Sink c.args.files.now c.args.outs.now c.args.out.now
    c.args.err.now)

pub returns-in-Refused-clause-runs : goal.returns-in-Refused-clause-runs
returns-in-Refused-clause-runs g c =
    let before : Outside = outside g.F.Files g.O.Outs g.S.Sink c.args.files.now c.args.outs.now
    c.args.out.now c.args.err.now in
    let after : Outside = outside g.F.Files g.O.Outs g.S.Sink c.args.files.now c.args.outs.now
    c.args.out.now c.tell_refusal.new.err in
    let P : Job → Type 0 = λ j. Runs j c.tell_refusal.result before after in
    subst P (sym (ap job_seen c.in-Refused.is) ∙ c.in-Ok.ensures)
    (refused before after c.requires (refusal_seen c.in-Refused.refusal) refl refl refl
    c.tell_refusal.result c.tell_refusal.ensures)

pub returns-in-Ok-make-clause-runs : goal.returns-in-Ok-make-clause-runs
returns-in-Ok-make-clause-runs g c =
    let before : Outside = outside g.F.Files g.O.Outs g.S.Sink c.args.files.now c.args.outs.now
    c.args.out.now c.args.err.now in
    let after : Outside = outside g.F.Files g.O.Outs g.S.Sink c.make.new.files c.hand_over.new.outs
    c.hand_over.new.out c.args.err.now in
    let P : Job → Type 0 = λ j. Runs j c.hand_over.result before after in
    subst P (sym (ap job_seen c.in-Doing.is) ∙ c.in-Ok.ensures)
    (handed_over before after c.requires (command_seen c.in-Doing.command) c.in-Ok-make.made
    c.in-Ok-make.ensures.made c.in-Ok-make.ensures.valid c.in-Ok-make.ensures.fits
    c.in-Ok-make.ensures.faults refl c.hand_over.result c.hand_over.ensures)

pub returns-in-Err-clause-runs : goal.returns-in-Err-clause-runs
returns-in-Err-clause-runs g c =
    let before : Outside = outside g.F.Files g.O.Outs g.S.Sink c.args.files.now c.args.outs.now
    c.args.out.now c.args.err.now in
    let after : Outside = outside g.F.Files g.O.Outs g.S.Sink c.make.new.files c.args.outs.now
    c.args.out.now c.tell_stop.new.err in
    let P : Job → Type 0 = λ j. Runs j c.tell_stop.result before after in
    subst P (sym (ap job_seen c.in-Doing.is) ∙ c.in-Ok.ensures)
    (stopped before after c.requires (command_seen c.in-Doing.command) refl refl c.in-Err.stop
    c.in-Err.ensures.faults c.in-Err.ensures.stops c.tell_stop.result c.tell_stop.ensures)

pub returns-in_default-clause-once : goal.returns-in_default-clause-once
returns-in_default-clause-once g c = record {
  files = inl refl;
  outs = inl refl;
  out = inl refl;
  err = inl refl;
}

pub returns-in-Refused-clause-once : goal.returns-in-Refused-clause-once
returns-in-Refused-clause-once g c = record {
  files = inl refl;
  outs = inl refl;
  out = inl refl;
  err =
      once_of_line _ _ c.tell_refusal.result (sink_state g.S.Sink c.args.err.now)
      (sink_state g.S.Sink c.tell_refusal.new.err) c.tell_refusal.ensures;
}

pub returns-in-Ok-make-clause-once : goal.returns-in-Ok-make-clause-once
returns-in-Ok-make-clause-once g c =
    let made = once_of_made c.in-Ok-make.made c.hand_over.result
    (outs_state g.O.Outs c.args.outs.now) (outs_state g.O.Outs c.hand_over.new.outs)
    (sink_state g.S.Sink c.args.out.now) (sink_state g.S.Sink c.hand_over.new.out)
    c.hand_over.ensures in
    record { files = inl c.in-Ok-make.ensures.faults; outs = made.0; out = made.1; err = inl refl }

pub returns-in-Err-clause-once : goal.returns-in-Err-clause-once
returns-in-Err-clause-once g c = record {
  files =
      once_of_reading c.make.result (g.F.Files.faults c.args.files.now)
      (g.F.Files.faults c.make.new.files) c.make.ensures.faults;
  outs = inl refl;
  out = inl refl;
  err =
      once_of_stop c.in-Err.stop c.tell_stop.result (sink_state g.S.Sink c.args.err.now)
      (sink_state g.S.Sink c.tell_stop.new.err) c.tell_stop.ensures;
}
