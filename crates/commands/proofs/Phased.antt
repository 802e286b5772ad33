-- The first phase of a job that has a diagnostic.
use Rattle.std.proofs.Common.{◌≡◌, ℕ, List, [], sym, ap, ◌∙◌}
use Rattle.std.specs.Prelude.{Result, Ok, Err, IfOk, IfErr}
use Rattle.hdr_core.specs.declared.diagnostics.Diag.{Diag}
use Rattle.used_files.specs.Paths.{UsedFile}
use Rattle.used_files.specs.Stops.{IsFilled, StopsOnly, FaultRises}
use Rattle.used_files.specs.declared.stop.Stop.{Stop}
use Rattle.used_files.specs.declared.stop.Stop.TheVariants as stop
use Rattle.file_contents.specs.declared.limits.Limits.{Limits}
use Rattle.file_contents.specs.declared.items.Item.{Item}
use Rattle.file_contents.specs.Contents.{items_of}
use Rattle.file_contents.specs.Phases.{twice, file_phases}
use Rattle.file_contents.proofs.Reading.{or_first, or_later}
use Rattle.commands.specs.Phases.{limit_phase, item_phases, first_phase}

module _ (limits : Limits) (phases : List Item → List Diag) (files : List UsedFile) where
  pub first_files : (list : List Diag) → IsFilled list → file_phases limits files ≡ list
      → first_phase limits phases files ≡ list
  first_files list filled e =
      or_first (file_phases limits files) (phases (items_of files)) list (sym e) filled

  -- no file has one, so the first phase is that of the items
  pub phase_of_items : (items : List Item) (list : List Diag) → file_phases limits files ≡ []
      → items ≡ items_of files → phases items ≡ list → first_phase limits phases files ≡ list
  phase_of_items items list fine are e =
      or_later (file_phases limits files) (phases (items_of files)) fine ∙ ap phases (sym are) ∙ e

-- ---- the phases of items

pub told_twice : (items : List Item) (list : List Diag) → IsFilled list → list ≡ twice items
    → item_phases items ≡ list
told_twice items list filled e = or_first (twice items) (limit_phase items) list e filled

pub told_limits : (items : List Item) → twice items ≡ [] → item_phases items ≡ limit_phase items
told_limits items e = or_later (twice items) (limit_phase items) e

-- ---- answers that no fault brings about

pub if_ok_always : {A E : Type 0} {P : Type 0} (r : Result A E) → P → IfOk r (λ _. P)
if_ok_always (Ok x) p = p
if_ok_always (Err e) p = tt

pub none_faults : {A : Type 0} (r : Result A Stop) (OnDiags : List Diag → Type 0)
    (before after : ℕ) → IfErr r (λ stop. StopsOnly stop (λ _. ⊥) OnDiags) → after ≡ before
    → FaultRises r before after
none_faults (Ok x) OnDiags before after stops e = e
none_faults (Err (stop.Fault path)) OnDiags before after stops e = absurd stops
none_faults (Err (stop.Diagnosed list)) OnDiags before after stops e = e
none_faults (Err stop.Memory) OnDiags before after stops e = e
