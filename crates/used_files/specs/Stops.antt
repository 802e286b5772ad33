-- What is known where a job ends before anything is written.
use Rattle.std.specs.Prelude.{◌≡◌, ◌⊎◌, ℕ, List, [], ◌∷◌, map, string_bytes, Result, Ok, Err}
use Rattle.std.specs.Prelude.{Contains}
use Rattle.hdr_core.specs.Causes.{Rose}
use Rattle.hdr_core.specs.declared.diagnostics.Diag.{Diag}
use Rattle.used_files.specs.Paths.{File, used_places}
use Rattle.used_files.specs.declared.kinds.FileKinds.{FileKinds}
use Rattle.used_files.specs.declared.stop.Stop.{Stop}
use Rattle.used_files.specs.declared.stop.Stop.TheVariants as stop

-- not empty
abbrev pub IsFilled : List Diag → Type 0
IsFilled [] = ⊥
IsFilled (d ∷ ds) = Unit {0}

-- a fault comes only with this, and diagnostics only with that
abbrev pub StopsOnly : Stop → (List ℕ → Type 0) → (List Diag → Type 0) → Type 0
StopsOnly (stop.Fault path) OnFault OnDiags = OnFault (string_bytes path)
StopsOnly (stop.Diagnosed list) OnFault OnDiags = OnDiags list.items
StopsOnly stop.Memory OnFault OnDiags = Unit {0}

-- the count of faults rose just where a fault is answered
abbrev pub FaultRises : {A : Type 0} → Result A Stop → ℕ → ℕ → Type 0
FaultRises (Ok x) before after = after ≡ before
FaultRises (Err (stop.Fault path)) before after = Rose before after
FaultRises (Err (stop.Diagnosed list)) before after = after ≡ before
FaultRises (Err stop.Memory) before after = after ≡ before

-- a root of the words, or a used path
abbrev pub IsRootOrUsed : FileKinds → List File → List (List ℕ) → List ℕ → Type 0
IsRootOrUsed kinds held roots path =
    Contains roots path
    ⊎ Contains (map (λ place. place.path) (used_places kinds held roots)) path
