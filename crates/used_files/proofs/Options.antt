-- A fact of what is in an option.
use Rattle.std.proofs.Common.{◌≡◌, ℕ, List, refl, subst}
use Rattle.std.specs.Prelude.{string_bytes, Option, Some, None, Result, Ok, Err, IfSome, IfErr}
use Rattle.hdr_core.specs.declared.diagnostics.Diag.{Diag}
use Rattle.used_files.specs.declared.stop.Stop.{Stop}
use Rattle.used_files.specs.declared.stop.Stop.TheVariants as stop
use Rattle.used_files.specs.Stops.{StopsOnly}

module _ {A : Type 0} where
  pub if_some : (o : Option A) (P : A → Type 0) → ((x : A) → o ≡ Some x → P x) → IfSome o P
  if_some None P f = tt
  if_some (Some x) P f = f x refl

  pub from_some : (o : Option A) (P : A → Type 0) (x : A) → IfSome o P → o ≡ Some x → P x
  from_some o P x h e = let Q : Option A → Type 0 = λ t. IfSome t P in subst Q e h

pub if_err_weaker : {A E : Type 0} (r : Result A E) (P Q : E → Type 0) → ((e : E) → P e → Q e)
    → IfErr r P → IfErr r Q
if_err_weaker (Ok x) P Q f h = tt
if_err_weaker (Err e) P Q f h = f e h

pub stops_weaker : (s : Stop) (F F' : List ℕ → Type 0) (D D' : List Diag → Type 0)
    → ((path : List ℕ) → F path → F' path) → ((list : List Diag) → D list → D' list)
    → StopsOnly s F D → StopsOnly s F' D'
stops_weaker (stop.Fault path) F F' D D' f g h = f (string_bytes path) h
stops_weaker (stop.Diagnosed list) F F' D D' f g h = g list.items h
stops_weaker stop.Memory F F' D D' f g h = tt
