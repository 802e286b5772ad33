-- What the reading of a whole file gives.
use Rattle.std.specs.Prelude.{◌≡◌, ℕ, ◌<◌, Bool, true, false, List, length}
use Rattle.hdr_core.specs.declared.files.TheConstants.{LONGEST_FILE}

-- All bytes were read where there are few enough. Else there are too many.
abbrev pub IsRead : List ℕ → Bool → List ℕ → Type 0
IsRead held true into = into ≡ held
IsRead held false into = LONGEST_FILE < length held
