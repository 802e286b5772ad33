-- Pieces that are found without the machine.
use Rattle.std.proofs.Common.{◌≡◌, ℕ, ◌<◌, List, [], ◌∷◌, length, drop, get_or, Option, Some}
use Rattle.std.proofs.Common.{None, refl, sym, ◌∙◌, arith}
use Rattle.java_text.proofs.LetterLemmas.{ascii_start}
use Rattle.java_lexer.specs.declared.kind.Kind.{Kind}
use Rattle.java_lexer.specs.declared.kind.Kind.TheVariants as kind
use Rattle.java_lexer.specs.declared.form.Form.TheVariants as form
use Rattle.java_lexer.specs.declared.state.State.{State}
use Rattle.java_lexer.specs.declared.state.State.TheVariants as state
use Rattle.java_lexer.specs.Machine.{next_state, scan}
use Rattle.java_lexer.proofs.Longest.{scan_more}

abbrev pub blank : State
blank = state.Other (form.Closed kind.Blank)

pub space_step : next_state state.Start 32 ≡ Some blank
space_step = rw (ascii_start 32 (omega arith)) refl

pub line_step : next_state state.Start 10 ≡ Some blank
line_step = rw (ascii_start 10 (omega arith)) refl

-- nothing goes on a closed piece
closed_scanned : (k : Kind) (n : ℕ) (best : Option (ℕ × Kind)) (cs : List ℕ)
    → scan (state.Other (form.Closed k)) n best cs ≡ best
closed_scanned k n best [] = refl
closed_scanned k n best (c ∷ cs) = refl

-- a blank alone is a piece
pub blank_scanned : (units : List ℕ) → 0 < length units
    → next_state state.Start (get_or units 0 0) ≡ Some blank
    → scan state.Start 0 None units ≡ Some (1, kind.Blank)
blank_scanned units h e =
    sym (scan_more state.Start blank 0 None (Some (1, kind.Blank)) units h e refl)
    ∙ closed_scanned kind.Blank 1 (Some (1, kind.Blank)) (drop 1 units)
