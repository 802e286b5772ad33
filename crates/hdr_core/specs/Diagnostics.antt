-- The order of diagnostics, and their text: path, ':', line, ': ', code,
-- a blank, the code's text, and behind ': ' a name where there is one.
use Rattle.std.specs.Prelude.{ℕ, List, [], ◌∷◌, ◌++◌, flat_map, codes, decimal}
use Rattle.std.specs.declared.cmp.Ordering.{Ordering}
use Rattle.std.specs.Ordering.{nat_cmp, on, then_cmp}
use Rattle.std.specs.Cmp.Lexicographic.{slice_cmp}
use Rattle.hdr_core.specs.Codes.{code_order, code_name, code_text}
use Rattle.hdr_core.specs.declared.diagnostics.Diag.{Diag}

-- by the file's number, the line, the code's place in the table, the name, and last the path
abbrev pub diag_order : Diag → Diag → Ordering
diag_order =
    then_cmp (on (λ diag. diag.file) nat_cmp)
    (then_cmp (on (λ diag. diag.line) nat_cmp)
    (then_cmp (on (λ diag. diag.code) code_order)
    (then_cmp (on (λ diag. diag.name) (slice_cmp nat_cmp))
    (on (λ diag. diag.path) (slice_cmp nat_cmp)))))

-- a name behind its mark, and nothing where the name is empty
abbrev pub named : List ℕ → List ℕ
named [] = []
named (byte ∷ bytes) = codes ": " ++ byte ∷ bytes

-- the line of one diagnostic, with its line feed
abbrev pub line_of : Diag → List ℕ
line_of diag =
    diag.path ++ codes ":" ++ decimal diag.line ++ codes ": " ++ code_name diag.code ++ codes " "
    ++ code_text diag.code ++ named diag.name ++ codes "\n"

-- one line for each, in their order
abbrev pub printed : List Diag → List ℕ
printed = flat_map line_of
