-- The table of codes, as contracts see it.
use Rattle.std.specs.Prelude.{◌≡◌, ◌<◌, ℕ, List, [], map, length, slice_index_or}
use Rattle.std.specs.declared.cmp.Ordering.{Ordering}
use Rattle.std.specs.Ordering.{nat_cmp, on}
use denote.Enum.Declared.{tag_of}
use Rattle.hdr_core.specs.declared.code.Code.{Code}
use Rattle.hdr_core.specs.declared.code.TheConstants.{CODES}
use Rattle.hdr_core.specs.contracts.code.Code.{the_type}

-- the place of a code among the codes, from 0 on
abbrev pub place_of : Code → ℕ
place_of = tag_of the_type

-- codes in the order of their places
abbrev pub code_order : Code → Code → Ordering
code_order = on place_of nat_cmp

-- The code has a row in the table, at its place.
pub record StandsInPlace (code : Code) : Type 0 where
  pub within : place_of code < length CODES
  pub row : slice_index_or (map (λ row. row.0) CODES) (place_of code) code ≡ code

-- the code as it is printed
abbrev pub code_name : Code → List ℕ
code_name code = slice_index_or (map (λ row. row.1.now) CODES) (place_of code) []

-- what the code says
abbrev pub code_text : Code → List ℕ
code_text code = slice_index_or (map (λ row. row.2.now) CODES) (place_of code) []
