-- What is known of files that are read one by one.
use Rattle.std.specs.Prelude.{◌≡◌, ◌<◌, ◌+◌, Bool, true, not, nat_lt, List, [], ◌∷◌, ◌++◌, length}
use Rattle.hdr_core.specs.declared.code.Code.TheVariants.{L8}
use Rattle.hdr_core.specs.declared.diagnostics.Diag.{Diag}
use Rattle.file_contents.specs.declared.limits.Limits.{Limits}
use Rattle.file_contents.specs.declared.found.Found.{Found}
use Rattle.used_files.specs.Paths.{Place, UsedFile}
use Rattle.file_contents.specs.Reading.{Numbered, diag_at, counted, read_behind, reading_each}
use Rattle.file_contents.specs.Contents.{format_at, format_phase, item_at, items_of}

-- what a file holds was taken apart
pub record Decodes (n : Numbered) (before after : Found) : Type 0 where
  pub format : after.format.items ≡ before.format.items ++ format_at n
  pub items : after.items.items ≡ before.items.items ++ item_at n
  pub reading : after.reading.items ≡ before.reading.items
  pub total : after.total ≡ before.total

-- One more file was read, and reading goes on behind it unless it passes the limit of bytes.
pub record Takes (limits : Limits) (n : Numbered) (before after : Found) (goes_on : Bool) : Type
    0 where
  pub goes : goes_on ≡ not (nat_lt limits.bytes (before.total + counted n.1))
  pub reading : after.reading.items ≡ before.reading.items ++ read_behind limits before.total n
  pub total : goes_on ≡ true → after.total ≡ before.total + counted n.1
  pub format : after.reading.items ≡ [] → after.format.items ≡ before.format.items ++ format_at n
  pub items : after.reading.items ≡ [] → after.items.items ≡ before.items.items ++ item_at n

-- All files were read, or all up to the one that passes the limit of bytes.
pub record IsFound (limits : Limits) (files : List UsedFile) (found : Found) : Type 0 where
  pub reading : found.reading.items ≡ reading_each limits files
  pub format : found.reading.items ≡ [] → found.format.items ≡ format_phase files
  pub items : found.reading.items ≡ [] → found.items.items ≡ items_of files

-- there are too many files, which is told at the first
abbrev pub TooMany : Limits → List Place → List Diag → Type 0
TooMany limits [] list = ⊥
TooMany limits (place ∷ places) list =
    (limits.files < length (place ∷ places)) × (list ≡ diag_at 0 place.path L8 [] ∷ [])
