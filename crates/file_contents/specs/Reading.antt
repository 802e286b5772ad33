-- What is told of files as they are read, in their order.
use Rattle.std.specs.Prelude.{ℕ, ◌+◌, Bool, List, [], ◌∷◌, length, take, nat_lt, if◌then◌else◌}
use Rattle.std.specs.List.{flat_map, enumerate_from}
use Rattle.hdr_core.specs.declared.files.TheConstants.{LONGEST_FILE}
use Rattle.hdr_core.specs.declared.code.Code.{Code}
use Rattle.hdr_core.specs.declared.code.Code.TheVariants.{L1, L7, L8}
use Rattle.hdr_core.specs.declared.diagnostics.Diag.{Diag}
use Rattle.used_files.specs.Paths.{UsedFile}
use Rattle.file_contents.specs.declared.limits.Limits.{Limits}

-- a diagnostic of a file, at a line or an offset
abbrev pub diag_in : ℕ → List ℕ → ℕ → Code → List ℕ → Diag
diag_in file path line code name =
    record { file = file; path = path; line = line; code = code; name = name }

-- one of the file as a whole, or of its class
abbrev pub diag_at : ℕ → List ℕ → Code → List ℕ → Diag
diag_at file path code name = diag_in file path 0 code name

-- a used file with its number
abbrev pub Numbered : Type 0
Numbered = ℕ × UsedFile

abbrev pub numbered : List UsedFile → List Numbered
numbered files = enumerate_from 0 files

abbrev pub is_long : UsedFile → Bool
is_long file = nat_lt LONGEST_FILE (length file.bytes)

-- what a file adds to the bytes that are read: a file that is too long adds none
abbrev pub counted : UsedFile → ℕ
counted file = if is_long file then 0 else length file.bytes

abbrev pub total : List UsedFile → ℕ
total [] = 0
total (file ∷ files) = counted file + total files

-- what is found at a file when so many bytes were read before
abbrev pub read_behind : Limits → ℕ → Numbered → List Diag
read_behind limits before n =
    if is_long n.1 then diag_at n.0 n.1.place.path L1 [] ∷ []
    else
    (if nat_lt limits.bytes (before + counted n.1)
    then diag_at n.0 n.1.place.path L7 [] ∷ [] else [])

-- Reading ends at the file that passes the limit of bytes. No file behind that one is read.
abbrev pub reading_at : Limits → List UsedFile → Numbered → List Diag
reading_at limits files n =
    if nat_lt limits.bytes (total (take n.0 files)) then []
    else read_behind limits (total (take n.0 files)) n

abbrev pub reading_each : Limits → List UsedFile → List Diag
reading_each limits files = flat_map (reading_at limits files) (numbered files)

-- Too many files are told at the first one, and none is read then.
abbrev pub reading : Limits → List UsedFile → List Diag
reading limits [] = []
reading limits (file ∷ files) =
    if nat_lt limits.files (length (file ∷ files)) then diag_at 0 file.place.path L8 [] ∷ []
    else reading_each limits (file ∷ files)
