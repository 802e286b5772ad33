-- Files that are written in their order, all or a front of them.
use Rattle.std.proofs.Common.{◌≡◌, ℕ, ◌+◌, ◌<◌, List, [], ◌∷◌, ◌++◌, length, map, take, drop}
use Rattle.std.proofs.Common.{get_or, refl, sym, ap, ◌∙◌, append-nil, append_assoc, add-one}
use Rattle.std.specs.Prelude.{Option, Some, None}
use Rattle.std.proofs.Math.Seq.{take-suc}
use Rattle.std.proofs.lemmas.List.{take-append-drop, map-append}
use Rattle.hdr_core.specs.Held.{with_file}
use Rattle.run_ends.specs.declared.out_file.OutFile.{OutFile}
use Rattle.std.proofs.lemmas.Map.Lookups.{exact_bytes}
use Rattle.std.specs.declared.cmp.Ordering.{Ordering}
use Rattle.std.specs.declared.cmp.Ordering.TheVariants.{Less, Equal, Greater}
use Rattle.std.specs.Ordering.{nat_cmp, ordering_then}
use Rattle.std.specs.Cmp.Lexicographic.{slice_cmp}
use Rattle.run_ends.specs.OutFiles.{file_order, file_seen}
use Rattle.used_files.specs.Paths.{File}
use Rattle.run_ends.specs.Tells.{with_files, GrewByFiles}

pub with_none : (written : Option (List File)) → written ≡ with_files written []
with_none None = refl
with_none (Some files) = ap Some (sym (append-nil files))

-- No file is a front of all.
pub wrote_nothing : (written : Option (List File)) (files : List File)
    → GrewByFiles written written files
wrote_nothing written files = ([], files, refl, with_none written)

-- All of them are a front.
pub wrote_all : (written written' : Option (List File)) (files : List File)
    → written' ≡ with_files written files → GrewByFiles written written' files
wrote_all written written' files e = (files, [], append-nil files, e)

with_more : (written : Option (List File)) (files : List File) (file : File)
    → with_file (with_files written files) file.0 file.1 ≡ with_files written (files ++ file ∷ [])
with_more None files file = refl
with_more (Some before) files file = ap Some (append_assoc before files (file ∷ []))

-- where the file at an index is refused
pub wrote_below : (old mid new : Option (List File)) (i : ℕ) (files : List OutFile)
    → mid ≡ with_files old (map file_seen (take i files)) → new ≡ mid
    → GrewByFiles old new (map file_seen files)
wrote_below old mid new i files e same = (
  map file_seen (take i files),
  map file_seen (drop i files),
  sym
      (map-append file_seen (take i files) (drop i files))
      ∙ ap (map file_seen) (take-append-drop i files),
  same ∙ e,
)

-- where it is written
pub wrote_more : (old mid new : Option (List File)) (i : ℕ) (files : List OutFile) (file : OutFile)
    → i < length files → mid ≡ with_files old (map file_seen (take i files))
    → file ≡ get_or files i file
    → new ≡ with_file mid file.path file.bytes
    → new ≡ with_files old (map file_seen (take (i + 1) files))
wrote_more old mid new i files file h e is more =
    more ∙ ap (λ w. with_file w file.path file.bytes) e
    ∙ with_more old (map file_seen (take i files)) (file_seen file)
    ∙ ap (with_files old) (sym one_more)
  where
    one_more : map file_seen (take (i + 1) files)
        ≡ map file_seen (take i files) ++ file_seen file ∷ []
    one_more =
        ap (map file_seen) (rw add-one (take-suc files i file h))
        ∙ map-append file_seen (take i files) (get_or files i file ∷ [])
        ∙ ap (λ x. map file_seen (take i files) ++ file_seen x ∷ []) (sym is)

-- files that no order tells apart are one
pub exact_file : (x y : OutFile) → file_order (file_seen x) (file_seen y) ≡ Equal → x ≡ y
exact_file x y e = by (slice_cmp nat_cmp x.path y.path) refl e
  where
    by : (o : Ordering) → slice_cmp nat_cmp x.path y.path ≡ o
        → ordering_then o (slice_cmp nat_cmp x.bytes y.bytes) ≡ Equal → x ≡ y
    by Equal p b =
        let paths = exact_bytes x.path y.path p in let bytes = exact_bytes x.bytes y.bytes
        b in λ i. record { path = paths i; bytes = bytes i }
    by Less p b = absurd cc
    by Greater p b = absurd cc
