-- Which files a job uses, and in which order.
use Rattle.std.specs.Prelude.{ℕ, ◌+◌, ◌-◌, ◌==◌, ◌&&◌, Bool, not, List, [], ◌∷◌, length, take}
use Rattle.std.specs.Prelude.{drop}
use Rattle.std.specs.Prelude.{map, filter, codes, nat_eq, bytes_eq, position, slice_index_or}
use Rattle.std.specs.Prelude.{Option, Some, None, option_map, unwrap_or, if◌then◌else◌}
use Rattle.std.specs.List.{list_any, starts_with, ends_with, slice_split, flat_map, enumerate_from}
use Rattle.std.specs.declared.cmp.Ordering.{Ordering}
use Rattle.std.specs.Ordering.{nat_cmp}
use Rattle.std.specs.Cmp.Lexicographic.{slice_cmp}
use Rattle.hdr_core.specs.Held.{held_at, is_under}
use Rattle.option_words.specs.Paths.{slash}
use Rattle.used_files.specs.declared.kinds.FileKinds.{FileKinds}
use Rattle.used_files.specs.declared.kinds.FileKinds.TheVariants as kinds
use Rattle.used_files.specs.Order.{in_order}

-- ---- the parts of a path

abbrev pub parts_of : List ℕ → List (List ℕ)
parts_of path = slice_split (λ b. b == slash) path

-- the first folder of a path, and what stands behind its '/'
abbrev pub first_folder : List ℕ → Option (List ℕ × List ℕ)
first_folder path =
    option_map (λ at. (take at path, drop (at + 1) path)) (position (λ b. b == slash) path)

-- all but the last
abbrev pub front_of : {A : Type 0} → List A → List A
front_of [] = []
front_of (x ∷ []) = []
front_of (x ∷ y ∷ xs) = x ∷ front_of (y ∷ xs)

-- the last one
abbrev pub last_of : List (List ℕ) → List ℕ
last_of [] = []
last_of (x ∷ []) = x
last_of (x ∷ y ∷ xs) = last_of (y ∷ xs)

abbrev pub last_part : List ℕ → List ℕ
last_part path = last_of (parts_of path)

-- what stands behind a '/' in front
abbrev pub behind_slash : List ℕ → Option (List ℕ)
behind_slash [] = None
behind_slash (b ∷ bs) = if b == slash then Some bs else None

-- what stands behind the root and a '/'
abbrev pub behind_root : List ℕ → List ℕ → Option (List ℕ)
behind_root root path =
    if starts_with nat_eq path root then behind_slash (drop (length root) path) else None

-- The part of a path below a root. Of a path that doesn't lie below it, as a root that is itself
-- a file, it is the last part.
abbrev pub part_below : List ℕ → List ℕ → List ℕ
part_below root path = unwrap_or (behind_root root path) (last_part path)

-- a file name of a class without its ending
abbrev pub stem : List ℕ → List ℕ
stem path =
    if ends_with nat_eq path (codes ".class")
    then take (length path - length (codes ".class")) path else path

-- ---- the used paths

abbrev pub is_meta_inf : List ℕ → Bool
is_meta_inf folder = bytes_eq folder (codes "META-INF")

-- class files, but for those in a folder META-INF below the root
abbrev pub is_class_path : List ℕ → List ℕ → Bool
is_class_path root path =
    ends_with nat_eq path (codes ".class")
    && not (list_any is_meta_inf (front_of (parts_of (part_below root path))))

-- the compiled description of a module (JVMS 4.1)
abbrev pub is_module : List ℕ → Bool
is_module path = bytes_eq (last_part path) (codes "module-info.class")

-- whether a path under a root is used
abbrev pub is_used : FileKinds → List ℕ → List ℕ → Bool
is_used kinds.ClassesAndModules root path = is_class_path root path
is_used kinds.Classes root path = is_class_path root path && not (is_module path)

abbrev pub File : Type 0
File = List ℕ × List ℕ

abbrev pub path_order : List ℕ → List ℕ → Ordering
path_order = slice_cmp nat_cmp

-- the paths under a root that are used, ordered by their bytes, each once
abbrev pub used : FileKinds → List File → List ℕ → List (List ℕ)
used kinds held root =
    in_order path_order
    (filter (λ path. is_under root path && is_used kinds root path) (map (λ file. file.0) held))

-- a used path, with the root under which it is used
pub record Place : Type 0 where
  pub root : List ℕ
  pub path : List ℕ

abbrev pub place_at : List ℕ → List ℕ → Place
place_at root path = record { root = root; path = path }

abbrev pub places : FileKinds → List File → List ℕ → List Place
places kinds held root = map (place_at root) (used kinds held root)

abbrev pub is_among : List (List ℕ) → List ℕ → Bool
is_among keys key = list_any (bytes_eq key) keys

-- whether a key stands there not for the first time
abbrev pub is_repeated : List (List ℕ) → ℕ → Bool
is_repeated keys at = is_among (take at keys) (slice_index_or keys at [])

abbrev pub first_use : List (List ℕ) → ℕ × Place → List Place
first_use paths n = if is_repeated paths n.0 then [] else n.1 ∷ []

-- of each path its first use
abbrev pub first_uses : List Place → List Place
first_uses all = flat_map (first_use (map (λ place. place.path) all)) (enumerate_from 0 all)

-- what the roots use, in their order; a path is used under the first root that uses it
abbrev pub used_places : FileKinds → List File → List (List ℕ) → List Place
used_places kinds held roots = first_uses (flat_map (places kinds held) roots)

-- ---- the used files

pub record UsedFile : Type 0 where
  pub place : Place
  pub bytes : List ℕ

abbrev pub used_file : Place → List ℕ → UsedFile
used_file place bytes = record { place = place; bytes = bytes }

abbrev pub file_at : List File → Place → UsedFile
file_at held place = used_file place (unwrap_or (held_at held place.path) [])

-- the used files with their bytes
abbrev pub tree : FileKinds → List File → List (List ℕ) → List UsedFile
tree kinds held roots = map (file_at held) (used_places kinds held roots)
