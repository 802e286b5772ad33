-- What files hold, and what was written, as lists of a path and bytes.
use Rattle.std.specs.Prelude.{◌≡◌, ℕ, ◌&&◌, ◌==◌, Bool, true, List, [], ◌∷◌, ◌++◌, length, ◌≤◌}
use Rattle.std.specs.Prelude.{◌<◌, drop, nat_eq, bytes_eq, Option, Some, None, IsSome, IfSome}
use Rattle.std.specs.Prelude.{Contains, if◌then◌else◌}
use Rattle.std.specs.List.{starts_with, IsDistinct}

-- the bytes that are held at a path: those of its first entry
abbrev pub held_at : List (List ℕ × List ℕ) → List ℕ → Option (List ℕ)
held_at [] path = None
held_at (file ∷ files) path = if bytes_eq file.0 path then Some file.1 else held_at files path

-- nothing, or what begins with a '/'
abbrev pub is_below : List ℕ → Bool
is_below [] = true
is_below (byte ∷ bytes) = byte == 47

-- The path is the root itself, or lies below it: behind the root stands nothing, or a '/' and
-- more.
abbrev pub is_under : List ℕ → List ℕ → Bool
is_under root path = starts_with nat_eq path root && is_below (drop (length root) path)

-- The paths are the held ones under a root, each once, in any order.
pub record IsListing (held : List (List ℕ × List ℕ)) (root : List ℕ)
    (paths : List (List ℕ)) : Type 0 where
  pub are_held : (path : List ℕ) → Contains paths path → IsSome (held_at held path)
  pub are_under : (path : List ℕ) → Contains paths path → is_under root path ≡ true
  pub all : (path : List ℕ) → IsSome (held_at held path) → is_under root path ≡ true
      → Contains paths path
  pub once : IsDistinct bytes_eq paths

-- where the files are told, the paths are a listing of the root
abbrev pub ListsWhereTold : Option (List (List ℕ × List ℕ)) → List ℕ → List (List ℕ) → Type 0
ListsWhereTold held root paths = IfSome held (λ files. IsListing files root paths)

-- where the files are told, one of them is of this path
abbrev pub HoldsPath : Option (List (List ℕ × List ℕ)) → List ℕ → Type 0
HoldsPath held path = IfSome held (λ files. IsSome (held_at files path))

-- where the files are told, that of this path has these bytes
abbrev pub HoldsBytes : Option (List (List ℕ × List ℕ)) → List ℕ → List ℕ → Type 0
HoldsBytes held path bytes = IfSome held (λ files. held_at files path ≡ Some bytes)

-- where the files are told, that of this path has at most so many bytes
abbrev pub HoldsWithin : Option (List (List ℕ × List ℕ)) → List ℕ → ℕ → Type 0
HoldsWithin held path most =
    IfSome held (λ files. IfSome (held_at files path) (λ bytes. length bytes ≤ most))

-- where the files are told, that of this path has more bytes
abbrev pub HoldsBeyond : Option (List (List ℕ × List ℕ)) → List ℕ → ℕ → Type 0
HoldsBeyond held path most =
    IfSome held (λ files. IfSome (held_at files path) (λ bytes. most < length bytes))

-- the written files, with one more at their end, where they are told
abbrev pub with_file : Option (List (List ℕ × List ℕ)) → List ℕ → List ℕ
    → Option (List (List ℕ × List ℕ))
with_file None path bytes = None
with_file (Some files) path bytes = Some (files ++ (path, bytes) ∷ [])
