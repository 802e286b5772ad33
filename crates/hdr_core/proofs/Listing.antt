-- Paths that are collected, sorted and freed of repeats are a listing.
use Rattle.std.proofs.Common.{◌≡◌, ℕ, Bool, true, false, cond, List, [], ◌∷◌, map, filter, refl}
use Rattle.std.proofs.Common.{ap, sym, ◌∙◌, subst, IsSome, Contains, arith, String, Global}
use Rattle.std.specs.Prelude.{bytes_eq, Some, string_bytes}
use Rattle.std.specs.List.{All, dedup, dedup_from, IsDistinct, AllByRecursion}
use Rattle.std.specs.List.Sorted.{IsPermutation, IsSorted}
use Rattle.std.specs.List.Retain.{IsFiltered, DiffersFromLast}
use Rattle.std.specs.Ordering.{nat_cmp, on, eq_by_cmp}
use Rattle.std.specs.Cmp.Lexicographic.{slice_cmp, on_texts, texts_ties}
use Rattle.std.proofs.lemmas.Cmp.{nat_list_eq_equiv}
use Rattle.std.proofs.lemmas.List.Elements.{All-cons, All-nil, All-weaker, All-filter}
use Rattle.std.proofs.lemmas.List.Elements.{All-contains, filter_passes, Contains-append_right}
use Rattle.std.proofs.lemmas.List.Elements.{Contains-get_or}
use Rattle.std.proofs.lemmas.List.Filters.{dedup_is}
use Rattle.std.proofs.lemmas.List.Kept.{Contains-dedup, Contains-from_dedup}
use Rattle.std.proofs.lemmas.List.Kept.{IsStrictlySortedBy-dedup}
use Rattle.std.proofs.lemmas.List.Sorted.{Contains-permutation, IsPermutation-map}
use Rattle.std.proofs.lemmas.List.Sorted.{IsPermutation-sym}
use Rattle.std.proofs.lemmas.Map.Keys.{IsDistinct-from_sorted}
use lib.Pointwise.{bytes_decides}
use mathlib.Core.Bool.{true≢false}
use Rattle.hdr_core.specs.declared.held.HeldFile.{HeldFile}
use Rattle.hdr_core.specs.Held.{held_at, is_under, IsListing}
use Rattle.hdr_core.specs.InMemory.{held_files}

module _ {X : Type 0} (text_of : X → List ℕ) where
  -- repeats are dropped by their texts
  dedup_from_map : (x : X) (xs : List X)
      → map text_of (dedup_from (on text_of bytes_eq) x xs)
      ≡ dedup_from bytes_eq (text_of x) (map text_of xs)
  dedup_from_map x [] = refl
  dedup_from_map x (y ∷ ys) =
      by (bytes_eq (text_of y) (text_of x)) (dedup_from_map x ys) (dedup_from_map y ys)
    where
      by : (b : Bool) → map text_of (dedup_from (on text_of bytes_eq) x ys)
          ≡ dedup_from bytes_eq (text_of x) (map text_of ys)
          → map text_of (dedup_from (on text_of bytes_eq) y ys)
          ≡ dedup_from bytes_eq (text_of y) (map text_of ys)
          → map text_of (cond b (dedup_from (on text_of bytes_eq) x ys)
          (x ∷ dedup_from (on text_of bytes_eq) y ys))
          ≡ cond b (dedup_from bytes_eq (text_of x) (map text_of ys))
          (text_of x ∷ dedup_from bytes_eq (text_of y) (map text_of ys))
      by true here later = here
      by false here later = ap (λ ts. text_of x ∷ ts) later

  dedup_map : (xs : List X) → map text_of (dedup (on text_of bytes_eq) xs)
      ≡ dedup bytes_eq (map text_of xs)
  dedup_map [] = refl
  dedup_map (x ∷ xs) = dedup_from_map x xs

  apart : (text : List ℕ) (xs : List X)
      → AllByRecursion (λ x. eq_by_cmp (slice_cmp nat_cmp) text (text_of x) ≡ false) xs
      → AllByRecursion (λ other. bytes_eq text other ≡ false) (map text_of xs)
  apart text [] h = tt
  apart text (x ∷ xs) h = (texts_ties text (text_of x) ∙ h.0, apart text xs h.1)

  distinct_map : (xs : List X) → IsDistinct (eq_by_cmp (on text_of (slice_cmp nat_cmp))) xs
      → IsDistinct bytes_eq (map text_of xs)
  unfolding IsDistinct
  distinct_map [] h = tt
  distinct_map (x ∷ xs) h = (apart (text_of x) xs h.0, distinct_map xs h.1)

-- a path that is held stays held with a file before the others
held_later : (file : List ℕ × List ℕ) (files : List (List ℕ × List ℕ)) (path : List ℕ)
    → IsSome (held_at files path) → IsSome (held_at (file ∷ files) path)
held_later file files path h = by (bytes_eq file.0 path)
  where
    by : (b : Bool) → IsSome (cond b (Some file.1) (held_at files path))
    by true = refl
    by false = h

held_first : (file : List ℕ × List ℕ) (files : List (List ℕ × List ℕ))
    → IsSome (held_at (file ∷ files) file.0)
held_first file files =
    subst (λ b. IsSome (cond b (Some file.1) (held_at files file.0)))
    (sym ((bytes_decides file.0 file.0).1 refl)) refl

each_is_held : (files : List (List ℕ × List ℕ))
    → All (λ path. IsSome (held_at files path)) (map (λ file. file.0) files)
each_is_held [] = All-nil (λ path. IsSome (held_at [] path))
each_is_held (file ∷ files) =
    All-cons (λ path. IsSome (held_at (file ∷ files) path)) file.0 (map (λ f. f.0) files)
    (held_first file files)
    (All-weaker (λ path. IsSome (held_at files path))
    (λ path. IsSome (held_at (file ∷ files) path))
    (held_later file files) (map (λ f. f.0) files) (each_is_held files))

-- a held path that passes a test is among those that do
held_passes : (test : List ℕ → Bool) (files : List (List ℕ × List ℕ)) (path : List ℕ)
    → IsSome (held_at files path) → test path ≡ true
    → Contains (filter test (map (λ file. file.0) files)) path
held_passes test [] path h passes = absurd (true≢false (sym h))
held_passes test (file ∷ files) path h passes =
    by (bytes_eq file.0 path) refl h (λ there. held_passes test files path there passes)
  where
    rest : List (List ℕ)
    rest = filter test (map (λ f. f.0) files)

    behind : (b : Bool) → Contains rest path → Contains (cond b (file.0 ∷ rest) rest) path
    behind true there = Contains-append_right (file.0 ∷ []) rest path there
    behind false there = there

    here : file.0 ≡ path → Contains (cond (test file.0) (file.0 ∷ rest) rest) path
    here e =
        subst (λ first. Contains (cond (test first) (first ∷ rest) rest) path) (sym e)
        (subst (λ b. Contains (cond b (path ∷ rest) rest) path) (sym passes)
        (Contains-get_or (path ∷ rest) 0 path (omega arith)))

    by : (b : Bool) → bytes_eq file.0 path ≡ b → IsSome (cond b (Some file.1) (held_at files path))
        → (IsSome (held_at files path) → Contains rest path)
        → Contains (cond (test file.0) (file.0 ∷ rest) rest) path
    by true same there later = here ((bytes_decides file.0 path).0 same)
    by false other there later = behind (test file.0) (later there)

paths_of_held : (files : List HeldFile)
    → map (λ file. file.0) (held_files files) ≡ map (λ file. string_bytes file.path) files
paths_of_held [] = refl
paths_of_held (file ∷ files) = ap (λ paths. string_bytes file.path ∷ paths) (paths_of_held files)

-- The texts of items that were collected, sorted and freed of repeats.
is_listing : {X : Type 0} (text_of : X → List ℕ) (files : List (List ℕ × List ℕ)) (root : List ℕ)
    (collected sorted kept : List X)
    → map text_of collected ≡ filter (is_under root) (map (λ file. file.0) files)
    → IsPermutation collected sorted → IsSorted (on text_of (slice_cmp nat_cmp)) sorted
    → IsFiltered (DiffersFromLast (on text_of bytes_eq)) [] sorted kept
    → IsListing files root (map text_of kept)
is_listing text_of files root collected sorted kept are moved ordered dropped = record {
  are_held =
      λ path there. All-contains (λ p. IsSome (held_at files p)) under path
      (All-filter (is_under root) (λ p. IsSome (held_at files p)) all (each_is_held files))
      (back path there);
  are_under =
      λ path there. All-contains (λ p. is_under root p ≡ true) under path
      (filter_passes (is_under root) all) (back path there);
  all =
      λ path held below. subst (λ ts. Contains ts path) (sym texts)
      (Contains-dedup nat_list_eq_equiv (λ a b. (bytes_decides a b).0) (map text_of sorted) path
      (Contains-permutation _ _ path (IsPermutation-map text_of collected sorted moved)
      (subst (λ ts. Contains ts path) (sym are)
      (held_passes (is_under root) files path held below))));
  once =
      distinct_map text_of kept (subst (IsDistinct (eq_by_cmp (on text_of (slice_cmp nat_cmp))))
      (sym kept_is) (IsDistinct-from_sorted (on text_of (slice_cmp nat_cmp)) _
      (IsStrictlySortedBy-dedup (on_texts text_of) (λ a b. texts_ties (text_of a) (text_of b))
      sorted ordered)));
}
  where
    all : List (List ℕ)
    all = map (λ file. file.0) files

    under : List (List ℕ)
    under = filter (is_under root) all

    kept_is : kept ≡ dedup (on text_of bytes_eq) sorted
    kept_is = dedup_is (on text_of bytes_eq) sorted kept dropped

    texts : map text_of kept ≡ dedup bytes_eq (map text_of sorted)
    texts = ap (map text_of) kept_is ∙ dedup_map text_of sorted

    back : (path : List ℕ) → Contains (map text_of kept) path → Contains under path
    back path there =
        subst (λ ts. Contains ts path) are
        (Contains-permutation _ _ path
        (IsPermutation-sym _ _ (IsPermutation-map text_of collected sorted moved))
        (Contains-from_dedup bytes_eq (map text_of sorted) path
        (subst (λ ts. Contains ts path) texts there)))

-- the same for the paths of files in memory
pub is_held_listing : (files : List HeldFile) (root : List ℕ)
    (collected sorted kept : List (String Global))
    → map string_bytes collected
    ≡ filter (is_under root) (map (λ file. string_bytes file.path) files)
    → IsPermutation collected sorted → IsSorted (on string_bytes (slice_cmp nat_cmp)) sorted
    → IsFiltered (DiffersFromLast (on string_bytes bytes_eq)) [] sorted kept
    → IsListing (held_files files) root (map string_bytes kept)
is_held_listing files root collected sorted kept are =
    is_listing string_bytes (held_files files) root collected sorted kept
    (are ∙ ap (filter (is_under root)) (sym (paths_of_held files)))
