-- Classes beside the files that they were read from.
use Rattle.std.proofs.Common.{◌≡◌, ℕ, ◌+◌, ◌<◌, ◌≤◌, List, [], ◌∷◌, ◌++◌, length, map, take}
use Rattle.std.proofs.Common.{get_or}
use Rattle.std.proofs.Common.{refl, sym, ap, ◌∙◌, append-nil, arith}
use Rattle.std.specs.List.{flat_map, zip}
use Rattle.std.proofs.lemmas.List.{take_more, take_all}
use Rattle.std.proofs.lemmas.List.Concat.{flat_map-append}
use Rattle.std.proofs.lemmas.Slice.Zip.{get_or-zip, length-zip}
use Rattle.class_desc.specs.declared.class.ClassDesc.{ClassDesc}
use Rattle.file_contents.specs.declared.items.Content.{Content}
use Rattle.file_contents.specs.declared.items.Content.TheVariants.{Class, Module}
use Rattle.file_contents.specs.declared.items.Item.{Item}
use Rattle.commands.specs.Outcome.{class_files}
use Rattle.file_contents.specs.Contents.{class_in, classes}
use Rattle.commands.specs.Phases.{kept_class, limits_in, limits_at}
use Rattle.commands.specs.Sources.{sources_of, sources, Sourced, sourced_limits, sourced_file}

module _ (all : List ClassDesc) where
  abbrev sourced : List Item → List Sourced
  sourced items = zip (sources items) (map (kept_class all) (classes items))

  pub limits_sourced : (items : List Item)
      → flat_map sourced_limits (sourced items) ≡ flat_map (limits_at all) items
  limits_sourced [] = refl
  limits_sourced (item ∷ items) = by item.content (limits_sourced items)
    where
      by : (content : Content)
          → flat_map sourced_limits (sourced items) ≡ flat_map (limits_at all) items
          → flat_map sourced_limits
          (zip (sources_of item.file item.path content ++ sources items)
          (map (kept_class all) (class_in content ++ classes items)))
          ≡ limits_in all item.file item.path content ++ flat_map (limits_at all) items
      by (Class d) e = ap (λ list. limits_in all item.file item.path (Class d) ++ list) e
      by (Module below name bytes) e = e

  pub files_sourced : (output : List ℕ) (items : List Item)
      → flat_map (sourced_file output) (sourced items)
      ≡ flat_map (λ item. class_files output all item.content) items
  files_sourced output [] = refl
  files_sourced output (item ∷ items) = by item.content (files_sourced output items)
    where
      by : (content : Content)
          → flat_map (sourced_file output) (sourced items)
          ≡ flat_map (λ item. class_files output all item.content) items
          → flat_map (sourced_file output)
          (zip (sources_of item.file item.path content ++ sources items)
          (map (kept_class all) (class_in content ++ classes items)))
          ≡ class_files output all content
          ++ flat_map (λ item. class_files output all item.content) items
      by (Class d) e = ap (λ list. class_files output all (Class d) ++ list) e
      by (Module below name bytes) e = e

-- there are as many classes as files that they were read from
pub as_many : (items : List Item) → length (sources items) ≡ length (classes items)
as_many [] = refl
as_many (item ∷ items) = by item.content (as_many items)
  where
    by : (content : Content) → length (sources items) ≡ length (classes items)
        → length (sources_of item.file item.path content ++ sources items)
        ≡ length (class_in content ++ classes items)
    by (Class d) e = omega arith
    by (Module below name bytes) e = e

-- all of two lists side by side
pub whole_pairs : {A B : Type 0} (xs : List A) (ys : List B) (i : ℕ) → length ys ≤ i
    → take i (zip xs ys) ≡ zip xs ys
whole_pairs xs ys i all = take_all i (zip xs ys) (omega (arith, length-zip xs ys))

-- one more of two lists side by side
module _ {A B C : Type 0} (f : A × B → List C) (xs : List A) (ys : List B) (i : ℕ) (x : A) (y : B)
    (inside : i < length xs) (within : i < length ys) (is : x ≡ get_or xs i x)
    (at : y ≡ get_or ys i y) where
  zip_more : take (i + 1) (zip xs ys) ≡ take i (zip xs ys) ++ (x, y) ∷ []
  zip_more =
      let below : i < length (zip xs ys) = omega (arith, length-zip xs ys) in
      take_more (zip xs ys) i (x, y) below
      ∙ ap (λ p. take i (zip xs ys) ++ p ∷ [])
      (get_or-zip xs ys i (x, y) inside within ∙ ap (λ a. (a, get_or ys i y)) (sym is)
      ∙ ap (λ b. (x, b)) (sym at))

  pub zip_step : flat_map f (take (i + 1) (zip xs ys))
      ≡ flat_map f (take i (zip xs ys)) ++ f (x, y)
  zip_step =
      ap (flat_map f) zip_more
      ∙ flat_map-append f (take i (zip xs ys)) ((x, y) ∷ [])
      ∙ ap (λ list. flat_map f (take i (zip xs ys)) ++ list) (append-nil (f (x, y)))
