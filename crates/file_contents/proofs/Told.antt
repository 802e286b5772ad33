-- What reading comes to, where the files are told.
use Rattle.std.proofs.Common.{◌≡◌, ℕ, ◌≤◌, List, [], ◌∷◌, length, map, refl, sym, ap, subst}
use Rattle.std.proofs.Common.{arith}
use Rattle.std.proofs.lemmas.List.{length-map}
use Rattle.std.specs.Prelude.{Option, IfSome}
use Rattle.std.specs.List.{flat_map}
use Rattle.hdr_core.specs.declared.diagnostics.Diag.{Diag}
use Rattle.used_files.specs.declared.kinds.FileKinds.{FileKinds}
use Rattle.used_files.specs.Paths.{File, Place, UsedFile, file_at, first_uses, places, tree}
use Rattle.used_files.specs.Stops.{IsFilled}
use Rattle.used_files.proofs.Listings.{in_tree}
use Rattle.used_files.proofs.Options.{if_some, from_some}
use Rattle.file_contents.specs.declared.limits.Limits.{Limits}
use Rattle.file_contents.specs.declared.found.Found.{Found}
use Rattle.file_contents.specs.Found.{IsFound, TooMany}
use Rattle.file_contents.specs.Phases.{file_phases}
use Rattle.file_contents.proofs.Reading.{told_many}

-- the places of files that are read at places
places_back : (held : List File) (uses : List Place)
    → map (λ file. file.place) (map (file_at held) uses) ≡ uses
places_back held [] = refl
places_back held (place ∷ uses) = ap (λ list. place ∷ list) (places_back held uses)

filled_many : (limits : Limits) (uses : List Place) (list : List Diag) → TooMany limits uses list
    → IsFilled list
filled_many limits [] list many = absurd many
filled_many limits (place ∷ uses) list many =
    let P : List Diag → Type 0 = IsFilled in subst P (sym many.1) tt

module _ (kinds : FileKinds) (held later : Option (List File)) (same : later ≡ held)
    (roots : List (List ℕ)) (listed uses : List Place)
    (l : IfSome held (λ files. listed ≡ flat_map (places kinds files) roots))
    (u : uses ≡ first_uses listed) (limits : Limits) where
  abbrev pub IsTold : List Diag → Type 0
  IsTold list = IfSome held (λ files. file_phases limits (tree kinds files roots) ≡ list)

  -- there are too many files
  pub many_told : (list : List Diag) → TooMany limits uses list → IsFilled list × IsTold list
  many_told list many = (
    filled_many limits uses list many,
    in_tree kinds held later same roots listed uses l u (λ files. file_phases limits files ≡ list)
        (if_some later _ (λ files e.
        (told_many limits (map (file_at files) uses) uses list (places_back files uses) many).1)),
  )

  -- what was found is found in the tree
  pub with_found : (found : Found) (P : List UsedFile → Type 0) → length uses ≤ limits.files
      → IfSome later (λ files. IsFound limits (map (file_at files) uses) found)
      → ((files : List UsedFile) → length files ≤ limits.files → IsFound limits files found
      → P files)
      → IfSome held (λ files. P (tree kinds files roots))
  with_found found P few is f =
      in_tree kinds held later same roots listed uses l u P
      (if_some later _ (λ files e.
      f (map (file_at files) uses) (omega (arith, length-map uses (file_at files)))
      (from_some later _ files is e)))
