-- The used paths of a listing are those of the files held, in whatever order it has them.
use Rattle.std.proofs.Common.{◌≡◌, ◌⊎◌, ℕ, ◌+◌, ◌<◌, length, take, get_or, append-nil, Bool, true}
use Rattle.std.proofs.Common.{false, cond, ◌&&◌, List, [], ◌∷◌, ◌++◌, map, refl, sym, ap, subst}
use Rattle.std.proofs.Common.{◌∙◌, inl, inr, ⊎_elim, arith}
use Rattle.std.specs.Prelude.{filter, Option, Some, IsSome, IfSome, Contains, bytes_eq}
use Rattle.std.specs.List.{flat_map, enumerate_from}
use Rattle.std.proofs.lemmas.Cmp.{nat_list_eq_equiv, nat_list_cmp_total}
use Rattle.std.proofs.lemmas.Map.Lookups.{exact_bytes}
use Rattle.std.specs.Borrow.{Bor}
use Rattle.std.proofs.lemmas.List.{take_more, map_push, length-map, get_or-map}
use Rattle.std.proofs.lemmas.List.Elements.{Contains-get_or}
use Rattle.std.proofs.lemmas.List.Concat.{flat_map-append}
use lib.Pointwise.{bytes_decides}
use Rattle.used_files.specs.Parts.{now_of}
use Rattle.hdr_core.specs.Held.{held_at, is_under, IsListing, HoldsPath}
use Rattle.used_files.specs.Order.{in_order}
use Rattle.used_files.specs.declared.kinds.FileKinds.{FileKinds}
use Rattle.used_files.specs.Paths.{File, Place, path_order, place_at, is_used, is_repeated}
use Rattle.used_files.specs.Paths.{used, places, first_use, first_uses, used_places, UsedFile}
use Rattle.used_files.specs.Paths.{file_at, tree}
use Rattle.used_files.specs.Stops.{IsRootOrUsed}
use Rattle.used_files.proofs.Options.{if_some, from_some}
use Rattle.used_files.proofs.Ordered.{Among, among_contains, contains_among, among_given}
use Rattle.used_files.proofs.Ordered.{same_order}

abbrev pub Path : Type 0
Path = List ℕ

-- ---- members of filtered lists

among_filter : {X : Type 0} (p : X → Bool) (x : X) (xs : List X) → Among x (filter p xs)
    → Among x xs × (p x ≡ true)
among_filter p x [] h = absurd h
among_filter p x (y ∷ ys) h = by (p y) refl h (λ h. among_filter p x ys h)
  where
    by : (b : Bool) → p y ≡ b → Among x (cond b (y ∷ filter p ys) (filter p ys))
        → (Among x (filter p ys) → Among x ys × (p x ≡ true))
        → ((x ≡ y) ⊎ Among x ys) × (p x ≡ true)
    by true e h rest =
        ⊎_elim (λ is. (inl is, ap p is ∙ e)) (λ h. let r = rest h in (inr r.0, r.1)) h
    by false e h rest = let r = rest h in (inr r.0, r.1)

filter_among : {X : Type 0} (p : X → Bool) (x : X) (xs : List X) → Among x xs → p x ≡ true
    → Among x (filter p xs)
filter_among p x [] h e = absurd h
filter_among p x (y ∷ ys) h e = by (p y) refl h (λ h. filter_among p x ys h e)
  where
    by : (b : Bool) → p y ≡ b → ((x ≡ y) ⊎ Among x ys) → (Among x ys → Among x (filter p ys))
        → Among x (cond b (y ∷ filter p ys) (filter p ys))
    by true f h rest = ⊎_elim (λ is. inl is) (λ h. inr (rest h)) h
    by false f h rest =
        ⊎_elim (λ is. absurd (let both : true ≡ false = sym e ∙ ap p is ∙ f in cc)) (λ h. rest h) h

-- ---- a path is held where it is the path of a file

held_among : (files : List File) (x : Path) → IsSome (held_at files x)
    → Among x (map (λ file. file.0) files)
held_among [] x h = absurd (let e : false ≡ true = h in cc)
held_among (f ∷ fs) x h = by (bytes_eq f.0 x) refl h (λ h. held_among fs x h)
  where
    by : (b : Bool) → bytes_eq f.0 x ≡ b → IsSome (cond b (Some f.1) (held_at fs x))
        → (IsSome (held_at fs x) → Among x (map (λ file. file.0) fs))
        → (x ≡ f.0) ⊎ Among x (map (λ file. file.0) fs)
    by true e h rest = inl (sym ((bytes_decides f.0 x).0 e))
    by false e h rest = inr (rest h)

among_held : (files : List File) (x : Path) → Among x (map (λ file. file.0) files)
    → IsSome (held_at files x)
among_held [] x h = absurd h
among_held (f ∷ fs) x h = by (bytes_eq f.0 x) refl h (λ h. among_held fs x h)
  where
    by : (b : Bool) → bytes_eq f.0 x ≡ b → ((x ≡ f.0) ⊎ Among x (map (λ file. file.0) fs))
        → (Among x (map (λ file. file.0) fs) → IsSome (held_at fs x))
        → IsSome (cond b (Some f.1) (held_at fs x))
    by true e h rest = refl
    by false e h rest =
        ⊎_elim (λ is. absurd
        (let both : true ≡ false = sym (nat_list_eq_equiv.refl x) ∙ ap (λ y. bytes_eq y x) is
        ∙ e in cc)) (λ h. rest h) h

-- ---- one root

both : (a b : Bool) → a ≡ true → b ≡ true → (a && b) ≡ true
both a b e f = ap (λ t. t && b) e ∙ f

split : (a b : Bool) → (a && b) ≡ true → (a ≡ true) × (b ≡ true)
split true b e = (refl, e)
split false b e = absurd (let both : false ≡ true = e in cc)

abbrev is_used_under : FileKinds → Path → Path → Bool
is_used_under kinds root path = is_under root path && is_used kinds root path

abbrev paths_of : List File → List Path
paths_of held = map (λ file. file.0) held

module _ (kinds : FileKinds) (held : List File) (root : Path) (listed : List Path)
    (l : IsListing held root listed) where
  to : (x : Path) → Among x (filter (is_used kinds root) listed)
      → Among x (filter (is_used_under kinds root) (paths_of held))
  to x h =
      let f = among_filter (is_used kinds root) x listed h in
      let c = contains_among x listed f.0 in
      filter_among (is_used_under kinds root) x (paths_of held) (held_among held x (l.are_held x c))
      (both (is_under root x) (is_used kinds root x) (l.are_under x c) f.1)

  from : (x : Path) → Among x (filter (is_used_under kinds root) (paths_of held))
      → Among x (filter (is_used kinds root) listed)
  from x h =
      let f = among_filter (is_used_under kinds root) x (paths_of held) h in
      let u = split (is_under root x) (is_used kinds root x) f.1 in
      filter_among (is_used kinds root) x listed
      (among_contains x listed (l.all x (among_held held x f.0) u.0)) u.1

  -- whatever the order of the listing
  pub listing_used : in_order path_order (filter (is_used kinds root) listed) ≡ used kinds held root
  listing_used =
      same_order path_order nat_list_cmp_total exact_bytes (filter (is_used kinds root) listed)
      (filter (is_used_under kinds root) (paths_of held)) to from

-- ---- each used path is held

used_held : (kinds : FileKinds) (held : List File) (root : Path) (x : Path)
    → Among x (used kinds held root)
    → IsSome (held_at held x)
used_held kinds held root x h =
    among_held held x
    (among_filter (is_used_under kinds root) x (paths_of held)
    (among_given path_order nat_list_cmp_total exact_bytes x
    (filter (is_used_under kinds root) (paths_of held)) h)).0

abbrev EachHeld : List File → List Place → Type 0
EachHeld held all = (place : Place) → Among place all → IsSome (held_at held place.path)

append_cases : {X : Type 0} (x : X) (xs ys : List X) → Among x (xs ++ ys) → Among x xs ⊎ Among x ys
append_cases x [] ys h = inr h
append_cases x (y ∷ xs) ys h =
    ⊎_elim (λ e. inl (inl e))
    (λ h. ⊎_elim (λ h. inl (inr h)) (λ h. inr h) (append_cases x xs ys h)) h

places_held : (held : List File) (root : Path) (paths : List Path)
    → ((x : Path) → Among x paths → IsSome (held_at held x))
    → EachHeld held (map (place_at root) paths)
places_held held root [] each place h = absurd h
places_held held root (p ∷ ps) each place h =
    ⊎_elim (λ e. let P : Place
    → Type 0 = λ q. IsSome (held_at held q.path) in subst P (sym e) (each p (inl refl)))
    (λ h. places_held held root ps (λ x h. each x (inr h)) place h) h

roots_held : (kinds : FileKinds) (held : List File) (roots : List Path)
    → EachHeld held (flat_map (places kinds held) roots)
roots_held kinds held [] place h = absurd h
roots_held kinds held (root ∷ roots) place h =
    ⊎_elim (λ h. places_held held root (used kinds held root) (used_held kinds held root) place h)
    (λ h. roots_held kinds held roots place h)
    (append_cases place (places kinds held root) (flat_map (places kinds held) roots) h)

uses_among : (paths : List Path) (n : ℕ) (all : List Place) (place : Place)
    → Among place (flat_map (first_use paths) (enumerate_from n all)) → Among place all
uses_among paths n [] place h = absurd h
uses_among paths n (p ∷ ps) place h =
    ⊎_elim (λ h. inl (by (is_repeated paths n) h)) (λ h. inr (uses_among paths (n + 1) ps place h))
    (append_cases place (first_use paths (n, p))
    (flat_map (first_use paths) (enumerate_from (n + 1) ps)) h)
  where
    by : (b : Bool) → Among place (cond b [] (p ∷ [])) → place ≡ p
    by true h = absurd h
    by false h = ⊎_elim (λ e. e) (λ h. absurd h) h

pub each_held : (kinds : FileKinds) (held : List File) (roots : List Path) (place : Place)
    → Contains (used_places kinds held roots) place → IsSome (held_at held place.path)
each_held kinds held roots place h =
    let all = flat_map (places kinds held) roots in
    roots_held kinds held roots place
    (uses_among (map (λ (p : Place). p.path) all) 0 all place
    (among_contains place (used_places kinds held roots) h))

-- ---- what the roots used, where the files are told

module _ (kinds : FileKinds) (held later : Option (List File)) (same : later ≡ held)
    (roots : List Path) (listed uses : List Place)
    (l : IfSome held (λ files. listed ≡ flat_map (places kinds files) roots))
    (u : uses ≡ first_uses listed) where
  are_used : (files : List File) → held ≡ Some files → uses ≡ used_places kinds files roots
  are_used files e =
      u ∙ ap first_uses
      (from_some held (λ files. listed ≡ flat_map (places kinds files) roots) files l e)

  -- each used path is held
  pub must_hold : (place : Place) → Contains uses place → HoldsPath later place.path
  must_hold place there =
      if_some later _
      (λ files e. let P : List Place
      → Type 0 = λ ps. Contains ps place in each_held kinds files roots place
      (subst P (are_used files (sym same ∙ e)) there))

  -- the files are those of the tree
  pub in_tree : (P : List UsedFile → Type 0) → IfSome later (λ files. P (map (file_at files) uses))
      → IfSome held (λ files. P (tree kinds files roots))
  in_tree P h =
      if_some held _
      (λ files e. let Q : List Place
      → Type 0 = λ ps. P (map (file_at files) ps) in subst Q (are_used files e)
      (from_some later _ files h (same ∙ e)))

  -- a used path
  pub is_use : (path : Path) → Contains (map (λ place. place.path) uses) path
      → IfSome held (λ files. IsRootOrUsed kinds files roots path)
  is_use path there =
      if_some held _
      (λ files e. let Q : List Place
      → Type 0 = λ ps. Contains (map (λ place. place.path) ps) path in inr
      (subst Q (are_used files e) there))

-- one more root was listed
pub roots_more : (kinds : FileKinds) (files : List File) (roots : List (Bor Path)) (i : ℕ)
    (d : Bor Path) (old new : List Place) (paths : List Path) → i < length roots
    → old ≡ flat_map (places kinds files) (map now_of (take i roots))
    → paths ≡ used kinds files (get_or roots i d).now
    → new ≡ old ++ map (place_at (get_or roots i d).now) paths
    → new ≡ flat_map (places kinds files) (map now_of (take (i + 1) roots))
roots_more kinds files roots i d old new paths inside so_far are pushed =
    let root = (get_or roots i d).now in
    let done = flat_map (places kinds files) (map now_of (take i roots)) in
    pushed
    ∙ ap (λ list. list ++ map (place_at root) paths) so_far
    ∙ ap (λ ps. done ++ map (place_at root) ps) are
    ∙ sym (ap (flat_map (places kinds files))
    (ap (map now_of) (take_more roots i d inside)
    ∙ map_push now_of (take i roots) (get_or roots i d))
    ∙ flat_map-append (places kinds files) (map now_of (take i roots)) (root ∷ [])
    ∙ ap (λ list. done ++ list) (append-nil (places kinds files root)))

-- the path of a root
pub contains_root : (roots : List (Bor Path)) (i : ℕ) (d : Bor Path) (path : Path)
    → i < length roots → path ≡ (get_or roots i d).now → Contains (map now_of roots) path
contains_root roots i d path inside is =
    let short : i < length (map now_of roots) = omega (arith, length-map roots now_of) in
    let P : Path → Type 0 = Contains (map now_of roots) in
    subst P (get_or-map now_of roots i d path inside ∙ sym is)
    (Contains-get_or (map now_of roots) i path short)
