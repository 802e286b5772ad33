-- Files that are read one by one.
use Rattle.std.proofs.Common.{◌≡◌, ℕ, zero, suc, ◌+◌, ◌<◌, ◌≤◌, Bool, true, false, cond, not, ltb}
use Rattle.std.proofs.Common.{eqb, List, [], ◌∷◌, ◌++◌, length, map, take, drop, get_or, refl, sym}
use Rattle.std.proofs.Common.{ap, subst, ◌∙◌, append-nil, arith}
use Rattle.std.specs.Prelude.{Ok, Err, Option, Some, None, IsSome, IfSome, Contains, unwrap_or}
use Rattle.std.specs.List.{flat_map, enumerate_from}
use Rattle.hdr_core.specs.declared.files.TheConstants.{LONGEST_FILE}
use Rattle.pool_reader.specs.declared.fault.ClassFault.{ClassFault}
use Rattle.file_contents.specs.declared.items.Content.{Content}
use Rattle.std.proofs.lemmas.Bool.{ltb-true, lt-ltb, le-ltb, eqb-true}
use Rattle.std.proofs.lemmas.List.{take_more, take-append-drop, length-take, length-map}
use Rattle.std.proofs.lemmas.List.{get_or-map}
use Rattle.std.proofs.lemmas.List.{nil_from_length}
use Rattle.std.proofs.lemmas.List.Elements.{Contains-get_or}
use Rattle.std.proofs.lemmas.List.Concat.{flat_map-append}
use Rattle.hdr_core.specs.declared.code.Code.TheVariants.{L1, L7, L8}
use Rattle.hdr_core.specs.declared.diagnostics.Diag.{Diag}
use Rattle.file_contents.specs.declared.limits.Limits.{Limits}
use Rattle.file_contents.specs.declared.found.Found.{Found}
use Rattle.file_contents.specs.Found.{Decodes, Takes, IsFound, TooMany}
use Rattle.hdr_core.specs.Held.{held_at}
use Rattle.used_files.specs.Paths.{File, Place, UsedFile, used_file, file_at}
use Rattle.used_files.specs.Stops.{IsFilled}
use Rattle.file_contents.specs.Reading.{Numbered, is_long, counted, total, diag_in}
use Rattle.file_contents.specs.Reading.{diag_at, read_behind, reading_at, reading_each, reading}
use Rattle.file_contents.specs.Contents.{code_of_kind, content_of, unspelled, item_with, format_at}
use Rattle.file_contents.specs.Contents.{format_phase, item_at}
use Rattle.file_contents.specs.Phases.{or_else, file_phases}
use Rattle.used_files.proofs.Lists.{flat_numbered, flat_numbered_all}

-- what is known once so many files were read
pub record SoFar (limits : Limits) (files : List UsedFile) (k : ℕ) (found : Found) : Type 0 where
  pub reading : found.reading.items
      ≡ flat_map (reading_at limits files) (enumerate_from 0 (take k files))
  pub total : found.total ≡ total (take k files)
  pub format : found.reading.items ≡ []
      → found.format.items ≡ flat_map format_at (enumerate_from 0 (take k files))
  pub items : found.reading.items ≡ []
      → found.items.items ≡ flat_map item_at (enumerate_from 0 (take k files))

-- a list that grew to nothing was nothing
pub front_empty : {A : Type 0} (xs ys zs : List A) → zs ≡ xs ++ ys → zs ≡ [] → xs ≡ []
front_empty [] ys zs e empty = refl
front_empty (x ∷ xs) ys zs e empty = absurd (let both : x ∷ (xs ++ ys) ≡ [] = sym e ∙ empty in cc)

pub back_empty : {A : Type 0} (xs ys zs : List A) → zs ≡ xs ++ ys → zs ≡ [] → ys ≡ []
back_empty [] ys zs e empty = sym e ∙ empty
back_empty (x ∷ xs) ys zs e empty = absurd (let both : x ∷ (xs ++ ys) ≡ [] = sym e ∙ empty in cc)

enumerate-append : {X : Type 0} (n : ℕ) (xs ys : List X)
    → enumerate_from n (xs ++ ys) ≡ enumerate_from n xs ++ enumerate_from (n + length xs) ys
enumerate-append {X} n [] ys =
    let e : n ≡ n + length {A = X} [] = omega arith in ap (λ m. enumerate_from m ys) e
enumerate-append n (x ∷ xs) ys =
    let e : (n + 1) + length xs ≡ n + length (x ∷ xs) = omega arith in
    ap (λ list. (n, x) ∷ list)
    (enumerate-append (n + 1) xs ys ∙ ap (λ m. enumerate_from (n + 1) xs ++ enumerate_from m ys) e)

total-push : (files : List UsedFile) (file : UsedFile)
    → total (files ++ file ∷ []) ≡ total files + counted file
total-push [] file = omega arith
total-push (f ∷ fs) file = let rest = total-push fs file in omega arith

total_more : (files : List UsedFile) (k : ℕ) (d : UsedFile) → k < length files
    → total (take (k + 1) files) ≡ total (take k files) + counted (get_or files k d)
total_more files k d inside =
    ap total (take_more files k d inside) ∙ total-push (take k files) (get_or files k d)

total_grows : (files : List UsedFile) (n m : ℕ) → n ≤ m
    → total (take n files) ≤ total (take m files)
total_grows files zero m le = omega arith
total_grows [] (suc n) m le = by m
  where
    by : (m : ℕ) → total (take (suc n) []) ≤ total (take m [])
    by zero = omega arith
    by (suc m) = omega arith
total_grows (f ∷ fs) (suc n) zero le = absurd (omega arith)
total_grows (f ∷ fs) (suc n) (suc m) le =
    let rest = total_grows fs n m (omega arith) in omega arith

module _ (limits : Limits) (files : List UsedFile) where
  -- a file before which the limit isn't passed
  here : (n : Numbered) (before : ℕ) → before ≡ total (take n.0 files) → before ≤ limits.bytes
      → read_behind limits before n ≡ reading_at limits files n
  here n before is few =
      let no : ltb limits.bytes (total (take n.0 files))
      ≡ false = le-ltb limits.bytes (total (take n.0 files)) (omega arith) in
      ap (λ b. read_behind limits b n) is
      ∙ ap (λ t. cond t [] (read_behind limits (total (take n.0 files)) n)) (sym no)

  -- behind the file that passes the limit nothing is told
  silent : (n : ℕ) (rest : List UsedFile) → limits.bytes < total (take n files)
      → flat_map (reading_at limits files) (enumerate_from n rest) ≡ []
  silent n [] passed = refl
  silent n (file ∷ rest) passed =
      let yes : ltb limits.bytes (total (take n files))
      ≡ true = lt-ltb limits.bytes (total (take n files)) passed in
      let more = total_grows files n (n + 1) (omega arith) in
      ap (λ t. cond t [] (read_behind limits (total (take n files)) (n, file))
      ++ flat_map (reading_at limits files) (enumerate_from (n + 1) rest)) yes
      ∙ silent (n + 1) rest (omega arith)

  module _ (k : ℕ) (d : UsedFile) (inside : k < length files) (old new : Found)
      (few : old.total ≤ limits.bytes) (so_far : SoFar limits files k old) where
    reading_more : {goes : Bool} → Takes limits (k, get_or files k d) old new goes
        → new.reading.items
        ≡ flat_map (reading_at limits files) (enumerate_from 0 (take (k + 1) files))
    reading_more takes =
        takes.reading
        ∙ ap (λ list. list ++ read_behind limits old.total (k, get_or files k d)) so_far.reading
        ∙ ap (λ list. flat_map (reading_at limits files) (enumerate_from 0 (take k files)) ++ list)
        (here (k, get_or files k d) old.total so_far.total few)
        ∙ sym (flat_numbered (reading_at limits files) files k d inside)

    pub one_more : Takes limits (k, get_or files k d) old new true → SoFar limits files (k + 1) new
    one_more takes = record {
      reading = reading_more takes;
      total =
          takes.total refl ∙ ap (λ t. t + counted (get_or files k d)) so_far.total
          ∙ sym (total_more files k d inside);
      format = λ none.
          takes.format none
          ∙ ap (λ list. list ++ format_at (k, get_or files k d))
          (so_far.format
          (front_empty old.reading.items (read_behind limits old.total (k, get_or files k d))
          new.reading.items takes.reading none))
          ∙ sym (flat_numbered format_at files k d inside);
      items = λ none.
          takes.items none
          ∙ ap (λ list. list ++ item_at (k, get_or files k d))
          (so_far.items
          (front_empty old.reading.items (read_behind limits old.total (k, get_or files k d))
          new.reading.items takes.reading none))
          ∙ sym (flat_numbered item_at files k d inside);
    }

    pub the_last : Takes limits (k, get_or files k d) old new false → IsFound limits files new
    the_last takes = record {
      reading = reading_more takes ∙ sym whole;
      format = λ none. absurd (some none);
      items = λ none. absurd (some none);
    }
      where
        file : UsedFile
        file = get_or files k d

        passed : limits.bytes < old.total + counted file
        passed = by (ltb limits.bytes (old.total + counted file)) refl takes.goes
          where
            by : (b : Bool) → ltb limits.bytes (old.total + counted file) ≡ b → false ≡ not b
                → limits.bytes < old.total + counted file
            by true e f = ltb-true limits.bytes (old.total + counted file) e
            by false e f = absurd cc

        passes : limits.bytes < total (take (k + 1) files)
        passes =
            let e = total_more files k d inside in let t : old.total
            ≡ total (take k files) = so_far.total in omega (arith, passed)

        count : 0 + length (take (k + 1) files) ≡ k + 1
        count = omega (arith, length-take (k + 1) files)

        whole : reading_each limits files
            ≡ flat_map (reading_at limits files) (enumerate_from 0 (take (k + 1) files))
        whole =
            ap (λ fs. flat_map (reading_at limits files) (enumerate_from 0 fs))
            (sym (take-append-drop (k + 1) files))
            ∙ ap (flat_map (reading_at limits files))
            (enumerate-append 0 (take (k + 1) files) (drop (k + 1) files)
            ∙ ap (λ m. enumerate_from 0 (take (k + 1) files)
            ++ enumerate_from m (drop (k + 1) files)) count)
            ∙ flat_map-append (reading_at limits files) (enumerate_from 0 (take (k + 1) files))
            (enumerate_from (k + 1) (drop (k + 1) files))
            ∙ ap (λ list. flat_map (reading_at limits files)
            (enumerate_from 0 (take (k + 1) files)) ++ list)
            (silent (k + 1) (drop (k + 1) files) passes)
            ∙ append-nil
            (flat_map (reading_at limits files) (enumerate_from 0 (take (k + 1) files)))

        told : (b t : Bool) (x y : Diag) → t ≡ true → cond b (x ∷ []) (cond t (y ∷ []) []) ≡ [] → ⊥
        told true t x y e h = absurd (let both : x ∷ [] ≡ [] = h in cc)
        told false true x y e h = absurd (let both : y ∷ [] ≡ [] = h in cc)
        told false false x y e h = absurd cc

        some : new.reading.items ≡ [] → ⊥
        some none =
            told (is_long file) (ltb limits.bytes (old.total + counted file))
            (diag_at k file.place.path L1 []) (diag_at k file.place.path L7 [])
            (lt-ltb limits.bytes (old.total + counted file) passed)
            (back_empty old.reading.items (read_behind limits old.total (k, file))
            new.reading.items takes.reading none)

-- nothing was read yet
pub none_yet : (limits : Limits) (files : List UsedFile) (found : Found) → found.reading.items ≡ []
    → found.format.items ≡ [] → found.items.items ≡ [] → found.total ≡ 0
    → SoFar limits files 0 found
none_yet limits files found reading format items total =
    record { reading = reading; total = total; format = λ _. format; items = λ _. items }

-- all files were read
pub all_read : (limits : Limits) (files : List UsedFile) (k : ℕ) (found : Found) → length files ≤ k
    → SoFar limits files k found → IsFound limits files found
all_read limits files k found all so_far = record {
  reading = so_far.reading ∙ flat_numbered_all (reading_at limits files) files k all;
  format = λ none. so_far.format none ∙ flat_numbered_all format_at files k all;
  items = λ none. so_far.items none ∙ flat_numbered_all item_at files k all;
}

-- ---- one file

unchanged : {A : Type 0} (old new : List A) → new ≡ old → new ≡ old ++ []
unchanged old new e = e ∙ sym (append-nil old)

module _ (n : Numbered) (old new : Found) (reading : new.reading.items ≡ old.reading.items)
    (same : new.total ≡ old.total) where
  pub decoded_content : (content : Content) → content_of n.1 ≡ Ok content
      → new.items.items
      ≡ old.items.items ++ record { file = n.0; path = n.1.place.path; content = content } ∷ []
      → new.format.items ≡ old.format.items → Decodes n old new
  decoded_content content is items format = record {
    format =
        unchanged old.format.items new.format.items format
        ∙ ap (λ r. old.format.items ++ unspelled n r) (sym is);
    items = items ∙ ap (λ r. old.items.items ++ item_with n r) (sym is);
    reading = reading;
    total = same;
  }

  pub decoded_fault : (fault : ClassFault) → content_of n.1 ≡ Err fault
      → new.format.items
      ≡ old.format.items
      ++ diag_in n.0 n.1.place.path fault.offset (code_of_kind fault.kind) [] ∷ []
      → new.items.items ≡ old.items.items → Decodes n old new
  decoded_fault fault is format items = record {
    format = format ∙ ap (λ r. old.format.items ++ unspelled n r) (sym is);
    items =
        unchanged old.items.items new.items.items items
        ∙ ap (λ r. old.items.items ++ item_with n r) (sym is);
    reading = reading;
    total = same;
  }

-- a file that isn't too long
module _ (limits : Limits) (n : Numbered) (short : length n.1.bytes ≤ LONGEST_FILE) where
  no_long : is_long n.1 ≡ false
  no_long = le-ltb LONGEST_FILE (length n.1.bytes) short

  counts : counted n.1 ≡ length n.1.bytes
  counts = ap (λ b. cond b 0 (length n.1.bytes)) no_long

  read_short : (before : ℕ) (passed : Bool) → ltb limits.bytes (before + length n.1.bytes) ≡ passed
      → read_behind limits before n ≡ cond passed (diag_at n.0 n.1.place.path L7 [] ∷ []) []
  read_short before passed e =
      ap (λ b. cond b (diag_at n.0 n.1.place.path L1 [] ∷ [])
      (cond (ltb limits.bytes (before + counted n.1)) (diag_at n.0 n.1.place.path L7 [] ∷ []) []))
      no_long
      ∙ ap (λ m. cond (ltb limits.bytes (before + m)) (diag_at n.0 n.1.place.path L7 [] ∷ []) [])
      counts
      ∙ ap (λ b. cond b (diag_at n.0 n.1.place.path L7 [] ∷ []) []) e

  goes_short : (before : ℕ) (passed : Bool) → ltb limits.bytes (before + length n.1.bytes) ≡ passed
      → not passed ≡ not (ltb limits.bytes (before + counted n.1))
  goes_short before passed e =
      ap not (sym e ∙ ap (λ m. ltb limits.bytes (before + m)) (sym counts))

  -- it passes the limit of bytes
  pub took_last : (old new : Found) → limits.bytes < old.total + length n.1.bytes
      → new.reading.items ≡ old.reading.items ++ diag_at n.0 n.1.place.path L7 [] ∷ []
      → Takes limits n old new false
  took_last old new passed told =
      let e : ltb limits.bytes (old.total + length n.1.bytes)
      ≡ true = lt-ltb limits.bytes (old.total + length n.1.bytes) passed in
      let some : new.reading.items ≡ []
      → ⊥ = λ none. absurd
      (let both : diag_at n.0 n.1.place.path L7 [] ∷ []
      ≡ [] = back_empty old.reading.items (diag_at n.0 n.1.place.path L7 [] ∷ []) new.reading.items
      told none in cc) in
      record {
        goes = goes_short old.total true e;
        reading =
            told ∙ ap (λ list. old.reading.items ++ list) (sym (read_short old.total true e));
        total = λ h. absurd cc;
        format = λ none. absurd (some none);
        items = λ none. absurd (some none);
      }

  -- it doesn't
  pub took_one : (old new : Found) → old.total + length n.1.bytes ≤ limits.bytes
      → new.reading.items ≡ old.reading.items → new.total ≡ old.total + length n.1.bytes
      → new.format.items ≡ old.format.items ++ format_at n
      → new.items.items ≡ old.items.items ++ item_at n → Takes limits n old new true
  took_one old new few reading total format items =
      let e : ltb limits.bytes (old.total + length n.1.bytes)
      ≡ false = le-ltb limits.bytes (old.total + length n.1.bytes) few in
      record {
        goes = goes_short old.total false e;
        reading =
            unchanged old.reading.items new.reading.items reading
            ∙ ap (λ list. old.reading.items ++ list) (sym (read_short old.total false e));
        total = λ _. total ∙ ap (λ m. old.total + m) (sym counts);
        format = λ _. format;
        items = λ _. items;
      }

-- a file that is too long
pub took_long : (limits : Limits) (n : Numbered) (old new : Found)
    → LONGEST_FILE < length n.1.bytes → old.total ≤ limits.bytes
    → new.reading.items ≡ old.reading.items ++ diag_at n.0 n.1.place.path L1 [] ∷ []
    → new.total ≡ old.total → Takes limits n old new true
took_long limits n old new long few told same =
    let yes : is_long n.1 ≡ true = lt-ltb LONGEST_FILE (length n.1.bytes) long in
    let none_counted : counted n.1 ≡ 0 = ap (λ b. cond b 0 (length n.1.bytes)) yes in
    let stays : old.total + counted n.1 ≡ old.total = omega arith in
    let e : ltb limits.bytes (old.total + counted n.1)
    ≡ false = le-ltb limits.bytes (old.total + counted n.1) (omega arith) in
    let some : new.reading.items ≡ []
    → ⊥ = λ none. absurd
    (let both : diag_at n.0 n.1.place.path L1 [] ∷ []
    ≡ [] = back_empty old.reading.items (diag_at n.0 n.1.place.path L1 [] ∷ []) new.reading.items
    told none in cc) in
    record {
      goes = ap not (sym e);
      reading =
          told ∙ ap (λ b. old.reading.items
          ++ cond b (diag_at n.0 n.1.place.path L1 [] ∷ [])
          (cond (ltb limits.bytes (old.total + counted n.1))
          (diag_at n.0 n.1.place.path L7 [] ∷ []) [])) (sym yes);
      total = λ _. same ∙ sym stays;
      format = λ none. absurd (some none);
      items = λ none. absurd (some none);
    }

-- ---- where the files are told

module _ (held : List File) (place : Place) where
  -- the bytes that were read are those of the file
  pub told_bytes : (bytes : List ℕ) → held_at held place.path ≡ Some bytes
      → used_file place bytes ≡ file_at held place
  told_bytes bytes e = ap (λ o. used_file place (unwrap_or o [])) (sym e)

  -- a file that is held and longer than a number
  pub told_long : (most : ℕ) → IsSome (held_at held place.path)
      → IfSome (held_at held place.path) (λ bytes. most < length bytes)
      → most < length (file_at held place).bytes
  told_long most some long = by (held_at held place.path) some long
    where
      by : (o : Option (List ℕ)) → IsSome o → IfSome o (λ bytes. most < length bytes)
          → most < length (unwrap_or o [])
      by None some long = absurd (let e : false ≡ true = some in cc)
      by (Some bytes) some long = long

-- ---- one more place

-- the path of a place
pub contains_path : (all : List Place) (k : ℕ) (place : Place) (path : List ℕ) → k < length all
    → place ≡ get_or all k place → path ≡ place.path → Contains (map (λ p. p.path) all) path
contains_path all k place path inside is e =
    let of : Place → List ℕ = λ p. p.path in
    let short : k < length (map of all) = omega (arith, length-map all of) in
    let P : List ℕ → Type 0 = Contains (map of all) in
    subst P (get_or-map of all k place path inside ∙ ap of (sym is) ∙ sym e)
    (Contains-get_or (map of all) k path short)

module _ (limits : Limits) (held : List File) (all : List Place) (k : ℕ) (place : Place)
    (inside : k < length all) (is : place ≡ get_or all k place) (old new : Found)
    (few : old.total ≤ limits.bytes) (so_far : SoFar limits (map (file_at held) all) k old) where
  abbrev files_there : List UsedFile
  files_there = map (file_at held) all

  there : k < length files_there
  there = omega (arith, length-map all (file_at held))

  takes_at : (goes to : Bool) → goes ≡ to → Takes limits (k, file_at held place) old new goes
      → Takes limits (k, get_or files_there k (file_at held place)) old new to
  takes_at goes to e takes =
      let P : UsedFile → Type 0 = λ file. Takes limits (k, file) old new to in
      let Q : Bool → Type 0 = λ b. Takes limits (k, file_at held place) old new b in
      subst P (sym (get_or-map (file_at held) all k place (file_at held place) inside
      ∙ ap (file_at held) (sym is))) (subst Q e takes)

  pub goes_on : (goes : Bool) → goes ≡ true → Takes limits (k, file_at held place) old new goes
      → SoFar limits files_there (k + 1) new
  goes_on goes e takes =
      one_more limits files_there k (file_at held place) there old new few so_far
      (takes_at goes true e takes)

  pub ends_here : (goes : Bool) → goes ≡ false
      → Takes limits (k, file_at held place) old new goes → IsFound limits files_there new
  ends_here goes e takes =
      the_last limits files_there k (file_at held place) there old new few so_far
      (takes_at goes false e takes)

-- ---- lists with and without diagnostics

pub filled_some : (list : List Diag) (n : ℕ) → n ≡ length list → eqb n 0 ≡ false → IsFilled list
filled_some [] n e some = absurd (let none : eqb n 0 ≡ true = ap (λ m. eqb m 0) e in cc)
filled_some (d ∷ ds) n e some = tt

pub empty_none : (list : List Diag) (n : ℕ) → n ≡ length list → eqb n 0 ≡ true → list ≡ []
empty_none list n e none = nil_from_length list (sym e ∙ eqb-true n 0 none)

pub too_many : (limits : Limits) (used : List Place) (first : Place) (list : List Diag)
    → limits.files < length used → first ≡ get_or used 0 first
    → list ≡ diag_at 0 first.path L8 [] ∷ []
    → TooMany limits used list
too_many limits [] first list many is told = absurd (omega arith)
too_many limits (place ∷ places) first list many is told =
    (many, told ∙ ap (λ (p : Place). diag_at 0 p.path L8 [] ∷ []) is)

-- ---- the phases of files

pub reading_few : (limits : Limits) (files : List UsedFile) → length files ≤ limits.files
    → reading limits files ≡ reading_each limits files
reading_few limits [] few = refl
reading_few limits (file ∷ files) few =
    ap (λ t. cond t (diag_at 0 file.place.path L8 [] ∷ []) (reading_each limits (file ∷ files)))
    (le-ltb limits.files (length (file ∷ files)) few)

-- a phase that has a diagnostic is the first one
pub or_first : (first later list : List Diag) → list ≡ first → IsFilled list
    → or_else first later ≡ list
or_first [] later list e filled =
    absurd (let P : List Diag → Type 0 = IsFilled in subst P e filled)
or_first (d ∷ ds) later list e filled = sym e

pub or_later : (first later : List Diag) → first ≡ [] → or_else first later ≡ later
or_later [] later e = refl
or_later (d ∷ ds) later e = absurd cc

module _ (limits : Limits) (files : List UsedFile) where
  -- too many files
  pub told_many : (places : List Place) (list : List Diag)
      → map (λ file. file.place) files ≡ places → TooMany limits places list
      → IsFilled list × (file_phases limits files ≡ list)
  told_many places list same many = by files same
    where
      by : (fs : List UsedFile) → map (λ file. file.place) fs ≡ places
          → IsFilled list × (file_phases limits fs ≡ list)
      by [] e =
          absurd (let P : List Place
          → Type 0 = λ ps. TooMany limits ps list in subst P (sym e) many)
      by (f ∷ fs) e =
          let P : List Place → Type 0 = λ ps. TooMany limits ps list in
          let m = subst P (sym e) many in
          let lt : limits.files < length (f ∷ fs) = omega
          (arith, m.0, length-map fs (λ (file : UsedFile). file.place)) in
          let told : reading limits (f ∷ fs) ≡ diag_at 0 f.place.path L8 [] ∷ [] =
          ap (λ t. cond t (diag_at 0 f.place.path L8 [] ∷ []) (reading_each limits (f ∷ fs)))
          (lt-ltb limits.files (length (f ∷ fs)) lt) in
          let Q : List Diag → Type 0 = IsFilled in (
            subst Q (sym m.1) tt,
            ap (λ first. or_else first (format_phase (f ∷ fs))) told
                ∙ sym m.1,
          )

  module _ (few : length files ≤ limits.files) (found : Found)
      (is : IsFound limits files found) where
    pub told_reading : (list : List Diag) → IsFilled list → list ≡ found.reading.items
        → file_phases limits files ≡ list
    told_reading list filled e =
        or_first (reading limits files) (format_phase files) list
        (e ∙ is.reading ∙ sym (reading_few limits files few)) filled

    module _ (none : found.reading.items ≡ []) where
      no_reading : reading limits files ≡ []
      no_reading = reading_few limits files few ∙ sym is.reading ∙ none

      pub told_format : (list : List Diag) → list ≡ found.format.items
          → file_phases limits files ≡ list
      told_format list e =
          or_later (reading limits files) (format_phase files) no_reading
          ∙ sym (e ∙ is.format none)

      pub told_none : found.format.items ≡ [] → file_phases limits files ≡ []
      told_none fine =
          or_later (reading limits files) (format_phase files) no_reading ∙ sym (is.format none)
          ∙ fine
