-- What clients find in the classes read they find in those written.
use Rattle.std.proofs.Common.{◌≡◌, refl, ap, ℕ, Bool, true, false, cond, List, [], ◌∷◌, ◌++◌, map}
use Rattle.std.proofs.Common.{filter}
use Rattle.std.specs.Prelude.{Some, None, Ok}
use Rattle.std.specs.List.{flat_map, AllByRecursion}
use Rattle.hdr_core.specs.declared.diagnostics.Diag.{Diag}
use Rattle.class_desc.specs.declared.class.ClassDesc.{ClassDesc}
use Rattle.class_desc.specs.ClassFile.{IsValid}
use Rattle.class_desc.specs.Layout.{layout}
use Rattle.class_reader.specs.Reading.{class_of}
use Rattle.class_reader.proofs.ClassLaws.{class_again}
use Rattle.class_views.specs.Kept.{is_kept}
use Rattle.class_views.specs.Strip.{strip_class}
use Rattle.class_views.proofs.OneOfAKind.{each_one_inner}
use Rattle.class_views.proofs.Stripped.{stripped_valid}
use Rattle.class_writer.proofs.Spelled.{layout_spells}
use Rattle.command_line.specs.Words.{Command, Ijar, Asks}
use Rattle.projection.proofs.Written.{stripped_keeps}
use Rattle.run_ends.specs.OutFiles.{file_order}
use Rattle.run_ends.specs.declared.status.Status.TheVariants.{Done}
use Rattle.used_files.specs.Order.{in_order}
use Rattle.client_view.specs.Numbers.{views}
use Rattle.used_files.specs.declared.kinds.FileKinds.TheVariants.{ClassesAndModules}
use Rattle.used_files.specs.Paths.{File, UsedFile, tree}
use Rattle.file_contents.specs.declared.items.Content.{Content}
use Rattle.file_contents.specs.declared.items.Content.TheVariants.{Class, Module}
use Rattle.file_contents.specs.declared.items.Item.{Item}
use Rattle.file_contents.specs.declared.limits.TheConstants.{LIMITS}
use Rattle.file_contents.specs.Contents.{items_of, class_in, classes}
use Rattle.file_contents.specs.Phases.{twice}
use Rattle.file_contents.specs.Valid.{AreValid}
use Rattle.commands.specs.Found.{classes_read, classes_written, files_with, ShowsWhatWasRead}
use Rattle.commands.specs.Found.{ShowsTheSame, ReadsValid}
use Rattle.commands.specs.Outcome.{class_file, class_files, kept_file, module_files, written}
use Rattle.commands.specs.Outcome.{made, told, unless_diagnosed, outcome_of}
use Rattle.commands.specs.Answers.{answers, files_asked}
use Rattle.commands.specs.Phases.{diagnostics, item_phases}

-- ---- lists

module _ {A B : Type 0} (Holds : A → Type 0) (Wanted : B → Type 0) (f : A → B) where
  all_mapped : ((x : A) → Holds x → Wanted (f x)) → (xs : List A) → AllByRecursion Holds xs →
      AllByRecursion Wanted (map f xs)
  all_mapped gives [] all = tt
  all_mapped gives (x ∷ xs) all = (gives x all.0, all_mapped gives xs all.1)

all_filtered : {A : Type 0} (Holds : A → Type 0) (keeps : A → Bool) (xs : List A) →
    AllByRecursion Holds xs → AllByRecursion Holds (filter keeps xs)
all_filtered Holds keeps [] all = tt
all_filtered Holds keeps (x ∷ xs) all = by (keeps x) (all_filtered Holds keeps xs all.1)
  where
    by : (b : Bool) → AllByRecursion Holds (filter keeps xs) →
        AllByRecursion Holds (cond b (x ∷ filter keeps xs) (filter keeps xs))
    by true rest = (all.0, rest)
    by false rest = rest

-- ---- the files that are written

module _ (output : List ℕ) (all : List ClassDesc) where
  abbrev files_for : List Item → List File
  files_for items = flat_map (λ item. class_files output all item.content) items

  abbrev left_for : List ClassDesc → List File
  left_for ds = map (class_file output) (map strip_class ds)

  kept : (d : ClassDesc) (left : List ClassDesc) (files : List File) (b : Bool) →
      files ≡ left_for left →
      kept_file output (cond b (Some (strip_class d)) None) ++ files
      ≡ left_for (cond b (d ∷ left) left)
  kept d left files true e = ap (λ others. class_file output (strip_class d) ∷ others) e
  kept d left files false e = e

  class_files_are : (items : List Item) →
      files_for items ≡ left_for (filter (is_kept all) (classes items))
  class_files_are [] = refl
  class_files_are (item ∷ items) = by item.content (class_files_are items)
    where
      by : (content : Content) →
          files_for items ≡ left_for (filter (is_kept all) (classes items)) →
          class_files output all content ++ files_for items
          ≡ left_for (filter (is_kept all) (class_in content ++ classes items))
      by (Class d) e =
          kept d (filter (is_kept all) (classes items)) (files_for items) (is_kept all d) e
      by (Module below name bytes) e = e

written_is : (output : List ℕ) (files : List UsedFile) → written output (items_of files)
    ≡ in_order file_order (files_with output files (classes_written files))
written_is output files =
    ap (λ list. in_order file_order
    (flat_map (λ item. module_files output item.content) (items_of files) ++ list))
    (class_files_are output (classes_read files) (items_of files))

-- ---- the whole

module _ (output : List ℕ) (files : List UsedFile) (valid : AreValid (items_of files)) where
  read_again : (d : ClassDesc) → IsValid d →
      class_of (layout (strip_class d)) ≡ Ok (strip_class d)
  read_again d is =
      class_again (layout (strip_class d)) (strip_class d)
      (layout_spells (strip_class d) (stripped_valid d is))

  shows : ShowsWhatWasRead output files (written output (items_of files))
  shows = record {
    layouts = written_is output files;
    read =
        all_mapped IsValid (λ d. class_of (layout d) ≡ Ok d) strip_class read_again
        (filter (is_kept (classes_read files)) (classes_read files))
        (all_filtered IsValid (is_kept (classes_read files)) (classes_read files) valid);
    answers = stripped_keeps (classes_read files) (each_one_inner (classes_read files) valid);
  }

  shows_unless : (list : List Diag) →
      (unless_diagnosed list (made (written output (items_of files)))).status ≡ Done →
      ShowsWhatWasRead output files
      (unless_diagnosed list (made (written output (items_of files)))).files
  shows_unless [] done = shows
  shows_unless (d ∷ ds) done = absurd cc

-- lines are no files
none_unless : (list : List Diag) (lines : List (List ℕ))
    → (unless_diagnosed list (told lines)).files ≡ []
none_unless [] lines = refl
none_unless (d ∷ ds) lines = refl

pub shows_the_same : (c : Command) (held : List File) → ReadsValid c held →
    (outcome_of c held).status ≡ Done → ShowsTheSame c held
shows_the_same (Ijar inputs output) held valid done =
    shows_unless output (tree ClassesAndModules held inputs) valid
    (diagnostics LIMITS item_phases (tree ClassesAndModules held inputs)) done
shows_the_same (Asks asked) held valid done =
    none_unless (diagnostics LIMITS twice (files_asked asked held))
    (answers asked (views (classes (items_of (files_asked asked held)))))
