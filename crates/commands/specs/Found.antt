-- What clients find in the classes that a job writes, beside what they find in those that it
-- reads.
use Rattle.std.specs.Prelude.{◌≡◌, ℕ, List, [], ◌++◌, map, Ok}
use Rattle.std.specs.List.{flat_map, AllByRecursion}
use Rattle.class_desc.specs.declared.class.ClassDesc.{ClassDesc}
use Rattle.class_desc.specs.Layout.{layout}
use Rattle.class_reader.specs.Reading.{class_of}
use Rattle.class_views.specs.Kept.{strip_set}
use Rattle.projection.specs.Written.{KeepsAnswers}
use Rattle.command_line.specs.Words.{Command, Ijar, Asks, Job, Refused, Doing}
use Rattle.used_files.specs.Order.{in_order}
use Rattle.used_files.specs.declared.kinds.FileKinds.TheVariants.{ClassesAndModules}
use Rattle.used_files.specs.Paths.{File, UsedFile, tree}
use Rattle.file_contents.specs.Contents.{items_of, classes}
use Rattle.file_contents.specs.Valid.{AreValid}
use Rattle.run_ends.specs.OutFiles.{file_order}
use Rattle.commands.specs.Answers.{files_asked}
use Rattle.commands.specs.Outcome.{class_file, module_files, outcome_of}

abbrev pub classes_read : List UsedFile → List ClassDesc
classes_read files = classes (items_of files)

-- what is left of the classes read: the kept ones, stripped
abbrev pub classes_written : List UsedFile → List ClassDesc
classes_written files = strip_set (classes_read files)

-- the files of the classes, each under its own name, beside the copied modules
abbrev pub files_with : List ℕ → List UsedFile → List ClassDesc → List File
files_with output files left =
    flat_map (λ item. module_files output item.content) (items_of files)
    ++ map (class_file output) left

-- What is written for the used files is the layouts of classes, which are read again as these
-- classes, and which keep what clients find.
pub record ShowsWhatWasRead (output : List ℕ) (files : List UsedFile)
    (written : List File) : Type 0 where
  pub layouts : written ≡ in_order file_order (files_with output files (classes_written files))
  pub read : AllByRecursion (λ d. class_of (layout d) ≡ Ok d) (classes_written files)
  pub answers : KeepsAnswers (classes_read files) (classes_written files)

-- of `ask` no class is written
abbrev pub ShowsTheSame : Command → List File → Type 0
ShowsTheSame (Ijar inputs output) held =
    ShowsWhatWasRead output (tree ClassesAndModules held inputs)
    (outcome_of (Ijar inputs output) held).files
ShowsTheSame (Asks asked) held = (outcome_of (Asks asked) held).files ≡ []

-- of words that are no job nothing is written
abbrev pub ShowsTheSameOf : Job → List File → Type 0
ShowsTheSameOf (Refused refusal) held = ⊥
ShowsTheSameOf (Doing command) held = ShowsTheSame command held

-- the classes that a command reads are classes of files
abbrev pub ReadsValid : Command → List File → Type 0
ReadsValid (Ijar inputs output) held = AreValid (items_of (tree ClassesAndModules held inputs))
ReadsValid (Asks asked) held = AreValid (items_of (files_asked asked held))
