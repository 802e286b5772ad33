-- What a job comes to: the files written, the texts and the status, from the words and the files
-- held.
use Rattle.std.specs.Prelude.{ℕ, List, [], ◌∷◌, ◌++◌, flat_map, codes, Option, Some, None}
use Rattle.std.specs.Prelude.{unwrap_or}
use Rattle.hdr_core.specs.Diagnostics.{printed}
use Rattle.hdr_core.specs.declared.diagnostics.Diag.{Diag}
use Rattle.java_names.specs.Paths.{path_of_name}
use Rattle.class_desc.specs.declared.class.ClassDesc.{ClassDesc}
use Rattle.class_desc.specs.Layout.{layout}
use Rattle.client_view.specs.Numbers.{views}
use Rattle.questions.specs.Asking.{Ask}
use Rattle.command_line.specs.Words.{Command, Ijar, Asks, Job, Refused, Doing, refusal_line}
use Rattle.file_contents.specs.declared.limits.Limits.{Limits}
use Rattle.file_contents.specs.declared.limits.TheConstants.{LIMITS}
use Rattle.file_contents.specs.declared.items.Content.{Content}
use Rattle.file_contents.specs.declared.items.Content.TheVariants.{Class, Module}
use Rattle.file_contents.specs.declared.items.Item.{Item}
use Rattle.run_ends.specs.declared.status.Status.{Status}
use Rattle.run_ends.specs.declared.status.Status.TheVariants.{Done, Diagnosed, Usage}
use Rattle.used_files.specs.Order.{in_order}
use Rattle.run_ends.specs.OutFiles.{file_order}
use Rattle.run_ends.specs.Tells.{all_lines}
use Rattle.used_files.specs.declared.kinds.FileKinds.TheVariants.{ClassesAndModules}
use Rattle.used_files.specs.Paths.{File, UsedFile, tree}
use Rattle.file_contents.specs.Phases.{twice}
use Rattle.file_contents.specs.Contents.{items_of, classes}
use Rattle.commands.specs.Answers.{answers, files_asked}
use Rattle.commands.specs.Phases.{diagnostics, item_phases, kept_class}

pub record Outcome : Type 0 where
  pub files : List File
  pub out : List ℕ
  pub err : List ℕ
  pub status : Status

-- below the output folder
abbrev pub below_output : List ℕ → List ℕ → List ℕ
below_output output path = output ++ (codes "/" ++ path)

-- a class is written under its own name
abbrev pub class_file : List ℕ → ClassDesc → File
class_file output d =
    (below_output output (unwrap_or (path_of_name d.name) [] ++ codes ".class"), layout d)

abbrev pub kept_file : List ℕ → Option ClassDesc → List File
kept_file output None = []
kept_file output (Some d) = class_file output d ∷ []

abbrev pub class_files : List ℕ → List ClassDesc → Content → List File
class_files output all (Class d) = kept_file output (kept_class all d)
class_files output all (Module below name bytes) = []

-- a module's description is copied to the same path below the output
abbrev pub module_files : List ℕ → Content → List File
module_files output (Class d) = []
module_files output (Module below name bytes) = (below_output output below, bytes) ∷ []

abbrev pub files_of : List ℕ → List Item → List File
files_of output items =
    flat_map (λ item. module_files output item.content) items
    ++ flat_map (λ item. class_files output (classes items) item.content) items

-- the copied modules and the stripped classes that are kept, in the order of their paths
abbrev pub written : List ℕ → List Item → List File
written output items = in_order file_order (files_of output items)

-- the diagnostics are told, and nothing is written
abbrev pub diagnosed : List Diag → Outcome
diagnosed list = record { files = []; out = []; err = printed list; status = Diagnosed }

-- the files are written, and nothing is told
abbrev pub made : List File → Outcome
made files = record { files = files; out = []; err = []; status = Done }

-- the lines are told on standard output, and nothing is written
abbrev pub told : List (List ℕ) → Outcome
told lines = record { files = []; out = all_lines lines; err = []; status = Done }

-- what a job makes, only where there is no diagnostic
abbrev pub unless_diagnosed : List Diag → Outcome → Outcome
unless_diagnosed [] outcome = outcome
unless_diagnosed (d ∷ ds) outcome = diagnosed (d ∷ ds)

-- what is made of the classes and modules of files, by the phases that they go through
abbrev pub made_of : (List Item → List Diag) → (List Item → Outcome) → Limits → List UsedFile
    → Outcome
made_of phases make limits files =
    unless_diagnosed (diagnostics limits phases files) (make (items_of files))

-- the stripped classes are written
abbrev pub ijar : Limits → List ℕ → List UsedFile → Outcome
ijar limits output files = made_of item_phases (λ items. made (written output items)) limits files

-- The questions are answered over the classes read. None of these is written, so they are bound by
-- no limit of classes that are written.
abbrev pub asking : Limits → Ask → List UsedFile → Outcome
asking limits asked files =
    made_of twice (λ items. told (answers asked (views (classes items)))) limits files

abbrev pub outcome_of : Command → List File → Outcome
outcome_of (Ijar inputs output) held = ijar LIMITS output (tree ClassesAndModules held inputs)
outcome_of (Asks asked) held = asking LIMITS asked (files_asked asked held)

-- the line is told, and nothing else is done
abbrev pub usage_of : List ℕ → Outcome
usage_of line = record { files = []; out = []; err = line; status = Usage }

abbrev pub outcome : Job → List File → Outcome
outcome (Refused refusal) held = usage_of (refusal_line refusal)
outcome (Doing command) held = outcome_of command held
