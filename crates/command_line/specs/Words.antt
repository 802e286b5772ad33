-- What the words of the command line ask for. The words are those behind the program's name.
use Rattle.std.specs.Prelude.{ℕ, ◌&&◌, ◌||◌, Bool, List, [], ◌∷◌, ◌++◌, find, codes, nat_eq}
use Rattle.std.specs.Prelude.{Option, Some, None, option_map, option_and_then, if◌then◌else◌}
use Rattle.std.specs.List.{list_all, ends_with}
use Rattle.java_names.specs.Names.{is_text}
use Rattle.option_words.specs.declared.workers.TheConstants.{WORKERS}
use Rattle.option_words.specs.Lists.{only}
use Rattle.option_words.specs.Options.{Given, options, values}
use Rattle.option_words.specs.Paths.{path_of, paths_by}
use Rattle.option_words.specs.Workers.{are_workers}
use Rattle.questions.specs.Asking.{Ask, ask}
use Rattle.command_line.specs.declared.job.TheConstants.{IJAR, INPUT, OUTPUT, ASK}

-- why words are no job
pub data Refusal : Type 0 where
  -- this is the first of them that names an archive
  Archive : List ℕ → Refusal
  -- they ask for nothing that is known
  Help : Refusal

-- what there is to do
pub data Command : Type 0 where
  -- strip the class files under these roots, in their order, into an output folder
  Ijar : List (List ℕ) → List ℕ → Command
  -- answer questions about the class files under some roots
  Asks : Ask → Command

pub data Job : Type 0 where
  Refused : Refusal → Job
  Doing : Command → Job

abbrev pub is_archive : List ℕ → Bool
is_archive word =
    ends_with nat_eq word (codes ".jar") || ends_with nat_eq word (codes ".zip")
    || ends_with nat_eq word (codes ".jmod")

-- ---- ijar

abbrev pub is_ijar_option : List ℕ → Bool
is_ijar_option option =
    is_text option INPUT.now || is_text option OUTPUT.now || is_text option WORKERS.now

-- no other option is given, and the number of workers as it may be
abbrev pub are_right_options : List Given → Bool
are_right_options given = list_all (λ o. is_ijar_option o.0) given && are_workers given

-- the output folder, which is given once
abbrev pub output_by : List Given → Option (List ℕ)
output_by given = option_and_then path_of (only (values OUTPUT.now given))

abbrev pub stripping : Option (List (List ℕ)) → Option (List ℕ) → Option Command
stripping None output = None
stripping (Some inputs) None = None
stripping (Some inputs) (Some output) = Some (Ijar inputs output)

-- one root at least, and one output folder
abbrev pub ijar_by : List Given → Option Command
ijar_by given = stripping (paths_by INPUT.now given) (output_by given)

abbrev pub ijar_of : List Given → Option Command
ijar_of given = if are_right_options given then ijar_by given else None

-- what the words behind `ijar` ask for
abbrev pub ijar : List (List ℕ) → Option Command
ijar words = option_and_then ijar_of (options words)

-- ---- all commands

-- the command of a name, from the words behind it
abbrev pub named : List ℕ → List (List ℕ) → Option Command
named name words =
    if is_text name IJAR.now then ijar words
    else if is_text name ASK.now then option_map Asks (ask words)
    else None

-- the first word is the name of the command
abbrev pub command : List (List ℕ) → Option Command
command [] = None
command (name ∷ words) = named name words

-- a word that names an archive comes before all else
abbrev pub job_of : Option (List ℕ) → Option Command → Job
job_of (Some word) command = Refused (Archive word)
job_of None (Some command) = Doing command
job_of None None = Refused Help

abbrev pub job : List (List ℕ) → Job
job words = job_of (find is_archive words) (command words)

-- what is told where a word names an archive
abbrev pub archive_line : List ℕ → List ℕ
archive_line word = codes "archives are not read: " ++ (word ++ codes "\n")

-- what is told where the words ask for nothing that is known
abbrev pub help_line : List ℕ
help_line = codes "usage: jheader turbine|ijar|ask options\n"

-- the line of a refusal
abbrev pub refusal_line : Refusal → List ℕ
refusal_line (Archive word) = archive_line word
refusal_line Help = help_line

-- the line that is told where the words are no job
abbrev pub usage_line : Job → Option (List ℕ)
usage_line (Refused refusal) = Some (refusal_line refusal)
usage_line (Doing command) = None
