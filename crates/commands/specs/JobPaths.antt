-- At which roots and paths a job calls the files.
use Rattle.std.specs.Prelude.{ℕ, List}
use Rattle.command_line.specs.Words.{Command, Ijar, Asks, Job, Refused, Doing}
use Rattle.used_files.specs.declared.kinds.FileKinds.TheVariants.{ClassesAndModules, Classes}
use Rattle.used_files.specs.Paths.{File}
use Rattle.used_files.specs.Stops.{IsRootOrUsed}

-- a path at which a call on the files may fail
abbrev pub IsPathOf : List File → Command → List ℕ → Type 0
IsPathOf held (Ijar inputs output) path = IsRootOrUsed ClassesAndModules held inputs path
IsPathOf held (Asks asked) path = IsRootOrUsed Classes held asked.classes path

abbrev pub IsPathOfJob : List File → Job → List ℕ → Type 0
IsPathOfJob held (Refused refusal) path = ⊥
IsPathOfJob held (Doing command) path = IsPathOf held command path
