-- The answers of `ask`: a line for each question, in their order.
use Rattle.std.specs.Prelude.{ℕ, List, map}
use Rattle.class_views.specs.World.{World}
use Rattle.class_views.specs.Access.{Client}
use Rattle.class_views.specs.Query.{ask}
use Rattle.questions.specs.Asking.{Ask, Question}
use Rattle.ask_text.specs.Lines.{line_of}
use Rattle.ask_text.specs.Queries.{query_of}
use Rattle.used_files.specs.declared.kinds.FileKinds.TheVariants.{Classes}
use Rattle.used_files.specs.Paths.{File, UsedFile, tree}

-- who asks
abbrev pub client_of : Ask → Client
client_of asked = record {
  package_name = asked.package_name;
  super_name = asked.super_name;
}

-- the line of what a client finds in the classes
abbrev pub answer_to : World → Client → Question → List ℕ
answer_to world client q = line_of q.kind q.value (ask world client (query_of q.query))

-- the class files under the roots, without those of modules
abbrev pub files_asked : Ask → List File → List UsedFile
files_asked asked held = tree Classes held asked.classes

-- the lines of all questions over the classes
abbrev pub answers : Ask → World → List (List ℕ)
answers asked world = map (answer_to world (client_of asked)) asked.questions
