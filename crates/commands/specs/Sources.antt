-- Classes with the files that they were read from.
use Rattle.std.specs.Prelude.{ℕ, List, [], ◌∷◌, Option}
use Rattle.std.specs.List.{flat_map}
use Rattle.class_desc.specs.declared.class.ClassDesc.{ClassDesc}
use Rattle.file_contents.specs.declared.items.Content.{Content}
use Rattle.file_contents.specs.declared.items.Content.TheVariants.{Class, Module}
use Rattle.file_contents.specs.declared.items.Item.{Item}
use Rattle.commands.specs.declared.split.Source.{Source}
use Rattle.commands.specs.Phases.{kept_limits}
use Rattle.commands.specs.Outcome.{kept_file}
use Rattle.used_files.specs.Paths.{File}
use Rattle.hdr_core.specs.declared.diagnostics.Diag.{Diag}

abbrev pub sources_of : ℕ → List ℕ → Content → List Source
sources_of file path (Class d) = record { file = file; path = path } ∷ []
sources_of file path (Module below name bytes) = []

abbrev pub sources_in : Item → List Source
sources_in item = sources_of item.file item.path item.content

abbrev pub sources : List Item → List Source
sources items = flat_map sources_in items

-- a class with its file: what is left of it where it is kept
abbrev pub Sourced : Type 0
Sourced = Source × Option ClassDesc

abbrev pub sourced_limits : Sourced → List Diag
sourced_limits s = kept_limits s.0.file s.0.path s.1

abbrev pub sourced_file : List ℕ → Sourced → List File
sourced_file output s = kept_file output s.1
