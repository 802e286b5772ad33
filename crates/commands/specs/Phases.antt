-- The diagnostics of a job, phase by phase. Only the first phase that has one is told, in the
-- order of diagnostics. Each phase is a function of all files and one of them.
use Rattle.std.specs.Prelude.{ℕ, List, [], ◌∷◌, ◌++◌, Option, Some, None, if◌then◌else◌}
use Rattle.std.specs.List.{flat_map}
use Rattle.hdr_core.specs.declared.code.Code.{Code}
use Rattle.hdr_core.specs.declared.code.Code.TheVariants.{L4, L5, L6, L9}
use Rattle.hdr_core.specs.declared.diagnostics.Diag.{Diag}
use Rattle.hdr_core.specs.Diagnostics.{diag_order}
use Rattle.java_names.specs.Paths.{path_of_name}
use Rattle.class_desc.specs.declared.class.ClassDesc.{ClassDesc}
use Rattle.class_views.specs.Strip.{strip_class}
use Rattle.class_views.specs.Kept.{is_kept}
use Rattle.class_writer.specs.declared.error.PoolErr.{PoolErr}
use Rattle.class_writer.specs.declared.error.PoolErr.TheVariants as refused
use Rattle.class_writer.specs.Refusal.{refusal}
use Rattle.used_files.specs.Order.{in_order}
use Rattle.used_files.specs.Paths.{UsedFile}
use Rattle.file_contents.specs.declared.limits.Limits.{Limits}
use Rattle.file_contents.specs.declared.items.Content.{Content}
use Rattle.file_contents.specs.declared.items.Content.TheVariants.{Class, Module}
use Rattle.file_contents.specs.declared.items.Item.{Item}
use Rattle.file_contents.specs.Reading.{diag_at}
use Rattle.file_contents.specs.Contents.{classes, items_of}
use Rattle.file_contents.specs.Phases.{or_else, file_phases, twice}

-- ---- limits of the classes that are written

-- what is written of a class among all: nothing of one that isn't kept
abbrev pub kept_class : List ClassDesc → ClassDesc → Option ClassDesc
kept_class all d = if is_kept all d then Some (strip_class d) else None

-- the code of a class that has no file, since that would pass a limit
abbrev pub limit_code : PoolErr → Option Code
limit_code (refused.TextTooLong length) = Some L5
limit_code (refused.TooMany count) = Some L9
limit_code (refused.PoolFull needed) = Some L4
limit_code refused.Memory = None

abbrev pub limit_diag : ℕ → List ℕ → List ℕ → Option Code → List Diag
limit_diag file path name None = []
limit_diag file path name (Some code) = diag_at file path code name ∷ []

abbrev pub refused_as : Option PoolErr → Option Code
refused_as None = None
refused_as (Some e) = limit_code e

-- a name with a surrogate without its partner is no name of a file
abbrev pub no_path : ℕ → List ℕ → List ℕ → Option (List ℕ) → List Diag
no_path file path name None = diag_at file path L6 name ∷ []
no_path file path name (Some below) = []

abbrev pub limits_of : ℕ → List ℕ → ClassDesc → List Diag
limits_of file path d =
    no_path file path d.name (path_of_name d.name)
    ++ limit_diag file path d.name (refused_as (refusal d))

abbrev pub kept_limits : ℕ → List ℕ → Option ClassDesc → List Diag
kept_limits file path None = []
kept_limits file path (Some d) = limits_of file path d

abbrev pub limits_in : List ClassDesc → ℕ → List ℕ → Content → List Diag
limits_in all file path (Class d) = kept_limits file path (kept_class all d)
limits_in all file path (Module below name bytes) = []

abbrev pub limits_at : List ClassDesc → Item → List Diag
limits_at all item = limits_in all item.file item.path item.content

abbrev pub limit_phase : List Item → List Diag
limit_phase items = flat_map (limits_at (classes items)) items

-- what classes and modules that are stripped give rise to
abbrev pub item_phases : List Item → List Diag
item_phases items = or_else (twice items) (limit_phase items)

-- ---- the first phase

-- what the files give rise to, else what their classes and modules do
abbrev pub first_phase : Limits → (List Item → List Diag) → List UsedFile → List Diag
first_phase limits phases files = or_else (file_phases limits files) (phases (items_of files))

abbrev pub diagnostics : Limits → (List Item → List Diag) → List UsedFile → List Diag
diagnostics limits phases files = in_order diag_order (first_phase limits phases files)
