-- What is written for items, and which limits they pass.
use Rattle.std.proofs.Common.{◌≡◌, ℕ, List, [], ◌++◌, length, map, sym, ap, ◌∙◌}
use Rattle.std.specs.List.{flat_map, zip}
use Rattle.std.specs.Prelude.{Option}
use Rattle.std.proofs.lemmas.List.{length-map}
use Rattle.hdr_core.specs.declared.diagnostics.Diag.{Diag}
use Rattle.class_desc.specs.declared.class.ClassDesc.{ClassDesc}
use Rattle.class_views.specs.Kept.{strip_each}
use Rattle.used_files.specs.Paths.{File}
use Rattle.file_contents.specs.declared.items.Item.{Item}
use Rattle.file_contents.specs.Contents.{classes}
use Rattle.commands.specs.declared.split.Source.{Source}
use Rattle.commands.specs.Outcome.{module_files, files_of}
use Rattle.commands.specs.Phases.{kept_class, limit_phase}
use Rattle.commands.specs.Sources.{sources, sourced_limits, sourced_file}
use Rattle.commands.proofs.Sourced.{limits_sourced, files_sourced, as_many}

module _ (items : List Item) (from : List Source) (stripped : List (Option ClassDesc))
    (are : from ≡ sources items) (left : stripped ≡ strip_each (classes items)) where
  -- each class has its file
  pub as_many_left : length from ≡ length stripped
  as_many_left =
      ap length are ∙ as_many items
      ∙ sym (ap length left ∙ length-map (classes items) (kept_class (classes items)))

  side_by_side : zip from stripped
      ≡ zip (sources items) (map (kept_class (classes items)) (classes items))
  side_by_side = ap (λ list. zip list stripped) are ∙ ap (zip (sources items)) left

  pub limits_are : (list : List Diag) → list ≡ flat_map sourced_limits (zip from stripped)
      → list ≡ limit_phase items
  limits_are list e =
      e ∙ ap (flat_map sourced_limits) side_by_side ∙ limits_sourced (classes items) items

  pub files_are : (output : List ℕ) (modules files : List File)
      → modules ≡ flat_map (λ item. module_files output item.content) items
      → files ≡ modules ++ flat_map (sourced_file output) (zip from stripped)
      → files ≡ files_of output items
  files_are output modules files copied e =
      e
      ∙ ap (λ list. list ++ flat_map (sourced_file output) (zip from stripped)) copied
      ∙ ap (λ list. flat_map (λ item. module_files output item.content) items ++ list)
      (ap (flat_map (sourced_file output)) side_by_side
      ∙ files_sourced (classes items) output items)
