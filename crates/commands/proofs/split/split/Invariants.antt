use Rattle.std.proofs.Common.{◌≡◌, ◌++◌, map}
use Rattle.std.specs.List.{flat_map}
use Rattle.std.specs.Vec.Iter.{into_iter_items}
use Rattle.commands.specs.Outcome.{module_files}
use Rattle.file_contents.specs.Contents.{class_in}
use Rattle.commands.specs.Sources.{sources_in}
use Rattle.run_ends.specs.OutFiles.{file_seen}
use Rattle.commands.proofs.split.split.Given as goal

-- what was taken so far, with what will be taken of the rest
abbrev pub invariant-loop-item : goal.invariant-loop-item
invariant-loop-item l =
    let all = into_iter_items l.initial.item-iterator in
    let left = into_iter_items l.item-iterator in
    record {
      sources : l.parts.sources.items ++ flat_map sources_in left ≡ flat_map sources_in all;
      classes : l.parts.classes.items ++ flat_map (λ item. class_in item.content) left
          ≡ flat_map (λ item. class_in item.content) all;
      modules : map file_seen l.parts.modules.items
          ++ flat_map (λ item. module_files l.output item.content) left
          ≡ flat_map (λ item. module_files l.output item.content) all;
    }
