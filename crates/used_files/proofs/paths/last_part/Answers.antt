use Rattle.std.proofs.Common.{sym, ◌∙◌, rules}
use Rattle.used_files.proofs.Folders.{last_behind, last_whole}
use Rattle.used_files.proofs.paths.last_part.Goals as goal

pub loop-folder-preserved : goal.loop-folder-preserved
loop-folder-preserved c = (
  search rules,
  sym
      (last_behind c.loop-folder.rest.now c.in-Some.folder.0.now c.in-Some.folder.1.now
      (sym c.in-Some.ensures.parts)) ∙ c.loop-folder.invariant.1,
)

pub returns : goal.returns
returns c =
    sym (last_whole c.loop-folder.rest.now (sym c.in_default.ensures.parts))
    ∙ c.loop-folder.invariant.1
