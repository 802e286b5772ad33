use Rattle.std.proofs.Common.{length, drop, ◌∙◌}
use Rattle.std.specs.Prelude.{nat_eq, Some, None}
use Rattle.std.specs.List.{starts_with}
use Rattle.used_files.proofs.Texts.{prefix_stripped, slash_stripped, behind_some, behind_none}
use Rattle.used_files.proofs.paths.behind_root.Goals as goal

pub returns-in-Some : goal.returns-in-Some
returns-in-Some c =
    let root = c.args.root.now in
    let path = c.args.path.now in
    slash_stripped c.in-Some.rest.now c.strip_prefix-in-Some.result
    c.strip_prefix-in-Some.ensures.cases
    ∙ behind_some (starts_with nat_eq path root) c.in-Some.rest.now (drop (length root) path)
    (prefix_stripped root path (Some c.in-Some.rest) c.in-Some.ensures.cases)

pub returns-in-None : goal.returns-in-None
returns-in-None c =
    let root = c.args.root.now in
    let path = c.args.path.now in
    behind_none (starts_with nat_eq path root) (drop (length root) path)
    (prefix_stripped root path None c.in-None.ensures.cases)
