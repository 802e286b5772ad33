use Rattle.std.proofs.Common.{ap, ◌∙◌}
use Rattle.std.specs.Prelude.{unwrap_or}
use Rattle.used_files.specs.Paths.{last_part}
use Rattle.used_files.proofs.paths.part_below.Goals as goal

pub returns-in-Some : goal.returns-in-Some
returns-in-Some c = ap (λ o. unwrap_or o (last_part c.args.path.now)) c.in-Some.ensures

pub returns-in-None : goal.returns-in-None
returns-in-None c =
    c.last_part.ensures ∙ ap (λ o. unwrap_or o (last_part c.args.path.now)) c.in-None.ensures
