use Rattle.used_files.proofs.Options.{if_some, from_some}
use Rattle.used_files.proofs.used.list_root.Goals as goal

pub returns-in_ok-paths-in-Ok-clause-used : goal.returns-in_ok-paths-in-Ok-clause-used
returns-in_ok-paths-in-Ok-clause-used g c =
    if_some (g.F.Files.held c.args.files.now) _
    (λ held e. c.in_ok-paths-in-Ok.ensures held
    (from_some (g.F.Files.held c.args.files.now) _ held c.in-Ok.ensures.paths e))
