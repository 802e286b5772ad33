use Rattle.std.specs.Prelude.{None}
use Rattle.used_files.proofs.Texts.{stem_found}
use Rattle.used_files.proofs.paths.stem.Goals as goal

pub returns-in-None : goal.returns-in-None
returns-in-None c = stem_found c.args.path.now None c.in-None.ensures.cases
