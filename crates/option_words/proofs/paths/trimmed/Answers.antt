use Rattle.option_words.proofs.Trimmed.{is_trimmed}
use Rattle.option_words.proofs.paths.trimmed.Goals as goal

pub returns : goal.returns
returns c =
    is_trimmed c.args.path.now c.trim_end_matches.result.now c.trim_end_matches.ensures.matches
