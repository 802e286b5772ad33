use Rattle.java_lexer.proofs.LineLemmas.{all_normalized}
use Rattle.java_lexer.proofs.block.normalize.Goals as goal

pub returns : goal.returns
returns c = all_normalized _ c.args.units.now _ c.loop-index-test.false c.loop-index.invariant
