use Rattle.java_lexer.proofs.SoundLemmas.{lexed_sound}
use Rattle.java_lexer.proofs.laws.tokens_are_sound.Goals as goal

pub returns : goal.returns
returns c = lexed_sound
