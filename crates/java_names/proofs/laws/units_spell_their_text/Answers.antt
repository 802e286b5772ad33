use Rattle.java_names.proofs.Decoded.{decoded, spelled, test_accepts, test_refuses}
use Rattle.java_names.proofs.laws.units_spell_their_text.Goals as goal

pub returns-clause-found : goal.returns-clause-found
returns-clause-found c = λ units fit. decoded units fit

pub returns-clause-spelled : goal.returns-clause-spelled
returns-clause-spelled c = λ bytes units e. (spelled bytes units e).0

pub returns-clause-test : goal.returns-clause-test
returns-clause-test c = λ bytes. (test_refuses bytes, test_accepts bytes)
