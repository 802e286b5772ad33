use Rattle.std.proofs.lemmas.Int.{quot-rem}
use Rattle.const_values.proofs.laws.quotients_have_their_remainder.Goals as goal

pub returns : goal.returns
returns c = λ a b. quot-rem a b
