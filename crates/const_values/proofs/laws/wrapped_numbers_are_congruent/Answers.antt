use Rattle.std.proofs.lemmas.Int.{SFits-int_wrap}
use Rattle.const_values.proofs.Congruent.{congruent}
use Rattle.const_values.proofs.laws.wrapped_numbers_are_congruent.Goals as goal

pub returns-clause-in_range : goal.returns-clause-in_range
returns-clause-in_range c = λ w z. SFits-int_wrap w z

pub returns-clause-congruent : goal.returns-clause-congruent
returns-clause-congruent c = λ w z. congruent w z
