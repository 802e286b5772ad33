use Rattle.std.proofs.Common.{length}
use Rattle.segments.proofs.Paired.{balanced_of, is_balanced_of}
use Rattle.segments.proofs.Whole.{balanced, never_wrong}
use Rattle.segments.proofs.laws.pairs_where_no_line_is_wrong.Goals as goal

pub returns-clause-pairs : goal.returns-clause-pairs
returns-clause-pairs c = balanced

pub returns-clause-none_wrong : goal.returns-clause-none_wrong
returns-clause-none_wrong c = never_wrong

pub returns-clause-tested : goal.returns-clause-tested
returns-clause-tested c = λ tokens e. balanced_of (length tokens) tokens e

pub returns-clause-test : goal.returns-clause-test
returns-clause-test c = is_balanced_of
