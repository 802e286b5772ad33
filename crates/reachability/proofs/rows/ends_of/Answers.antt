use Rattle.reachability.proofs.Laid.{is_below, is_within, is_between}
use Rattle.reachability.proofs.rows.ends_of.Goals as goal

pub returns-clause-below : goal.returns-clause-below
returns-clause-below c = is_below c.args.ends.now c.args.numbers.now c.args.index
    c.start_of.result c.requires.laid c.requires.index c.start_of.ensures

pub returns-clause-within : goal.returns-clause-within
returns-clause-within c = is_within c.args.ends.now c.args.numbers.now c.args.index
    c.start_of.result c.requires.laid c.requires.index c.start_of.ensures

pub returns-clause-is : goal.returns-clause-is
returns-clause-is c = is_between c.args.ends.now c.args.numbers.now c.args.index c.start_of.result
    c.requires.laid c.requires.index c.start_of.ensures
