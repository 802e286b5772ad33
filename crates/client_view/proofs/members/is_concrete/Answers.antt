use Rattle.std.proofs.Common.{◌∙◌, ap, not}
use Rattle.client_view.specs.Numbers.{views}
use Rattle.client_view.specs.Sought.{meant}
use Rattle.client_view.proofs.Concrete.{met_concrete, none_concrete}
use Rattle.client_view.proofs.members.is_concrete.Goals as goal

pub returns-in-Some : goal.returns-in-Some
returns-in-Some c =
    ap not c.has_flag.ensures
    ∙ met_concrete (views c.args.classes.now) (meant c.args.sought.now) c.args.class
    c.in-Some.met c.in-Some.ensures.met

pub returns-in-None : goal.returns-in-None
returns-in-None c =
    none_concrete (views c.args.classes.now) (meant c.args.sought.now) c.args.class
    c.in-None.ensures.met
