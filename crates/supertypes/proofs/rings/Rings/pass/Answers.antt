use Rattle.supertypes.proofs.Shown.{passed}
use Rattle.supertypes.proofs.Work.{work_folded}
use Rattle.supertypes.proofs.rings.Rings.pass.Goals as goal

pub returns-clause-along : goal.returns-clause-along
returns-clause-along c =
    passed c.args.graph.now c.args.self.now c.args.edge c.requires.along c.args.target
    c.requires.leads c.label-ring.result c.fold.new.self c.requires.done
    c.label-ring.ensures c.fold.ensures

pub returns-clause-work : goal.returns-clause-work
returns-clause-work c =
    work_folded c.args.self.now c.fold.new.self c.label-ring.result c.fold.ensures
