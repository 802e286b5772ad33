use Rattle.std.proofs.Common.{◌∙◌, sym}
use Rattle.supertypes.proofs.Leaving.{left_on_way}
use Rattle.supertypes.proofs.Work.{has_left, run_start, rest_few, work_left}
use Rattle.supertypes.proofs.rings.Rings.leave.Goals as goal

pub settle-requires-clause-start : goal.settle-requires-clause-start
settle-requires-clause-start c =
    run_start c.args.graph.now c.args.self.now _ c.in-Some.run' c.requires.on_way
    c.in-Some.ensures.items

pub settle-requires-clause-level : goal.settle-requires-clause-level
settle-requires-clause-level c =
    c.requires.on_way.shows.label_level ∙ sym c.requires.on_way.shows.level

pub settle-requires-clause-few : goal.settle-requires-clause-few
settle-requires-clause-few c =
    λ n here. rest_few c.args.graph.now c.args.self.now c.in-Some.run'.start n c.requires.on_way
    here

pub returns-clause-on_way : goal.returns-clause-on_way
returns-clause-on_way c =
    let left =
    has_left c.args.self.now c.settle.new.self c.fold.new.self _ c.in-Some.run'
    c.in-Some.ensures.items c.settle.ensures.runs c.settle.ensures.on_way c.settle.ensures.path
    c.settle.ensures.settled
    c.fold.ensures.runs (c.fold.ensures.on_way ∙ c.truncate.ensures.items) c.fold.ensures.path
    c.fold.ensures.standings c.fold.ensures.labels in
    left_on_way c.args.graph.now c.args.self.now c.fold.new.self _ c.in-Some.run' c.requires.on_way
    c.requires.none left

pub returns-clause-work : goal.returns-clause-work
returns-clause-work c =
    let left =
    has_left c.args.self.now c.settle.new.self c.fold.new.self _ c.in-Some.run'
    c.in-Some.ensures.items c.settle.ensures.runs c.settle.ensures.on_way c.settle.ensures.path
    c.settle.ensures.settled
    c.fold.ensures.runs (c.fold.ensures.on_way ∙ c.truncate.ensures.items) c.fold.ensures.path
    c.fold.ensures.standings c.fold.ensures.labels in
    work_left c.args.self.now c.fold.new.self _ c.in-Some.run' left

pub returns-clause-new : goal.returns-clause-new
returns-clause-new c =
    let left =
    has_left c.args.self.now c.settle.new.self c.fold.new.self _ c.in-Some.run'
    c.in-Some.ensures.items c.settle.ensures.runs c.settle.ensures.on_way c.settle.ensures.path
    c.settle.ensures.settled
    c.fold.ensures.runs (c.fold.ensures.on_way ∙ c.truncate.ensures.items) c.fold.ensures.path
    c.fold.ensures.standings c.fold.ensures.labels in
    left.settled.was_new
