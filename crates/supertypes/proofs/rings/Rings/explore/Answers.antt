use Rattle.std.proofs.Common.{◌≡◌, ◌∙◌, ap, sym, refl, ℕ, List, length, get_or}
use Rattle.std.proofs.Common.{arith}
use Rattle.std.proofs.lemmas.List.{get_or_read, get_or_default}
use Rattle.reachability.specs.Reached.{targets}
use Rattle.supertypes.proofs.Shown.{class_few, place_few, exhausted}
use Rattle.supertypes.proofs.Work.{next_of, next_as, kept_new}
use Rattle.supertypes.proofs.rings.Rings.explore.Goals as goal

class_now : (on_way now : List ℕ) (start place class : ℕ) → class ≡ get_or on_way start 0 →
    now ≡ on_way → place ≡ start → class ≡ get_or now place 0
class_now on_way now start place class is same at =
    is ∙ ap (λ k. get_or on_way k 0) (sym at) ∙ ap (λ l. get_or l place 0) (sym same)

pub row-row-requires : goal.row-row-requires
row-row-requires c =
    let few = place_few c.args.graph.now c.args.self.now c.args.edge c.requires in
    let is = get_or_read c.args.self.now.on_way.items c.args.edge.place c.index-class.result.now
    few c.index-class.ensures 0 in
    let small = class_few c.args.graph.now c.args.self.now c.args.edge c.requires in
    omega (arith, is, small)

pub loop-edge-init : goal.loop-edge-init
loop-edge-init c =
    record {
      along = c.requires;
      place = refl;
      standings = refl;
      on_way = refl;
      work = omega arith;
    }

pub follow-requires-clause-leads : goal.follow-requires-clause-leads
follow-requires-clause-leads c =
    let few = place_few c.args.graph.now c.args.self.now c.args.edge c.requires in
    let is = get_or_read c.args.self.now.on_way.items c.args.edge.place c.index-class.result.now
    few c.index-class.ensures 0 in
    let now = class_now c.args.self.now.on_way.items c.loop-edge.self.on_way.items
    c.args.edge.place c.loop-edge.edge.place c.index-class.result.now is
    c.loop-edge.invariant.on_way c.loop-edge.invariant.place in
    next_of c.args.graph.now c.loop-edge.self c.loop-edge.edge c.index-class.result.now
    c.row-row.result.now _ now c.row-row.ensures c.loop-edge-test.true
    (get_or_default c.row-row.result.now c.loop-edge.edge.next 0 _ c.loop-edge-test.true)

pub set_out-requires-clause-leads : goal.set_out-requires-clause-leads
set_out-requires-clause-leads c =
    let few = place_few c.args.graph.now c.args.self.now c.args.edge c.requires in
    let is = get_or_read c.args.self.now.on_way.items c.args.edge.place c.index-class.result.now
    few c.index-class.ensures 0 in
    let now = class_now c.args.self.now.on_way.items c.loop-edge.self.on_way.items
    c.args.edge.place c.loop-edge.edge.place c.index-class.result.now is
    c.loop-edge.invariant.on_way c.loop-edge.invariant.place in
    next_as c.args.graph.now c.loop-edge.self c.follow.new.self c.loop-edge.edge _
    c.follow.ensures.on_way
    (next_of c.args.graph.now c.loop-edge.self c.loop-edge.edge c.index-class.result.now
    c.row-row.result.now _ now c.row-row.ensures c.loop-edge-test.true
    (get_or_default c.row-row.result.now c.loop-edge.edge.next 0 _ c.loop-edge-test.true))

pub index-class-requires : goal.index-class-requires
index-class-requires c =
    let few = place_few c.args.graph.now c.args.self.now c.args.edge c.requires in
    let len = c.args.self.now.on_way.ok.0 in
    omega (arith, few, len)

pub loop-edge-preserved : goal.loop-edge-preserved
loop-edge-preserved c =
    let work = c.follow.ensures.work in
    let before = c.loop-edge.invariant.work in
    record {
      along = c.follow.ensures.along c.if-not-follow.false;
      place = c.loop-edge.invariant.place;
      standings = c.follow.ensures.kept ∙ c.loop-edge.invariant.standings;
      on_way = c.follow.ensures.on_way ∙ c.loop-edge.invariant.on_way;
      work = omega (arith, work, before);
    }

pub returns-clause-on_way : goal.returns-clause-on_way
returns-clause-on_way c =
    let few = place_few c.args.graph.now c.args.self.now c.args.edge c.requires in
    let is = get_or_read c.args.self.now.on_way.items c.args.edge.place c.index-class.result.now
    few c.index-class.ensures 0 in
    let now = class_now c.args.self.now.on_way.items c.loop-edge.self.on_way.items
    c.args.edge.place c.loop-edge.edge.place c.index-class.result.now is
    c.loop-edge.invariant.on_way c.loop-edge.invariant.place in
    let row : c.row-row.result.now ≡ targets c.args.graph.now
    (get_or c.loop-edge.self.on_way.items c.loop-edge.edge.place 0) =
    c.row-row.ensures ∙ ap (targets c.args.graph.now) now in
    let long = ap length row in
    let over = c.loop-edge-test.false in
    exhausted c.args.graph.now c.loop-edge.self c.loop-edge.edge c.loop-edge.invariant.along
    (omega (arith, long, over))

pub returns-clause-work : goal.returns-clause-work
returns-clause-work c = c.loop-edge.invariant.work

pub returns-clause-new : goal.returns-clause-new
returns-clause-new c = kept_new c.args.self.now c.loop-edge.self c.loop-edge.invariant.standings
