use Rattle.std.proofs.Common.{◌∙◌, refl, false, arith}
use Rattle.std.proofs.lemmas.List.{length-set}
use Rattle.supertypes.proofs.Marked.{in_range, unmark, last_in, front_in, cleaned}
use Rattle.supertypes.proofs.state.State.clean.Goals as goal

pub loop-class-init : goal.loop-class-init
loop-class-init c = record {
  level = refl;
  path = c.clear.ensures.items;
  marked = c.requires.marked;
  range = λ n here. in_range c.args.self.now.marks.items n (c.requires.listed n here);
  found_room = refl;
  path_room = c.clear.ensures.capacity;
}

pub index_mut-requires : goal.index_mut-requires
index_mut-requires c =
    let few = c.loop-class.invariant.range c.in-Some.class
    (last_in c.loop-class.self.found.items c.pop.new.self.items c.in-Some.class
    c.in-Some.ensures.items) in
    let long = c.loop-class.self.marks.ok.0 in
    omega (arith, few, long)

pub loop-class-preserved : goal.loop-class-preserved
loop-class-preserved c =
    let few = c.loop-class.invariant.range c.in-Some.class
    (last_in c.loop-class.self.found.items c.pop.new.self.items c.in-Some.class
    c.in-Some.ensures.items) in
    let same = length-set c.loop-class.self.marks.items c.in-Some.class false in
    record {
      level = same ∙ c.loop-class.invariant.level;
      path = c.loop-class.invariant.path;
      marked = unmark c.loop-class.self.marks.items c.loop-class.self.found.items
          c.pop.new.self.items c.in-Some.class few c.in-Some.ensures.items
          c.loop-class.invariant.marked;
      range = λ n here.
          let far = c.loop-class.invariant.range n
          (front_in c.loop-class.self.found.items c.pop.new.self.items c.in-Some.class n
          c.in-Some.ensures.items here) in
          omega (arith, far, same);
      found_room = c.pop.ensures.capacity ∙ c.loop-class.invariant.found_room;
      path_room = c.loop-class.invariant.path_room;
    }

pub returns-clause-clean : goal.returns-clause-clean
returns-clause-clean c =
    let long = c.pop.new.self.ok.0 in
    let short = c.in_default.ensures.cases.1 in
    let level = c.loop-class.invariant.level in
    let found_room = c.loop-class.invariant.found_room in
    let path_room = c.loop-class.invariant.path_room in
    let kept = c.pop.ensures.capacity in
    let found_before = c.requires.found_room in
    let path_before = c.requires.path_room in
    cleaned _ c.loop-class.self.found.items c.loop-class.invariant.marked
    c.in_default.ensures.items (omega (arith, long, short)) c.loop-class.invariant.path
    (omega (arith, level, found_room, kept, found_before))
    (omega (arith, level, path_room, path_before))
