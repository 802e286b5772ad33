use Rattle.std.proofs.Common.{arith, refl}
use Rattle.supertypes.proofs.Marked.{steady_more, some_left}
use Rattle.supertypes.proofs.state.State.mark.Goals as goal

pub push_reserved-requires : goal.push_reserved-requires
push_reserved-requires c =
    let some = some_left c.args.self.now.marks.items c.args.class c.requires.new in
    let counted = c.requires.steady.counted in
    let room = c.requires.steady.found_room in
    let long = c.args.self.now.found.ok.0 in
    omega (arith, some, counted, room, long)

pub returns-clause-steady : goal.returns-clause-steady
returns-clause-steady c =
    steady_more c.args.self.now _ c.args.class c.requires.steady c.requires.new
    refl c.push_reserved.ensures.items c.push_reserved.ensures.capacity refl
