use Rattle.std.proofs.Common.{◌≡◌, ◌-◌, List, []}
use Rattle.class_desc.specs.ClassFile.{Key}
use Rattle.pool_reader.proofs.Times.{with_front}
use Rattle.class_reader.specs.Reading.{HaveSame, member_at, members_at}
use Rattle.class_reader.proofs.member.member_list.Given as goal

abbrev pub invariant-loop : goal.invariant-loop
invariant-loop g l =
    let make = g.T.FromMember.described in
    let read = member_at l.pool l.kind in
    (seen : List Key) × HaveSame l.seen seen
    × (with_front l.members.items (members_at make read seen (l.count - l.counter) l.reader)
    ≡ members_at make read [] l.count l.fn.reader)
