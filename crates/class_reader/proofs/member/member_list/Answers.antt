use Rattle.std.proofs.Common.{[], ◌∷◌, ◌++◌, sym, subst, ◌∙◌}
use Rattle.std.proofs.lemmas.Result.{err_from_is_err_and}
use Rattle.pool_reader.specs.Reading.{Fails}
use Rattle.class_reader.specs.Reading.{member_at, members_at}
use Rattle.class_reader.proofs.Members.{member_alike, one_more, begins, goes_on, ends}
use Rattle.class_reader.proofs.Members.{is_done}
use Rattle.class_reader.proofs.member.member_list.Goals as goal

pub loop-init : goal.loop-init
loop-init g c =
    begins g.T.FromMember.described (member_at c.args.pool.now c.args.kind)
    c.in_ok-members.members.items c.new-seen.result c.args.count c.args.reader.now
    c.new-seen.ensures c.in_ok-members.ensures.items

pub returns-in_err-member : goal.returns-in_err-member
returns-in_err-member g c =
    let p = err_from_is_err_and c.from_residual-in_err-member.result
    c.from_residual-in_err-member.ensures.1 in
    let make = g.T.FromMember.described in
    let read = member_at c.args.pool.now c.args.kind in
    let so_far = c.loop.invariant in
    let alike = member_alike c.args.pool.now c.args.kind c.loop.seen so_far.0 c.loop.reader
    so_far.1 in
    rw (p.1, p.2)
    (ends make read c.in_err-member.field-0.0 c.loop.members.items so_far.0 c.args.count
    c.loop.counter c.loop.reader (members_at make read [] c.args.count c.args.reader.now)
    c.loop-test.true
    (subst (Fails c.in_err-member.field-0.0) alike c.in_err-member.ensures.member)
    so_far.2)

pub loop-preserved : goal.loop-preserved
loop-preserved g c =
    let make = g.T.FromMember.described in
    let read = member_at c.args.pool.now c.args.kind in
    let so_far = c.loop.invariant in
    let m = c.in_ok-member.member in
    let alike = member_alike c.args.pool.now c.args.kind c.loop.seen so_far.0 c.loop.reader
    so_far.1 in
    rw (c.in_ok-push.ensures.items, c.from_member.ensures) (
      so_far.0 ++ (m.name, m.descriptor) ∷ [],
      one_more c.loop.seen c.next_member.new.seen so_far.0 (m.name, m.descriptor) so_far.1
          c.in_ok-member.ensures.seen,
      goes_on make read c.loop.members.items so_far.0 c.args.count c.loop.counter c.loop.reader
          m c.next_member.new.reader
          (members_at make read [] c.args.count c.args.reader.now) c.loop-test.true
          (sym alike ∙ c.in_ok-member.ensures.member) so_far.2,
    )

pub returns : goal.returns
returns g c =
    let make = g.T.FromMember.described in
    let read = member_at c.args.pool.now c.args.kind in
    let so_far = c.loop.invariant in
    rw c.of.ensures
    (is_done make read c.loop.members.items so_far.0 c.args.count c.loop.counter c.loop.reader
    (members_at make read [] c.args.count c.args.reader.now) c.loop-test.false so_far.2)
