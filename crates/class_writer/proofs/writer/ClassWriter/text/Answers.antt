use Rattle.std.proofs.Common.{refl}
use Rattle.class_desc.specs.Layout.{TextNeed}
use Rattle.class_writer.specs.Slots.{Held}
use Rattle.class_writer.proofs.Seen.{takes_new, takes_old, number_new, text_bytes}
use Rattle.class_writer.proofs.Writes.{number_found}
use Rattle.class_writer.proofs.writer.ClassWriter.text.Goals as goal

pub returns-in_ok-extend_from_slice-clause-takes :
    goal.returns-in_ok-extend_from_slice-clause-takes
returns-in_ok-extend_from_slice-clause-takes c =
    takes_new (Held (TextNeed c.args.text.now)) c.in_ok-number.number c.in_ok-number.is_new
    c.args.self.now c.find.new.self
    c.self.inside.slots.keys c.self.inside.entries.items c.extend_from_slice.new.self.items
    c.self.inside.body.items
    c.in_ok-number.ensures c.if-is_new.true c.self.view_is
    (λ _. text_bytes 1 c.args.text.now c.self.inside.entries.items c.push.new.self.items
    c.put_u16.new.out.items
    c.extend_from_slice.new.self.items c.in_ok-push.ensures.items c.in_ok-put_u16.ensures
    c.in_ok-extend_from_slice.ensures.items)

pub returns-in_ok-extend_from_slice-clause-number :
    goal.returns-in_ok-extend_from_slice-clause-number
returns-in_ok-extend_from_slice-clause-number c =
    number_new (TextNeed c.args.text.now) c.in_ok-number.number c.in_ok-number.is_new
    c.args.self.now c.find.new.self
    c.self.inside.slots.keys c.self.inside.entries.items c.extend_from_slice.new.self.items
    c.self.inside.body.items
    c.in_ok-number.ensures c.self.view_is

pub returns-else-is_new-clause-takes : goal.returns-else-is_new-clause-takes
returns-else-is_new-clause-takes c =
    takes_old (Held (TextNeed c.args.text.now)) c.in_ok-number.number c.in_ok-number.is_new
    c.args.self.now c.find.new.self
    c.in_ok-number.ensures c.if-is_new.false

pub returns-else-is_new-clause-number : goal.returns-else-is_new-clause-number
returns-else-is_new-clause-number c =
    number_found (TextNeed c.args.text.now) c.in_ok-number.number c.in_ok-number.is_new
    c.args.self.now c.find.new.self
    c.find.new.self c.in_ok-number.ensures refl
