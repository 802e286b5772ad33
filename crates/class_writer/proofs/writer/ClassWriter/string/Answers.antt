use Rattle.std.proofs.Common.{refl}
use Rattle.class_desc.specs.Layout.{StringNeed}
use Rattle.class_writer.specs.Slots.{Held}
use Rattle.class_writer.proofs.Seen.{takes_reference, takes_old, number_new}
use Rattle.class_writer.proofs.Writes.{takes_then, number_found}
use Rattle.class_writer.proofs.writer.ClassWriter.string.Goals as goal

pub returns-in_ok-put_u16-clause-takes : goal.returns-in_ok-put_u16-clause-takes
returns-in_ok-put_u16-clause-takes c =
    takes_reference 8 c.args.text.now (StringNeed c.args.text.now) c.in_ok-text_number.text_number
    c.in_ok-number.number c.in_ok-number.is_new
    c.args.self.now c.text.new.self c.find.new.self c.self.inside.slots.keys
    c.self.inside.entries.items c.push.new.self.items
    c.put_u16.new.out.items c.self.inside.body.items (λ _. refl) c.in_ok-text_number.ensures.takes
    c.in_ok-text_number.ensures.number
    c.in_ok-number.ensures c.if-is_new.true c.self.view_is c.in_ok-push.ensures.items
    c.in_ok-put_u16.ensures

pub returns-in_ok-put_u16-clause-number : goal.returns-in_ok-put_u16-clause-number
returns-in_ok-put_u16-clause-number c =
    number_new (StringNeed c.args.text.now) c.in_ok-number.number c.in_ok-number.is_new
    c.text.new.self c.find.new.self
    c.self.inside.slots.keys c.self.inside.entries.items c.put_u16.new.out.items
    c.self.inside.body.items
    c.in_ok-number.ensures c.self.view_is

pub returns-else-is_new-clause-takes : goal.returns-else-is_new-clause-takes
returns-else-is_new-clause-takes c =
    takes_then c.in_ok-text_number.ensures.takes
    (takes_old (Held (StringNeed c.args.text.now)) c.in_ok-number.number c.in_ok-number.is_new
    c.text.new.self c.find.new.self
    c.in_ok-number.ensures c.if-is_new.false)

pub returns-else-is_new-clause-number : goal.returns-else-is_new-clause-number
returns-else-is_new-clause-number c =
    number_found (StringNeed c.args.text.now) c.in_ok-number.number c.in_ok-number.is_new
    c.text.new.self c.find.new.self
    c.find.new.self c.in_ok-number.ensures refl
