use Rattle.std.proofs.Common.{refl}
use Rattle.class_desc.specs.Layout.{NumberNeed}
use Rattle.class_writer.specs.Seen.{kind_seen}
use Rattle.class_writer.specs.Slots.{Held}
use Rattle.class_writer.proofs.Seen.{takes_new, takes_old, number_new}
use Rattle.class_writer.proofs.Writes.{number_found}
use Rattle.class_writer.proofs.writer.ClassWriter.number_alone.Goals as goal

pub returns-in_ok-put_number-clause-takes : goal.returns-in_ok-put_number-clause-takes
returns-in_ok-put_number-clause-takes c =
    takes_new (Held (NumberNeed (kind_seen c.args.kind) c.args.bits)) c.in_ok-number.number
    c.in_ok-number.is_new c.args.self.now
    c.find.new.self c.self.inside.slots.keys c.self.inside.entries.items
    c.put_number.new.out.items c.self.inside.body.items
    c.in_ok-number.ensures c.if-is_new.true c.self.view_is (λ _. c.in_ok-put_number.ensures)

pub returns-in_ok-put_number-clause-number : goal.returns-in_ok-put_number-clause-number
returns-in_ok-put_number-clause-number c =
    number_new (NumberNeed (kind_seen c.args.kind) c.args.bits) c.in_ok-number.number
    c.in_ok-number.is_new c.args.self.now
    c.find.new.self c.self.inside.slots.keys c.self.inside.entries.items
    c.put_number.new.out.items c.self.inside.body.items
    c.in_ok-number.ensures c.self.view_is

pub returns-else-is_new-clause-takes : goal.returns-else-is_new-clause-takes
returns-else-is_new-clause-takes c =
    takes_old (Held (NumberNeed (kind_seen c.args.kind) c.args.bits)) c.in_ok-number.number
    c.in_ok-number.is_new c.args.self.now
    c.find.new.self c.in_ok-number.ensures c.if-is_new.false

pub returns-else-is_new-clause-number : goal.returns-else-is_new-clause-number
returns-else-is_new-clause-number c =
    number_found (NumberNeed (kind_seen c.args.kind) c.args.bits) c.in_ok-number.number
    c.in_ok-number.is_new c.args.self.now
    c.find.new.self c.find.new.self c.in_ok-number.ensures refl
