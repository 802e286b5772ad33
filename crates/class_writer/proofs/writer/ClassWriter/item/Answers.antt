use Rattle.std.proofs.Common.{refl, ap, ◌∙◌, ◌++◌}
use Rattle.std.specs.Int.{w16, to_be_bytes}
use Rattle.class_desc.specs.Layout.{Tag, Flags, ParameterCount, Count, BodyLength, NoEntry}
use Rattle.class_writer.specs.Seen.{need_seen, item_seen}
use Rattle.class_writer.proofs.Seen.{plain_written, number_written}
use Rattle.class_writer.proofs.writer.ClassWriter.item.Goals as goal

pub returns-in_ok-push-in-Tag : goal.returns-in_ok-push-in-Tag
returns-in_ok-push-in-Tag c =
    plain_written c.args.item.now (Tag c.in-Tag.tag) c.args.self.now c.self.inside.slots.keys
    c.self.inside.entries.items
    c.self.inside.body.items c.push.new.self.items (ap item_seen c.in-Tag.is) refl c.self.view_is
    (λ _. c.in_ok-push-in-Tag.ensures.items)

pub returns-in_ok-put_u16-in-Flags : goal.returns-in_ok-put_u16-in-Flags
returns-in_ok-put_u16-in-Flags c =
    plain_written c.args.item.now (Flags c.in-Flags.flags) c.args.self.now
    c.self-in-Flags.inside.slots.keys c.self-in-Flags.inside.entries.items
    c.self-in-Flags.inside.body.items c.put_u16.new.out.items (ap item_seen c.in-Flags.is) refl
    c.self-in-Flags.view_is
    (λ _. c.in_ok-put_u16-in-Flags.ensures
    ∙ ap (λ n. c.self-in-Flags.inside.body.items ++ to_be_bytes w16 n) c.from.ensures)

pub returns-in_ok-put_u8-in-ParameterCount : goal.returns-in_ok-put_u8-in-ParameterCount
returns-in_ok-put_u8-in-ParameterCount c =
    plain_written c.args.item.now (ParameterCount c.in-ParameterCount.count) c.args.self.now
    c.self-in-ParameterCount.inside.slots.keys c.self-in-ParameterCount.inside.entries.items
    c.self-in-ParameterCount.inside.body.items c.put_u8.new.out.items
    (ap item_seen c.in-ParameterCount.is) refl c.self-in-ParameterCount.view_is
    (λ _. c.in_ok-put_u8-in-ParameterCount.ensures)

pub returns-in_ok-put_u16-in-Count : goal.returns-in_ok-put_u16-in-Count
returns-in_ok-put_u16-in-Count c =
    plain_written c.args.item.now (Count c.in-Count.count) c.args.self.now
    c.self-in-Count.inside.slots.keys c.self-in-Count.inside.entries.items
    c.self-in-Count.inside.body.items c.put_u16-in-Count.new.out.items
    (ap item_seen c.in-Count.is) refl c.self-in-Count.view_is
    (λ _. c.in_ok-put_u16-in-Count.ensures)

pub returns-in_ok-put_u32-in-BodyLength : goal.returns-in_ok-put_u32-in-BodyLength
returns-in_ok-put_u32-in-BodyLength c =
    plain_written c.args.item.now (BodyLength c.in-BodyLength.bytes) c.args.self.now
    c.self-in-BodyLength.inside.slots.keys c.self-in-BodyLength.inside.entries.items
    c.self-in-BodyLength.inside.body.items c.put_u32.new.out.items
    (ap item_seen c.in-BodyLength.is) refl c.self-in-BodyLength.view_is
    (λ _. c.in_ok-put_u32-in-BodyLength.ensures)

pub returns-in_ok-put_u16-in-NoEntry : goal.returns-in_ok-put_u16-in-NoEntry
returns-in_ok-put_u16-in-NoEntry c =
    plain_written c.args.item.now NoEntry c.args.self.now c.self-in-NoEntry.inside.slots.keys
    c.self-in-NoEntry.inside.entries.items
    c.self-in-NoEntry.inside.body.items c.put_u16-in-NoEntry.new.out.items
    (ap item_seen c.in-NoEntry.is) refl c.self-in-NoEntry.view_is
    (λ _. c.in_ok-put_u16-in-NoEntry.ensures)

pub returns-in_ok-put_u16-in-EntryNumber : goal.returns-in_ok-put_u16-in-EntryNumber
returns-in_ok-put_u16-in-EntryNumber c =
    let inside = c.self-in-EntryNumber.inside in
    number_written c.args.item.now (need_seen c.in-EntryNumber.need)
    c.in_ok-number-in-EntryNumber.number c.args.self.now c.entry.new.self
    inside.slots.keys inside.entries.items inside.body.items c.put_u16-in-EntryNumber.new.out.items
    (ap item_seen c.in-EntryNumber.is) c.in_ok-number-in-EntryNumber.ensures.takes
    c.in_ok-number-in-EntryNumber.ensures.number
    c.self-in-EntryNumber.view_is c.in_ok-put_u16-in-EntryNumber.ensures
