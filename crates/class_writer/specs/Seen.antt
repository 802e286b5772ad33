-- Entries and items that the code keeps, without where their texts lie in memory.
use Rattle.std.specs.Prelude.{ℕ, List}
use Rattle.class_desc.specs.declared.constant_kind.NumberKind as numbers
use Rattle.class_desc.specs.declared.constant_kind.NumberKind.TheVariants as number
use Rattle.class_desc.specs.Layout as layout
use Rattle.class_writer.specs.declared.need.NumberKind.{NumberKind}
use Rattle.class_writer.specs.declared.need.NumberKind.TheVariants as kind
use Rattle.class_writer.specs.declared.need.Need.{Need}
use Rattle.class_writer.specs.declared.need.Need.TheVariants as need
use Rattle.class_writer.specs.declared.need.Slot.{Slot}
use Rattle.class_writer.specs.declared.need.Slot.TheVariants as slot
use Rattle.class_writer.specs.declared.need.Place.{Place}
use Rattle.class_writer.specs.declared.need.Place.TheVariants as place
use Rattle.class_writer.specs.declared.item.Item.{Item}
use Rattle.class_writer.specs.declared.item.Item.TheVariants as item
use Rattle.class_writer.specs.Slots as slots

abbrev pub kind_seen : NumberKind → numbers.NumberKind
kind_seen kind.Integer = number.Integer
kind_seen kind.Float = number.Float
kind_seen kind.Long = number.Long
kind_seen kind.Double = number.Double

abbrev pub need_seen : Need → layout.Need
need_seen (need.Text text) = layout.TextNeed text.now
need_seen (need.Class name) = layout.ClassNeed name.now
need_seen (need.String text) = layout.StringNeed text.now
need_seen (need.Number kind bits) = layout.NumberNeed (kind_seen kind) bits

abbrev pub slot_seen : Slot → slots.Slot
slot_seen (slot.Held need) = slots.Held (need_seen need)
slot_seen (slot.BehindLong bits) = slots.BehindLong bits
slot_seen (slot.BehindDouble bits) = slots.BehindDouble bits

abbrev pub item_seen : Item → layout.Item
item_seen (item.Tag tag) = layout.Tag tag
item_seen (item.Flags flags) = layout.Flags flags
item_seen (item.ParameterCount count) = layout.ParameterCount count
item_seen (item.Count count) = layout.Count count
item_seen (item.BodyLength bytes) = layout.BodyLength bytes
item_seen (item.EntryNumber need) = layout.EntryNumber (need_seen need)
item_seen item.NoEntry = layout.NoEntry

-- what a text gives at a place
abbrev pub text_need : Place → List ℕ → layout.Need
text_need place.Field text = layout.StringNeed text
text_need place.Element text = layout.TextNeed text
