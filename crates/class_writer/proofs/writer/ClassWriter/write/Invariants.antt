use Rattle.std.proofs.Common.{map, take}
use Rattle.class_writer.specs.Seen.{item_seen}
use Rattle.class_writer.specs.Writing.{Writes}
use Rattle.class_writer.proofs.writer.ClassWriter.write.Given as goal

abbrev pub invariant-loop-item : goal.invariant-loop-item
invariant-loop-item l = Writes (map item_seen (take l.item-index l.items)) l.fn.self l.self
