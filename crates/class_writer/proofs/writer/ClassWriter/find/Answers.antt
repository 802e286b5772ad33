use Rattle.class_writer.proofs.Seen.{finds}
use Rattle.class_writer.proofs.writer.ClassWriter.find.Goals as goal

pub returns : goal.returns
returns c =
    let found = c.in_ok-index.ensures in
    finds c.args.self.now c.self.inside.slots.keys c.insert_full.new.self.keys c.args.slot
    c.self.inside.entries.items c.self.inside.body.items c.in_ok-index.index c.in_ok-index.is_new
    c.self.view_is found.keys found.index found.added
