use Rattle.std.proofs.lemmas.List.{map_push}
use Rattle.ijar_strip.specs.Links.{link_seen}
use Rattle.ijar_strip.specs.Marks.{entry_link}
use Rattle.ijar_strip.proofs.Loops.{map_step}
use Rattle.ijar_strip.proofs.entries.entry_links.Goals as goal

pub loop-entry-preserved : goal.loop-entry-preserved
loop-entry-preserved c =
    cc (
      map_step (entry_link c.args.names.now c.args.class.now) c.args.entries.now
          c.loop-entry.entry-index c.entry-item.result c.loop-entry-test.true c.entry-item.is,
      map_push link_seen c.loop-entry.links.items c.entry_link.result,
      c.entry_link.ensures,
      c.in_ok-push.ensures.items,
    )
