use Rattle.ijar_strip.proofs.Steps.{places_step}
use Rattle.ijar_strip.proofs.links.push_others.Goals as goal

pub loop-name-preserved : goal.loop-name-preserved
loop-name-preserved c =
    let step = places_step c.args.places.now c.args.names.now c.loop-name.name-index
    c.name-item.result c.args.out.now.items c.loop-name-test.true in
    cc (step, c.name-item.is, c.in_ok-push_place.ensures)
