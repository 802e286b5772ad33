use Rattle.std.proofs.Common.{◌≡◌, ◌||◌, ◌<◌, arith, length, false, get_or, ◌∙◌}
use Rattle.std.proofs.lemmas.List.{get_or_default}
use Rattle.ijar_strip.proofs.Stays.{stay_more}
use Rattle.ijar_strip.proofs.links.staying.Goals as goal
use Rattle.ijar_strip.proofs.links.staying.Goals.{then-link, else-link}

pub loop-index-preserved : goal.loop-index-preserved
loop-index-preserved c =
    let links = c.args.links.now in
    let i = c.loop-index.index in
    let link = c.index-links-index.result in
    let marks = c.in_ok-marks.marks.items in
    let level : length c.in_ok-rows.rows ≡ length links = c.in_ok-rows.ensures.rows.long in
    let long : length marks ≡ length c.in_ok-rows.rows = c.in_ok-marks.ensures.length in
    let inside : i < length marks = omega arith in
    let marked = c.index-marked.ensures
    ∙ get_or_default marks i c.index-marked.result.now false inside in
    let stays : c.if-link.push ≡ (link.begins || get_or marks i false) =
    elim c.if-link.branch [ then-link w ↦ cc | else-link w ↦ cc marked ] in
    c.in_ok-push.ensures.items
    ∙ stay_more links c.in_ok-rows.rows c.deref.result.now marks c.in_ok-rows.ensures.rows
    (c.deref.ensures.value ∙ c.in_ok-rows.ensures.begun)
    c.in_ok-marks.ensures.exact i link c.loop-index-test.true c.index-links-index.is
    c.if-link.push stays c.loop-index.stays.items c.loop-index.invariant
