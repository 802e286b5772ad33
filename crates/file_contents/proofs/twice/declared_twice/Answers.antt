use Rattle.std.proofs.Common.{◌≡◌, ◌<◌, false, cond, [], ◌∷◌, length, map, ap, ◌∙◌}
use Rattle.std.proofs.Common.{sym, arith}
use Rattle.std.proofs.lemmas.List.{get_or_default}
use Rattle.hdr_core.specs.declared.code.Code.TheVariants.{C1}
use Rattle.file_contents.specs.Reading.{diag_at}
use Rattle.file_contents.specs.Contents.{item_name}
use Rattle.file_contents.specs.Phases.{twice_at}
use Rattle.used_files.proofs.Lists.{told_more}
use Rattle.file_contents.proofs.twice.declared_twice.Goals as goal

pub loop-index-preserved : goal.loop-index-preserved
loop-index-preserved c =
    let items = c.args.items.now in
    let i = c.loop-index.index in
    let item = c.index-items-index.result in
    let marks = c.in_ok-repeated.repeated.items in
    let long : length marks ≡ length items = sym c.in_ok-repeated.repeated.ok.0
    ∙ c.in_ok-repeated.ensures.len in
    let inside : i < length items = c.loop-index-test.true in
    let within : i < length marks = omega arith in
    let mark = c.index-is_repeated.ensures
    ∙ get_or_default marks i c.index-is_repeated.result.now false within
    ∙ c.in_ok-repeated.ensures.marks i inside in
    told_more (twice_at (map item_name items)) items i item c.loop-index.list.items
    c.push_twice.new.list.items
    (cond c.index-is_repeated.result.now (diag_at item.file item.path C1 (item_name item) ∷ []) [])
    inside c.index-items-index.is c.loop-index.invariant c.in_ok-push_twice.ensures
    (ap (λ b. cond b (diag_at item.file item.path C1 (item_name item) ∷ []) []) mark)
