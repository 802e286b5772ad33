use Rattle.std.proofs.Common.{◌≡◌, arith, Bool, List, [], length, map, ap, ◌∙◌}
use Rattle.std.proofs.lemmas.List.{map-id}
use Rattle.class_views.specs.Strip.{strip_attribute}
use Rattle.ijar_strip.specs.Marks.{attribute_marks, entries_of}
use Rattle.ijar_strip.proofs.Loops.{flat_step, mapped_at, as_many}
use Rattle.ijar_strip.proofs.attributes.copy_attributes.Goals as goal

pub push_copy-requires : goal.push_copy-requires
push_copy-requires c =
    let attributes = c.args.attributes.now in
    let marks = c.args.marks.now in
    let level : length marks ≡ length attributes =
    as_many length (λ a. length (entries_of a)) marks attributes c.requires in
    let i = c.loop-index.index in
    ap length c.items.ensures
    ∙ mapped_at length (λ a. length (entries_of a)) marks attributes i c.index-marks-index.result
    c.index-attributes-index.result
    c.requires (omega arith) c.loop-index-test.true c.index-marks-index.is
    c.index-attributes-index.is

pub loop-index-preserved : goal.loop-index-preserved
loop-index-preserved c = λ d are.
    let attributes = c.args.attributes.now in
    let marks = c.args.marks.now in
    let i = c.loop-index.index in
    let x = c.index-attributes-index.result in
    let same : map (λ (m : List Bool). m) marks ≡ map (attribute_marks d) attributes =
    map-id marks ∙ are in
    let level : length marks ≡ length attributes =
    as_many (λ (m : List Bool). m) (attribute_marks d) marks attributes same in
    let mark : c.items.result.now ≡ attribute_marks d x =
    c.items.ensures ∙ mapped_at (λ (m : List Bool). m) (attribute_marks d) marks attributes i
    c.index-marks-index.result x
    same (omega arith) c.loop-index-test.true c.index-marks-index.is c.index-attributes-index.is in
    let pushed = c.in_ok-push_copy.ensures d mark in
    let before = c.loop-index.invariant d are in
    cc (
      flat_step (strip_attribute d) [] attributes i x c.loop-index-test.true
          c.index-attributes-index.is,
      pushed,
      before,
    )
