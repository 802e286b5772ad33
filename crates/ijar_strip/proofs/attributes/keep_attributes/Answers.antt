use Rattle.std.proofs.Common.{◌≡◌, ◌<◌, arith, List, [], Bool, length, map, ap, sym, ◌∙◌}
use Rattle.std.specs.Vec.Iter.{into_iter_items}
use Rattle.std.proofs.lemmas.List.{map-id}
use Rattle.class_desc.specs.declared.attribute.Attr.{Attr}
use Rattle.class_views.specs.Strip.{strip_attribute}
use Rattle.ijar_strip.specs.Marks.{attribute_marks, entries_of}
use Rattle.lemmas.proofs.Iterated.{IsNext, next_at}
use Rattle.ijar_strip.proofs.Loops.{flat_step, mapped_at, as_many}
use Rattle.ijar_strip.proofs.attributes.keep_attributes.Goals as goal

pub push_kept-requires : goal.push_kept-requires
push_kept-requires c =
    let marks = c.args.marks.now in
    let all = into_iter_items c.into_iter-attribute-iterator.result in
    let i = c.loop-attribute.index in
    let x = c.in-Some.attribute in
    let whole : all ≡ c.args.attributes = c.into_iter-attribute-iterator.ensures.into_iter_gives.0
    ∙ c.into_items-attributes.ensures in
    let alike : map length marks ≡ map (λ (a : Attr). length (entries_of a)) all =
    c.requires ∙ ap (map (λ (a : Attr). length (entries_of a))) (sym whole) in
    let level : length marks ≡ length all =
    as_many length (λ (a : Attr). length (entries_of a)) marks all alike in
    let at : IsNext all i x (into_iter_items c.next.new.self) =
    next_at all (into_iter_items c.loop-attribute.attribute-iterator)
    (into_iter_items c.next.new.self) i x c.loop-attribute.invariant.rest
    c.in-Some.ensures.steps.0 in
    let inside : i < length all = at.inside in
    ap length c.items.ensures
    ∙ mapped_at length (λ (a : Attr). length (entries_of a)) marks all i
    c.index-marks-index.result x alike (omega arith) inside c.index-marks-index.is at.is

pub loop-attribute-preserved : goal.loop-attribute-preserved
loop-attribute-preserved c =
    let marks = c.args.marks.now in
    let all = into_iter_items c.into_iter-attribute-iterator.result in
    let i = c.loop-attribute.index in
    let x = c.in-Some.attribute in
    let at : IsNext all i x (into_iter_items c.next.new.self) =
    next_at all (into_iter_items c.loop-attribute.attribute-iterator)
    (into_iter_items c.next.new.self) i x c.loop-attribute.invariant.rest
    c.in-Some.ensures.steps.0 in
    let inside : i < length all = at.inside in
    record {
      within = omega arith;
      rest = at.rest_is;
      done = λ d are.
          let same : map (λ (m : List Bool). m) marks ≡ map (attribute_marks d) all = map-id marks
          ∙ are in
          let level : length marks ≡ length all =
          as_many (λ (m : List Bool). m) (attribute_marks d) marks all same in
          let mark : c.items.result.now ≡ attribute_marks d x =
          c.items.ensures ∙ mapped_at (λ (m : List Bool). m) (attribute_marks d) marks all i
          c.index-marks-index.result x same (omega arith) inside c.index-marks-index.is at.is
          in
          let pushed = c.in_ok-push_kept.ensures d mark in
          let before = c.loop-attribute.invariant.done d are in
          cc (flat_step (strip_attribute d) [] all i x inside at.is, pushed, before);
    }
