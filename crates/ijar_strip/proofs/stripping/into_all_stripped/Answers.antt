use Rattle.std.proofs.Common.{◌≡◌, ◌<◌, ◌-◌, arith, Bool, [], ◌∷◌, ◌++◌, length, map, take, drop}
use Rattle.std.proofs.Common.{ap, sym, ◌∙◌}
use Rattle.std.specs.Prelude.{Option, Some, None, if◌then◌else◌}
use Rattle.std.specs.Vec.Iter.{into_iter_items}
use Rattle.std.proofs.lemmas.List.{map-id, take_all, length-drop}
use Rattle.class_desc.specs.declared.class.ClassDesc.{ClassDesc}
use Rattle.class_views.specs.Strip.{strip_class}
use Rattle.class_views.specs.Kept.{is_kept, strip_each}
use Rattle.projection.proofs.Written.{left_keeps}
use Rattle.lemmas.proofs.Iterated.{IsNext, next_at}
use Rattle.ijar_strip.proofs.Loops.{map_step, mapped_at, as_many}
use Rattle.ijar_strip.proofs.stripping.into_all_stripped.Goals as goal

pub loop-desc-preserved : goal.loop-desc-preserved
loop-desc-preserved c =
    let marks = c.in_ok-marks.marks.items in
    let all = into_iter_items c.into_iter-desc-iterator.result in
    let i = c.loop-desc.index in
    let x = c.in-Some.desc in
    let left : ClassDesc → Option ClassDesc = λ d. if is_kept all d then Some (strip_class d)
    else None in
    let at : IsNext all i x (into_iter_items c.next.new.self) =
    next_at all (into_iter_items c.loop-desc.desc-iterator) (into_iter_items c.next.new.self) i x
    c.loop-desc.invariant.rest c.in-Some.ensures.steps.0 in
    let inside : i < length all = at.inside in
    let whole : c.deref.result.now ≡ all = c.deref.ensures.value
    ∙ sym c.into_iter-desc-iterator.ensures.into_iter_gives.0 in
    let same : map (λ (m : Bool). m) marks ≡ map (is_kept all) all =
    map-id marks ∙ (c.in_ok-marks.ensures ∙ ap (λ list. map (is_kept list) list) whole) in
    let level : length marks ≡ length all =
    as_many (λ (m : Bool). m) (is_kept all) marks all same in
    let mark : c.index.result.now ≡ is_kept all x =
    mapped_at (λ (m : Bool). m) (is_kept all) marks all i c.index.result.now x same (omega arith)
    inside c.index.ensures at.is in
    record {
      within = omega arith;
      rest = at.rest_is;
      done =
          c.in_ok-push.ensures.items
          ∙ (ap (λ list. list ++ c.in_ok-kept_class.field-0 ∷ []) c.loop-desc.invariant.done
          ∙ (ap (λ class. map left (take i all) ++ class ∷ [])
          (c.in_ok-kept_class.ensures ∙ ap (λ b. if b then Some (strip_class x) else None)
          mark)
          ∙ map_step left all i x inside at.is));
    }

pub returns-clause-answers : goal.returns-clause-answers
returns-clause-answers c = λ one.
    let all = into_iter_items c.into_iter-desc-iterator.result in
    let i = c.loop-desc.index in
    let left : ClassDesc → Option ClassDesc = λ d. if is_kept all d then Some (strip_class d)
    else None in
    let empty : length (into_iter_items c.loop-desc.desc-iterator) ≡ 0 =
    sym c.loop-desc.desc-iterator.rest.ok.0 ∙ c.in-None.ensures.steps.0 in
    let long : length (drop i all) ≡ length all - i = length-drop i all in
    let none : length (drop i all) ≡ 0 = ap length (sym c.loop-desc.invariant.rest) ∙ empty in
    let whole : all ≡ c.args.list.items = c.into_iter-desc-iterator.ensures.into_iter_gives.0 in
    left_keeps c.args.list.items c.loop-desc.all.items
    (c.loop-desc.invariant.done
    ∙ (ap (map left) (take_all i all (omega arith)) ∙ ap strip_each whole))
    one
