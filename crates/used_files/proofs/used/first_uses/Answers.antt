use Rattle.std.proofs.Common.{◌≡◌, ℕ, ◌<◌, false, cond, List, [], ◌∷◌, length, map, ap}
use Rattle.std.proofs.Common.{subst, sym, ◌∙◌, arith}
use Rattle.std.specs.Prelude.{slice_index_or}
use Rattle.std.specs.Vec.Iter.{into_iter_items}
use Rattle.std.proofs.lemmas.List.{get_or_default}
use Rattle.used_files.specs.Paths.{Place, first_use, is_repeated}
use Rattle.lemmas.proofs.Iterated.{IsNext, next_at}
use Rattle.used_files.proofs.Lists.{told_more}
use Rattle.used_files.proofs.used.first_uses.Goals as goal

pub loop-place-preserved : goal.loop-place-preserved
loop-place-preserved c =
    let all = into_iter_items c.into_iter-place-iterator.result in
    let i = c.loop-place.index in
    let place = c.in-Some.place in
    let at : IsNext all i place (into_iter_items c.next.new.self) =
    next_at all (into_iter_items c.loop-place.place-iterator) (into_iter_items c.next.new.self) i
    place c.loop-place.invariant.rest c.in-Some.ensures.steps.0 in
    let inside : i < length all = at.inside in
    let marks = c.in_ok-repeated.repeated.items in
    let whole : c.deref.result.now ≡ all = c.deref.ensures.value
    ∙ sym c.into_iter-place-iterator.ensures.into_iter_gives.0 in
    let long : length marks ≡ length all = sym c.in_ok-repeated.repeated.ok.0
    ∙ c.in_ok-repeated.ensures.len ∙ ap length whole in
    let within : i < length marks = omega arith in
    let P : List Place → Type 0 = λ ps. (k : ℕ) → k < length ps
    → slice_index_or marks k false ≡ is_repeated (map (λ (p : Place). p.path) ps) k in
    let marked : P all = subst P whole c.in_ok-repeated.ensures.marks in
    let mark = c.index-is_repeated.ensures
    ∙ get_or_default marks i c.index-is_repeated.result.now false within ∙ marked i inside in
    record {
      within = omega arith;
      rest = at.rest_is;
      uses =
          told_more (first_use (map (λ (p : Place). p.path) all)) all i place
          c.loop-place.uses.items c.push_use.new.uses.items
          (cond c.index-is_repeated.result.now [] (place ∷ [])) inside at.is
          c.loop-place.invariant.uses
          c.in_ok-push_use.ensures (ap (λ b. cond b [] (place ∷ [])) mark);
    }
