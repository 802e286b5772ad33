use Rattle.std.proofs.Common.{◌≡◌, ◌<◌, List, length, map, subst, ap, ◌∙◌, arith}
use Rattle.std.specs.Prelude.{Contains}
use Rattle.std.specs.Vec.Iter.{into_iter_items}
use Rattle.std.proofs.lemmas.Result.{err_from_is_err_and}
use Rattle.used_files.specs.Paths.{Place, file_at}
use Rattle.lemmas.proofs.Iterated.{IsNext, next_at}
use Rattle.used_files.proofs.Options.{if_some, from_some, stops_weaker}
use Rattle.file_contents.specs.Found.{IsFound}
use Rattle.file_contents.proofs.Reading.{contains_path, goes_on, ends_here}
use Rattle.file_contents.proofs.found.read_files.Goals as goal

pub returns-in_err-take_file-clause-stops : goal.returns-in_err-take_file-clause-stops
returns-in_err-take_file-clause-stops g c =
    let all = into_iter_items c.into_iter-place-iterator.result in
    let k = c.loop-place.file in
    let place = c.in-Some.place in
    let at : IsNext all k place (into_iter_items c.next.new.self) =
    next_at all (into_iter_items c.loop-place.place-iterator) (into_iter_items c.next.new.self) k
    place c.loop-place.invariant.rest c.in-Some.ensures.steps.0 in
    let whole : all ≡ c.args.used.items = c.into_iter-place-iterator.ensures.into_iter_gives.0 in
    let p = err_from_is_err_and c.from_residual-in_err-take_file.result
    c.from_residual-in_err-take_file.ensures.1 in
    rw (p.1, p.2)
    (stops_weaker c.in_err-take_file.field-0.0 _ _ _ _
    (λ path e. let P : List Place → Type 0 = λ ps. Contains (map (λ p. p.path) ps) path in
    subst P whole (contains_path all k place path at.inside at.is e))
    (λ list none. none) c.in_err-take_file.ensures.stops)

pub returns-then-not-branch-clause-found : goal.returns-then-not-branch-clause-found
returns-then-not-branch-clause-found g c =
    let held = g.F.Files.held in
    let all = into_iter_items c.into_iter-place-iterator.result in
    let k = c.loop-place.file in
    let place = c.in-Some.place in
    let so_far = c.loop-place.invariant in
    let at : IsNext all k place (into_iter_items c.next.new.self) =
    next_at all (into_iter_items c.loop-place.place-iterator) (into_iter_items c.next.new.self) k
    place so_far.rest c.in-Some.ensures.steps.0 in
    let whole : all ≡ c.args.used.items = c.into_iter-place-iterator.ensures.into_iter_gives.0 in
    if_some (held c.args.files.now) _ (λ files e.
    let P : List Place → Type 0 =
    λ ps. IsFound c.args.limits (map (file_at files) ps) c.take_file.new.found in
    subst P whole
    (ends_here c.args.limits files all k place at.inside at.is c.loop-place.found
    c.take_file.new.found so_far.few (from_some (held c.args.files.now) _ files so_far.so_far e)
    c.in_ok-take_file.field-0 c.if-not-branch.true
    (from_some (held c.loop-place.files) _ files c.in_ok-take_file.ensures.takes
    (so_far.held ∙ e))))

pub loop-place-preserved : goal.loop-place-preserved
loop-place-preserved g c =
    let held = g.F.Files.held in
    let all = into_iter_items c.into_iter-place-iterator.result in
    let k = c.loop-place.file in
    let place = c.in-Some.place in
    let so_far = c.loop-place.invariant in
    let at : IsNext all k place (into_iter_items c.next.new.self) =
    next_at all (into_iter_items c.loop-place.place-iterator) (into_iter_items c.next.new.self) k
    place so_far.rest c.in-Some.ensures.steps.0 in
    let inside : k < length all = at.inside in
    record {
      within = omega arith;
      rest = at.rest_is;
      few = c.in_ok-take_file.ensures.few c.if-not-branch.false;
      so_far =
          if_some (held c.args.files.now) _ (λ files e.
          goes_on c.args.limits files all k place at.inside at.is c.loop-place.found
          c.take_file.new.found so_far.few
          (from_some (held c.args.files.now) _ files so_far.so_far e)
          c.in_ok-take_file.field-0 c.if-not-branch.false
          (from_some (held c.loop-place.files) _ files c.in_ok-take_file.ensures.takes
          (so_far.held ∙ e)));
      valid = c.in_ok-take_file.ensures.valid so_far.valid;
      grew = let one = c.in_ok-take_file.ensures.grew in omega (arith, one, so_far.grew);
      faults = c.in_ok-take_file.ensures.faults ∙ so_far.faults;
      held = c.in_ok-take_file.ensures.held ∙ so_far.held;
    }

pub returns-then-not-branch-clause-valid : goal.returns-then-not-branch-clause-valid
returns-then-not-branch-clause-valid g c =
    c.in_ok-take_file.ensures.valid c.loop-place.invariant.valid

pub returns-then-not-branch-clause-few : goal.returns-then-not-branch-clause-few
returns-then-not-branch-clause-few g c =
    let held = g.F.Files.held in
    let all = into_iter_items c.into_iter-place-iterator.result in
    let at : IsNext all c.loop-place.file c.in-Some.place (into_iter_items c.next.new.self) =
    next_at all (into_iter_items c.loop-place.place-iterator) (into_iter_items c.next.new.self)
    c.loop-place.file c.in-Some.place c.loop-place.invariant.rest c.in-Some.ensures.steps.0 in
    let inside : c.loop-place.file < length all = at.inside in
    let whole = ap (λ (ps : List Place). length ps)
    c.into_iter-place-iterator.ensures.into_iter_gives.0 in
    let one = c.in_ok-take_file.ensures.grew in
    omega (arith, inside, whole, one, c.loop-place.invariant.grew)

pub returns-clause-few : goal.returns-clause-few
returns-clause-few g c =
    let whole = ap (λ (ps : List Place). length ps)
    c.into_iter-place-iterator.ensures.into_iter_gives.0 in
    omega (arith, whole, c.loop-place.invariant.within, c.loop-place.invariant.grew)
