use Rattle.std.proofs.Common.{◌≡◌, ◌<◌, ◌≤◌, ◌∙◌, refl, ap, ℕ, List, length, get_or, drop, arith}
use Rattle.std.specs.Prelude.{Contains}
use Rattle.supertypes.proofs.Stepped.{settled_first, settled_at, settled_all, in_rest}
use Rattle.supertypes.proofs.rings.Rings.settle.Goals as goal

pub loop-place-init : goal.loop-place-init
loop-place-init c = record {
  from = omega arith;
  settled = settled_first c.args.self.now.standings.items c.args.self.now.labels.items
      c.args.self.now.on_way.items c.args.ring c.args.start;
  on_way = refl;
  path = refl;
  runs = refl;
}

class_few : (xs now : List ℕ) (start place class length_of : ℕ) → start ≤ place →
    place < length xs → now ≡ xs → class ≡ get_or now place class →
    ((n : ℕ) → Contains (drop start xs) n → n < length_of) → class < length_of
class_few xs now start place class length_of from few same is all =
    all class (in_rest xs start place class from few (is ∙ ap (λ l. get_or l place class) same))

pub index_mut-requires : goal.index_mut-requires
index_mut-requires c =
    let long = ap length c.as_slice-place-end.ensures.value in
    let few = class_few c.args.self.now.on_way.items c.loop-place.self.on_way.items c.args.start
    c.loop-place.place c.index.result.now (length c.args.self.now.standings.items)
    c.loop-place.invariant.from (omega (arith, long, c.loop-place-test.true))
    c.loop-place.invariant.on_way c.index.ensures c.requires.few in
    let level = c.loop-place.invariant.settled.level in
    let len = c.loop-place.self.standings.ok.0 in
    omega (arith, few, level, len)

pub index_mut-requires-in-loop-place : goal.index_mut-requires-in-loop-place
index_mut-requires-in-loop-place c =
    let long = ap length c.as_slice-place-end.ensures.value in
    let few = class_few c.args.self.now.on_way.items c.loop-place.self.on_way.items c.args.start
    c.loop-place.place c.index.result.now (length c.args.self.now.standings.items)
    c.loop-place.invariant.from (omega (arith, long, c.loop-place-test.true))
    c.loop-place.invariant.on_way c.index.ensures c.requires.few in
    let level = c.loop-place.invariant.settled.label_level in
    let same = c.requires.level in
    let len = c.loop-place.self.labels.ok.0 in
    omega (arith, few, level, same, len)

pub loop-place-preserved : goal.loop-place-preserved
loop-place-preserved c =
    let long = ap length c.as_slice-place-end.ensures.value in
    let in_way : c.loop-place.place < length c.args.self.now.on_way.items =
    omega (arith, long, c.loop-place-test.true) in
    let from = c.loop-place.invariant.from in
    let few = class_few c.args.self.now.on_way.items c.loop-place.self.on_way.items c.args.start
    c.loop-place.place c.index.result.now (length c.args.self.now.standings.items)
    from in_way c.loop-place.invariant.on_way c.index.ensures c.requires.few in
    let is : c.index.result.now ≡ get_or c.args.self.now.on_way.items c.loop-place.place
    c.index.result.now =
    c.index.ensures ∙ ap (λ l. get_or l c.loop-place.place c.index.result.now)
    c.loop-place.invariant.on_way in
    record {
      from = omega (arith, from);
      settled = settled_at c.args.self.now.standings.items c.loop-place.self.standings.items
          c.args.self.now.labels.items c.loop-place.self.labels.items c.args.self.now.on_way.items
          c.args.ring
          c.args.start c.loop-place.place c.index.result.now from in_way is
          c.loop-place.invariant.settled few c.requires.level;
      on_way = c.loop-place.invariant.on_way;
      path = c.loop-place.invariant.path;
      runs = c.loop-place.invariant.runs;
    }

pub returns-clause-settled : goal.returns-clause-settled
returns-clause-settled c =
    let long = ap length c.as_slice-place-end.ensures.value in
    settled_all c.args.self.now.standings.items c.loop-place.self.standings.items
    c.args.self.now.labels.items c.loop-place.self.labels.items c.args.self.now.on_way.items
    c.args.ring
    c.args.start c.loop-place.place c.requires.start (omega (arith, long, c.loop-place-test.false))
    c.loop-place.invariant.settled
