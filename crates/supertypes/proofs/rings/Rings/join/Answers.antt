use Rattle.std.proofs.Common.{◌≡◌, ◌<◌, ◌≤◌, ◌∙◌, ap, subst, refl, ℕ, length, arith, Some}
use Rattle.supertypes.specs.declared.rings.Standing.TheVariants.{Open}
use Rattle.supertypes.specs.Going.{HasRuns, folded, last_start_of, standing_in}
use Rattle.supertypes.specs.Going.{fresh}
use Rattle.supertypes.proofs.Shown.{two_runs, start_few, joined_last, joined_length, closed_ring}
use Rattle.supertypes.proofs.Work.{work_folded, next_as}
use Rattle.supertypes.proofs.rings.Rings.join.Goals as goal

pub loop-self-init : goal.loop-self-init
loop-self-init c = record {
  along = c.requires.along;
  standings = refl;
  on_way = refl;
  path = refl;
  runs = omega arith;
}

pub join_last-requires-clause-some : goal.join_last-requires-clause-some
join_last-requires-clause-some c =
    let next = next_as c.args.graph.now c.args.self.now c.loop-self.self c.args.edge c.args.target
    c.loop-self.invariant.on_way c.requires.leads in
    let back : standing_in c.loop-self.self.standings.items c.args.target ≡ Open c.args.place =
    ap (λ l. standing_in l c.args.target) c.loop-self.invariant.standings ∙ c.requires.back in
    let start = c.last_start.ensures in
    two_runs c.args.graph.now c.loop-self.self c.args.edge c.loop-self.invariant.along
    c.args.target next c.args.place back (omega (arith, start, c.loop-self-test.true))

pub join_last-requires-clause-in_way : goal.join_last-requires-clause-in_way
join_last-requires-clause-in_way c =
    start_few c.args.graph.now c.loop-self.self c.args.edge c.loop-self.invariant.along

pub loop-self-preserved : goal.loop-self-preserved
loop-self-preserved c =
    let next = next_as c.args.graph.now c.args.self.now c.loop-self.self c.args.edge c.args.target
    c.loop-self.invariant.on_way c.requires.leads in
    let back : standing_in c.loop-self.self.standings.items c.args.target ≡ Open c.args.place =
    ap (λ l. standing_in l c.args.target) c.loop-self.invariant.standings ∙ c.requires.back in
    let start = c.last_start.ensures in
    let outside : c.args.place < last_start_of c.loop-self.self.runs.items =
    omega (arith, start, c.loop-self-test.true) in
    let two = two_runs c.args.graph.now c.loop-self.self c.args.edge c.loop-self.invariant.along
    c.args.target next c.args.place back outside in
    let less = joined_length c.loop-self.self c.join_last.new.self two c.join_last.ensures in
    let runs = c.loop-self.invariant.runs in
    record {
      along = joined_last c.args.graph.now c.loop-self.self c.args.edge c.loop-self.invariant.along
          c.args.target next c.args.place back outside c.join_last.new.self c.join_last.ensures;
      standings = c.join_last.ensures.standings ∙ c.loop-self.invariant.standings;
      on_way = c.join_last.ensures.on_way ∙ c.loop-self.invariant.on_way;
      path = c.join_last.ensures.path ∙ c.loop-self.invariant.path;
      runs = omega (arith, less, runs);
    }

pub loop-self-smaller : goal.loop-self-smaller
loop-self-smaller c =
    let next = next_as c.args.graph.now c.args.self.now c.loop-self.self c.args.edge c.args.target
    c.loop-self.invariant.on_way c.requires.leads in
    let back : standing_in c.loop-self.self.standings.items c.args.target ≡ Open c.args.place =
    ap (λ l. standing_in l c.args.target) c.loop-self.invariant.standings ∙ c.requires.back in
    let start = c.last_start.ensures in
    let outside : c.args.place < last_start_of c.loop-self.self.runs.items =
    omega (arith, start, c.loop-self-test.true) in
    let two = two_runs c.args.graph.now c.loop-self.self c.args.edge c.loop-self.invariant.along
    c.args.target next c.args.place back outside in
    let less = joined_length c.loop-self.self c.join_last.new.self two c.join_last.ensures in
    omega (arith, less, two)

pub last_first-first-requires-clause-in_way : goal.last_first-first-requires-clause-in_way
last_first-first-requires-clause-in_way c =
    let some = c.loop-self.invariant.along.some in
    start_few c.args.graph.now c.loop-self.self c.args.edge c.loop-self.invariant.along _
    (omega (arith, some))

pub returns-clause-along : goal.returns-clause-along
returns-clause-along c =
    let next = next_as c.args.graph.now c.args.self.now c.loop-self.self c.args.edge c.args.target
    c.loop-self.invariant.on_way c.requires.leads in
    let back : standing_in c.loop-self.self.standings.items c.args.target ≡ Open c.args.place =
    ap (λ l. standing_in l c.args.target) c.loop-self.invariant.standings ∙ c.requires.back in
    let start = c.last_start.ensures in
    let inside : last_start_of c.loop-self.self.runs.items ≤ c.args.place =
    omega (arith, start, c.loop-self-test.false) in
    closed_ring c.args.graph.now c.loop-self.self c.args.edge c.loop-self.invariant.along
    c.args.target next c.args.place back c.fold.new.self inside
    (subst (λ (k : ℕ). HasRuns c.loop-self.self c.fold.new.self
    (folded c.loop-self.self.runs.items (Some k))) c.last_first-first.ensures c.fold.ensures)

pub returns-clause-work : goal.returns-clause-work
returns-clause-work c =
    let less = work_folded c.loop-self.self c.fold.new.self (Some c.last_first-first.result)
    c.fold.ensures in
    let news = ap fresh c.loop-self.invariant.standings in
    let path = ap length c.loop-self.invariant.path in
    let runs = c.loop-self.invariant.runs in
    omega (arith, less, news, path, runs)
