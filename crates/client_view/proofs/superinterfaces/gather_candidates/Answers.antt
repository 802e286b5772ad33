use Rattle.std.proofs.Common.{◌≡◌, ◌∙◌, ap, sym, subst, ℕ, List, Bool, arith, take, length}
use Rattle.std.specs.Prelude.{Contains, filter}
use Rattle.std.proofs.lemmas.List.{length-take-le, length-map, take_all}
use Rattle.supertypes.specs.Found.{Found}
use Rattle.class_views.specs.Resolution.{interface_method_in}
use Rattle.class_views.specs.View.{view_of_desc}
use Rattle.client_view.specs.Members.{declares}
use Rattle.client_view.specs.Sought.{meant}
use Rattle.client_view.specs.Numbers.{views}
use Rattle.client_view.proofs.Filtered.{in_filtered, filtered_in, filtered_short, filtered_more}
use Rattle.client_view.proofs.Filtered.{above_one, one_above, declares_small}
use Rattle.client_view.proofs.superinterfaces.gather_candidates.Goals as goal

pub keep_given-requires-clause-room : goal.keep_given-requires-clause-room
keep_given-requires-clause-room c =
    let test : ℕ → Bool =
    declares (views c.args.classes.now)
    (interface_method_in (meant c.args.sought.now)) in
    let i : ℕ = c.loop-class.class-index in
    let above = c.gathered-above.result.now in
    let few = c.loop-class-test.true in
    let kept = ap length c.loop-class.invariant.kept in
    let short = filtered_short test (take i above) in
    let taken = length-take-le i above (omega (arith, few)) in
    let listed = ap length c.gathered-above.ensures in
    let most = c.gather.ensures.few in
    let room = c.gather.ensures.room in
    let own = ap (λ (f : Found). f.classes) c.requires.room in
    let capacity = c.requires.capacity in
    let same = c.loop-class.invariant.capacity in
    omega (arith, few, kept, short, taken, listed, most, room, own, capacity, same)

pub loop-class-preserved : goal.loop-class-preserved
loop-class-preserved c =
    let test : ℕ → Bool =
    declares (views c.args.classes.now)
    (interface_method_in (meant c.args.sought.now)) in
    record {
      kept = filtered_more test c.gathered-above.result.now c.loop-class.class-index
          _ c.loop-class.candidates.items c.keep_given.new.candidates.items
          c.loop-class-test.true c.loop-class.invariant.kept
          c.keep_given.ensures.items;
      capacity = c.keep_given.ensures.capacity ∙ c.loop-class.invariant.capacity;
    }

pub returns-clause-each : goal.returns-clause-each
returns-clause-each c = λ k.
    let test : ℕ → Bool =
    declares (views c.args.classes.now)
    (interface_method_in (meant c.args.sought.now)) in
    let above = c.gathered-above.result.now in
    let over = c.loop-class-test.false in
    let kept : c.loop-class.candidates.items ≡ filter test above =
    c.loop-class.invariant.kept
    ∙ ap (filter test) (take_all c.loop-class.class-index above (omega (arith, over))) in
    let graph = c.args.graph.now in (
      λ here.
          let parts = in_filtered test above k
          (subst (λ (l : List ℕ). Contains l k) kept here) in
          let found = (c.gather.ensures.gathered k).0
          (subst (λ (l : List ℕ). Contains l k) c.gathered-above.ensures parts.0) in
          (above_one graph c.args.start k found.1, parts.1),
      λ both.
          let small = declares_small (views c.args.classes.now)
          (interface_method_in (meant c.args.sought.now)) k both.1 in
          let long = length-map c.args.classes.now view_of_desc in
          let level = c.requires.level in
          subst (λ (l : List ℕ). Contains l k) (sym kept) (filtered_in test above k
          (subst (λ (l : List ℕ). Contains l k) (sym c.gathered-above.ensures)
          ((c.gather.ensures.gathered k).1 (
            omega (arith, small, long, level),
            one_above graph c.args.start k both.0,
          ))) both.1),
    )
