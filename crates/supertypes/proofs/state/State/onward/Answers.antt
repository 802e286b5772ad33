use Rattle.std.proofs.Common.{◌≡◌, ◌∙◌, ap, sym, subst, refl, ℕ, List, ◌++◌, ◌∷◌, [], length}
use Rattle.std.proofs.Common.{get_or, arith, None}
use Rattle.std.specs.List.{find}
use Rattle.supertypes.specs.declared.state.State.{State}
use Rattle.supertypes.specs.declared.state.Step.{Step}
use Rattle.supertypes.specs.Walking.{IsPath, IsNextNew, IsOnward, AreOld, ahead}
use Rattle.supertypes.proofs.Walked.{goes_on, left_path, left_ahead}
use Rattle.supertypes.proofs.state.State.onward.Goals as goal

pub returns-in-Some-next_new-clause-seeks : goal.returns-in-Some-next_new-clause-seeks
returns-in-Some-next_new-clause-seeks c = λ start walk test is_walk begun.
    let walking = c.loop-step.invariant.walks start walk test is_walk begun in
    let later : State = record {
      marks = c.loop-step.self.marks;
      found = c.loop-step.self.found;
      path = c.push_reserved.new.self;
    } in
    let is_next : IsNextNew c.loop-step.self.marks.items c.row_of-row.result.now
    c.in-Some.step.next c.in-Some-next_new.at = c.in-Some-next_new.ensures.some in
    let level : length c.loop-step.self.marks.items ≡ length c.args.graph.now =
    ap length c.loop-step.invariant.marks ∙ c.requires.level in
    subst (λ (r : List ℕ). IsOnward c.args.graph.now start walk test later
    (get_or r c.in-Some-next_new.at 0)) (sym c.row_of-row.ensures)
    (goes_on c.args.graph.now start walk test is_walk c.loop-step.self.marks.items
    c.pop.new.self.items c.in-Some.step level
    (subst (λ (l : List Step). IsPath c.args.graph.now start walk test c.loop-step.self.marks.items
    l None) c.in-Some.ensures.items walking.path)
    c.in-Some-next_new.at
    (subst (λ (r : List ℕ). IsNextNew c.loop-step.self.marks.items r c.in-Some.step.next
    c.in-Some-next_new.at) c.row_of-row.ensures is_next)
    later refl c.push_reserved.ensures.items
    (walking.left ∙ ap (λ l. find test (ahead c.args.graph.now walk l)) c.in-Some.ensures.items))

pub loop-step-preserved : goal.loop-step-preserved
loop-step-preserved c =
    let old : AreOld c.loop-step.self.marks.items c.row_of-row.result.now c.in-Some.step.next
    (length c.row_of-row.result.now) = c.in_default-next_new.ensures.none in
    let level : length c.loop-step.self.marks.items ≡ length c.args.graph.now =
    ap length c.loop-step.invariant.marks ∙ c.requires.level in
    let shorter = c.pop.new.self.ok.0 in
    let longer = c.loop-step.self.path.ok.0 in
    let len = c.in-Some.ensures.len in
    let path = c.loop-step.invariant.path in
    record {
      marks = c.loop-step.invariant.marks;
      found = c.loop-step.invariant.found;
      found_room = c.loop-step.invariant.found_room;
      path_room = c.pop.ensures.capacity ∙ c.loop-step.invariant.path_room;
      path = omega (arith, shorter, longer, len, path);
      walks = λ start walk test is_walk begun.
          let walking = c.loop-step.invariant.walks start walk test is_walk begun in
          let p : IsPath c.args.graph.now start walk test c.loop-step.self.marks.items
          (c.pop.new.self.items ++ c.in-Some.step ∷ []) None =
          subst (λ (l : List Step). IsPath c.args.graph.now start walk test
          c.loop-step.self.marks.items l None) c.in-Some.ensures.items walking.path in
          let all =
          subst (λ (r : List ℕ). AreOld c.loop-step.self.marks.items r c.in-Some.step.next
          (length r)) c.row_of-row.ensures old in
          record {
            path = left_path c.args.graph.now start walk test is_walk c.loop-step.self.marks.items
                c.pop.new.self.items c.in-Some.step level p all;
            left = walking.left ∙ ap (λ l. find test (ahead c.args.graph.now walk l))
                c.in-Some.ensures.items ∙ left_ahead c.args.graph.now start walk test is_walk
                c.loop-step.self.marks.items c.pop.new.self.items c.in-Some.step level p all;
          };
    }
