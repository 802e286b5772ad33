use Rattle.std.proofs.Common.{◌≡◌, ◌≤◌, ◌∙◌, ap, sym, subst, refl, ℕ, true, false, Option}
use Rattle.std.proofs.Common.{length, get_or, arith}
use Rattle.std.specs.Prelude.{IfSome}
use Rattle.std.proofs.lemmas.List.{length-set}
use Rattle.std.proofs.lemmas.Bool.{not-true, not-false}
use Rattle.reachability.specs.Search.{unmarked}
use Rattle.supertypes.specs.Walking.{IsSeeking, IsOnward}
use Rattle.supertypes.proofs.Marked.{one_less}
use Rattle.supertypes.proofs.Walked.{begins, nowhere, found, entered, old_past, clean_unmarked}
use Rattle.supertypes.proofs.state.State.first.Goals as goal
use Rattle.supertypes.proofs.state.State.first.Goals.{then-is_new, else-is_new}

pub loop-next-init : goal.loop-next-init
loop-next-init g c =
    let empty = ap length c.requires.clean.rested.path in
    record {
      steady = c.requires.clean.rested.steady;
      level = refl;
      short = omega (arith, empty);
      fresh = elim c.if-is_new.branch [
        | then-is_new w ↦ subst (λ (o : Option ℕ). IfSome o
            (λ class. get_or c.args.self.now.marks.items class true ≡ false)) (sym w.next-is)
            (not-true (get_or c.args.self.now.marks.items c.args.start true)
            (sym c.is_new.ensures ∙ w.if-is_new.true))
        | else-is_new w ↦ subst (λ (o : Option ℕ). IfSome o
            (λ class. get_or c.args.self.now.marks.items class true ≡ false)) (sym w.next-is) tt
      ];
      seeks = λ walk test is_walk means. elim c.if-is_new.branch [
        | then-is_new w ↦ subst (IsSeeking c.args.graph.now c.args.start walk test c.args.self.now)
            (sym w.next-is)
            (begins c.args.graph.now c.args.start walk test is_walk c.args.self.now
            (clean_unmarked c.args.self.now c.requires.clean) c.requires.clean.rested.path)
        | else-is_new w ↦ subst (IsSeeking c.args.graph.now c.args.start walk test c.args.self.now)
            (sym w.next-is)
            (nowhere c.args.graph.now c.args.start walk test is_walk
            (subst (λ (k : ℕ). k ≤ c.args.start) (sym c.requires.room)
            (old_past c.args.self.now c.args.start
            (clean_unmarked c.args.self.now c.requires.clean)
            (not-false (get_or c.args.self.now.marks.items c.args.start true)
            (sym c.is_new.ensures ∙ w.if-is_new.false)))))
      ];
    }

pub returns-then-is_sought-clause-first : goal.returns-then-is_sought-clause-first
returns-then-is_sought-clause-first g c = λ walk test is_walk means.
    let on : IsOnward c.args.graph.now c.args.start walk test c.loop-next.self c.in-Some.class =
    subst (IsSeeking c.args.graph.now c.args.start walk test c.loop-next.self) c.in-Some.is
    (c.loop-next.invariant.seeks walk test is_walk means) in
    let fresh : get_or c.loop-next.self.marks.items c.in-Some.class true ≡ false =
    subst (λ (o : Option ℕ). IfSome o (λ class. get_or c.loop-next.self.marks.items class true
    ≡ false)) c.in-Some.is c.loop-next.invariant.fresh in
    sym (found c.args.graph.now c.args.start walk test is_walk c.loop-next.self c.in-Some.class on
    fresh (c.loop-next.invariant.level ∙ sym c.requires.room)
    (sym (means c.in-Some.class c.is_sought.result c.is_sought.ensures) ∙ c.if-is_sought.true))

pub loop-next-smaller : goal.loop-next-smaller
loop-next-smaller g c =
    let fresh : get_or c.loop-next.self.marks.items c.in-Some.class true ≡ false =
    subst (λ (o : Option ℕ). IfSome o (λ class. get_or c.loop-next.self.marks.items class true
    ≡ false)) c.in-Some.is c.loop-next.invariant.fresh in
    let less = one_less c.loop-next.self.marks.items c.in-Some.class fresh in
    let marks = ap unmarked (c.onward-next.ensures.marks ∙ c.enter.ensures.marks) in
    omega (arith, less, marks)

pub loop-next-preserved : goal.loop-next-preserved
loop-next-preserved g c =
    let fresh : get_or c.loop-next.self.marks.items c.in-Some.class true ≡ false =
    subst (λ (o : Option ℕ). IfSome o (λ class. get_or c.loop-next.self.marks.items class true
    ≡ false)) c.in-Some.is c.loop-next.invariant.fresh in
    let path = c.onward-next.ensures.path in
    let short = c.enter.ensures.short in
    let same = ap length c.onward-next.ensures.found in
    record {
      steady = c.onward-next.ensures.steady;
      level = ap length (c.onward-next.ensures.marks ∙ c.enter.ensures.marks)
          ∙ length-set c.loop-next.self.marks.items c.in-Some.class true
          ∙ c.loop-next.invariant.level;
      short = omega (arith, path, short, same);
      fresh = c.onward-next.ensures.fresh;
      seeks = λ walk test is_walk means.
          let on : IsOnward c.args.graph.now c.args.start walk test c.loop-next.self
          c.in-Some.class =
          subst (IsSeeking c.args.graph.now c.args.start walk test c.loop-next.self) c.in-Some.is
          (c.loop-next.invariant.seeks walk test is_walk means) in
          c.onward-next.ensures.seeks c.args.start walk test is_walk
          (entered c.args.graph.now c.args.start walk test is_walk c.loop-next.self c.in-Some.class
          on fresh (c.loop-next.invariant.level ∙ sym c.requires.room)
          c.enter.new.self (sym (means c.in-Some.class c.is_sought.result c.is_sought.ensures)
          ∙ c.if-is_sought.false) c.enter.ensures.marks c.enter.ensures.path);
    }

pub returns-clause-first : goal.returns-clause-first
returns-clause-first g c = λ walk test is_walk means.
    sym (subst (IsSeeking c.args.graph.now c.args.start walk test c.loop-next.self) c.in_default.is
    (c.loop-next.invariant.seeks walk test is_walk means))
