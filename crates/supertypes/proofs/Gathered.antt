-- What is gathered is what lies above.
use Rattle.std.proofs.Common.{◌≡◌, refl, ap, sym, subst, ◌∙◌, ℕ, zero, suc, ◌+◌, ◌≤◌, ◌<◌, List}
use Rattle.std.proofs.Common.{[], ◌∷◌, ◌++◌, length, take, get_or, arith, ⊎_elim}
use Rattle.std.proofs.Common.{length-append}
use Rattle.std.specs.Prelude.{Contains, ◌↔◌}
use Rattle.std.proofs.lemmas.List.{get_or_default, take_more, take_all}
use Rattle.std.proofs.lemmas.List.{take-append-le}
use Rattle.std.proofs.lemmas.List.Elements.{Contains-append_left}
use Rattle.std.proofs.lemmas.List.Elements.{Contains-append_cases}
use Rattle.reachability.specs.Reached.{targets}
use Rattle.supertypes.specs.declared.state.State.{State}
use Rattle.supertypes.specs.State.{IsSteady, IsRested, IsClean, Grew}
use Rattle.supertypes.specs.Ways.{HasWay, IsAboveSome}
use Rattle.supertypes.proofs.Marked.{only, none, in_range}
use Rattle.supertypes.proofs.Ways.{below_on, leads_in}

-- ---- the whole search

pub record Beginning (graph : List (List ℕ)) (classes : List ℕ) (state : State)
    (index : ℕ) : Type 0 where
  pub level : length state.marks.items ≡ length graph
  pub steady : IsRested state
  pub sound : (n : ℕ) → Contains state.found.items n → IsAboveSome graph classes n
  pub begun : (a n : ℕ) → Contains (take index classes) a → Contains (targets graph a) n →
      n < length graph → Contains state.found.items n

pub record Gathering (graph : List (List ℕ)) (classes : List ℕ) (state : State) (at : ℕ)
    : Type 0 where
  pub level : length state.marks.items ≡ length graph
  pub steady : IsRested state
  pub within : at ≤ length state.found.items
  pub sound : (n : ℕ) → Contains state.found.items n → IsAboveSome graph classes n
  pub begun : (a n : ℕ) → Contains classes a → Contains (targets graph a) n → n < length graph →
      Contains state.found.items n
  pub done : (n m : ℕ) → Contains (take at state.found.items) n → Contains (targets graph n) m →
      m < length graph → Contains state.found.items m

rested_on : (old new : State) (xs : List ℕ) → IsRested old → Grew old new xs → IsSteady new →
    IsRested new
rested_on old new xs rested grew steady =
    record { steady = steady; path = grew.path ∙ rested.path }

pub begin : (graph : List (List ℕ)) (classes : List ℕ) (state : State) →
    length graph ≡ length state.marks.items → IsClean state → Beginning graph classes state 0
begin graph classes state level clean = record {
  level = sym level;
  steady = clean.rested;
  sound = λ n here. absurd (none n (subst (λ (f : List ℕ). Contains f n) clean.found here));
  begun = λ a n here to few. absurd (none a here);
}

kept_in : (old new : State) (xs : List ℕ) (n : ℕ) → Grew old new xs → Contains old.found.items n →
    Contains new.found.items n
kept_in old new xs n grew here =
    subst (λ (f : List ℕ). Contains f n) (sym grew.found)
    (Contains-append_left old.found.items grew.more n here)

pub begin_more : (graph : List (List ℕ)) (classes : List ℕ) (old new : State) (index d : ℕ) →
    index < length classes →
    Beginning graph classes old index → Grew old new (targets graph (get_or classes index d)) →
    IsSteady new → Beginning graph classes new (index + 1)
begin_more graph classes old new index d few s grew steady =
    let a : ℕ = get_or classes index d in
    record {
      level = grew.level ∙ s.level;
      steady = rested_on old new (targets graph a) s.steady grew steady;
      sound = λ n here. ⊎_elim
          (λ l. s.sound n l)
          (λ r. (
            a,
            (index, few, get_or_default classes index a d few),
            (n, grew.sound n r, (0, refl)),
          ))
          (Contains-append_cases old.found.items grew.more n
          (subst (λ (f : List ℕ). Contains f n) grew.found here));
      begun = λ b n here to small. ⊎_elim
          (λ l. kept_in old new (targets graph a) n grew (s.begun b n l to small))
          (λ r. grew.each n (subst (λ (k : ℕ). Contains (targets graph k) n) (sym (only a b r)) to)
          (let e = s.level in omega (arith, small, e)))
          (Contains-append_cases (take index classes) (a ∷ []) b
          (subst (λ (f : List ℕ). Contains f b) (take_more classes index d few) here));
    }

pub gathering : (graph : List (List ℕ)) (classes : List ℕ) (state : State) (index : ℕ) →
    length classes ≤ index → Beginning graph classes state index → Gathering graph classes state 0
gathering graph classes state index over s = record {
  level = s.level;
  steady = s.steady;
  within = omega arith;
  sound = s.sound;
  begun =
      λ a n here to small. s.begun a n
      (subst (λ (l : List ℕ). Contains l a) (sym (take_all index classes over)) here) to small;
  done = λ n m here to small. absurd (none n here);
}

pub gather_more : (graph : List (List ℕ)) (classes : List ℕ) (old new : State) (at n : ℕ) →
    Gathering graph classes old at → at < length old.found.items →
    n ≡ get_or old.found.items at n → Grew old new (targets graph n) → IsSteady new →
    Gathering graph classes new (at + 1)
gather_more graph classes old new at n s few is grew steady =
    let size = length-append old.found.items grew.more in
    let longer : length new.found.items ≡ length old.found.items + length grew.more =
    ap length grew.found ∙ size in
    let front : take (at + 1) new.found.items ≡ take at old.found.items ++ n ∷ [] =
    ap (take (at + 1)) grew.found ∙ take-append-le (at + 1) old.found.items grew.more
    (omega (arith, few)) ∙ take_more old.found.items at n few
    ∙ ap (λ k. take at old.found.items ++ k ∷ []) (sym is) in
    let above = s.sound n (at, few, sym is) in
    record {
      level = grew.level ∙ s.level;
      steady = rested_on old new (targets graph n) s.steady grew steady;
      within = omega (arith, few, longer);
      sound = λ i here. ⊎_elim
          (λ l. s.sound i l)
          (λ r. (above.0, above.1, below_on graph above.0 n i above.2 (grew.sound i r)))
          (Contains-append_cases old.found.items grew.more i
          (subst (λ (f : List ℕ). Contains f i) grew.found here));
      begun = λ a i here to small. kept_in old new (targets graph n) i grew
          (s.begun a i here to small);
      done = λ i m here to small. ⊎_elim
          (λ l. kept_in old new (targets graph n) m grew (s.done i m l to small))
          (λ r. grew.each m (subst (λ (k : ℕ). Contains (targets graph k) m) (sym (only n i r)) to)
          (let e = s.level in omega (arith, small, e)))
          (Contains-append_cases (take at old.found.items) (n ∷ []) i
          (subst (λ (f : List ℕ). Contains f i) front here));
    }

-- with a class all that it reaches is found
spread : (graph : List (List ℕ)) (found : List ℕ) →
    ((n m : ℕ) → Contains found n → Contains (targets graph n) m → m < length graph →
    Contains found m) →
    (steps a b : ℕ) → HasWay graph steps a b → b < length graph → Contains found a →
    Contains found b
spread graph found closed zero a b way few here = subst (Contains found) way here
spread graph found closed (suc steps) a b way few here =
    let more : way.0 < length graph = first steps way.2 in
    spread graph found closed steps way.0 b way.2 few (closed a way.0 here way.1 more)
  where
    first : (left : ℕ) → HasWay graph left way.0 b → way.0 < length graph
    first zero e = subst (λ (k : ℕ). k < length graph) (sym e) few
    first (suc left) on = leads_in graph way.0 on.0 on.1

pub gathered_all : (graph : List (List ℕ)) (classes : List ℕ) (state : State) (at : ℕ) →
    Gathering graph classes state at → length state.found.items ≤ at →
    (n : ℕ) → Contains state.found.items n ↔ ((n < length graph) × IsAboveSome graph classes n)
gathered_all graph classes state at s over n =
    let whole : take at state.found.items ≡ state.found.items =
    take_all at state.found.items over in
    let level = s.level in
    let closed : (i m : ℕ) → Contains state.found.items i → Contains (targets graph i) m →
    m < length graph → Contains state.found.items m =
    λ i m here to small. s.done i m (subst (λ (l : List ℕ). Contains l i) (sym whole) here) to
    small in
    let begun : (above : IsAboveSome graph classes n) → (steps : ℕ) →
    HasWay graph steps above.2.0 n → n < length graph → above.2.0 < length graph =
    λ above steps. elim steps as (λ s. HasWay graph s above.2.0 n → n < length graph →
    above.2.0 < length graph) [
      | zero ↦ (λ e few. subst (λ (k : ℕ). k < length graph) (sym e) few)
      | suc left ↦ (λ on few. leads_in graph above.2.0 on.0 on.1)
    ] in (
      (λ here. (
        let r = in_range state.marks.items n (s.steady.steady.listed n here) in
            omega (arith, r, level),
        s.sound n here,
      )),
      (λ both. spread graph state.found.items closed both.1.2.2.0 both.1.2.0 n both.1.2.2.1 both.0
          (s.begun both.1.0 both.1.2.0 both.1.1 both.1.2.1
          (begun both.1 both.1.2.2.0 both.1.2.2.1 both.0))),
    )

pub class_in_range : (graph : List (List ℕ)) (classes : List ℕ) (state : State) (at n : ℕ) →
    Gathering graph classes state at → at < length state.found.items →
    n ≡ get_or state.found.items at n → n < length graph
class_in_range graph classes state at n s few is =
    let range = in_range state.marks.items n (s.steady.steady.listed n (at, few, sym is)) in
    let e = s.level in omega (arith, range, e)
