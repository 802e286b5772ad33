-- A class is entered: it makes a run of its own behind the others.
use Rattle.std.proofs.Common.{◌≡◌, ◌≢◌, ap, sym, subst, ◌∙◌, ℕ, ◌+◌, ◌≤◌}
use Rattle.std.proofs.Common.{◌<◌, ◌⊎◌, List, length, get_or, arith, inl, inr, ⊎_elim, Option}
use Rattle.std.proofs.Common.{Some, None}
use Rattle.std.proofs.lemmas.Bool.{cases_eq, cases_lt}
use Rattle.reachability.specs.Reached.{targets}
use Rattle.supertypes.specs.Ways.{Reaches}
use Rattle.supertypes.specs.Rings.{IsAtMost, IsLeastRing}
use Rattle.supertypes.specs.declared.rings.Standing.TheVariants.{New, Open, Done}
use Rattle.supertypes.specs.Going.{Picture, IsWithin, IsEdge, Leads}
use Rattle.supertypes.specs.Going.{IsGoing}
use Rattle.supertypes.proofs.Ways.{stays, from_as, to_as}
use Rattle.supertypes.proofs.Runs.{open_same, not_new, not_done, new_done}

-- one class and one run more
pub record IsEntered (P N : Picture) (class : ℕ) : Type 0 where
  pub size : N.size ≡ P.size + 1
  pub way_old : (place : ℕ) → place < P.size → N.on_way place ≡ P.on_way place
  pub way_new : N.on_way P.size ≡ class
  pub count : N.count ≡ P.count + 1
  pub start_old : (run : ℕ) → run < P.count → N.start run ≡ P.start run
  pub start_new : N.start P.count ≡ P.size
  pub ring_old : (run : ℕ) → run < P.count → N.ring run ≡ P.ring run
  pub ring_new : N.ring P.count ≡ None
  pub standing_old : (other : ℕ) → other ≢ class → N.standing other ≡ P.standing other
  pub standing_new : N.standing class ≡ Open P.size
  pub label : (other : ℕ) → N.label other ≡ P.label other

none_some : (x : ℕ) → None ≡ Some x → ⊥
none_some x e = cc

module _ (graph : List (List ℕ)) (P : Picture) (gone : ℕ → ℕ → Type 0) (s : IsGoing graph P gone)
    (N : Picture) (class : ℕ) (less : ℕ → ℕ → Type 0)
    (is_new : P.standing class ≡ New) (led : (place : ℕ) → place < P.size →
    Reaches graph (P.on_way place) class)
    (n : IsEntered P N class) (sub : (place edge : ℕ) → place < N.size → less place edge →
    (place < P.size) × gone place edge) where
  apart : (place : ℕ) → place < P.size → P.on_way place ≢ class
  apart place few e = not_new place (sym is_new ∙ ap P.standing (sym e) ∙ s.stands place few)

  by_size : (place : ℕ) → place < N.size → (place < P.size) ⊎ (place ≡ P.size)
  by_size place few = let z = n.size in
      ⊎_elim (λ (l : place < P.size). inl l)
      (λ (g : P.size ≤ place). inr (let e : place ≡ P.size = omega (arith, g, few, z) in e))
      (cases_lt place P.size)

  by_count : (run : ℕ) → run < N.count → (run < P.count) ⊎ (run ≡ P.count)
  by_count run few = let z = n.count in
      ⊎_elim (λ (l : run < P.count). inl l)
      (λ (g : P.count ≤ run). inr (let e : run ≡ P.count = omega (arith, g, few, z) in e))
      (cases_lt run P.count)

  same : (a b c d : ℕ) → a ≡ c → b ≡ d → Reaches graph a b → Reaches graph c d
  same a b c d p q way = to_as graph c b d q (from_as graph a c b p way)

  start_size : (run : ℕ) → run ≡ P.count → N.start run ≡ P.size
  start_size run e = ap N.start e ∙ n.start_new

  way_class : (place : ℕ) → place ≡ P.size → N.on_way place ≡ class
  way_class place e = ap N.on_way e ∙ n.way_new

  done_old : (other : ℕ) → N.standing other ≡ Done → P.standing other ≡ Done
  done_old other e = ⊎_elim
      (λ (here : other ≡ class).
      absurd (not_done P.size (sym e ∙ ap N.standing here ∙ n.standing_new)))
      (λ (differs : other ≢ class). sym (n.standing_old other differs) ∙ e)
      (cases_eq other class)

  done_new : (other : ℕ) → P.standing other ≡ Done → N.standing other ≡ Done
  done_new other e =
      n.standing_old other (λ here. new_done (sym is_new ∙ ap P.standing (sym here) ∙ e)) ∙ e

  open_new : (other place : ℕ) → P.standing other ≡ Open place → N.standing other ≡ Open place
  open_new other place e =
      n.standing_old other (λ here. not_new place (sym is_new ∙ ap P.standing (sym here) ∙ e)) ∙ e

  was_within : (run place : ℕ) → run < P.count → IsWithin N run place → IsWithin P run place
  was_within run place few within =
      let from = within.from in
      let start = n.start_old run few in
      let count = n.count in
      let small : place < P.size = ⊎_elim
      (λ (inner : run + 1 < P.count).
      let to : place < N.start (run + 1) = within.to (omega (arith, inner, count)) in
      let next = n.start_old (run + 1) inner in
      let begin = s.starts (run + 1) inner in
      omega (arith, to, next, begin))
      (λ (outer : P.count ≤ run + 1).
      let e : run + 1 ≡ P.count = omega (arith, outer, few) in
      let to : place < N.start (run + 1) = within.to (omega (arith, few, count)) in
      let next = start_size (run + 1) e in
      omega (arith, to, next))
      (cases_lt (run + 1) P.count) in
      record {
        from = omega (arith, from, start);
        in_size = small;
        to = λ inner.
            let to : place < N.start (run + 1) = within.to (omega (arith, inner, count)) in
            let next = n.start_old (run + 1) inner in
            omega (arith, to, next);
      }

  start_at : (run : ℕ) → run < P.count → N.on_way (N.start run) ≡ P.on_way (P.start run)
  start_at run few = ap N.on_way (n.start_old run few) ∙ n.way_old (P.start run) (s.starts run few)

  alone : (run place : ℕ) → run ≡ P.count → IsWithin N run place → place ≡ N.start run
  alone run place e within =
      let from = within.from in let small = within.in_size in let start = start_size run e in
      let size = n.size in
      omega (arith, from, small, start, size)

  edge_old : (place edge target : ℕ) → place < P.size → IsEdge graph N place edge target →
      IsEdge graph P place edge target
  edge_old place edge target few e =
      subst (λ (k : ℕ). (edge < length (targets graph k))
      × (get_or (targets graph k) edge target ≡ target)) (n.way_old place few) e

  leads_new : (run target : ℕ) → run < P.count → Leads graph P run target →
      Leads graph N run target
  leads_new run target few = ⊎_elim
      (λ behind. let u = behind.1.2 in let count = n.count in
      inl (
        done_new target behind.0,
        (
          behind.1.0,
          behind.1.1,
          omega (arith, u, count),
          (λ x way self. subst (λ (o : Option ℕ). IsAtMost o x)
              (sym (n.ring_old behind.1.0 behind.1.2)) (behind.1.3 x way self)),
        ),
      ))
      (λ onward. let start = n.start_old run few in let le = onward.2 in
      inr (onward.0, open_new target onward.0 onward.1, omega (arith, start, le)))

  pub enter : IsGoing graph N less
  enter = record {
    stands = λ place few. ⊎_elim
        (λ (l : place < P.size). ap N.standing (n.way_old place l)
        ∙ n.standing_old (P.on_way place) (apart place l) ∙ s.stands place l)
        (λ (e : place ≡ P.size). ap N.standing (way_class place e) ∙ n.standing_new
        ∙ ap Open (sym e))
        (by_size place few);
    is_at = λ other place is. ⊎_elim
        (λ (here : other ≡ class).
        let e : P.size ≡ place =
        open_same P.size place (sym n.standing_new ∙ ap N.standing (sym here) ∙ is) in
        let z = n.size in
        (omega (arith, e, z), way_class place (sym e) ∙ sym here))
        (λ (differs : other ≢ class).
        let at = s.is_at other place (sym (n.standing_old other differs) ∙ is) in
        let l = at.0 in
        let z = n.size in
        (omega (arith, l, z), n.way_old place at.0 ∙ at.1))
        (cases_eq other class);
    forward = λ lower upper le few. ⊎_elim
        (λ (l : upper < P.size).
        let ll : lower < P.size = omega (arith, le, l) in
        same (P.on_way lower) (P.on_way upper) (N.on_way lower) (N.on_way upper)
        (sym (n.way_old lower ll)) (sym (n.way_old upper l)) (s.forward lower upper le l))
        (λ (e : upper ≡ P.size). ⊎_elim
        (λ (l : lower < P.size). same (P.on_way lower) class (N.on_way lower) (N.on_way upper)
        (sym (n.way_old lower l)) (sym (way_class upper e)) (led lower l))
        (λ (g : P.size ≤ lower).
        let k : lower ≡ upper = omega (arith, g, le, e) in
        to_as graph (N.on_way lower) (N.on_way lower) (N.on_way upper) (ap N.on_way k)
        (stays graph (N.on_way lower)))
        (cases_lt lower P.size))
        (by_size upper few);
    back = λ run place few within. ⊎_elim
        (λ (l : run < P.count).
        let was = was_within run place l within in
        same (P.on_way place) (P.on_way (P.start run)) (N.on_way place) (N.on_way (N.start run))
        (sym (n.way_old place was.in_size)) (sym (start_at run l)) (s.back run place l was))
        (λ (e : run ≡ P.count). to_as graph (N.on_way place) (N.on_way place)
        (N.on_way (N.start run)) (ap N.on_way (alone run place e within))
        (stays graph (N.on_way place)))
        (by_count run few);
    starts = λ run few. let z = n.size in ⊎_elim
        (λ (l : run < P.count). let start = n.start_old run l in let begin = s.starts run l in
        omega (arith, start, begin, z))
        (λ (e : run ≡ P.count). let start = start_size run e in omega (arith, start, z))
        (by_count run few);
    rises = λ lower upper le few. ⊎_elim
        (λ (l : upper < P.count).
        let ll : lower < P.count = omega (arith, le, l) in
        let a = n.start_old lower ll in let b = n.start_old upper l in
        let r = s.rises lower upper le l in
        omega (arith, a, b, r))
        (λ (e : upper ≡ P.count).
        let ll : lower < P.count = omega (arith, le, e) in
        let a = n.start_old lower ll in let b = start_size upper e in let r = s.starts lower ll in
        omega (arith, a, b, r))
        (by_count upper few);
    first = λ some. let count = n.count in (
      omega (arith, count),
      ⊎_elim
          (λ (nothing : P.count ≡ 0).
          let start = start_size 0 (sym nothing) in
          let none : P.size ≡ 0 = ⊎_elim
          (λ (l : 0 < P.size). let f = (s.first l).0 in absurd (omega (arith, f, nothing)))
          (λ (g : P.size ≤ 0). omega (arith, g))
          (cases_lt 0 P.size) in
          omega (arith, start, none))
          (λ (more : P.count ≢ 0).
          let l : 0 < P.count = omega (arith, more) in
          let begin = s.starts 0 l in
          let l2 : 0 < P.size = omega (arith, begin) in
          n.start_old 0 l ∙ (s.first l2).1)
          (cases_eq P.count 0),
    );
    leads = λ run place edge target few from small g e.
        let old = sub place edge small g in
        ⊎_elim
        (λ (l : run < P.count).
        let start = n.start_old run l in
        leads_new run target l (s.leads run place edge target l (omega (arith, start, from)) old.0
        old.1 (edge_old place edge target old.0 e)))
        (λ (is : run ≡ P.count). let start = start_size run is in let under = old.0 in
        absurd (omega (arith, start, from, under)))
        (by_count run few);
    reached = λ run x few is. ⊎_elim
        (λ (l : run < P.count). from_as graph (P.on_way (P.start run)) (N.on_way (N.start run)) x
        (sym (start_at run l)) (s.reached run x l (sym (n.ring_old run l) ∙ is)))
        (λ (e : run ≡ P.count). absurd (none_some x (sym (ap N.ring e ∙ n.ring_new) ∙ is)))
        (by_count run few);
    itself = λ run x few is. ⊎_elim
        (λ (l : run < P.count). s.itself run x l (sym (n.ring_old run l) ∙ is))
        (λ (e : run ≡ P.count). absurd (none_some x (sym (ap N.ring e ∙ n.ring_new) ∙ is)))
        (by_count run few);
    own = λ run few. ⊎_elim
        (λ (l : run < P.count). ⊎_elim
        (λ owns. inl (λ place within.
        let was = was_within run place l within in
        subst (λ (o : Option ℕ). IsAtMost o (N.on_way place)) (sym (n.ring_old run l))
        (subst (IsAtMost (P.ring run)) (sym (n.way_old place was.in_size)) (owns place was))))
        (λ lone.
        let start = n.start_old run l in
        inr (record {
          one = λ place within. lone.one place (was_within run place l within) ∙ sym start;
          away = λ edge target g e. λ back.
              let z = n.size in
              let begin = s.starts run l in
              let at = sub (N.start run) edge (omega (arith, start, begin, z)) g in
              let old : IsEdge graph P (N.start run) edge target =
              edge_old (N.start run) edge target at.0 e in
              lone.away edge target (subst (λ (k : ℕ). gone k edge) start at.1)
              (subst (λ (k : ℕ). IsEdge graph P k edge target) start old)
              (back ∙ start_at run l);
        }))
        (s.own run l))
        (λ (is : run ≡ P.count).
        let start = start_size run is in
        inr (record {
          one = λ place within. alone run place is within;
          away = λ edge target g e. λ back.
              let z = n.size in
              let at = (sub (N.start run) edge (omega (arith, start, z)) g).0 in
              absurd (omega (arith, at, start));
        }))
        (by_count run few);
    closed =
        λ other target e edge. done_new target (s.closed other target (done_old other e) edge);
    exact = λ other e. subst (IsLeastRing graph other) (sym (n.label other))
        (s.exact other (done_old other e));
  }
