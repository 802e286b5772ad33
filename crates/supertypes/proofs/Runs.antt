-- Runs of classes that reach each other, and the least rings behind them.
use Rattle.std.proofs.Common.{◌≡◌, ◌≢◌, refl, ap, sym, subst, ◌∙◌, ℕ, zero, suc, ◌+◌, ◌≤◌}
use Rattle.std.proofs.Common.{◌<◌, ◌⊎◌, List, arith, inl}
use Rattle.std.proofs.Common.{inr, ⊎_elim, Option, Some, None, min}
use Rattle.std.specs.Prelude.{Contains}
use Rattle.std.proofs.lemmas.List.{get_or_default}
use Rattle.std.proofs.lemmas.Bool.{cases_eq, cases_lt}
use Rattle.reachability.specs.Reached.{targets}
use Rattle.supertypes.specs.Ways.{HasWay, Reaches, ReachesItself}
use Rattle.supertypes.specs.Rings.{IsAtMost, IsLeastRing}
use Rattle.supertypes.specs.declared.rings.Standing.TheVariants.{New, Open, Done}
use Rattle.supertypes.specs.Going.{Picture, IsWithin, IsEdge, Leads, OwnsAll}
use Rattle.supertypes.specs.Going.{IsLone, IsGoing, lesser}
use Rattle.supertypes.proofs.Ways.{reaches_on, then}

-- ---- numbers that may not be there

pub at_most_first : (a b : Option ℕ) (x : ℕ) → IsAtMost a x → IsAtMost (lesser a b) x
at_most_first None b x h = absurd (let e = h.1 in cc)
at_most_first (Some a) None x h = h
at_most_first (Some a) (Some b) x h =
    (min a b, refl, let e : a ≡ h.0 = cc in let l = h.2 in omega (arith, e, l))

pub at_most_second : (a b : Option ℕ) (x : ℕ) → IsAtMost b x → IsAtMost (lesser a b) x
at_most_second None b x h = h
at_most_second (Some a) None x h = absurd (let e = h.1 in cc)
at_most_second (Some a) (Some b) x h =
    (min a b, refl, let e : b ≡ h.0 = cc in let l = h.2 in omega (arith, e, l))

pub lesser_from : (a b : Option ℕ) (x : ℕ) → lesser a b ≡ Some x → (a ≡ Some x) ⊎ (b ≡ Some x)
lesser_from None b x h = inr h
lesser_from (Some a) None x h = inl h
lesser_from (Some a) (Some b) x h =
    let e : min a b ≡ x = cc in
    ⊎_elim (λ (l : a < b). inl (let s : a ≡ x = omega (arith, e, l) in ap Some s))
    (λ (l : b ≤ a). inr (let s : b ≡ x = omega (arith, e, l) in ap Some s))
    (cases_lt a b)

pub at_most_itself : (a : ℕ) → IsAtMost (Some a) a
at_most_itself a = (a, refl, omega arith)

at_most_as : (a b : Option ℕ) (x : ℕ) → a ≡ b → IsAtMost a x → IsAtMost b x
at_most_as a b x same h = subst (λ (o : Option ℕ). IsAtMost o x) same h

-- ---- standings

pub open_same : (p q : ℕ) → Open p ≡ Open q → p ≡ q
open_same p q e = cc

pub not_new : (p : ℕ) → New ≡ Open p → ⊥
not_new p e = cc

pub not_done : (p : ℕ) → Done ≡ Open p → ⊥
not_done p e = cc

pub new_done : New ≡ Done → ⊥
new_done e = cc

module _ (graph : List (List ℕ)) (P : Picture) (gone : ℕ → ℕ → Type 0) (s : IsGoing graph P gone)
  where
    -- the edge of a number leads to one class
    one_target : (place edge m n : ℕ) → IsEdge graph P place edge m → IsEdge graph P place edge n →
        m ≡ n
    one_target place edge m n a b =
        sym a.1 ∙ get_or_default (targets graph (P.on_way place)) edge m n a.0 ∙ b.1

    pub edge_of : (place edge m : ℕ) → IsEdge graph P place edge m →
        Contains (targets graph (P.on_way place)) m
    edge_of place edge m e = (edge, e.0, e.1)

    in_place : (p q : ℕ) → p < P.size → q < P.size → P.on_way p ≡ P.on_way q → p ≡ q
    in_place p q few small same =
        open_same p q (sym (s.stands p few) ∙ ap P.standing same ∙ s.stands q small)

    -- ---- fewer edges are gone over

    pub regone : (less : ℕ → ℕ → Type 0) →
        ((place edge target : ℕ) → place < P.size → IsEdge graph P place edge target →
        less place edge → gone place edge) → IsGoing graph P less
    regone less sub = record {
      stands = s.stands;
      is_at = s.is_at;
      forward = s.forward;
      back = s.back;
      starts = s.starts;
      rises = s.rises;
      first = s.first;
      leads = λ run place edge target few from small g e. s.leads run place edge target few from
          small (sub place edge target small e g) e;
      reached = s.reached;
      itself = s.itself;
      own = λ run few. ⊎_elim
          (λ all. inl all)
          (λ lone. inr (record {
            one = lone.one;
            away = λ edge target g e. lone.away edge target
                (sub (P.start run) edge target (s.starts run few) e g) e;
          }))
          (s.own run few);
      closed = s.closed;
      exact = s.exact;
    }

    -- ---- one edge more is gone over

    pub advance : (more : ℕ → ℕ → Type 0) (at number target : ℕ) →
        IsEdge graph P at number target →
        ((place edge : ℕ) → place < P.size → more place edge → gone place edge
        ⊎ ((place ≡ at) × (edge ≡ number))) →
        ((run : ℕ) → run < P.count → P.start run ≤ at → Leads graph P run target) →
        ((run : ℕ) → run < P.count → P.start run ≡ at → target ≡ P.on_way at → OwnsAll P run) →
        IsGoing graph P more
    advance more at number target edge_is sub on owns =
        let same : (place edge m : ℕ) → place ≡ at → edge ≡ number → IsEdge graph P place edge m →
        m ≡ target =
        λ place edge m p k e. one_target at number m target
        (subst (λ (x : ℕ). IsEdge graph P at x m) k
        (subst (λ (x : ℕ). IsEdge graph P x edge m) p e)) edge_is in
        record {
          stands = s.stands;
          is_at = s.is_at;
          forward = s.forward;
          back = s.back;
          starts = s.starts;
          rises = s.rises;
          first = s.first;
          leads = λ run place edge m few from small g e. ⊎_elim
              (λ old. s.leads run place edge m few from small old e)
              (λ now. subst (Leads graph P run) (sym (same place edge m now.0 now.1 e))
              (on run few (subst (λ (x : ℕ). P.start run ≤ x) now.0 from)))
              (sub place edge small g);
          reached = s.reached;
          itself = s.itself;
          own = λ run few. ⊎_elim
              (λ all. inl all)
              (λ lone. ⊎_elim
              (λ (here : P.start run ≡ at). ⊎_elim
              (λ (back : target ≡ P.on_way at). inl (owns run few here back))
              (λ (away : target ≢ P.on_way at). inr (record {
                one = lone.one;
                away = λ edge m g e. ⊎_elim
                    (λ old. lone.away edge m old e)
                    (λ now. λ back. away (sym (same (P.start run) edge m now.0 now.1 e) ∙ back
                    ∙ ap P.on_way here))
                    (sub (P.start run) edge (s.starts run few) g);
              }))
              (cases_eq target (P.on_way at)))
              (λ (apart : P.start run ≢ at). inr (record {
                one = lone.one;
                away = λ edge m g e. ⊎_elim
                    (λ old. lone.away edge m old e)
                    (λ now. absurd (apart now.0))
                    (sub (P.start run) edge (s.starts run few) g);
              }))
              (cases_eq (P.start run) at))
              (s.own run few);
          closed = s.closed;
          exact = s.exact;
        }

    -- ---- runs know of more rings

    pub relabel : (ring : ℕ → Option ℕ) →
        ((run x : ℕ) → run < P.count → IsAtMost (P.ring run) x → IsAtMost (ring run) x) →
        ((run x : ℕ) → run < P.count → ring run ≡ Some x → Reaches graph (P.on_way (P.start run)) x
        × ReachesItself graph x) →
        IsGoing graph (record P { ring = ring }) gone
    relabel ring better sound = record {
      stands = s.stands;
      is_at = s.is_at;
      forward = s.forward;
      back =
          λ run place few within. s.back run place few
          (record { from = within.from; in_size = within.in_size; to = within.to });
      starts = s.starts;
      rises = s.rises;
      first = s.first;
      leads = λ run place edge target few from small g e. ⊎_elim
          (λ behind. inl (
            behind.0,
            (
              behind.1.0,
              behind.1.1,
              behind.1.2,
              (λ x way self. better behind.1.0 x behind.1.2 (behind.1.3 x way self)),
            ),
          ))
          (λ onward. inr onward)
          (s.leads run place edge target few from small g e);
      reached = λ run x few is. (sound run x few is).0;
      itself = λ run x few is. (sound run x few is).1;
      own = λ run few. ⊎_elim
          (λ all. inl (λ place within. better run (P.on_way place) few
          (all place (record { from = within.from; in_size = within.in_size; to = within.to }))))
          (λ lone.
          inr (record {
            one = λ place within. lone.one place
                (record { from = within.from; in_size = within.in_size; to = within.to });
            away = lone.away;
          }))
          (s.own run few);
      closed = s.closed;
      exact = s.exact;
    }

    -- ---- what the last run reaches

    module _ (last : ℕ) (is_last : last + 1 ≡ P.count) where
      few_last : last < P.count
      few_last = omega (arith, is_last)

      pub in_last : (place : ℕ) → P.start last ≤ place → place < P.size → IsWithin P last place
      in_last place from small =
          record {
            from = from;
            in_size = small;
            to = λ more. absurd (omega (arith, more, is_last));
          }

      -- each class on the way reaches those of the last run
      pub to_last : (place at : ℕ) → place < P.size → P.start last ≤ at → at < P.size →
          Reaches graph (P.on_way place) (P.on_way at)
      to_last place at small from few = ⊎_elim
          (λ (under : place < P.start last). s.forward place at (omega (arith, under, from)) few)
          (λ (over : P.start last ≤ place). then graph (P.on_way place) (P.on_way (P.start last))
          (P.on_way at)
          (s.back last place few_last (in_last place over small))
          (s.forward (P.start last) at from few))
          (cases_lt place (P.start last))

      -- an edge of the last run leads where all classes on the way lead
      pub to_target : (place at number m : ℕ) → place < P.size → P.start last ≤ at → at < P.size →
          IsEdge graph P at number m → Reaches graph (P.on_way place) m
      to_target place at number m small from few edge =
          let way = to_last place at small from few in
          reaches_on graph way.0 (P.on_way place) (P.on_way at) m way.1 (edge_of at number m edge)

      module _ (all : (place edge m : ℕ) → P.start last ≤ place → place < P.size →
          IsEdge graph P place edge m → gone place edge) where
        done_on : (steps a b : ℕ) → HasWay graph steps a b → P.standing a ≡ Done →
            P.standing b ≡ Done
        done_on zero a b way done = subst (λ (k : ℕ). P.standing k ≡ Done) way done
        done_on (suc steps) a b way done =
            done_on steps way.0 b way.2 (s.closed a way.0 done way.1)

        -- a class that is no ring by itself
        lone_on : IsLone graph P gone last → ReachesItself graph (P.on_way (P.start last)) → ⊥
        lone_on lone self =
            let few : P.start last < P.size = s.starts last few_last in
            let edge : IsEdge graph P (P.start last) self.1.0 self.0 = (self.1.1, self.1.2) in
            let from : P.start last ≤ P.start last = omega arith in
            let g : gone (P.start last) self.1.0 =
            all (P.start last) self.1.0 self.0 from few edge in
            ⊎_elim
            (λ behind. not_done (P.start last)
            (sym (done_on self.2.0 self.0 (P.on_way (P.start last)) self.2.1 behind.0)
            ∙ s.stands (P.start last) few))
            (λ onward.
            let at = s.is_at self.0 onward.0 onward.1 in
            let here : onward.0 ≡ P.start last =
            lone.one onward.0 (in_last onward.0 onward.2 at.0) in
            lone.away self.1.0 self.0 g edge (sym at.1 ∙ ap P.on_way here))
            (s.leads last (P.start last) self.1.0 self.0 few_last from few g edge)

        covers : (steps place x : ℕ) → HasWay graph steps (P.on_way place) x →
            P.start last ≤ place →
            place < P.size → ReachesItself graph x → IsAtMost (P.ring last) x
        covers zero place x way from small self = ⊎_elim
            (λ owns. subst (IsAtMost (P.ring last)) way (owns place (in_last place from small)))
            (λ lone. absurd (lone_on lone
            (subst (ReachesItself graph)
            (sym way ∙ ap P.on_way (lone.one place (in_last place from small))) self)))
            (s.own last few_last)
        covers (suc steps) place x way from small self =
            let edge : IsEdge graph P place way.1.0 way.0 = (way.1.1, way.1.2) in
            ⊎_elim
            (λ behind.
            let above : behind.1.0 ≡ last =
            (let l = behind.1.1 in let u = behind.1.2 in omega (arith, l, u, is_last)) in
            subst (λ (k : ℕ). IsAtMost (P.ring k) x) above (behind.1.3 x (steps, way.2) self))
            (λ onward.
            let at = s.is_at way.0 onward.0 onward.1 in
            covers steps onward.0 x (subst (λ (k : ℕ). HasWay graph steps k x) (sym at.1) way.2)
            onward.2 at.0 self)
            (s.leads last place way.1.0 way.0 few_last from small
            (all place way.1.0 way.0 from small edge) edge)

        pub least_of : (place : ℕ) → P.start last ≤ place → place < P.size →
            IsLeastRing graph (P.on_way place) (P.ring last)
        least_of place from small = record {
          reached = λ x is. then graph (P.on_way place) (P.on_way (P.start last)) x
              (s.back last place few_last (in_last place from small))
              (s.reached last x few_last is);
          itself = λ x is. s.itself last x few_last is;
          least = λ x way self. covers way.0 place x way.1 from small self;
        }
