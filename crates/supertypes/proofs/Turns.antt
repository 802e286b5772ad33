-- What the search for rings does to its runs: a class is entered, runs are joined, and a run is
-- left.
use Rattle.std.proofs.Common.{◌≡◌, ◌≢◌, refl, ap, sym, subst, ◌∙◌, ℕ, ◌+◌, ◌-◌, ◌≤◌}
use Rattle.std.proofs.Common.{◌<◌, ◌⊎◌, List, length, get_or, arith, inl}
use Rattle.std.proofs.Common.{inr, ⊎_elim, Option, Some}
use Rattle.std.specs.Prelude.{Contains}
use Rattle.std.proofs.lemmas.Bool.{cases_eq, cases_lt}
use Rattle.reachability.specs.Reached.{targets}
use Rattle.supertypes.specs.Ways.{Reaches, IsBelow, ReachesItself}
use Rattle.supertypes.specs.Rings.{IsAtMost, IsLeastRing}
use Rattle.supertypes.specs.declared.rings.Standing.{Standing}
use Rattle.supertypes.specs.declared.rings.Standing.TheVariants.{New, Open, Done}
use Rattle.supertypes.specs.Going.{Picture, IsWithin, IsEdge, IsCovered, Leads, OwnsAll}
use Rattle.supertypes.specs.Going.{IsGoing}
use Rattle.supertypes.proofs.Ways.{stays, then, below_by, from_as, to_as}
use Rattle.supertypes.proofs.Runs.{open_same, not_new, not_done, in_last, to_last}
use Rattle.supertypes.proofs.Runs.{to_target, least_of, edge_of}

-- ---- the last run is left

module _ (graph : List (List ℕ)) (P : Picture) (gone : ℕ → ℕ → Type 0) (s : IsGoing graph P gone)
    (last : ℕ) (is_last : last + 1 ≡ P.count)
    (all : (place edge m : ℕ) → P.start last ≤ place → place < P.size →
    IsEdge graph P place edge m → gone place edge)
    (ring : ℕ → Option ℕ) (standing : ℕ → Standing) (label : ℕ → Option ℕ)
    (done : (place : ℕ) → P.start last ≤ place → place < P.size →
    (standing (P.on_way place) ≡ Done) × (label (P.on_way place) ≡ P.ring last))
    (same : (n : ℕ) → ((place : ℕ) → P.start last ≤ place → place < P.size → P.on_way place ≡ n →
    ⊥) → (standing n ≡ P.standing n) × (label n ≡ P.label n))
    (better : (run x : ℕ) → run < last → IsAtMost (P.ring run) x → IsAtMost (ring run) x)
    (below : (run x : ℕ) → run + 1 ≡ last → IsAtMost (P.ring last) x → IsAtMost (ring run) x)
    (sound : (run x : ℕ) → run < last → ring run ≡ Some x → (P.ring run ≡ Some x)
    ⊎ (P.ring last ≡ Some x)) where
  abbrev pub left : Picture
  left = record {
    size = P.start last;
    on_way = P.on_way;
    count = last;
    start = P.start;
    ring = ring;
    standing = standing;
    label = label;
  }

  few_last : last < P.count
  few_last = omega (arith, is_last)

  abbrev In : ℕ → Type 0
  In n = (place : ℕ) × (P.start last ≤ place) × (place < P.size) × (P.on_way place ≡ n)

  abbrev Out : ℕ → Type 0
  Out n = (place : ℕ) → P.start last ≤ place → place < P.size → P.on_way place ≡ n → ⊥

  out_unless : (n : ℕ) → ((place : ℕ) → P.start last ≤ place → P.standing n ≡ Open place → ⊥) →
      Out n
  out_unless n differs =
      λ place from small is. differs place from (sym (ap P.standing is) ∙ s.stands place small)

  where_is : (n : ℕ) → In n ⊎ Out n
  where_is n = by (P.standing n) refl
    where
      by : (v : Standing) → P.standing n ≡ v → In n ⊎ Out n
      by New e = inr (out_unless n (λ place from o. not_new place (sym e ∙ o)))
      by (Open place) e =
          let at = s.is_at n place e in
          ⊎_elim
          (λ (under : place < P.start last).
          inr (out_unless n (λ other from o. let k : place ≡ other = open_same place other
          (sym e ∙ o) in absurd (omega (arith, under, from, k)))))
          (λ (over : P.start last ≤ place). inl (place, over, at.0, at.1))
          (cases_lt place (P.start last))
      by Done e = inr (out_unless n (λ place from o. not_done place (sym e ∙ o)))

  stays_done : (n : ℕ) → P.standing n ≡ Done → (standing n ≡ Done) × (label n ≡ P.label n)
  stays_done n e =
      let kept = same n (out_unless n (λ place from o. not_done place (sym e ∙ o))) in
      (kept.0 ∙ e, kept.1)

  stays_open : (n place : ℕ) → P.standing n ≡ Open place → place < P.start last →
      standing n ≡ Open place
  stays_open n place e under =
      (same n (out_unless n (λ other from o. let k : place ≡ other = open_same place other
      (sym e ∙ o) in absurd (omega (arith, under, from, k))))).0 ∙ e

  was_open : (n place : ℕ) → standing n ≡ Open place → (P.standing n ≡ Open place)
      × (place < P.start last)
  was_open n place e = ⊎_elim
      (λ (here : In n). absurd (not_done place
      (sym (done here.0 here.1 here.2).0 ∙ ap standing here.3 ∙ e)))
      (λ (out : Out n).
      let before : P.standing n ≡ Open place = sym (same n out).0 ∙ e in
      let at = s.is_at n place before in (
        before,
        ⊎_elim
            (λ (under : place < P.start last). under)
            (λ (over : P.start last ≤ place). absurd (out place over at.0 at.1))
            (cases_lt place (P.start last)),
      ))
      (where_is n)

  was_within : (run place : ℕ) → run < last → IsWithin left run place → IsWithin P run place
  was_within run place few within =
      let small = within.in_size in
      let start = s.starts last few_last in
      record {
        from = within.from;
        in_size = omega (arith, small, start);
        to = λ more. ⊎_elim
            (λ (inner : run + 1 < last). within.to inner)
            (λ (outer : last ≤ run + 1). let e : last ≡ run + 1 = omega (arith, outer, few) in
            subst (λ (k : ℕ). place < P.start k) e small)
            (cases_lt (run + 1) last);
      }

  covered : (n : ℕ) → IsCovered graph P last n → (run : ℕ) → run < last →
      IsCovered graph left run n
  covered n behind run few =
      let above : behind.0 ≡ last =
      (let l = behind.1 in let u = behind.2 in omega (arith, l, u, is_last)) in
      let under : (last - 1) + 1 ≡ last = omega (arith, few) in (
        last - 1,
        omega (arith, few),
        omega (arith, few),
        (λ x way self. below (last - 1) x under
            (subst (λ (k : ℕ). IsAtMost (P.ring k) x) above (behind.3 x way self))),
      )

  in_covered : (place : ℕ) → P.start last ≤ place → place < P.size → (run : ℕ) → run < last →
      IsCovered graph left run (P.on_way place)
  in_covered place from small run few =
      let under : (last - 1) + 1 ≡ last = omega (arith, few) in (
        last - 1,
        omega (arith, few),
        omega (arith, few),
        (λ x way self. below (last - 1) x under
            ((least_of graph P gone s last is_last all place from small).least x way self)),
      )

  leads_left : (run m : ℕ) → run < last → Leads graph P run m → Leads graph left run m
  leads_left run m few = ⊎_elim
      (λ behind. ⊎_elim
      (λ (inner : behind.1.0 < last).
      inl (
        (stays_done m behind.0).0,
        (
          behind.1.0,
          behind.1.1,
          inner,
          (λ x way self. better behind.1.0 x inner (behind.1.3 x way self)),
        ),
      ))
      (λ (outer : last ≤ behind.1.0).
      inl (
        (stays_done m behind.0).0,
        covered m (behind.1.0, outer, behind.1.2, behind.1.3) run
            few,
      ))
      (cases_lt behind.1.0 last))
      (λ onward. ⊎_elim
      (λ (under : onward.0 < P.start last). inr (
        onward.0,
        stays_open m onward.0 onward.1 under,
        onward.2,
      ))
      (λ (over : P.start last ≤ onward.0).
      let at = s.is_at m onward.0 onward.1 in
      inl (
        sym (ap standing at.1) ∙ (done onward.0 over at.0).0,
        subst (IsCovered graph left run)
            at.1 (in_covered onward.0 over at.0 run few),
      ))
      (cases_lt onward.0 (P.start last)))

  closed_left : (n m : ℕ) → standing n ≡ Done → Contains (targets graph n) m → standing m ≡ Done
  closed_left n m e edge = ⊎_elim
      (λ (here : In n).
      let way : IsEdge graph P here.0 edge.0 m =
      subst (λ (k : ℕ). (edge.0 < length (targets graph k))
      × (get_or (targets graph k) edge.0 m ≡ m)) (sym here.3) (edge.1, edge.2) in
      ⊎_elim
      (λ behind. (stays_done m behind.0).0)
      (λ onward. let at = s.is_at m onward.0 onward.1 in sym (ap standing at.1)
      ∙ (done onward.0 onward.2 at.0).0)
      (s.leads last here.0 edge.0 m few_last here.1 here.2 (all here.0 edge.0 m here.1 here.2 way)
      way))
      (λ (out : Out n). (stays_done m (s.closed n m (sym (same n out).0 ∙ e) edge)).0)
      (where_is n)

  exact_left : (n : ℕ) → standing n ≡ Done → IsLeastRing graph n (label n)
  exact_left n e = ⊎_elim
      (λ (here : In n).
      let now : label n ≡ P.ring last = sym (ap label here.3) ∙ (done here.0 here.1 here.2).1 in
      subst (IsLeastRing graph n) (sym now)
      (subst (λ (k : ℕ). IsLeastRing graph k (P.ring last)) here.3
      (least_of graph P gone s last is_last all here.0 here.1 here.2)))
      (λ (out : Out n). subst (IsLeastRing graph n) (sym (same n out).1)
      (s.exact n (sym (same n out).0 ∙ e)))
      (where_is n)

  small_on : (place : ℕ) → place < P.start last → place < P.size
  small_on place under = let start = s.starts last few_last in omega (arith, under, start)

  pub leave : IsGoing graph left gone
  leave = record {
    stands =
        λ place under. stays_open (P.on_way place) place (s.stands place (small_on place under))
        under;
    is_at = λ n place e. let was = was_open n place e in (was.1, (s.is_at n place was.0).1);
    forward = λ lower upper le under. s.forward lower upper le (small_on upper under);
    back = λ run place few within. s.back run place (omega (arith, few, is_last))
        (was_within run place few within);
    starts = λ run few. s.rises run last few few_last;
    rises = λ lower upper le few. s.rises lower upper le (omega (arith, few, is_last));
    first = λ some.
        let start = s.starts last few_last in
        let f = s.first (omega (arith, some, start)) in (
          ⊎_elim
              (λ (none : last ≡ 0). let e : P.start last ≡ P.start 0 = ap P.start none in
              let z = f.1 in absurd (omega (arith, some, e, z)))
              (λ (more : last ≢ 0). let l : 0 < last = omega (arith, more) in l)
              (cases_eq last 0),
          f.1,
        );
    leads = λ run place edge target few from under g e. leads_left run target few
        (s.leads run place edge target (omega (arith, few, is_last)) from (small_on place under) g
        e);
    reached = λ run x few is. ⊎_elim
        (λ old. s.reached run x (omega (arith, few, is_last)) old)
        (λ new. let le = s.rises run last few few_last in
        then graph (P.on_way (P.start run)) (P.on_way (P.start last)) x
        (s.forward (P.start run) (P.start last) (omega (arith, le)) (s.starts last few_last))
        (s.reached last x few_last new))
        (sound run x few is);
    itself = λ run x few is. ⊎_elim
        (λ old. s.itself run x (omega (arith, few, is_last)) old)
        (λ new. s.itself last x few_last new)
        (sound run x few is);
    own = λ run few. ⊎_elim
        (λ owns. inl (λ place within. better run (P.on_way place) few
        (owns place (was_within run place few within))))
        (λ lone.
        inr (record {
          one = λ place within. lone.one place (was_within run place few within);
          away = lone.away;
        }))
        (s.own run (omega (arith, few, is_last)));
    closed = closed_left;
    exact = exact_left;
  }

-- ---- an edge from the last run back into the way

module _ (graph : List (List ℕ)) (P : Picture) (gone : ℕ → ℕ → Type 0) (s : IsGoing graph P gone)
    (last at number target : ℕ) (is_last : last + 1 ≡ P.count)
    (from : P.start last ≤ at) (small : at < P.size) (edge : IsEdge graph P at number target)
    (back_to : ℕ) (is_open : P.standing target ≡ Open back_to) where
  few_last2 : last < P.count
  few_last2 = omega (arith, is_last)

  at_target : (back_to < P.size) × (P.on_way back_to ≡ target)
  at_target = s.is_at target back_to is_open

  to_edge : (place : ℕ) → place < P.size → Reaches graph (P.on_way place) (P.on_way at)
  to_edge place few = to_last graph P gone s last is_last place at few from small

  edge_on : Contains (targets graph (P.on_way at)) target
  edge_on = edge_of graph P gone s at number target edge

  from_target : (place : ℕ) → back_to ≤ place → place < P.size →
      Reaches graph target (P.on_way place)
  from_target place le few =
      from_as graph (P.on_way back_to) target (P.on_way place) at_target.1
      (s.forward back_to place le few)

  -- from the target to where its run begins
  to_start : (run : ℕ) → run < P.count → IsWithin P run back_to →
      Reaches graph target (P.on_way (P.start run))
  to_start run few within =
      from_as graph (P.on_way back_to) target (P.on_way (P.start run)) at_target.1
      (s.back run back_to few within)

  round : (place end : ℕ) → place < P.size → Reaches graph target (P.on_way end) →
      IsBelow graph (P.on_way place) (P.on_way end)
  round place end few way =
      below_by graph (P.on_way place) (P.on_way at) target (P.on_way end) (to_edge place few)
      edge_on way

  over : (place end : ℕ) → place < P.size → Reaches graph target (P.on_way end) →
      Reaches graph (P.on_way place) (P.on_way end)
  over place end few way =
      let way_on = to_target graph P gone s last is_last place at number target few from small
      edge in
      then graph (P.on_way place) target (P.on_way end) way_on way

  -- ---- the edge comes back into the last run: it is a ring

  module _ (inside : P.start last ≤ back_to) (ring : ℕ → Option ℕ)
      (better : (run x : ℕ) → run < P.count → IsAtMost (P.ring run) x → IsAtMost (ring run) x)
      (sound : (run x : ℕ) → run < P.count → ring run ≡ Some x → (P.ring run ≡ Some x)
      ⊎ ((run ≡ last) × (x ≡ P.on_way (P.start last)))) where
    pub ringed : (run x : ℕ) → run < P.count → ring run ≡ Some x →
        Reaches graph (P.on_way (P.start run)) x × ReachesItself graph x
    ringed run x few is = ⊎_elim
        (λ old. (s.reached run x few old, s.itself run x few old))
        (λ new.
        let here : P.on_way (P.start run) ≡ x = ap (λ k. P.on_way (P.start k)) new.0 ∙ sym new.1 in
        let begin = s.starts last few_last2 in
        let self = round (P.start last) (P.start last) begin
        (to_start last few_last2
        (in_last graph P gone s last is_last back_to inside at_target.0)) in (
          to_as graph (P.on_way (P.start run)) (P.on_way (P.start run)) x here
              (stays graph (P.on_way (P.start run))),
          subst (ReachesItself graph) (sym new.1) self,
        ))
        (sound run x few is)

    pub owned : (IsAtMost (ring last) (P.on_way (P.start last))) →
        OwnsAll (record P { ring = ring }) last
    owned itself = λ place within. ⊎_elim
        (λ owns. better last (P.on_way place) few_last2
        (owns place (record { from = within.from; in_size = within.in_size; to = within.to })))
        (λ lone. subst (λ (k : ℕ). IsAtMost (ring last) (P.on_way k))
        (sym
        (lone.one place (record {
          from = within.from;
          in_size = within.in_size;
          to = within.to;
        }))) itself)
        (s.own last few_last2)

  -- ---- the edge comes back below the last run: it is joined with the one before

  module _ (prior : ℕ) (is_prior : prior + 1 ≡ last) (outside : back_to < P.start last)
      (ring : ℕ → Option ℕ)
      (better : (run x : ℕ) → run < last → IsAtMost (P.ring run) x → IsAtMost (ring run) x)
      (further : (x : ℕ) → IsAtMost (P.ring last) x → IsAtMost (ring prior) x)
      (its_start : IsAtMost (ring prior) (P.on_way (P.start prior)))
      (last_start : IsAtMost (ring prior) (P.on_way (P.start last)))
      (sound : (run x : ℕ) → run < last → ring run ≡ Some x → (P.ring run ≡ Some x)
      ⊎ ((run ≡ prior) × ((P.ring last ≡ Some x)
      ⊎ ((x ≡ P.on_way (P.start prior)) ⊎ (x ≡ P.on_way (P.start last)))))) where
    abbrev pub one_run : Picture
    one_run = record P { count = last; ring = ring }

    few_prior : prior < P.count
    few_prior = omega (arith, is_prior, is_last)

    up : P.start prior < P.start last
    up = s.rises prior last (omega (arith, is_prior)) few_last2

    down : Reaches graph target (P.on_way (P.start prior))
    down = ⊎_elim
        (λ (under : back_to < P.start prior). from_target (P.start prior) (omega (arith, under))
        (s.starts prior few_prior))
        (λ (inner : P.start prior ≤ back_to). to_start prior few_prior
        (record {
          from = inner;
          in_size = at_target.0;
          to = λ more. subst (λ (k : ℕ). back_to < P.start k) (sym is_prior) outside;
        }))
        (cases_lt back_to (P.start prior))

    was_in : (run place : ℕ) → run < prior → IsWithin one_run run place → IsWithin P run place
    was_in run place few within =
        record {
          from = within.from;
          in_size = within.in_size;
          to = λ more. within.to (omega (arith, few, is_prior));
        }

    in_prior : (place : ℕ) → IsWithin one_run prior place → place < P.start last →
        IsWithin P prior place
    in_prior place within under =
        record {
          from = within.from;
          in_size = within.in_size;
          to = λ more. subst (λ (k : ℕ). place < P.start k) (sym is_prior) under;
        }

    cases_run : (run : ℕ) → run < last → (run ≡ prior) ⊎ (run < prior)
    cases_run run few =
        ⊎_elim (λ (l : run < prior). inr l)
        (λ (g : prior ≤ run). inl (let e : run ≡ prior = omega (arith, g, few, is_prior) in e))
        (cases_lt run prior)

    joined_rings : (run x : ℕ) → run < last → ring run ≡ Some x →
        Reaches graph (P.on_way (P.start run)) x × ReachesItself graph x
    joined_rings run x few is = ⊎_elim
        (λ old. (
          s.reached run x (omega (arith, few, is_last)) old,
          s.itself run x
              (omega (arith, few, is_last)) old,
        ))
        (λ new.
        let here : P.on_way (P.start prior) ≡ P.on_way (P.start run) =
        ap (λ k. P.on_way (P.start k)) (sym new.0) in
        let on : Reaches graph (P.on_way (P.start prior)) (P.on_way (P.start last)) =
        s.forward (P.start prior) (P.start last) (omega (arith, up))
        (s.starts last few_last2) in
        ⊎_elim
        (λ behind. (
          from_as graph (P.on_way (P.start prior)) (P.on_way (P.start run)) x here
              (then graph (P.on_way (P.start prior)) (P.on_way (P.start last)) x on
              (s.reached last x few_last2 behind)),
          s.itself last x few_last2 behind,
        ))
        (⊎_elim
        (λ (e : x ≡ P.on_way (P.start prior)). (
          to_as graph (P.on_way (P.start run)) (P.on_way (P.start run)) x (sym here ∙ sym e)
              (stays graph (P.on_way (P.start run))),
          subst (ReachesItself graph) (sym e)
              (round (P.start prior) (P.start prior) (s.starts prior few_prior) down),
        ))
        (λ (e : x ≡ P.on_way (P.start last)). (
          from_as graph (P.on_way (P.start prior)) (P.on_way (P.start run)) x here
              (to_as graph (P.on_way (P.start prior)) (P.on_way (P.start last)) x (sym e) on),
          subst (ReachesItself graph) (sym e)
              (round (P.start last) (P.start last) (s.starts last few_last2)
              (then graph target (P.on_way (P.start prior)) (P.on_way (P.start last)) down
              on)),
        )))
        new.1)
        (sound run x few is)

    pub join : IsGoing graph one_run gone
    join = record {
      stands = s.stands;
      is_at = s.is_at;
      forward = s.forward;
      back = λ run place few within. ⊎_elim
          (λ (e : run ≡ prior). to_as graph (P.on_way place) (P.on_way (P.start prior))
          (P.on_way (P.start run)) (ap (λ k. P.on_way (P.start k)) (sym e))
          (over place (P.start prior) within.in_size down))
          (λ (l : run < prior). s.back run place (omega (arith, few, is_last))
          (was_in run place l within))
          (cases_run run few);
      starts = λ run few. s.starts run (omega (arith, few, is_last));
      rises = λ lower upper le few. s.rises lower upper le (omega (arith, few, is_last));
      first = λ some. let f = s.first some in (omega (arith, is_prior), f.1);
      leads = λ run place edge2 m few start small2 g e. ⊎_elim
          (λ behind. inl (
            behind.0,
            ⊎_elim
                (λ (inner : behind.1.0 < last). let w : IsCovered graph one_run run m = (
                  behind.1.0,
                  behind.1.1,
                  inner,
                  (λ x way self. better behind.1.0 x inner (behind.1.3 x way self)),
                ) in w)
                (λ (outer : last ≤ behind.1.0).
                let u = behind.1.2 in
                let above : behind.1.0 ≡ last = omega (arith, outer, u, is_last) in
                let w : IsCovered graph one_run run m = (
                  prior,
                  omega (arith, few, is_prior),
                  omega (arith, is_prior),
                  (λ x way self. further x
                      (subst (λ (k : ℕ). IsAtMost (P.ring k) x) above
                      (behind.1.3 x way self))),
                ) in w)
                (cases_lt behind.1.0 last),
          ))
          (λ onward. inr onward)
          (s.leads run place edge2 m (omega (arith, few, is_last)) start small2 g e);
      reached = λ run x few is. (joined_rings run x few is).0;
      itself = λ run x few is. (joined_rings run x few is).1;
      own = λ run few. ⊎_elim
          (λ (e : run ≡ prior). inl (subst (OwnsAll one_run) (sym e) (λ place within. ⊎_elim
          (λ (under : place < P.start last). ⊎_elim
          (λ owns. better prior (P.on_way place) (omega (arith, is_prior))
          (owns place (in_prior place within under)))
          (λ lone. subst (λ (k : ℕ). IsAtMost (ring prior) (P.on_way k))
          (sym (lone.one place (in_prior place within under))) its_start)
          (s.own prior few_prior))
          (λ (above : P.start last ≤ place). ⊎_elim
          (λ owns. further (P.on_way place)
          (owns place (in_last graph P gone s last is_last place above within.in_size)))
          (λ lone. subst (λ (k : ℕ). IsAtMost (ring prior) (P.on_way k))
          (sym
          (lone.one place (in_last graph P gone s last is_last place above
          within.in_size))) last_start)
          (s.own last few_last2))
          (cases_lt place (P.start last)))))
          (λ (l : run < prior). ⊎_elim
          (λ owns. inl (λ place within. better run (P.on_way place) few
          (owns place (was_in run place l within))))
          (λ lone. inr (record {
            one = λ place within. lone.one place (was_in run place l within);
            away = lone.away;
          }))
          (s.own run (omega (arith, few, is_last))))
          (cases_run run few);
      closed = s.closed;
      exact = s.exact;
    }
