-- What the steps of the search for rings do to its lists, and to what these show.
use Rattle.std.proofs.Common.{◌≡◌, ◌≢◌, refl, ap, sym, subst, ◌∙◌, ℕ, zero, suc, ◌+◌, ◌-◌}
use Rattle.std.proofs.Common.{◌≤◌, ◌<◌, ◌⊎◌, List, [], ◌∷◌, ◌++◌, length, get_or, set, take, arith}
use Rattle.std.proofs.Common.{inl, inr, ⊎_elim, Option, Some, None}
use Rattle.std.proofs.lemmas.List.{get_or_past, get_or-set_same, get_or-set_other}
use Rattle.std.proofs.lemmas.List.{length-set, get_or_append_left, length_push}
use Rattle.std.proofs.lemmas.List.{get_or-take, length-take-le}
use Rattle.std.proofs.lemmas.List.Elements.{Contains-append_left, Contains-append_right}
use Rattle.std.proofs.lemmas.List.Elements.{Contains-append_cases}
use Rattle.std.proofs.lemmas.Bool.{cases_eq, cases_lt}
use Rattle.reachability.specs.Reached.{targets}
use Rattle.supertypes.specs.Ways.{Reaches}
use Rattle.supertypes.specs.Rings.{IsAtMost, IsLeastRing}
use Rattle.supertypes.specs.declared.rings.Standing.TheVariants.{Open, Done}
use Rattle.supertypes.specs.declared.rings.Run.{Run}
use Rattle.supertypes.specs.declared.rings.Edge.{Edge}
use Rattle.supertypes.specs.declared.rings.Rings.{Rings}
use Rattle.supertypes.specs.Going.{Picture, Shows, IsEdge, Leads}
use Rattle.supertypes.specs.Going.{OwnsAll, IsGoing, IsGone, IsUnderWay, IsOnWay, IsAlong}
use Rattle.supertypes.specs.Going.{IsNext, HasRuns}
use Rattle.supertypes.specs.Going.{lesser, folded, joined_runs, last_start_of}
use Rattle.supertypes.specs.Going.{first_of, gone_over, standing_in, no_run, no_edge}
use Rattle.supertypes.proofs.Marked.{only, itself}
use Rattle.supertypes.proofs.Ways.{then}
use Rattle.supertypes.proofs.Runs.{at_most_first, at_most_second, at_most_itself, lesser_from}
use Rattle.supertypes.proofs.Runs.{not_done, regone, advance}
use Rattle.supertypes.proofs.Runs.{relabel, to_target}
use Rattle.supertypes.proofs.Turns.{ringed, owned, join}

-- ---- the last run knows of one ring more

pub folded_length : (runs : List Run) (ring : Option ℕ) → length (folded runs ring) ≡ length runs
folded_length runs ring =
    length-set runs (length runs - 1)
    (record {
      start = (get_or runs (length runs - 1) no_run).start;
      ring = lesser (get_or runs (length runs - 1) no_run).ring ring;
    })

known : Run → Option ℕ → Run
known run ring = record { start = run.start; ring = lesser run.ring ring }

pub folded_other : (runs : List Run) (ring : Option ℕ) (r : ℕ) → r ≢ length runs - 1 →
    get_or (folded runs ring) r no_run ≡ get_or runs r no_run
folded_other runs ring r differs =
    get_or-set_other runs (length runs - 1) r
    (record {
      start = (get_or runs (length runs - 1) no_run).start;
      ring = lesser (get_or runs (length runs - 1) no_run).ring ring;
    }) no_run differs

folded_same : (runs : List Run) (ring : Option ℕ) → length runs - 1 < length runs →
    get_or (folded runs ring) (length runs - 1) no_run
    ≡ record {
      start = (get_or runs (length runs - 1) no_run).start;
      ring = lesser (get_or runs (length runs - 1) no_run).ring ring;
    }
folded_same runs ring few =
    get_or-set_same runs (length runs - 1)
    (record {
      start = (get_or runs (length runs - 1) no_run).start;
      ring = lesser (get_or runs (length runs - 1) no_run).ring ring;
    }) no_run few

pub folded_start : (runs : List Run) (ring : Option ℕ) (r : ℕ) → r < length runs →
    (get_or (folded runs ring) r no_run).start ≡ (get_or runs r no_run).start
folded_start runs ring r few = ⊎_elim
    (λ (e : r ≡ length runs - 1).
    let l : length runs - 1 < length runs = omega (arith, few) in
    ap (λ k. (get_or (folded runs ring) k no_run).start) e
    ∙ ap (λ (x : Run). x.start) (folded_same runs ring l)
    ∙ ap (λ k. (get_or runs k no_run).start) (sym e))
    (λ (differs : r ≢ length runs - 1). ap (λ (x : Run). x.start)
    (folded_other runs ring r differs))
    (cases_eq r (length runs - 1))

pub folded_ring : (runs : List Run) (ring : Option ℕ) (r : ℕ) → r < length runs →
    r ≡ length runs - 1 → (get_or (folded runs ring) r no_run).ring
    ≡ lesser (get_or runs r no_run).ring ring
folded_ring runs ring r few e =
    let l : length runs - 1 < length runs = omega (arith, few) in
    ap (λ k. (get_or (folded runs ring) k no_run).ring) e
    ∙ ap (λ (x : Run). x.ring) (folded_same runs ring l)
    ∙ ap (λ k. lesser (get_or runs k no_run).ring ring) (sym e)

pub joined_length : (old new : Rings) → 2 ≤ length old.runs.items →
    HasRuns old new (joined_runs old) → length new.runs.items + 1 ≡ length old.runs.items
joined_length old new two h =
    let last : ℕ = length old.runs.items - 1 in
    let run : Run = get_or old.runs.items last no_run in
    let prior : Run = get_or old.runs.items (last - 1) no_run in
    let one : Run = record {
      start = prior.start;
      ring =
          lesser (lesser prior.ring run.ring)
          (lesser (Some (get_or old.on_way.items prior.start 0))
          (Some (get_or old.on_way.items run.start 0)));
    } in
    let a : length new.runs.items ≡ length (set (take last old.runs.items) (last - 1) one) =
    ap length h.runs in
    let b = length-set (take last old.runs.items) (last - 1) one in
    let e = length-take-le last old.runs.items (omega arith) in
    omega (arith, a, b, e, two)

-- ---- the path

pub places : (front : List Edge) (e o : Edge) (k : ℕ) → e.place ≡ o.place →
    (get_or (front ++ e ∷ []) k no_edge).place ≡ (get_or (front ++ o ∷ []) k no_edge).place
places [] e o zero same = same
places [] e o (suc k) same = refl
places (x ∷ front) e o zero same = refl
places (x ∷ front) e o (suc k) same = places front e o k same

-- one edge more of a class is gone over
pub gone_step : (front back : List Edge) (e : Edge) (place edge : ℕ) →
    IsGone (front ++ gone_over e ∷ back) place edge →
    IsGone (front ++ e ∷ []) place edge ⊎ ((place ≡ e.place) × (edge ≡ e.next))
gone_step front back e place edge gone = ⊎_elim
    (λ (here : e.place ≡ place).
    let lt : edge < e.next + 1 =
    gone (gone_over e) (Contains-append_right front (gone_over e ∷ back) (gone_over e)
    (0, omega arith, refl)) here in
    ⊎_elim
    (λ (before : edge < e.next). inl (λ other at same. ⊎_elim
    (λ in_front. gone other (Contains-append_left front (gone_over e ∷ back) other in_front) same)
    (λ last. subst (λ (x : Edge). edge < x.next) (only e other last) before)
    (Contains-append_cases front (e ∷ []) other at)))
    (λ (now : e.next ≤ edge).
    inr (sym here, (let q : edge ≡ e.next = omega (arith, lt, now) in q)))
    (cases_lt edge e.next))
    (λ (differs : e.place ≢ place). inl (λ other at same. ⊎_elim
    (λ in_front. gone other (Contains-append_left front (gone_over e ∷ back) other in_front) same)
    (λ last. absurd (differs (ap (λ (x : Edge). x.place) (only e other last) ∙ same)))
    (Contains-append_cases front (e ∷ []) other at)))
    (cases_eq e.place place)

-- ---- along the edges of a class of the last run

module _ (graph : List (List ℕ)) (old : Rings) (e : Edge) (along : IsAlong graph old e) where
  abbrev path : List Edge
  path = old.path.items ++ e ∷ []

  abbrev P : Picture
  P = along.under_way.picture

  sh : Shows graph old P
  sh = along.under_way.shows

  s : IsGoing graph P (IsGone path)
  s = along.under_way.going

  abbrev last : ℕ
  last = P.count - 1

  is_last : last + 1 ≡ P.count
  is_last = let some = along.some in let count = sh.count in omega (arith, some, count)

  few_last : last < P.count
  few_last = omega (arith, is_last)

  last_is : length old.runs.items - 1 ≡ last
  last_is = ap (λ k. k - 1) sh.count

  last_start_is : last_start_of old.runs.items ≡ P.start last
  last_start_is = ap (λ k. (get_or old.runs.items k no_run).start) last_is ∙ sh.start last few_last

  from : P.start last ≤ e.place
  from = subst (λ (k : ℕ). k ≤ e.place) last_start_is along.in_last

  pub at_small : e.place < P.size
  at_small = along.under_way.below e (Contains-append_right old.path.items (e ∷ []) e (itself e))

  pub class_is : get_or old.on_way.items e.place 0 ≡ P.on_way e.place
  class_is = sh.on_way e.place at_small

  pub standing_here : standing_in old.standings.items (get_or old.on_way.items e.place 0)
      ≡ Open e.place
  standing_here = sh.standing (get_or old.on_way.items e.place 0) ∙ ap P.standing class_is
      ∙ s.stands e.place at_small

  -- a class on the way is one of the graph
  pub class_few : get_or old.on_way.items e.place 0 < length graph
  class_few = ⊎_elim
      (λ few. few)
      (λ (past : length graph ≤ get_or old.on_way.items e.place 0).
      let level = sh.level in
      absurd (not_done e.place
      (sym (get_or_past old.standings.items (get_or old.on_way.items e.place 0) Done
      (omega (arith, past, level))) ∙ standing_here)))
      (cases_lt (get_or old.on_way.items e.place 0) (length graph))

  pub start_few : (run : ℕ) → run < length old.runs.items →
      (get_or old.runs.items run no_run).start < length old.on_way.items
  start_few run few =
      let count = sh.count in
      let small : run < P.count = omega (arith, few, count) in
      let start = sh.start run small in
      let begin = s.starts run small in
      let size = sh.size in
      omega (arith, start, begin, size)

  pub place_few : e.place < length old.on_way.items
  place_few = let size = sh.size in omega (arith, at_small, size)

  -- all edges are gone over
  pub exhausted : length (targets graph (get_or old.on_way.items e.place 0)) ≤ e.next →
      IsOnWay graph old
  exhausted over = record {
    picture = P;
    shows = sh;
    going = regone graph P (IsGone path) s (IsGone old.path.items)
        (λ place edge target few is gone. λ other at same. ⊎_elim
        (λ in_front. gone other in_front same)
        (λ at_last.
        let it : e ≡ other = only e other at_last in
        let row : length (targets graph (P.on_way place))
        ≡ length (targets graph (get_or old.on_way.items e.place 0)) =
        ap (λ k. length (targets graph k))
        (ap P.on_way (sym (ap (λ (x : Edge). x.place) it ∙ same)) ∙ sym class_is) in
        let lt = is.0 in
        subst (λ (x : Edge). edge < x.next) it (omega (arith, lt, row, over)))
        (Contains-append_cases old.path.items (e ∷ []) other at));
    below =
        λ other here. along.under_way.below other
        (Contains-append_left old.path.items (e ∷ []) other here);
    climbs = λ lower upper lt few.
        let size = length_push old.path.items e in
        let low = ap (λ (x : Edge). x.place)
        (get_or_append_left old.path.items (e ∷ []) no_edge lower (omega (arith, lt, few))) in
        let high = ap (λ (x : Edge). x.place)
        (get_or_append_left old.path.items (e ∷ []) no_edge upper few) in
        let all = along.under_way.climbs lower upper lt (omega (arith, few, size)) in
        omega (arith, all, low, high);
  }

  -- ---- the next edge

  module _ (target : ℕ) (next : IsNext graph old e target) where
    edge_is : IsEdge graph P e.place e.next target
    edge_is =
        subst (λ (k : ℕ). (e.next < length (targets graph k))
        × (get_or (targets graph k) e.next target ≡ target)) class_is (next.few, next.is)

    -- the last run is told of a ring, and the edge is gone over
    module _ (x : Option ℕ) (new : Rings) (h : HasRuns old new (folded old.runs.items x)) where
      abbrev ring : ℕ → Option ℕ
      ring r = (get_or new.runs.items r no_run).ring

      size_new : length new.runs.items ≡ length old.runs.items
      size_new = ap length h.runs ∙ folded_length old.runs.items x

      few_old : (r : ℕ) → r < P.count → r < length old.runs.items
      few_old r few = let count = sh.count in omega (arith, few, count)

      ring_last : ring last ≡ lesser (P.ring last) x
      ring_last = ap (λ l. (get_or l last no_run).ring) h.runs ∙ folded_ring old.runs.items x last
          (few_old last few_last) (sym last_is) ∙ ap (λ o. lesser o x) (sh.ring last few_last)

      ring_other : (r : ℕ) → r < P.count → r ≢ last → ring r ≡ P.ring r
      ring_other r few differs =
          ap (λ l. (get_or l r no_run).ring) h.runs ∙ ap (λ (y : Run). y.ring)
          (folded_other old.runs.items x r (λ same. differs (same ∙ last_is))) ∙ sh.ring r few

      start_same : (r : ℕ) → r < P.count → (get_or new.runs.items r no_run).start ≡ P.start r
      start_same r few = ap (λ l. (get_or l r no_run).start) h.runs
          ∙ folded_start old.runs.items x r (few_old r few) ∙ sh.start r few

      abbrev now : Picture
      now = record P { ring = ring }

      shown : Shows graph new now
      shown = record {
        level = ap length h.standings ∙ sh.level;
        label_level = ap length h.labels ∙ sh.label_level;
        size = ap length h.on_way ∙ sh.size;
        on_way = λ place few. ap (λ l. get_or l place 0) h.on_way ∙ sh.on_way place few;
        count = size_new ∙ sh.count;
        start = start_same;
        ring = λ r few. refl;
        standing = λ n. ap (λ l. get_or l n Done) h.standings ∙ sh.standing n;
        label = λ n. ap (λ l. get_or l n None) h.labels ∙ sh.label n;
      }

      better : (r y : ℕ) → r < P.count → IsAtMost (P.ring r) y → IsAtMost (ring r) y
      better r y few at_most = ⊎_elim
          (λ (here : r ≡ last). subst (λ (k : ℕ). IsAtMost (ring k) y) (sym here)
          (subst (λ (o : Option ℕ). IsAtMost o y) (sym ring_last)
          (at_most_first (P.ring last) x y
          (subst (λ (k : ℕ). IsAtMost (P.ring k) y) here at_most))))
          (λ (differs : r ≢ last). subst (λ (o : Option ℕ). IsAtMost o y)
          (sym (ring_other r few differs)) at_most)
          (cases_eq r last)

      told : (y : ℕ) → IsAtMost x y → IsAtMost (ring last) y
      told y at_most = subst (λ (o : Option ℕ). IsAtMost o y) (sym ring_last)
          (at_most_second (P.ring last) x y at_most)

      came : (r y : ℕ) → r < P.count → ring r ≡ Some y → (P.ring r ≡ Some y)
          ⊎ ((r ≡ last) × (x ≡ Some y))
      came r y few is = ⊎_elim
          (λ (here : r ≡ last). ⊎_elim
          (λ before. inl (ap P.ring here ∙ before))
          (λ more. inr (here, more))
          (lesser_from (P.ring last) x y (sym ring_last ∙ sym (ap ring here) ∙ is)))
          (λ (differs : r ≢ last). inl (sym (ring_other r few differs) ∙ is))
          (cases_eq r last)

      pub turned : IsGoing graph now (IsGone path) →
          ((r : ℕ) → r < P.count → P.start r ≤ e.place → Leads graph now r target) →
          ((r : ℕ) → r < P.count → P.start r ≡ e.place → target ≡ P.on_way e.place →
          OwnsAll now r) → IsAlong graph new (gone_over e)
      turned going leads owns =
          let path_is : new.path.items ++ gone_over e ∷ [] ≡ old.path.items ++ gone_over e ∷ [] =
          ap (λ l. l ++ gone_over e ∷ []) h.path in
          let more : IsGoing graph now (IsGone (old.path.items ++ gone_over e ∷ [])) =
          advance graph now (IsGone path) going (IsGone (old.path.items ++ gone_over e ∷ []))
          e.place e.next target edge_is
          (λ place edge few gone. gone_step old.path.items [] e place edge gone) leads owns in
          let longer = length_push old.path.items e in
          let longer2 = length_push old.path.items (gone_over e) in
          let way : IsUnderWay graph new (old.path.items ++ gone_over e ∷ []) = record {
            picture = now;
            shows = shown;
            going = more;
            below = λ other here. ⊎_elim
                (λ in_front. along.under_way.below other
                (Contains-append_left old.path.items (e ∷ []) other in_front))
                (λ at_last. subst (λ (o : Edge). o.place < P.size)
                (only (gone_over e) other at_last) at_small)
                (Contains-append_cases old.path.items (gone_over e ∷ []) other here);
            climbs = λ lower upper lt few.
                let low = places old.path.items (gone_over e) e lower refl in
                let high = places old.path.items (gone_over e) e upper refl in
                let all = along.under_way.climbs lower upper lt
                (omega (arith, few, longer, longer2)) in
                omega (arith, all, low, high);
          } in
          let some = along.some in
          let new_last : length new.runs.items - 1 ≡ last = ap (λ k. k - 1) size_new ∙ last_is in
          let start : last_start_of new.runs.items ≡ P.start last =
          ap (λ k. (get_or new.runs.items k no_run).start) new_last
          ∙ start_same last few_last in
          record {
            under_way = subst (IsUnderWay graph new) (sym path_is) way;
            some = omega (arith, some, size_new);
            in_last = omega (arith, start, from);
          }

    -- ---- the target is done

    pub passed : (x : Option ℕ) (new : Rings) → standing_in old.standings.items target ≡ Done →
        x ≡ get_or old.labels.items target None →
        HasRuns old new (folded old.runs.items x) → IsAlong graph new (gone_over e)
    passed x new done label h =
        let done_now : P.standing target ≡ Done = sym (sh.standing target) ∙ done in
        let label_now : P.label target ≡ x = sym (sh.label target) ∙ sym label in
        let exact : IsLeastRing graph target x =
        subst (IsLeastRing graph target) label_now (s.exact target done_now) in
        let going = relabel graph P (IsGone path) s (ring x new h) (better x new h)
        (λ r y few is. ⊎_elim
        (λ before. (s.reached r y few before, s.itself r y few before))
        (λ more.
        let start : P.on_way (P.start last) ≡ P.on_way (P.start r) =
        ap (λ k. P.on_way (P.start k)) (sym more.0) in
        let way = to_target graph P (IsGone path) s last is_last (P.start last) e.place e.next
        target (s.starts last few_last) from at_small edge_is in (
          subst (λ (k : ℕ). Reaches graph k y) start
              (then graph (P.on_way (P.start last)) target y way (exact.reached y more.1)),
          exact.itself y more.1,
        ))
        (came x new h r y few is)) in
        turned x new h going
        (λ r few start. inl (
          done_now,
          (
            last,
            omega (arith, few, is_last),
            few_last,
            (λ y way self. told x new h y (exact.least y way self)),
          ),
        ))
        (λ r few start back. absurd (not_done e.place (sym done_now ∙ ap P.standing back
        ∙ s.stands e.place at_small)))

    -- ---- the target is on the way

    module _ (back_to : ℕ) (is_open : standing_in old.standings.items target ≡ Open back_to) where
      open_now : P.standing target ≡ Open back_to
      open_now = sym (sh.standing target) ∙ is_open

      first_is : first_of old ≡ P.on_way (P.start last)
      first_is = ap (λ k. get_or old.on_way.items k 0) last_start_is
          ∙ sh.on_way (P.start last) (s.starts last few_last)

      same_some : (y z : ℕ) → Some y ≡ Some z → y ≡ z
      same_some y z q = cc

      pub closed_ring : (new : Rings) → last_start_of old.runs.items ≤ back_to →
          HasRuns old new (folded old.runs.items (Some (first_of old))) →
          IsAlong graph new (gone_over e)
      closed_ring new inside h =
          let x : Option ℕ = Some (first_of old) in
          let inside_now : P.start last ≤ back_to =
          subst (λ (k : ℕ). k ≤ back_to) last_start_is inside in
          let sound : (r y : ℕ) → r < P.count → ring x new h r ≡ Some y → (P.ring r ≡ Some y)
          ⊎ ((r ≡ last) × (y ≡ P.on_way (P.start last))) = λ r y few is. ⊎_elim
          (λ before. inl before)
          (λ more. inr (more.0, sym (same_some (first_of old) y more.1) ∙ first_is))
          (came x new h r y few is) in
          let going = relabel graph P (IsGone path) s (ring x new h) (better x new h)
          (ringed graph P (IsGone path) s last e.place e.next target is_last from at_small edge_is
          back_to open_now inside_now (ring x new h) (better x new h) sound) in
          let its_own : OwnsAll (now x new h) last =
          owned graph P (IsGone path) s last e.place e.next target is_last from at_small edge_is
          back_to open_now inside_now (ring x new h) (better x new h) sound
          (told x new h (P.on_way (P.start last))
          (subst (λ (k : ℕ). IsAtMost x k) first_is (at_most_itself (first_of old)))) in
          turned x new h going
          (λ r few start. inr (
            back_to,
            open_now,
            ⊎_elim
                (λ (here : r ≡ last). subst (λ (k : ℕ). P.start k ≤ back_to) (sym here) inside_now)
                (λ (differs : r ≢ last). let up = s.rises r last
                (omega (arith, few, is_last, differs)) few_last in
                omega (arith, up, inside_now))
                (cases_eq r last),
          ))
          (λ r few start back. ⊎_elim
          (λ (here : r ≡ last). subst (OwnsAll (now x new h)) (sym here) its_own)
          (λ (differs : r ≢ last). let up = s.rises r last (omega (arith, few, is_last, differs))
          few_last in absurd (omega (arith, up, start, from)))
          (cases_eq r last))

      -- ---- it lies below the last run

      module _ (outside : back_to < last_start_of old.runs.items) where
        outside_now : back_to < P.start last
        outside_now = subst (λ (k : ℕ). back_to < k) last_start_is outside

        last_some : 0 < last
        last_some = ⊎_elim
            (λ (none : last ≡ 0).
            let begin = s.starts last few_last in
            let f = (s.first (omega (arith, begin))).1 in
            let q = ap P.start none in
            absurd (omega (arith, outside_now, f, q)))
            (λ (some : last ≢ 0). let l : 0 < last = omega (arith, some) in l)
            (cases_eq last 0)

        pub two_runs : 2 ≤ length old.runs.items
        two_runs = let count = sh.count in omega (arith, last_some, is_last, count)

        abbrev prior : ℕ
        prior = last - 1

        is_prior : prior + 1 ≡ last
        is_prior = omega (arith, last_some)

        few_prior : prior < P.count
        few_prior = omega (arith, is_prior, is_last)

        prior_is : length old.runs.items - 1 - 1 ≡ prior
        prior_is = ap (λ k. k - 1) last_is

        module _ (new : Rings) (h : HasRuns old new (joined_runs old)) where
          abbrev one : Run
          one = record {
            start = (get_or old.runs.items (length old.runs.items - 1 - 1) no_run).start;
            ring =
                lesser (lesser (get_or old.runs.items (length old.runs.items - 1 - 1) no_run).ring
                (get_or old.runs.items (length old.runs.items - 1) no_run).ring)
                (lesser
                (Some (get_or old.on_way.items
                (get_or old.runs.items (length old.runs.items - 1 - 1) no_run).start 0))
                (Some (get_or old.on_way.items
                (get_or old.runs.items (length old.runs.items - 1) no_run).start
                0)));
          }

          abbrev front : List Run
          front = take (length old.runs.items - 1) old.runs.items

          front_size : length front ≡ last
          front_size = length-take-le (length old.runs.items - 1) old.runs.items (omega arith)
              ∙ last_is

          runs_is : new.runs.items ≡ set front (length old.runs.items - 1 - 1) one
          runs_is = h.runs

          prior_few : length old.runs.items - 1 - 1 < length front
          prior_few = omega (arith, prior_is, front_size, is_prior)

          at_prior : get_or new.runs.items prior no_run ≡ one
          at_prior = ap (λ l. get_or l prior no_run) runs_is
              ∙ ap (λ k. get_or (set front (length old.runs.items - 1 - 1) one) k no_run)
              (sym prior_is) ∙ get_or-set_same front (length old.runs.items - 1 - 1) one no_run
              prior_few

          at_other : (r : ℕ) → r < last → r ≢ prior → get_or new.runs.items r no_run
              ≡ get_or old.runs.items r no_run
          at_other r few differs =
              ap (λ l. get_or l r no_run) runs_is
              ∙ get_or-set_other front (length old.runs.items - 1 - 1) r one no_run
              (λ same. differs (same ∙ prior_is))
              ∙ get_or-take (length old.runs.items - 1) old.runs.items r no_run
              (omega (arith, few, last_is))

          abbrev joined_ring : ℕ → Option ℕ
          joined_ring r = (get_or new.runs.items r no_run).ring

          abbrev first_prior : Option ℕ
          first_prior = Some (P.on_way (P.start prior))

          abbrev first_last : Option ℕ
          first_last = Some (P.on_way (P.start last))

          prior_start : (get_or old.runs.items (length old.runs.items - 1 - 1) no_run).start
              ≡ P.start prior
          prior_start = ap (λ k. (get_or old.runs.items k no_run).start) prior_is
              ∙ sh.start prior few_prior

          prior_ring : (get_or old.runs.items (length old.runs.items - 1 - 1) no_run).ring
              ≡ P.ring prior
          prior_ring = ap (λ k. (get_or old.runs.items k no_run).ring) prior_is
              ∙ sh.ring prior few_prior

          last_ring : (get_or old.runs.items (length old.runs.items - 1) no_run).ring ≡ P.ring last
          last_ring = ap (λ k. (get_or old.runs.items k no_run).ring) last_is
              ∙ sh.ring last few_last

          prior_first : get_or old.on_way.items
              (get_or old.runs.items (length old.runs.items - 1 - 1) no_run).start 0 ≡ P.on_way
              (P.start prior)
          prior_first = ap (λ k. get_or old.on_way.items k 0) prior_start
              ∙ sh.on_way (P.start prior) (s.starts prior few_prior)

          ring_is : joined_ring prior ≡ lesser (lesser (P.ring prior) (P.ring last))
              (lesser first_prior first_last)
          ring_is =
              ap (λ (y : Run). y.ring) at_prior
              ∙ ap (λ o. lesser (lesser o
              (get_or old.runs.items (length old.runs.items - 1) no_run).ring)
              (lesser
              (Some (get_or old.on_way.items
              (get_or old.runs.items (length old.runs.items - 1 - 1) no_run).start
              0))
              (Some (get_or old.on_way.items
              (get_or old.runs.items (length old.runs.items - 1)
              no_run).start 0)))) prior_ring
              ∙ ap (λ o. lesser (lesser (P.ring prior) o)
              (lesser
              (Some (get_or old.on_way.items
              (get_or old.runs.items (length old.runs.items - 1 - 1) no_run).start 0))
              (Some (get_or old.on_way.items
              (get_or old.runs.items (length old.runs.items - 1) no_run).start
              0)))) last_ring
              ∙ ap (λ k. lesser (lesser (P.ring prior) (P.ring last))
              (lesser (Some k) (Some
              (get_or old.on_way.items
              (get_or old.runs.items (length old.runs.items - 1) no_run).start 0))))
              prior_first
              ∙ ap (λ k. lesser (lesser (P.ring prior) (P.ring last))
              (lesser first_prior (Some k))) first_is

          ring_kept : (r : ℕ) → r < last → r ≢ prior → joined_ring r ≡ P.ring r
          ring_kept r few differs =
              ap (λ (y : Run). y.ring) (at_other r few differs)
              ∙ sh.ring r (omega (arith, few, is_last))

          start_kept : (r : ℕ) → r < last → (get_or new.runs.items r no_run).start ≡ P.start r
          start_kept r few = ⊎_elim
              (λ (here : r ≡ prior). ap (λ k. (get_or new.runs.items k no_run).start) here
              ∙ ap (λ (y : Run). y.start) at_prior ∙ prior_start ∙ ap P.start (sym here))
              (λ (differs : r ≢ prior). ap (λ (y : Run). y.start) (at_other r few differs)
              ∙ sh.start r (omega (arith, few, is_last)))
              (cases_eq r prior)

          knows : (y : ℕ) → IsAtMost
              (lesser (lesser (P.ring prior) (P.ring last)) (lesser first_prior first_last)) y →
              IsAtMost (joined_ring prior) y
          knows y at_most = subst (λ (o : Option ℕ). IsAtMost o y) (sym ring_is) at_most

          joined_better : (r y : ℕ) → r < last → IsAtMost (P.ring r) y → IsAtMost (joined_ring r) y
          joined_better r y few at_most = ⊎_elim
              (λ (here : r ≡ prior). subst (λ (k : ℕ). IsAtMost (joined_ring k) y) (sym here)
              (knows y (at_most_first (lesser (P.ring prior) (P.ring last))
              (lesser first_prior first_last) y
              (at_most_first (P.ring prior) (P.ring last) y
              (subst (λ (k : ℕ). IsAtMost (P.ring k) y) here at_most)))))
              (λ (differs : r ≢ prior). subst (λ (o : Option ℕ). IsAtMost o y)
              (sym (ring_kept r few differs)) at_most)
              (cases_eq r prior)

          joined_came : (r y : ℕ) → r < last → joined_ring r ≡ Some y →
              (P.ring r ≡ Some y) ⊎ ((r ≡ prior)
              × ((P.ring last ≡ Some y)
              ⊎ ((y ≡ P.on_way (P.start prior)) ⊎ (y ≡ P.on_way (P.start last)))))
          joined_came r y few is = ⊎_elim
              (λ (here : r ≡ prior). ⊎_elim
              (λ rings. ⊎_elim
              (λ a. inl (ap P.ring here ∙ a))
              (λ b. inr (here, inl b))
              (lesser_from (P.ring prior) (P.ring last) y rings))
              (λ firsts. inr (
                here,
                inr (⊎_elim
                    (λ a. inl (sym (same_some (P.on_way (P.start prior)) y a)))
                    (λ b. inr (sym (same_some (P.on_way (P.start last)) y b)))
                    (lesser_from first_prior first_last y firsts)),
              ))
              (lesser_from (lesser (P.ring prior) (P.ring last)) (lesser first_prior first_last) y
              (sym ring_is ∙ sym (ap joined_ring here) ∙ is)))
              (λ (differs : r ≢ prior). inl (sym (ring_kept r few differs) ∙ is))
              (cases_eq r prior)

          abbrev joined_picture : Picture
          joined_picture = record P { count = last; ring = joined_ring }

          size_joined : length new.runs.items ≡ last
          size_joined = ap length runs_is ∙ length-set front (length old.runs.items - 1 - 1) one
              ∙ front_size

          shown_joined : Shows graph new joined_picture
          shown_joined = record {
            level = ap length h.standings ∙ sh.level;
            label_level = ap length h.labels ∙ sh.label_level;
            size = ap length h.on_way ∙ sh.size;
            on_way = λ place few. ap (λ l. get_or l place 0) h.on_way ∙ sh.on_way place few;
            count = size_joined;
            start = start_kept;
            ring = λ r few. refl;
            standing = λ n. ap (λ l. get_or l n Done) h.standings ∙ sh.standing n;
            label = λ n. ap (λ l. get_or l n None) h.labels ∙ sh.label n;
          }

          going_joined : IsGoing graph joined_picture (IsGone path)
          going_joined =
              join graph P (IsGone path) s last e.place e.next target is_last from at_small edge_is
              back_to open_now prior is_prior outside_now joined_ring joined_better
              (λ y at_most. knows y (at_most_first (lesser (P.ring prior) (P.ring last))
              (lesser first_prior first_last) y
              (at_most_second (P.ring prior) (P.ring last) y at_most)))
              (knows (P.on_way (P.start prior))
              (at_most_second (lesser (P.ring prior) (P.ring last))
              (lesser first_prior first_last) (P.on_way (P.start prior))
              (at_most_first first_prior first_last (P.on_way (P.start prior))
              (at_most_itself (P.on_way (P.start prior))))))
              (knows (P.on_way (P.start last))
              (at_most_second (lesser (P.ring prior) (P.ring last))
              (lesser first_prior first_last) (P.on_way (P.start last))
              (at_most_second first_prior first_last (P.on_way (P.start last))
              (at_most_itself (P.on_way (P.start last))))))
              joined_came

          pub joined_last : IsAlong graph new e
          joined_last =
              let path_is : new.path.items ++ e ∷ [] ≡ path = ap (λ l. l ++ e ∷ []) h.path in
              let way : IsUnderWay graph new path = record {
                picture = joined_picture;
                shows = shown_joined;
                going = going_joined;
                below = along.under_way.below;
                climbs = along.under_way.climbs;
              } in
              let new_last : length new.runs.items - 1 ≡ prior = ap (λ k. k - 1) size_joined in
              let start : last_start_of new.runs.items ≡ P.start prior =
              ap (λ k. (get_or new.runs.items k no_run).start) new_last
              ∙ start_kept prior (omega (arith, is_prior)) in
              let up = s.rises prior last (omega (arith, is_prior)) few_last in
              record {
                under_way = subst (IsUnderWay graph new) (sym path_is) way;
                some = omega (arith, size_joined, last_some);
                in_last = omega (arith, start, up, from);
              }
