-- The search for rings enters classes and takes edges, from its beginning to its end.
use Rattle.std.proofs.Common.{◌≡◌, ◌≢◌, refl, ap, sym, subst, ◌∙◌, ℕ, zero, suc, ◌+◌, ◌-◌}
use Rattle.std.proofs.Common.{◌≤◌, ◌<◌, ◌⊎◌, List, [], ◌∷◌, ◌++◌, length, get_or, set, take, drop}
use Rattle.std.proofs.Common.{replicate, arith, inl, inr, ⊎_elim, Option, Some, None}
use Rattle.std.proofs.Common.{append_assoc}
use Rattle.std.specs.Prelude.{Contains}
use Rattle.std.proofs.lemmas.List.{get_or_default, get_or_past, get_or-set_same, get_or-set_other}
use Rattle.std.proofs.lemmas.List.{length-set, get_or_append_left, get_or_push, length_push}
use Rattle.std.proofs.lemmas.List.{get_or-drop, length-drop}
use Rattle.std.proofs.lemmas.List.{take_more, take_all, length-replicate, get_or-replicate}
use Rattle.std.proofs.lemmas.List.Elements.{Contains-append_left, Contains-append_right}
use Rattle.std.proofs.lemmas.List.Elements.{Contains-append_cases}
use Rattle.std.proofs.lemmas.Bool.{cases_eq, cases_lt}
use Rattle.reachability.specs.Reached.{targets}
use Rattle.supertypes.specs.Ways.{HasWay, Reaches}
use Rattle.supertypes.specs.Rings.{IsLeastRing}
use Rattle.supertypes.specs.declared.rings.Standing.{Standing}
use Rattle.supertypes.specs.declared.rings.Standing.TheVariants.{New, Open, Done}
use Rattle.supertypes.specs.declared.rings.Run.{Run}
use Rattle.supertypes.specs.declared.rings.Edge.{Edge}
use Rattle.supertypes.specs.declared.rings.Rings.{Rings}
use Rattle.supertypes.specs.Going.{Picture, Shows, IsEdge}
use Rattle.supertypes.specs.Going.{IsGoing, IsGone, IsUnderWay, IsOnWay, IsAlong, IsNext}
use Rattle.supertypes.specs.Going.{IsSettled, HasEntered, HasTaken}
use Rattle.supertypes.specs.Going.{AreSettled, last_start_of, gone_over}
use Rattle.supertypes.specs.Going.{standing_in, no_run, no_edge, fresh}
use Rattle.supertypes.proofs.Marked.{only, itself, none}
use Rattle.supertypes.proofs.Runs.{not_new, not_done}
use Rattle.supertypes.proofs.Runs.{new_done, advance, to_target}
use Rattle.supertypes.proofs.Entered.{IsEntered, enter}
use Rattle.supertypes.proofs.Shown.{gone_step, places}

-- ---- how many classes are new

pub fresh_open : (standings : List Standing) (n place : ℕ) → standing_in standings n ≡ New →
    fresh (set standings n (Open place)) + 1 ≡ fresh standings
fresh_open [] n place e = absurd (new_done (sym e))
fresh_open (New ∷ standings) zero place e = omega arith
fresh_open (Open other ∷ standings) zero place e = absurd (not_new other (sym e))
fresh_open (Done ∷ standings) zero place e = absurd (new_done (sym e))
fresh_open (New ∷ standings) (suc n) place e =
    let more = fresh_open standings n place e in omega (arith, more)
fresh_open (Open other ∷ standings) (suc n) place e = fresh_open standings n place e
fresh_open (Done ∷ standings) (suc n) place e = fresh_open standings n place e

pub fresh_done : (standings : List Standing) (n : ℕ) →
    fresh (set standings n Done) ≤ fresh standings
fresh_done [] n = omega arith
fresh_done (New ∷ standings) zero = omega arith
fresh_done (Open other ∷ standings) zero = omega arith
fresh_done (Done ∷ standings) zero = omega arith
fresh_done (New ∷ standings) (suc n) = let more = fresh_done standings n in omega (arith, more)
fresh_done (Open other ∷ standings) (suc n) = fresh_done standings n
fresh_done (Done ∷ standings) (suc n) = fresh_done standings n

-- a class that is new is one of the graph
pub new_few : (standings : List Standing) (n : ℕ) → standing_in standings n ≡ New →
    n < length standings
new_few [] n e = absurd (new_done (sym e))
new_few (x ∷ standings) zero e = omega arith
new_few (x ∷ standings) (suc n) e = let more = new_few standings n e in omega (arith, more)

-- ---- classes are done

pub settled_none : (standings : List Standing) (labels : List (Option ℕ)) (ring : Option ℕ) →
    AreSettled standings standings labels labels [] ring
settled_none standings labels ring = record {
  level = refl;
  label_level = refl;
  done = λ n here. absurd (none n here);
  label = λ n here. absurd (none n here);
  stays = λ n out. refl;
  label_stays = λ n out. refl;
  was_new = λ n e. e;
  news = omega arith;
}

pub settled_more : (before now : List Standing) (labels labels_now : List (Option ℕ))
    (classes : List ℕ) (ring : Option ℕ) (i d : ℕ) → i < length classes →
    AreSettled before now labels labels_now (take i classes) ring →
    get_or classes i d < length before → length labels ≡ length before →
    AreSettled before (set now (get_or classes i d) Done) labels
    (set labels_now (get_or classes i d) ring) (take (i + 1) classes) ring
settled_more before now labels labels_now classes ring i d few s small level =
    let n : ℕ = get_or classes i d in
    let front : take (i + 1) classes ≡ take i classes ++ n ∷ [] = take_more classes i d few in
    let a = s.level in
    let b = s.label_level in
    let n_few : n < length now = omega (arith, small, a) in
    let n_small : n < length labels_now = omega (arith, small, b, level) in
    let in_it : (c : ℕ) → Contains (take (i + 1) classes) c → Contains (take i classes) c
    ⊎ (n ≡ c) = λ c here. ⊎_elim
    (λ l. inl l) (λ r. inr (only n c r))
    (Contains-append_cases (take i classes) (n ∷ []) c
    (subst (λ (l : List ℕ). Contains l c) front here)) in
    let is_done : standing_in (set now n Done) n ≡ Done = get_or-set_same now n Done Done n_few in
    let is_label : get_or (set labels_now n ring) n None ≡ ring =
    get_or-set_same labels_now n ring None n_small in
    let not_in : (c : ℕ) → (Contains (take (i + 1) classes) c → ⊥) → c ≢ n =
    λ c out e. out (subst (λ (l : List ℕ). Contains l c) (sym front)
    (Contains-append_right (take i classes) (n ∷ []) c
    (subst (Contains (n ∷ [])) (sym e) (itself n)))) in
    let not_before : (c : ℕ) → (Contains (take (i + 1) classes) c → ⊥) →
    Contains (take i classes) c → ⊥ =
    λ c out here. out (subst (λ (l : List ℕ). Contains l c) (sym front)
    (Contains-append_left (take i classes) (n ∷ []) c here)) in
    let less = fresh_done now n in
    let news = s.news in
    record {
      level = length-set now n Done ∙ s.level;
      label_level = length-set labels_now n ring ∙ s.label_level;
      done = λ c here. ⊎_elim
          (λ (e : c ≡ n). ap (standing_in (set now n Done)) e ∙ is_done)
          (λ (differs : c ≢ n). get_or-set_other now n c Done Done differs
          ∙ ⊎_elim (λ l. s.done c l) (λ r. absurd (differs (sym r))) (in_it c here))
          (cases_eq c n);
      label = λ c here. ⊎_elim
          (λ (e : c ≡ n). ap (λ k. get_or (set labels_now n ring) k None) e ∙ is_label)
          (λ (differs : c ≢ n). get_or-set_other labels_now n c ring None differs
          ∙ ⊎_elim (λ l. s.label c l) (λ r. absurd (differs (sym r))) (in_it c here))
          (cases_eq c n);
      stays = λ c out. get_or-set_other now n c Done Done (not_in c out)
          ∙ s.stays c (not_before c out);
      label_stays = λ c out. get_or-set_other labels_now n c ring None (not_in c out)
          ∙ s.label_stays c (not_before c out);
      was_new = λ c e. ⊎_elim
          (λ (same : c ≡ n). absurd (new_done (sym e ∙ ap (standing_in (set now n Done)) same
          ∙ is_done)))
          (λ (differs : c ≢ n). s.was_new c (sym (get_or-set_other now n c Done Done differs) ∙ e))
          (cases_eq c n);
      news = omega (arith, less, news);
    }

-- the class at a place, of those from a start on
pub settled_at : (before now : List Standing) (labels labels_now : List (Option ℕ)) (xs : List ℕ)
    (ring : Option ℕ) (start place n : ℕ) → start ≤ place → place < length xs →
    n ≡ get_or xs place n →
    AreSettled before now labels labels_now (take (place - start) (drop start xs)) ring →
    n < length before → length labels ≡ length before →
    AreSettled before (set now n Done) labels (set labels_now n ring)
    (take (place + 1 - start) (drop start xs)) ring
settled_at before now labels labels_now xs ring start place n from few is s small level =
    let i : ℕ = place - start in
    let at : start + i ≡ place = omega (arith, from) in
    let long = length-drop start xs in
    let i_few : i < length (drop start xs) = omega (arith, long, from, few) in
    let here : get_or (drop start xs) i n ≡ n =
    get_or-drop start xs i n ∙ ap (λ k. get_or xs k n) at ∙ sym is in
    let more = settled_more before now labels labels_now (drop start xs) ring i n i_few s
    (subst (λ (k : ℕ). k < length before) (sym here) small) level in
    let count : i + 1 ≡ place + 1 - start = omega (arith, from) in
    subst (λ (k : ℕ). AreSettled before (set now n Done) labels (set labels_now n ring)
    (take k (drop start xs)) ring) count
    (subst (λ (k : ℕ). AreSettled before (set now k Done) labels (set labels_now k ring)
    (take (i + 1) (drop start xs)) ring) here more)

pub settled_first : (standings : List Standing) (labels : List (Option ℕ)) (xs : List ℕ)
    (ring : Option ℕ) (start : ℕ) → AreSettled standings standings labels labels
    (take (start - start) (drop start xs)) ring
settled_first standings labels xs ring start =
    let e : 0 ≡ start - start = omega arith in
    subst (λ (k : ℕ). AreSettled standings standings labels labels (take k (drop start xs)) ring) e
    (settled_none standings labels ring)

pub settled_all : (before now : List Standing) (labels labels_now : List (Option ℕ)) (xs : List ℕ)
    (ring : Option ℕ) (start place : ℕ) → start ≤ length xs → length xs ≤ place →
    AreSettled before now labels labels_now (take (place - start) (drop start xs)) ring →
    AreSettled before now labels labels_now (drop start xs) ring
settled_all before now labels labels_now xs ring start place from over s =
    let long = length-drop start xs in
    subst (λ (l : List ℕ). AreSettled before now labels labels_now l ring)
    (take_all (place - start) (drop start xs) (omega (arith, long, over))) s

pub in_rest : (xs : List ℕ) (start place n : ℕ) → start ≤ place → place < length xs →
    n ≡ get_or xs place n → Contains (drop start xs) n
in_rest xs start place n from few is =
    let long = length-drop start xs in
    let at : start + (place - start) ≡ place = omega (arith, from) in (
      place - start,
      omega (arith, long, from, few),
      get_or-drop start xs (place - start) n
          ∙ ap (λ k. get_or xs k n) at ∙ sym is,
    )

-- ---- a class is entered

module _ (graph : List (List ℕ)) (old new : Rings) (P : Picture) (sh : Shows graph old P)
    (class : ℕ) (is_new : standing_in old.standings.items class ≡ New)
    (h : HasEntered old new class) where
  abbrev N : Picture
  N = record {
    size = length new.on_way.items;
    on_way = λ place. get_or new.on_way.items place 0;
    count = length new.runs.items;
    start = λ run. (get_or new.runs.items run no_run).start;
    ring = λ run. (get_or new.runs.items run no_run).ring;
    standing = standing_in new.standings.items;
    label = λ n. get_or new.labels.items n None;
  }

  abbrev entry : Run
  entry = record { start = length old.on_way.items; ring = None }

  few_class : class < length old.standings.items
  few_class = new_few old.standings.items class is_new

  count_few : (run : ℕ) → run < P.count → run < length old.runs.items
  count_few run few = let e = sh.count in omega (arith, few, e)

  run_new : get_or new.runs.items P.count no_run ≡ entry
  run_new = ap (λ l. get_or l P.count no_run) h.runs ∙ get_or_push old.runs.items entry no_run
      P.count sh.count

  run_old : (run : ℕ) → run < P.count → get_or new.runs.items run no_run ≡ get_or old.runs.items
      run no_run
  run_old run few = ap (λ l. get_or l run no_run) h.runs ∙ get_or_append_left old.runs.items
      (entry ∷ []) no_run run (count_few run few)

  pub is_entered : IsEntered P N class
  is_entered = record {
    size = ap length h.on_way ∙ length_push old.on_way.items class ∙ ap (λ k. k + 1) sh.size;
    way_old = λ place few. ap (λ l. get_or l place 0) h.on_way
        ∙ get_or_append_left old.on_way.items (class ∷ []) 0 place
        (let e = sh.size in omega (arith, few, e)) ∙ sh.on_way place few;
    way_new = ap (λ l. get_or l P.size 0) h.on_way ∙ get_or_push old.on_way.items class 0 P.size
        sh.size;
    count = ap length h.runs ∙ length_push old.runs.items entry ∙ ap (λ k. k + 1) sh.count;
    start_old = λ run few. ap (λ (x : Run). x.start) (run_old run few) ∙ sh.start run few;
    start_new = ap (λ (x : Run). x.start) run_new ∙ sh.size;
    ring_old = λ run few. ap (λ (x : Run). x.ring) (run_old run few) ∙ sh.ring run few;
    ring_new = ap (λ (x : Run). x.ring) run_new;
    standing_old = λ other differs. ap (λ l. standing_in l other) h.standings
        ∙ get_or-set_other old.standings.items class other (Open (length old.on_way.items)) Done
        differs ∙ sh.standing other;
    standing_new = ap (λ l. standing_in l class) h.standings
        ∙ get_or-set_same old.standings.items class (Open (length old.on_way.items)) Done few_class
        ∙ ap Open sh.size;
    label = λ other. ap (λ l. get_or l other None) h.labels ∙ sh.label other;
  }

  pub shows_entered : Shows graph new N
  shows_entered = record {
    level = ap length h.standings ∙ length-set old.standings.items class
        (Open (length old.on_way.items)) ∙ sh.level;
    label_level = ap length h.labels ∙ sh.label_level;
    size = refl;
    on_way = λ place few. refl;
    count = refl;
    start = λ run few. refl;
    ring = λ run few. refl;
    standing = λ n. refl;
    label = λ n. refl;
  }

  pub was_new : (n : ℕ) → standing_in new.standings.items n ≡ New →
      standing_in old.standings.items n ≡ New
  was_new n e = ⊎_elim
      (λ (same : n ≡ class). ap (standing_in old.standings.items) same ∙ is_new)
      (λ (differs : n ≢ class). sym (ap (λ l. standing_in l n) h.standings
      ∙ get_or-set_other old.standings.items class n (Open (length old.on_way.items)) Done
      differs) ∙ e)
      (cases_eq n class)

  pub entered_open : standing_in new.standings.items class ≡ New → ⊥
  entered_open e = not_new P.size (sym e ∙ is_entered.standing_new)

  pub fresh_less : fresh new.standings.items + 1 ≡ fresh old.standings.items
  fresh_less = ap (λ l. fresh l + 1) h.standings ∙ fresh_open old.standings.items class
      (length old.on_way.items) is_new

entry_at : (rings : Rings) → Edge
entry_at rings = record { place = length rings.on_way.items; next = 0 }

-- nothing was on the way
module _ (graph : List (List ℕ)) (old new : Rings) (class number : ℕ)
    (settled : IsSettled graph old number) (is_new : standing_in old.standings.items class ≡ New)
    (h : HasEntered old new class) where
  abbrev first_picture : Picture
  first_picture = settled.on_way.picture

  first_shows : Shows graph old first_picture
  first_shows = settled.on_way.shows

  empty_size : first_picture.size ≡ 0
  empty_size =
      let count = first_shows.count in
      let none = ap length settled.none in
      ⊎_elim
      (λ (some : 0 < first_picture.size). let f = (settled.on_way.going.first some).0 in
      absurd (omega (arith, f, count, none)))
      (λ (zero_size : first_picture.size ≤ 0). let e : first_picture.size ≡ 0 =
      omega (arith, zero_size) in e)
      (cases_lt 0 first_picture.size)

  empty_path : length old.path.items ≡ 0
  empty_path = ⊎_elim
      (λ (some : 0 < length old.path.items).
      let under = settled.on_way.below (get_or old.path.items 0 no_edge) (
        0,
        some,
        get_or_default old.path.items 0 (get_or old.path.items 0 no_edge) no_edge
            some,
      ) in
      absurd (omega (arith, under, empty_size)))
      (λ (none : length old.path.items ≤ 0). let e : length old.path.items ≡ 0 =
      omega (arith, none) in e)
      (cases_lt 0 (length old.path.items))

  pub set_out_first : IsOnWay graph new
  set_out_first =
      let N2 : Picture = N graph old new first_picture first_shows class is_new h in
      let n = is_entered graph old new first_picture first_shows class is_new h in
      let size = n.size in
      let e0 : Edge = record { place = length old.on_way.items; next = 0 } in
      let longer = length_push old.path.items e0 in
      let level = ap length h.path in
      let in_path : (other : Edge) → Contains new.path.items other → e0 ≡ other =
      λ other here. ⊎_elim
      (λ before. let few = before.1 in absurd (omega (arith, few, empty_path)))
      (λ last. only e0 other last)
      (Contains-append_cases old.path.items (e0 ∷ []) other
      (subst (λ (l : List Edge). Contains l other) h.path here)) in
      let is_in : Contains new.path.items e0 =
      subst (λ (l : List Edge). Contains l e0) (sym h.path)
      (Contains-append_right old.path.items (e0 ∷ []) e0 (itself e0)) in
      let old_size = first_shows.size in
      record {
        picture = N2;
        shows = shows_entered graph old new first_picture first_shows class is_new h;
        going = enter graph first_picture (IsGone old.path.items) settled.on_way.going N2 class
            (IsGone new.path.items)
            (sym (first_shows.standing class) ∙ is_new)
            (λ place few. absurd (omega (arith, few, empty_size))) n
            (λ place edge few gone.
            let lt : edge < 0 =
            gone e0 is_in (let q : length old.on_way.items ≡ place =
            omega (arith, few, size, old_size, empty_size) in q) in
            absurd (omega (arith, lt)));
        below = λ other here. let e = ap (λ (x : Edge). x.place) (in_path other here) in
            omega (arith, e, size, old_size);
        climbs = λ lower upper lt few. absurd (omega (arith, lt, few, longer, level, empty_path));
      }

-- along an edge of the last run
module _ (graph : List (List ℕ)) (old mid new : Rings) (e : Edge) (along : IsAlong graph old e)
    (target : ℕ) (next : IsNext graph old e target)
    (is_new : standing_in old.standings.items target ≡ New)
    (mid_path : mid.path.items ≡ old.path.items ++ gone_over e ∷ [])
    (mid_way : mid.on_way.items ≡ old.on_way.items) (mid_runs : mid.runs.items ≡ old.runs.items)
    (mid_standings : mid.standings.items ≡ old.standings.items)
    (mid_labels : mid.labels.items ≡ old.labels.items)
    (h : HasEntered mid new target) where
  abbrev way_picture : Picture
  way_picture = along.under_way.picture

  mid_shows : Shows graph mid way_picture
  mid_shows =
      let sh = along.under_way.shows in
      record {
        level = ap length mid_standings ∙ sh.level;
        label_level = ap length mid_labels ∙ sh.label_level;
        size = ap length mid_way ∙ sh.size;
        on_way = λ place few. ap (λ l. get_or l place 0) mid_way ∙ sh.on_way place few;
        count = ap length mid_runs ∙ sh.count;
        start = λ run few. ap (λ l. (get_or l run no_run).start) mid_runs ∙ sh.start run few;
        ring = λ run few. ap (λ l. (get_or l run no_run).ring) mid_runs ∙ sh.ring run few;
        standing = λ n. ap (λ l. standing_in l n) mid_standings ∙ sh.standing n;
        label = λ n. ap (λ l. get_or l n None) mid_labels ∙ sh.label n;
      }

  mid_new : standing_in mid.standings.items target ≡ New
  mid_new = ap (λ l. standing_in l target) mid_standings ∙ is_new

  pub set_out_along : IsOnWay graph new
  set_out_along =
      let P = way_picture in
      let s = along.under_way.going in
      let gone : ℕ → ℕ → Type 0 = IsGone (old.path.items ++ e ∷ []) in
      let N2 : Picture = N graph mid new P mid_shows target mid_new h in
      let n = is_entered graph mid new P mid_shows target mid_new h in
      let size = n.size in
      let e0 : Edge = record { place = length mid.on_way.items; next = 0 } in
      let path_is : new.path.items ≡ (old.path.items ++ gone_over e ∷ []) ++ e0 ∷ [] =
      h.path ∙ ap (λ l. l ++ e0 ∷ []) mid_path in
      let path_too : new.path.items ≡ old.path.items ++ (gone_over e ∷ e0 ∷ []) =
      path_is ∙ append_assoc old.path.items (gone_over e ∷ []) (e0 ∷ []) in
      let in_it : Contains new.path.items e0 =
      subst (λ (l : List Edge). Contains l e0) (sym path_is)
      (Contains-append_right (old.path.items ++ gone_over e ∷ []) (e0 ∷ []) e0
      (itself e0)) in
      let small : e.place < P.size =
      along.under_way.below e (Contains-append_right old.path.items (e ∷ []) e (itself e)) in
      let some = along.some in
      let old_count = along.under_way.shows.count in
      let last : ℕ = P.count - 1 in
      let is_last : last + 1 ≡ P.count = omega (arith, some, old_count) in
      let few_last : last < P.count = omega (arith, is_last) in
      let from : P.start last ≤ e.place =
      subst (λ (k : ℕ). k ≤ e.place)
      (ap (λ k. (get_or old.runs.items (k - 1) no_run).start) old_count
      ∙ along.under_way.shows.start last few_last) along.in_last in
      let class_is = along.under_way.shows.on_way e.place small in
      let edge_old : IsEdge graph P e.place e.next target =
      subst (λ (k : ℕ). (e.next < length (targets graph k))
      × (get_or (targets graph k) e.next target ≡ target)) class_is (next.few, next.is) in
      let edge_new : IsEdge graph N2 e.place e.next target =
      subst (λ (k : ℕ). (e.next < length (targets graph k))
      × (get_or (targets graph k) e.next target ≡ target)) (sym (n.way_old e.place small))
      edge_old in
      let target_new : P.standing target ≡ New =
      sym (along.under_way.shows.standing target) ∙ is_new in
      let mid_size = mid_shows.size in
      let less : ℕ → ℕ → Type 0 = λ place edge. (place < P.size) × gone place edge in
      let entered = enter graph P gone s N2 target less target_new
      (λ place few. to_target graph P gone s last is_last place e.place e.next target few from
      small edge_old) n (λ place edge few both. both) in
      let going = advance graph N2 less entered (IsGone new.path.items) e.place e.next target
      edge_new
      (λ place edge few gone_new. ⊎_elim
      (λ (l : place < P.size). ⊎_elim
      (λ before. inl (l, before))
      (λ now. inr now)
      (gone_step old.path.items (e0 ∷ []) e place edge
      (subst (λ (p : List Edge). IsGone p place edge) path_too gone_new)))
      (λ (g : P.size ≤ place).
      let lt : edge < 0 = gone_new e0 in_it
      (let q : length mid.on_way.items ≡ place = omega (arith, g, few, size, mid_size) in q) in
      absurd (omega (arith, lt)))
      (cases_lt place P.size))
      (λ run few start. inr (
        P.size,
        n.standing_new,
        (let begin = entered.starts run few in
            omega (arith, begin, size)),
      ))
      (λ run few start back. absurd (not_new e.place
      (sym target_new ∙ ap P.standing (back ∙ n.way_old e.place small)
      ∙ s.stands e.place small))) in
      let longer = length_push (old.path.items ++ gone_over e ∷ []) e0 in
      let longer1 = length_push old.path.items (gone_over e) in
      let longer2 = length_push old.path.items e in
      let level = ap length path_is in
      let place_at : (k : ℕ) → k < length (old.path.items ++ gone_over e ∷ []) →
      (get_or new.path.items k no_edge).place
      ≡ (get_or (old.path.items ++ e ∷ []) k no_edge).place =
      λ k few. ap (λ l. (get_or l k no_edge).place) path_is ∙ ap (λ (x : Edge). x.place)
      (get_or_append_left (old.path.items ++ gone_over e ∷ []) (e0 ∷ []) no_edge k few)
      ∙ places old.path.items (gone_over e) e k refl in
      record {
        picture = N2;
        shows = shows_entered graph mid new P mid_shows target mid_new h;
        going = going;
        below = λ other here. ⊎_elim
            (λ before. ⊎_elim
            (λ in_front. let under = along.under_way.below other
            (Contains-append_left old.path.items (e ∷ []) other in_front) in
            omega (arith, under, size))
            (λ at_last. let q = ap (λ (x : Edge). x.place) (only (gone_over e) other at_last) in
            omega (arith, q, small, size))
            (Contains-append_cases old.path.items (gone_over e ∷ []) other before))
            (λ last_one. let q = ap (λ (x : Edge). x.place) (only e0 other last_one) in
            omega (arith, q, size, mid_size))
            (Contains-append_cases (old.path.items ++ gone_over e ∷ []) (e0 ∷ []) other
            (subst (λ (l : List Edge). Contains l other) path_is here));
        climbs = λ lower upper lt few.
            let low_few : lower < length (old.path.items ++ gone_over e ∷ []) =
            omega (arith, lt, few, longer, level) in
            let low = place_at lower low_few in
            ⊎_elim
            (λ (l : upper < length (old.path.items ++ gone_over e ∷ [])).
            let high = place_at upper l in
            let all = along.under_way.climbs lower upper lt (omega (arith, l, longer1, longer2)) in
            omega (arith, all, low, high))
            (λ (g : length (old.path.items ++ gone_over e ∷ []) ≤ upper).
            let q : length (old.path.items ++ gone_over e ∷ []) ≡ upper =
            omega (arith, g, few, longer, level) in
            let high = ap (λ l. (get_or l upper no_edge).place) path_is
            ∙ ap (λ (x : Edge). x.place)
            (get_or_push (old.path.items ++ gone_over e ∷ []) e0 no_edge upper q) in
            let small_few : lower < length (old.path.items ++ e ∷ []) =
            omega (arith, low_few, longer1, longer2) in
            let it : Edge = get_or (old.path.items ++ e ∷ []) lower no_edge in
            let under = along.under_way.below it (
              lower,
              small_few,
              get_or_default (old.path.items ++ e ∷ []) lower it no_edge
                  small_few,
            ) in
            omega (arith, low, high, under, mid_size))
            (cases_lt upper (length (old.path.items ++ gone_over e ∷ [])));
      }

-- ---- a class with edges left is taken off the path

pub taken : (graph : List (List ℕ)) (old new : Rings) (e : Edge) → IsOnWay graph old →
    0 < length old.runs.items → HasTaken old new e → IsAlong graph new e
taken graph old new e way some h =
    let sh = way.shows in
    let shows : Shows graph new way.picture = record {
      level = ap length h.standings ∙ sh.level;
      label_level = ap length h.labels ∙ sh.label_level;
      size = ap length h.on_way ∙ sh.size;
      on_way = λ place few. ap (λ l. get_or l place 0) h.on_way ∙ sh.on_way place few;
      count = ap length h.runs ∙ sh.count;
      start = λ run few. ap (λ l. (get_or l run no_run).start) h.runs ∙ sh.start run few;
      ring = λ run few. ap (λ l. (get_or l run no_run).ring) h.runs ∙ sh.ring run few;
      standing = λ n. ap (λ l. standing_in l n) h.standings ∙ sh.standing n;
      label = λ n. ap (λ l. get_or l n None) h.labels ∙ sh.label n;
    } in
    let all : IsUnderWay graph new old.path.items =
    record {
      picture = way.picture;
      shows = shows;
      going = way.going;
      below = way.below;
      climbs = way.climbs;
    } in
    let level = ap length h.runs in
    record {
      under_way = subst (IsUnderWay graph new) h.path all;
      some = omega (arith, some, level);
      in_last = subst (λ (l : List Run). last_start_of l ≤ e.place) (sym h.runs) h.in_last;
    }

-- ---- nothing is on the way any more

pub settled_on : (graph : List (List ℕ)) (old new : Rings) (class : ℕ) →
    IsSettled graph old class → IsOnWay graph new → length new.runs.items ≡ 0 →
    ((n : ℕ) → standing_in new.standings.items n ≡ New → standing_in old.standings.items n ≡ New) →
    (standing_in new.standings.items class ≡ New → ⊥) → IsSettled graph new (class + 1)
settled_on graph old new class settled way short was started = record {
  on_way = way;
  none = empty new.runs.items short;
  done = λ before few. by before few (standing_in new.standings.items before) refl;
}
  where
    empty : (runs : List Run) → length runs ≡ 0 → runs ≡ []
    empty [] e = refl
    empty (x ∷ runs) e = absurd (omega (arith, e))

    nothing : (place : ℕ) → place < way.picture.size → ⊥
    nothing place few =
        let f = (way.going.first (omega (arith, few))).0 in
        let count = way.shows.count in
        omega (arith, f, count, short)

    by : (before : ℕ) → before < class + 1 → (v : Standing) →
        standing_in new.standings.items before ≡ v → standing_in new.standings.items before ≡ Done
    by before few Done e = e
    by before few (Open place) e =
        absurd (nothing place (way.going.is_at before place
        (sym (way.shows.standing before) ∙ e)).0)
    by before few New e = ⊎_elim
        (λ (l : before < class). absurd (new_done (sym (was before e) ∙ settled.done before l)))
        (λ (g : class ≤ before). let q : before ≡ class = omega (arith, g, few) in
        absurd (started (sym (ap (standing_in new.standings.items) q) ∙ e)))
        (cases_lt before class)

-- ---- the search begins

-- a class that leads nowhere reaches itself alone
stuck : (graph : List (List ℕ)) (n : ℕ) → targets graph n ≡ [] → (steps x : ℕ) →
    HasWay graph steps n x → n ≡ x
stuck graph n nowhere zero x way = way
stuck graph n nowhere (suc steps) x way =
    absurd (none way.0 (subst (λ (l : List ℕ). Contains l way.0) nowhere way.1))

pub began : (graph : List (List ℕ)) (rings : Rings) →
    rings.standings.items ≡ replicate (length graph) New →
    rings.labels.items ≡ replicate (length graph) None →
    rings.on_way.items ≡ [] → rings.path.items ≡ [] → rings.runs.items ≡ [] →
    IsSettled graph rings 0
began graph rings standings labels on_way path runs =
    let anew : (n : ℕ) → n < length graph → standing_in rings.standings.items n ≡ New =
    λ n few. ap (λ l. standing_in l n) standings ∙ get_or-replicate (length graph) n New Done
    few in
    let level : length rings.standings.items ≡ length graph =
    ap length standings ∙ length-replicate (length graph) New in
    let label_level : length rings.labels.items ≡ length graph =
    ap length labels ∙ length-replicate (length graph) None in
    let past : (n : ℕ) → standing_in rings.standings.items n ≡ Done → length graph ≤ n =
    λ n e. ⊎_elim (λ (few : n < length graph). absurd (new_done (sym (anew n few) ∙ e)))
    (λ (g : length graph ≤ n). g) (cases_lt n (length graph)) in
    let no_targets : (n : ℕ) → length graph ≤ n → targets graph n ≡ [] =
    λ n g. get_or_past graph n [] g in
    let leads_nowhere : (n m : ℕ) → length graph ≤ n → Contains (targets graph n) m → ⊥ =
    λ n m g here. none m (subst (λ (l : List ℕ). Contains l m) (no_targets n g) here) in
    let not_open : (n place : ℕ) → standing_in rings.standings.items n ≡ Open place → ⊥ =
    λ n place e. ⊎_elim
    (λ (few : n < length graph). not_new place (sym (anew n few) ∙ e))
    (λ (g : length graph ≤ n). not_done place
    (sym (get_or_past rings.standings.items n Done (omega (arith, g, level))) ∙ e))
    (cases_lt n (length graph)) in
    let only_itself : (n x : ℕ) → length graph ≤ n → Reaches graph n x → n ≡ x =
    λ n x g way. stuck graph n (no_targets n g) way.0 x way.1 in
    let picture : Picture = record {
      size = 0;
      on_way = λ place. get_or rings.on_way.items place 0;
      count = 0;
      start = λ run. 0;
      ring = λ run. None;
      standing = standing_in rings.standings.items;
      label = λ n. get_or rings.labels.items n None;
    } in
    let going : IsGoing graph picture (IsGone []) = record {
      stands = λ place few. absurd (omega (arith, few));
      is_at = λ n place e. absurd (not_open n place e);
      forward = λ lower upper le few. absurd (omega (arith, few));
      back = λ run place few within. absurd (omega (arith, few));
      starts = λ run few. absurd (omega (arith, few));
      rises = λ lower upper le few. absurd (omega (arith, few));
      first = λ some. absurd (omega (arith, some));
      leads = λ run place edge target few from small gone is. absurd (omega (arith, few));
      reached = λ run x few is. absurd (omega (arith, few));
      itself = λ run x few is. absurd (omega (arith, few));
      own = λ run few. absurd (omega (arith, few));
      closed = λ n m e here. absurd (leads_nowhere n m (past n e) here);
      exact = λ n e.
          let g = past n e in
          let no_label : get_or rings.labels.items n None ≡ None =
          get_or_past rings.labels.items n None (omega (arith, g, label_level)) in
          record {
            reached = λ x is. absurd (none_some x (sym no_label ∙ is));
            itself = λ x is. absurd (none_some x (sym no_label ∙ is));
            least =
                λ x way self. absurd (leads_nowhere n self.0 g
                (subst (λ (k : ℕ). Contains (targets graph k) self.0)
                (sym (only_itself n x g way)) self.1));
          };
    } in
    let all : IsUnderWay graph rings [] = record {
      picture = picture;
      shows = record {
        level = level;
        label_level = label_level;
        size = ap length on_way;
        on_way = λ place few. refl;
        count = ap length runs;
        start = λ run few. absurd (omega (arith, few));
        ring = λ run few. absurd (omega (arith, few));
        standing = λ n. refl;
        label = λ n. refl;
      };
      going = going;
      below = λ other here. absurd (none other here);
      climbs = λ lower upper lt few. absurd (omega (arith, few));
    } in
    record {
      on_way = subst (IsUnderWay graph rings) (sym path) all;
      none = runs;
      done = λ before few. absurd (omega (arith, few));
    }
  where
    none_some : (x : ℕ) → None ≡ Some x → ⊥
    none_some x e = cc

-- ---- the search ends

pub ended : (graph : List (List ℕ)) (rings : Rings) (class n : ℕ) → IsSettled graph rings class →
    n < class → IsLeastRing graph n (get_or rings.labels.items n None)
ended graph rings class n settled few =
    let done = sym (settled.on_way.shows.standing n) ∙ settled.done n few in
    subst (IsLeastRing graph n) (sym (settled.on_way.shows.label n))
    (settled.on_way.going.exact n done)
