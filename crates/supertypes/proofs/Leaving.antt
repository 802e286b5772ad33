-- The search for rings leaves the last run: its classes are done.
use Rattle.std.proofs.Common.{◌≡◌, ◌≢◌, refl, ap, sym, subst, ◌∙◌, ℕ, ◌+◌, ◌-◌}
use Rattle.std.proofs.Common.{◌≤◌, ◌<◌, ◌⊎◌, List, [], ◌∷◌, length, get_or, drop}
use Rattle.std.proofs.Common.{arith, inl, ⊎_elim, Option, Some, None}
use Rattle.std.specs.Prelude.{Contains}
use Rattle.std.proofs.lemmas.List.{get_or_default}
use Rattle.std.proofs.lemmas.List.{get_or_append_left, get_or_push, length_push}
use Rattle.std.proofs.lemmas.List.{get_or-take, get_or-drop, length-drop, length-take-le}
use Rattle.std.proofs.lemmas.Bool.{cases_eq}
use Rattle.supertypes.specs.Rings.{IsAtMost}
use Rattle.supertypes.specs.declared.rings.Standing.{Standing}
use Rattle.supertypes.specs.declared.rings.Standing.TheVariants.{Done}
use Rattle.supertypes.specs.declared.rings.Run.{Run}
use Rattle.supertypes.specs.declared.rings.Edge.{Edge}
use Rattle.supertypes.specs.declared.rings.Rings.{Rings}
use Rattle.supertypes.specs.Going.{Picture, Shows, IsEdge}
use Rattle.supertypes.specs.Going.{IsGoing, IsGone, IsUnderWay, IsOnWay}
use Rattle.supertypes.specs.Going.{HasNoEdge, HasLeft}
use Rattle.supertypes.specs.Going.{lesser, last_start_of}
use Rattle.supertypes.specs.Going.{standing_in, no_run, no_edge}
use Rattle.supertypes.proofs.Runs.{at_most_first, at_most_second, lesser_from}
use Rattle.supertypes.proofs.Turns.{left, leave}
use Rattle.supertypes.proofs.Shown.{folded_length, folded_start, folded_other, folded_ring}

module _ (graph : List (List ℕ)) (old new : Rings) (front : List Run) (run : Run)
    (way : IsOnWay graph old) (no_edges : HasNoEdge old) (h : HasLeft old new front run) where
  abbrev PL : Picture
  PL = way.picture

  shl : Shows graph old PL
  shl = way.shows

  sl : IsGoing graph PL (IsGone old.path.items)
  sl = way.going

  abbrev last : ℕ
  last = length front

  is_last : last + 1 ≡ PL.count
  is_last = sym (length_push front run) ∙ sym (ap length h.before) ∙ shl.count

  few_last : last < PL.count
  few_last = omega (arith, is_last)

  run_is : get_or old.runs.items last no_run ≡ run
  run_is = ap (λ l. get_or l last no_run) h.before ∙ get_or_push front run no_run last refl

  front_is : (r : ℕ) → r < last → get_or old.runs.items r no_run ≡ get_or front r no_run
  front_is r few = ap (λ l. get_or l r no_run) h.before
      ∙ get_or_append_left front (run ∷ []) no_run r few

  start_is : run.start ≡ PL.start last
  start_is = sym (ap (λ (x : Run). x.start) run_is) ∙ shl.start last few_last

  ring_is : run.ring ≡ PL.ring last
  ring_is = sym (ap (λ (x : Run). x.ring) run_is) ∙ shl.ring last few_last

  last_start_is : last_start_of old.runs.items ≡ PL.start last
  last_start_is =
      ap (λ k. (get_or old.runs.items k no_run).start) (let count = shl.count in
      let q : length old.runs.items - 1 ≡ last = omega (arith, is_last, count) in q)
      ∙ shl.start last few_last

  abbrev ring_left : ℕ → Option ℕ
  ring_left r = (get_or new.runs.items r no_run).ring

  ring_new_last : (r : ℕ) → r + 1 ≡ last → ring_left r ≡ lesser (PL.ring r) (PL.ring last)
  ring_new_last r e =
      let few : r < length front = omega (arith, e) in
      ap (λ l. (get_or l r no_run).ring) h.runs ∙ folded_ring front run.ring r few
      (omega (arith, e))
      ∙ ap (λ (x : Run). lesser x.ring run.ring) (sym (front_is r few))
      ∙ ap (λ o. lesser o run.ring) (shl.ring r (omega (arith, few, is_last)))
      ∙ ap (lesser (PL.ring r)) ring_is

  ring_new_other : (r : ℕ) → r < last → r + 1 ≢ last → ring_left r ≡ PL.ring r
  ring_new_other r few differs =
      ap (λ l. (get_or l r no_run).ring) h.runs
      ∙ ap (λ (x : Run). x.ring)
      (folded_other front run.ring r (λ same. differs (omega (arith, same, few))))
      ∙ ap (λ (x : Run). x.ring) (sym (front_is r few)) ∙ shl.ring r (omega (arith, few, is_last))

  better : (r x : ℕ) → r < last → IsAtMost (PL.ring r) x → IsAtMost (ring_left r) x
  better r x few at_most = ⊎_elim
      (λ (e : r + 1 ≡ last). subst (λ (o : Option ℕ). IsAtMost o x) (sym (ring_new_last r e))
      (at_most_first (PL.ring r) (PL.ring last) x at_most))
      (λ (differs : r + 1 ≢ last). subst (λ (o : Option ℕ). IsAtMost o x)
      (sym (ring_new_other r few differs)) at_most)
      (cases_eq (r + 1) last)

  told : (r x : ℕ) → r + 1 ≡ last → IsAtMost (PL.ring last) x → IsAtMost (ring_left r) x
  told r x e at_most = subst (λ (o : Option ℕ). IsAtMost o x) (sym (ring_new_last r e))
      (at_most_second (PL.ring r) (PL.ring last) x at_most)

  came : (r x : ℕ) → r < last → ring_left r ≡ Some x → (PL.ring r ≡ Some x)
      ⊎ (PL.ring last ≡ Some x)
  came r x few is = ⊎_elim
      (λ (e : r + 1 ≡ last). lesser_from (PL.ring r) (PL.ring last) x
      (sym (ring_new_last r e) ∙ is))
      (λ (differs : r + 1 ≢ last). inl (sym (ring_new_other r few differs) ∙ is))
      (cases_eq (r + 1) last)

  -- no class on the path lies in the last run
  under : (other : Edge) → Contains old.path.items other → other.place < PL.start last
  under other here =
      let few = here.1 in
      ⊎_elim
      (λ empty. absurd (omega (arith, few, empty)))
      (λ below.
      let bound = last_start_is in
      let at : get_or old.path.items here.0 no_edge ≡ other =
      get_or_default old.path.items here.0 no_edge other few ∙ here.2 in
      let same = ap (λ (x : Edge). x.place) at in
      ⊎_elim
      (λ (e : here.0 ≡ length old.path.items - 1). let q =
      ap (λ k. (get_or old.path.items k no_edge).place) e in
      omega (arith, below, bound, same, q))
      (λ (differs : here.0 ≢ length old.path.items - 1).
      let up = way.climbs here.0 (length old.path.items - 1) (omega (arith, few, differs))
      (omega (arith, few)) in
      omega (arith, up, below, bound, same))
      (cases_eq here.0 (length old.path.items - 1)))
      no_edges

  all_gone : (place edge m : ℕ) → PL.start last ≤ place → place < PL.size →
      IsEdge graph PL place edge m → IsGone old.path.items place edge
  all_gone place edge m from small is =
      λ other here same. let lt = under other here in absurd (omega (arith, lt, same, from))

  abbrev classes : List ℕ
  classes = drop run.start old.on_way.items

  in_classes : (place : ℕ) → PL.start last ≤ place → place < PL.size →
      Contains classes (PL.on_way place)
  in_classes place from small =
      let size = shl.size in
      let long = length-drop run.start old.on_way.items in
      let few : place - run.start < length classes =
      omega (arith, long, size, small, from, start_is) in
      let at : run.start + (place - run.start) ≡ place = omega (arith, from, start_is) in (
        place - run.start,
        few,
        get_or-drop run.start old.on_way.items (place - run.start) (PL.on_way place)
            ∙ ap (λ k. get_or old.on_way.items k (PL.on_way place)) at
            ∙ get_or_default old.on_way.items place (PL.on_way place) 0
            (omega (arith, small, size)) ∙ shl.on_way place small,
      )

  from_classes : (n : ℕ) → Contains classes n → (place : ℕ) × (PL.start last ≤ place)
      × (place < PL.size) × (PL.on_way place ≡ n)
  from_classes n here =
      let size = shl.size in
      let long = length-drop run.start old.on_way.items in
      let few = here.1 in
      let place : ℕ = run.start + here.0 in
      let small : place < PL.size = omega (arith, few, long, size) in (
        place,
        omega (arith, start_is),
        small,
        sym (shl.on_way place small) ∙ get_or_default old.on_way.items place 0 n
            (omega (arith, small, size)) ∙ sym (get_or-drop run.start old.on_way.items here.0 n)
            ∙ here.2,
      )

  abbrev standing_left : ℕ → Standing
  standing_left = standing_in new.standings.items

  abbrev label_left : ℕ → Option ℕ
  label_left n = get_or new.labels.items n None

  done_left : (place : ℕ) → PL.start last ≤ place → place < PL.size →
      (standing_left (PL.on_way place) ≡ Done) × (label_left (PL.on_way place) ≡ PL.ring last)
  done_left place from small =
      let here = in_classes place from small in
      (h.settled.done (PL.on_way place) here, h.settled.label (PL.on_way place) here ∙ ring_is)

  same_left : (n : ℕ) → ((place : ℕ) → PL.start last ≤ place → place < PL.size →
      PL.on_way place ≡ n → ⊥) → (standing_left n ≡ PL.standing n) × (label_left n ≡ PL.label n)
  same_left n out =
      let outside : Contains classes n → ⊥ = λ here. let f = from_classes n here in
      out f.0 f.1 f.2 f.3 in
      (h.settled.stays n outside ∙ shl.standing n, h.settled.label_stays n outside ∙ shl.label n)

  pub left_on_way : IsOnWay graph new
  left_on_way =
      let picture : Picture = left graph PL (IsGone old.path.items) sl last is_last all_gone
      ring_left standing_left label_left done_left same_left better told came in
      let size = shl.size in
      let begin = sl.starts last few_last in
      let all : IsUnderWay graph new old.path.items = record {
        picture = picture;
        shows = record {
          level = h.settled.level ∙ shl.level;
          label_level = h.settled.label_level ∙ shl.label_level;
          size = ap length h.on_way ∙ length-take-le run.start old.on_way.items
              (omega (arith, start_is, begin, size)) ∙ start_is;
          on_way = λ place few.
              ap (λ l. get_or l place 0) h.on_way ∙ get_or-take run.start old.on_way.items place 0
              (omega (arith, few, start_is)) ∙ shl.on_way place (omega (arith, few, begin));
          count = ap length h.runs ∙ folded_length front run.ring;
          start = λ r few. ap (λ l. (get_or l r no_run).start) h.runs
              ∙ folded_start front run.ring r few ∙ ap (λ (x : Run). x.start)
              (sym (front_is r few)) ∙ shl.start r (omega (arith, few, is_last));
          ring = λ r few. refl;
          standing = λ n. refl;
          label = λ n. refl;
        };
        going = leave graph PL (IsGone old.path.items) sl last is_last all_gone ring_left
            standing_left label_left done_left same_left better told came;
        below = under;
        climbs = way.climbs;
      } in
      subst (IsUnderWay graph new) (sym h.path) all
