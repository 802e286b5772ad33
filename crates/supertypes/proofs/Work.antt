-- What the steps of the search for rings leave to do, and what they keep.
use Rattle.std.proofs.Common.{◌≡◌, ◌≢◌, ⊎_elim, refl, ap, sym, subst, ◌∙◌, ℕ, zero, suc, ◌+◌}
use Rattle.std.proofs.Common.{◌≤◌, ◌<◌, List, [], ◌∷◌, ◌++◌, length, get_or, take, arith}
use Rattle.std.proofs.Common.{Option, None, drop}
use Rattle.std.specs.Prelude.{Contains}
use Rattle.std.proofs.lemmas.List.{get_or_default, get_or-set_other, get_or_push, length_push}
use Rattle.std.proofs.lemmas.List.{length-drop, get_or-drop}
use Rattle.std.proofs.lemmas.Bool.{cases_eq}
use Rattle.reachability.specs.Reached.{targets}
use Rattle.supertypes.specs.declared.rings.Standing.{Standing}
use Rattle.supertypes.specs.declared.rings.Standing.TheVariants.{New, Open, Done}
use Rattle.supertypes.specs.declared.rings.Run.{Run}
use Rattle.supertypes.specs.declared.rings.Edge.{Edge}
use Rattle.supertypes.specs.declared.rings.Rings.{Rings}
use Rattle.supertypes.specs.Going.{IsNext, IsOnWay, HasEntered, HasRuns}
use Rattle.supertypes.specs.Going.{HasLeft, HasTaken, AreSettled, WereNew, folded}
use Rattle.supertypes.specs.Going.{standing_in, no_run, fresh, work}
use Rattle.supertypes.proofs.Shown.{folded_length}
use Rattle.supertypes.proofs.Stepped.{fresh_open}

pub work_folded : (old new : Rings) (x : Option ℕ) → HasRuns old new (folded old.runs.items x) →
    work new ≤ work old
work_folded old new x h =
    let a = ap fresh h.standings in
    let b = ap length h.path in
    let c = ap length h.runs in
    let d = folded_length old.runs.items x in
    omega (arith, a, b, c, d)

pub work_entered : (old mid new : Rings) (e : Edge) (class : ℕ) → HasEntered mid new class →
    standing_in old.standings.items class ≡ New →
    mid.path.items ≡ old.path.items ++ e ∷ [] → mid.standings.items ≡ old.standings.items →
    mid.runs.items ≡ old.runs.items → work new ≤ work old
work_entered old mid new e class h is_new path standings runs =
    let less : fresh new.standings.items + 1 ≡ fresh old.standings.items =
    ap (λ l. fresh l + 1) h.standings ∙ fresh_open mid.standings.items class
    (length mid.on_way.items) (ap (λ l. standing_in l class) standings ∙ is_new)
    ∙ ap fresh standings in
    let e0 : Edge = record { place = length mid.on_way.items; next = 0 } in
    let run : Run = record { start = length mid.on_way.items; ring = None } in
    let p : length new.path.items ≡ length old.path.items + 1 + 1 =
    ap length h.path ∙ length_push mid.path.items e0 ∙ ap (λ l. length l + 1) path
    ∙ ap (λ k. k + 1) (length_push old.path.items e) in
    let r : length new.runs.items ≡ length old.runs.items + 1 =
    ap length h.runs ∙ length_push mid.runs.items run ∙ ap (λ l. length l + 1) runs in
    omega (arith, less, p, r)

pub entered_were_new : (old mid new : Rings) (class : ℕ) → HasEntered mid new class →
    standing_in old.standings.items class ≡ New → mid.standings.items ≡ old.standings.items →
    WereNew old new
entered_were_new old mid new class h is_new standings n e = ⊎_elim
    (λ (same : n ≡ class). ap (standing_in old.standings.items) same ∙ is_new)
    (λ (differs : n ≢ class).
    ap (λ l. standing_in l n) (sym standings)
    ∙ sym (ap (λ l. standing_in l n) h.standings ∙ get_or-set_other mid.standings.items class n
    (Open (length mid.on_way.items)) Done differs) ∙ e)
    (cases_eq n class)

pub work_taken : (old new : Rings) (e : Edge) → HasTaken old new e → work new + 1 ≡ work old
work_taken old new e h =
    let a = ap fresh h.standings in
    let b = ap length h.path in
    let c = ap length h.runs in
    let d = length_push new.path.items e in
    omega (arith, a, b, c, d)

pub work_left : (old new : Rings) (front : List Run) (run : Run) → HasLeft old new front run →
    work new < work old
work_left old new front run h =
    let news = h.settled.news in
    let p = ap length h.path in
    let r = ap length h.runs in
    let f = folded_length front run.ring in
    let b = ap length h.before in
    let l = length_push front run in
    omega (arith, news, p, r, f, b, l)

pub has_left : (old mid new : Rings) (front : List Run) (run : Run) → old.runs.items ≡ front
    ++ run ∷ [] → mid.runs.items ≡ front → mid.on_way.items ≡ old.on_way.items →
    mid.path.items ≡ old.path.items →
    AreSettled old.standings.items mid.standings.items old.labels.items mid.labels.items
    (drop run.start old.on_way.items) run.ring →
    new.runs.items ≡ folded mid.runs.items run.ring →
    new.on_way.items ≡ take run.start mid.on_way.items → new.path.items ≡ mid.path.items →
    new.standings.items ≡ mid.standings.items → new.labels.items ≡ mid.labels.items →
    HasLeft old new front run
has_left old mid new front run before runs way path settled new_runs new_way new_path new_standings
    new_labels = record {
      before = before;
      runs = new_runs ∙ ap (λ l. folded l run.ring) runs;
      on_way = new_way ∙ ap (take run.start) way;
      path = new_path ∙ path;
      settled =
          subst (λ (l : List Standing). AreSettled old.standings.items l old.labels.items
          new.labels.items (drop run.start old.on_way.items) run.ring) (sym new_standings)
          (subst (λ (l : List (Option ℕ)). AreSettled old.standings.items mid.standings.items
          old.labels.items l (drop run.start old.on_way.items) run.ring) (sym new_labels) settled);
    }

-- a run starts on the way
pub run_start : (graph : List (List ℕ)) (old : Rings) (front : List Run) (run : Run) →
    IsOnWay graph old → old.runs.items ≡ front ++ run ∷ [] → run.start ≤ length old.on_way.items
run_start graph old front run way before =
    let sh = way.shows in
    let count : length front + 1 ≡ way.picture.count =
    sym (length_push front run) ∙ sym (ap length before) ∙ sh.count in
    let few : length front < way.picture.count = omega (arith, count) in
    let is : run.start ≡ way.picture.start (length front) =
    sym (ap (λ (l : List Run). (get_or l (length front) no_run).start) before
    ∙ ap (λ (x : Run). x.start) (get_or_push front run no_run (length front) refl))
    ∙ sh.start (length front) few in
    let begin = way.going.starts (length front) few in
    let size = sh.size in
    omega (arith, is, begin, size)

pub next_as : (graph : List (List ℕ)) (old new : Rings) (e : Edge) (target : ℕ) →
    new.on_way.items ≡ old.on_way.items → IsNext graph old e target → IsNext graph new e target
next_as graph old new e target same next =
    let at : get_or old.on_way.items e.place 0 ≡ get_or new.on_way.items e.place 0 =
    ap (λ l. get_or l e.place 0) (sym same) in
    record {
      few = subst (λ (k : ℕ). e.next < length (targets graph k)) at next.few;
      is = subst (λ (k : ℕ). get_or (targets graph k) e.next target ≡ target) at next.is;
    }

-- the row of a class gives its next edge
pub next_of : (graph : List (List ℕ)) (rings : Rings) (e : Edge) (class : ℕ) (row : List ℕ)
    (target : ℕ) → class ≡ get_or rings.on_way.items e.place 0 →
    row ≡ targets graph class → e.next < length row → target ≡ get_or row e.next target →
    IsNext graph rings e target
next_of graph rings e class row target class_is row_is few is =
    let same : row ≡ targets graph (get_or rings.on_way.items e.place 0) =
    row_is ∙ ap (targets graph) class_is in
    record {
      few = subst (λ (l : List ℕ). e.next < length l) same few;
      is = subst (λ (l : List ℕ). get_or l e.next target ≡ target) same (sym is);
    }

-- each class of the way from a place on is one of the graph
pub rest_few : (graph : List (List ℕ)) (rings : Rings) (start n : ℕ) → IsOnWay graph rings →
    Contains (drop start rings.on_way.items) n → n < length rings.standings.items
rest_few graph rings start n way here =
    let few = here.1 in
    let long = length-drop start rings.on_way.items in
    let size = way.shows.size in
    let place : ℕ = start + here.0 in
    let small : place < way.picture.size = omega (arith, few, long, size) in
    let at : n ≡ way.picture.on_way place =
    sym here.2 ∙ get_or-drop start rings.on_way.items here.0 n
    ∙ get_or_default rings.on_way.items place n 0 (omega (arith, small, size))
    ∙ way.shows.on_way place small in
    open_few rings.standings.items n place (way.shows.standing n ∙ ap way.picture.standing at
    ∙ way.going.stands place small)
  where
    open_few : (standings : List Standing) (n place : ℕ) → standing_in standings n ≡ Open place →
        n < length standings
    open_few [] n place e = absurd (differ place e)
      where
        differ : (place : ℕ) → Done ≡ Open place → ⊥
        differ place e = cc
    open_few (x ∷ standings) zero place e = omega arith
    open_few (x ∷ standings) (suc n) place e =
        let more = open_few standings n place e in omega (arith, more)

-- ---- along the edges of a class

-- what the search keeps while it goes along them
pub kept_new : (old new : Rings) → new.standings.items ≡ old.standings.items → WereNew old new
kept_new old new same n e = ap (λ l. standing_in l n) (sym same) ∙ e

pub then_new : (a b c : Rings) → WereNew a b → WereNew b c → WereNew a c
then_new a b c before after n e = before n (after n e)

pub taken_new : (old new : Rings) (e : Edge) → HasTaken old new e → WereNew old new
taken_new old new e h n is = ap (λ l. standing_in l n) (sym h.standings) ∙ is
