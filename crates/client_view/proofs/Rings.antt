-- The ring that a class meets, by number.
use Rattle.std.proofs.Common.{◌≡◌, refl, ap, sym, subst, ◌∙◌, ℕ, zero, suc, ◌<◌, ◌⊎◌, arith}
use Rattle.std.proofs.Common.{Bool, true, false, ◌&&◌, List, [], ◌∷◌, cond, inl, inr}
use Rattle.std.proofs.Common.{Option}
use Rattle.std.proofs.Common.{Some, None}
use Rattle.std.specs.Prelude.{slice_get, option_and_then, find}
use Rattle.std.specs.Option.{option_map_or}
use Rattle.std.specs.List.{list_any}
use Rattle.std.proofs.lemmas.Bool.{and_from, and_parts, cases_Bool, false≢true}
use Rattle.std.proofs.lemmas.Option.{slice_get_within}
use Rattle.supertypes.specs.Ways.{Reaches, ReachesItself, HasNoRing as FreeNumbers}
use Rattle.supertypes.specs.Rings.{IsLeastRing}
use Rattle.class_views.specs.View.{View}
use Rattle.class_views.specs.World.{World, supertypes, leads_to, reaches_itself, ring_of}
use Rattle.class_views.specs.World.{HasNoRing}
use Rattle.class_views.proofs.Ways.{any_in, in_any}
use Rattle.class_views.proofs.Worlds.{leads_to_way, way_leads_to}
use Rattle.client_view.specs.Numbers.{AreApart, IsGraphOf}
use Rattle.client_view.proofs.Numbered.{number_there, number_is}
use Rattle.client_view.proofs.Graphs.{looks, edge_name, name_edge, leads_reach, reach_leads}
use Rattle.client_view.proofs.Graphs.{reach_there, way_numbered, begins, has_number}

-- ---- the first that passes

pub find_first : {A : Type 0} (test : A → Bool) (xs : List A) (n : ℕ) (x : A) →
    slice_get xs n ≡ Some x → test x ≡ true →
    ((m : ℕ) (y : A) → m < n → slice_get xs m ≡ Some y → test y ≡ false) →
    find test xs ≡ Some x
find_first test [] n x at t before = absurd cc
find_first test (y ∷ xs) zero x at t before =
    let y_is : y ≡ x = cc in
    ap (λ b. cond b (Some y) (find test xs)) (ap test y_is ∙ t) ∙ ap Some y_is
find_first test (y ∷ xs) (suc n) x at t before =
    ap (λ b. cond b (Some y) (find test xs)) (before 0 y (omega arith) refl)
    ∙ find_first test xs n x at t (λ m z less there. before (suc m) z (omega (arith, less)) there)

pub find_none : {A : Type 0} (test : A → Bool) (xs : List A) →
    ((m : ℕ) (y : A) → slice_get xs m ≡ Some y → test y ≡ false) → find test xs ≡ None
find_none test [] all = refl
find_none test (y ∷ xs) all =
    ap (λ b. cond b (Some y) (find test xs)) (all 0 y refl)
    ∙ find_none test xs (λ m z there. all (suc m) z there)

pub none_found : {A : Type 0} (test : A → Bool) (xs : List A) (n : ℕ) (x : A) →
    find test xs ≡ None → slice_get xs n ≡ Some x → test x ≡ true → ⊥
none_found test [] n x none at t = cc
none_found test (y ∷ xs) n x none at t =
    by (test y) refl (λ k e there. none_found test xs k x e there t) none n at
  where
    by : (b : Bool) → test y ≡ b →
        ((k : ℕ) → find test xs ≡ None → slice_get xs k ≡ Some x → ⊥) →
        cond b (Some y) (find test xs) ≡ None → (k : ℕ) → slice_get (y ∷ xs) k ≡ Some x → ⊥
    by true f later e k there = cc
    by false f later e zero there =
        let y_is : y ≡ x = cc in false≢true (sym f ∙ ap test y_is ∙ t)
    by false f later e (suc k) there = later k e there

-- ---- rings

module _ (world : World) (apart : AreApart world) (graph : List (List ℕ))
    (is : IsGraphOf world supertypes graph) where
  pub leads_numbers : (n m : ℕ) (c d : View) → slice_get world n ≡ Some c →
      slice_get world m ≡ Some d → leads_to world c.name d.name ≡ true → Reaches graph n m
  leads_numbers n m c d at there t =
      leads_reach world apart supertypes graph is n m c d at there
      (leads_to_way world c.name d.name t)

  pub numbers_lead : (n m : ℕ) (c d : View) → slice_get world n ≡ Some c →
      slice_get world m ≡ Some d → Reaches graph n m → leads_to world c.name d.name ≡ true
  numbers_lead n m c d at there way =
      way_leads_to world c.name d.name
      (reach_leads world apart supertypes graph is n m c d at there way)

  above_of : List ℕ → View → Bool
  above_of name c = list_any (λ above. leads_to world above name) (supertypes c)

  itself_numbers : (m : ℕ) (d : View) → slice_get world m ≡ Some d →
      reaches_itself world d.name ≡ true → ReachesItself graph m
  unfolding above_of
  itself_numbers m d at t =
      let up : list_any (λ above. leads_to world above d.name) (supertypes d) ≡ true =
      sym (ap (λ o. option_map_or (above_of d.name) o false)
      (looks world apart supertypes graph is m d at)) ∙ t in
      let found = any_in (λ above. leads_to world above d.name) (supertypes d) up in
      let way = leads_to_way world found.0 d.name found.2 in
      let next = begins world apart supertypes graph is found.0 d.name way.0 way.1 in
      let own = has_number world apart supertypes graph is found.0 next.0 next.1 in
      let end =
      way_numbered world apart supertypes graph is found.0 d.name way.0 way.1 own.0 own.1 in
      let e : Some end.number ≡ Some m = sym end.numbered ∙ number_is world apart m d at in
      let m_is : end.number ≡ m = cc in (
        own.0,
        name_edge world apart supertypes graph is m own.0 d found.0 at found.1 own.1,
        subst (λ k. Reaches graph own.0 k) m_is end.reached,
      )

  numbers_itself : (m : ℕ) (d : View) → slice_get world m ≡ Some d → ReachesItself graph m →
      reaches_itself world d.name ≡ true
  unfolding above_of
  numbers_itself m d at below =
      let up = edge_name world apart supertypes graph is m below.0 d at below.1 in
      let next = number_there world up.0 below.0 up.2 in
      let leads : leads_to world up.0 d.name ≡ true =
      subst (λ s. leads_to world s d.name ≡ true) next.named
      (numbers_lead below.0 m next.class d next.there at below.2) in
      ap (λ o. option_map_or (above_of d.name) o false)
      (looks world apart supertypes graph is m d at)
      ∙ in_any (λ above. leads_to world above d.name) up.0 (supertypes d) up.1 leads

  abbrev on_ring : List ℕ → View → Bool
  on_ring name c = leads_to world name c.name && reaches_itself world c.name

  module _ (n : ℕ) (c : View) (at : slice_get world n ≡ Some c) where
    fails : (m : ℕ) (d : View) → slice_get world m ≡ Some d →
        (Reaches graph n m → ReachesItself graph m → ⊥) → on_ring c.name d ≡ false
    fails m d there none = by (cases_Bool (on_ring c.name d))
      where
        by : (on_ring c.name d ≡ true) ⊎ (on_ring c.name d ≡ false) → on_ring c.name d ≡ false
        by (inl t) =
            let parts = and_parts (leads_to world c.name d.name) (reaches_itself world d.name) t in
            absurd (none (leads_numbers n m c d at there parts.0)
            (itself_numbers m d there parts.1))
        by (inr f) = f

    pub ring_by_number : (ring : Option ℕ) → IsLeastRing graph n ring →
        ring_of world c.name ≡ option_and_then (slice_get world) ring
    ring_by_number None least =
        find_none (on_ring c.name) world (λ m d there. fails m d there
        (λ way self. let none = least.least m way self in
        let e : None ≡ Some none.0 = none.1 in absurd cc))
    ring_by_number (Some k) least =
        let way = least.reached k refl in
        let few = slice_get_within world n c at in
        let end = reach_there world apart supertypes graph is n k few way in
        find_first (on_ring c.name) world k end.0 end.1
        (and_from (leads_to world c.name end.0.name) (reaches_itself world end.0.name)
        (numbers_lead n k c end.0 at end.1 way)
        (numbers_itself k end.0 end.1 (least.itself k refl)))
        (λ m d before there. fails m d there (λ to self.
        let bound = least.least m to self in
        let e : Some k ≡ Some bound.0 = bound.1 in
        let k_is : k ≡ bound.0 = cc in
        let under = bound.2 in
        absurd (omega (arith, before, k_is, under))))
        ∙ sym end.1

    -- no class that is reached reaches itself
    pub free_numbers : HasNoRing world c.name → FreeNumbers graph n
    free_numbers none k way self =
        let few = slice_get_within world n c at in
        let end = reach_there world apart supertypes graph is n k few way in
        none_found (on_ring c.name) world k end.0 none end.1
        (and_from (leads_to world c.name end.0.name) (reaches_itself world end.0.name)
        (numbers_lead n k c end.0 at end.1 way) (numbers_itself k end.0 end.1 self))
