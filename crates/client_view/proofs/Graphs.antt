-- Ways along names, and ways along the numbers of classes.
use Rattle.std.proofs.Common.{◌≡◌, refl, ap, sym, subst, ◌∙◌, ℕ, zero, suc, ◌<◌, arith, List}
use Rattle.std.proofs.Common.{[], ◌∷◌, length, Option, Some, None}
use Rattle.std.specs.Prelude.{slice_get, option_and_then, Contains}
use Rattle.std.specs.List.{filter_map, cons_option}
use Rattle.reachability.specs.Reached.{targets}
use Rattle.supertypes.specs.Ways.{HasWay, Reaches}
use Rattle.class_views.specs.View.{View}
use Rattle.class_views.specs.World.{World, class_of}
use Rattle.class_views.proofs.Ways.{In, first, later, Way, here, along}
use Rattle.client_view.specs.Numbers.{number_of, row_of, AreApart, IsGraphOf}
use Rattle.client_view.proofs.Numbered.{number_there, number_is, class_by_number}

-- ---- lists

pub in_contains : {A : Type 0} (x : A) (xs : List A) → In x xs → Contains xs x
in_contains x [] at = elim at [ ]
in_contains x (y ∷ xs) first = (0, omega arith, refl)
in_contains x (y ∷ xs) (later at) =
    let more = in_contains x xs at in
    let few = more.1 in
    (suc more.0, omega (arith, few), more.2)

pub contains_in : {A : Type 0} (x : A) (xs : List A) → Contains xs x → In x xs
contains_in x [] (k, few, is) = absurd (omega (arith, few))
contains_in x (y ∷ xs) (zero, few, is) = subst (λ z. In z (y ∷ xs)) is first
contains_in x (y ∷ xs) (suc k, few, is) = later (contains_in x xs (k, omega (arith, few), is))

pub get_there : {A : Type 0} (xs : List A) (n : ℕ) → n < length xs →
    (x : A) × (slice_get xs n ≡ Some x)
get_there [] n few = absurd (omega (arith, few))
get_there (x ∷ xs) zero few = (x, refl)
get_there (x ∷ xs) (suc n) few = get_there xs n (omega (arith, few))

module _ {A B : Type 0} (give : A → Option B) where
  pub given_in : (y : B) (xs : List A) → In y (filter_map give xs) →
      (x : A) × In x xs × (give x ≡ Some y)
  given_in y [] at = elim at [ ]
  given_in y (x ∷ xs) at = by (give x) refl (given_in y xs) at
    where
      by : (o : Option B) → give x ≡ o →
          (In y (filter_map give xs) → (z : A) × In z xs × (give z ≡ Some y)) →
          In y (cons_option o (filter_map give xs)) → (z : A) × In z (x ∷ xs) × (give z ≡ Some y)
      by None e more at = let found = more at in (found.0, later found.1, found.2)
      by (Some z) e more first = (x, first, e)
      by (Some z) e more (later at) = let found = more at in (found.0, later found.1, found.2)

  pub in_given : (x : A) (y : B) (xs : List A) → In x xs → give x ≡ Some y →
      In y (filter_map give xs)
  in_given x y [] at e = elim at [ ]
  in_given x y (z ∷ xs) first e =
      subst (λ (o : Option B). In y (cons_option o (filter_map give xs))) (sym e) first
  in_given x y (z ∷ xs) (later at) e = past (give z) (in_given x y xs at e)
    where
      past : (o : Option B) → In y (filter_map give xs) →
          In y (cons_option o (filter_map give xs))
      past None more = more
      past (Some w) more = later more

-- ---- the graph of a world

module _ (world : World) (apart : AreApart world) (named : View → List (List ℕ))
    (graph : List (List ℕ)) (is : IsGraphOf world named graph) where
  -- a class is found by its name
  pub looks : (n : ℕ) (c : View) → slice_get world n ≡ Some c → class_of world c.name ≡ Some c
  looks n c at =
      class_by_number world c.name
      ∙ ap (option_and_then (slice_get world)) (number_is world apart n c at) ∙ at

  pub edge_name : (n m : ℕ) (c : View) → slice_get world n ≡ Some c →
      Contains (targets graph n) m → (s : List ℕ) × In s (named c) × (number_of world s ≡ Some m)
  edge_name n m c at edge =
      given_in (number_of world) m (named c)
      (contains_in m (row_of world named c)
      (subst (λ (row : List ℕ). Contains row m) (is.rows n c at) edge))

  pub name_edge : (n m : ℕ) (c : View) (s : List ℕ) → slice_get world n ≡ Some c →
      In s (named c) → number_of world s ≡ Some m → Contains (targets graph n) m
  name_edge n m c s at up e =
      subst (λ (row : List ℕ). Contains row m) (sym (is.rows n c at))
      (in_contains m (row_of world named c) (in_given (number_of world) s m (named c) up e))

  abbrev pub LeadsBy : List ℕ → List ℕ → Type 0
  LeadsBy a b = (names : List (List ℕ)) × Way (class_of world) named a names b

  pub record Arrives (start : List ℕ) (m : ℕ) : Type 0 where
    pub class : View
    pub there : slice_get world m ≡ Some class
    pub leads : LeadsBy start class.name

  pub way_named : (steps n m : ℕ) (c : View) → slice_get world n ≡ Some c →
      HasWay graph steps n m → Arrives c.name m
  way_named zero n m c at same = record {
    class = c;
    there = subst (λ k. slice_get world k ≡ Some c) same at;
    leads = (c.name ∷ [], here (looks n c at));
  }
  way_named (suc steps) n m c at way =
      let up = edge_name n way.0 c at way.1 in
      let next = number_there world up.0 way.0 up.2 in
      let more = way_named steps way.0 m next.class next.there way.2 in
      let leads : LeadsBy up.0 more.class.name =
      subst (λ s. LeadsBy s more.class.name) next.named more.leads in
      record {
        class = more.class;
        there = more.there;
        leads = (c.name ∷ leads.0, along (looks n c at) up.1 leads.1);
      }

  -- a class that is found has a number
  pub has_number : (name : List ℕ) (c : View) → class_of world name ≡ Some c →
      (n : ℕ) × (number_of world name ≡ Some n) × (slice_get world n ≡ Some c)
  has_number name c e = by (number_of world name) refl
    where
      by : (o : Option ℕ) → number_of world name ≡ o →
          (n : ℕ) × (number_of world name ≡ Some n) × (slice_get world n ≡ Some c)
      by None f =
          let none : None ≡ Some c =
          sym (ap (option_and_then (slice_get world)) f) ∙ sym (class_by_number world name) ∙ e in
          absurd cc
      by (Some n) f = (
        n,
        f,
        sym (ap (option_and_then (slice_get world)) f)
            ∙ sym (class_by_number world name) ∙ e,
      )

  pub record Reached (n : ℕ) (name : List ℕ) : Type 0 where
    pub number : ℕ
    pub numbered : number_of world name ≡ Some number
    pub reached : Reaches graph n number

  pub begins : (a b : List ℕ) (names : List (List ℕ)) → Way (class_of world) named a names b →
      (c : View) × (class_of world a ≡ Some c)
  begins a b [] way = elim way [ ]
  begins a b (x ∷ []) (here {c = c} e) = (c, e)
  begins a b (x ∷ names) (along {c = c} e up way) = (c, e)

  pub way_numbered : (a b : List ℕ) (names : List (List ℕ)) →
      Way (class_of world) named a names b → (n : ℕ) → number_of world a ≡ Some n → Reached n b
  way_numbered a b [] way n e = elim way [ ]
  way_numbered a b (x ∷ []) (here f) n e =
      record { number = n; numbered = e; reached = (0, refl) }
  way_numbered a b (x ∷ names) (along {s = s} {c = c} f up way) n e =
      let own = has_number a c f in
      let n_is : own.0 ≡ n = same (own.0) (sym own.1 ∙ e) in
      let at : slice_get world n ≡ Some c = subst (λ k. slice_get world k ≡ Some c) n_is own.2 in
      let above = begins s b names way in
      let next = has_number s above.0 above.1 in
      let more = way_numbered s b names way next.0 next.1 in
      record {
        number = more.number;
        numbered = more.numbered;
        reached = (
          suc more.reached.0,
          (next.0, name_edge n next.0 c s at up next.1, more.reached.1),
        );
      }
    where
      same : (k : ℕ) → Some k ≡ Some n → k ≡ n
      same k is = cc

  -- ---- from class to class

  pub leads_reach : (n m : ℕ) (c d : View) → slice_get world n ≡ Some c →
      slice_get world m ≡ Some d → LeadsBy c.name d.name → Reaches graph n m
  leads_reach n m c d at there leads =
      let end = way_numbered c.name d.name leads.0 leads.1 n (number_is world apart n c at) in
      let e : Some end.number ≡ Some m = sym end.numbered ∙ number_is world apart m d there in
      let m_is : end.number ≡ m = cc in
      subst (λ k. Reaches graph n k) m_is end.reached

  pub reach_leads : (n m : ℕ) (c d : View) → slice_get world n ≡ Some c →
      slice_get world m ≡ Some d → Reaches graph n m → LeadsBy c.name d.name
  reach_leads n m c d at there way =
      let end = way_named way.0 n m c at way.1 in
      let e : Some end.class ≡ Some d = sym end.there ∙ there in
      let d_is : end.class ≡ d = cc in
      subst (λ (v : View). LeadsBy c.name v.name) d_is end.leads

  -- a class that is reached is there
  pub reach_there : (n m : ℕ) → n < length world → Reaches graph n m →
      (d : View) × (slice_get world m ≡ Some d)
  reach_there n m few way =
      let begin = get_there world n few in
      let end = way_named way.0 n m begin.0 begin.1 way.1 in
      (end.class, end.there)
