-- Walks and chains of a world, as ways along supertypes.
use Rattle.std.proofs.Common.{◌≡◌, refl, sym, ap, subst, ◌∙◌, arith, ℕ, zero, suc, ◌≤◌, Bool}
use Rattle.std.proofs.Common.{true, false, cond, ◌&&◌, ◌||◌, ◌⊎◌, inl, inr, List, [], ◌∷◌, ◌++◌}
use Rattle.std.proofs.Common.{length, map, append-nil, Option, Some, None}
use Rattle.std.specs.Prelude.{find, option_and_then, option_map, option_to_list, unwrap_or}
use Rattle.std.specs.Option.{option_map_or}
use Rattle.std.specs.List.{list_any, filter_map, flat_map, cons_option}
use Rattle.std.specs.Set.{is_member}
use Rattle.std.specs.Cmp.{IsEquivalence}
use Rattle.std.specs.Cmp.Lexicographic.{nat_list_eq_equiv}
use Rattle.std.proofs.Math.Bool.{or-false}
use Rattle.std.proofs.lemmas.Bool.{and_from, and_parts, false≢true, cases_Bool}
use Rattle.std.proofs.lemmas.List.{length-map}
use Rattle.std.proofs.lemmas.List.Folds.{list_any-append}
use lib.Pointwise.{bytes_decides}
use Rattle.java_names.specs.Names.{is_text}
use Rattle.class_views.specs.View.{View}
use Rattle.class_views.specs.Supertypes.{step_over, fold_at}
use Rattle.class_views.specs.World.{World, is_named, class_of, hierarchy, walk_step, walk_at}
use Rattle.class_views.specs.World.{walk, walk_over, chain_step, chain_at, chain, joined}
use Rattle.class_views.specs.World.{is_among, supertypes, leads_to, reaches_itself, ring_of}
use Rattle.class_views.specs.World.{HasNoRing, made_at, made, Step}
use Rattle.class_views.proofs.Ways.{In, first, later, any_in, in_any, joins, leads_at, way_of}
use Rattle.class_views.proofs.Ways.{leads_by_way, leads_steadily}
use Rattle.class_views.proofs.Settled.{Leads, Climbs, IsFree, free_above, settled}

-- ---- names

pub same_text : (a b : List ℕ) → is_text a b ≡ true → a ≡ b
same_text a b t = (bytes_decides a b).0 t

pub texts : IsEquivalence is_text
texts = nat_list_eq_equiv

abbrev pub name_of : View → List ℕ
name_of c = c.name

abbrev pub names_of : World → List (List ℕ)
names_of world = map name_of world

-- the class of a name has this name
pub found_named : (world : World) (name : List ℕ) (c : View) → class_of world name ≡ Some c →
    c.name ≡ name
found_named [] name c e = absurd (cc)
found_named (d ∷ world) name c e = by (found_named world name c) (cases_Bool (is_named name d))
  where
    by : (class_of world name ≡ Some c → c.name ≡ name) →
        (is_named name d ≡ true) ⊎ (is_named name d ≡ false) → c.name ≡ name
    by more (inl t) = let e' : Some d ≡ Some c =
        sym (ap (λ b. cond b (Some d) (class_of world name)) t) ∙ e in let same : d ≡ c =
        cc in ap name_of (sym same) ∙ same_text d.name name t
    by more (inr t) = more (sym (ap (λ b. cond b (Some d) (class_of world name)) t) ∙ e)

pub found_in : (world : World) (name : List ℕ) (c : View) → class_of world name ≡ Some c →
    In c world
found_in [] name c e = absurd (cc)
found_in (d ∷ world) name c e = by (found_in world name c) (cases_Bool (is_named name d))
  where
    by : (class_of world name ≡ Some c → In c world) →
        (is_named name d ≡ true) ⊎ (is_named name d ≡ false) → In c (d ∷ world)
    by more (inl t) = let e' : Some d ≡ Some c =
        sym (ap (λ b. cond b (Some d) (class_of world name)) t) ∙ e in let same : d ≡ c =
        cc in subst (λ x. In x (d ∷ world)) same first
    by more (inr t) = later (more (sym (ap (λ b. cond b (Some d) (class_of world name)) t) ∙ e))

in_map : (x : View) (xs : List View) → In x xs → In x.name (names_of xs)
in_map x [] at = elim at [ ]
in_map x (y ∷ xs) first = first
in_map x (y ∷ xs) (later at) = later (in_map x xs at)

abbrev pub IsClass : World → List ℕ → Type 0
IsClass world name = (c : View) × (class_of world name ≡ Some c)

pub names_listed : (world : World) (name : List ℕ) → IsClass world name →
    is_member is_text (names_of world) name ≡ true
names_listed world name (c, e) =
    in_any (is_text name) c.name (names_of world) (in_map c world (found_in world name c e))
    (subst (λ n. is_text name n ≡ true) (sym (found_named world name c e)) (texts.refl name))

abbrev pub superclasses : View → List (List ℕ)
superclasses c = option_to_list c.super_name

-- ---- walks are what ways lead to

module _ (world : World) where
  abbrev pub walks_to : ℕ → List ℕ → List ℕ → Bool
  walks_to depth from to = leads_at (class_of world) supertypes is_text depth from to

  over_interfaces : (to : List ℕ) (f : List ℕ → Option (List View)) (test : List ℕ → Bool) →
      ((s : List ℕ) → is_among to (unwrap_or (f s) []) ≡ test s) → (names : List (List ℕ)) →
      is_among to (joined (filter_map f names)) ≡ list_any test names
  over_interfaces to f test same [] = refl
  over_interfaces to f test same (s ∷ names) = by (f s) refl (over_interfaces to f test same names)
    where
      by : (o : Option (List View)) → f s ≡ o →
          is_among to (joined (filter_map f names)) ≡ list_any test names →
          is_among to (joined (filter_map f (s ∷ names))) ≡ (test s || list_any test names)
      by None e rest =
          ap (λ o. is_among to (joined (cons_option o (filter_map f names)))) e ∙ rest
          ∙ ap (λ b. b || list_any test names)
          (sym (ap (λ o. is_among to (unwrap_or o [])) e) ∙ same s)
      by (Some w) e rest =
          ap (λ o. is_among to (joined (cons_option o (filter_map f names)))) e
          ∙ list_any-append (is_named to) w (joined (filter_map f names))
          ∙ (λ i. (sym (ap (λ o. is_among to (unwrap_or o [])) e) ∙ same s) i || rest i)

  over_superclass : (to : List ℕ) (f : List ℕ → Option (List View)) (test : List ℕ → Bool) →
      ((s : List ℕ) → is_among to (unwrap_or (f s) []) ≡ test s) → (o : Option (List ℕ)) →
      is_among to (unwrap_or (option_and_then f o) []) ≡ list_any test (option_to_list o)
  over_superclass to f test same None = refl
  over_superclass to f test same (Some s) = same s ∙ sym (or-false (test s))

  pub walk_leads : (depth : ℕ) (from to : List ℕ) →
      is_among to (walk_at world depth from) ≡ walks_to depth from to
  unfolding fold_at leads_at
  walk_leads zero from to = refl
  walk_leads (suc depth) from to = by (class_of world from) refl (λ s. walk_leads depth s to)
    where
      step : View → List View
      step c = step_over (hierarchy world) walk_step (fold_at (hierarchy world) walk_step depth) c

      test : List ℕ → Bool
      test s = walks_to depth s to

      by : (o : Option View) → class_of world from ≡ o →
          ((s : List ℕ) → is_among to (walk_at world depth s) ≡ test s) →
          is_among to (unwrap_or (option_map step (class_of world from)) []) ≡ option_map_or
          (λ c. is_text from to || list_any test (supertypes c)) (class_of world from) false
      by None e more =
          ap (λ o. is_among to (unwrap_or (option_map step o) [])) e
          ∙ sym (ap
          (λ o. option_map_or (λ c. is_text from to || list_any test (supertypes c)) o false)
          e)
      by (Some c) e more =
          ap (λ o. is_among to (unwrap_or (option_map step o) [])) e
          ∙ (λ i. is_text (found_named world from c e i) to || ends c more i)
          ∙ sym (ap
          (λ o. option_map_or (λ c. is_text from to || list_any test (supertypes c)) o false)
          e)
        where
          ends : (c : View) → ((s : List ℕ) → is_among to (walk_at world depth s) ≡ test s) →
              is_among to
              (joined (filter_map (fold_at (hierarchy world) walk_step depth) c.interfaces)
              ++ unwrap_or
              (option_and_then (fold_at (hierarchy world) walk_step depth) c.super_name) [])
              ≡ list_any test (supertypes c)
          ends c more =
              list_any-append (is_named to)
              (joined (filter_map (fold_at (hierarchy world) walk_step depth) c.interfaces))
              (unwrap_or (option_and_then (fold_at (hierarchy world) walk_step depth) c.super_name)
              [])
              ∙ (λ i. over_interfaces to (fold_at (hierarchy world) walk_step depth) test more
              c.interfaces i || over_superclass to (fold_at (hierarchy world) walk_step depth)
              test more c.super_name i)
              ∙ sym (list_any-append test c.interfaces (option_to_list c.super_name))

  -- the same of chains
  abbrev pub chains_to : ℕ → List ℕ → List ℕ → Bool
  chains_to depth from to = leads_at (class_of world) superclasses is_text depth from to

  pub chain_leads : (depth : ℕ) (from to : List ℕ) →
      is_among to (chain_at world depth from) ≡ chains_to depth from to
  unfolding fold_at leads_at
  chain_leads zero from to = refl
  chain_leads (suc depth) from to = by (class_of world from) refl (λ s. chain_leads depth s to)
    where
      step : View → List View
      step c = step_over (hierarchy world) chain_step (fold_at (hierarchy world) chain_step depth)
          c

      test : List ℕ → Bool
      test s = chains_to depth s to

      by : (o : Option View) → class_of world from ≡ o →
          ((s : List ℕ) → is_among to (chain_at world depth s) ≡ test s) →
          is_among to (unwrap_or (option_map step (class_of world from)) []) ≡ option_map_or
          (λ c. is_text from to || list_any test (superclasses c)) (class_of world from) false
      by None e more =
          ap (λ o. is_among to (unwrap_or (option_map step o) [])) e
          ∙ sym (ap
          (λ o. option_map_or (λ c. is_text from to || list_any test (superclasses c)) o
          false) e)
      by (Some c) e more =
          ap (λ o. is_among to (unwrap_or (option_map step o) [])) e
          ∙ (λ i. is_text (found_named world from c e i) to || over_superclass to
          (fold_at (hierarchy world) chain_step depth) test more c.super_name i)
          ∙ sym (ap
          (λ o. option_map_or (λ c. is_text from to || list_any test (superclasses c)) o
          false) e)

  -- ---- the number of classes is depth enough, also in rings

  count : length (names_of world) ≡ length world
  count = length-map world name_of

  pub walk_steady : (from to : List ℕ) (depth : ℕ) → length world ≤ depth →
      is_among to (walk_at world depth from) ≡ is_among to (walk_at world (length world) from)
  walk_steady from to depth enough =
      walk_leads depth from to
      ∙ leads_steadily (class_of world) supertypes is_text texts same_text (names_of world)
      (names_listed world) from to depth (subst (λ n. n ≤ depth) (sym count) enough)
      ∙ ap (λ n. walks_to n from to) count
      ∙ sym (walk_leads (length world) from to)

  pub chain_steady : (from to : List ℕ) (depth : ℕ) → length world ≤ depth →
      is_among to (chain_at world depth from) ≡ is_among to (chain world from)
  chain_steady from to depth enough =
      chain_leads depth from to
      ∙ leads_steadily (class_of world) superclasses is_text texts same_text (names_of world)
      (chain_listed) from to depth (subst (λ n. n ≤ depth) (sym count) enough)
      ∙ ap (λ n. chains_to n from to) count
      ∙ sym (chain_leads (length world) from to)
    where
      chain_listed : (a : List ℕ) → IsClass world a → is_member is_text (names_of world) a ≡ true
      chain_listed = names_listed world

  pub leads_to_way : (from to : List ℕ) → leads_to world from to ≡ true →
      Leads (hierarchy world) from to
  leads_to_way from to t =
      let way =
      way_of (class_of world) supertypes is_text same_text (length world) from to
      (sym (walk_leads (length world) from to) ∙ t) in
      (way.0, way.1)

  pub way_leads_to : (from to : List ℕ) → Leads (hierarchy world) from to →
      leads_to world from to ≡ true
  way_leads_to from to way =
      walk_leads (length world) from to
      ∙ leads_by_way (class_of world) supertypes is_text texts same_text (names_of world)
      (names_listed world) from to way.0 way.1 (length world)
      (subst (λ n. n ≤ length world) (sym count) (reflexive (length world)))
    where
      reflexive : (n : ℕ) → n ≤ n
      reflexive n = omega arith

  pub leads_to_onward : (a b c : List ℕ) → leads_to world a b ≡ true → leads_to world b c ≡ true →
      leads_to world a c ≡ true
  leads_to_onward a b c t u =
      let v = leads_to_way a b t in
      let w = leads_to_way b c u in
      way_leads_to a c (joins (class_of world) supertypes a b c v.0 w.0 v.1 w.1)

  -- ---- rings

  none_found : (test : View → Bool) (c : View) (xs : List View) → find test xs ≡ None → In c xs →
      test c ≡ true → ⊥
  none_found test c [] e at t = elim at [ ]
  none_found test c (d ∷ xs) e first t = let e' : Some c ≡ None =
      sym (ap (λ b. cond b (Some c) (find test xs)) t) ∙ e in absurd (cc)
  none_found test c (d ∷ xs) e (later at) t =
      by (cases_Bool (test d)) (λ f. none_found test c xs f at t)
    where
      by : (test d ≡ true) ⊎ (test d ≡ false) → (find test xs ≡ None → ⊥) → ⊥
      by (inl u) more = let e' : Some d ≡ None =
          sym (ap (λ b. cond b (Some d) (find test xs)) u) ∙ e in absurd (cc)
      by (inr u) more = more (sym (ap (λ b. cond b (Some d) (find test xs)) u) ∙ e)

  found_passes : (test : View → Bool) (c : View) (xs : List View) → find test xs ≡ Some c →
      test c ≡ true
  found_passes test c [] e = absurd (cc)
  found_passes test c (d ∷ xs) e = by (cases_Bool (test d)) (found_passes test c xs)
    where
      by : (test d ≡ true) ⊎ (test d ≡ false) → (find test xs ≡ Some c → test c ≡ true) →
          test c ≡ true
      by (inl u) more = let e' : Some d ≡ Some c =
          sym (ap (λ b. cond b (Some d) (find test xs)) u) ∙ e in let same : d ≡ c =
          cc in subst (λ x. test x ≡ true) same u
      by (inr u) more = more (sym (ap (λ b. cond b (Some d) (find test xs)) u) ∙ e)

  climbs_reaches : (b : List ℕ) → Climbs (hierarchy world) b b → reaches_itself world b ≡ true
  climbs_reaches b climbs =
      ap (λ o. option_map_or (λ c. list_any (λ above. leads_to world above b) (supertypes c)) o
      false) climbs.found
      ∙ in_any (λ above. leads_to world above b) climbs.next (supertypes climbs.class) climbs.up
      (way_leads_to climbs.next b climbs.leads)

  reaches_climbs : (b : List ℕ) → reaches_itself world b ≡ true → Climbs (hierarchy world) b b
  reaches_climbs b t = by (class_of world b) refl
    where
      test : View → Bool
      test c = list_any (λ above. leads_to world above b) (supertypes c)

      by : (o : Option View) → class_of world b ≡ o → Climbs (hierarchy world) b b
      by None e = absurd (false≢true (sym (ap (λ o. option_map_or test o false) e) ∙ t))
      by (Some c) e =
          let next =
          any_in (λ above. leads_to world above b) (supertypes c)
          (sym (ap (λ o. option_map_or test o false) e) ∙ t) in
          record {
            class = c;
            next = next.0;
            found = e;
            up = next.1;
            leads = leads_to_way next.0 b next.2;
          }

  pub free : (name : List ℕ) → HasNoRing world name → IsFree (hierarchy world) name
  free name none b leads climbs =
      let named = found_named world b climbs.class climbs.found in
      let test : leads_to world name climbs.class.name && reaches_itself world climbs.class.name
      ≡ true =
      subst (λ n. leads_to world name n && reaches_itself world n ≡ true) (sym named)
      (and_from (leads_to world name b) (reaches_itself world b) (way_leads_to name b leads)
      (climbs_reaches b climbs)) in
      none_found (λ c. leads_to world name c.name && reaches_itself world c.name) climbs.class
      world
      none (found_in world b climbs.class climbs.found) test

  pub no_ring : (name : List ℕ) → IsFree (hierarchy world) name → HasNoRing world name
  no_ring name free = by (ring_of world name) refl
    where
      by : (o : Option View) → ring_of world name ≡ o → o ≡ None
      by None e = refl
      by (Some c) e =
          let parts =
          and_parts (leads_to world name c.name) (reaches_itself world c.name)
          (found_passes (λ d. leads_to world name d.name && reaches_itself world d.name) c world
          e) in
          absurd (free c.name (leads_to_way name c.name parts.0) (reaches_climbs c.name parts.1))

  pub no_ring_above : (name above : List ℕ) (c : View) → class_of world name ≡ Some c →
      In above (supertypes c) → HasNoRing world name → HasNoRing world above
  no_ring_above name up c e at none =
      no_ring up (free_above (hierarchy world) name up c e at (free name none))

  -- ---- walks, members and all that a fold makes

  pub made_settled : {Made : Type 0} (step : Step Made) (name : List ℕ) → HasNoRing world name →
      (depth : ℕ) → length world ≤ depth → made_at step world depth name ≡ made step world name
  made_settled step name none depth enough =
      settled (hierarchy world) step is_text texts same_text (names_of world) (names_listed world)
      name (free name none) depth (subst (λ n. n ≤ depth) (sym count) enough)
      ∙ ap (λ n. made_at step world n name) count

  -- what is made of a class, from what is made of its supertypes
  pub made_equation : {Made : Type 0} (step : Step Made) (name : List ℕ) → HasNoRing world name →
      made step world name ≡ option_map (step_over (hierarchy world) step (made step world))
      (class_of world name)
  unfolding fold_at
  made_equation step name none =
      sym (made_settled step name none (suc (length world)) (omega arith))

  flat : (f : List ℕ → Option (List View)) (names : List (List ℕ)) →
      joined (filter_map f names) ≡ flat_map (λ s. unwrap_or (f s) []) names
  flat f [] = refl
  flat f (s ∷ names) = by (f s) (flat f names)
    where
      by : (o : Option (List View)) →
          joined (filter_map f names) ≡ flat_map (λ s. unwrap_or (f s) []) names →
          joined (cons_option o (filter_map f names)) ≡ unwrap_or o [] ++ flat_map
          (λ s. unwrap_or (f s) []) names
      by None rest = rest
      by (Some w) rest = ap (λ others. w ++ others) rest

  sole_flat : (f : List ℕ → Option (List View)) (o : Option (List ℕ)) →
      unwrap_or (option_and_then f o) [] ≡ flat_map (λ s. unwrap_or (f s) []) (option_to_list o)
  sole_flat f None = refl
  sole_flat f (Some s) = sym (append-nil (unwrap_or (f s) []))

  pub walk_equation : (name : List ℕ) (c : View) → HasNoRing world name →
      class_of world name ≡ Some c → walk world name ≡ walk_over world c
  walk_equation name c none e =
      ap (λ o. unwrap_or o []) (made_equation walk_step name none)
      ∙ ap (λ o. unwrap_or
      (option_map (step_over (hierarchy world) walk_step (made walk_step world)) o) []) e
      ∙ (λ i. c ∷
      (flat (made walk_step world) c.interfaces i ++ sole_flat (made walk_step world)
      c.super_name i))
