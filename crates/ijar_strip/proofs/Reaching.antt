-- What stays is what begins, and what is reached over the graph.
use Rattle.std.proofs.Common.{◌≡◌, ℕ, zero, suc, ◌+◌, ◌<◌, ◌≤◌, arith, Bool, true, false, not}
use Rattle.std.proofs.Common.{◌&&◌, ◌||◌, List, [], ◌∷◌, ◌++◌, length, map, take, get_or, refl}
use Rattle.std.proofs.Common.{ap, ◌∙◌, sym, subst, inl, inr}
use Rattle.std.specs.Prelude.{◌↔◌, Contains, Some, option_to_list, if◌then◌else◌}
use Rattle.std.specs.List.{list_all}
use Rattle.std.proofs.lemmas.Bool.{cases_lt}
use Rattle.std.proofs.lemmas.List.{length-map, get_or-map, get_or_past, get_or-take}
use Rattle.std.proofs.lemmas.List.{length-take-le, take_more, take_all}
use Rattle.std.proofs.lemmas.List.Elements.{All-weaker, All-contains, All-contains_itself}
use Rattle.std.proofs.lemmas.List.Elements.{Contains-get_or, Contains-append_left}
use Rattle.std.proofs.lemmas.List.Elements.{Contains-append_right, Contains-append_cases}
use Rattle.std.proofs.lemmas.List.Folds.{Any-from_list_any, list_any-from_Any}
use Rattle.std.proofs.lemmas.List.Sums.{AllPass-from_list_all, list_all-from_AllPass}
use Rattle.java_names.specs.Names.{is_text}
use Rattle.class_views.specs.Staying.{stays_in, IsClosed, IsLeast}
use Rattle.class_views.proofs.Staying.{least}
use Rattle.reachability.specs.Reached as reachability
use Rattle.reachability.specs.Reached.{targets, IsReached}
use Rattle.ijar_strip.specs.Places.{last_place}
use Rattle.ijar_strip.specs.Links.{Linked, begins, leads_to, names_of, places_of, begun_places}
use Rattle.ijar_strip.specs.Links.{first_places, before_of, row_of, AreValues}
use Rattle.ijar_strip.proofs.Lookups.{same, is_itself, is_same, no_member, is_held, held}
use Rattle.ijar_strip.proofs.Lookups.{who_gives, is_given, who_lists, is_listed_by, last_found}
use Rattle.ijar_strip.proofs.Lookups.{last_push}

same_bools : (a b : Bool) → (a ≡ true → b ≡ true) → (b ≡ true → a ≡ true) → a ≡ b
same_bools true b there back = sym (there refl)
same_bools false true there back = back refl
same_bools false false there back = refl

module _ (links : List Linked) where
  blank : Linked
  blank = record { begun = false; name = []; leads = [] }

  name_at : ℕ → List ℕ
  name_at n = get_or (names_of links) n []

  leads_at : ℕ → List (List ℕ)
  leads_at n = get_or (map (λ link. link.leads) links) n []

  -- an item and its place
  record IsAt (n : ℕ) (x : Linked) : Type 0 where
    inside : n < length links
    name : name_at n ≡ x.name
    leads : leads_at n ≡ x.leads

  at_member : (x : Linked) (has : Contains links x) → IsAt has.0 x
  unfolding name_at leads_at
  at_member x has = record {
    inside = has.1;
    name = get_or-map (λ link. link.name) links has.0 x [] has.1 ∙ ap (λ link. link.name) has.2;
    leads = get_or-map (λ link. link.leads) links has.0 x [] has.1 ∙ ap (λ link. link.leads) has.2;
  }

  at_place : (n : ℕ) (d : Linked) → n < length links → IsAt n (get_or links n d)
  unfolding name_at leads_at
  at_place n d inside = record {
    inside = inside;
    name = get_or-map (λ link. link.name) links n d [] inside;
    leads = get_or-map (λ link. link.leads) links n d [] inside;
  }

  stay : Linked → Bool
  stay = stays_in begins leads_to links

  least_set : IsLeast begins leads_to links stay
  unfolding stay
  least_set = least begins leads_to links

  -- ---- what is reached stays

  AllStay : List ℕ → Type 0
  AllStay name = (x : Linked) → Contains links x → name ≡ x.name → stay x ≡ true

  fits : List ℕ → Linked → Bool
  fits name x = not (is_text name x.name) || stay x

  has : ℕ → Bool
  has n = list_all (fits (name_at n)) links

  has_intro : (n : ℕ) → AllStay (name_at n) → has n ≡ true
  unfolding has fits AllStay
  has_intro n all =
      list_all-from_AllPass (fits (name_at n)) links
      (All-weaker (Contains links) (λ x. fits (name_at n) x ≡ true) each links
      (All-contains_itself links))
    where
      by : (x : Linked) → Contains links x → (b : Bool) → is_text (name_at n) x.name ≡ b →
          (not b || stay x) ≡ true
      by x is_there true is = all x is_there (same (name_at n) x.name is)
      by x is_there false is = refl

      each : (x : Linked) → Contains links x → (not (is_text (name_at n) x.name) || stay x) ≡ true
      each x is_there = by x is_there (is_text (name_at n) x.name) refl

  has_elim : (n : ℕ) → has n ≡ true → AllStay (name_at n)
  unfolding has fits AllStay
  has_elim n is x is_there e =
      let passes : (not (is_text (name_at n) x.name) || stay x) ≡ true =
      All-contains (λ x. fits (name_at n) x ≡ true) links x
      (AllPass-from_list_all (fits (name_at n)) links is) is_there in
      subst (λ b. (not b || stay x) ≡ true) (is_same (name_at n) x.name e) passes

  leads_is : (x y : Linked) → Contains x.leads y.name → leads_to x y ≡ true
  leads_is x y has = list_any-from_Any (is_text y.name) x.leads
      (has.0, y.name, has.1, has.2, is_itself y.name)

  led : (x : Linked) → Contains links x → stay x ≡ true → (lead : List ℕ) →
      Contains x.leads lead → AllStay lead
  unfolding AllStay
  led x is_there is lead leads y has_y e =
      least_set.closed.named x y is_there has_y is
      (leads_is x y (subst (Contains x.leads) e leads))

  module _ (graph : List (List ℕ)) (begun : List ℕ) (marks : List Bool)
      (rows : AreValues (row_of links) [] (length links) graph)
      (first : begun ≡ first_places links)
      (exact : (n : ℕ) → n < length graph → (get_or marks n false ≡ true)
      ↔ IsReached graph begun n) where
    all_at : (lead : List ℕ) (m : ℕ) → AllStay lead → last_place (names_of links) lead ≡ Some m →
        has m ≡ true
    unfolding name_at
    all_at lead m all is = has_intro m
        (subst AllStay (sym (last_found (names_of links) lead m is).1) all)

    begun_has : (m : ℕ) → Contains begun m → has m ≡ true
    begun_has m is =
        let x = who_lists (begun_places (names_of links)) links m
        (subst (λ list. Contains list m) first is) in
        by x.item x.is_there x.item.begun refl x.lists
      where
        by : (x : Linked) → Contains links x → (b : Bool) → x.begun ≡ b →
            Contains (if b then places_of (names_of links) x.leads else []) m → has m ≡ true
        by x is_there true starts lists =
            let lead = who_gives (last_place (names_of links)) x.leads m lists in
            all_at lead.item m (led x is_there (least_set.closed.begun x is_there starts)
            lead.item lead.is_there) lead.gives
        by x is_there false starts lists = absurd (no_member m lists)

    row_has : (n m : ℕ) → n < length links → has n ≡ true → Contains (row_of links n) m →
        has m ≡ true
    unfolding row_of before_of name_at leads_at AllStay
    row_has n m inside is leads = elim
        (Contains-append_cases (option_to_list (before_of links n))
        (places_of (names_of links) (leads_at n)) m leads) [
          | inl before ↦ (
              let found = last_found (take n (names_of links)) (name_at n) m
              (is_held (before_of links n) m before) in
              let long : length (names_of links) ≡ length links =
              length-map links (λ (link : Linked). link.name) in
              let level : length (take n (names_of links)) ≡ n =
              length-take-le n (names_of links) (omega arith) in
              let below : m < length (take n (names_of links)) = found.0 in
              let e : name_at m ≡ name_at n =
              sym (get_or-take n (names_of links) m [] (omega arith)) ∙ found.1 in
              has_intro m (subst AllStay (sym e) (has_elim n is))
              )
          | inr places ↦ (
              let lead = who_gives (last_place (names_of links)) (leads_at n) m places in
              let x = get_or links n blank in
              let at = at_place n blank inside in
              let is_there : Contains links x = Contains-get_or links n blank inside in
              let stays : stay x ≡ true = has_elim n is x is_there at.name in
              all_at lead.item m (led x is_there stays lead.item
              (subst (λ list. Contains list lead.item) at.leads lead.is_there)) lead.gives
              )
        ]

    closed_has : reachability.IsClosed graph begun has
    closed_has = record {
      begins = begun_has;
      leads = λ n m is leads. elim (cases_lt n (length links)) [
        | inl inside ↦ row_has n m inside is
            (subst (λ list. Contains list m) (rows.each n inside) leads)
        | inr outside ↦ (
            let level : length graph ≡ length links = rows.long in
            let none : targets graph n ≡ [] = get_or_past graph n [] (omega arith) in
            absurd (no_member m (subst (λ list. Contains list m) none leads))
            )
      ];
    }

    marked_stays : (n : ℕ) (d : Linked) → n < length links → get_or marks n false ≡ true →
        stay (get_or links n d) ≡ true
    unfolding AllStay
    marked_stays n d inside is =
        let level : length graph ≡ length links = rows.long in
        let reached : IsReached graph begun n = (exact n (omega arith)).0 is in
        has_elim n (reached has closed_has) (get_or links n d) (Contains-get_or links n d inside)
        (at_place n d inside).name

    -- ---- what stays begins or is reached

    begun_marked : (m : ℕ) → m < length links → Contains begun m → get_or marks m false ≡ true
    begun_marked m inside is =
        let level : length graph ≡ length links = rows.long in
        (exact m (omega arith)).1 (λ set closed. closed.begins m is)

    row_marked : (n m : ℕ) → n < length links → m < length links → get_or marks n false ≡ true →
        Contains (row_of links n) m → get_or marks m false ≡ true
    row_marked n m inside within is leads =
        let level : length graph ≡ length links = rows.long in
        let target : Contains (targets graph n) m =
        subst (λ list. Contains list m) (sym (rows.each n inside)) leads in
        let reached : IsReached graph begun n = (exact n (omega arith)).0 is in
        (exact m (omega arith)).1 (λ set closed. closed.leads n m (reached set closed) target)

    AllMarked : ℕ → List ℕ → Type 0
    AllMarked count name = (n : ℕ) → n < count → name_at n ≡ name → get_or marks n false ≡ true

    -- where the last of these places is marked, each place of the name is
    chain : (name : List ℕ) (count : ℕ) → count ≤ length links
        → ((m : ℕ) → last_place (take count (names_of links)) name ≡ Some m → get_or marks m false
        ≡ true) → AllMarked count name
    unfolding AllMarked row_of before_of name_at leads_at
    chain name zero few last = λ n inside is. absurd (omega arith)
    chain name (suc count) few last =
        step (is_text name (name_at count)) refl (chain name count (omega arith))
      where
        long : length (names_of links) ≡ length links
        long = length-map links (λ (link : Linked). link.name)

        front : take (suc count) (names_of links) ≡ take count (names_of links) ++ name_at count
            ∷ []
        front =
            let e : suc count ≡ count + 1 = omega arith in
            let inside : count < length (names_of links) = omega (arith, long) in
            ap (λ k. take k (names_of links)) e ∙ take_more (names_of links) count [] inside

        level : length (take count (names_of links)) ≡ count
        level = length-take-le count (names_of links) (omega (arith, long))

        pushed : last_place (take (suc count) (names_of links)) name
            ≡ (if is_text name (name_at count) then Some count
            else last_place (take count (names_of links)) name)
        pushed =
            ap (λ list. last_place list name) front
            ∙ (last_push (take count (names_of links)) (name_at count) name
            ∙ ap (λ k. if is_text name (name_at count) then Some k
            else last_place (take count (names_of links)) name) level)

        step : (b : Bool) → is_text name (name_at count) ≡ b
            → (((m : ℕ) → last_place (take count (names_of links)) name ≡ Some m →
            get_or marks m false ≡ true) → (n : ℕ) → n < count → name_at n ≡ name →
            get_or marks n false ≡ true)
            → (n : ℕ) → n < suc count → name_at n ≡ name → get_or marks n false ≡ true
        step true test rest n inside is =
            let e : name ≡ name_at count = same name (name_at count) test in
            let now : last_place (take (suc count) (names_of links)) name ≡ Some count =
            pushed ∙ ap (λ b. if b then Some count
            else last_place (take count (names_of links)) name) test in
            let marked : get_or marks count false ≡ true = last count now in
            elim (cases_lt n count) [
              | inl below ↦ rest (λ m before.
                  let found = last_found (take count (names_of links)) name m before in
                  let under : m < length (take count (names_of links)) = found.0 in
                  let row : Contains (row_of links count) m =
                  Contains-append_left (option_to_list (before_of links count))
                  (places_of (names_of links) (leads_at count)) m
                  (held (before_of links count) m
                  (ap (last_place (take count (names_of links))) (sym e) ∙ before)) in
                  row_marked count m (omega arith) (omega (arith, level)) marked row) n below is
              | inr above ↦ (
                  let k : n ≡ count = omega arith in
                  ap (λ n. get_or marks n false) k ∙ marked
                  )
            ]
        step false test rest n inside is = elim (cases_lt n count) [
          | inl below ↦ rest (λ m before. last m
              (pushed ∙ (ap (λ b. if b then Some count
              else last_place (take count (names_of links)) name) test ∙ before))) n below is
          | inr above ↦ (
              let k : n ≡ count = omega arith in
              let e : name ≡ name_at count = sym is ∙ ap name_at k in
              let yes : is_text name (name_at count) ≡ true = is_same name (name_at count) e in
              let no : true ≡ false = sym yes ∙ test in
              cc
              )
        ]

    wanted : ℕ → List ℕ → Bool
    wanted zero name = true
    wanted (suc count) name = (not (is_text (name_at count) name) || get_or marks count false)
        && wanted count name

    wanted_intro : (count : ℕ) (name : List ℕ) → AllMarked count name → wanted count name ≡ true
    unfolding wanted AllMarked
    wanted_intro zero name all = refl
    wanted_intro (suc count) name all =
        by (is_text (name_at count) name) refl
        (wanted_intro count name (λ n inside is. all n (omega arith) is))
      where
        by : (b : Bool) → is_text (name_at count) name ≡ b → wanted count name ≡ true →
            ((not b || get_or marks count false) && wanted count name) ≡ true
        by true is rest = rw (all count (omega arith) (same (name_at count) name is)) rest
        by false is rest = rest

    wanted_elim : (count : ℕ) (name : List ℕ) → wanted count name ≡ true → AllMarked count name
    unfolding wanted AllMarked
    wanted_elim zero name is n inside e = absurd (omega arith)
    wanted_elim (suc count) name is n inside e =
        by (get_or marks count false) refl (wanted_elim count name) is
      where
        by : (b : Bool) → get_or marks count false ≡ b →
            (wanted count name ≡ true → (n : ℕ) → n < count → name_at n ≡ name →
            get_or marks n false ≡ true)
            → ((not (is_text (name_at count) name) || b) && wanted count name) ≡ true →
            get_or marks n false ≡ true
        by true marked rest is = either (is_text (name_at count) name) is
          where
            either : (a : Bool) → ((not a || true) && wanted count name) ≡ true →
                get_or marks n false ≡ true
            either a is = elim (cases_lt n count) [
              | inl below ↦ rest (both a is) n below e
              | inr above ↦ (let k : n ≡ count = omega arith in ap (λ n. get_or marks n false) k
                  ∙ marked)
            ]
              where
                both : (a : Bool) → ((not a || true) && wanted count name) ≡ true →
                    wanted count name ≡ true
                both true is = is
                both false is = is
        by false marked rest is = elim (cases_lt n count) [
          | inl below ↦ rest (both (is_text (name_at count) name) is) n below e
          | inr above ↦ (
              let k : n ≡ count = omega arith in
              let yes : is_text (name_at count) name ≡ true =
              is_same (name_at count) name (sym (ap name_at k) ∙ e) in
              let bad : ((not true || false) && wanted count name) ≡ true =
              subst (λ a. ((not a || false) && wanted count name) ≡ true) yes is in
              cc
              )
        ]
          where
            both : (a : Bool) → ((not a || false) && wanted count name) ≡ true → wanted count name
                ≡ true
            both true is = cc
            both false is = is

    begins_or_marked : Linked → Bool
    begins_or_marked x = x.begun || wanted (length links) x.name

    -- the last place of a name to which an item leads is marked
    lead_marked : (x : Linked) → Contains links x → begins_or_marked x ≡ true → (lead : List ℕ) →
        Contains x.leads lead
        → (m : ℕ) → last_place (names_of links) lead ≡ Some m → get_or marks m false ≡ true
    unfolding begins_or_marked row_of name_at leads_at AllMarked
    lead_marked x is_there is lead leads m last = by x.begun refl is
      where
        long : length (names_of links) ≡ length links
        long = length-map links (λ (link : Linked). link.name)

        within : m < length links
        within =
            let found : m < length (names_of links) =
            (last_found (names_of links) lead m last).0 in
            omega (arith, long)

        given : Contains (places_of (names_of links) x.leads) m
        given = is_given (last_place (names_of links)) x.leads lead m leads last

        by : (b : Bool) → x.begun ≡ b → (b || wanted (length links) x.name) ≡ true →
            get_or marks m false ≡ true
        by true starts is =
            let here : Contains (begun_places (names_of links) x) m =
            subst (λ b. Contains (if b then places_of (names_of links) x.leads else []) m)
            (sym starts) given in
            let all : Contains (first_places links) m =
            is_listed_by (begun_places (names_of links)) links x m is_there here in
            begun_marked m within (subst (λ list. Contains list m) (sym first) all)
        by false starts is =
            let at = at_member x is_there in
            let marked : get_or marks is_there.0 false ≡ true =
            wanted_elim (length links) x.name is is_there.0 at.inside at.name in
            let places : Contains (places_of (names_of links) (leads_at is_there.0)) m =
            subst (λ leads. Contains (places_of (names_of links) leads) m) (sym at.leads)
            given in
            row_marked is_there.0 m at.inside within marked
            (Contains-append_right (option_to_list (before_of links is_there.0))
            (places_of (names_of links) (leads_at is_there.0)) m places)

    all_marked : (x y : Linked) → Contains links x → Contains links y → begins_or_marked x
        ≡ true → leads_to x y ≡ true → begins_or_marked y ≡ true
    unfolding begins_or_marked
    all_marked x y is_there has_y is leads =
        or_true y.begun (wanted_intro (length links) y.name
        (chain y.name (length links) (omega arith) last))
      where
        or_true : (a : Bool) → wanted (length links) y.name ≡ true →
            (a || wanted (length links) y.name) ≡ true
        or_true true is = refl
        or_true false is = is

        lead : Contains x.leads y.name
        lead =
            let any = Any-from_list_any (is_text y.name) x.leads leads in
            let e : y.name ≡ any.1 = same y.name any.1 any.4 in
            subst (Contains x.leads) (sym e) (any.0, any.2, any.3)

        long : length (names_of links) ≡ length links
        long = length-map links (λ (link : Linked). link.name)

        last : (m : ℕ) → last_place (take (length links) (names_of links)) y.name ≡ Some m →
            get_or marks m false ≡ true
        last m is_last =
            let whole : take (length links) (names_of links) ≡ names_of links =
            take_all (length links) (names_of links) (omega (arith, long)) in
            lead_marked x is_there is y.name lead m
            (ap (λ list. last_place list y.name) (sym whole) ∙ is_last)

    stays_marked : (n : ℕ) (d : Linked) → n < length links → stay (get_or links n d) ≡ true →
        ((get_or links n d).begun || get_or marks n false) ≡ true
    unfolding begins_or_marked AllMarked
    stays_marked n d inside is = by x.begun
        (least_set.least begins_or_marked closed x (Contains-get_or links n d inside) is)
      where
        x : Linked
        x = get_or links n d

        closed : IsClosed begins leads_to links begins_or_marked
        closed = record { begun = λ x is_there starts. rw starts refl; named = all_marked }

        by : (b : Bool) → (b || wanted (length links) x.name) ≡ true → (b || get_or marks n false)
            ≡ true
        by true is = refl
        by false is = wanted_elim (length links) x.name is n inside (at_place n d inside).name

    pub stays_at : (n : ℕ) (d : Linked) → n < length links
        → stays_in begins leads_to links (get_or links n d)
        ≡ ((get_or links n d).begun || get_or marks n false)
    unfolding stay
    stays_at n d inside = same_bools (stay (get_or links n d))
        ((get_or links n d).begun || get_or marks n false) (stays_marked n d inside)
        (by (get_or links n d).begun refl)
      where
        by : (b : Bool) → (get_or links n d).begun ≡ b → (b || get_or marks n false) ≡ true →
            stay (get_or links n d) ≡ true
        by true starts is = least_set.closed.begun (get_or links n d)
            (Contains-get_or links n d inside) starts
        by false starts is = marked_stays n d inside is
