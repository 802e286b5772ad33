-- Members, in two worlds of which the second shows less, where no private member hides: each class
-- of the walk declares the very same members of the key.
use Rattle.std.proofs.Common.{◌≡◌, refl, sym, ap, subst, ◌∙◌, arith, ℕ, ◌+◌, Bool, false}
use Rattle.std.proofs.Common.{not, ◌&&◌, List, [], ◌∷◌, ◌++◌, length, map}
use Rattle.std.proofs.Common.{Option, Some}
use Rattle.std.proofs.Common.{filter, flat_map, append_assoc, if◌then◌else◌}
use Rattle.std.specs.Prelude.{option_to_list, unwrap_or}
use Rattle.std.specs.Option.{option_map_or}
use Rattle.std.specs.List.{list_any, enumerate_from, AllByRecursion}
use Rattle.std.proofs.lemmas.Bool.{false_from_ne_true, or_parts}
use Rattle.java_names.specs.Names.{is_text}
use Rattle.lemmas.proofs.Lists.{all_append}
use Rattle.class_views.specs.Access.{package_of}
use Rattle.class_views.specs.Alike.{AreAlike}
use Rattle.class_views.specs.Flags.{Access, Private, Public, Protected, InPackage, access_of}
use Rattle.class_views.specs.Flags.{is_interface_flags}
use Rattle.class_views.specs.Membership.{Key, FieldKey, MethodKey, declared, Candidate, candidate}
use Rattle.class_views.specs.Membership.{candidates_in, candidates, Members, comes_by, inherits}
use Rattle.class_views.specs.Membership.{stays_behind, overrides, is_overridden, either, chosen_of}
use Rattle.class_views.specs.Membership.{is_empty, member_step, nothing, members_at}
use Rattle.class_views.specs.Membership.{members_among, members, by_superclass}
use Rattle.class_views.specs.Membership.{by_superinterfaces, own}
use Rattle.class_views.specs.Supertypes.{fold_at}
use Rattle.class_views.specs.View.{View, MemberView}
use Rattle.class_views.specs.World.{World, class_of, hierarchy, supertypes, same_class, walk}
use Rattle.class_views.specs.World.{each_once, HasNoRing}
use Rattle.class_views.proofs.Alike.{folds_alike}
use Rattle.class_views.proofs.Members.{members_settled}
use Rattle.class_views.proofs.Settled.{in_front, in_back}
use Rattle.class_views.proofs.Ways.{In, first, later, any_in, none_in}
use Rattle.class_views.proofs.Worlds.{no_ring_above, walk_equation}
use Rattle.projection.specs.ShowsLess.{ShowsLess}
use Rattle.projection.proofs.Related.{Equal, both_equal, each_equal, both_more, any_where, Pairs}
use Rattle.projection.proofs.Related.{no_pair, pair, flat_pairs, firsts_of_pairs}
use Rattle.projection.proofs.Twins.{Stays, Twins, same_name, same_flags, above_stays, OneOf}
use Rattle.projection.proofs.Twins.{alike_by, twins_at, leads_alike, ringless, walks_related}

-- ---- lists

flat_join : {A B : Type 0} (f : A → List B) (xs ys : List A) →
    flat_map f (xs ++ ys) ≡ flat_map f xs ++ flat_map f ys
flat_join f [] ys = refl
flat_join f (x ∷ xs) ys =
    ap (λ rest. f x ++ rest) (flat_join f xs ys)
    ∙ sym (append_assoc (f x) (flat_map f xs) (flat_map f ys))

in_flat : {A B : Type 0} (f : A → List B) (y : B) (x : A) (xs : List A) → In y (f x) → In x xs →
    In y (flat_map f xs)
in_flat f y x [] one at = elim at [ ]
in_flat f y x (x' ∷ xs) one first = in_front y (f x) (flat_map f xs) one
in_flat f y x (x' ∷ xs) one (later at) =
    in_back y (f x') (flat_map f xs) (in_flat f y x xs one at)

-- none of a list passes, so none of a part of it
none_of_part : {A : Type 0} (test : A → Bool) (part whole : List A) →
    ((x : A) → In x part → In x whole) → list_any test whole ≡ false → list_any test part ≡ false
none_of_part test part whole into none =
    false_from_ne_true (list_any test part) (λ t. let found = any_in test part t in
    none_in test found.0 whole none (into found.0 found.1) found.2)

-- ---- what is sought, and in which classes it is hidden

module _ {read gone : List (List ℕ)} {world less : World}
    (shows : ShowsLess read gone world less) (key : Key) (hides : View → Bool)
    (same_declared : (c d : View) → Twins read gone c d → hides c ≡ false →
    declared key c ≡ declared key d) where
  -- a name whose class, and each one above it, doesn't hide
  record Clear (name : List ℕ) : Type 0 where
    pub stays : Stays gone name
    pub none : HasNoRing world name
    pub plain : list_any hides (walk world name) ≡ false

  record Peers (c d : View) : Type 0 where
    pub twins : Twins read gone c d
    pub same : declared key c ≡ declared key d
    pub above : (s : List ℕ) → In s (supertypes c) → Clear s

  walk_parts : (name : List ℕ) (c : View) → HasNoRing world name → class_of world name ≡ Some c →
      walk world name ≡ c ∷ flat_map (walk world) (supertypes c)
  walk_parts name c none e =
      walk_equation world name c none e
      ∙ ap (λ rest. c ∷ rest)
      (sym (flat_join (walk world) c.interfaces (option_to_list c.super_name)))

  peers : (name : List ℕ) (c d : View) → Clear name → class_of world name ≡ Some c →
      Twins read gone c d → Peers c d
  peers name c d clear e twins =
      record {
        twins = twins;
        same = same_declared c d twins (or_parts (hides c) (list_any hides above) plain).0;
        above = clear_above;
      }
    where
      above : List View
      above = flat_map (walk world) (supertypes c)

      plain : list_any hides (c ∷ above) ≡ false
      plain =
          subst (λ classes. list_any hides classes ≡ false) (walk_parts name c clear.none e)
          clear.plain

      clear_above : (s : List ℕ) → In s (supertypes c) → Clear s
      clear_above s at =
          record {
            stays = above_stays twins s at;
            none = no_ring_above world name s c e at clear.none;
            plain =
                none_of_part hides (walk world s) above
                (λ x one. in_flat (walk world) x s (supertypes c) one at)
                (or_parts (hides c) (list_any hides above) plain).1;
          }

  peers_alike : AreAlike (hierarchy world) (hierarchy less) (OneOf Clear) Peers
  peers_alike =
      alike_by world less Clear
      (λ name clear. both_more (class_of world name) (class_of less name)
      (λ c d e twins. peers name c d clear e twins) (twins_at shows name clear.stays))
      (λ c d peers. peers.twins) (λ c d peers. peers.above)

  module _ (name : List ℕ) (clear : Clear name) where
    once : Pairs Peers (each_once (walk world name)) (each_once (walk less name))
    once =
        firsts_of_pairs same_class same_class
        (λ c d u v peers others i. is_text (sym (same_name peers.twins) i)
        (sym (same_name others.twins) i))
        (walks_related shows peers_alike name (refl, clear) clear.stays clear.none)

    same_candidates : candidates world key name ≡ candidates less key name
    same_candidates =
        flat_pairs (candidates_in key) (candidates_in key)
        (λ c d peers i. map (λ m. record {
          declarer = sym (same_name peers.twins) i;
          place = m.0;
          in_interface = is_interface_flags (sym (same_flags peers.twins) i);
          member = m.1;
        }) (enumerate_from 0 (peers.same i))) once

    all : List Candidate
    all = candidates world key name

    -- each candidate's class stays
    abbrev DeclarerStays : Candidate → Type 0
    DeclarerStays k = Stays gone k.declarer

    declared_stay : (c : View) → Stays gone c.name → (ms : List (ℕ × MemberView)) →
        AllByRecursion DeclarerStays (map (candidate c) ms)
    declared_stay c stays [] = tt
    declared_stay c stays (m ∷ ms) = (stays, declared_stay c stays ms)

    flat_stay : {cs ds : List View} → Pairs Peers cs ds →
        AllByRecursion DeclarerStays (flat_map (candidates_in key) cs)
    flat_stay no_pair = tt
    flat_stay (pair {x = c} {xs = cs} peers rest) =
        all_append DeclarerStays (candidates_in key c) (flat_map (candidates_in key) cs)
        (declared_stay c peers.twins.stays (enumerate_from 0 (declared key c))) (flat_stay rest)

    all_stay : AllByRecursion DeclarerStays all
    unfolding all
    all_stay = flat_stay once

    -- ---- what overrides, what is chosen, and so what is made of a class

    overridden_alike : (set : Members) → is_overridden world all set ≡ is_overridden less all set
    overridden_alike set =
        λ i k. k.in_interface && any_where DeclarerStays (overrides world set k)
        (overrides less set k) (agree k) all all_stay i
      where
        agree : (k other : Candidate) → DeclarerStays other →
            overrides world set k other ≡ overrides less set k other
        agree k other stays =
            λ i. set other && other.in_interface && (not (is_text other.declarer k.declarer)
            && leads_alike shows other.declarer k.declarer stays i)

    chosen_alike : (sought : Key) (f g : Members) →
        chosen_of sought world all f g ≡ chosen_of sought less all f g
    chosen_alike (FieldKey field) f g = refl
    chosen_alike (MethodKey method) f g =
        λ i. if list_any (λ k. f k && (either f g k && not (overridden_alike (either f g) i k)))
        all then (λ k. f k && (either f g k && not (overridden_alike (either f g) i k))) else
        (λ k. either f g k && not (overridden_alike (either f g) i k))

    inherits_alike : (c d : View) → c.name ≡ d.name → (k : Candidate) →
        inherits key c k ≡ inherits key d k
    inherits_alike c d same k =
        ap (λ b. b && not (stays_behind key k)) (by (access_of k.member.flags))
      where
        by : (access : Access) → comes_by access k c ≡ comes_by access k d
        by Private = refl
        by Public = refl
        by Protected = refl
        by InPackage = ap (λ n. is_text (package_of k.declarer) (package_of n)) same

    step_alike : (c d : View) → Peers c d → (super above : Option Members) → super ≡ above →
        (interfaces others : List Members) → interfaces ≡ others →
        member_step world key all c super interfaces ≡ member_step less key all d above others
    step_alike c d peers super above same interfaces others each =
        ap (λ set. if is_empty (declared key c) then set else own c)
        (chosen_alike key (by_superclass key c super) (by_superinterfaces key c interfaces))
        ∙ (λ i. if is_empty (peers.same i) then
        chosen_of key less all
        (λ k. option_map_or (λ set. set k) (same i) false && inherits_alike c d named k i)
        (λ k. list_any (λ set. set k) (each i) && inherits_alike c d named k i)
        else (λ k. is_text k.declarer (named i)))
      where
        named : c.name ≡ d.name
        named = sym (same_name peers.twins)

    -- ---- members

    at_depth : (depth : ℕ) →
        members_at world key all depth name ≡ members_at less key all depth name
    unfolding members_at
    at_depth depth =
        ap (λ o. unwrap_or o nothing)
        (both_equal (fold_at (hierarchy world) (member_step world key all) depth name)
        (fold_at (hierarchy less) (member_step less key all) depth name)
        (folds_alike (hierarchy world) (hierarchy less) Peers Equal (member_step world key all)
        (member_step less key all) (OneOf Clear) peers_alike
        (λ c d peers super above both interfaces others each. step_alike c d peers super above
        (both_equal super above both) interfaces others (each_equal interfaces others each))
        depth name name (refl, clear)))

    among_alike : members_among world key all name ≡ members_among less key all name
    among_alike =
        let deep = length world + length less in
        sym (members_settled world name clear.none key all deep (omega arith))
        ∙ at_depth deep
        ∙ members_settled less name (ringless shows name clear.stays clear.none) key all deep
        (omega arith)

    same_members : members world key name ≡ members less key name
    unfolding members all
    same_members =
        (λ i. filter (among_alike i) (candidates world key name))
        ∙ ap (λ found. filter (members_among less key found name) found) same_candidates

  pub members_survive : (name : List ℕ) → Stays gone name → HasNoRing world name →
      list_any hides (walk world name) ≡ false → members world key name ≡ members less key name
  members_survive name stays none plain =
      same_members name (record { stays = stays; none = none; plain = plain })
