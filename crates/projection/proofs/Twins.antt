-- Two worlds, of which the second shows less: which classes stand for each other along
-- supertypes, and that both worlds have the same ways, rings and access.
use Rattle.std.proofs.Common.{◌≡◌, refl, sym, ap, subst, subst₂, ◌∙◌, arith, ℕ, ◌+◌}
use Rattle.std.proofs.Common.{false, ◌||◌, List, [], ◌∷◌, ◌++◌, length, Option, Some, None}
use Rattle.std.specs.Prelude.{option_to_list, unwrap_or}
use Rattle.std.specs.Option.{option_map_or}
use Rattle.std.proofs.lemmas.Bool.{false_from_ne_true}
use Rattle.java_names.specs.Names.{is_text}
use Rattle.class_views.specs.Access.{Client, is_accessible, is_accessible_class, may_access}
use Rattle.class_views.specs.Access.{is_in_package}
use Rattle.class_views.specs.Alike.{Both, Each, Stand, done, paired, AreAlike}
use Rattle.class_views.specs.Flags.{Access, Private, Public, Protected, InPackage, access_of}
use Rattle.class_views.specs.Flags.{has_flag}
use Rattle.class_views.specs.Strip.{is_listed}
use Rattle.class_views.specs.View.{View, MemberView}
use Rattle.class_views.specs.World.{World, class_of, hierarchy, supertypes, walk, walk_at, chain}
use Rattle.class_views.specs.World.{chain_at, walk_step, chain_step, is_among, is_named, leads_to}
use Rattle.class_views.specs.World.{HasNoRing}
use Rattle.class_views.proofs.Alike.{walks_alike, chains_alike}
use Rattle.class_views.proofs.Settled.{Climbs, in_front, in_back}
use Rattle.class_views.proofs.Ways.{In, first, later, none_in, Way, here, along}
use Rattle.class_views.proofs.Worlds.{name_of, found_named, walk_steady, chain_steady, free}
use Rattle.class_views.proofs.Worlds.{no_ring, made_settled}
use Rattle.projection.specs.ShowsLess.{StandsFor, ShowsLess}
use Rattle.projection.proofs.Related.{Pairs, pairs_of, any_of_pairs, both_more}

-- ---- classes that stand for each other

-- a name that isn't gone
abbrev pub Stays : List (List ℕ) → List ℕ → Type 0
Stays gone name = is_listed gone name ≡ false

pub record Twins (read gone : List (List ℕ)) (c d : View) : Type 0 where
  pub stands : StandsFor read gone c d
  pub stays : Stays gone c.name

module _ {read gone : List (List ℕ)} {c d : View} (twins : Twins read gone c d) where
  pub same_name : d.name ≡ c.name
  same_name = ap name_of twins.stands.shows.same

  pub same_flags : d.flags ≡ c.flags
  same_flags = ap (λ (v : View). v.flags) twins.stands.shows.same

  pub same_super : d.super_name ≡ c.super_name
  same_super = ap (λ (v : View). v.super_name) twins.stands.shows.same

  pub same_interfaces : d.interfaces ≡ c.interfaces
  same_interfaces = ap (λ (v : View). v.interfaces) twins.stands.shows.same

  pub above_stays : (s : List ℕ) → In s (supertypes c) → Stays gone s
  above_stays s at =
      false_from_ne_true (is_listed gone s)
      (none_in (is_listed gone) s (supertypes c) twins.stands.closed at)

  pub same_access : (client : Client) →
      is_accessible_class client c ≡ is_accessible_class client d
  same_access client =
      λ i. has_flag 0x0001 (sym same_flags i)
      || is_in_package client.package_name (sym same_name i)

-- ---- worlds are alike by classes that stand for each other, of names of a set that is closed
-- along supertypes

abbrev pub OneOf : (List ℕ → Type 0) → List ℕ → List ℕ → Type 0
OneOf Holds n m = (n ≡ m) × Holds n

module _ (world less : World) (Holds : List ℕ → Type 0) where
  abbrev StandsIn : List (List ℕ) → List (List ℕ) → Type 0
  StandsIn names others = Stand (hierarchy world) (hierarchy less) (OneOf Holds) names others

  stand_each : (names : List (List ℕ)) → ((s : List ℕ) → In s names → Holds s) →
      StandsIn names names
  stand_each [] holds = done
  stand_each (n ∷ names) holds =
      paired (refl, holds n first) (stand_each names (λ s at. holds s (later at)))

  pub alike_by : {read gone : List (List ℕ)} {Related : View → View → Type 0} →
      ((name : List ℕ) → Holds name → Both Related (class_of world name) (class_of less name)) →
      ((c d : View) → Related c d → Twins read gone c d) →
      ((c d : View) → Related c d → (s : List ℕ) → In s (supertypes c) → Holds s) →
      AreAlike (hierarchy world) (hierarchy less) (OneOf Holds) Related
  alike_by {Related = Related} related twins closed = record {
    classes =
        λ n m same. subst (λ k. Both Related (class_of world n) (class_of less k)) same.0
        (related n same.1);
    superclass =
        λ c d one. subst (λ o. StandsIn (option_to_list c.super_name) (option_to_list o))
        (sym (same_super (twins c d one)))
        (stand_each (option_to_list c.super_name)
        (λ s at. closed c d one s (in_back s c.interfaces (option_to_list c.super_name) at)));
    superinterfaces =
        λ c d one. subst (λ names. StandsIn c.interfaces names)
        (sym (same_interfaces (twins c d one)))
        (stand_each c.interfaces
        (λ s at. closed c d one s (in_front s c.interfaces (option_to_list c.super_name) at)));
  }

module _ {read gone : List (List ℕ)} {world less : World}
    (shows : ShowsLess read gone world less) where
  pub twins_at : (name : List ℕ) → Stays gone name →
      Both (Twins read gone) (class_of world name) (class_of less name)
  twins_at name stays =
      both_more (class_of world name) (class_of less name)
      (λ c d e stands. record {
        stands = stands;
        stays = subst (Stays gone) (sym (found_named world name c e)) stays;
      }) (shows.classes name stays)

  pub alike : AreAlike (hierarchy world) (hierarchy less) (OneOf (Stays gone)) (Twins read gone)
  alike =
      alike_by world less (Stays gone) twins_at (λ c d twins. twins)
      (λ c d twins. above_stays twins)

  -- ---- ways and chains, also into rings

  same_among : (name : List ℕ) (cs ds : List View) → Each (Twins read gone) cs ds →
      is_among name cs ≡ is_among name ds
  same_among name cs ds each =
      any_of_pairs (is_named name) (is_named name)
      (λ c d twins. ap (λ n. is_text n name) (sym (same_name twins))) (pairs_of cs ds each)

  pub leads_alike : (from to : List ℕ) → Stays gone from →
      leads_to world from to ≡ leads_to less from to
  leads_alike from to stays =
      let deep = length world + length less in
      sym (walk_steady world from to deep (omega arith))
      ∙ same_among to (walk_at world deep from) (walk_at less deep from)
      (walks_alike world less (OneOf (Stays gone)) (Twins read gone) alike deep from from
      (refl, stays))
      ∙ walk_steady less from to deep (omega arith)

  chains_lead : (from to : List ℕ) → Stays gone from →
      is_among to (chain world from) ≡ is_among to (chain less from)
  chains_lead from to stays =
      let deep = length world + length less in
      sym (chain_steady world from to deep (omega arith))
      ∙ same_among to (chain_at world deep from) (chain_at less deep from)
      (chains_alike world less (OneOf (Stays gone)) (Twins read gone) alike deep from from
      (refl, stays))
      ∙ chain_steady less from to deep (omega arith)

  -- ---- access

  module _ (client : Client)
      (superclass_stays : option_map_or (is_listed gone) client.super_name false ≡ false)
      (declarer : List ℕ) where
    above_client_alike : (o : Option (List ℕ)) → option_map_or (is_listed gone) o false ≡ false →
        option_map_or (λ super. is_among declarer (chain world super)) o false
        ≡ option_map_or (λ super. is_among declarer (chain less super)) o false
    above_client_alike None stays = refl
    above_client_alike (Some super) stays = chains_lead super declarer stays

    pub accessible_alike : (m : MemberView) →
        is_accessible world client declarer m ≡ is_accessible less client declarer m
    accessible_alike m = by (access_of m.flags)
      where
        by : (access : Access) →
            may_access world client declarer access ≡ may_access less client declarer access
        by Private = refl
        by Public = refl
        by Protected =
            ap (λ b. is_in_package client.package_name declarer || b)
            (above_client_alike client.super_name superclass_stays)
        by InPackage = refl

  -- ---- rings

  abbrev TwinIn : List ℕ → View → Type 0
  TwinIn name d = (c : View) × (class_of world name ≡ Some c) × Twins read gone c d

  twin_of : (name : List ℕ) → Stays gone name → (d : View) →
      class_of less name ≡ Some d → TwinIn name d
  twin_of name stays d e =
      by (class_of world name) refl
      (subst (λ p. Both (Twins read gone) (class_of world name) p) e (twins_at name stays))
    where
      by : (o : Option View) → class_of world name ≡ o → Both (Twins read gone) o (Some d) →
          TwinIn name d
      by (Some c) f both = (c, f, both)
      by None f both = absurd both

  up_again : (name : List ℕ) (d : View) (twin : TwinIn name d) (s : List ℕ) →
      In s (supertypes d) → In s (supertypes twin.0)
  up_again name d twin s up =
      subst₂ (λ names o. In s (names ++ option_to_list o)) (same_interfaces twin.2)
      (same_super twin.2) up

  abbrev Back : List ℕ → List (List ℕ) → List ℕ → Type 0
  Back a names b = Way (class_of world) supertypes a names b × Stays gone b

  way_back : (a b : List ℕ) (names : List (List ℕ)) → Stays gone a →
      Way (class_of less) supertypes a names b → Back a names b
  way_back a b [] stays w = elim w [ ]
  way_back a b (n ∷ []) stays (here {c = d} e) = (here (twin_of a stays d e).1, stays)
  way_back a b (n ∷ names) stays (along {s = s} {c = d} e up w) =
      let twin = twin_of a stays d e in
      let above = up_again a d twin s up in
      let rest = way_back s b names (above_stays twin.2 s above) w in
      (along twin.1 above rest.0, rest.1)

  climbs_back : (b : List ℕ) → Stays gone b → Climbs (hierarchy less) b b →
      Climbs (hierarchy world) b b
  climbs_back b stays climbs =
      let twin = twin_of b stays climbs.class climbs.found in
      let above = up_again b climbs.class twin climbs.next climbs.up in
      let on = way_back climbs.next b climbs.leads.0 (above_stays twin.2 climbs.next above)
      climbs.leads.1 in
      record {
        class = twin.0;
        next = climbs.next;
        found = twin.1;
        up = above;
        leads = (climbs.leads.0, on.0);
      }

  -- no ring above a class, so none above the one that stands for it
  pub ringless : (name : List ℕ) → Stays gone name → HasNoRing world name →
      HasNoRing less name
  ringless name stays none =
      no_ring less name
      (λ b leads climbs. let way = way_back name b leads.0 stays leads.1 in
      free world name none b (leads.0, way.0) (climbs_back b way.1 climbs))

  -- ---- where no ring is above, each world's own number of classes is depth enough

  module _ {Same : List ℕ → List ℕ → Type 0} {Related : View → View → Type 0}
      (related : AreAlike (hierarchy world) (hierarchy less) Same Related) (name : List ℕ)
      (same : Same name name) (stays : Stays gone name) (none : HasNoRing world name)
    where
      pub walks_related : Pairs Related (walk world name) (walk less name)
      walks_related =
          let deep = length world + length less in
          pairs_of (walk world name) (walk less name)
          (subst₂ (λ o p. Each Related (unwrap_or o []) (unwrap_or p []))
          (made_settled world walk_step name none deep (omega arith))
          (made_settled less walk_step name (ringless name stays none) deep (omega arith))
          (walks_alike world less Same Related related deep name name same))

      pub chains_related : Pairs Related (chain world name) (chain less name)
      chains_related =
          let deep = length world + length less in
          pairs_of (chain world name) (chain less name)
          (subst₂ (λ o p. Each Related (unwrap_or o []) (unwrap_or p []))
          (made_settled world chain_step name none deep (omega arith))
          (made_settled less chain_step name (ringless name stays none) deep (omega arith))
          (chains_alike world less Same Related related deep name name same))
