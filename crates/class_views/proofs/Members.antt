-- The sets of members, one step at a time.
use Rattle.std.proofs.Common.{◌≡◌, refl, sym, ap, subst, ◌∙◌, arith, ℕ, zero, suc, ◌≤◌, Bool}
use Rattle.std.proofs.Common.{true, false, not, cond, ◌&&◌, ◌||◌, ◌⊎◌, inl, inr, List, [], ◌∷◌}
use Rattle.std.proofs.Common.{length, Option, Some, None, if◌then◌else◌}
use Rattle.std.specs.Prelude.{filter, option_and_then, option_map, option_to_list, unwrap_or}
use Rattle.std.specs.Option.{option_map_or}
use Rattle.std.specs.List.{list_any, filter_map, cons_option}
use Rattle.std.specs.Cmp.{both_ways}
use Rattle.std.proofs.lemmas.Bool.{or_cases, or_right, and_from, and_parts, not-true, false≢true}
use Rattle.std.proofs.lemmas.Bool.{false_from_ne_true, cases_Bool}
use Rattle.java_names.specs.Names.{is_text}
use Rattle.class_views.specs.View.{View}
use Rattle.class_views.specs.Supertypes.{step_over, fold_at}
use Rattle.class_views.specs.World.{World, class_of, hierarchy, supertypes, leads_to, is_below}
use Rattle.class_views.specs.World.{HasNoRing}
use Rattle.class_views.specs.Resolution.{NameAndType}
use Rattle.class_views.specs.Membership.{Key, FieldKey, MethodKey, Candidate, Members, declared}
use Rattle.class_views.specs.Membership.{inherits, overrides, is_overridden, either, remaining}
use Rattle.class_views.specs.Membership.{left_by_super, chosen, chosen_of, is_empty, own}
use Rattle.class_views.specs.Membership.{member_step, nothing, members_at, members_among}
use Rattle.class_views.specs.OneStep.{inherited_by_superclass, inherited_by_superinterfaces}
use Rattle.class_views.specs.OneStep.{members_over, in_one_step, inherited_in_one_step}
use Rattle.class_views.specs.OneStep.{AreApart as ListedApart}
use Rattle.class_views.proofs.Ways.{In, first, later, any_in, in_any, none_in, Way, here, along}
use Rattle.class_views.proofs.Ways.{joins}
use Rattle.class_views.proofs.Settled.{Leads, Climbs, in_front, in_back}
use Rattle.class_views.proofs.Worlds.{same_text, texts, found_named, leads_to_way}
use Rattle.class_views.proofs.Worlds.{leads_to_onward, free, made_settled}

-- ---- what a class's members are, from those of its supertypes

module _ (world : World) (key : Key) (all : List Candidate) where
  abbrev step : View → Option Members → List Members → Members
  step = member_step world key all

  -- what a depth gives of a class
  abbrev of_class : ℕ → View → Members
  of_class depth c = step_over (hierarchy world) step (fold_at (hierarchy world) step depth) c

  nothing_at : (name : List ℕ) (k : Candidate) → members_at world key all zero name k ≡ false
  unfolding members_at fold_at
  nothing_at name k = refl

  next_members : (depth : ℕ) (name : List ℕ) →
      members_at world key all (suc depth) name ≡ option_map_or (of_class depth)
      (class_of world name) nothing
  unfolding members_at fold_at
  next_members depth name = by (class_of world name) refl
    where
      by : (o : Option View) → class_of world name ≡ o →
          unwrap_or (option_map (of_class depth) (class_of world name)) nothing ≡ option_map_or
          (of_class depth) (class_of world name) nothing
      by None e =
          ap (λ o. unwrap_or (option_map (of_class depth) o) nothing) e
          ∙ sym (ap (λ o. option_map_or (of_class depth) o nothing) e)
      by (Some c) e =
          ap (λ o. unwrap_or (option_map (of_class depth) o) nothing) e
          ∙ sym (ap (λ o. option_map_or (of_class depth) o nothing) e)

  -- by the superclass, and by the superinterfaces
  super_set : (depth : ℕ) (o : Option (List ℕ)) (k : Candidate) →
      option_map_or (λ set. set k) (option_and_then (fold_at (hierarchy world) step depth) o) false
      ≡ option_map_or (λ super. members_at world key all depth super k) o false
  unfolding members_at
  super_set depth None k = refl
  super_set depth (Some super) k = by (fold_at (hierarchy world) step depth super)
    where
      by : (made : Option Members) →
          option_map_or (λ set. set k) made false ≡ unwrap_or made nothing k
      by None = refl
      by (Some set) = refl

  interface_sets : (depth : ℕ) (names : List (List ℕ)) (k : Candidate) →
      list_any (λ set. set k) (filter_map (fold_at (hierarchy world) step depth) names) ≡ list_any
      (λ interface. members_at world key all depth interface k) names
  unfolding members_at
  interface_sets depth [] k = refl
  interface_sets depth (name ∷ names) k =
      by (fold_at (hierarchy world) step depth name) (interface_sets depth names k)
    where
      by : (made : Option Members) →
          list_any (λ set. set k) (filter_map (fold_at (hierarchy world) step depth) names)
          ≡ list_any
          (λ interface. unwrap_or (fold_at (hierarchy world) step depth interface) nothing k)
          names → list_any (λ set. set k)
          (cons_option made (filter_map (fold_at (hierarchy world) step depth) names))
          ≡ (unwrap_or made nothing k || list_any
          (λ interface. unwrap_or (fold_at (hierarchy world) step depth interface) nothing k)
          names)
      by None rest = rest
      by (Some set) rest = ap (λ b. set k || b) rest

  abbrev super_at : ℕ → View → Members
  super_at depth c k =
      option_map_or (λ super. members_at world key all depth super k) c.super_name false
      && inherits
      key c k

  abbrev interface_at : ℕ → View → Members
  interface_at depth c k =
      list_any (λ interface. members_at world key all depth interface k) c.interfaces && inherits
      key c k

  -- the members of a class, without the fold
  abbrev of_supertypes : ℕ → View → Members
  of_supertypes depth c =
      if is_empty (declared key c) then chosen_of key world all (super_at depth c)
      (interface_at depth c) else own c

  of_class_is : (depth : ℕ) (c : View) → of_class depth c ≡ of_supertypes depth c
  of_class_is depth c =
      λ i. if is_empty (declared key c) then chosen_of key world all
      (λ k. super_set depth c.super_name k i && inherits key c k)
      (λ k. interface_sets depth c.interfaces k i && inherits key c k) else own c

  -- ---- members come from the walk

  abbrev From : List ℕ → Candidate → Type 0
  From name k = Leads (hierarchy world) name k.declarer

  one_of : (b : Bool) (f g : Members) (k : Candidate) → (if b then f else g) k ≡ true →
      (f k ≡ true) ⊎ (g k ≡ true)
  one_of true f g k t = inl t
  one_of false f g k t = inr t

  -- what is chosen came one of the two ways
  chosen_came : (sought : Key) (f g : Members) (k : Candidate) →
      chosen_of sought world all f g k ≡ true → (f k ≡ true) ⊎ (g k ≡ true)
  chosen_came (FieldKey name) f g k t = or_cases (f k) (g k) t
  chosen_came (MethodKey sought) f g k t =
      by (one_of (list_any (left_by_super world all f g) all) (left_by_super world all f g)
      (remaining world all (either f g) (either f g)) k t)
    where
      by : (left_by_super world all f g k ≡ true)
          ⊎ (remaining world all (either f g) (either f g) k ≡ true) → (f k ≡ true) ⊎ (g k ≡ true)
      by (inl u) = inl (and_parts (f k) (remaining world all (either f g) (either f g) k) u).0
      by (inr u) =
          or_cases (f k) (g k)
          (and_parts (f k || g k) (not (is_overridden world all (either f g) k)) u).0

  Came : ℕ → View → Candidate → Type 0
  Came depth c k = (s : List ℕ) × In s (supertypes c) × (members_at world key all depth s k ≡ true)

  came_super : (depth : ℕ) (c : View) (k : Candidate) → super_at depth c k ≡ true → Came depth c k
  unfolding Came
  came_super depth c k t =
      by c.super_name refl
      (and_parts
      (option_map_or (λ super. members_at world key all depth super k) c.super_name false)
      (inherits key c k) t).0
    where
      by : (o : Option (List ℕ)) → c.super_name ≡ o →
          option_map_or (λ super. members_at world key all depth super k) c.super_name false
          ≡ true → Came depth c k
      by None e u =
          absurd (false≢true
          (sym (ap (λ o. option_map_or (λ super. members_at world key all depth super k) o false)
          e) ∙ u))
      by (Some s) e u = (
        s,
        in_back s c.interfaces (option_to_list c.super_name)
            (subst (λ o. In s (option_to_list o)) (sym e) first),
        sym
            (ap (λ o. option_map_or (λ super. members_at world key all depth super k) o false) e)
            ∙ u,
      )

  came_interface : (depth : ℕ) (c : View) (k : Candidate) → interface_at depth c k ≡ true →
      Came depth c k
  unfolding Came
  came_interface depth c k t =
      let some =
      any_in (λ interface. members_at world key all depth interface k) c.interfaces
      (and_parts
      (list_any (λ interface. members_at world key all depth interface k) c.interfaces)
      (inherits key c k) t).0 in
      (some.0, in_front some.0 c.interfaces (option_to_list c.super_name) some.1, some.2)

  came : (depth : ℕ) (c : View) (k : Candidate) →
      (super_at depth c k ≡ true) ⊎ (interface_at depth c k ≡ true) → Came depth c k
  came depth c k (inl t) = came_super depth c k t
  came depth c k (inr t) = came_interface depth c k t

  came_from : (depth : ℕ) (name : List ℕ) (c : View) (k : Candidate) →
      class_of world name ≡ Some c →
      ((s : List ℕ) → members_at world key all depth s k ≡ true → From s k) → Came depth c k →
      From name k
  unfolding Came
  came_from depth name c k e more (s, up, t) = let way =
      more s t in (name ∷ way.0, along e up way.1)

  -- a member's class stands in the walk
  pub member_from : (depth : ℕ) (name : List ℕ) (k : Candidate) →
      members_at world key all depth name k ≡ true → From name k
  member_from zero name k t = absurd (none t)
    where
      none : members_at world key all zero name k ≡ true → ⊥
      none t = false≢true (sym (nothing_at name k) ∙ t)
  member_from (suc depth) name k t = by (class_of world name) refl (λ s. member_from depth s k)
    where
      by : (o : Option View) → class_of world name ≡ o →
          ((s : List ℕ) → members_at world key all depth s k ≡ true → From s k) → From name k
      by None e more =
          absurd (false≢true
          (sym (ap (λ o. option_map_or (of_class depth) o nothing k) e)
          ∙ sym (λ i. next_members depth name i k) ∙ t))
      by (Some c) e more =
          let u : of_supertypes depth c k ≡ true =
          sym (λ i. of_class_is depth c i k)
          ∙ sym (ap (λ o. option_map_or (of_class depth) o nothing k) e)
          ∙ sym (λ i. next_members depth name i k) ∙ t in
          both (one_of (is_empty (declared key c))
          (chosen_of key world all (super_at depth c) (interface_at depth c)) (own c) k u)
        where
          both : (chosen_of key world all (super_at depth c) (interface_at depth c) k ≡ true)
              ⊎ (own c k ≡ true) → From name k
          both (inl v) =
              came_from depth name c k e more
              (came depth c k (chosen_came key (super_at depth c) (interface_at depth c) k v))
          both (inr v) =
              let same : k.declarer ≡ name =
              same_text k.declarer c.name v ∙ found_named world name c e in (
                name ∷ [],
                subst (λ n. Way (class_of world) supertypes name (name ∷ []) n) (sym same)
                    (here e),
              )

-- ---- no member overrides another

module _ (world : World) (all : List Candidate) where
  -- a method that this one overrides
  pub record Overrides (set : Members) (k : Candidate) : Type 0 where
    pub in_interface : k.in_interface ≡ true
    pub other : Candidate
    pub listed : In other all
    pub member : set other ≡ true
    pub other_in_interface : other.in_interface ≡ true
    pub below : is_below world other.declarer k.declarer ≡ true

  overridden_by : (set : Members) (k : Candidate) → is_overridden world all set k ≡ true →
      Overrides set k
  overridden_by set k t =
      let p = and_parts k.in_interface (list_any (overrides world set k) all) t in
      let found = any_in (overrides world set k) all p.1 in
      let q = and_parts (set found.0 && found.0.in_interface)
      (is_below world found.0.declarer k.declarer) found.2 in
      let r = and_parts (set found.0) found.0.in_interface q.0 in
      record {
        in_interface = p.0;
        other = found.0;
        listed = found.1;
        member = r.0;
        other_in_interface = r.1;
        below = q.1;
      }

  overridden : (set : Members) (k : Candidate) → Overrides set k →
      is_overridden world all set k ≡ true
  overridden set k o =
      and_from k.in_interface (list_any (overrides world set k) all) o.in_interface
      (in_any (overrides world set k) o.other all o.listed
      (and_from (set o.other && o.other.in_interface) (is_below world o.other.declarer k.declarer)
      (and_from (set o.other) o.other.in_interface o.member o.other_in_interface) o.below))

  abbrev pub AreApart : Members → Type 0
  AreApart set =
      (k other : Candidate) → In other all → set k ≡ true → set other ≡ true →
      k.in_interface ≡ true → other.in_interface ≡ true →
      is_below world other.declarer k.declarer ≡ false

  remaining_apart : (set others : Members) (k other : Candidate) → In other all →
      remaining world all set others k ≡ true → others other ≡ true → k.in_interface ≡ true →
      other.in_interface ≡ true → is_below world other.declarer k.declarer ≡ false
  remaining_apart set others k other at t u i j =
      false_from_ne_true (is_below world other.declarer k.declarer) (λ below.
      false≢true
      (sym (not-true (is_overridden world all others k)
      (and_parts (set k) (not (is_overridden world all others k)) t).1)
      ∙ overridden others k
      (record {
        in_interface = i;
        other = other;
        listed = at;
        member = u;
        other_in_interface = j;
        below = below;
      })))

  chosen_remains : (f g : Members) (k : Candidate) → chosen world all f g k ≡ true →
      remaining world all (either f g) (either f g) k ≡ true
  chosen_remains f g k t =
      by (one_of world (FieldKey []) all (list_any (left_by_super world all f g) all)
      (left_by_super world all f g) (remaining world all (either f g) (either f g)) k t)
    where
      by : (left_by_super world all f g k ≡ true)
          ⊎ (remaining world all (either f g) (either f g) k ≡ true) →
          remaining world all (either f g) (either f g) k ≡ true
      by (inl u) = (and_parts (f k) (remaining world all (either f g) (either f g) k) u).1
      by (inr u) = u

  chosen_apart : (f g : Members) → AreApart (chosen world all f g)
  chosen_apart f g k other at t u i j =
      remaining_apart (either f g) (either f g) k other at (chosen_remains f g k t)
      (and_parts (either f g other) (not (is_overridden world all (either f g) other))
      (chosen_remains f g other u)).0 i j

  own_apart : (c : View) → AreApart (own c)
  own_apart c k other at t u i j = ap (λ b. not b && leads_to world other.declarer k.declarer) same
    where
      same : is_text other.declarer k.declarer ≡ true
      same = subst (λ n. is_text other.declarer n ≡ true)
          (same_text other.declarer c.name u ∙ sym (same_text k.declarer c.name t))
          (texts.refl other.declarer)

  pub members_apart : (sought : NameAndType) (depth : ℕ) (name : List ℕ) →
      AreApart (members_at world (MethodKey sought) all depth name)
  members_apart sought zero name =
      λ k other at t u i j. absurd
      (false≢true (sym (nothing_at world (MethodKey sought) all name k) ∙ t))
  members_apart sought (suc depth) name =
      subst (AreApart) (sym (next_members world (MethodKey sought) all depth name))
      (by (class_of world name))
    where
      ends : (c : View) (b : Bool) (f g : Members) →
          AreApart (if b then chosen world all f g else own c)
      ends c true f g = chosen_apart f g
      ends c false f g = own_apart c

      by : (o : Option View) →
          AreApart (option_map_or (of_class world (MethodKey sought) all depth) o nothing)
      by None = λ k other at t u i j. absurd (false≢true t)
      by (Some c) =
          subst AreApart (sym (of_class_is world (MethodKey sought) all depth c))
          (ends c (is_empty (declared (MethodKey sought) c))
          (super_at world (MethodKey sought) all depth c)
          (interface_at world (MethodKey sought) all depth c))

-- ---- one step

module _ (world : World) (all : List Candidate) (by_super by_interface : Members) where
  abbrev come : Members
  come = either by_super by_interface

  module _ (apart : AreApart world all by_super) where
    -- what came by the superclass is overridden only from the superinterfaces
    super_overridden : (k : Candidate) → by_super k ≡ true →
        is_overridden world all come k ≡ is_overridden world all by_interface k
    super_overridden k t =
        both_ways (is_overridden world all come k) (is_overridden world all by_interface k)
        (λ u. only (overridden_by world all come k u))
        (λ u. more (overridden_by world all by_interface k u))
      where
        more : Overrides world all by_interface k → is_overridden world all come k ≡ true
        more o =
            overridden world all come k
            (record {
              in_interface = o.in_interface;
              other = o.other;
              listed = o.listed;
              member = or_right (by_super o.other) (by_interface o.other) o.member;
              other_in_interface = o.other_in_interface;
              below = o.below;
            })

        only : Overrides world all come k → is_overridden world all by_interface k ≡ true
        only o = by (or_cases (by_super o.other) (by_interface o.other) o.member)
          where
            by : (by_super o.other ≡ true) ⊎ (by_interface o.other ≡ true) →
                is_overridden world all by_interface k ≡ true
            by (inl u) =
                absurd (false≢true
                (sym (apart k o.other o.listed t u o.in_interface o.other_in_interface)
                ∙ o.below))
            by (inr u) =
                overridden world all by_interface k
                (record {
                  in_interface = o.in_interface;
                  other = o.other;
                  listed = o.listed;
                  member = u;
                  other_in_interface = o.other_in_interface;
                  below = o.below;
                })

    super_left : (k : Candidate) →
        left_by_super world all by_super by_interface k ≡ remaining world all by_super by_interface
        k
    super_left k = by (cases_Bool (by_super k))
      where
        by : (by_super k ≡ true) ⊎ (by_super k ≡ false) →
            left_by_super world all by_super by_interface k ≡ remaining world all by_super
            by_interface k
        by (inl t) =
            (λ i. t i && ((t i || by_interface k) && not (is_overridden world all come k)))
            ∙ ap not (super_overridden k t)
            ∙ sym (ap (λ b. b && not (is_overridden world all by_interface k)) t)
        by (inr f) =
            ap (λ b. b && remaining world all come come k) f
            ∙ sym (ap (λ b. b && not (is_overridden world all by_interface k)) f)

    module _ (none : list_any (remaining world all by_super by_interface) all ≡ false) where
      -- where nothing of the superclass's stays, all of it is overridden
      all_overridden : (k : Candidate) → In k all → by_super k ≡ true →
          is_overridden world all by_interface k ≡ true
      all_overridden k at t = by (cases_Bool (is_overridden world all by_interface k))
        where
          by : (is_overridden world all by_interface k ≡ true)
              ⊎ (is_overridden world all by_interface k ≡ false) →
              is_overridden world all by_interface k ≡ true
          by (inl u) = u
          by (inr f) =
              absurd (none_in (remaining world all by_super by_interface) k all none at
              (and_from (by_super k) (not (is_overridden world all by_interface k)) t (ap not f)))

      module _
          (onward : (i o k : Candidate) → by_interface k ≡ true →
          is_below world i.declarer o.declarer ≡ true →
          is_below world o.declarer k.declarer ≡ true → is_below world i.declarer k.declarer
          ≡ true)
        where
          interface_overridden : (k : Candidate) → by_interface k ≡ true →
              is_overridden world all come k ≡ is_overridden world all by_interface k
          interface_overridden k t =
              both_ways (is_overridden world all come k) (is_overridden world all by_interface k)
              (λ u. only (overridden_by world all come k u))
              (λ u. more (overridden_by world all by_interface k u))
            where
              more : Overrides world all by_interface k → is_overridden world all come k ≡ true
              more o =
                  overridden world all come k
                  (record {
                    in_interface = o.in_interface;
                    other = o.other;
                    listed = o.listed;
                    member = or_right (by_super o.other) (by_interface o.other) o.member;
                    other_in_interface = o.other_in_interface;
                    below = o.below;
                  })

              further : (o : Overrides world all come k) →
                  Overrides world all by_interface o.other →
                  is_overridden world all by_interface k ≡ true
              further o p =
                  overridden world all by_interface k
                  (record {
                    in_interface = o.in_interface;
                    other = p.other;
                    listed = p.listed;
                    member = p.member;
                    other_in_interface = p.other_in_interface;
                    below = onward p.other o.other k t p.below o.below;
                  })

              only : Overrides world all come k → is_overridden world all by_interface k ≡ true
              only o = by (or_cases (by_super o.other) (by_interface o.other) o.member)
                where
                  by : (by_super o.other ≡ true) ⊎ (by_interface o.other ≡ true) →
                      is_overridden world all by_interface k ≡ true
                  by (inl u) =
                      further o
                      (overridden_by world all by_interface o.other
                      (all_overridden o.other o.listed u))
                  by (inr u) =
                      overridden world all by_interface k
                      (record {
                        in_interface = o.in_interface;
                        other = o.other;
                        listed = o.listed;
                        member = u;
                        other_in_interface = o.other_in_interface;
                        below = o.below;
                      })

          interface_left : (k : Candidate) → In k all →
              remaining world all come come k ≡ remaining world all by_interface by_interface k
          interface_left k at = by (cases_Bool (by_super k)) (cases_Bool (by_interface k))
            where
              nil : (b : Bool) → b && false ≡ false
              nil true = refl
              nil false = refl

              by : (by_super k ≡ true) ⊎ (by_super k ≡ false) →
                  (by_interface k ≡ true) ⊎ (by_interface k ≡ false) →
                  remaining world all come come k ≡ remaining world all by_interface by_interface k
              by (inl t) u =
                  let over : is_overridden world all by_interface k ≡ true =
                  all_overridden k at t in
                  ap (λ b. come k && not b) (super_overridden k t ∙ over) ∙ nil (come k)
                  ∙ sym (ap (λ b. by_interface k && not b) over ∙ nil (by_interface k))
              by (inr f) (inl t) = (λ i. (f i || by_interface k)
                  && not (interface_overridden k t i))
              by (inr f) (inr g) =
                  (λ i. (f i || g i) && not (is_overridden world all come k))
                  ∙ sym (ap (λ b. b && not (is_overridden world all by_interface k)) g)

    pub chosen_in_one_step :
        ((i o k : Candidate) → by_interface k ≡ true → is_below world i.declarer o.declarer
        ≡ true →
        is_below world o.declarer k.declarer ≡ true →
        is_below world i.declarer k.declarer ≡ true) → (k : Candidate) → In k all →
        chosen world all by_super by_interface k ≡ in_one_step world all by_super by_interface k
    chosen_in_one_step onward k at =
        (λ i. (if list_any (left i) all then left i else remaining world all come come) k)
        ∙ by (cases_Bool (list_any (remaining world all by_super by_interface) all))
      where
        left : left_by_super world all by_super by_interface ≡ remaining world all by_super
            by_interface
        left = λ i k. super_left k i

        by : (list_any (remaining world all by_super by_interface) all ≡ true)
            ⊎ (list_any (remaining world all by_super by_interface) all ≡ false) →
            (if list_any (remaining world all by_super by_interface) all then remaining world all
            by_super by_interface else remaining world all come come) k ≡ in_one_step world all
            by_super by_interface k
        by (inl t) =
            ap (λ b.
            (if b then remaining world all by_super by_interface else remaining world all come
            come) k) t
            ∙ sym (ap
            (λ b. (if b then remaining world all by_super by_interface else remaining world
            all by_interface by_interface) k) t)
        by (inr f) =
            ap (λ b.
            (if b then remaining world all by_super by_interface else remaining world all come
            come) k) f
            ∙ interface_left f onward k at
            ∙ sym (ap
            (λ b. (if b then remaining world all by_super by_interface else remaining world
            all by_interface by_interface) k) f)

-- ---- where no class above reaches itself

module _ (world : World) (name : List ℕ) (none : HasNoRing world name) where
  climbs_round : (a b : List ℕ) (names : List (List ℕ)) → is_text a b ≡ false →
      Way (class_of world) supertypes a names b → Leads (hierarchy world) b a →
      Climbs (hierarchy world) a a
  climbs_round a b [] apart w back = elim w [ ]
  climbs_round a b (n ∷ names) apart (here e) back = absurd (false≢true (sym apart ∙ texts.refl a))
  climbs_round a b (n ∷ names) apart (along {s = s} {c = c} e up w) back =
      record {
        class = c;
        next = s;
        found = e;
        up = up;
        leads = joins (class_of world) supertypes s b a names back.0 w back.1;
      }

  below_onward : (a b c : List ℕ) → Leads (hierarchy world) name c → is_below world a b ≡ true →
      is_below world b c ≡ true → is_below world a c ≡ true
  below_onward a b c from t u =
      let p = and_parts (not (is_text a b)) (leads_to world a b) t in
      let q = and_parts (not (is_text b c)) (leads_to world b c) u in
      by p.1 q.0 q.1 (cases_Bool (is_text a c))
    where
      by : leads_to world a b ≡ true → not (is_text b c) ≡ true → leads_to world b c ≡ true →
          (is_text a c ≡ true) ⊎ (is_text a c ≡ false) → is_below world a c ≡ true
      by up apart on (inl same) =
          let back : leads_to world c b ≡ true =
          subst (λ n. leads_to world n b ≡ true) (same_text a c same) up in
          let other : is_text c b ≡ false = texts.symm c b ∙ not-true (is_text b c) apart in
          let way = leads_to_way world c b back in
          absurd (free world name none c from
          (climbs_round c b way.0 other way.1 (leads_to_way world b c on)))
      by up apart on (inr f) =
          and_from (not (is_text a c)) (leads_to world a c) (ap not f)
          (leads_to_onward world a b c up on)

  module _ (key : Key) (all : List Candidate) where
    pub members_settled : (depth : ℕ) → length world ≤ depth →
        members_at world key all depth name ≡ members_among world key all name
    unfolding members_at
    members_settled depth enough =
        ap (λ o. unwrap_or o nothing)
        (made_settled world (member_step world key all) name none depth enough)

    -- the members of a class, from those of its supertypes
    pub members_equation : (c : View) → class_of world name ≡ Some c →
        members_among world key all name ≡ members_over world key all c
    members_equation c e =
        sym (members_settled (suc (length world)) (omega arith))
        ∙ next_members world key all (length world) name
        ∙ ap (λ o. option_map_or (of_class world key all (length world)) o nothing) e
        ∙ of_class_is world key all (length world) c

  module _ (sought : NameAndType) (all : List Candidate) (c : View)
      (found : class_of world name ≡ Some c) where
    super_apart : AreApart world all (inherited_by_superclass world (MethodKey sought) all c)
    super_apart k other at t u i j =
        by c.super_name
        (and_parts
        (option_map_or (λ super. members_among world (MethodKey sought) all super k)
        c.super_name false) (inherits (MethodKey sought) c k) t).0
        (and_parts
        (option_map_or (λ super. members_among world (MethodKey sought) all super other)
        c.super_name false) (inherits (MethodKey sought) c other) u).0
      where
        by : (o : Option (List ℕ)) →
            option_map_or (λ super. members_among world (MethodKey sought) all super k) o false
            ≡ true →
            option_map_or (λ super. members_among world (MethodKey sought) all super other) o false
            ≡ true → is_below world other.declarer k.declarer ≡ false
        by None v w = absurd (false≢true v)
        by (Some super) v w = members_apart world all sought (length world) super k other at v w i
            j

    interface_onward : (i o k : Candidate) →
        inherited_by_superinterfaces world (MethodKey sought) all c k ≡ true →
        is_below world i.declarer o.declarer ≡ true → is_below world o.declarer k.declarer ≡ true →
        is_below world i.declarer k.declarer ≡ true
    interface_onward i o k t v w =
        below_onward i.declarer o.declarer k.declarer
        (came_from world (MethodKey sought) all (length world) name c k found
        (λ s. member_from world (MethodKey sought) all (length world) s k)
        (came_interface world (MethodKey sought) all (length world) c k t))
        v w

    pub members_step : is_empty (declared (MethodKey sought) c) ≡ true → (k : Candidate) →
        In k all →
        members_among world (MethodKey sought) all name k ≡ in_one_step world all
        (inherited_by_superclass world (MethodKey sought) all c)
        (inherited_by_superinterfaces world (MethodKey sought) all c) k
    members_step empty k at =
        (λ i. members_equation (MethodKey sought) all c found i k)
        ∙ ap (λ b.
        (if b then chosen world all (inherited_by_superclass world (MethodKey sought) all c)
        (inherited_by_superinterfaces world (MethodKey sought) all c) else own c) k) empty
        ∙ chosen_in_one_step world all (inherited_by_superclass world (MethodKey sought) all c)
        (inherited_by_superinterfaces world (MethodKey sought) all c) super_apart
        interface_onward k at

filtered_alike : {A : Type 0} (f g : A → Bool) (xs : List A) → ((k : A) → In k xs → f k ≡ g k) →
    filter f xs ≡ filter g xs
filtered_alike f g [] same = refl
filtered_alike f g (k ∷ xs) same =
    λ i. cond (same k first i) (k ∷ filtered_alike f g xs (λ x at. same x (later at)) i)
    (filtered_alike f g xs (λ x at. same x (later at)) i)

kept : {A : Type 0} (f : A → Bool) (k x : A) (ys xs : List A) → In k (x ∷ ys) → f x ≡ true →
    (In k ys → In k xs × (f k ≡ true)) → In k (x ∷ xs) × (f k ≡ true)
kept f k x ys xs first t more = (first, t)
kept f k x ys xs (later at) t more = let rest = more at in (later rest.0, rest.1)

pub in_filter : {A : Type 0} (f : A → Bool) (k : A) (xs : List A) → In k (filter f xs) →
    In k xs × (f k ≡ true)
in_filter f k [] at = elim at [ ]
in_filter f k (x ∷ xs) at = by (cases_Bool (f x)) (in_filter f k xs)
  where
    by : (f x ≡ true) ⊎ (f x ≡ false) → (In k (filter f xs) → In k xs × (f k ≡ true)) →
        In k (x ∷ xs) × (f k ≡ true)
    by (inl t) more =
        kept f k x (filter f xs) xs
        (subst (λ b. In k (cond b (x ∷ filter f xs) (filter f xs))) t at) t more
    by (inr e) more = let rest =
        more (subst (λ b. In k (cond b (x ∷ filter f xs) (filter f xs))) e at) in
        (later rest.0, rest.1)

pub members_in_one_step : (world : World) (name : List ℕ) (sought : NameAndType)
    (all : List Candidate) (c : View) → HasNoRing world name → class_of world name ≡ Some c →
    is_empty (declared (MethodKey sought) c) ≡ true →
    filter (members_among world (MethodKey sought) all name) all ≡ inherited_in_one_step world
    (MethodKey sought) all c
members_in_one_step world name sought all c none found empty =
    filtered_alike (members_among world (MethodKey sought) all name)
    (in_one_step world all (inherited_by_superclass world (MethodKey sought) all c)
    (inherited_by_superinterfaces world (MethodKey sought) all c))
    all (members_step world name none sought all c found empty)

pub listed_apart : (world : World) (sought : NameAndType) (all : List Candidate) (name : List ℕ) →
    ListedApart world (filter (members_among world (MethodKey sought) all name) all)
listed_apart world sought all name =
    false_from_ne_true (list_any (is_overridden world methods anything) methods)
    (λ t. met (any_in (is_overridden world methods anything) methods t))
  where
    set : Members
    set = members_among world (MethodKey sought) all name

    methods : List Candidate
    methods = filter set all

    anything : Members
    anything other = true

    met : (k : Candidate) × In k methods × (is_overridden world methods anything k ≡ true) → ⊥
    met found =
        let o = overridden_by world methods anything found.0 found.2 in
        let a = in_filter set found.0 all found.1 in
        let b = in_filter set o.other all o.listed in
        let apart : is_below world o.other.declarer found.0.declarer ≡ false =
        members_apart world all sought (length world) name found.0 o.other b.0 a.1 b.1
        o.in_interface o.other_in_interface in
        false≢true (sym apart ∙ o.below)
