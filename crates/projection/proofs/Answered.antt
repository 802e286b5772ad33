-- The answers to questions, in two worlds of which the second shows less.
use Rattle.std.proofs.Common.{◌≡◌, refl, sym, ap, ◌∙◌, ℕ, Bool, true, false, ◌&&◌}
use Rattle.std.proofs.Common.{List, [], ◌∷◌, Option, Some, None, filter, codes}
use Rattle.std.proofs.Common.{if◌then◌else◌}
use Rattle.std.specs.Option.{option_map_or}
use Rattle.std.specs.List.{list_any, list_all}
use Rattle.std.proofs.lemmas.Bool.{and_from, or_parts, false_from_ne_true}
use Rattle.java_names.specs.Names.{is_text}
use Rattle.class_desc.specs.declared.value.Value.{Value}
use Rattle.class_views.specs.Access.{Client, is_accessible_class, may_access}
use Rattle.class_views.specs.Alike.{Both}
use Rattle.class_views.specs.Flags.{Private, Public, Protected, InPackage, Access, has_flag}
use Rattle.class_views.specs.Flags.{is_private, is_abstract, is_interface_flags}
use Rattle.class_views.specs.Membership.{Key, FieldKey, MethodKey, declared, Candidate}
use Rattle.class_views.specs.Membership.{is_special}
use Rattle.class_views.specs.Membership.{member_fields, member_methods}
use Rattle.class_views.specs.Query.{Part, Whole, FieldPart, MethodPart, Query, ClassQuery}
use Rattle.class_views.specs.Query.{SupersQuery, FieldQuery, MethodQuery, InterfaceMethodQuery}
use Rattle.class_views.specs.Query.{MemberFieldQuery, MemberMethodQuery, ConstantQuery}
use Rattle.class_views.specs.Query.{AnnotationsQuery, Finding, ClassFound, MemberFound}
use Rattle.class_views.specs.Query.{ConstantFound, AnnotationsFound, Answer, Found}
use Rattle.class_views.specs.Query.{NotAccessible, Ambiguous, WrongKind, Cycle, class_asked, reply}
use Rattle.class_views.specs.Query.{resolved, field_member, method_member}
use Rattle.class_views.specs.Query.{constant_answer, annotations_answer}
use Rattle.class_views.specs.Query.{annotations_at, unless_ring, answer_in, asks_beyond, ring_met}
use Rattle.class_views.specs.Query.{answer_of, ask, Succeeds, hides, hides_among, is_hidden}
use Rattle.class_views.specs.Query.{IsUnhidden}
use Rattle.class_views.specs.Resolution.{Declared, NameAndType, is_meant}
use Rattle.class_views.specs.Resolution.{method_resolution}
use Rattle.class_views.specs.Resolution.{interface_method_resolution}
use Rattle.class_views.specs.Strip.{is_listed}
use Rattle.class_views.specs.View.{View, MemberView}
use Rattle.class_views.specs.World.{World, class_of, is_interface, ring_of, HasNoRing}
use Rattle.class_views.proofs.Ways.{In, none_in}
use Rattle.projection.specs.ShowsLess.{ShowsLess}
use Rattle.projection.specs.Survives.{asks_members, asks_initialiser, IsClientQuery, Survives}
use Rattle.projection.proofs.Found.{Finds, neither, unseen, again, left_found, left_filtered}
use Rattle.projection.proofs.Found.{left_constant, IsNotPrivate, HasSeenField, SameMember, HasSeen}
use Rattle.projection.proofs.Related.{Equal}
use Rattle.projection.proofs.Resolved.{meant_stays, method_found, field_resolves, method_resolves}
use Rattle.projection.proofs.Resolved.{interface_method_resolves}
use Rattle.projection.proofs.Twins.{Twins, same_name, same_flags, same_access, twins_at}
use Rattle.projection.proofs.Twins.{accessible_alike, ringless}
use Rattle.projection.proofs.Unhidden.{members_survive}

-- ---- what a class declares of a key, where it hides nothing

module _ {read gone : List (List ℕ)} {c d : View} (twins : Twins read gone c d) (name : List ℕ)
  where
    -- none of the list that passes is private
    none_private : (test : MemberView → Bool) (ms : List MemberView) →
        list_any (λ m. test m && is_private m.flags) ms ≡ false → (m : MemberView) → In m ms →
        test m ≡ true → IsNotPrivate m
    none_private test ms plain m at t =
        false_from_ne_true (is_private m.flags) (λ p.
        none_in (λ x. test x && is_private x.flags) m ms plain at
        (and_from (test m) (is_private m.flags) t p))

    declared_by_read : (key : Key) (hiding : Bool) →
        (hiding ≡ false → declared key c ≡ declared key d) →
        (is_listed read c.name && hiding) ≡ false → declared key c ≡ declared key d
    declared_by_read key hiding left plain = by (is_listed read c.name) refl plain
      where
        by : (b : Bool) → is_listed read c.name ≡ b → (b && hiding) ≡ false →
            declared key c ≡ declared key d
        by false e plain = ap (declared key) (sym (twins.stands.unread e))
        by true e plain = left plain

    fields_declared : (field : List ℕ) → hides_among read (MemberFieldQuery name field) c ≡ false →
        declared (FieldKey field) c ≡ declared (FieldKey field) d
    fields_declared field plain =
        declared_by_read (FieldKey field) (hides (MemberFieldQuery name field) c)
        (λ plain. left_filtered (λ m. is_text m.name field) twins.stands.shows.fields
        (none_private (λ m. is_text m.name field) c.fields plain)) plain

    methods_declared : (sought : NameAndType) →
        hides_among read (MemberMethodQuery name sought) c ≡ false →
        declared (MethodKey sought) c ≡ declared (MethodKey sought) d
    methods_declared sought plain =
        declared_by_read (MethodKey sought) (hides (MemberMethodQuery name sought) c)
        (by (is_special sought.name) refl) plain
      where
        by : (b : Bool) → is_special sought.name ≡ b →
            hides (MemberMethodQuery name sought) c ≡ false →
            (if b then [] else filter (is_meant sought) c.methods)
            ≡ (if b then [] else filter (is_meant sought) d.methods)
        by true s plain = refl
        by false s plain =
            let parts = or_parts (is_text sought.name (codes "<init>"))
            (is_text sought.name (codes "<clinit>")) s in
            left_filtered (is_meant sought) twins.stands.shows.methods
            (λ m at t. meant_stays sought parts.1 m t
            (none_private (is_meant sought) c.methods plain m at t))

-- ---- what is answered is no private member

not_found : (declarer : List ℕ) (finding : Finding) → NotAccessible declarer ≡ Found finding → ⊥
not_found declarer finding e = cc

ring_not_found : (name : List ℕ) (finding : Finding) → Cycle name ≡ Found finding → ⊥
ring_not_found name finding e = cc

seen : (world : World) (client : Client) (declarer : List ℕ) (m : MemberView) (finding : Finding) →
    Succeeds (reply world client declarer m finding) → IsNotPrivate m
seen world client declarer m finding ok = by (is_private m.flags) refl
  where
    others : Access
    others =
        if has_flag 0x0001 m.flags then Public
        else if has_flag 0x0004 m.flags then Protected
        else InPackage

    replied : Bool → Answer
    replied b =
        if may_access world client declarer (if b then Private else others) then Found finding
        else NotAccessible declarer

    by : (b : Bool) → is_private m.flags ≡ b → is_private m.flags ≡ false
    by false p = p
    by true p = absurd (not_found declarer ok.0 (sym (ap replied p) ∙ ok.1))

-- ---- answers

-- the second answer is the first one, if that succeeds
abbrev Kept : Answer → Answer → Type 0
Kept answer other = Succeeds answer → other ≡ answer

kept_either : {a b x y : Answer} (test : Bool) → Kept a x → Kept b y →
    Kept (if test then a else b) (if test then x else y)
kept_either true kept other ok = kept ok
kept_either false kept other ok = other ok

module _ {read gone : List (List ℕ)} {world less : World}
    (shows : ShowsLess read gone world less) (client : Client)
    (superclass_stays : option_map_or (is_listed gone) client.super_name false ≡ false) where
  reply_alike : (declarer : List ℕ) (m : MemberView) (finding : Finding) →
      reply less client declarer m finding ≡ reply world client declarer m finding
  reply_alike declarer m finding =
      ap (λ b. if b then Found finding else NotAccessible declarer)
      (sym (accessible_alike shows client superclass_stays declarer m))

  -- what is told of a member, and of the same one of a class of the same name
  told_alike : {X : Type 0} {x y : X} {declarer other : List ℕ} (member : X → MemberView)
      (finding : List ℕ → X → Finding) → x ≡ y → other ≡ declarer →
      reply less client other (member y) (finding other y)
      ≡ reply world client declarer (member x) (finding declarer x)
  told_alike {x = x} {declarer = declarer} member finding same named =
      (λ i. reply less client (named i) (member (sym same i)) (finding (named i) (sym same i)))
      ∙ reply_alike declarer (member x) (finding declarer x)

  resolved_alike : {o p : Option Declared} →
      Finds (HasSeen IsNotPrivate) (SameMember (Twins read gone)) o p →
      Kept (resolved world client o) (resolved less client p)
  resolved_alike neither ok = refl
  resolved_alike (unseen {x = x} not_seen) ok =
      absurd (not_seen
      (seen world client x.declarer.name x.member (MemberFound x.declarer.name x.member) ok))
  resolved_alike (again same) ok = told_alike (λ m. m) MemberFound same.1 (same_name same.0)

  module _ {c d : View} (twins : Twins read gone c d) where
    constant_alike : {o p : Option (MemberView × Value)} → Finds HasSeenField Equal o p →
        Kept (constant_answer world client c o) (constant_answer less client d p)
    constant_alike neither ok = refl
    constant_alike (unseen {x = k} not_seen) ok =
        absurd (not_seen (seen world client c.name k.0 (ConstantFound k.1) ok))
    constant_alike (again same) ok =
        told_alike (λ (k : MemberView × Value). k.0) (λ name k. ConstantFound k.1) same
        (same_name twins)

    annotations_alike : {o p : Option MemberView} → Finds IsNotPrivate Equal o p →
        Kept (annotations_answer world client c o) (annotations_answer less client d p)
    annotations_alike neither ok = refl
    annotations_alike (unseen {x = m} not_seen) ok =
        absurd (not_seen (seen world client c.name m (AnnotationsFound m.annotations) ok))
    annotations_alike (again same) ok =
        told_alike (λ m. m) (λ name m. AnnotationsFound m.annotations) same (same_name twins)

    part_alike : (name : List ℕ) (part : Part) →
        asks_initialiser (AnnotationsQuery name part) ≡ false →
        Kept (annotations_at world client c part) (annotations_at less client d part)
    part_alike name Whole other ok =
        ap (λ (v : View). Found (AnnotationsFound v.annotations)) twins.stands.shows.same
    part_alike name (FieldPart field) other ok =
        annotations_alike
        (left_found (λ m. is_text m.name field) (λ m t seen. seen) twins.stands.shows.fields) ok
    part_alike name (MethodPart sought) other ok =
        annotations_alike (method_found read gone sought other c d twins) ok

  field_member_alike : (ks : List Candidate) →
      field_member less client ks ≡ field_member world client ks
  field_member_alike [] = refl
  field_member_alike (k ∷ []) = reply_alike k.declarer k.member (MemberFound k.declarer k.member)
  field_member_alike (k ∷ other ∷ ks) = refl

  method_member_alike : (ks : List Candidate) →
      method_member less client ks ≡ method_member world client ks
  method_member_alike [] = refl
  method_member_alike (k ∷ []) = reply_alike k.declarer k.member (MemberFound k.declarer k.member)
  method_member_alike (k ∷ other ∷ ks) =
      ap (λ answer. if list_all (λ x. is_abstract x.member.flags) (k ∷ other ∷ ks) then answer
      else Ambiguous k.declarer other.declarer)
      (reply_alike k.declarer k.member (MemberFound k.declarer k.member))

  answer_alike : (query : Query) → is_listed gone (class_asked query) ≡ false →
      asks_initialiser query ≡ false → (asks_members query ≡ true → IsUnhidden world read query) →
      (asks_beyond query ≡ true → HasNoRing world (class_asked query)) → (c d : View) →
      Twins read gone c d → Kept (answer_in world client c query) (answer_in less client d query)
  unfolding is_hidden
  answer_alike (ClassQuery name) stays other plain none c d twins ok =
      ap (λ v. Found (ClassFound v)) twins.stands.shows.same
  answer_alike (SupersQuery name) stays other plain none c d twins ok =
      ap (λ v. Found (ClassFound v)) twins.stands.shows.same
  answer_alike (FieldQuery name sought) stays other plain none c d twins ok =
      resolved_alike (field_resolves shows sought name stays (none refl)) ok
  answer_alike (MethodQuery name sought) stays other plain none c d twins ok =
      ap (λ flags. if is_interface_flags flags then WrongKind
      else resolved less client (method_resolution less name sought)) (same_flags twins)
      ∙ kept_either (is_interface c) (λ wrong. refl)
      (resolved_alike (method_resolves shows sought name stays (none refl) other)) ok
  answer_alike (InterfaceMethodQuery name sought) stays other plain none c d twins ok =
      ap (λ flags. if is_interface_flags flags
      then resolved less client (interface_method_resolution less name sought) else WrongKind)
      (same_flags twins)
      ∙ kept_either (is_interface c)
      (resolved_alike (interface_method_resolves shows sought name stays (none refl) other))
      (λ wrong. refl) ok
  answer_alike (MemberFieldQuery name field) stays other plain none c d twins ok =
      ap (field_member less client)
      (sym (members_survive shows (FieldKey field)
      (hides_among read (MemberFieldQuery name field))
      (λ u v twins free. fields_declared twins name field free)
      name stays (none refl) (plain refl)))
      ∙ field_member_alike (member_fields world name field)
  answer_alike (MemberMethodQuery name sought) stays other plain none c d twins ok =
      ap (method_member less client)
      (sym (members_survive shows (MethodKey sought)
      (hides_among read (MemberMethodQuery name sought))
      (λ u v twins free. methods_declared twins name sought free)
      name stays (none refl) (plain refl)))
      ∙ method_member_alike (member_methods world name sought)
  answer_alike (ConstantQuery name field) stays other plain none c d twins ok =
      constant_alike twins (left_constant field twins.stands.shows.fields) ok
  answer_alike (AnnotationsQuery name part) stays other plain none c d twins ok =
      part_alike twins name part other ok

  -- ---- the class, a ring, and then the rest

  module _ {query : Query} (asked : IsClientQuery gone client query)
      (plain : asks_members query ≡ true → IsUnhidden world read query) where
    no_ring_asked : ring_met world query ≡ None → asks_beyond query ≡ true →
        HasNoRing world (class_asked query)
    no_ring_asked e beyond =
        sym (ap (λ b. if b then ring_of world (class_asked query) else None) beyond) ∙ e

    no_ring_less : ring_met world query ≡ None → ring_met less query ≡ None
    no_ring_less e = by (asks_beyond query) refl
      where
        by : (b : Bool) → asks_beyond query ≡ b →
            (if b then ring_of less (class_asked query) else None) ≡ None
        by false beyond = refl
        by true beyond =
            ringless shows (class_asked query) asked.class_stays (no_ring_asked e beyond)

    class_alike : (c d : View) → Twins read gone c d → (r : Option View) →
        ring_met world query ≡ r →
        Kept (unless_ring r (answer_in world client c query))
        (unless_ring (ring_met less query) (answer_in less client d query))
    class_alike c d twins None e ok =
        ap (λ r. unless_ring r (answer_in less client d query)) (no_ring_less e)
        ∙ answer_alike query asked.class_stays asked.no_initialiser plain (no_ring_asked e) c d
        twins ok
    class_alike c d twins (Some ring) e ok = absurd (ring_not_found ring.name ok.0 ok.1)

    looked_up : (o p : Option View) → Both (Twins read gone) o p →
        Kept (answer_of world client query o) (answer_of less client query p)
    looked_up None None both ok = refl
    looked_up (Some c) (Some d) twins ok =
        ap (λ b. if b then unless_ring (ring_met less query) (answer_in less client d query)
        else NotAccessible d.name) (sym (same_access twins client))
        ∙ kept_either (is_accessible_class client c)
        (class_alike c d twins (ring_met world query) refl)
        (λ denied. ap NotAccessible (same_name twins)) ok
    looked_up None (Some d) both ok = absurd both
    looked_up (Some c) None both ok = absurd both

    pub survives : Survives world less client query
    unfolding ask
    survives ok =
        looked_up (class_of world (class_asked query)) (class_of less (class_asked query))
        (twins_at shows (class_asked query) asked.class_stays) ok
