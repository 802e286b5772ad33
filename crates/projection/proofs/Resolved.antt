-- What a name and a descriptor stand for, in two worlds of which the second shows less.
use Rattle.std.proofs.Common.{◌≡◌, refl, sym, ap, subst, ◌∙◌, ℕ, Bool, true, false, not, ◌&&◌}
use Rattle.std.proofs.Common.{List, Option, None, find, option_to_list, codes, if◌then◌else◌}
use Rattle.std.proofs.lemmas.Bool.{and_parts, or_from, not-true}
use Rattle.java_names.specs.Names.{is_text}
use Rattle.class_desc.specs.ClassFile.{object_name}
use Rattle.class_views.specs.Flags.{is_private, is_static, is_abstract, has_flag}
use Rattle.class_views.specs.Flags.{is_interface_flags}
use Rattle.class_views.specs.Resolution.{Declared, NameAndType, is_meant, declared_by}
use Rattle.class_views.specs.Resolution.{first_declared, field_in, field_resolution, method_in}
use Rattle.class_views.specs.Resolution.{is_given, interface_method_in, superinterface_methods}
use Rattle.class_views.specs.Resolution.{is_most_specific, specific, from_superinterfaces}
use Rattle.class_views.specs.Resolution.{method_resolution, object_method_in}
use Rattle.class_views.specs.Resolution.{interface_method_resolution}
use Rattle.class_views.specs.Strip.{is_class_initialiser}
use Rattle.class_views.specs.View.{View, MemberView}
use Rattle.class_views.specs.World.{World, class_of, is_interface, is_named, same_class, walk}
use Rattle.class_views.specs.World.{supers_of, is_below, HasNoRing}
use Rattle.class_views.proofs.Worlds.{same_text}
use Rattle.projection.specs.ShowsLess.{ShowsLess, method_may_go}
use Rattle.projection.proofs.Found.{Finds, Anything, finds_or, finds_any, sole_of_pairs}
use Rattle.projection.proofs.Found.{made_of_pairs, pairs_listed, left_found, IsNotPrivate}
use Rattle.projection.proofs.Found.{SameMember, HasSeen, declared_found, first_found, neither}
use Rattle.projection.proofs.Related.{Equal, Pairs, any_of_pairs, filter_pairs, firsts_of_pairs}
use Rattle.projection.proofs.Twins.{Stays, Twins, same_name, same_flags, alike, leads_alike}
use Rattle.projection.proofs.Twins.{twins_at, walks_related, chains_related}

-- a method that isn't private and is meant by another name than the class initialiser's stays
pub meant_stays : (sought : NameAndType) → is_text sought.name (codes "<clinit>") ≡ false →
    (m : MemberView) → is_meant sought m ≡ true → IsNotPrivate m → method_may_go m ≡ false
meant_stays sought other m meant seen =
    or_from (is_private m.flags) (is_class_initialiser m) seen
    (subst (λ name. is_text name (codes "<clinit>") ≡ false)
    (sym (same_text m.name sought.name
    (and_parts (is_text m.name sought.name) (is_text m.descriptor sought.descriptor) meant).0))
    other)

-- ---- what each class declares

abbrev pub FindsAlike : (List (List ℕ)) → (List (List ℕ)) → (View → Option MemberView) → Type 0
FindsAlike read gone choice =
    (c d : View) → Twins read gone c d → Finds IsNotPrivate Equal (choice c) (choice d)

module _ (read gone : List (List ℕ)) (sought : NameAndType) where
  pub field_found : FindsAlike read gone (field_in sought)
  field_found c d twins =
      left_found (is_meant sought) (λ m meant seen. seen) twins.stands.shows.fields

  module _ (other : is_text sought.name (codes "<clinit>") ≡ false) where
    pub method_found : FindsAlike read gone (method_in sought)
    method_found c d twins =
        left_found (is_meant sought) (meant_stays sought other) twins.stands.shows.methods

    abbrev is_public : MemberView → Bool
    is_public m = has_flag 0x0001 m.flags

    object_method_found : FindsAlike read gone (object_method_in sought)
    object_method_found c d twins =
        left_found (λ m. is_meant sought m && is_public m && not (is_static m.flags))
        (λ m t seen. meant_stays sought other m
        (and_parts (is_meant sought m) (is_public m)
        (and_parts (is_meant sought m && is_public m) (not (is_static m.flags)) t).0).0 seen)
        twins.stands.shows.methods

    given_stays : (m : MemberView) → is_given sought m ≡ true → Anything m →
        method_may_go m ≡ false
    given_stays m t seen =
        let parts =
        and_parts (is_meant sought m) (not (is_private m.flags))
        (and_parts (is_meant sought m && not (is_private m.flags)) (not (is_static m.flags))
        t).0 in
        meant_stays sought other m parts.0 (not-true (is_private m.flags) parts.1)

    -- what is neither private nor static stays, whether it may be seen or not
    given_found : (c d : View) → Twins read gone c d →
        Finds Anything Equal (interface_method_in sought c) (interface_method_in sought d)
    given_found c d twins =
        subst (λ flags. Finds Anything Equal (interface_method_in sought c)
        (if is_interface_flags flags then find (is_given sought) d.methods else None))
        (sym (same_flags twins)) (by (is_interface c))
      where
        by : (b : Bool) → Finds Anything Equal
            (if b then find (is_given sought) c.methods else None)
            (if b then find (is_given sought) d.methods else None)
        by true = left_found (is_given sought) given_stays twins.stands.shows.methods
        by false = neither

-- ---- in a class and above it

module _ {read gone : List (List ℕ)} {world less : World} (shows : ShowsLess read gone world less)
    (sought : NameAndType) (name : List ℕ) (stays : Stays gone name)
    (none : HasNoRing world name) where
  abbrev Same : Declared → Declared → Type 0
  Same = SameMember (Twins read gone)

  abbrev pub Resolves : Option Declared → Option Declared → Type 0
  Resolves = Finds (HasSeen IsNotPrivate) (SameMember (Twins read gone))

  walks : Pairs (Twins read gone) (walk world name) (walk less name)
  walks = walks_related shows (alike shows) name (refl, stays) stays none

  pub field_resolves : Resolves (field_resolution world name sought)
      (field_resolution less name sought)
  unfolding field_resolution
  field_resolves = first_found (field_in sought) (field_found read gone sought) walks

  -- ---- methods of superinterfaces

  supers : Pairs (Twins read gone) (supers_of world name) (supers_of less name)
  supers =
      filter_pairs (λ c. is_interface c && not (is_named name c))
      (λ d. is_interface d && not (is_named name d))
      (λ c d twins i. is_interface_flags (sym (same_flags twins) i)
      && not (is_text (sym (same_name twins) i) name))
      (firsts_of_pairs same_class same_class
      (λ c d u v twins others i. is_text (sym (same_name twins) i) (sym (same_name others) i))
      walks)

  below_alike : (x y u v : Declared) → Same x y → Same u v →
      is_below world x.declarer.name u.declarer.name
      ≡ is_below less y.declarer.name v.declarer.name
  below_alike x y u v same others =
      ap (λ b. not (is_text x.declarer.name u.declarer.name) && b)
      (leads_alike shows x.declarer.name u.declarer.name same.0.stays)
      ∙ (λ i. is_below less (sym (same_name same.0) i) (sym (same_name others.0) i))

  module _ (other : is_text sought.name (codes "<clinit>") ≡ false) where
    methods_related : Pairs Same (superinterface_methods world name sought)
        (superinterface_methods less name sought)
    methods_related =
        made_of_pairs (declared_by (interface_method_in sought))
        (declared_by (interface_method_in sought))
        (declared_found (interface_method_in sought) (given_found read gone sought other)) supers

    specific_related : Pairs Same (specific world name sought) (specific less name sought)
    unfolding specific
    specific_related =
        filter_pairs (is_most_specific world (superinterface_methods world name sought))
        (is_most_specific less (superinterface_methods less name sought))
        (λ u v others. ap not
        (any_of_pairs (λ x. is_below world x.declarer.name u.declarer.name)
        (λ y. is_below less y.declarer.name v.declarer.name)
        (λ x y same. below_alike x y u v same others) methods_related))
        methods_related

    superinterfaces_resolve : Resolves (from_superinterfaces world name sought)
        (from_superinterfaces less name sought)
    superinterfaces_resolve =
        finds_or
        (finds_any
        (sole_of_pairs
        (filter_pairs (λ m. not (is_abstract m.member.flags))
        (λ m. not (is_abstract m.member.flags))
        (λ x y same i. not (is_abstract (same.1 i).flags)) specific_related)))
        (finds_any
        (first_found (interface_method_in sought) (given_found read gone sought other) walks))

    -- ---- methods

    pub method_resolves : Resolves (method_resolution world name sought)
        (method_resolution less name sought)
    unfolding method_resolution
    method_resolves =
        finds_or
        (first_found (method_in sought) (method_found read gone sought other)
        (chains_related shows (alike shows) name (refl, stays) stays none))
        superinterfaces_resolve

    -- what the class of a name declares
    declared_resolves : (choice : View → Option MemberView) → FindsAlike read gone choice →
        (at : List ℕ) → Stays gone at →
        Resolves (first_declared choice (option_to_list (class_of world at)))
        (first_declared choice (option_to_list (class_of less at)))
    declared_resolves choice finds at at_stays =
        first_found choice finds
        (pairs_listed (class_of world at) (class_of less at) (twins_at shows at at_stays))

    pub interface_method_resolves : Resolves (interface_method_resolution world name sought)
        (interface_method_resolution less name sought)
    unfolding interface_method_resolution
    interface_method_resolves =
        finds_or
        (declared_resolves (method_in sought) (method_found read gone sought other) name stays)
        (finds_or
        (declared_resolves (object_method_in sought) (object_method_found read gone sought other)
        object_name shows.object_stays)
        superinterfaces_resolve)
