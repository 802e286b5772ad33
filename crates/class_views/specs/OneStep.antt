-- The members of a class from those of its supertypes; and, if it declares none, without what
-- those of one of its two sides do to each other.
use Rattle.std.specs.Prelude.{◌≡◌, ◌&&◌, true, false, List, filter, if◌then◌else◌}
use Rattle.std.specs.Option.{option_map_or}
use Rattle.std.specs.List.{list_any}
use Rattle.class_views.specs.View.{View}
use Rattle.class_views.specs.World.{World}
use Rattle.class_views.specs.Membership.{Key, Candidate, Members, declared, inherits, is_empty}
use Rattle.class_views.specs.Membership.{own, chosen_of, is_overridden, members_among, remaining}

abbrev pub inherited_by_superclass : World → Key → List Candidate → View → Members
inherited_by_superclass world key all c k =
    option_map_or (λ super. members_among world key all super k) c.super_name false
    && inherits key c k

abbrev pub inherited_by_superinterfaces : World → Key → List Candidate → View → Members
inherited_by_superinterfaces world key all c k =
    list_any (λ interface. members_among world key all interface k) c.interfaces
    && inherits key c k

abbrev pub inherited_from_supertypes : World → Key → List Candidate → View → Members
inherited_from_supertypes world key all c =
    chosen_of key world all
    (inherited_by_superclass world key all c)
    (inherited_by_superinterfaces world key all c)

-- the members of a class, from those of its supertypes
abbrev pub members_over : World → Key → List Candidate → View → Members
members_over world key all c =
    if is_empty (declared key c)
    then inherited_from_supertypes world key all c
    else own c

-- what came by the superclass and is above nothing that came by a superinterface, if there is
-- such; else what came by a superinterface and is above nothing else that did
abbrev pub in_one_step : World → List Candidate → Members → Members → Members
in_one_step world all by_super by_interface =
    if list_any (remaining world all by_super by_interface) all
    then remaining world all by_super by_interface
    else remaining world all by_interface by_interface

abbrev pub inherited_in_one_step : World → Key → List Candidate → View → List Candidate
inherited_in_one_step world key all c =
    let by_super = inherited_by_superclass world key all c in
    let by_interface = inherited_by_superinterfaces world key all c in
    filter (in_one_step world all by_super by_interface) all

-- no method of the list overrides another one of it
abbrev pub AreApart : World → List Candidate → Type 0
AreApart world methods =
    list_any (is_overridden world methods (λ other. true)) methods ≡ false
