-- What a client may access (JVMS 5.4.4). It has a nest of its own, so that nothing private is
-- accessible; the further condition on the class that a protected reference names is not looked
-- at.
use Rattle.std.specs.Prelude.{ℕ, ◌==◌, ◌||◌, Bool, true, false, List, Option}
use Rattle.std.specs.Option.{option_map_or}
use Rattle.std.specs.List.{before_last}
use Rattle.java_names.specs.Names.{is_text}
use Rattle.class_views.specs.Flags.{has_flag, Access, Private, Public, Protected, InPackage}
use Rattle.class_views.specs.Flags.{access_of}
use Rattle.class_views.specs.View.{View, MemberView}
use Rattle.class_views.specs.World.{World, chain, is_among}

pub record Client : Type 0 where
  -- with / between the parts
  pub package_name : List ℕ
  pub super_name : Option (List ℕ)

-- what stands before the last / of a binary name in its internal form (JVMS 4.2.1)
abbrev pub package_of : List ℕ → List ℕ
package_of name = before_last (λ b. b == 47) name

abbrev pub is_in_package : List ℕ → List ℕ → Bool
is_in_package outer name = is_text (package_of name) outer

-- a class: public, or in the client's package
abbrev pub is_accessible_class : Client → View → Bool
is_accessible_class client c = has_flag 0x0001 c.flags || is_in_package client.package_name c.name

-- the class of this name is the client's superclass, or a superclass of that
abbrev pub is_above_client : World → Client → List ℕ → Bool
is_above_client world client name =
    option_map_or (λ super. is_among name (chain world super)) client.super_name false

-- a member by its access, and by the name of the class that declares it
abbrev pub may_access : World → Client → List ℕ → Access → Bool
may_access world client declarer Private = false
may_access world client declarer Public = true
may_access world client declarer Protected =
    is_in_package client.package_name declarer || is_above_client world client declarer
may_access world client declarer InPackage = is_in_package client.package_name declarer

abbrev pub is_accessible : World → Client → List ℕ → MemberView → Bool
is_accessible world client declarer m = may_access world client declarer (access_of m.flags)
