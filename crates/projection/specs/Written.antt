-- What clients find in the classes that are left of a list, beside what they find in the list.
use Rattle.std.specs.Prelude.{◌≡◌, false, List, Option, option_to_list}
use Rattle.std.specs.List.{list_any, flat_map}
use Rattle.class_desc.specs.declared.class.ClassDesc.{ClassDesc}
use Rattle.class_views.specs.Access.{Client}
use Rattle.class_views.specs.Query.{Query, IsUnhidden}
use Rattle.class_views.specs.World.{World}
use Rattle.projection.specs.Stripping.{class_names, removed_names, world_of, names_removed}
use Rattle.projection.specs.Survives.{asks_members, IsClientQuery, Survives}

-- the classes of which something is left, in their order
abbrev pub left_in : List (Option ClassDesc) → List ClassDesc
left_in each = flat_map option_to_list each

-- other classes beside those of a list: none of them names a removed class as a supertype
abbrev pub AreBeside : List ClassDesc → World → Type 0
AreBeside list others = list_any (names_removed list) others ≡ false

-- A question to the classes of the first list has the same answer from those of the second one,
-- whatever other classes stand beside both: for each client outside them and each question that
-- succeeds. Neither names a removed class; a local class that is kept may be named.
pub record KeepsAnswers (list left : List ClassDesc) : Type 0 where
  -- what is no question of membership: a class, its supertypes, what a name and a descriptor stand
  -- for (JVMS 5.4.3), a constant, annotations
  pub resolution : (others : World) (client : Client) (query : Query) → AreBeside list others →
      IsClientQuery (removed_names list) client query → asks_members query ≡ false →
      Survives (world_of list others) (world_of left others) client query
  -- a question of membership too (JLS 8.2), unless a private member of the list hides its answer
  pub membership : (others : World) (client : Client) (query : Query) → AreBeside list others →
      IsClientQuery (removed_names list) client query →
      IsUnhidden (world_of list others) (class_names list) query →
      Survives (world_of list others) (world_of left others) client query
