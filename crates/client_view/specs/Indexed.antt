-- What a world keeps beside its classes.
pub use Rattle.member_index.specs.Index.{HasFewMembers, HaveFewMembers}
use Rattle.std.specs.Prelude.{◌≡◌, ◌≤◌, ◌<◌, ◌^◌, ℕ, List, [], length, slice_index_or}
use Rattle.std.specs.Prelude.{Option, None, option_to_list}
use Rattle.std.specs.Vec.{vec_capacity}
use Rattle.std.specs.BTreeMap.{get}
use Rattle.std.specs.Cmp.Lexicographic.{slice_cmp}
use Rattle.std.specs.Ordering.{nat_cmp}
use Rattle.class_desc.specs.ClassFile.{object_name}
use Rattle.class_views.specs.View.{View}
use Rattle.class_views.specs.World.{supertypes}
use Rattle.member_index.specs.Index.{IsIndexOf}
use Rattle.supertypes.specs.Rings.{IsLeastRing}
use Rattle.client_view.specs.Numbers.{views, number_of, AreApart, IsGraphOf}
use Rattle.client_view.specs.declared.world.ClientWorld.TheInside.{Inside}

abbrev pub superclasses : View → List (List ℕ)
superclasses c = option_to_list c.super_name

pub record AreRings (graph : List (List ℕ)) (rings : List (Option ℕ)) : Type 0 where
  pub level : length rings ≡ length graph
  pub each : (class : ℕ) → class < length graph →
      IsLeastRing graph class (slice_index_or rings class None)

pub record IsIndexed (w : Inside) : Type 0 where
  pub few : length w.classes.items < 2 ^ 32
  pub members : HaveFewMembers w.classes.items
  pub apart : AreApart (views w.classes.items)
  pub numbers : (name : List ℕ) →
      get (slice_cmp nat_cmp) w.numbers name ≡ number_of (views w.classes.items) name
  pub supertypes_are : IsGraphOf (views w.classes.items) supertypes w.supertypes
  pub superclasses_are : IsGraphOf (views w.classes.items) superclasses w.superclasses
  pub rings : AreRings w.supertypes w.rings.items
  pub members_are : IsIndexOf w.members w.classes.items
  pub room : w.search ≡ record { classes = length w.classes.items; list = [] }
  pub object : w.object ≡ number_of (views w.classes.items) object_name
  pub candidates : w.candidates.items ≡ []
  pub candidates_room : length w.classes.items ≤ vec_capacity w.candidates
