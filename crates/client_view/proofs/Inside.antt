-- What the lists of a world tell of its classes.
use Rattle.std.proofs.Common.{◌≡◌, refl, ap, sym, ◌∙◌, ℕ, ◌<◌, arith, Bool, List, length, Option}
use Rattle.std.proofs.Common.{Some}
use Rattle.std.proofs.Common.{None}
use Rattle.std.specs.Prelude.{slice_get, slice_index_or, IfSome, option_and_then, option_map}
use Rattle.std.proofs.lemmas.List.{length-map}
use Rattle.std.proofs.lemmas.Option.{slice_get_within, slice_get-map}
use Rattle.supertypes.specs.Rings.{IsLeastRing}
use Rattle.class_desc.specs.declared.class.ClassDesc.{ClassDesc}
use Rattle.class_views.specs.View.{View, view_of_desc}
use Rattle.class_views.specs.World.{ring_of, supertypes}
use Rattle.client_view.specs.Indexed.{IsIndexed}
use Rattle.client_view.specs.Numbers.{views, number_of}
use Rattle.client_view.specs.Refusals.{IsFree}
use Rattle.client_view.specs.declared.world.ClientWorld.TheInside.{Inside}
use Rattle.client_view.proofs.Graphs.{reach_there, get_there}
use Rattle.client_view.proofs.Numbered.{number_within}
use Rattle.client_view.proofs.Rings.{ring_by_number}

pub seen_length : (classes : List ClassDesc) → length (views classes) ≡ length classes
seen_length classes = length-map classes view_of_desc

pub number_small : (classes : List ClassDesc) (name : List ℕ) (n : ℕ) →
    Some n ≡ number_of (views classes) name → n < length classes
number_small classes name n e =
    let few = number_within (views classes) name n (sym e) in
    let long = seen_length classes in omega (arith, few, long)

pub free_small : (classes : List ClassDesc) (n : ℕ) → IsFree (views classes) n → n < length classes
free_small classes n free =
    let few = slice_get_within (views classes) n free.class free.there in
    let long = seen_length classes in omega (arith, few, long)

module _ (w : Inside) (i : IsIndexed w) where
  small : (n : ℕ) → n < length w.classes.items → n < length w.supertypes
  small n few =
      let level = i.supertypes_are.level in
      let long = seen_length w.classes.items in omega (arith, few, level, long)

  pub ring_is : (n : ℕ) (c : View) → slice_get (views w.classes.items) n ≡ Some c →
      ring_of (views w.classes.items) c.name
      ≡ option_and_then (slice_get (views w.classes.items)) (slice_index_or w.rings.items n None)
  ring_is n c at =
      let few = slice_get_within (views w.classes.items) n c at in
      let long = seen_length w.classes.items in
      ring_by_number (views w.classes.items) i.apart w.supertypes i.supertypes_are n c at
      (slice_index_or w.rings.items n None)
      (i.rings.each n (small n (omega (arith, few, long))))

  pub ring_small : (n : ℕ) → n < length w.classes.items →
      IfSome (slice_index_or w.rings.items n None) (λ ring. ring < length w.classes.items)
  ring_small n few =
      by (slice_index_or w.rings.items n None) (i.rings.each n (small n few))
    where
      by : (ring : Option ℕ) → IsLeastRing w.supertypes n ring →
          IfSome ring (λ k. k < length w.classes.items)
      by None least = tt
      by (Some k) least =
          let long = seen_length w.classes.items in
          let end = reach_there (views w.classes.items) i.apart supertypes w.supertypes
          i.supertypes_are n k (omega (arith, few, long)) (least.reached k refl) in
          let within = slice_get_within (views w.classes.items) k end.0 end.1 in
          omega (arith, within, long)
