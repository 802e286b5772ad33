-- How a `List` holds its items, so that a type may hold itself through one: as its `Vec` does.
use mathlib.Core.Path.{◌≡◌, refl, sym}
use mathlib.Core.List.{List as Items, []}
use mathlib.Core.Former.{Former, this, list, via, children}
use base.Stored.{code_map}
use denote.RattleType.{RattleType}
use denote.HoleLaws.{Alike}
use denote.HolePlaces.{Recodes, struct_places, laid}
use denote.Hole.Carrier.{listed, list-listed}
use denote.Hole.Fix.{over}
use denote.Param.Weighed.{Weighed, w_list}
use denote.Model.Placed.{view_places}
use Rattle.std.specs.formers.vec.Vec as vector
use Rattle.std.specs.declared.alloc.Global.{Global}
use Rattle.std.specs.contracts.alloc.Global as global
use Rattle.std.specs.contracts.impls.GlobalAllocator.TheImpl.{ghosts}
use Rattle.hdr_core.specs.declared.list.List.TheInside.{Inside}
use Rattle.hdr_core.specs.declared.list.List.TheView.{view, invariant}
use Rattle.hdr_core.specs.contracts.list.List as outer
use Rattle.hdr_core.specs.contracts.list.List.TheInside as inner

-- the value that contracts see is the list of the items
abbrev pub the_former : Former {0} → Former {0}
the_former g = list g

abbrev pub the_weighed : {g : Former {0}} → Weighed g → Weighed (the_former g)
the_weighed w = w_list w

pub the_empty : Items ⊥
the_empty = []

abbrev pub the_items : (X : Type 0) → Items X → Items X
the_items X xs = xs

pub the_items_listed : (X : Type 0) (xs : Items X)
    → listed _ (children (the_former this) X xs) ≡ the_items X xs
the_items_listed X xs = list-listed X xs

-- the one field, a vector
abbrev field : Former {0}
field =
    via (vector.the_former this Global) Inside (λ X l. l.items) (λ X v. record { items = v })
    (λ X l. refl) (λ X v. refl)

module _ (R S : RattleType) (h : R.Denot → S.Denot) where
  pub the_places : Alike R S h
      → Alike (outer.the_row R) (outer.the_row S) ((the_former this).map R.Denot S.Denot h)
  the_places alike =
      let stored = struct_places (inner.the_type R) (inner.the_type S) (vector.mapped h, tt) _
      (λ d. refl) refl (laid _ _ _ (vector.the_places global.the_row ghosts R S h alike), tt) in
      view_places field (list this) view (λ X Y k u. refl) (λ X u. refl) R.Denot S.Denot h
      (outer.the_row R).coded (outer.the_row S).coded
      (invariant R.Denot) (invariant S.Denot) (λ u p q. refl) (λ u p q. refl) (λ u e. tt)
      (λ u e. tt) (over (inner.the_row R)) (over (inner.the_row S)) stored

  pub the_codes_placed : Recodes R S h
      → Recodes (outer.the_row R) (outer.the_row S) ((the_former this).map R.Denot S.Denot h)
  the_codes_placed recodes xs = sym
      (code_map R.coded.code S.coded.code h (λ x. sym (recodes x)) xs)
