-- An annotation without elements.
use Rattle.std.specs.Prelude.{ℕ, Bool, List, []}
use Rattle.class_desc.specs.declared.annotation.AnnDesc.{AnnDesc, roll-AnnDesc}
use Rattle.class_desc.specs.declared.bound_annotations.Ann.{Ann}

abbrev pub described : List ℕ → AnnDesc
described descriptor = roll-AnnDesc (record { descriptor = descriptor; elements = [] })

abbrev pub annotation : Bool → List ℕ → Ann
annotation visible descriptor = record { visible = visible; desc = described descriptor }
