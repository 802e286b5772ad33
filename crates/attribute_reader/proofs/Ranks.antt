-- How deep attributes may still hold others: those of a component hold none.
use Rattle.std.proofs.Common.{ℕ}
use Rattle.class_desc.specs.declared.place.Place.{Place}
use Rattle.class_desc.specs.declared.place.Place.TheVariants as place

abbrev pub rank : Place → ℕ
rank place.Class = 20
rank place.Field = 20
rank place.Method = 20
rank place.Component = 0
