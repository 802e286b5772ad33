-- Lines that are told whole or in part.
use Rattle.std.proofs.Common.{◌≡◌, ℕ, List, [], refl, sym, ap, append-nil, inl}
use Rattle.std.specs.Prelude.{Option, Some, None}
use Rattle.hdr_core.specs.Causes.{grown, GrewByFront}
use Rattle.run_ends.specs.Outside.{SinkState}
use Rattle.run_ends.specs.Tells.{TellsLine}

pub grown_nothing : (told : Option (List ℕ)) → told ≡ grown told []
grown_nothing None = refl
grown_nothing (Some bytes) = ap Some (sym (append-nil bytes))

-- Nothing is a front of every text.
pub grew_nothing : (told : Option (List ℕ)) (text : List ℕ) → GrewByFront told told text
grew_nothing told text = ([], text, refl, grown_nothing told)

-- The whole is a front.
pub grew_whole : (told told' : Option (List ℕ)) (text : List ℕ) → told' ≡ grown told text
    → GrewByFront told told' text
grew_whole told told' text e = (text, [], append-nil text, e)

pub told_whole : (line : List ℕ) (before after : SinkState) → after.told ≡ grown before.told line
    → after.faults ≡ before.faults → TellsLine line before after
told_whole line before after e level = record {
  front = grew_whole before.told after.told line e;
  whole = λ _. e;
  count = inl level;
}
