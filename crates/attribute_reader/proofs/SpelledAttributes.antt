-- The laws of attributes, in the words of contracts.
use Rattle.std.proofs.Common.{◌≡◌, ℕ, ◌+◌, List, arith}
use Rattle.class_desc.specs.declared.place.Place.{Place}
use Rattle.class_desc.specs.Attributes.{AttributesSpell}
use Rattle.class_desc.specs.Pool.{Entry}
use Rattle.class_desc.specs.Texts.{total, attribute_texts}
use Rattle.pool_reader.specs.Pooled.{rows_of}
use Rattle.pool_reader.proofs.Laws.{Weighs, from_AreBytes}
use Rattle.attribute_reader.specs.Attributes.{attributes_at}
use Rattle.attribute_reader.specs.Laws.{ReadsSpelled, SpelledIsRead}

module _ (place : Place)
    (law : (pool : List Entry) (descriptor : List ℕ)
    → Weighs 0 (total attribute_texts) (attributes_at (rows_of pool) place descriptor)
    (AttributesSpell pool place descriptor)) where
  pub reads_spelled : ReadsSpelled place
  reads_spelled pool descriptor p left kept bytes e =
      let t = (law pool descriptor).takes p kept left (from_AreBytes p.rest bytes) e in
      (t.text, t.parts, t.stays, omega (arith, t.spent), t.spells)

  pub spelled_is_read : SpelledIsRead place
  spelled_is_read pool descriptor p kept bytes rest spare s room =
      (law pool descriptor).again p kept bytes rest spare s (omega (arith, room))
