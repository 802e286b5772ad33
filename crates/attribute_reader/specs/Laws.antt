-- What reading attributes has to do with how they are spelled.
use Rattle.std.specs.Prelude.{◌≡◌, ℕ, ◌+◌, List, ◌++◌, Ok}
use Rattle.class_desc.specs.declared.attribute.Attr.{Attr}
use Rattle.class_desc.specs.declared.place.Place.{Place}
use Rattle.class_desc.specs.Attributes.{AttributesSpell}
use Rattle.class_desc.specs.Pool.{Entry}
use Rattle.class_desc.specs.Texts.{total, attribute_texts}
use Rattle.pool_reader.specs.Reading.{AreBytes, Position, leaving, left_with}
use Rattle.pool_reader.specs.Pooled.{rows_of}
use Rattle.attribute_reader.specs.Attributes.{attributes_at}

-- what was read stands there, and the rest is left, with the room for texts that it didn't take
abbrev pub ReadsSpelled : Place → Type 0
ReadsSpelled place = (pool : List Entry) (descriptor : List ℕ) (p left : Position)
    (kept : List Attr)
    → AreBytes p.rest
    → attributes_at (rows_of pool) place descriptor p ≡ Ok (kept, left)
    → (bytes : List ℕ) × (p.rest ≡ bytes ++ left.rest)
    × (left ≡ left_with p left.rest left.spare)
    × (p.spare ≡ left.spare + total attribute_texts kept)
    × AttributesSpell pool place descriptor kept bytes

-- what stands there is read, whatever follows it, where there is room for its texts
abbrev pub SpelledIsRead : Place → Type 0
SpelledIsRead place = (pool : List Entry) (descriptor : List ℕ) (p : Position) (kept : List Attr)
    (bytes rest : List ℕ) (spare : ℕ)
    → AttributesSpell pool place descriptor kept bytes
    → p.spare ≡ spare + total attribute_texts kept
    → attributes_at (rows_of pool) place descriptor (leaving p (bytes ++ rest))
    ≡ Ok (kept, left_with p rest spare)
