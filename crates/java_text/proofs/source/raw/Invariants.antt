use Rattle.std.proofs.Common.{◌≡◌, ◌++◌}
use Rattle.std.specs.List.{flat_map}
use Rattle.std.specs.Str.{chars, IsUtf8}
use Rattle.std.specs.Str.Iter.{chars_rest}
use Rattle.std.specs.Char.Escape.{encode_utf16}
use Rattle.java_text.proofs.source.raw.Given as goal

-- what has been gone over, and then what is left
abbrev pub invariant-loop-character : goal.invariant-loop-character
invariant-loop-character l = IsUtf8 (chars_rest l.character-iterator)
    × (l.units.items ++ flat_map encode_utf16 (chars (chars_rest l.character-iterator))
    ≡ flat_map encode_utf16 (chars l.text))
