-- Names as paths. A name has the units of UTF-16, each by
-- itself in modified UTF-8 (JVMS 4.4.7); a path is UTF-8.
use Rattle.std.specs.Prelude.{ℕ, List, Option, Some, None, if◌then◌else◌}
use Rattle.std.specs.List.{flat_map}
use Rattle.std.specs.Str.{chars, encode_utf8_all}
use Rattle.std.specs.Char.Escape.{encode_utf16}
use Rattle.std.specs.Char.Utf16.{has_unpaired_surrogate, utf16_lossy_chars}
use Rattle.java_names.specs.ModifiedUtf8.{modified_utf8}
use Rattle.java_names.specs.Units.{units_of}

-- the UTF-16 units of a text in UTF-8
abbrev pub utf16_units : List ℕ → List ℕ
utf16_units text = flat_map encode_utf16 (chars text)

-- the name that a path spells
abbrev pub name_of_path : List ℕ → List ℕ
name_of_path path = modified_utf8 (utf16_units path)

-- the text of the units in UTF-8, where each surrogate has its partner
abbrev pub path_of_units : Option (List ℕ) → Option (List ℕ)
path_of_units None = None
path_of_units (Some units) =
    if has_unpaired_surrogate units then None else Some (encode_utf8_all (utf16_lossy_chars units))

-- the path that a name spells: none where it has a
-- surrogate without its partner, or is no modified UTF-8
abbrev pub path_of_name : List ℕ → Option (List ℕ)
path_of_name name = path_of_units (units_of name)
