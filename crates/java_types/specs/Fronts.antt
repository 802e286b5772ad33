-- What a text begins with, and where names in it end.
use Rattle.std.specs.Prelude.{ℕ, ◌==◌, ◌&&◌, ◌||◌, not, Bool, false, List, [], ◌∷◌, drop, codes}
use Rattle.std.specs.List.{list_all, position_or_len}
use Rattle.java_names.specs.Names.{is_among}
use Rattle.java_types.specs.Bytes.{class_letter, variable_letter, bracket, colon}

abbrev pub begins_with : ℕ → List ℕ → Bool
begins_with byte [] = false
begins_with byte (b ∷ bytes) = b == byte

-- whether the first byte is one of these
abbrev pub begins_among : List ℕ → List ℕ → Bool
begins_among these [] = false
begins_among these (b ∷ bytes) = is_among these b

-- the bytes that no name of a class in a signature
-- has, / between its identifiers apart (JVMS 4.7.9.1)
abbrev pub ends_name : ℕ → Bool
ends_name b = is_among (codes ".;[<>:") b

abbrev pub is_plain_name : List ℕ → Bool
is_plain_name name = list_all (λ b. not (ends_name b)) name

-- what is behind the name at the front
abbrev pub behind_name : List ℕ → List ℕ
behind_name bytes = drop (position_or_len ends_name bytes) bytes

-- whether a type stands behind the : of a type parameter: an array, or a class or a type variable,
-- unless it is the name of the next type parameter
abbrev pub is_before_type : List ℕ → Bool
is_before_type bytes =
    begins_with bracket bytes
    || ((begins_with class_letter bytes || begins_with variable_letter bytes)
    && not (begins_with colon (behind_name bytes)))
