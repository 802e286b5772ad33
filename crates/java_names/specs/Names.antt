-- The forms of the names in class files (JVMS 4.2, with the product's limits).
use Rattle.std.specs.Prelude.{ℕ, Bool, not, ◌&&◌, ◌||◌, ◌==◌, List, length, codes, nat_eq}
use Rattle.std.specs.List.{list_all, list_any, slice_split}
use lib.Pointwise.{pointwise}

-- whether two texts are the same bytes
abbrev pub is_text : List ℕ → List ℕ → Bool
is_text = pointwise nat_eq

-- whether the byte is one of these
abbrev pub is_among : List ℕ → ℕ → Bool
is_among bytes b = list_any (λ x. x == b) bytes

-- an unqualified name: not empty, and without the bytes . ; [ / (JVMS 4.2.2)
abbrev pub is_unqualified : List ℕ → Bool
is_unqualified name = not (length name == 0)
    && list_all (λ b. not (is_among (codes ".;[/") b)) name

-- a binary name in internal form: unqualified names with / between them (JVMS 4.2.1)
abbrev pub is_class_name : List ℕ → Bool
is_class_name name = list_all is_unqualified (slice_split (λ b. b == 47) name)

abbrev pub is_field_name : List ℕ → Bool
is_field_name = is_unqualified

-- besides, without < and >, or one of the two special names (JVMS 4.2.2)
abbrev pub is_method_name : List ℕ → Bool
is_method_name name =
    (is_unqualified name && list_all (λ b. not (is_among (codes "<>") b)) name)
    || is_text name (codes "<init>") || is_text name (codes "<clinit>")

-- an identifier of signatures: not empty, and without the bytes . ; [ / < > : (JVMS 4.7.9.1)
abbrev pub is_identifier : List ℕ → Bool
is_identifier name =
    not (length name == 0) && list_all (λ b. not (is_among (codes ".;[/<>:") b)) name

-- the binary name of a class in a signature: identifiers with / between them (JVMS 4.7.9.1)
abbrev pub is_binary_name : List ℕ → Bool
is_binary_name name = list_all is_identifier (slice_split (λ b. b == 47) name)
