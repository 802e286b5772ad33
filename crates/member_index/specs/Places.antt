-- The places of those in a list that pass a test.
use Rattle.std.specs.Prelude.{ℕ, suc, Bool, false, List, [], ◌∷◌, ◌++◌, map, slice_get}
use Rattle.std.specs.Prelude.{if◌then◌else◌}
use Rattle.std.specs.Option.{option_map_or}

-- the places of those that pass, in their order
abbrev pub places_of : {A : Type 0} → (A → Bool) → List A → List ℕ
places_of test [] = []
places_of test (x ∷ xs) =
    (if test x then 0 ∷ [] else []) ++ map (λ place. suc place) (places_of test xs)

-- whether what stands at a place passes
abbrev pub passes_at : {A : Type 0} → (A → Bool) → List A → ℕ → Bool
passes_at test xs place = option_map_or test (slice_get xs place) false
