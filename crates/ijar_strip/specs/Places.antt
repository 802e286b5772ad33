-- The last place of a name in a list.
use Rattle.std.specs.Prelude.{◌≡◌, ℕ, ◌+◌, List, [], ◌∷◌, Option, Some, None, map, if◌then◌else◌}
use Rattle.std.specs.Option.{option_or}
use Rattle.std.specs.Borrow.{Bor}
use Rattle.std.specs.HashMap.{get_by}
use Rattle.java_names.specs.Names.{is_text}
use Rattle.ijar_strip.specs.declared.places.Places.TheInside.{Inside}

abbrev pub text_seen : Bor (List ℕ) → List ℕ
text_seen text = text.now

-- the places count from this number
abbrev pub last_from : ℕ → List (List ℕ) → List ℕ → Option ℕ
last_from place [] name = None
last_from place (first ∷ names) name =
    option_or (last_from (place + 1) names name) (if is_text name first then Some place else None)

unfoldable pub last_place : List (List ℕ) → List ℕ → Option ℕ
last_place names name = last_from 0 names name

-- the map has the last place of each name
pub record IsIndexed (places : Inside) : Type 0 where
  pub each : (name : Bor (List ℕ)) →
      get_by (λ key. is_text name.now key.now) places.last
      ≡ last_place (map text_seen places.names.items) name.now
