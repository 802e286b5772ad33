-- Items that have a name and lead to the items of other names, and the graph over their places.
use Rattle.std.specs.Prelude.{◌≡◌, ℕ, ◌<◌, Bool, List, [], ◌++◌, length, map, take, Option}
use Rattle.std.specs.Prelude.{option_to_list, slice_index_or, if◌then◌else◌}
use Rattle.std.specs.List.{list_any, filter_map, flat_map}
use Rattle.java_names.specs.Names.{is_text}
use Rattle.ijar_strip.specs.Places.{last_place}
use Rattle.ijar_strip.specs.declared.links.Link.{Link}

-- an item as it is seen
pub record Linked : Type 0 where
  pub begun : Bool
  pub name : List ℕ
  pub leads : List (List ℕ)

abbrev pub link_seen : Link → Linked
link_seen link = record {
  begun = link.begins;
  name = link.name.now;
  leads = option_to_list link.first.now ++ link.others.now;
}

abbrev pub begins : Linked → Bool
begins link = link.begun

abbrev pub leads_to : Linked → Linked → Bool
leads_to link other = list_any (is_text other.name) link.leads

-- ---- the graph

abbrev pub names_of : List Linked → List (List ℕ)
names_of links = map (λ link. link.name) links

-- where these names stand last
abbrev pub places_of : List (List ℕ) → List (List ℕ) → List ℕ
places_of names leads = filter_map (last_place names) leads

abbrev pub begun_places : List (List ℕ) → Linked → List ℕ
begun_places names link = if link.begun then places_of names link.leads else []

abbrev pub first_places : List Linked → List ℕ
first_places links = flat_map (begun_places (names_of links)) links

-- the last place before of the name that stands at a place
unfoldable pub before_of : List Linked → ℕ → Option ℕ
before_of links place =
    last_place (take place (names_of links)) (slice_index_or (names_of links) place [])

-- the places to which a place leads
unfoldable pub row_of : List Linked → ℕ → List ℕ
row_of links place =
    option_to_list (before_of links place)
    ++ places_of (names_of links) (slice_index_or (map (λ link. link.leads) links) place [])

-- what a function gives at the numbers below a count
pub record AreValues {A : Type 0} (value : ℕ → A) (default : A) (count : ℕ) (values : List A)
    : Type 0 where
  pub long : length values ≡ count
  pub each : (n : ℕ) → n < count → slice_index_or values n default ≡ value n
