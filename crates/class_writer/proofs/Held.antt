-- The bytes of items over a pool of needs, and what it is for the pool to have what they need.
use Rattle.std.proofs.Common.{◌≡◌, ℕ, ◌+◌, ◌<◌, ◌≤◌, ◌^◌, arith, List, [], ◌∷◌, ◌++◌}
use Rattle.std.specs.List.{flat_map, AllByRecursion}
use Rattle.std.proofs.lemmas.Grind.{flat_map-append}
use Rattle.class_desc.specs.Layout.{Need, Item, item_bytes, item_needs, number_in, numbers_needed}
use Rattle.lemmas.proofs.Lists.{all_front, all_behind}
use Rattle.class_writer.proofs.Entries.{number_within}
use Rattle.class_writer.proofs.Needed.{IsIn}

abbrev pub bytes_over : List Need → List Item → List ℕ
bytes_over pool items = flat_map (item_bytes (number_in pool)) items

pub bytes_append : (pool : List Need) (front rest : List Item)
    → bytes_over pool (front ++ rest) ≡ bytes_over pool front ++ bytes_over pool rest
bytes_append pool front rest = flat_map-append (item_bytes (number_in pool)) front rest

-- what the item needs is in the pool
abbrev pub IsHeld : List Need → Item → Type 0
IsHeld pool item = AllByRecursion (λ need. IsIn need pool) (item_needs item)

abbrev pub AreHeld : List Need → List Item → Type 0
AreHeld pool items = AllByRecursion (IsHeld pool) items

pub held_items : (pool : List Need) (items : List Item)
    → AllByRecursion (λ need. IsIn need pool) (flat_map item_needs items) → AreHeld pool items
held_items pool [] all = tt
held_items pool (item ∷ items) all = (
  all_front (λ need. IsIn need pool) (item_needs item) (flat_map item_needs items) all,
  held_items pool items
      (all_behind (λ need. IsIn need pool) (item_needs item) (flat_map item_needs items) all),
)

pub held_front : (pool : List Need) (front rest : List Item) → AreHeld pool (front ++ rest)
    → AreHeld pool front
held_front pool front rest = all_front (IsHeld pool) front rest

pub held_behind : (pool : List Need) (front rest : List Item) → AreHeld pool (front ++ rest)
    → AreHeld pool rest
held_behind pool front rest = all_behind (IsHeld pool) front rest

-- two bytes hold the count of the pool (JVMS 4.1)
abbrev pub HasFewNumbers : List Need → Type 0
HasFewNumbers pool = numbers_needed pool ≤ 65534

pub number_in_fits : (pool : List Need) → HasFewNumbers pool → (need : Need)
    → number_in pool need < 2 ^ 16
number_in_fits pool few need =
    let within : number_in pool need ≤ numbers_needed pool + 1 = number_within pool need in
    omega arith
