-- What is written item by item, while the pool is gathered.
use Rattle.std.proofs.Common.{◌≡◌, ℕ, ◌+◌, ◌<◌, Bool, true, false, cond, not, List, [], ◌∷◌, ◌++◌}
use Rattle.std.proofs.Common.{length, map, get_or, take, refl, sym, ap, ◌∙◌, append_assoc}
use Rattle.std.proofs.Common.{append-nil, subst, add-one}
use Rattle.std.proofs.Math.Seq.{take-suc}
use Rattle.std.proofs.lemmas.List.{map-append}
use Rattle.std.specs.List.{flat_map, list_any}
use Rattle.std.specs.Int.{w16, to_be_bytes}
use Rattle.std.proofs.lemmas.Grind.{flat_map-append, fold-append}
use Rattle.indexmap.specs.IndexSet.{insert_key, insert_all}
use Rattle.class_desc.specs.Layout.{Need, Item, EntryNumber, item_bytes, item_needs}
use Rattle.class_writer.specs.Slots.{Slot, Held, is_slot, slots, need_slots, item_slots, place_in}
use Rattle.class_writer.specs.Slots.{slot_bytes}
use Rattle.class_writer.specs.Writing.{Draft, IsPut, Writes, Takes, FindsSlot, IsNumberOf}
use Rattle.class_writer.proofs.Inserting.{one_behind, all_behind, place_stays}
use Rattle.class_writer.proofs.Equivalences.{slots_equiv}

-- ---- bytes of the pool stay

-- what goes on from a pool goes on from what it went on from
abbrev OnFrom : List Slot → List Slot → Type 0
OnFrom old new = (tail : List Slot) × (new ≡ old ++ tail)

entries_append : (pool these those : List Slot)
    → flat_map (slot_bytes pool) (these ++ those) ≡ flat_map (slot_bytes pool) these
    ++ flat_map (slot_bytes pool) those
entries_append pool these those = flat_map-append (slot_bytes pool) these those

-- the bytes of a slot that is new
pub put_new : (old new : Draft) (slot : Slot) → new.pool ≡ old.pool ++ slot ∷ []
    → ((more : List Slot) → new.entries ≡ old.entries ++ slot_bytes (new.pool ++ more) slot)
    → IsPut old → IsPut new
put_new old new slot behind is_new put more =
    let on : old.pool ++ (slot ∷ more) ≡ new.pool
    ++ more = sym (append_assoc old.pool (slot ∷ []) more)
    ∙ ap (λ pool. pool ++ more) (sym behind) in
    is_new more
    ∙ ap (λ t. t ++ slot_bytes (new.pool ++ more) slot) (put (slot ∷ more)
    ∙ ap (λ pool. flat_map (slot_bytes pool) old.pool) on)
    ∙ ap (λ t. flat_map (slot_bytes (new.pool ++ more)) old.pool ++ t)
    (sym (append-nil (slot_bytes (new.pool ++ more) slot)))
    ∙ sym (entries_append (new.pool ++ more) old.pool (slot ∷ []))
    ∙ ap (flat_map (slot_bytes (new.pool ++ more))) (sym behind)

pub put_old : (old new : Draft) → new.pool ≡ old.pool → new.entries ≡ old.entries → IsPut old
    → IsPut new
put_old old new same_pool same_entries put more =
    same_entries ∙ put more ∙ ap (λ pool. flat_map (slot_bytes (pool ++ more)) old.pool)
    (sym same_pool) ∙ ap (flat_map (slot_bytes (new.pool ++ more))) (sym same_pool)

-- ---- one slot

-- a slot was looked up, and its bytes were written where it is new
pub takes_one : (slot : Slot) (number : ℕ) (is_new : Bool) (a b c : Draft)
    → FindsSlot slot number is_new a b → c.pool ≡ b.pool → c.body ≡ b.body
    → (is_new ≡ true → (more : List Slot)
    → c.entries ≡ b.entries ++ slot_bytes (c.pool ++ more) slot)
    → (is_new ≡ false → c.entries ≡ b.entries)
    → Takes (slot ∷ []) a c
takes_one slot number is_new a b c found same_pool same_body written kept = record {
  pool = same_pool ∙ found.pool;
  put = by (list_any (is_slot slot) a.pool) refl;
  body = same_body ∙ found.body;
}
  where
    by : (there : Bool) → list_any (is_slot slot) a.pool ≡ there → IsPut a → IsPut c
    by true there =
        put_old a c (same_pool ∙ found.pool ∙ ap (λ b. cond b a.pool (a.pool ++ slot ∷ [])) there)
        (kept (found.is_new ∙ ap not there) ∙ found.entries)
    by false there =
        put_new a c slot (same_pool ∙ found.pool
        ∙ ap (λ b. cond b a.pool (a.pool ++ slot ∷ [])) there)
        (λ more. written (found.is_new ∙ ap not there) more
        ∙ ap (λ t. t ++ slot_bytes (c.pool ++ more) slot) found.entries)

pub takes_then : {a b c : Draft} {xs ys : List Slot} → Takes xs a b → Takes ys b c
    → Takes (xs ++ ys) a c
takes_then {a} {b} {c} {xs} {ys} one two = record {
  pool = two.pool ∙ ap (λ pool. insert_all is_slot pool ys) one.pool
      ∙ sym (fold-append (insert_key is_slot) a.pool xs ys);
  put = λ put. two.put (one.put put);
  body = two.body ∙ one.body;
}

-- the number of what was looked up
pub number_found : (need : Need) (number : ℕ) (is_new : Bool) (a b c : Draft)
    → FindsSlot (Held need) number is_new a b → c.pool ≡ b.pool → IsNumberOf need c number
number_found need number is_new a b c found same_pool more =
    found.number
    ∙ ap (λ n. n + 1) (sym (place_stays is_slot slots_equiv (Held need) a.pool more))
    ∙ ap (λ pool. place_in (pool ++ more) need) (sym (same_pool ∙ found.pool))

-- a number stays, whatever is looked up
pub number_stays_found : (need : Need) (number : ℕ) (slot : Slot) (at : ℕ) (is_new : Bool)
    (a b : Draft) → FindsSlot slot at is_new a b → IsNumberOf need a number
    → IsNumberOf need b number
number_stays_found need number slot at is_new a b found is more =
    let tail = one_behind is_slot a.pool slot in
    is (tail.0 ++ more) ∙ ap (λ pool. place_in pool need) (sym (append_assoc a.pool tail.0 more)
    ∙ ap (λ pool. pool ++ more) (sym (found.pool ∙ tail.1)))

-- ---- items

-- one item that needs nothing
pub writes_plain : (item : Item) (old new : Draft) → item_needs item ≡ [] → new.pool ≡ old.pool
    → new.entries ≡ old.entries
    → ((pool : List Slot) → new.body ≡ old.body ++ item_bytes (place_in pool) item)
    → Writes (item ∷ []) old new
writes_plain item old new none same_pool same_entries written = record {
  pool = same_pool ∙ ap (λ needs. insert_all is_slot old.pool (flat_map slots needs ++ []))
      (sym none);
  put = put_old old new same_pool same_entries;
  body = λ more. written (new.pool ++ more)
      ∙ ap (λ t. old.body ++ t) (sym (append-nil (item_bytes (place_in (new.pool ++ more)) item)));
}

-- the number of an entry
pub writes_number : (need : Need) (number : ℕ) (a b c : Draft) → Takes (need_slots need) a b
    → IsNumberOf need b number → c.pool ≡ b.pool → c.entries ≡ b.entries
    → c.body ≡ b.body ++ to_be_bytes w16 number → Writes (EntryNumber need ∷ []) a c
writes_number need number a b c takes is same_pool same_entries written = record {
  pool = same_pool ∙ takes.pool
      ∙ ap (insert_all is_slot a.pool) (sym (append-nil (need_slots need)));
  put = λ put. put_old b c same_pool same_entries (takes.put put);
  body = λ more.
      written ∙ ap (λ t. t ++ to_be_bytes w16 number) takes.body
      ∙ ap (λ n. a.body ++ to_be_bytes w16 n) (is more
      ∙ ap (λ pool. place_in (pool ++ more) need) (sym same_pool))
      ∙ ap (λ t. a.body ++ t) (sym (append-nil
      (to_be_bytes w16 (place_in (c.pool ++ more) need))));
}

pub writes_then : {a b c : Draft} {xs ys : List Item} → Writes xs a b → Writes ys b c
    → Writes (xs ++ ys) a c
writes_then {a} {b} {c} {xs} {ys} one two =
    let tail = all_behind is_slot b.pool (flat_map item_slots ys) in
    record {
      pool =
          two.pool ∙ ap (λ pool. insert_all is_slot pool (flat_map item_slots ys)) one.pool
          ∙ sym (fold-append (insert_key is_slot) a.pool (flat_map item_slots xs)
          (flat_map item_slots ys))
          ∙ ap (insert_all is_slot a.pool) (sym (flat_map-append item_slots xs ys));
      put = λ put. two.put (one.put put);
      body = λ more.
          let on : b.pool ++ (tail.0 ++ more) ≡ c.pool
          ++ more = sym (append_assoc b.pool tail.0 more)
          ∙ ap (λ pool. pool ++ more) (sym (two.pool ∙ tail.1)) in
          let bytes : Item → List ℕ = item_bytes (place_in (c.pool ++ more)) in
          two.body more
          ∙ ap (λ t. t ++ flat_map bytes ys) (one.body (tail.0 ++ more)
          ∙ ap (λ pool. a.body ++ flat_map (item_bytes (place_in pool)) xs) on)
          ∙ append_assoc a.body (flat_map bytes xs) (flat_map bytes ys)
          ∙ ap (λ t. a.body ++ t) (sym (flat_map-append bytes xs ys));
    }

pub writes_as : {a b : Draft} {xs ys : List Item} → xs ≡ ys → Writes xs a b → Writes ys a b
writes_as {a} {b} same w = subst (λ t. Writes t a b) same w

map_last : {X Y : Type 0} (f : X → Y) (i : ℕ) (xs : List X) (x : X) → i < length xs
    → map f (take i xs) ++ f (get_or xs i x) ∷ [] ≡ map f (take (i + 1) xs)
map_last f i xs x below =
    let cut : take (i + 1) xs ≡ take i xs ++ get_or xs i x ∷ [] =
    rw add-one (take-suc xs i x below) in
    sym (ap (map f) cut ∙ map-append f (take i xs) (get_or xs i x ∷ []))

-- one more of the items
pub writes_more : {X : Type 0} (seen : X → Item) (i : ℕ) (xs : List X) (x : X) {a b c : Draft}
    → i < length xs → Writes (map seen (take i xs)) a b → Writes (seen (get_or xs i x) ∷ []) b c
    → Writes (map seen (take (i + 1) xs)) a c
writes_more seen i xs x below before now =
    writes_as (map_last seen i xs x below) (writes_then before now)
