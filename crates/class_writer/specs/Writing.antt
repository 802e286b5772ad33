-- How a class file is put together: what stands behind the pool is laid out item by item, and then
-- written item by item, while the pool is gathered.
use Rattle.std.specs.Prelude.{◌≡◌, ℕ, ◌+◌, Bool, not, List, [], ◌∷◌, ◌++◌, length, slice_set}
use Rattle.std.specs.List.{flat_map, list_any, position_or_len}
use Rattle.std.specs.Int.{w16, w32, to_be_bytes}
use Rattle.indexmap.specs.IndexSet.{insert_key, insert_all}
use Rattle.class_desc.specs.ClassFile.{magic}
use Rattle.class_desc.specs.Layout.{Need, Item, BodyLength, text_item, size, told, item_bytes}
use Rattle.class_writer.specs.declared.body.Body.{Body}
use Rattle.class_writer.specs.Slots.{Slot, is_slot, item_slots, place_in, slot_bytes}

-- ---- the items

-- what contracts see of the items so far: them, and how many bytes they have, told up to the
-- greatest number
pub record Outline : Type 0 where
  pub items : List Item
  pub size : ℕ

-- these items were put behind the others
pub record Puts (put : List Item) (old new : Outline) : Type 0 where
  pub items : new.items ≡ old.items ++ put
  pub size : told new.size ≡ told (old.size + size put)

-- An attribute of this name was begun: its body's length has a place, and the bytes of its body
-- are counted from none.
pub record BeginsAttribute (name : List ℕ) (body : Body) (old new : Outline) : Type 0 where
  pub items : new.items ≡ old.items ++ text_item name ∷ BodyLength 0 ∷ []
  pub size : new.size ≡ 0
  pub place : body.place ≡ length old.items + 1
  pub before : told body.before ≡ told (old.size + 2)

-- The attribute was ended: the length of its body stands at its place.
pub record EndsAttribute (body : Body) (old new : Outline) : Type 0 where
  pub items : new.items ≡ slice_set old.items body.place (BodyLength (told old.size))
  pub size : told new.size ≡ told (body.before + (4 + old.size))

-- ---- the file

-- what contracts see of a writer: the pool so far by its numbers, its bytes, and the bytes so far
-- of what stands behind it
pub record Draft : Type 0 where
  pub pool : List Slot
  pub entries : List ℕ
  pub body : List ℕ

-- the bytes of the pool are those over each pool that goes on from it
abbrev pub IsPut : Draft → Type 0
IsPut draft = (more : List Slot)
    → draft.entries ≡ flat_map (slot_bytes (draft.pool ++ more)) draft.pool

-- Items were written: their needs are in the pool, behind those that were there, and their bytes
-- are those over each pool that goes on from the new one.
pub record Writes (items : List Item) (old new : Draft) : Type 0 where
  pub pool : new.pool ≡ insert_all is_slot old.pool (flat_map item_slots items)
  pub put : IsPut old → IsPut new
  pub body : (more : List Slot)
      → new.body ≡ old.body ++ flat_map (item_bytes (place_in (new.pool ++ more))) items

-- What is at a number of the pool was looked up, and taken in where it was new.
pub record FindsSlot (slot : Slot) (found : ℕ) (added : Bool) (old new : Draft) : Type 0 where
  pub pool : new.pool ≡ insert_key is_slot old.pool slot
  pub number : found ≡ position_or_len (is_slot slot) old.pool + 1
  pub is_new : added ≡ not (list_any (is_slot slot) old.pool)
  pub entries : new.entries ≡ old.entries
  pub body : new.body ≡ old.body

-- These numbers of the pool were taken, where they weren't yet, and nothing else was written.
pub record Takes (taken : List Slot) (old new : Draft) : Type 0 where
  pub pool : new.pool ≡ insert_all is_slot old.pool taken
  pub put : IsPut old → IsPut new
  pub body : new.body ≡ old.body

-- the number of an entry, over each pool that goes on from this one
abbrev pub IsNumberOf : Need → Draft → ℕ → Type 0
IsNumberOf need draft number = (more : List Slot) → number ≡ place_in (draft.pool ++ more) need

-- the file of a draft that is whole (JVMS 4.1)
abbrev pub file_of_draft : ℕ → ℕ → Draft → List ℕ
file_of_draft minor major draft =
    (to_be_bytes w32 magic ++ (to_be_bytes w16 minor ++ to_be_bytes w16 major))
    ++ ((to_be_bytes w16 (length draft.pool + 1) ++ draft.entries) ++ draft.body)
