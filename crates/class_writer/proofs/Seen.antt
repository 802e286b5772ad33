-- The set of slots, seen without where their texts lie in memory.
use Rattle.std.proofs.Common.{◌≡◌, ℕ, ◌+◌, Bool, true, false, cond, not, ◌||◌, List, [], ◌∷◌}
use Rattle.std.proofs.Common.{◌++◌, length, map, set, ◌<◌, ◌^◌, arith, refl, sym, ap, ◌∙◌, subst}
use Rattle.std.proofs.Common.{append_assoc, append-nil}
use Rattle.std.specs.List.{list_any, position_or_len}
use Rattle.std.specs.Int.{w16, to_be_bytes}
use Rattle.std.proofs.lemmas.List.{map-append, map-set}
use Rattle.indexmap.specs.IndexSet.{insert_key}
use Rattle.class_desc.specs.declared.constant_kind.NumberKind.TheVariants as number
use Rattle.class_desc.specs.Layout as layout
use Rattle.class_desc.specs.Layout.{is_need, BodyLength, told, item_bytes, item_needs}
use Rattle.class_writer.specs.declared.need.NumberKind.{NumberKind}
use Rattle.class_writer.specs.declared.need.NumberKind.TheVariants as kind
use Rattle.class_writer.specs.declared.need.Need.{Need}
use Rattle.class_writer.specs.declared.need.Need.TheVariants as need
use Rattle.class_writer.specs.declared.need.Slot.{Slot}
use Rattle.class_writer.specs.declared.need.Slot.TheVariants as slot
use Rattle.class_writer.specs.contracts.need.SlotPartialEq.TheImpl.{ghosts}
use Rattle.class_writer.specs.contracts.need.NeedPartialEq.TheImpl as NeedEq
use Rattle.class_writer.specs.declared.body.Body.{Body}
use Rattle.class_writer.specs.declared.item.Item.{Item}
use Rattle.class_writer.specs.declared.item.Item.TheVariants as item
use Rattle.class_writer.specs.Slots as layout_slot
use Rattle.class_writer.specs.Slots.{is_slot, place_in, slot_bytes}
use Rattle.class_writer.specs.Seen.{kind_seen, need_seen, slot_seen, item_seen}
use Rattle.class_writer.specs.Writing.{Draft, Outline, EndsAttribute, FindsSlot, Takes, Writes}
use Rattle.class_writer.specs.Writing.{IsNumberOf}
use Rattle.class_writer.proofs.Putting.{told_is}
use Rattle.class_writer.proofs.Writes.{takes_one, takes_then, number_found, number_stays_found}
use Rattle.class_writer.proofs.Writes.{writes_as, writes_plain, writes_number}

need_alike : (a b : Need) → NeedEq.ghosts.eq a b ≡ is_need (need_seen a) (need_seen b)
need_alike (need.Text a) (need.Text b) = refl
need_alike (need.Class a) (need.Class b) = refl
need_alike (need.String a) (need.String b) = refl
need_alike (need.Number kind.Integer a) (need.Number kind.Integer b) = refl
need_alike (need.Number kind.Integer a) (need.Number kind.Float b) = refl
need_alike (need.Number kind.Integer a) (need.Number kind.Long b) = refl
need_alike (need.Number kind.Integer a) (need.Number kind.Double b) = refl
need_alike (need.Number kind.Float a) (need.Number kind.Integer b) = refl
need_alike (need.Number kind.Float a) (need.Number kind.Float b) = refl
need_alike (need.Number kind.Float a) (need.Number kind.Long b) = refl
need_alike (need.Number kind.Float a) (need.Number kind.Double b) = refl
need_alike (need.Number kind.Long a) (need.Number kind.Integer b) = refl
need_alike (need.Number kind.Long a) (need.Number kind.Float b) = refl
need_alike (need.Number kind.Long a) (need.Number kind.Long b) = refl
need_alike (need.Number kind.Long a) (need.Number kind.Double b) = refl
need_alike (need.Number kind.Double a) (need.Number kind.Integer b) = refl
need_alike (need.Number kind.Double a) (need.Number kind.Float b) = refl
need_alike (need.Number kind.Double a) (need.Number kind.Long b) = refl
need_alike (need.Number kind.Double a) (need.Number kind.Double b) = refl
need_alike _ _ = refl

slot_alike : (a b : Slot) → ghosts.eq a b ≡ is_slot (slot_seen a) (slot_seen b)
slot_alike (slot.Held a) (slot.Held b) = need_alike a b
slot_alike (slot.BehindLong a) (slot.BehindLong b) = refl
slot_alike (slot.BehindDouble a) (slot.BehindDouble b) = refl
slot_alike _ _ = refl

pub any_seen : (key : Slot) (keys : List Slot)
    → list_any (ghosts.eq key) keys ≡ list_any (is_slot (slot_seen key)) (map slot_seen keys)
any_seen key [] = refl
any_seen key (k ∷ ks) = ap (λ b. b || list_any (ghosts.eq key) ks) (slot_alike key k)
    ∙ ap (λ b. is_slot (slot_seen key) (slot_seen k) || b) (any_seen key ks)

pub position_seen : (key : Slot) (keys : List Slot)
    → position_or_len (ghosts.eq key) keys
    ≡ position_or_len (is_slot (slot_seen key)) (map slot_seen keys)
position_seen key [] = refl
position_seen key (k ∷ ks) =
    ap (λ b. cond (not b) (1 + position_or_len (ghosts.eq key) ks) 0) (slot_alike key k)
    ∙ ap (λ n. cond (not (is_slot (slot_seen key) (slot_seen k))) (1 + n) 0) (position_seen key ks)

pub insert_seen : (keys : List Slot) (key : Slot)
    → map slot_seen (insert_key ghosts.eq keys key)
    ≡ insert_key is_slot (map slot_seen keys) (slot_seen key)
insert_seen keys key =
    mapped (list_any (ghosts.eq key) keys)
    ∙ ap (λ b. cond b (map slot_seen keys) (map slot_seen keys ++ slot_seen key ∷ []))
    (any_seen key keys)
  where
    mapped : (b : Bool) → map slot_seen (cond b keys (keys ++ key ∷ []))
        ≡ cond b (map slot_seen keys) (map slot_seen keys ++ slot_seen key ∷ [])
    mapped true = refl
    mapped false = map-append slot_seen keys (key ∷ [])

-- the writer's parts, seen
abbrev pub seen_parts : List Slot → List ℕ → List ℕ → Draft
seen_parts keys entries body = record { pool = map slot_seen keys; entries = entries; body = body }

pub finds : (old : Draft) (keys after : List Slot) (slot : Slot) (entries body : List ℕ)
    (index : ℕ) (added : Bool) → seen_parts keys entries body ≡ old
    → after ≡ insert_key ghosts.eq keys slot → index ≡ position_or_len (ghosts.eq slot) keys
    → added ≡ not (list_any (ghosts.eq slot) keys)
    → FindsSlot (slot_seen slot) (index + 1) added old (seen_parts after entries body)
finds old keys after slot entries body index added is_old is_after is_index is_added = record {
  pool = ap (map slot_seen) is_after ∙ insert_seen keys slot
      ∙ ap (λ (d : Draft). insert_key is_slot d.pool (slot_seen slot)) is_old;
  number = ap (λ n. n + 1) (is_index ∙ position_seen slot keys)
      ∙ ap (λ (d : Draft). position_or_len (is_slot (slot_seen slot)) d.pool + 1) is_old;
  is_new = is_added ∙ ap not (any_seen slot keys)
      ∙ ap (λ (d : Draft). not (list_any (is_slot (slot_seen slot)) d.pool)) is_old;
  entries = ap (λ (d : Draft). d.entries) is_old;
  body = ap (λ (d : Draft). d.body) is_old;
}

-- the items so far, seen
abbrev pub seen_items : List Item → ℕ → Outline
seen_items items size = record { items = map item_seen items; size = size }

pub ends : (body : Body) (old : Outline) (items : List Item) (inside size with_length all : ℕ)
    → seen_items items inside ≡ old → size ≡ old.size → size < 2 ^ 64
    → with_length ≡ told (size + 4) → all ≡ told (with_length + body.before)
    → EndsAttribute body old (seen_items (set items body.place (item.BodyLength size)) all)
ends body old items inside size with_length all is_old is_size fits is_with is_all =
    let is_told : size ≡ told old.size = sym (told_is size fits) ∙ ap told is_size in
    record {
      items =
          map-set item_seen items body.place (item.BodyLength size)
          ∙ ap (λ (o : Outline). set o.items body.place (BodyLength size)) is_old
          ∙ ap (λ n. set old.items body.place (BodyLength n)) is_told;
      size =
          ap told (is_all ∙ ap (λ n. told (n + body.before)) is_with) ∙ told_twice size body.before
          ∙ ap (λ n. told (body.before + (4 + n))) is_size;
    }
  where
    told_twice : (n before : ℕ) → told (told (told (n + 4) + before)) ≡ told (before + (4 + n))
    told_twice n before = omega arith

-- ---- what is taken

added_not : (added : Bool) → added ≡ true → added ≡ false → ⊥
added_not added t f = absurd (let h : true ≡ false = sym t ∙ f in cc)

pub takes_new : (slot : layout_slot.Slot) (number : ℕ) (added : Bool) (a b : Draft)
    (keys : List Slot) (entries after body : List ℕ) → FindsSlot slot number added a b
    → added ≡ true → seen_parts keys entries body ≡ b
    → ((more : List layout_slot.Slot)
    → after ≡ entries ++ slot_bytes (map slot_seen keys ++ more) slot)
    → Takes (slot ∷ []) a (seen_parts keys after body)
takes_new slot number added a b keys entries after body found is_new is_b written =
    takes_one slot number added a b (seen_parts keys after body) found
    (ap (λ (d : Draft). d.pool) is_b) (ap (λ (d : Draft). d.body) is_b)
    (λ _ more. written more ∙ ap (λ t. t ++ slot_bytes (map slot_seen keys ++ more) slot)
    (ap (λ (d : Draft). d.entries) is_b))
    (λ is_old. absurd (added_not added is_new is_old))

pub takes_old : (slot : layout_slot.Slot) (number : ℕ) (added : Bool) (a b : Draft)
    → FindsSlot slot number added a b → added ≡ false → Takes (slot ∷ []) a b
takes_old slot number added a b found is_old = takes_one slot number added a b b found refl refl
    (λ is_new. absurd (added_not added is_new is_old)) (λ _. refl)

-- what has no bytes
pub takes_behind : (slot : layout_slot.Slot) (number : ℕ) (added : Bool) (a b : Draft)
    → ((pool : List layout_slot.Slot) → slot_bytes pool slot ≡ [])
    → FindsSlot slot number added a b
    → Takes (slot ∷ []) a b
takes_behind slot number added a b none found =
    takes_one slot number added a b b found refl refl
    (λ _ more. sym (ap (λ t. b.entries ++ t) (none (b.pool ++ more)) ∙ append-nil b.entries))
    (λ _. refl)

pub number_new : (need : layout.Need) (number : ℕ) (added : Bool) (a b : Draft) (keys : List Slot)
    (entries after body : List ℕ) → FindsSlot (layout_slot.Held need) number added a b
    → seen_parts keys entries body ≡ b → IsNumberOf need (seen_parts keys after body) number
number_new need number added a b keys entries after body found is_b = number_found need number
    added a b (seen_parts keys after body) found (ap (λ (d : Draft). d.pool) is_b)

pub text_bytes : (tag : ℕ) (text entries pushed put all : List ℕ) → pushed ≡ entries ++ tag ∷ []
    → put ≡ pushed ++ to_be_bytes w16 (length text) → all ≡ put ++ text
    → all ≡ entries ++ (tag ∷ to_be_bytes w16 (length text) ++ text)
text_bytes tag text entries pushed put all one two three =
    three
    ∙ ap (λ t. t ++ text) (
    two ∙ ap (λ t. t ++ to_be_bytes w16 (length text)) one
    ∙ append_assoc entries (tag ∷ []) (to_be_bytes w16 (length text)))
    ∙ append_assoc entries (tag ∷ to_be_bytes w16 (length text)) text

-- an entry that names a text, right behind it
pub takes_reference : (tag : ℕ) (text : List ℕ) (need : layout.Need) (number at : ℕ) (added : Bool)
    (a b c : Draft) (keys : List Slot) (entries pushed after body : List ℕ)
    → ((pool : List layout_slot.Slot)
    → slot_bytes pool (layout_slot.Held need) ≡ tag
    ∷ to_be_bytes w16 (place_in pool (layout.TextNeed text)))
    → Takes (layout_slot.Held (layout.TextNeed text) ∷ []) a b
    → IsNumberOf (layout.TextNeed text) b number
    → FindsSlot (layout_slot.Held need) at added b c → added ≡ true
    → seen_parts keys entries body ≡ c → pushed ≡ entries ++ tag ∷ []
    → after ≡ pushed ++ to_be_bytes w16 number
    → Takes (layout_slot.Held (layout.TextNeed text) ∷ layout_slot.Held need ∷ []) a
    (seen_parts keys after body)
takes_reference tag text need number at added a b c keys entries pushed after body bytes takes is
    found is_new is_c one two =
    takes_then takes (takes_new (layout_slot.Held need) at added b c keys entries after body found
    is_new is_c (λ more.
    two ∙ ap (λ t. t ++ to_be_bytes w16 number) one
    ∙ append_assoc entries (tag ∷ []) (to_be_bytes w16 number)
    ∙ ap (λ n. entries ++ tag ∷ to_be_bytes w16 n)
    (number_stays_found (layout.TextNeed text) number
    (layout_slot.Held need) at added b c found is more
    ∙ ap (λ (d : Draft). place_in (d.pool ++ more) (layout.TextNeed text)) (sym is_c))
    ∙ ap (λ t. entries ++ t) (sym (bytes (map slot_seen keys ++ more)))))

-- the numbers that a number takes

pub integer_takes : (k : NumberKind) (bits : ℕ) {a b : Draft} → k ≡ kind.Integer
    → Takes (layout_slot.Held (layout.NumberNeed (kind_seen k) bits) ∷ []) a b
    → Takes (layout_slot.need_slots (layout.NumberNeed (kind_seen k) bits)) a b
integer_takes k bits {a} {b} is takes =
    let narrow : Takes (layout_slot.Held (layout.NumberNeed number.Integer bits) ∷ []) a b = subst
    (λ k. Takes (layout_slot.Held (layout.NumberNeed (kind_seen k) bits) ∷ []) a b) is takes in
    subst (λ k. Takes (layout_slot.need_slots (layout.NumberNeed (kind_seen k) bits)) a b)
    (sym is) narrow

pub float_takes : (k : NumberKind) (bits : ℕ) {a b : Draft} → k ≡ kind.Float
    → Takes (layout_slot.Held (layout.NumberNeed (kind_seen k) bits) ∷ []) a b
    → Takes (layout_slot.need_slots (layout.NumberNeed (kind_seen k) bits)) a b
float_takes k bits {a} {b} is takes =
    let narrow : Takes (layout_slot.Held (layout.NumberNeed number.Float bits) ∷ []) a b = subst
    (λ k. Takes (layout_slot.Held (layout.NumberNeed (kind_seen k) bits) ∷ []) a b) is takes in
    subst (λ k. Takes (layout_slot.need_slots (layout.NumberNeed (kind_seen k) bits)) a b)
    (sym is) narrow

pub long_takes : (k : NumberKind) (bits at : ℕ) (added : Bool) {a b c : Draft} → k ≡ kind.Long
    → Takes (layout_slot.Held (layout.NumberNeed (kind_seen k) bits) ∷ []) a b
    → FindsSlot (layout_slot.BehindLong bits) at added b c
    → Takes (layout_slot.need_slots (layout.NumberNeed (kind_seen k) bits)) a c
long_takes k bits at added {a} {b} {c} is takes found =
    let wide : Takes (layout_slot.Held (layout.NumberNeed number.Long bits) ∷ []) a b = subst
    (λ k. Takes (layout_slot.Held (layout.NumberNeed (kind_seen k) bits) ∷ []) a b) is takes in
    let both : Takes (layout_slot.Held (layout.NumberNeed number.Long bits)
    ∷ layout_slot.BehindLong bits ∷ []) a c = takes_then wide
    (takes_behind (layout_slot.BehindLong bits) at added b c (λ _. refl) found) in
    subst (λ k. Takes (layout_slot.need_slots (layout.NumberNeed (kind_seen k) bits)) a c)
    (sym is) both

pub double_takes : (k : NumberKind) (bits at : ℕ) (added : Bool) {a b c : Draft} → k ≡ kind.Double
    → Takes (layout_slot.Held (layout.NumberNeed (kind_seen k) bits) ∷ []) a b
    → FindsSlot (layout_slot.BehindDouble bits) at added b c
    → Takes (layout_slot.need_slots (layout.NumberNeed (kind_seen k) bits)) a c
double_takes k bits at added {a} {b} {c} is takes found =
    let wide : Takes (layout_slot.Held (layout.NumberNeed number.Double bits) ∷ []) a b = subst
    (λ k. Takes (layout_slot.Held (layout.NumberNeed (kind_seen k) bits) ∷ []) a b) is takes in
    let both : Takes (layout_slot.Held (layout.NumberNeed number.Double bits)
    ∷ layout_slot.BehindDouble bits ∷ []) a c = takes_then wide
    (takes_behind (layout_slot.BehindDouble bits) at added b c (λ _. refl) found) in
    subst (λ k. Takes (layout_slot.need_slots (layout.NumberNeed (kind_seen k) bits)) a c)
    (sym is) both

-- ---- what is written

pub plain_written : (it : Item) (what : layout.Item) (old : Draft) (keys : List Slot)
    (entries body after : List ℕ) → item_seen it ≡ what → item_needs what ≡ []
    → seen_parts keys entries body ≡ old
    → ((pool : List layout_slot.Slot) → after ≡ body ++ item_bytes (place_in pool) what)
    → Writes (item_seen it ∷ []) old (seen_parts keys entries after)
plain_written it what old keys entries body after is none is_old written =
    writes_as (ap (λ i. i ∷ []) (sym is))
    (writes_plain what old (seen_parts keys entries after) none
    (ap (λ (d : Draft). d.pool) is_old) (ap (λ (d : Draft). d.entries) is_old)
    (λ pool. written pool ∙ ap (λ (d : Draft). d.body ++ item_bytes (place_in pool) what) is_old))

pub number_written : (it : Item) (need : layout.Need) (number : ℕ) (a b : Draft) (keys : List Slot)
    (entries body after : List ℕ) → item_seen it ≡ layout.EntryNumber need
    → Takes (layout_slot.need_slots need) a b → IsNumberOf need b number
    → seen_parts keys entries body ≡ b → after ≡ body ++ to_be_bytes w16 number
    → Writes (item_seen it ∷ []) a (seen_parts keys entries after)
number_written it need number a b keys entries body after is takes is_number is_b written =
    writes_as (ap (λ i. i ∷ []) (sym is))
    (writes_number need number a b (seen_parts keys entries after) takes is_number
    (ap (λ (d : Draft). d.pool) is_b) (ap (λ (d : Draft). d.entries) is_b)
    (written ∙ ap (λ (d : Draft). d.body ++ to_be_bytes w16 number) is_b))
