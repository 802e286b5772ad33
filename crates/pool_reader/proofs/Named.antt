-- What the rows of a pool tell of a number is what the pool has there.
use Rattle.std.proofs.Common.{◌≡◌, ℕ, ◌-◌, Bool, true, false, cond, eqb, List, Option, Some, None}
use Rattle.std.proofs.Common.{Result, Ok, refl, sym, ap, subst, ◌∙◌}
use Rattle.std.specs.Prelude.{option_map, slice_get}
use Rattle.std.proofs.lemmas.Option.{slice_get-map}
use Rattle.java_names.specs.ModifiedUtf8.{IsModifiedUtf8}
use Rattle.java_names.specs.Units.{is_modified_utf8}
use Rattle.java_names.proofs.Decoded.{test_accepts, test_refuses}
use Rattle.class_desc.specs.Pool.{Entry, Utf8, Integer, Float, Long, Double, ClassRef, StringRef}
use Rattle.class_desc.specs.Pool.{Other}
use Rattle.class_desc.specs.Pool.{Slot, Held, Second, numbered, held_in, entry_of, NamesText}
use Rattle.class_desc.specs.Pool.{NamesClass}
use Rattle.pool_reader.specs.declared.fault.ClassKind.{ClassKind}
use Rattle.pool_reader.specs.Pooled.{Row, TextRow, MalformedRow, slot_row, rows_of, row_in}
use Rattle.pool_reader.specs.Pooled.{text_of_row, text_named, class_of_row, class_named}

pub slot_in : List Entry → ℕ → Option Slot
slot_in pool n = cond (eqb n 0) None (slice_get (numbered pool) (n - 1))

pub row_is : (pool : List Entry) (n : ℕ) → row_in (rows_of pool) n
    ≡ option_map slot_row (slot_in pool n)
unfolding slot_in
row_is pool n = by (eqb n 0)
  where
    by : (b : Bool)
        → cond b None (slice_get (rows_of pool) (n - 1))
        ≡ option_map slot_row (cond b None (slice_get (numbered pool) (n - 1)))
    by true = refl
    by false = slice_get-map slot_row (numbered pool) (n - 1)

pub entry_is : (pool : List Entry) (n : ℕ) → entry_of pool n ≡ held_in (slot_in pool n)
unfolding slot_in
entry_is pool n = by (eqb n 0)
  where
    by : (b : Bool)
        → cond b None (held_in (slice_get (numbered pool) (n - 1)))
        ≡ held_in (cond b None (slice_get (numbered pool) (n - 1)))
    by true = refl
    by false = refl

-- ---- texts

abbrev Told : Type 0
Told = Result (List ℕ) ClassKind

-- a slot that holds this text, in modified UTF-8
abbrev HoldsText : Option Slot → List ℕ → Type 0
HoldsText slot text = (held_in slot ≡ Some (Utf8 text)) × (is_modified_utf8 text ≡ true)

holds_text : (slot : Option Slot) (text : List ℕ)
    → text_of_row (option_map slot_row slot) ≡ Ok text
    → HoldsText slot text
holds_text None text e = absurd cc
holds_text (Some Second) text e = absurd cc
holds_text (Some (Held (Utf8 t))) text e = by (is_modified_utf8 t) refl e
  where
    by : (b : Bool)
        → is_modified_utf8 t ≡ b
        → text_of_row (Some (cond b (TextRow t) MalformedRow)) ≡ Ok text
        → HoldsText (Some (Held (Utf8 t))) text
    by true is e =
        let same : t ≡ text = cc in
        subst (HoldsText (Some (Held (Utf8 t)))) same (refl, is)
    by false is e = absurd cc
holds_text (Some (Held (Integer bits))) text e = absurd cc
holds_text (Some (Held (Float bits))) text e = absurd cc
holds_text (Some (Held (Long bits))) text e = absurd cc
holds_text (Some (Held (Double bits))) text e = absurd cc
holds_text (Some (Held (ClassRef n))) text e = absurd cc
holds_text (Some (Held (StringRef n))) text e = absurd cc
holds_text (Some (Held (Other tag bytes))) text e = absurd cc

tells_text : (slot : Option Slot) (text : List ℕ)
    → HoldsText slot text
    → text_of_row (option_map slot_row slot) ≡ Ok text
tells_text None text h = absurd (let e = h.0 in cc)
tells_text (Some Second) text h = absurd (let e = h.0 in cc)
tells_text (Some (Held entry)) text h =
    let same : entry ≡ Utf8 text = some_is entry (Utf8 text) h.0 in
    rw (same, h.1) refl
  where
    some_is : (a b : Entry) → Some a ≡ Some b → a ≡ b
    some_is a b e = cc

-- the number names this text, and it is in modified UTF-8
pub record IsText (pool : List Entry) (n : ℕ) (text : List ℕ) : Type 0 where
  pub named : NamesText pool n text
  pub modified : IsModifiedUtf8 text

pub is_text_named : (pool : List Entry) (n : ℕ) (text : List ℕ)
    → text_named (rows_of pool) n ≡ Ok text
    → IsText pool n text
is_text_named pool n text e =
    let told : text_of_row (option_map slot_row (slot_in pool n)) ≡ Ok text =
    ap text_of_row (sym (row_is pool n)) ∙ e in
    let h = holds_text (slot_in pool n) text told in
    record { named = entry_is pool n ∙ h.0; modified = test_refuses text h.1 }

pub text_named_is : (pool : List Entry) (n : ℕ) (text : List ℕ)
    → IsText pool n text
    → text_named (rows_of pool) n ≡ Ok text
text_named_is pool n text is =
    ap text_of_row (row_is pool n)
    ∙ tells_text (slot_in pool n) text
    (sym (entry_is pool n) ∙ is.named, test_accepts text is.modified)

-- ---- classes

-- a slot that holds a class of this name
abbrev HoldsClass : List Row → Option Slot → List ℕ → Type 0
HoldsClass rows slot name =
    (i : ℕ) × (held_in slot ≡ Some (ClassRef i)) × (text_named rows i ≡ Ok name)

holds_class : (rows : List Row) (slot : Option Slot) (name : List ℕ)
    → class_of_row rows (option_map slot_row slot) ≡ Ok name
    → HoldsClass rows slot name
holds_class rows None name e = absurd cc
holds_class rows (Some Second) name e = absurd cc
holds_class rows (Some (Held (Utf8 t))) name e = absurd (by (is_modified_utf8 t) e)
  where
    by : (b : Bool) → class_of_row rows (Some (cond b (TextRow t) MalformedRow)) ≡ Ok name → ⊥
    by true e = cc
    by false e = cc
holds_class rows (Some (Held (Integer bits))) name e = absurd cc
holds_class rows (Some (Held (Float bits))) name e = absurd cc
holds_class rows (Some (Held (Long bits))) name e = absurd cc
holds_class rows (Some (Held (Double bits))) name e = absurd cc
holds_class rows (Some (Held (ClassRef n))) name e = (n, refl, e)
holds_class rows (Some (Held (StringRef n))) name e = absurd cc
holds_class rows (Some (Held (Other tag bytes))) name e = absurd cc

tells_class : (rows : List Row) (slot : Option Slot) (name : List ℕ)
    → HoldsClass rows slot name
    → class_of_row rows (option_map slot_row slot) ≡ Ok name
tells_class rows None name h = absurd (let e = h.1 in cc)
tells_class rows (Some Second) name h = absurd (let e = h.1 in cc)
tells_class rows (Some (Held entry)) name h =
    let same : entry ≡ ClassRef h.0 = some_is entry (ClassRef h.0) h.1 in
    rw same h.2
  where
    some_is : (a b : Entry) → Some a ≡ Some b → a ≡ b
    some_is a b e = cc

-- the number names the class of this name, and the name is in modified UTF-8
pub record IsClass (pool : List Entry) (n : ℕ) (name : List ℕ) : Type 0 where
  pub named : NamesClass pool n name
  pub modified : IsModifiedUtf8 name

pub is_class_named : (pool : List Entry) (n : ℕ) (name : List ℕ)
    → class_named (rows_of pool) n ≡ Ok name
    → IsClass pool n name
is_class_named pool n name e =
    let rows = rows_of pool in
    let told : class_of_row rows (option_map slot_row (slot_in pool n)) ≡ Ok name =
    ap (class_of_row rows) (sym (row_is pool n)) ∙ e in
    let h = holds_class rows (slot_in pool n) name told in
    let text = is_text_named pool h.0 name h.2 in
    record { named = (h.0, entry_is pool n ∙ h.1, text.named); modified = text.modified }

pub class_named_is : (pool : List Entry) (n : ℕ) (name : List ℕ)
    → IsClass pool n name
    → class_named (rows_of pool) n ≡ Ok name
class_named_is pool n name is =
    let rows = rows_of pool in
    let held : held_in (slot_in pool n) ≡ Some (ClassRef is.named.0) =
    sym (entry_is pool n) ∙ is.named.1 in
    let text : text_named rows is.named.0 ≡ Ok name =
    text_named_is pool is.named.0 name (record { named = is.named.2; modified = is.modified }) in
    ap (class_of_row rows) (row_is pool n)
    ∙ tells_class rows (slot_in pool n) name (is.named.0, held, text)
