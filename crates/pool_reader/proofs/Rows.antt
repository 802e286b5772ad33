-- The rows that are read are those of the pool that the bytes spell.
use Rattle.std.proofs.Common.{◌≡◌, ℕ, zero, suc, ◌+◌, ◌-◌, ◌^◌, ◌<◌, ◌≤◌, Bool, true, false}
use Rattle.std.proofs.Common.{true≢false}
use Rattle.std.proofs.Common.{cond, eqb, List, [], ◌∷◌, ◌++◌, length, map, Ok, Err, refl, sym, ap}
use Rattle.std.proofs.Common.{subst, ◌∙◌, arith, inl, inr}
use Rattle.std.specs.List.{flat_map, AllByRecursion}
use Rattle.std.specs.Int.{w16, to_be_bytes}
use Rattle.std.proofs.lemmas.Bool.{eqb-true, eqb-false}
use Rattle.std.proofs.lemmas.List.{length-map}
use Rattle.java_names.specs.Units.{is_modified_utf8}
use Rattle.class_desc.specs.Pool.{Entry, Utf8, Integer, Float, Long, Double, ClassRef, StringRef}
use Rattle.class_desc.specs.Pool.{Other}
use Rattle.class_desc.specs.Pool.{entry_bytes, EntryFits, is_wide, numbered}
use Rattle.pool_reader.specs.declared.fault.ClassKind.TheVariants.{F5}
use Rattle.pool_reader.specs.Reading.{◌>>=◌, told}
use Rattle.pool_reader.specs.Pooled.{Row, TextRow, MalformedRow, UnreadRow, row_of, slot_row}
use Rattle.pool_reader.specs.Pooled.{rows_of}
use Rattle.pool_reader.specs.Pooled.{is_wide_row, row_at, rows_at, pool_at}
use Rattle.pool_reader.proofs.Laws.{Reads, reads_as, Given, reads_given, Then, joined, reads_then}
use Rattle.pool_reader.proofs.Laws.{Either, reads_if, Never, reads_never, Made, reads_made}
use Rattle.pool_reader.proofs.Numbers.{NumberSpells, reads_u16}
use Rattle.pool_reader.proofs.Entries.{EntrySpells, reads_entry}

-- ---- as the reading goes

abbrev RowSpells : Bool → ℕ → Row → List ℕ → Type 0
RowSpells is_second behind = Either is_second (Given UnreadRow) (Made row_of (EntrySpells behind))

reads_row : (is_second : Bool) (behind : ℕ)
    → Reads (row_at is_second behind) (RowSpells is_second behind)
unfolding row_at
reads_row is_second behind =
    reads_if is_second (reads_given UnreadRow) (reads_made row_of (reads_entry behind))

-- the rows of as many numbers, one behind the other
abbrev RowsSpell : Bool → ℕ → List Row → List ℕ → Type 0
RowsSpell is_second zero rows text = Given [] rows text
RowsSpell is_second (suc n) rows text =
    Then (RowSpells is_second n)
    (λ row. Made (λ rows. row ∷ rows) (RowsSpell (is_wide_row row) n)) rows text

reads_rows : (is_second : Bool) (n : ℕ) → Reads (rows_at is_second n) (RowsSpell is_second n)
unfolding rows_at
reads_rows is_second zero = reads_given []
reads_rows is_second (suc n) =
    reads_then
    (λ begun row rest. rows_at (is_wide_row row) n rest >>= λ rows. Ok (row ∷ rows.0, rows.1))
    (reads_row is_second n)
    (λ begun row. reads_made (λ rows. row ∷ rows) (reads_rows (is_wide_row row) n))

-- ---- as the pool has them

wide_is : (entry : Entry) → is_wide_row (row_of entry) ≡ is_wide entry
wide_is (Utf8 text) = by (is_modified_utf8 text)
  where
    by : (b : Bool) → is_wide_row (cond b (TextRow text) MalformedRow) ≡ false
    by true = refl
    by false = refl
wide_is (Integer bits) = refl
wide_is (Float bits) = refl
wide_is (Long bits) = refl
wide_is (Double bits) = refl
wide_is (ClassRef n) = refl
wide_is (StringRef n) = refl
wide_is (Other tag bytes) = refl

-- the rows behind the first number of an entry
abbrev second_rows : Bool → List Row → List Row
second_rows true rows = UnreadRow ∷ rows
second_rows false rows = rows

rows_cons : (entry : Entry) (entries : List Entry)
    → row_of entry ∷ second_rows (is_wide entry) (rows_of entries) ≡ rows_of (entry ∷ entries)
rows_cons (Utf8 text) entries = refl
rows_cons (Integer bits) entries = refl
rows_cons (Float bits) entries = refl
rows_cons (Long bits) entries = refl
rows_cons (Double bits) entries = refl
rows_cons (ClassRef n) entries = refl
rows_cons (StringRef n) entries = refl
rows_cons (Other tag bytes) entries = refl

-- the text is that of some entries, of which these are the rows
record AreRows (is_second : Bool) (n : ℕ) (rows : List Row) (text : List ℕ) : Type 0 where
  entries : List Entry
  fits : AllByRecursion EntryFits entries
  whole : text ≡ flat_map entry_bytes entries
  are : rows ≡ second_rows is_second (rows_of entries)
  count : length rows ≡ n

-- behind a row that takes no bytes
behind_second : (n : ℕ) (rows more : List Row) (text : List ℕ)
    → UnreadRow ∷ more ≡ rows
    → AreRows false n more text
    → AreRows true (suc n) rows text
behind_second n rows more text is others = record {
  entries = others.entries;
  fits = others.fits;
  whole = others.whole;
  are = sym is ∙ ap (λ (rs : List Row). UnreadRow ∷ rs) others.are;
  count = ap length (sym is) ∙ ap suc others.count;
}

behind_entry : (n : ℕ) (entry : Entry) (rows more : List Row) (front rest : List ℕ)
    → EntrySpells n entry front
    → row_of entry ∷ more ≡ rows
    → AreRows (is_wide entry) n more rest
    → AreRows false (suc n) rows (front ++ rest)
behind_entry n entry rows more front rest spells is others = record {
  entries = entry ∷ others.entries;
  fits = (spells.fits, others.fits);
  whole = ap (λ (t : List ℕ). t ++ rest) spells.whole
      ∙ ap (λ (t : List ℕ). entry_bytes entry ++ t) others.whole;
  are = sym is ∙ ap (λ (rs : List Row). row_of entry ∷ rs) others.are
      ∙ rows_cons entry others.entries;
  count = ap length (sym is) ∙ ap suc others.count;
}

none_left : (n : ℕ) → false ≡ true → 1 ≤ n
none_left n e = absurd (true≢false (sym e))

to_rows : (is_second : Bool) (n : ℕ) (rows : List Row) (text : List ℕ)
    → (is_second ≡ true → 1 ≤ n)
    → RowsSpell is_second n rows text
    → AreRows is_second n rows text
to_rows true zero rows text some s = absurd (let h : 1 ≤ 0 = some refl in omega arith)
to_rows false zero rows text some s =
    subst (λ (rs : List Row). AreRows false 0 rs text) s.0 (record {
      entries = [];
      fits = tt;
      whole = s.1;
      are = refl;
      count = refl;
    })
to_rows true (suc n) rows text some s =
    by s.first (to_rows false n s.second.item s.rest (none_left n))
  where
    by : RowSpells true n s.item s.front
        → (RowsSpell false n s.second.item s.rest → AreRows false n s.second.item s.rest)
        → AreRows true (suc n) rows text
    by (inr b) more = absurd (true≢false b.0)
    by (inl g) more =
        let row_is : UnreadRow ≡ s.item = g.1.0 in
        let behind : RowsSpell false n s.second.item s.rest =
        subst (λ (row : Row). RowsSpell (is_wide_row row) n s.second.item s.rest) (sym row_is)
        s.second.spells in
        let is : UnreadRow ∷ s.second.item ≡ rows =
        ap (λ (row : Row). row ∷ s.second.item) row_is ∙ s.second.is in
        subst (λ (t : List ℕ). AreRows true (suc n) rows t) (sym (joined s g.1.1 refl))
        (behind_second n rows s.second.item s.rest is (more behind))
to_rows false (suc n) rows text some s =
    by s.first (λ w left. to_rows w n s.second.item s.rest left)
  where
    by : RowSpells false n s.item s.front
        → ((w : Bool)
        → (w ≡ true → 1 ≤ n)
        → RowsSpell w n s.second.item s.rest
        → AreRows w n s.second.item s.rest)
        → AreRows false (suc n) rows text
    by (inl g) more = absurd (true≢false (sym g.0))
    by (inr m) more =
        let entry = m.1.item in
        let row_is : row_of entry ≡ s.item = m.1.is in
        let behind : RowsSpell (is_wide_row (row_of entry)) n s.second.item s.rest =
        subst (λ (row : Row). RowsSpell (is_wide_row row) n s.second.item s.rest) (sym row_is)
        s.second.spells in
        let known : RowsSpell (is_wide entry) n s.second.item s.rest =
        subst (λ (w : Bool). RowsSpell w n s.second.item s.rest) (wide_is entry) behind in
        let is : row_of entry ∷ s.second.item ≡ rows =
        ap (λ (row : Row). row ∷ s.second.item) row_is ∙ s.second.is in
        subst (λ (t : List ℕ). AreRows false (suc n) rows t) (sym s.whole)
        (behind_entry n entry rows s.second.item s.front s.rest m.1.spells is
        (more (is_wide entry) m.1.spells.second known))

one_more : (entry : Entry) (n : ℕ) (rows : List Row) (text : List ℕ)
    → EntryFits entry
    → (is_wide entry ≡ true → 1 ≤ n)
    → RowsSpell (is_wide entry) n rows text
    → RowsSpell false (suc n) (row_of entry ∷ rows) (entry_bytes entry ++ text)
one_more entry n rows text fits second s = record {
  item = row_of entry;
  front = entry_bytes entry;
  rest = text;
  whole = refl;
  first = inr (
    refl,
    record {
      item = entry;
      is = refl;
      spells = record { fits = fits; whole = refl; second = second };
    },
  );
  second = record {
    item = rows;
    is = refl;
    spells = subst (λ (w : Bool). RowsSpell w n rows text) (sym (wide_is entry)) s;
  };
}

-- with the second number of an entry in front
of_second : (w : Bool) (rows : List Row) (text : List ℕ)
    → RowsSpell false (length rows) rows text
    → RowsSpell w (length (second_rows w rows)) (second_rows w rows) text
of_second false rows text s = s
of_second true rows text s = record {
  item = UnreadRow;
  front = [];
  rest = text;
  whole = refl;
  first = inl (refl, (refl, refl));
  second = record { item = rows; is = refl; spells = s };
}

has_second : (w : Bool) (rows : List Row) → w ≡ true → 1 ≤ length (second_rows w rows)
has_second true rows e = omega arith
has_second false rows e = absurd (true≢false (sym e))

from_rows : (entries : List Entry)
    → AllByRecursion EntryFits entries
    → RowsSpell false (length (rows_of entries)) (rows_of entries) (flat_map entry_bytes entries)
from_rows [] fits = (refl, refl)
from_rows (entry ∷ entries) fits =
    let rows = rows_of entries in
    let text = flat_map entry_bytes entries in
    let wide = is_wide entry in
    let behind = of_second wide rows text (from_rows entries fits.1) in
    subst
    (λ (rs : List Row). RowsSpell false (length rs) rs (entry_bytes entry ++ text))
    (rows_cons entry entries)
    (one_more entry (length (second_rows wide rows)) (second_rows wide rows) text fits.0
    (has_second wide rows) behind)

-- ---- the pool

pub record PoolSpells (pool : List Entry) (text : List ℕ) : Type 0 where
  pub count : length (numbered pool) + 1 < 2 ^ 16
  pub entries : AllByRecursion EntryFits pool
  pub whole : text ≡ to_be_bytes w16 (length (numbered pool) + 1) ++ flat_map entry_bytes pool

abbrev PoolParts : List Row → List ℕ → Type 0
PoolParts =
    Then (NumberSpells w16 (2 ^ 16)) (λ count.
    Either (eqb count 0) Never (RowsSpell false (count - 1)))

to_pool : (rows : List Row) (text : List ℕ) → PoolParts rows text
    → Made rows_of PoolSpells rows text
to_pool rows text s = by s.second
  where
    by : Either (eqb s.item 0) Never (RowsSpell false (s.item - 1)) rows s.rest
        → Made rows_of PoolSpells rows text
    by (inl z) = absurd z.1
    by (inr (some, spelled)) =
        let r = to_rows false (s.item - 1) rows s.rest (none_left (s.item - 1)) spelled in
        let numbers : length (rows_of r.entries) ≡ length (numbered r.entries) =
        length-map (numbered r.entries) slot_row in
        let as_many : length (rows_of r.entries) ≡ s.item - 1 = ap length (sym r.are) ∙ r.count in
        let count : s.item ≡ length (numbered r.entries) + 1 =
        omega (arith, numbers, as_many, eqb-false s.item 0 some) in
        record {
          item = r.entries;
          is = sym r.are;
          spells = record {
            count = omega (arith, s.first.0, count);
            entries = r.fits;
            whole = joined s (s.first.1 ∙ ap (to_be_bytes w16) count) r.whole;
          };
        }

is_counted : (n : ℕ) → eqb (n + 1) 0 ≡ false
is_counted n = by (eqb (n + 1) 0) refl
  where
    by : (b : Bool) → eqb (n + 1) 0 ≡ b → eqb (n + 1) 0 ≡ false
    by true e = absurd (omega (arith, eqb-true (n + 1) 0 e))
    by false e = e

from_pool : (rows : List Row) (text : List ℕ) → Made rows_of PoolSpells rows text
    → PoolParts rows text
from_pool rows text m = subst (λ (rs : List Row). PoolParts rs text) m.is (record {
  item = length (numbered m.item) + 1;
  front = to_be_bytes w16 (length (numbered m.item) + 1);
  rest = flat_map entry_bytes m.item;
  whole = m.spells.whole;
  first = (m.spells.count, refl);
  second = inr (is_counted (length (numbered m.item)), spelled);
})
  where
    count : length (rows_of m.item) ≡ length (numbered m.item) + 1 - 1
    count = omega (arith, length-map (numbered m.item) slot_row)

    spelled : RowsSpell false (length (numbered m.item) + 1 - 1) (rows_of m.item)
        (flat_map entry_bytes m.item)
    spelled =
        subst (λ (n : ℕ). RowsSpell false n (rows_of m.item) (flat_map entry_bytes m.item)) count
        (from_rows m.item m.spells.entries)

pub reads_pool : Reads pool_at (Made rows_of PoolSpells)
unfolding pool_at
reads_pool =
    reads_as (Made rows_of PoolSpells)
    (reads_then
    (λ begun count rest. cond (eqb count 0) (Err (told begun F5)) (rows_at false (count - 1) rest))
    reads_u16
    (λ begun count.
    reads_if (eqb count 0) (reads_never (λ p. told begun F5)) (reads_rows false (count - 1))))
    to_pool
    from_pool
