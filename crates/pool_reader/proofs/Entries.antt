-- An entry of the pool, by what stands behind its tag.
use Rattle.std.proofs.Common.{◌≡◌, ℕ, ◌+◌, ◌^◌, ◌<◌, ◌≤◌, Bool, true, false, true≢false, eqb}
use Rattle.std.proofs.Common.{List, [], ◌∷◌, ◌++◌, length, take, drop, Option, Some, None, Ok}
use Rattle.std.proofs.Common.{refl, sym, ap, subst, ◌∙◌, arith, inl, inr}
use Rattle.std.specs.Prelude.{sum, option_map}
use Rattle.std.specs.Int.{Width, w16, w32, w64, to_be_bytes}
use Rattle.std.proofs.lemmas.Bool.{eqb-true, eqb-false}
use Rattle.std.proofs.lemmas.List.{nil_from_length, take-append-drop, length-append, length-take}
use Rattle.std.proofs.lemmas.List.{length-drop}
use Rattle.std.proofs.lemmas.List.Sums.{sum_by-cons}
use Rattle.class_desc.specs.Pool.{Entry, Utf8, Integer, Float, Long, Double, ClassRef, StringRef}
use Rattle.class_desc.specs.Pool.{Other}
use Rattle.class_desc.specs.Pool.{other_fields, other_length, entry_bytes, EntryFits, is_wide}
use Rattle.pool_reader.specs.declared.fault.ClassKind.TheVariants.{F4, F5}
use Rattle.pool_reader.specs.Reading.{◌>>=◌, offset, fault_at, piece_at}
use Rattle.pool_reader.specs.Pooled.{text_entry_at, wide_entry_at, fields_at}
use Rattle.pool_reader.specs.Pooled.{other_entry_at, behind_tag, entry_at}
use Rattle.pool_reader.proofs.Laws.{Reads, reads_as, Given, reads_given, Then, joined, reads_then}
use Rattle.pool_reader.proofs.Laws.{Either, reads_if, Never, reads_never, Made, reads_made}
use Rattle.pool_reader.proofs.Numbers.{NumberSpells, reads_u16, reads_u32, reads_u64}
use Rattle.pool_reader.proofs.Numbers.{ByteSpells, reads_byte, PieceSpells, reads_piece}

-- ---- a text

record TextEntry (entry : Entry) (text : List ℕ) : Type 0 where
  value : List ℕ
  is : Utf8 value ≡ entry
  fits : length value < 2 ^ 16
  whole : text ≡ to_be_bytes w16 (length value) ++ value

abbrev TextParts : Entry → List ℕ → Type 0
TextParts = Then (NumberSpells w16 (2 ^ 16)) (λ n. Made (λ text. Utf8 text) (PieceSpells n))

to_text : (entry : Entry) (text : List ℕ) → TextParts entry text → TextEntry entry text
to_text entry text s =
    let value = s.second.spells in
    let count : s.front ≡ to_be_bytes w16 (length s.second.item) =
    s.first.1 ∙ ap (to_be_bytes w16) (sym value.0) in
    record {
      value = s.second.item;
      is = s.second.is;
      fits = omega (arith, s.first.0, value.0);
      whole = joined s count value.1;
    }

from_text : (entry : Entry) (text : List ℕ) → TextEntry entry text → TextParts entry text
from_text entry text s = record {
  item = length s.value;
  front = to_be_bytes w16 (length s.value);
  rest = s.value;
  whole = s.whole;
  first = (s.fits, refl);
  second = record { item = s.value; is = s.is; spells = (refl, refl) };
}

reads_text_entry : Reads text_entry_at TextEntry
unfolding text_entry_at
reads_text_entry =
    reads_as TextEntry
    (reads_then (λ begun n rest. piece_at n rest >>= λ text. Ok (Utf8 text.0, text.1)) reads_u16
    (λ begun n. reads_made (λ text. Utf8 text) (reads_piece n)))
    to_text
    from_text

-- ---- fields of which nothing is kept

-- as many bytes as the fields have
abbrev FieldsSpell : List ℕ → List ℕ → List ℕ → Type 0
FieldsSpell sizes bytes text = (length bytes ≡ sum sizes) × (text ≡ bytes)

abbrev FieldsParts : ℕ → List ℕ → List ℕ → List ℕ → Type 0
FieldsParts n sizes =
    Then (PieceSpells n) (λ field. Made (λ fields. field ++ fields) (FieldsSpell sizes))

no_fields : (bytes text : List ℕ) → FieldsSpell [] bytes text → Given [] bytes text
no_fields bytes text s = let none = nil_from_length bytes s.0 in (sym none, s.1 ∙ none)

given_fields : (bytes text : List ℕ) → Given [] bytes text → FieldsSpell [] bytes text
given_fields bytes text g = (sym (ap length g.0), g.1 ∙ g.0)

to_fields : (n : ℕ) (sizes bytes text : List ℕ)
    → FieldsParts n sizes bytes text
    → FieldsSpell (n ∷ sizes) bytes text
to_fields n sizes bytes text s =
    let field = s.item in
    let fields = s.second.item in
    let more = s.second.spells in
    let is : field ++ fields ≡ bytes = s.second.is in
    let all : length field + length fields ≡ length bytes =
    sym (length-append field fields) ∙ ap length is in
    let sums : sum (n ∷ sizes) ≡ n + sum sizes = sum_by-cons (λ x. x) n sizes in (
      omega (arith, all, sums, s.first.0, more.0),
      joined s s.first.1 more.1 ∙ is,
    )

from_fields : (n : ℕ) (sizes bytes text : List ℕ)
    → FieldsSpell (n ∷ sizes) bytes text
    → FieldsParts n sizes bytes text
from_fields n sizes bytes text s =
    let sums : sum (n ∷ sizes) ≡ n + sum sizes = sum_by-cons (λ x. x) n sizes in
    record {
      item = take n bytes;
      front = take n bytes;
      rest = drop n bytes;
      whole = s.1 ∙ sym (take-append-drop n bytes);
      first = (omega (arith, sums, s.0, length-take n bytes), refl);
      second = record {
        item = drop n bytes;
        is = take-append-drop n bytes;
        spells = (omega (arith, sums, s.0, length-drop n bytes), refl);
      };
    }

reads_fields : (sizes : List ℕ) → Reads (fields_at sizes) (FieldsSpell sizes)
unfolding fields_at
reads_fields [] = reads_as (FieldsSpell []) (reads_given []) given_fields no_fields
reads_fields (n ∷ sizes) =
    reads_as (FieldsSpell (n ∷ sizes))
    (reads_then
    (λ begun field rest. fields_at sizes rest >>= λ fields. Ok (field ++ fields.0, fields.1))
    (reads_piece n)
    (λ begun field. reads_made (λ fields. field ++ fields) (reads_fields sizes)))
    (to_fields n sizes)
    (from_fields n sizes)

record OtherEntry (tag : ℕ) (sizes : Option (List ℕ)) (entry : Entry) (text : List ℕ) : Type 0
  where
    value : List ℕ
    is : Other tag value ≡ entry
    fits : option_map sum sizes ≡ Some (length value)
    whole : text ≡ value

reads_other : (tag : ℕ) (sizes : Option (List ℕ)) (tag_at : ℕ)
    → Reads (other_entry_at tag sizes tag_at) (OtherEntry tag sizes)
reads_other tag None tag_at =
    reads_as (OtherEntry tag None) (reads_never (λ p. fault_at tag_at F4))
    (λ entry text s. absurd s)
    (λ entry text s. absurd (let h = s.fits in cc))
reads_other tag (Some sizes) tag_at =
    reads_as (OtherEntry tag (Some sizes)) (reads_made (λ b. Other tag b) (reads_fields sizes))
    (λ entry text s. record {
      value = s.item;
      is = s.is;
      fits = ap (λ (k : ℕ). Some k) (sym s.spells.0);
      whole = s.spells.1;
    })
    (λ entry text s. record {
      item = s.value;
      is = s.is;
      spells = (some_is _ _ (sym s.fits), s.whole);
    })
  where
    some_is : (m n : ℕ) → Some m ≡ Some n → m ≡ n
    some_is m n e = cc

-- ---- an entry

-- an entry, where as many numbers are left behind its first
pub record EntrySpells (behind : ℕ) (entry : Entry) (text : List ℕ) : Type 0 where
  pub fits : EntryFits entry
  pub whole : text ≡ entry_bytes entry
  pub second : is_wide entry ≡ true → 1 ≤ behind

abbrev OfNumber : (ℕ → Entry) → Width → ℕ → Entry → List ℕ → Type 0
OfNumber make w limit = Made (λ n. make n) (NumberSpells w limit)

abbrev Wide : (ℕ → Entry) → ℕ → Entry → List ℕ → Type 0
Wide make behind = Either (eqb behind 0) Never (OfNumber make w64 (2 ^ 64))

reads_wide : (make : ℕ → Entry) (behind tag_at : ℕ)
    → Reads (wide_entry_at make behind tag_at) (Wide make behind)
reads_wide make behind tag_at =
    reads_if (eqb behind 0) (reads_never (λ p. fault_at tag_at F5))
    (reads_made (λ n. make n) reads_u64)

abbrev BehindTag : ℕ → ℕ → Entry → List ℕ → Type 0
BehindTag behind tag =
    Either (eqb tag 1) TextEntry
    (Either (eqb tag 3) (OfNumber Integer w32 (2 ^ 32))
    (Either (eqb tag 4) (OfNumber Float w32 (2 ^ 32))
    (Either (eqb tag 5) (Wide Long behind)
    (Either (eqb tag 6) (Wide Double behind)
    (Either (eqb tag 7) (OfNumber ClassRef w16 (2 ^ 16))
    (Either (eqb tag 8) (OfNumber StringRef w16 (2 ^ 16))
    (OtherEntry tag (other_fields tag))))))))

reads_behind : (behind tag tag_at : ℕ)
    → Reads (behind_tag behind tag tag_at) (BehindTag behind tag)
unfolding behind_tag
reads_behind behind tag tag_at =
    reads_if (eqb tag 1) reads_text_entry
    (reads_if (eqb tag 3) (reads_made (λ n. Integer n) reads_u32)
    (reads_if (eqb tag 4) (reads_made (λ n. Float n) reads_u32)
    (reads_if (eqb tag 5) (reads_wide Long behind tag_at)
    (reads_if (eqb tag 6) (reads_wide Double behind tag_at)
    (reads_if (eqb tag 7) (reads_made (λ n. ClassRef n) reads_u16)
    (reads_if (eqb tag 8) (reads_made (λ n. StringRef n) reads_u16)
    (reads_other tag (other_fields tag) tag_at)))))))

-- an entry of a tag, made of a number
record IsMade (behind tag : ℕ) (make : ℕ → Entry) (w : Width) (limit : ℕ) : Type 0 where
  fits : (n : ℕ) → n < limit → EntryFits (make n)
  bytes : (n : ℕ) → entry_bytes (make n) ≡ tag ∷ to_be_bytes w n
  second : (n : ℕ) → is_wide (make n) ≡ true → 1 ≤ behind

of_number : (behind kind : ℕ) (make : ℕ → Entry) (w : Width) (limit tag : ℕ) (rest : List ℕ)
    (entry : Entry) (text : List ℕ)
    → IsMade behind kind make w limit
    → text ≡ tag ∷ rest
    → eqb tag kind ≡ true
    → OfNumber make w limit entry rest
    → EntrySpells behind entry text
of_number behind kind make w limit tag rest entry text made e is m =
    subst (λ x. EntrySpells behind x text) m.is (record {
      fits = made.fits m.item m.spells.0;
      whole = e ∙ ap (λ k. k ∷ rest) (eqb-true tag kind is)
          ∙ ap (λ (r : List ℕ). kind ∷ r) m.spells.1 ∙ sym (made.bytes m.item);
      second = made.second m.item;
    })

narrow : (behind : ℕ) → false ≡ true → 1 ≤ behind
narrow behind e = absurd (true≢false (sym e))

left_over : (behind : ℕ) → eqb behind 0 ≡ false → 1 ≤ behind
left_over behind e = omega (arith, eqb-false behind 0 e)

to_entry : (behind : ℕ) (entry : Entry) (text : List ℕ)
    → Then ByteSpells (BehindTag behind) entry text
    → EntrySpells behind entry text
to_entry behind entry text s = by s.item s.rest (joined s s.first refl) s.second
  where
    by : (tag : ℕ) (rest : List ℕ)
        → text ≡ tag ∷ rest
        → BehindTag behind tag entry rest
        → EntrySpells behind entry text
    by tag rest e (inl (is, t)) = subst (λ x. EntrySpells behind x text) t.is (record {
      fits = t.fits;
      whole = e ∙ ap (λ k. k ∷ rest) (eqb-true tag 1 is) ∙ ap (λ (r : List ℕ). 1 ∷ r) t.whole;
      second = narrow behind;
    })
    by tag rest e (inr (_, inl (is, m))) =
        of_number behind 3 Integer w32 (2 ^ 32) tag rest entry text
        (record { fits = λ n lt. lt; bytes = λ n. refl; second = λ n. narrow behind }) e is m
    by tag rest e (inr (_, inr (_, inl (is, m)))) =
        of_number behind 4 Float w32 (2 ^ 32) tag rest entry text
        (record { fits = λ n lt. lt; bytes = λ n. refl; second = λ n. narrow behind }) e is m
    by tag rest e (inr (_, inr (_, inr (_, inl (is, inl n))))) = absurd n.1
    by tag rest e (inr (_, inr (_, inr (_, inl (is, inr (some, m)))))) =
        of_number behind 5 Long w64 (2 ^ 64) tag rest entry text
        (record {
          fits = λ n lt. lt;
          bytes = λ n. refl;
          second = λ n wide. left_over behind some;
        }) e is m
    by tag rest e (inr (_, inr (_, inr (_, inr (_, inl (is, inl n)))))) = absurd n.1
    by tag rest e (inr (_, inr (_, inr (_, inr (_, inl (is, inr (some, m))))))) =
        of_number behind 6 Double w64 (2 ^ 64) tag rest entry text
        (record {
          fits = λ n lt. lt;
          bytes = λ n. refl;
          second = λ n wide. left_over behind some;
        }) e is m
    by tag rest e (inr (_, inr (_, inr (_, inr (_, inr (_, inl (is, m))))))) =
        of_number behind 7 ClassRef w16 (2 ^ 16) tag rest entry text
        (record { fits = λ n lt. lt; bytes = λ n. refl; second = λ n. narrow behind }) e is m
    by tag rest e (inr (_, inr (_, inr (_, inr (_, inr (_, inr (_, inl (is, m)))))))) =
        of_number behind 8 StringRef w16 (2 ^ 16) tag rest entry text
        (record { fits = λ n lt. lt; bytes = λ n. refl; second = λ n. narrow behind }) e is m
    by tag rest e (inr (_, inr (_, inr (_, inr (_, inr (_, inr (_, inr (_, o)))))))) =
        subst (λ x. EntrySpells behind x text) o.is (record {
          fits = o.fits;
          whole = e ∙ ap (λ (r : List ℕ). tag ∷ r) o.whole;
          second = narrow behind;
        })

-- no other entry has the tag of one of the others
other_tag : (tag kind n : ℕ)
    → other_length tag ≡ Some n
    → other_length kind ≡ None
    → eqb tag kind ≡ false
other_tag tag kind n some none = by (eqb tag kind) refl
  where
    by : (b : Bool) → eqb tag kind ≡ b → eqb tag kind ≡ false
    by true e =
        absurd (let h : other_length tag ≡ None = ap other_length (eqb-true tag kind e)
        ∙ none in cc)
    by false e = e

is_some : (behind : ℕ) → 1 ≤ behind → eqb behind 0 ≡ false
is_some behind some = by (eqb behind 0) refl
  where
    by : (b : Bool) → eqb behind 0 ≡ b → eqb behind 0 ≡ false
    by true e = absurd (omega (arith, eqb-true behind 0 e))
    by false e = e

-- the tag, and what stands behind it
tagged : (behind tag : ℕ) (entry : Entry) (text rest : List ℕ)
    → text ≡ tag ∷ rest
    → BehindTag behind tag entry rest
    → Then ByteSpells (BehindTag behind) entry text
tagged behind tag entry text rest whole second = record {
  item = tag;
  front = tag ∷ [];
  rest = rest;
  whole = whole;
  first = refl;
  second = second;
}

from_entry : (behind : ℕ) (entry : Entry) (text : List ℕ)
    → EntrySpells behind entry text
    → Then ByteSpells (BehindTag behind) entry text
from_entry behind (Utf8 value) text s =
    tagged behind 1 (Utf8 value) text (to_be_bytes w16 (length value) ++ value) s.whole
    (inl (refl, record { value = value; is = refl; fits = s.fits; whole = refl }))
from_entry behind (Integer bits) text s =
    tagged behind 3 (Integer bits) text (to_be_bytes w32 bits) s.whole
    (inr (refl, inl (refl, record { item = bits; is = refl; spells = (s.fits, refl) })))
from_entry behind (Float bits) text s =
    let made : OfNumber Float w32 (2 ^ 32) (Float bits) (to_be_bytes w32 bits) =
    record { item = bits; is = refl; spells = (s.fits, refl) } in
    tagged behind 4 (Float bits) text (to_be_bytes w32 bits) s.whole
    (inr (refl, inr (refl, inl (refl, made))))
from_entry behind (Long bits) text s =
    let made : OfNumber Long w64 (2 ^ 64) (Long bits) (to_be_bytes w64 bits) =
    record { item = bits; is = refl; spells = (s.fits, refl) } in
    tagged behind 5 (Long bits) text (to_be_bytes w64 bits) s.whole
    (inr (refl, inr (refl, inr (refl, inl (refl, inr (is_some behind (s.second refl), made))))))
from_entry behind (Double bits) text s =
    let made : OfNumber Double w64 (2 ^ 64) (Double bits) (to_be_bytes w64 bits) =
    record { item = bits; is = refl; spells = (s.fits, refl) } in
    let wide : Wide Double behind (Double bits) (to_be_bytes w64 bits) =
    inr (is_some behind (s.second refl), made) in
    tagged behind 6 (Double bits) text (to_be_bytes w64 bits) s.whole
    (inr (refl, inr (refl, inr (refl, inr (refl, inl (refl, wide))))))
from_entry behind (ClassRef n) text s =
    let made : OfNumber ClassRef w16 (2 ^ 16) (ClassRef n) (to_be_bytes w16 n) =
    record { item = n; is = refl; spells = (s.fits, refl) } in
    tagged behind 7 (ClassRef n) text (to_be_bytes w16 n) s.whole
    (inr (refl, inr (refl, inr (refl, inr (refl, inr (refl, inl (refl, made)))))))
from_entry behind (StringRef n) text s =
    let made : OfNumber StringRef w16 (2 ^ 16) (StringRef n) (to_be_bytes w16 n) =
    record { item = n; is = refl; spells = (s.fits, refl) } in
    tagged behind 8 (StringRef n) text (to_be_bytes w16 n) s.whole
    (inr (refl, inr (refl, inr (refl, inr (refl, inr (refl, inr (refl, inl (refl, made))))))))
from_entry behind (Other tag value) text s =
    let other : OtherEntry tag (other_fields tag) (Other tag value) value =
    record { value = value; is = refl; fits = s.fits; whole = refl } in
    let is_not : (kind : ℕ) → other_length kind ≡ None → eqb tag kind ≡ false =
    λ kind none. other_tag tag kind (length value) s.fits none in
    tagged behind tag (Other tag value) text value s.whole
    (inr (
      is_not 1 refl,
      inr (
        is_not 3 refl,
        inr (
          is_not 4 refl,
          inr (
            is_not 5 refl,
            inr (is_not 6 refl, inr (is_not 7 refl, inr (is_not 8 refl, other))),
          ),
        ),
      ),
    ))

pub reads_entry : (behind : ℕ) → Reads (entry_at behind) (EntrySpells behind)
unfolding entry_at
reads_entry behind =
    reads_as (EntrySpells behind)
    (reads_then (λ begun tag rest. behind_tag behind tag (offset begun) rest) reads_byte
    (λ begun tag. reads_behind behind tag (offset begun)))
    (to_entry behind)
    (from_entry behind)
