-- Numbers and pieces of bytes.
use Rattle.std.proofs.Common.{◌≡◌, ℕ, suc, ◌+◌, ◌-◌, ◌^◌, ◌<◌, ◌≤◌, Bool, true, false, cond, ltb}
use Rattle.std.proofs.Common.{List}
use Rattle.std.proofs.Common.{[], ◌∷◌, ◌++◌, length, take, drop, Ok, Err, refl, sym, ap, subst}
use Rattle.std.proofs.Common.{◌∙◌, arith, inl, inr}
use Rattle.std.specs.Int.{Width, w8, w16, w32, w64, byte_len, from_be_bytes, to_be_bytes}
use Rattle.std.proofs.lemmas.Bool.{cases_lt, ltb-false, le-ltb}
use Rattle.std.proofs.lemmas.List.{take_at, drop_at, take-append-drop, length-append, length-take}
use Rattle.std.proofs.lemmas.List.{get_or-drop, get_or-take, get_or_past}
use Rattle.std.proofs.lemmas.Nat.{be_bytes_2, be_bytes_4, be_bytes_8}
use Rattle.std.proofs.lemmas.Nat.{from_be_bytes-to_be_bytes_2, from_be_bytes-to_be_bytes_4}
use Rattle.std.proofs.lemmas.Nat.{from_be_bytes-to_be_bytes_8}
use Rattle.class_desc.specs.Items.{CountedSpells}
use Rattle.class_desc.specs.Texts.{total}
use Rattle.pool_reader.specs.declared.fault.ClassFault.{ClassFault}
use Rattle.pool_reader.specs.declared.fault.ClassKind.TheVariants.{F13}
use Rattle.pool_reader.specs.Reading.{◌>>=◌, Position, leaving, left_with, Read, fault_at, cut}
use Rattle.pool_reader.specs.Reading.{number_at, piece_at, spent_at, times}
use Rattle.pool_reader.proofs.Laws.{IsBytes, Takes, Weighs, Reads, Plainly, reads_plainly, ok_is}
use Rattle.pool_reader.proofs.Laws.{reads_as, Given, Then, joined, reads_then}
use Rattle.pool_reader.proofs.Laws.{Several, weighs_times}

IsBytes-drop : (n : ℕ) (bytes : List ℕ) → IsBytes bytes → IsBytes (drop n bytes)
IsBytes-drop n bytes h i = rw get_or-drop (h (n + i))

pub IsBytes-take : (n : ℕ) (bytes : List ℕ) → IsBytes bytes → IsBytes (take n bytes)
IsBytes-take n bytes h i =
    elim (cases_lt i n) [
      | inl lt ↦ rw (get_or-take n bytes i 0 lt) (h i)
      | inr le ↦ rw (get_or_past (take n bytes) i 0 (omega (arith, length-take n bytes)))
          (omega arith)
    ]

-- a test that did not fail
pub guard_ok : {A : Type 0} (b : Bool) (d : ClassFault) (x y : A)
    → cond b (Err d) (Ok x) ≡ Ok y
    → (b ≡ false) × (x ≡ y)
guard_ok true d x y e = absurd cc
guard_ok false d x y e = (refl, cc)

-- ---- numbers

-- numbers of this width are those below the limit, and each has one text
pub record IsWide (w : Width) (limit : ℕ) : Type 0 where
  pub len : (n : ℕ) → length (to_be_bytes w n) ≡ byte_len w
  pub back : (bytes : List ℕ)
      → length bytes ≡ byte_len w
      → IsBytes bytes
      → to_be_bytes w (from_be_bytes w bytes) ≡ bytes
  pub again : (n : ℕ) → n < limit → from_be_bytes w (to_be_bytes w n) ≡ n
  pub below : (bytes : List ℕ) → IsBytes bytes → from_be_bytes w bytes < limit

pub wide16 : IsWide w16 (2 ^ 16)
wide16 = record {
  len = λ n. refl;
  back = λ bytes len fits. be_bytes_2 bytes _ len fits refl;
  again = λ n lt. from_be_bytes-to_be_bytes_2 n lt;
  below = λ bytes fits. omega (arith, fits 0, fits 1);
}

pub wide32 : IsWide w32 (2 ^ 32)
wide32 = record {
  len = λ n. refl;
  back = λ bytes len fits. be_bytes_4 bytes _ len fits refl;
  again = λ n lt. from_be_bytes-to_be_bytes_4 n lt;
  below = λ bytes fits. omega (arith, fits 0, fits 1, fits 2, fits 3);
}

pub wide64 : IsWide w64 (2 ^ 64)
wide64 = record {
  len = λ n. refl;
  back = λ bytes len fits. be_bytes_8 bytes _ len fits refl;
  again = λ n lt. from_be_bytes-to_be_bytes_8 n lt;
  below = λ bytes fits.
      omega (arith, fits 0, fits 1, fits 2, fits 3, fits 4, fits 5, fits 6, fits 7);
}

abbrev pub NumberSpells : Width → ℕ → ℕ → List ℕ → Type 0
NumberSpells w limit n text = (n < limit) × (text ≡ to_be_bytes w n)

module _ (w : Width) (limit : ℕ) (wide : IsWide w limit) where
  number_takes : (p : Position) (n : ℕ) (left : Position)
      → IsBytes p.rest
      → number_at w p ≡ Ok (n, left)
      → Plainly (NumberSpells w limit) p n left
  number_takes p n left fits e =
      let bytes = p.rest in
      let front = take (byte_len w) bytes in
      let behind = leaving p (drop (byte_len w) bytes) in
      let g = guard_ok (ltb (length bytes) (byte_len w)) (cut p) (from_be_bytes w front, behind)
      (n, left) e in
      let long : byte_len w ≤ length bytes = ltb-false _ _ g.0 in
      let n_is : from_be_bytes w front ≡ n = ap (λ (x : ℕ × Position). x.0) g.1 in
      let left_is : behind ≡ left = ap (λ (x : ℕ × Position). x.1) g.1 in
      let front_len : length front ≡ byte_len w = omega (arith, length-take (byte_len w) bytes) in
      let front_fits = IsBytes-take (byte_len w) bytes fits in
      let front_is : to_be_bytes w n ≡ front =
      ap (to_be_bytes w) (sym n_is) ∙ wide.back front front_len front_fits in
      let fits_limit : n < limit = subst (λ (k : ℕ). k < limit) n_is
      (wide.below front front_fits) in
      subst (λ (q : Position). Plainly (NumberSpells w limit) p n q) left_is (record {
        text = to_be_bytes w n;
        parts = sym (take-append-drop (byte_len w) bytes)
            ∙ ap (λ (t : List ℕ). t ++ drop (byte_len w) bytes) (sym front_is);
        stays = refl;
        left_fits = IsBytes-drop (byte_len w) bytes fits;
        spells = (fits_limit, refl);
      })

  number_again : (p : Position) (n : ℕ) (left : List ℕ)
      → n < limit
      → number_at w (leaving p (to_be_bytes w n ++ left)) ≡ Ok (n, leaving p left)
  number_again p n left lt =
      let len = wide.len n in
      let long : ltb (length (to_be_bytes w n ++ left)) (byte_len w) ≡ false =
      le-ltb _ _ (omega (arith, length-append (to_be_bytes w n) left)) in
      rw (
        long,
        take_at (to_be_bytes w n) left (byte_len w) len,
        drop_at (to_be_bytes w n) left (byte_len w) len,
        wide.again n lt,
      ) refl

  pub reads_number : Reads (number_at w) (NumberSpells w limit)
  reads_number =
      reads_plainly number_takes
      (λ p n text left s.
      ap (λ (t : List ℕ). number_at w (leaving p (t ++ left))) s.1 ∙ number_again p n left s.0)

pub reads_u16 : Reads (number_at w16) (NumberSpells w16 (2 ^ 16))
reads_u16 = reads_number w16 (2 ^ 16) wide16

pub reads_u32 : Reads (number_at w32) (NumberSpells w32 (2 ^ 32))
reads_u32 = reads_number w32 (2 ^ 32) wide32

pub reads_u64 : Reads (number_at w64) (NumberSpells w64 (2 ^ 64))
reads_u64 = reads_number w64 (2 ^ 64) wide64

-- ---- a byte

abbrev pub ByteSpells : ℕ → List ℕ → Type 0
ByteSpells b text = text ≡ b ∷ []

byte_takes : (p : Position) (b : ℕ) (left : Position)
    → IsBytes p.rest
    → number_at w8 p ≡ Ok (b, left)
    → Plainly ByteSpells p b left
byte_takes p b left fits e =
    let behind = leaving p (drop 1 p.rest) in
    let g = guard_ok (ltb (length p.rest) 1) (cut p) (from_be_bytes w8 (take 1 p.rest), behind)
    (b, left) e in
    subst (λ (q : Position). Plainly ByteSpells p b q) (ap (λ (x : ℕ × Position). x.1) g.1)
    (by p.rest (ltb-false _ _ g.0) fits (ap (λ (x : ℕ × Position). x.0) g.1))
  where
    by : (bytes : List ℕ)
        → 1 ≤ length bytes
        → IsBytes bytes
        → from_be_bytes w8 (take 1 bytes) ≡ b
        → Plainly ByteSpells (leaving p bytes) b (leaving p (drop 1 bytes))
    by [] long fits is = absurd (omega arith)
    by (first ∷ bytes) long fits is =
        let one : from_be_bytes w8 (first ∷ []) ≡ first = omega arith in
        record {
          text = b ∷ [];
          parts = ap (λ k. k ∷ bytes) (sym one ∙ is);
          stays = refl;
          left_fits = λ i. fits (suc i);
          spells = refl;
        }

byte_again : (p : Position) (b : ℕ) (left : List ℕ)
    → number_at w8 (leaving p (b ∷ left)) ≡ Ok (b, leaving p left)
byte_again p b left =
    let long : ltb (length (b ∷ left)) 1 ≡ false = le-ltb _ _ (omega arith) in
    let one : from_be_bytes w8 (b ∷ []) ≡ b = omega arith in
    rw (long, one) refl

pub reads_byte : Reads (number_at w8) ByteSpells
reads_byte =
    reads_plainly byte_takes
    (λ p b text left s.
    ap (λ (t : List ℕ). number_at w8 (leaving p (t ++ left))) s ∙ byte_again p b left)

-- ---- a piece

abbrev pub PieceSpells : ℕ → List ℕ → List ℕ → Type 0
PieceSpells n piece text = (length piece ≡ n) × (text ≡ piece)

piece_takes : (n : ℕ) (p : Position) (piece : List ℕ) (left : Position)
    → IsBytes p.rest
    → piece_at n p ≡ Ok (piece, left)
    → Plainly (PieceSpells n) p piece left
piece_takes n p piece left fits e =
    let bytes = p.rest in
    let behind = leaving p (drop n bytes) in
    let g = guard_ok (ltb (length bytes) n) (cut p) (take n bytes, behind) (piece, left) e in
    let long : n ≤ length bytes = ltb-false _ _ g.0 in
    let len : length (take n bytes) ≡ n = omega (arith, length-take n bytes) in
    subst (λ (x : List ℕ × Position). Plainly (PieceSpells n) p x.0 x.1) g.1 (record {
      text = take n bytes;
      parts = sym (take-append-drop n bytes);
      stays = refl;
      left_fits = IsBytes-drop n bytes fits;
      spells = (len, refl);
    })

piece_again : (n : ℕ) (p : Position) (piece left : List ℕ)
    → length piece ≡ n
    → piece_at n (leaving p (piece ++ left)) ≡ Ok (piece, leaving p left)
piece_again n p piece left len =
    let long : ltb (length (piece ++ left)) n ≡ false =
    le-ltb _ _ (omega (arith, length-append piece left)) in
    rw (long, take_at piece left n len, drop_at piece left n len) refl

pub reads_piece : (n : ℕ) → Reads (piece_at n) (PieceSpells n)
reads_piece n =
    reads_plainly (piece_takes n)
    (λ p piece text left s.
    ap (λ (t : List ℕ). piece_at n (leaving p (t ++ left))) s.1 ∙ piece_again n p piece left s.0)

-- ---- room for texts

-- the room behind a text of as many bytes, by whether it is too long
abbrev room_by : ℕ → ℕ → Position → Bool → Read (Unit {0})
room_by at n p b = cond b (Err (fault_at at F13)) (Ok (tt, left_with p p.rest (p.spare - n)))

abbrev naming : {A : Type 0} → A → Read (Unit {0}) → Read A
naming item room = room >>= λ room. Ok (item, room.1)

named_takes : {A : Type 0} (weight : A → ℕ) (at : ℕ) (item : A) (p : Position) (made : A)
    (left : Position) (b : Bool)
    → IsBytes p.rest
    → ltb p.spare (weight item) ≡ b
    → naming item (room_by at (weight item) p b) ≡ Ok (made, left)
    → Takes 0 weight (Given item) p made left
named_takes weight at item p made left true fits is e = absurd cc
named_takes {A} weight at item p made left false fits is e =
    let enough : weight item ≤ p.spare = ltb-false _ _ is in
    let both = ok_is (item, left_with p p.rest (p.spare - weight item)) (made, left) e in
    let made_is : item ≡ made = ap (λ (x : A × Position). x.0) both in
    let left_is : left_with p p.rest (p.spare - weight item) ≡ left =
    ap (λ (x : A × Position). x.1) both in
    let weight_is : weight item ≡ weight made = ap weight made_is in
    subst (λ (q : Position). Takes 0 weight (Given item) p made q) left_is (record {
      text = [];
      parts = refl;
      stays = refl;
      spent = omega (arith, enough, weight_is);
      left_fits = fits;
      spells = (made_is, refl);
    })

-- an item that is named at this offset, and the room for its texts is gone
pub weighs_spent : {A : Type 0} (weight : A → ℕ) (at : ℕ) (item : A)
    → Weighs 0 weight (λ p. spent_at at (weight item) p >>= λ room. Ok (item, room.1)) (Given item)
unfolding spent_at
weighs_spent weight at item = record {
  takes = λ p made left fits e.
      named_takes weight at item p made left (ltb p.spare (weight item)) fits refl e;
  again = λ p made text left spare s spent.
      let weight_is : weight item ≡ weight made = ap weight s.0 in
      let enough : ltb p.spare (weight item) ≡ false =
      le-ltb _ _ (omega (arith, spent, weight_is)) in
      let rest : p.spare - weight item ≡ spare = omega (arith, spent, weight_is) in
      rw (s.1, enough, rest, s.0) refl;
  more = λ made text s. omega arith;
}

-- ---- items behind their count

abbrev pub counted : {A : Type 0} → (Position → Read A) → Position → Read (List A)
counted read p = number_at w16 p >>= λ count. times read count.0 count.1

to_counted : {A : Type 0} (Spells : A → List ℕ → Type 0) (items : List A) (text : List ℕ)
    → Then (NumberSpells w16 (2 ^ 16)) (Several Spells) items text
    → CountedSpells Spells items text
to_counted Spells items text s = record {
  rest = s.rest;
  count = omega (arith, s.first.0, s.second.length_is);
  whole = joined s (s.first.1 ∙ ap (to_be_bytes w16) (sym s.second.length_is)) refl;
  each = s.second.each;
}

from_counted : {A : Type 0} (Spells : A → List ℕ → Type 0) (items : List A) (text : List ℕ)
    → CountedSpells Spells items text
    → Then (NumberSpells w16 (2 ^ 16)) (Several Spells) items text
from_counted Spells items text s = record {
  item = length items;
  front = to_be_bytes w16 (length items);
  rest = s.rest;
  whole = s.whole;
  first = (s.count, refl);
  second = record { length_is = refl; each = s.each };
}

pub weighs_counted : {A : Type 0} {weight : A → ℕ} {read : Position → Read A}
    {Spells : A → List ℕ → Type 0}
    → Weighs 0 weight read Spells
    → Weighs 0 (total weight) (counted read) (CountedSpells Spells)
weighs_counted {read} {Spells} law =
    reads_as (CountedSpells Spells)
    (reads_then (λ begun count. times read count) reads_u16
    (λ begun count. weighs_times law count))
    (to_counted Spells)
    (from_counted Spells)
