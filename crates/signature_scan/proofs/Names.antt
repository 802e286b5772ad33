-- Identifiers and binary names as languages.
use Rattle.std.proofs.Common.{◌≡◌, ◌↔◌, ◌⊎◌, inl, inr, refl, sym, ap, ◌∙◌, subst, ℕ, Bool, true}
use Rattle.std.proofs.Common.{false, not, ◌&&◌, ◌==◌, eqb-true, eq-eqb, List, [], ◌∷◌, ◌++◌}
use Rattle.std.proofs.Common.{length}
use Rattle.std.specs.List.{list_all, slice_split, onto_first}
use Rattle.std.proofs.Math.Dec.{eqb-suc-zero}
use Rattle.std.proofs.lemmas.Bool.{false≢true}
use Rattle.std.proofs.lemmas.List.Splits.{slice_split-cons_yes, slice_split-cons_no}
use Rattle.java_names.specs.Names.{is_identifier, is_binary_name}
use Rattle.signature_scan.specs.Machine.{is_name_byte}
use Rattle.signature_scan.proofs.Conjunctions.{and_true}
use Rattle.signature_scan.proofs.Languages.{same, and_then, turned, either, pair, Cat, cat_empty}
use Rattle.signature_scan.proofs.Languages.{cat_assoc, Star, star_none, star_more, star_step}
use Rattle.signature_scan.proofs.Languages.{star_begins, only_right, only_left, known, same_test}
use Rattle.signature_scan.proofs.Expressions.{Byte, NameByte, Both, Words, IsNameByte, names}
use Rattle.signature_scan.proofs.Expressions.{slashes}

-- ---- a byte in front

pub name_cons : (K : List ℕ → Type 0) (b : ℕ) (w : List ℕ) → Cat IsNameByte K (b ∷ w)
    ↔ ((is_name_byte b ≡ true) × K w)
name_cons K b w = (
  to,
  λ p. record {
    front = b ∷ [];
    rest = w;
    whole = refl;
    first = record { byte = b; is = p.0; text = refl };
    second = p.1;
  },
)
  where
    to : Cat IsNameByte K (b ∷ w) → (is_name_byte b ≡ true) × K w
    to c =
        let e : b ∷ w ≡ c.first.byte ∷ c.rest = c.whole
        ∙ ap (λ (v : List ℕ). v ++ c.rest) c.first.text in
        let head : c.first.byte ≡ b = cc in
        let tail : c.rest ≡ w = cc in
        (subst (λ d. is_name_byte d ≡ true) head c.first.is, subst K tail c.second)

pub byte_cons : (n : ℕ) (K : List ℕ → Type 0) (b : ℕ) (w : List ℕ) → Cat (Words (Byte n)) K (b ∷ w)
    ↔ ((b ≡ n) × K w)
byte_cons n K b w = (
  to,
  λ p. record {
    front = n ∷ [];
    rest = w;
    whole = ap (λ (c : ℕ). c ∷ w) p.0;
    first = refl;
    second = p.1;
  },
)
  where
    to : Cat (Words (Byte n)) K (b ∷ w) → (b ≡ n) × K w
    to c =
        let e : b ∷ w ≡ n ∷ c.rest = c.whole ∙ ap (λ (v : List ℕ). v ++ c.rest) c.first in
        let head : b ≡ n = cc in
        let tail : c.rest ≡ w = cc in
        (head, subst K tail c.second)

no_name_byte : IsNameByte [] → ⊥
no_name_byte x = let e = x.text in absurd (cc)

-- ---- identifiers

names_cons : (b : ℕ) (w : List ℕ) → Words names (b ∷ w) ↔ ((is_name_byte b ≡ true) × Words names w)
names_cons b w = and_then (star_begins IsNameByte b w) (name_cons (Star IsNameByte) b w)

names_is : (bytes : List ℕ) → (list_all is_name_byte bytes ≡ true) ↔ Words names bytes
names_is [] = (λ e. star_none IsNameByte, λ s. refl)
names_is (b ∷ bytes) =
    and_then (turned (and_true (is_name_byte b) (list_all is_name_byte bytes)))
    (and_then (pair same (names_is bytes)) (turned (names_cons b bytes)))

-- an identifier
abbrev pub Identifier : List ℕ → Type 0
Identifier = Words (Both NameByte names)

identifier_cons : (b : ℕ) (bytes : List ℕ)
    → is_identifier (b ∷ bytes) ≡ is_name_byte b && list_all is_name_byte bytes
identifier_cons b bytes =
    ap (λ t. not t && (is_name_byte b && list_all is_name_byte bytes))
    (eqb-suc-zero (length bytes))

pub identifier_is : (name : List ℕ) → (is_identifier name ≡ true) ↔ Identifier name
identifier_is [] = (
  λ e. absurd (false≢true e),
  λ c. absurd
      (no_name_byte ((cat_empty IsNameByte (Words names)).0 c).0),
)
identifier_is (b ∷ bytes) =
    and_then (same_test (is_identifier (b ∷ bytes)) (is_name_byte b && list_all is_name_byte bytes)
    (identifier_cons b bytes))
    (and_then (turned (and_true (is_name_byte b) (list_all is_name_byte bytes)))
    (and_then (pair same (names_is bytes)) (turned (name_cons (Words names) b bytes))))

-- ---- binary names

-- the rest of an identifier, and identifiers behind it
abbrev Open : List ℕ → Type 0
Open = Cat (Words names) (Words slashes)

-- identifiers with / between them
abbrev pub BinaryName : List ℕ → Type 0
BinaryName = Cat IsNameByte Open

abbrev open_test : List (List ℕ) → Bool
open_test [] = true
open_test (part ∷ parts) = list_all is_name_byte part && list_all is_identifier parts

abbrev cut : List ℕ → List (List ℕ)
cut = slice_split (λ b. b == 47)

and_and : (a b c : Bool) → (a && b) && c ≡ a && (b && c)
and_and true b c = refl
and_and false b c = refl

open_onto : (b : ℕ) (parts : List (List ℕ))
    → open_test (onto_first b parts) ≡ is_name_byte b && open_test parts
open_onto b [] = and_and (is_name_byte b) true true
open_onto b (part ∷ parts) =
    and_and (is_name_byte b) (list_all is_name_byte part) (list_all is_identifier parts)

all_onto : (b : ℕ) (parts : List (List ℕ))
    → list_all is_identifier (onto_first b parts) ≡ is_name_byte b && open_test parts
all_onto b [] = ap (λ t. t && true) (identifier_cons b []) ∙ and_and (is_name_byte b) true true
all_onto b (part ∷ parts) =
    ap (λ t. t && list_all is_identifier parts) (identifier_cons b part)
    ∙ and_and (is_name_byte b) (list_all is_name_byte part) (list_all is_identifier parts)

slash_cons : (b : ℕ) (w : List ℕ) → Words slashes (b ∷ w) ↔ ((b ≡ 47) × BinaryName w)
slash_cons b w =
    and_then (star_begins (Words (Both (Both (Byte 47) NameByte) names)) b w)
    (and_then (cat_assoc (Words (Both (Byte 47) NameByte)) (Words names) (Words slashes) (b ∷ w))
    (and_then (cat_assoc (Words (Byte 47)) IsNameByte Open (b ∷ w)) (byte_cons 47 BinaryName b w)))

-- a word that begins with the byte: the identifier has it, or is over
names_then : (K : List ℕ → Type 0) (b : ℕ) (w : List ℕ) → Cat (Words names) K (b ∷ w)
    ↔ (((is_name_byte b ≡ true) × Cat (Words names) K w) ⊎ K (b ∷ w))
names_then K b w =
    (λ c. to c.front c.rest c.whole ((star_step IsNameByte c.front).0 c.first) c.second, back)
  where
    to : (front rest : List ℕ) → b ∷ w ≡ front ++ rest
        → (front ≡ []) ⊎ Cat IsNameByte (Words names) front → K rest
        → ((is_name_byte b ≡ true) × Cat (Words names) K w) ⊎ K (b ∷ w)
    to front rest e (inl none) k = inr (subst K (sym (e ∙ ap (λ (v : List ℕ). v ++ rest) none)) k)
    to front rest e (inr c) k =
        inl ((name_cons (Cat (Words names) K) b w).0
        ((cat_assoc IsNameByte (Words names) K (b ∷ w)).0
        (record { front = front; rest = rest; whole = e; first = c; second = k })))

    back : ((is_name_byte b ≡ true) × Cat (Words names) K w) ⊎ K (b ∷ w)
        → Cat (Words names) K (b ∷ w)
    back (inl p) =
        let c = (cat_assoc IsNameByte (Words names) K (b ∷ w)).1
        ((name_cons (Cat (Words names) K) b w).1 p) in
        record {
          front = c.front;
          rest = c.rest;
          whole = c.whole;
          first = star_more IsNameByte c.front c.first;
          second = c.second;
        }
    back (inr k) =
        record { front = []; rest = b ∷ w; whole = refl; first = star_none IsNameByte; second = k }

open_cons : (b : ℕ) (w : List ℕ) → Open (b ∷ w)
    ↔ (((is_name_byte b ≡ true) × Open w) ⊎ ((b ≡ 47) × BinaryName w))
open_cons b w = and_then (names_then (Words slashes) b w) (either same (slash_cons b w))

record CutIs (bytes : List ℕ) : Type 0 where
  open_is : (open_test (cut bytes) ≡ true) ↔ Open bytes
  all_is : (list_all is_identifier (cut bytes) ≡ true) ↔ BinaryName bytes

cut_none : CutIs []
cut_none = record {
  open_is = (
    λ e. record {
      front = [];
      rest = [];
      whole = refl;
      first = star_none IsNameByte;
      second = star_none (Words (Both (Both (Byte 47) NameByte) names));
    },
    λ c. refl,
  );
  all_is =
      (λ e. absurd (false≢true e), λ c. absurd (no_name_byte ((cat_empty IsNameByte Open).0 c).0));
}

no_slash : (b : ℕ) → b ≡ 47 → is_name_byte b ≡ true → ⊥
no_slash b e t = false≢true (subst (λ c. is_name_byte c ≡ true) e t)

cut_slash : (b : ℕ) (bytes : List ℕ) → b ≡ 47 → cut (b ∷ bytes) ≡ [] ∷ cut bytes → CutIs bytes
    → CutIs (b ∷ bytes)
cut_slash b bytes e is more = record {
  open_is =
      and_then (same_test (open_test (cut (b ∷ bytes))) (list_all is_identifier (cut bytes))
      (ap open_test is))
      (and_then more.all_is
      (and_then (turned (known e))
      (and_then (turned (only_right (λ p. no_slash b e p.0))) (turned (open_cons b bytes)))));
  all_is = (
    λ t. absurd (false≢true (sym (ap (list_all is_identifier) is) ∙ t)),
    λ c. absurd (no_slash b e ((name_cons Open b bytes).0 c).0),
  );
}

cut_other : (b : ℕ) (bytes : List ℕ) → (b ≡ 47 → ⊥) → cut (b ∷ bytes) ≡ onto_first b (cut bytes)
    → CutIs bytes → CutIs (b ∷ bytes)
cut_other b bytes other is more =
    let test = is_name_byte b && open_test (cut bytes) in
    let tests : (test ≡ true) ↔ ((is_name_byte b ≡ true) × Open bytes) = and_then
    (turned (and_true (is_name_byte b) (open_test (cut bytes)))) (pair same more.open_is) in
    record {
      open_is =
          and_then (same_test (open_test (cut (b ∷ bytes))) test
          (ap open_test is ∙ open_onto b (cut bytes)))
          (and_then tests (and_then (turned (only_left (λ p. other p.0)))
          (turned (open_cons b bytes))));
      all_is =
          and_then (same_test (list_all is_identifier (cut (b ∷ bytes))) test
          (ap (list_all is_identifier) is ∙ all_onto b (cut bytes)))
          (and_then tests (turned (name_cons Open b bytes)));
    }

cut_is : (bytes : List ℕ) → CutIs bytes
cut_is [] = cut_none
cut_is (b ∷ bytes) = by (b == 47) refl (cut_is bytes)
  where
    by : (t : Bool) → b == 47 ≡ t → CutIs bytes → CutIs (b ∷ bytes)
    by true e more =
        cut_slash b bytes (eqb-true b 47 e) (slice_split-cons_yes (λ b. b == 47) b bytes e) more
    by false e more =
        cut_other b bytes (λ q. false≢true (sym e ∙ eq-eqb b 47 q))
        (slice_split-cons_no (λ b. b == 47) b bytes e) more

pub binary_name_is : (name : List ℕ) → (is_binary_name name ≡ true) ↔ BinaryName name
binary_name_is name = (cut_is name).all_is
