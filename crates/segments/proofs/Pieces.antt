-- The pieces of a forest.
use Rattle.std.proofs.Common.{sym, ◌≡◌, refl, ◌∙◌, ap, ℕ, ◌+◌, ◌<◌, ◌≤◌, arith, Bool, true, false}
use Rattle.std.proofs.Common.{cond, if◌then◌else◌, List, [], ◌∷◌, ◌++◌, append_assoc, append-nil}
use Rattle.std.proofs.Common.{◌==◌, map}
use Rattle.std.proofs.lemmas.Bool.{ne_eqb, eq-eqb, eqb-true, eqb-false}
use Rattle.java_token.specs.declared.token.Token.{Token}
use Rattle.segments.specs.declared.bracket.Pair.{Pair}
use Rattle.segments.specs.declared.bracket.Mark.{Mark}
use Rattle.segments.specs.declared.bracket.Mark.TheVariants.{Opening, Closing, Plain}
use Rattle.segments.specs.Brackets.{mark_of, is_opening, is_closing, count, opens, closes}
use Rattle.segments.specs.Brackets.{is_outside}
use Rattle.segments.specs.Cut.{Piece, pieces, whole, is_outside_behind}
use Rattle.segments.proofs.Parts.{between_from, between_is}
use Rattle.segments.proofs.Forests.{Forest, Nothing, Single, Group, flat}

abbrev pub pieces_of : Forest → List Piece
pieces_of Nothing = []
pieces_of (Single t e f) = (t ∷ []) ∷ pieces_of f
pieces_of (Group p o eo i c ec f) = (o ∷ (flat i ++ c ∷ [])) ∷ pieces_of f

-- the pieces, by the tokens of each alone
abbrev pub pieces_from : Piece → List Token → List Piece
pieces_from piece [] = []
pieces_from piece (t ∷ ts) =
    if is_outside (piece ++ t ∷ []) then (piece ++ t ∷ []) ∷ pieces_from [] ts
    else pieces_from (piece ++ t ∷ []) ts

pub count_append : (p : Token → Bool) (xs ys : List Token)
    → count p (xs ++ ys) ≡ count p xs + count p ys
count_append p [] ys = omega arith
count_append p (x ∷ xs) ys = by (p x) (count_append p xs ys) where
  by : (b : Bool) → count p (xs ++ ys) ≡ count p xs + count p ys
      → cond b (1 + count p (xs ++ ys)) (count p (xs ++ ys))
      ≡ cond b (1 + count p xs) (count p xs) + count p ys
  by true e = omega arith
  by false e = e

-- a token more
opens_more : (xs : List Token) (t : Token) (n : ℕ) → (if is_opening (mark_of t) then 1 else 0) ≡ n
    → opens (xs ++ t ∷ []) ≡ opens xs + n
opens_more xs t n e = count_append (λ u. is_opening (mark_of u)) xs (t ∷ [])
    ∙ ap (λ m. opens xs + m) (by (is_opening (mark_of t)) e) where
      by : (b : Bool) → cond b 1 0 ≡ n → cond b (1 + 0) 0 ≡ n
      by true e = e
      by false e = e

closes_more : (xs : List Token) (t : Token) (n : ℕ) → (if is_closing (mark_of t) then 1 else 0) ≡ n
    → closes (xs ++ t ∷ []) ≡ closes xs + n
closes_more xs t n e = count_append (λ u. is_closing (mark_of u)) xs (t ∷ [])
    ∙ ap (λ m. closes xs + m) (by (is_closing (mark_of t)) e) where
      by : (b : Bool) → cond b 1 0 ≡ n → cond b (1 + 0) 0 ≡ n
      by true e = e
      by false e = e

pub opens_at : (m : Mark) → ℕ
opens_at m = if is_opening m then 1 else 0

-- as many brackets open as close
pub even : (f : Forest) → opens (flat f) ≡ closes (flat f)
even Nothing = refl
even (Single t e f) = rw e (even f)
even (Group p o eo i c ec f) =
    let a = count_append (λ u. is_opening (mark_of u)) (flat i) (c ∷ flat f) in
    let b = count_append (λ u. is_closing (mark_of u)) (flat i) (c ∷ flat f) in
    let x = even i in
    let y = even f in
    rw (eo, a, b, ec) (omega arith)

-- ---- places in a group

not_outside : (xs : List Token) → closes xs < opens xs → is_outside xs ≡ false
unfolding is_outside
not_outside xs h = ne_eqb (opens xs) (closes xs) (λ e. omega arith)

outside : (xs : List Token) → opens xs ≡ closes xs → is_outside xs ≡ true
unfolding is_outside
outside xs h = eq-eqb (opens xs) (closes xs) h

open_plain : (xs : List Token) (t : Token) → mark_of t ≡ Plain → closes xs < opens xs
    → closes (xs ++ t ∷ []) < opens (xs ++ t ∷ [])
open_plain xs t e h =
    let a = opens_more xs t 0 (rw e refl) in
    let b = closes_more xs t 0 (rw e refl) in omega arith

open_opening : (xs : List Token) (t : Token) (p : Pair) → mark_of t ≡ Opening p
    → closes xs ≤ opens xs → closes (xs ++ t ∷ []) < opens (xs ++ t ∷ [])
open_opening xs t p e h =
    let a = opens_more xs t 1 (rw e refl) in
    let b = closes_more xs t 0 (rw e refl) in omega arith

group_opens : (p : Pair) (xs : List Token) (o : Token) → mark_of o ≡ Opening p
    → (f : Forest) (c : Token) → mark_of c ≡ Closing p
    → opens (((xs ++ o ∷ []) ++ flat f) ++ c ∷ []) ≡ opens xs + 1 + opens (flat f)
group_opens p xs o eo f c ec =
    let a = opens_more ((xs ++ o ∷ []) ++ flat f) c 0 (rw ec refl) in
    let b = count_append (λ u. is_opening (mark_of u)) (xs ++ o ∷ []) (flat f) in
    let d = opens_more xs o 1 (rw eo refl) in omega arith

group_closes : (p : Pair) (xs : List Token) (o : Token) → mark_of o ≡ Opening p
    → (f : Forest) (c : Token) → mark_of c ≡ Closing p
    → closes (((xs ++ o ∷ []) ++ flat f) ++ c ∷ []) ≡ closes xs + 1 + opens (flat f)
group_closes p xs o eo f c ec =
    let a = closes_more ((xs ++ o ∷ []) ++ flat f) c 1 (rw ec refl) in
    let b = count_append (λ u. is_closing (mark_of u)) (xs ++ o ∷ []) (flat f) in
    let d = closes_more xs o 0 (rw eo refl) in
    let s = even f in omega arith

-- a token in a group is taken into its piece
taken : (piece : Piece) (t : Token) (rest : List Token) → is_outside (piece ++ t ∷ []) ≡ false
    → pieces_from piece (t ∷ rest) ≡ pieces_from (piece ++ t ∷ []) rest
taken piece t rest e = rw e refl

-- the token that ends a piece
last_taken : (piece : Piece) (t : Token) (rest : List Token) → is_outside (piece ++ t ∷ []) ≡ true
    → pieces_from piece (t ∷ rest) ≡ (piece ++ t ∷ []) ∷ pieces_from [] rest
last_taken piece t rest e = rw e refl

within : (f : Forest) (piece : Piece) (rest : List Token) → closes piece < opens piece
    → pieces_from piece (flat f ++ rest) ≡ pieces_from (piece ++ flat f) rest
within Nothing piece rest h = rw (append-nil piece) refl
within (Single t e f) piece rest h =
    let k = open_plain piece t e h in
    taken piece t (flat f ++ rest) (not_outside _ k) ∙ within f (piece ++ t ∷ []) rest k
    ∙ ap (λ x. pieces_from x rest) (append_assoc piece (t ∷ []) (flat f))
within (Group p o eo i c ec f) piece rest h =
    let k = open_opening piece o p eo (omega arith) in
    let n = group_opens p piece o eo i c ec in
    let m = group_closes p piece o eo i c ec in
    let r : closes (((piece ++ o ∷ []) ++ flat i) ++ c ∷ []) < opens
    (((piece ++ o ∷ []) ++ flat i) ++ c ∷ []) = omega arith in
    let all : (((piece ++ o ∷ []) ++ flat i) ++ c ∷ []) ++ flat f
    ≡ piece ++ (o ∷ (flat i ++ c ∷ flat f)) = simp append_assoc in
    ap (λ x. pieces_from piece (o ∷ x)) (append_assoc (flat i) (c ∷ flat f) rest)
    ∙ taken piece o (flat i ++ (c ∷ (flat f ++ rest))) (not_outside _ k)
    ∙ within i (piece ++ o ∷ []) (c ∷ (flat f ++ rest)) k
    ∙ taken ((piece ++ o ∷ []) ++ flat i) c (flat f ++ rest) (not_outside _ r)
    ∙ within f (((piece ++ o ∷ []) ++ flat i) ++ c ∷ []) rest r
    ∙ ap (λ x. pieces_from x rest) all

pieces_from_flat : (f : Forest) → pieces_from [] (flat f) ≡ pieces_of f
pieces_from_flat Nothing = refl
pieces_from_flat (Single t e f) =
    let even_one : opens (t ∷ []) ≡ closes (t ∷ []) = rw e refl in
    last_taken [] t (flat f) (outside _ even_one) ∙ ap (λ x. (t ∷ []) ∷ x) (pieces_from_flat f)
pieces_from_flat (Group p o eo i c ec f) =
    let k = open_opening [] o p eo (omega arith) in
    let n = group_opens p [] o eo i c ec in
    let m = group_closes p [] o eo i c ec in
    let r : opens (((o ∷ []) ++ flat i) ++ c ∷ []) ≡ closes (((o ∷ []) ++ flat i) ++ c ∷ []) =
    omega arith in
    taken [] o (flat i ++ (c ∷ flat f)) (not_outside _ k)
    ∙ within i (o ∷ []) (c ∷ flat f) k
    ∙ last_taken ((o ∷ []) ++ flat i) c (flat f) (outside _ r)
    ∙ ap (λ x. (o ∷ (flat i ++ c ∷ [])) ∷ x) (pieces_from_flat f)

-- ---- places of the whole list, and of a piece

same_test : (a b c d : ℕ) → a + d ≡ b + c → (a == b) ≡ (c == d)
same_test a b c d h = by (c == d) refl where
  by : (x : Bool) → (c == d) ≡ x → (a == b) ≡ (c == d)
  by true e = let f = eqb-true c d e in eq-eqb a b (omega arith) ∙ sym e
  by false e = ne_eqb a b (λ x. eqb-false c d e (omega arith)) ∙ sym e

-- what stands before a piece has as many opening as closing brackets
abbrev Even : List Token → List Token → Type 0
Even all before = opens all + closes before ≡ closes all + opens before

even_more : (all before : List Token) (t : Token) → Even all before
    → Even (all ++ t ∷ []) (before ++ t ∷ [])
even_more all before t h =
    let a = count_append (λ u. is_opening (mark_of u)) all (t ∷ []) in
    let b = count_append (λ u. is_opening (mark_of u)) before (t ∷ []) in
    let c = count_append (λ u. is_closing (mark_of u)) all (t ∷ []) in
    let d = count_append (λ u. is_closing (mark_of u)) before (t ∷ []) in omega arith

same_outside : (all before : List Token) → Even all before → is_outside all ≡ is_outside before
unfolding is_outside
same_outside all before h = same_test (opens all) (closes all) (opens before) (closes before) h

even_outside : (all : List Token) → is_outside all ≡ true → Even all []
unfolding is_outside
even_outside all e = let f = eqb-true (opens all) (closes all) e in omega arith

pieces_are : (ts all before : List Token) → Even all before
    → map whole (between_from is_outside_behind all before ts) ≡ pieces_from before ts
pieces_are [] all before h = refl
pieces_are (t ∷ ts) all before h = by (is_outside (before ++ t ∷ [])) refl (pieces_are ts) where
  same : is_outside (all ++ t ∷ []) ≡ is_outside (before ++ t ∷ [])
  same = same_outside (all ++ t ∷ []) (before ++ t ∷ []) (even_more all before t h)

  by : (b : Bool) → is_outside (before ++ t ∷ []) ≡ b
      → ((all before : List Token) → Even all before
      → map whole (between_from is_outside_behind all before ts) ≡ pieces_from before ts)
      → map whole (between_from is_outside_behind all before (t ∷ ts))
      ≡ pieces_from before (t ∷ ts)
  by true e more =
      ap (λ b. map whole
      (cond b ((before, t) ∷ between_from is_outside_behind (all ++ t ∷ []) [] ts)
      (between_from is_outside_behind (all ++ t ∷ []) (before ++ t ∷ []) ts))) (same ∙ e)
      ∙ ap (λ x. (before ++ t ∷ []) ∷ x)
      (more (all ++ t ∷ []) [] (even_outside (all ++ t ∷ []) (same ∙ e)))
      ∙ sym (ap (λ b. cond b ((before ++ t ∷ []) ∷ pieces_from [] ts)
      (pieces_from (before ++ t ∷ []) ts)) e)
  by false e more =
      ap (λ b. map whole
      (cond b ((before, t) ∷ between_from is_outside_behind (all ++ t ∷ []) [] ts)
      (between_from is_outside_behind (all ++ t ∷ []) (before ++ t ∷ []) ts))) (same ∙ e)
      ∙ more (all ++ t ∷ []) (before ++ t ∷ []) (even_more all before t h)
      ∙ sym (ap (λ b. cond b ((before ++ t ∷ []) ∷ pieces_from [] ts)
      (pieces_from (before ++ t ∷ []) ts)) e)

pub pieces_flat : (f : Forest) → pieces (flat f) ≡ pieces_of f
pieces_flat f = ap (map whole) (between_is is_outside_behind (flat f))
    ∙ pieces_are (flat f) [] [] refl ∙ pieces_from_flat f
