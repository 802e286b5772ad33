-- Groups in braces of which the braces alone are kept.
use Rattle.std.proofs.Common.{◌≡◌, refl, sym, ◌∙◌, ap, ℕ, ◌+◌, ◌<◌, arith, Bool, true, false}
use Rattle.std.proofs.Common.{◌||◌, cond, if◌then◌else◌, List, [], ◌∷◌, ◌++◌, append_assoc}
use Rattle.std.proofs.Common.{append-nil}
use Rattle.std.proofs.lemmas.Bool.{ne_eqb, eq-eqb}
use Rattle.java_token.specs.declared.token.Token.{Token}
use Rattle.segments.specs.declared.bracket.Pair.{Pair}
use Rattle.segments.specs.declared.bracket.Pair.TheVariants.{Parentheses, Brackets, Braces}
use Rattle.segments.specs.declared.bracket.Mark.{Mark}
use Rattle.segments.specs.declared.bracket.Mark.TheVariants.{Opening, Closing, Plain}
use Rattle.segments.specs.Brackets.{mark_of, count}
use Rattle.segments.specs.Cut.{opens_braces, closes_braces, mark_is_braces, mark_ends_braces}
use Rattle.segments.specs.Cut.{is_outside_braces, borders_outside, braces_alone}
use Rattle.segments.specs.Places.{behind_item, items_at}
use Rattle.segments.proofs.Parts.{shifted, shifted_item}
use Rattle.segments.proofs.Forests.{Forest, Nothing, Single, Group, flat}
use Rattle.segments.proofs.Pieces.{count_append}

-- a forest without what stands in braces
abbrev pub alone : Forest → List Token
alone Nothing = []
alone (Single t e f) = t ∷ alone f
alone (Group Braces o eo i c ec f) = o ∷ c ∷ alone f
alone (Group Parentheses o eo i c ec f) = o ∷ (alone i ++ c ∷ alone f)
alone (Group Brackets o eo i c ec f) = o ∷ (alone i ++ c ∷ alone f)

abbrev begun : List Token → ℕ
begun xs = count opens_braces xs

abbrev over : List Token → ℕ
over xs = count closes_braces xs

begun_more : (xs : List Token) (t : Token) (m : Mark) (n : ℕ) → mark_of t ≡ m
    → (if mark_is_braces m then 1 else 0) ≡ n → begun (xs ++ t ∷ []) ≡ begun xs + n
unfolding opens_braces
begun_more xs t m n is e = count_append opens_braces xs (t ∷ [])
    ∙ ap (λ k. begun xs + k) (rw is (by (mark_is_braces m) e)) where
      by : (b : Bool) → cond b 1 0 ≡ n → cond b (1 + 0) 0 ≡ n
      by true e = e
      by false e = e

over_more : (xs : List Token) (t : Token) (m : Mark) (n : ℕ) → mark_of t ≡ m
    → (if mark_ends_braces m then 1 else 0) ≡ n → over (xs ++ t ∷ []) ≡ over xs + n
unfolding closes_braces
over_more xs t m n is e = count_append closes_braces xs (t ∷ [])
    ∙ ap (λ k. over xs + k) (rw is (by (mark_ends_braces m) e)) where
      by : (b : Bool) → cond b 1 0 ≡ n → cond b (1 + 0) 0 ≡ n
      by true e = e
      by false e = e

width : Pair → ℕ
width Braces = 1
width _ = 0

opening_more : (xs : List Token) (p : Pair) (o : Token) → mark_of o ≡ Opening p
    → (begun (xs ++ o ∷ []) ≡ begun xs + width p) × (over (xs ++ o ∷ []) ≡ over xs)
unfolding width
opening_more xs Braces o e = (begun_more xs o _ 1 e refl, over_more xs o _ 0 e refl ∙ omega arith)
opening_more xs Parentheses o e =
    (begun_more xs o _ 0 e refl, over_more xs o _ 0 e refl ∙ omega arith)
opening_more xs Brackets o e = (
  begun_more xs o _ 0 e refl,
  over_more xs o _ 0 e refl
      ∙ omega arith,
)

closing_more : (xs : List Token) (p : Pair) (c : Token) → mark_of c ≡ Closing p
    → (begun (xs ++ c ∷ []) ≡ begun xs) × (over (xs ++ c ∷ []) ≡ over xs + width p)
unfolding width
closing_more xs Braces c e = (begun_more xs c _ 0 e refl ∙ omega arith, over_more xs c _ 1 e refl)
closing_more xs Parentheses c e =
    (begun_more xs c _ 0 e refl ∙ omega arith, over_more xs c _ 0 e refl)
closing_more xs Brackets c e = (
  begun_more xs c _ 0 e refl ∙ omega arith,
  over_more xs c _ 0 e refl,
)

plain_more : (xs : List Token) (t : Token)
    → mark_of t ≡ Plain → (begun (xs ++ t ∷ []) ≡ begun xs) × (over (xs ++ t ∷ []) ≡ over xs)
plain_more xs t e =
    (begun_more xs t _ 0 e refl ∙ omega arith, over_more xs t _ 0 e refl ∙ omega arith)

-- a forest ends as many groups in braces as it begins; behind any tokens
even_behind : (f : Forest) (xs : List Token)
    → begun (xs ++ flat f) + over xs ≡ over (xs ++ flat f) + begun xs
even_behind Nothing xs = rw (append-nil xs) (omega arith)
even_behind (Single t e f) xs =
    let m = plain_more xs t e in
    let h = even_behind f (xs ++ t ∷ []) in
    let k = rw (append_assoc xs (t ∷ []) (flat f)) at h in omega (arith, m.0, m.1)
even_behind (Group p o eo i c ec f) xs =
    let m = opening_more xs p o eo in
    let h = even_behind i (xs ++ o ∷ []) in
    let n = closing_more ((xs ++ o ∷ []) ++ flat i) p c ec in
    let k = even_behind f (((xs ++ o ∷ []) ++ flat i) ++ c ∷ []) in
    let all : (((xs ++ o ∷ []) ++ flat i) ++ c ∷ []) ++ flat f
    ≡ xs ++ (o ∷ (flat i ++ c ∷ flat f)) = simp append_assoc in
    let l = rw all at k in omega (arith, m.0, m.1, n.0, n.1)

-- ---- places in braces

-- the braces alone of the tokens behind these
abbrev pub braces_alone_from : List Token → List Token → List Token
braces_alone_from before [] = []
braces_alone_from before (t ∷ ts) =
    if borders_outside before t then t ∷ braces_alone_from (before ++ t ∷ []) ts
    else braces_alone_from (before ++ t ∷ []) ts

braces_alone_shifted : (ts before : List Token)
    → braces_alone_from before ts ≡ items_at (shifted borders_outside before) ts
braces_alone_shifted [] before = refl
braces_alone_shifted (t ∷ ts) before =
    by (borders_outside before t) (braces_alone_shifted ts (before ++ t ∷ [])
    ∙ ap (λ is. items_at is ts) (shifted_item borders_outside before t))
    ∙ ap (λ whole. cond (borders_outside whole t) (t ∷ rest) rest) (sym (append-nil before))
  where
    rest : List Token
    rest = items_at (behind_item (shifted borders_outside before) t) ts

    by : (b : Bool) → braces_alone_from (before ++ t ∷ []) ts ≡ rest
        → cond b (t ∷ braces_alone_from (before ++ t ∷ []) ts)
        (braces_alone_from (before ++ t ∷ []) ts)
        ≡ cond b (t ∷ rest) rest
    by true e = ap (λ x. t ∷ x) e
    by false e = e

in_braces : (xs : List Token) → over xs < begun xs → is_outside_braces xs ≡ false
in_braces xs h = ne_eqb (begun xs) (over xs) (λ e. omega arith)

no_braces : (xs : List Token) → begun xs ≡ over xs → is_outside_braces xs ≡ true
no_braces xs h = eq-eqb (begun xs) (over xs) h

dropped : (before : List Token) (t : Token) (rest : List Token) → is_outside_braces before ≡ false
    → is_outside_braces (before ++ t ∷ []) ≡ false
    → braces_alone_from before (t ∷ rest) ≡ braces_alone_from (before ++ t ∷ []) rest
dropped before t rest e d = rw (e, d) refl

kept_behind : (before : List Token) (t : Token) (rest : List Token)
    → is_outside_braces before ≡ true
    → braces_alone_from before (t ∷ rest) ≡ t ∷ braces_alone_from (before ++ t ∷ []) rest
kept_behind before t rest e = rw e refl

kept_before : (before : List Token) (t : Token) (rest : List Token)
    → is_outside_braces (before ++ t ∷ []) ≡ true
    → braces_alone_from before (t ∷ rest) ≡ t ∷ braces_alone_from (before ++ t ∷ []) rest
kept_before before t rest e =
    by (is_outside_braces before) (is_outside_braces (before ++ t ∷ [])) e where
      by : (b c : Bool) → c ≡ true
          → cond (b || c) (t ∷ braces_alone_from (before ++ t ∷ []) rest)
          (braces_alone_from (before ++ t ∷ []) rest)
          ≡ t ∷ braces_alone_from (before ++ t ∷ []) rest
      by true c d = refl
      by false c d = rw d refl

joined : (xs : List Token) (o : Token) (i : List Token) (c : Token) (f : List Token)
    → (((xs ++ o ∷ []) ++ i) ++ c ∷ []) ++ f ≡ xs ++ (o ∷ (i ++ c ∷ f))
joined xs o i c f = simp append_assoc

pub hidden : (f : Forest) (before rest : List Token) → over before < begun before
    → braces_alone_from before (flat f ++ rest) ≡ braces_alone_from (before ++ flat f) rest
hidden Nothing before rest h = rw (append-nil before) refl
hidden (Single t e f) before rest h =
    let m = plain_more before t e in
    let k : over (before ++ t ∷ []) < begun (before ++ t ∷ []) = omega (arith, m.0, m.1) in
    dropped before t (flat f ++ rest) (in_braces _ h) (in_braces _ k)
    ∙ hidden f (before ++ t ∷ []) rest k
    ∙ ap (λ x. braces_alone_from x rest) (append_assoc before (t ∷ []) (flat f))
hidden (Group p o eo i c ec f) before rest h =
    let m = opening_more before p o eo in
    let k : over (before ++ o ∷ []) < begun (before ++ o ∷ []) = omega (arith, m.0, m.1) in
    let s = even_behind i (before ++ o ∷ []) in
    let n = closing_more ((before ++ o ∷ []) ++ flat i) p c ec in
    let j : over ((before ++ o ∷ []) ++ flat i) < begun ((before ++ o ∷ []) ++ flat i) =
    omega arith in
    let l : over (((before ++ o ∷ []) ++ flat i) ++ c ∷ []) < begun
    (((before ++ o ∷ []) ++ flat i) ++ c ∷ []) = omega (arith, m.0, m.1, n.0, n.1) in
    ap (λ x. braces_alone_from before (o ∷ x)) (append_assoc (flat i) (c ∷ flat f) rest)
    ∙ dropped before o (flat i ++ (c ∷ (flat f ++ rest))) (in_braces _ h) (in_braces _ k)
    ∙ hidden i (before ++ o ∷ []) (c ∷ (flat f ++ rest)) k
    ∙ dropped ((before ++ o ∷ []) ++ flat i) c (flat f ++ rest) (in_braces _ j) (in_braces _ l)
    ∙ hidden f (((before ++ o ∷ []) ++ flat i) ++ c ∷ []) rest l
    ∙ ap (λ x. braces_alone_from x rest) (joined before o (flat i) c (flat f))

-- a group in braces at a place outside braces
alone_braces : (o : Token) → mark_of o ≡ Opening Braces → (i : Forest) (c : Token)
    → mark_of c ≡ Closing Braces → (before rest : List Token)
    → begun before ≡ over before
    → braces_alone_from before (o ∷ (flat i ++ c ∷ rest))
    ≡ o ∷ c ∷ braces_alone_from (((before ++ o ∷ []) ++ flat i) ++ c ∷ []) rest
unfolding width
alone_braces o eo i c ec before rest h =
    let m = opening_more before Braces o eo in
    let k : over (before ++ o ∷ []) < begun (before ++ o ∷ []) = omega (arith, m.0, m.1) in
    let s = even_behind i (before ++ o ∷ []) in
    let n = closing_more ((before ++ o ∷ []) ++ flat i) Braces c ec in
    let l : begun (((before ++ o ∷ []) ++ flat i) ++ c ∷ [])
    ≡ over (((before ++ o ∷ []) ++ flat i) ++ c ∷ []) = omega (arith, m.0, m.1, n.0, n.1) in
    kept_behind before o (flat i ++ c ∷ rest) (no_braces _ h)
    ∙ ap (λ x. o ∷ x) (hidden i (before ++ o ∷ []) (c ∷ rest) k
    ∙ kept_before ((before ++ o ∷ []) ++ flat i) c rest (no_braces _ l))

behind_group : (p : Pair) (o : Token) → mark_of o ≡ Opening p → (i : Forest) (c : Token)
    → mark_of c ≡ Closing p → (before : List Token)
    → begun before ≡ over before
    → begun (((before ++ o ∷ []) ++ flat i) ++ c ∷ [])
    ≡ over (((before ++ o ∷ []) ++ flat i) ++ c ∷ [])
behind_group p o eo i c ec before h =
    let m = opening_more before p o eo in
    let s = even_behind i (before ++ o ∷ []) in
    let n = closing_more ((before ++ o ∷ []) ++ flat i) p c ec in omega (arith, m.0, m.1, n.0, n.1)

-- a group of another kind at such a place, where what it holds is known
alone_other : (p : Pair) (o : Token) → mark_of o ≡ Opening p → width p ≡ 0
    → (i : Forest) (c : Token) → mark_of c ≡ Closing p → (before rest : List Token)
    → begun before ≡ over before → (begun (before ++ o ∷ []) ≡ over (before ++ o ∷ [])
    → braces_alone_from (before ++ o ∷ []) (flat i ++ c ∷ rest)
    ≡ alone i ++ braces_alone_from ((before ++ o ∷ []) ++ flat i) (c ∷ rest))
    → braces_alone_from before (o ∷ (flat i ++ c ∷ rest))
    ≡ o ∷ (alone i ++ c ∷ braces_alone_from (((before ++ o ∷ []) ++ flat i) ++ c ∷ []) rest)
alone_other p o eo w i c ec before rest h inside =
    let m = opening_more before p o eo in
    let k : begun (before ++ o ∷ []) ≡ over (before ++ o ∷ []) = omega (arith, m.0, m.1) in
    let s = even_behind i (before ++ o ∷ []) in
    let j : begun ((before ++ o ∷ []) ++ flat i) ≡ over ((before ++ o ∷ []) ++ flat i) =
    omega arith in
    kept_behind before o (flat i ++ c ∷ rest) (no_braces _ h)
    ∙ ap (λ x. o ∷ x) (inside k
    ∙ ap (λ x. alone i ++ x) (kept_behind ((before ++ o ∷ []) ++ flat i) c rest (no_braces _ j)))

behind_plain : (t : Token) → mark_of t ≡ Plain → (before : List Token) → begun before ≡ over before
    → begun (before ++ t ∷ []) ≡ over (before ++ t ∷ [])
behind_plain t e before h = let m = plain_more before t e in omega (arith, m.0, m.1)

other_flat : (p : Pair) (o : Token) → mark_of o ≡ Opening p → width p ≡ 0 →
    (i : Forest) (c : Token)
    → mark_of c ≡ Closing p → (f : Forest) (before rest : List Token)
    → begun before ≡ over before → (begun (before ++ o ∷ []) ≡ over (before ++ o ∷ [])
    → braces_alone_from (before ++ o ∷ []) (flat i ++ c ∷ (flat f ++ rest))
    ≡ alone i ++ braces_alone_from ((before ++ o ∷ []) ++ flat i) (c ∷ (flat f ++ rest)))
    → (begun (((before ++ o ∷ []) ++ flat i) ++ c ∷ [])
    ≡ over (((before ++ o ∷ []) ++ flat i) ++ c ∷ [])
    → braces_alone_from (((before ++ o ∷ []) ++ flat i) ++ c ∷ []) (flat f ++ rest)
    ≡ alone f ++ braces_alone_from ((((before ++ o ∷ []) ++ flat i) ++ c ∷ []) ++ flat f) rest)
    → braces_alone_from before ((o ∷ (flat i ++ c ∷ flat f)) ++ rest)
    ≡ (o ∷ (alone i ++ c ∷ alone f))
    ++ braces_alone_from (before ++ (o ∷ (flat i ++ c ∷ flat f))) rest
other_flat p o eo w i c ec f before rest h inside behind =
    let l = behind_group p o eo i c ec before h in
    ap (λ x. braces_alone_from before (o ∷ x)) (append_assoc (flat i) (c ∷ flat f) rest)
    ∙ alone_other p o eo w i c ec before (flat f ++ rest) h inside
    ∙ ap (λ x. o ∷ (alone i ++ c ∷ x)) (behind l
    ∙ ap (λ x. alone f ++ braces_alone_from x rest) (joined before o (flat i) c (flat f)))
    ∙ ap (λ x. o ∷ x) (sym (append_assoc (alone i) (c ∷ alone f) _))

pub alone_flat : (f : Forest) (before rest : List Token) → begun before ≡ over before
    → braces_alone_from before (flat f ++ rest)
    ≡ alone f ++ braces_alone_from (before ++ flat f) rest
unfolding width
alone_flat Nothing before rest h = rw (append-nil before) refl
alone_flat (Single t e f) before rest h =
    let k = behind_plain t e before h in
    kept_behind before t (flat f ++ rest) (no_braces _ h)
    ∙ ap (λ x. t ∷ x) (alone_flat f (before ++ t ∷ []) rest k
    ∙ ap (λ x. alone f ++ braces_alone_from x rest) (append_assoc before (t ∷ []) (flat f)))
alone_flat (Group Braces o eo i c ec f) before rest h =
    let l = behind_group Braces o eo i c ec before h in
    ap (λ x. braces_alone_from before (o ∷ x)) (append_assoc (flat i) (c ∷ flat f) rest)
    ∙ alone_braces o eo i c ec before (flat f ++ rest) h
    ∙ ap (λ x. o ∷ c ∷ x) (alone_flat f _ rest l
    ∙ ap (λ x. alone f ++ braces_alone_from x rest) (joined before o (flat i) c (flat f)))
alone_flat (Group Parentheses o eo i c ec f) before rest h =
    other_flat Parentheses o eo refl i c ec f before rest h
    (alone_flat i (before ++ o ∷ []) (c ∷ (flat f ++ rest))) (alone_flat f _ rest)
alone_flat (Group Brackets o eo i c ec f) before rest h =
    other_flat Brackets o eo refl i c ec f before rest h
    (alone_flat i (before ++ o ∷ []) (c ∷ (flat f ++ rest))) (alone_flat f _ rest)

pub alone_whole : (f : Forest) → braces_alone (flat f) ≡ alone f
unfolding braces_alone
alone_whole f = sym (braces_alone_shifted (flat f) [])
    ∙ ap (λ x. braces_alone_from [] x) (sym (append-nil (flat f))) ∙ alone_flat f [] [] refl
    ∙ append-nil (alone f)
