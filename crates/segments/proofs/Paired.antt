-- The brackets that are left are those that don't pair.
use Rattle.std.proofs.Common.{◌≡◌, refl, sym, ◌∙◌, ap, subst, ℕ, zero, suc, ◌≤◌, arith, Bool}
use Rattle.std.proofs.Common.{true, false, not, ◌&&◌, ◌||◌, cond, if◌then◌else◌, List, [], ◌∷◌}
use Rattle.std.proofs.Common.{◌++◌, append_assoc, append-nil, length, length-append, map, Option}
use Rattle.std.proofs.Common.{Some, None, ◌⊎◌, inl, inr}
use Rattle.java_token.specs.declared.token.Token.{Token}
use Rattle.segments.specs.declared.bracket.Pair.{Pair}
use Rattle.segments.specs.declared.bracket.Pair.TheVariants.{Parentheses, Brackets, Braces}
use Rattle.segments.specs.declared.bracket.Mark.{Mark}
use Rattle.segments.specs.declared.bracket.Mark.TheVariants.{Opening, Closing, Plain}
use Rattle.segments.proofs.LevelModel.{Open}
use Rattle.segments.specs.Brackets.{mark_of, same_pair, IsBalanced, no_token, single, in_group}
use Rattle.segments.specs.Brackets.{is_opening, is_closing, some_token, marks_pair, are_pair}
use Rattle.segments.specs.Brackets.{is_plain, is_balanced_within, is_balanced, pairs_back}
use Rattle.segments.specs.Brackets.{pairs_ahead, line_of_first, is_wrong_closing, is_left_open}
use Rattle.segments.specs.Brackets.{or_else, wrong_line}
use Rattle.segments.proofs.LevelModel.{entry}
use Rattle.segments.proofs.GroupKinds as group
use Rattle.segments.proofs.Unpaired.{Bracket, bracket_of, is_closed_by, in_front, unpaired}
use Rattle.segments.proofs.Unpaired.{first_line, first_wrong}
use Rattle.segments.proofs.Forests.{Forest, Nothing, Single, Group, flat, spelt, left_out, spread}
use Rattle.segments.proofs.Forests.{pair_of_same, closes_own}
use Rattle.segments.proofs.Wrong.{bracket, marks, marks_end, same_behind, openings_stay}
use Rattle.segments.proofs.Wrong.{no_closing, closes_last, wrong_last, wrong_among, Ended}
use Rattle.segments.proofs.Wrong.{last_of}

-- ---- lists whose brackets pair

pub balanced_flat : (f : Forest) → IsBalanced (flat f)
balanced_flat Nothing = no_token
balanced_flat (Single t e f) = single t (flat f) e (balanced_flat f)
balanced_flat (Group p o eo i c ec f) =
    in_group p o (flat i) c (flat f) eo (balanced_flat i) ec (balanced_flat f)

same_self : (p : Pair) → same_pair p p ≡ true
same_self Parentheses = refl
same_self Brackets = refl
same_self Braces = refl

-- a balanced list in front of another leaves nothing of its own
pub none_in_front : {tokens : List Token} → IsBalanced tokens → (rest : List Token)
    → unpaired (map bracket_of (tokens ++ rest)) ≡ unpaired (map bracket_of rest)
none_in_front no_token rest = refl
none_in_front (single t behind e h) rest =
    ap (λ m. in_front m t.line (unpaired (map bracket_of (behind ++ rest)))) e
    ∙ none_in_front h rest
none_in_front (in_group p o inside c behind eo hi ec hb) rest =
    let u = unpaired (map bracket_of (behind ++ rest)) in
    ap (λ x. in_front (mark_of o) o.line (unpaired (map bracket_of x)))
    (append_assoc inside (c ∷ behind) rest)
    ∙ ap (in_front (mark_of o) o.line) (none_in_front hi (c ∷ (behind ++ rest))
    ∙ ap (λ m. in_front m c.line u) ec)
    ∙ ap (λ m. in_front m o.line (record { mark = Closing p; line = c.line } ∷ u)) eo
    ∙ ap (λ b. cond b u
    (record { mark = Opening p; line = o.line } ∷ record { mark = Closing p; line = c.line } ∷ u))
    (same_self p)
    ∙ none_in_front hb rest

-- a list whose brackets pair leaves nothing
none_of_its_own : {tokens : List Token} → IsBalanced tokens → unpaired (map bracket_of tokens) ≡ []
none_of_its_own {tokens} h = ap (λ x. unpaired (map bracket_of x)) (sym (append-nil tokens))
    ∙ none_in_front h []

-- ---- tests

and_first : (a b : Bool) → (a && b) ≡ true → a ≡ true
and_first true b e = refl
and_first false b e = cc

and_second : (a b : Bool) → (a && b) ≡ true → b ≡ true
and_second true b e = e
and_second false b e = cc

or_cases : (a b : Bool) → (a || b) ≡ true → (a ≡ true) ⊎ (b ≡ true)
or_cases true b e = inl refl
or_cases false b e = inr e

or_second : (a b : Bool) → b ≡ true → (a || b) ≡ true
or_second true b e = refl
or_second false b e = e

never_true : (b : Bool) → (b ≡ true → ⊥) → b ≡ false
never_true true h = absurd (h refl)
never_true false h = refl

-- some token of a list is so
record Found (is : List Token → Token → List Token → Bool) (ts : List Token) : Type 0 where
  before : List Token
  at : Token
  behind : List Token
  parts : before ++ at ∷ behind ≡ ts
  holds : is before at behind ≡ true

found : (is : List Token → Token → List Token → Bool) (ts : List Token) → some_token is ts ≡ true
    → Found is ts
found is [] e = cc
found is (t ∷ ts) e = by (or_cases (is [] t ts) _ e) (found (λ before. is (t ∷ before)) ts) where
  by : (is [] t ts ≡ true) ⊎ (some_token (λ before. is (t ∷ before)) ts ≡ true)
      → (some_token (λ before. is (t ∷ before)) ts ≡ true → Found (λ before. is (t ∷ before)) ts)
      → Found is (t ∷ ts)
  by (inl h) more = record { before = []; at = t; behind = ts; parts = refl; holds = h }
  by (inr h) more = let f = more h in
      record {
        before = t ∷ f.before;
        at = f.at;
        behind = f.behind;
        parts = ap (λ x. t ∷ x) f.parts;
        holds = f.holds;
      }

some : (is : List Token → Token → List Token
    → Bool) (before : List Token) (t : Token) (behind : List Token) → is before t behind ≡ true
    → some_token is (before ++ t ∷ behind) ≡ true
some is [] t behind h = ap (λ b. b || some_token (λ before. is (t ∷ before)) behind) h
some is (x ∷ before) t behind h =
    or_second (is [] x (before ++ t ∷ behind)) _ (some (λ more. is (x ∷ more)) before t behind h)

-- ---- the test of lists whose brackets pair

plain_mark : (m : Mark) → is_plain m ≡ true → m ≡ Plain
plain_mark Plain e = refl
plain_mark (Opening p) e = cc
plain_mark (Closing p) e = cc

record Pairing (m n : Mark) : Type 0 where
  pair : Pair
  opens : m ≡ Opening pair
  closes : n ≡ Closing pair

pairing : (m n : Mark) → marks_pair m n ≡ true → Pairing m n
pairing (Opening p) (Closing q) e =
    record { pair = p; opens = refl; closes = ap Closing (sym (pair_of_same p q e)) }
pairing (Opening p) (Opening q) e = cc
pairing (Opening p) Plain e = cc
pairing (Closing p) n e = cc
pairing Plain n e = cc

pub balanced_of : (n : ℕ) (ts : List Token) → is_balanced_within n ts ≡ true → IsBalanced ts
unfolding is_balanced_within
balanced_of zero [] e = no_token
balanced_of (suc n) [] e = no_token
balanced_of zero (t ∷ ts) e = cc
balanced_of (suc n) (t ∷ ts) e =
    by (or_cases (is_plain (mark_of t) && is_balanced_within n ts) _ e) (balanced_of n) where
      by : ((is_plain (mark_of t) && is_balanced_within n ts) ≡ true)
          ⊎ (some_token
          (λ inside closing behind. are_pair t closing
          && (is_balanced_within n inside && is_balanced_within n behind)) ts ≡ true)
          → ((xs : List Token) → is_balanced_within n xs ≡ true → IsBalanced xs) →
          IsBalanced (t ∷ ts)
      by (inl h) more =
          single t ts (plain_mark (mark_of t) (and_first _ _ h))
          (more ts (and_second (is_plain (mark_of t)) _ h))
      by (inr h) more =
          let f = found _ ts h in
          let p = pairing (mark_of t) (mark_of f.at) (and_first _ _ f.holds) in
          let rest = and_second (are_pair t f.at) _ f.holds in
          subst (λ x. IsBalanced (t ∷ x)) f.parts
          (in_group p.pair t f.before f.at f.behind p.opens
          (more f.before (and_first _ _ rest)) p.closes
          (more f.behind (and_second (is_balanced_within n f.before) _ rest)))

pub balanced_test : {ts : List Token} → IsBalanced ts → (n : ℕ) → length ts ≤ n
    → is_balanced_within n ts ≡ true
unfolding is_balanced_within
balanced_test no_token zero h = refl
balanced_test no_token (suc n) h = refl
balanced_test (single t behind e b) zero h = absurd (omega (arith, h))
balanced_test (single t behind e b) (suc n) h = rw (e, balanced_test b n (omega (arith, h))) refl
balanced_test (in_group p o inside c behind eo bi ec bb) zero h = absurd (omega (arith, h))
balanced_test (in_group p o inside c behind eo bi ec bb) (suc n) h =
    let size = length-append inside (c ∷ behind) in
    or_second (is_plain (mark_of o) && is_balanced_within n (inside ++ c ∷ behind)) _
    (some _ inside c behind
    (rw (
      eo,
      ec,
      same_self p,
      balanced_test bi n (omega (arith, size, h)),
      balanced_test bb n (omega (arith, size, h)),
    ) refl))

pub is_balanced_of : (ts : List Token) → IsBalanced ts → is_balanced ts ≡ true
is_balanced_of ts h = balanced_test h (length ts) (omega arith)

-- ---- closing brackets behind some tokens

-- what is left of a front is all that matters of it
once_more : (xs ys : List Bracket) → unpaired (unpaired xs ++ ys) ≡ unpaired (xs ++ ys)
once_more [] ys = refl
once_more (x ∷ xs) ys = by x.mark (unpaired xs) (once_more xs ys) where
  by : (m : Mark) (left : List Bracket) → unpaired (left ++ ys) ≡ unpaired (xs ++ ys)
      → unpaired (in_front m x.line left ++ ys) ≡ in_front m x.line (unpaired (xs ++ ys))
  by Plain left e = e
  by (Closing p) left e = ap (in_front (Closing p) x.line) e
  by (Opening p) [] e = ap (in_front (Opening p) x.line) e
  by (Opening p) (y ∷ left) e = chosen (is_closed_by p y.mark) refl where
    chosen : (b : Bool) → is_closed_by p y.mark ≡ b
        → unpaired (cond b left (record { mark = Opening p; line = x.line } ∷ y ∷ left) ++ ys)
        ≡ in_front (Opening p) x.line (unpaired (xs ++ ys))
    chosen false c = ap (in_front (Opening p) x.line) e
    chosen true c =
        let u = unpaired (left ++ ys) in
        sym (ap (in_front (Opening p) x.line) (sym e)
        ∙ ap (λ m. in_front (Opening p) x.line (in_front m y.line u)) (closes_own p y.mark c)
        ∙ ap (λ b. cond b u
        (record { mark = Opening p; line = x.line } ∷ record { mark = Closing p; line = y.line }
        ∷ u)) (same_self p))

map_brackets : (xs ys : List Token)
    → map bracket_of (xs ++ ys) ≡ map bracket_of xs ++ map bracket_of ys
map_brackets [] ys = refl
map_brackets (x ∷ xs) ys = ap (λ bs. bracket_of x ∷ bs) (map_brackets xs ys)

-- an opening bracket at the end is left
opening_stays : (xs : List Bracket) (p : Pair) (line : ℕ)
    → unpaired (xs ++ bracket p line ∷ []) ≡ unpaired xs ++ bracket p line ∷ []
opening_stays [] p line = refl
opening_stays (x ∷ xs) p line = ap (in_front x.mark x.line) (opening_stays xs p line)
    ∙ by x.mark (unpaired xs) where
      by : (m : Mark) (left : List Bracket)
          → in_front m x.line (left ++ bracket p line ∷ [])
          ≡ in_front m x.line left ++ bracket p line ∷ []
      by Plain left = refl
      by (Closing q) left = refl
      by (Opening q) [] = refl
      by (Opening q) (y ∷ left) = chosen (is_closed_by q y.mark) where
        chosen : (b : Bool)
            → cond b (left ++ bracket p line ∷ [])
            (record { mark = Opening q; line = x.line } ∷ y ∷ (left ++ bracket p line ∷ []))
            ≡ cond b left (record { mark = Opening q; line = x.line } ∷ y ∷ left)
            ++ bracket p line ∷ []
        chosen true = refl
        chosen false = refl

head_same : (x y : Bracket) (xs ys : List Bracket) → x ∷ xs ≡ y ∷ ys → x ≡ y
head_same x y xs ys e = cc

tail_same : (x y : Bracket) (xs ys : List Bracket) → x ∷ xs ≡ y ∷ ys → xs ≡ ys
tail_same x y xs ys e = cc

no_end : (left : List Bracket) (b : Bracket) → [] ≡ left ++ b ∷ [] → ⊥
no_end [] b e = cc
no_end (x ∷ left) b e = cc

last_same : (xs ys : List Bracket) (x y : Bracket) → xs ++ x ∷ [] ≡ ys ++ y ∷ [] → x ≡ y
last_same [] [] x y e = head_same x y [] [] e
last_same [] (z ∷ ys) x y e = absurd (no_end ys y (tail_same x z [] (ys ++ y ∷ []) e))
last_same (z ∷ xs) [] x y e = absurd (no_end xs x (sym (tail_same z y (xs ++ x ∷ []) [] e)))
last_same (z ∷ xs) (w ∷ ys) x y e =
    last_same xs ys x y (tail_same z w (xs ++ x ∷ []) (ys ++ y ∷ []) e)

-- a bracket, and behind it tokens whose brackets pair
record EndsIn (before : List Token) (b : Bracket) : Type 0 where
  front : List Token
  opening : Token
  inside : List Token
  parts : front ++ opening ∷ inside ≡ before
  is : bracket_of opening ≡ b
  paired : IsBalanced inside

last_spelt : (rest : List (Token × Forest)) (f : Forest) (left : List Bracket) (b : Bracket)
    → left_out rest ≡ left ++ b ∷ [] → EndsIn (flat f ++ spelt rest) b
last_spelt [] f left b e = absurd (no_end left b e)
last_spelt ((t, g) ∷ []) f [] b e = record {
  front = flat f;
  opening = t;
  inside = flat g ++ [];
  parts = refl;
  is = head_same (bracket_of t) b [] [] e;
  paired = subst IsBalanced (sym (append-nil (flat g))) (balanced_flat g);
}
last_spelt ((t, g) ∷ []) f (x ∷ left) b e =
    absurd (no_end left b (tail_same (bracket_of t) x [] (left ++ b ∷ []) e))
last_spelt ((t, g) ∷ (u, h) ∷ rest) f [] b e = cc
last_spelt ((t, g) ∷ (u, h) ∷ rest) f (x ∷ left) b e =
    let r =
    last_spelt ((u, h) ∷ rest) g left b
    (tail_same (bracket_of t) x (left_out ((u, h) ∷ rest)) (left ++ b ∷ []) e) in record {
      front = flat f ++ t ∷ r.front;
      opening = r.opening;
      inside = r.inside;
      parts = append_assoc (flat f) (t ∷ r.front) (r.opening ∷ r.inside)
          ∙ ap (λ x. flat f ++ t ∷ x) r.parts;
      is = r.is;
      paired = r.paired;
    }

-- the last bracket that is left
ends_in : (before : List Token) (left : List Bracket) (b : Bracket)
    → unpaired (map bracket_of before) ≡ left ++ b ∷ [] → EndsIn before b
ends_in before left b e = let s = spread before in
    subst (λ x. EndsIn x b) s.parts (last_spelt s.rest s.front left b (s.left ∙ e))

same_closing : (p q : Pair) → Closing p ≡ Closing q → p ≡ q
same_closing p q e = cc

same_opening : (p q : Pair) → Opening p ≡ Opening q → p ≡ q
same_opening p q e = cc

record LeavesLast (before : List Token) (p : Pair) : Type 0 where
  left : List Bracket
  line : ℕ
  is : unpaired (map bracket_of before) ≡ left ++ bracket p line ∷ []

-- where a closing bracket pairs, an opening one is left last
back_leaves : (before : List Token) (t : Token) (p : Pair) → mark_of t ≡ Closing p
    → pairs_back before t ≡ true → LeavesLast before p
back_leaves before t p e h =
    let f = found (λ front opening inside. are_pair opening t && is_balanced inside) before h in
    let pair = pairing (mark_of f.at) (mark_of t) (and_first _ _ f.holds) in
    let same = same_closing pair.pair p (sym pair.closes ∙ e) in
    let inner : unpaired (bracket_of f.at ∷ map bracket_of f.behind) ≡ bracket p f.at.line ∷ [] =
    ap (in_front (mark_of f.at) f.at.line)
    (none_of_its_own
    (balanced_of (length f.behind) f.behind (and_second (are_pair f.at t) _ f.holds)))
    ∙ ap (λ m. in_front m f.at.line []) (pair.opens ∙ ap Opening same) in
    record {
      left = unpaired (map bracket_of f.before);
      line = f.at.line;
      is = ap (λ x. unpaired (map bracket_of x)) (sym f.parts)
          ∙ ap unpaired (map_brackets f.before (f.at ∷ f.behind))
          ∙ same_behind (map bracket_of f.before) (bracket_of f.at ∷ map bracket_of f.behind)
          (bracket p f.at.line ∷ []) inner
          ∙ opening_stays (map bracket_of f.before) p f.at.line;
    }

-- and where an opening one of its kind is left last, it pairs
pairs_with_last : (before : List Token) (t : Token) (p q : Pair) (left : List Bracket) (line : ℕ)
    → mark_of t ≡ Closing p → same_pair q p ≡ true
    → unpaired (map bracket_of before) ≡ left ++ bracket q line ∷ [] → pairs_back before t ≡ true
pairs_with_last before t p q left line e s h =
    let r = ends_in before left (bracket q line) h in
    let opens : mark_of r.opening ≡ Opening q = ap (λ (b : Bracket). b.mark) r.is in
    subst (λ x. pairs_back x t ≡ true) r.parts
    (some (λ front opening inside. are_pair opening t
    && is_balanced inside) r.front r.opening r.inside
    (rw (opens, e, s, is_balanced_of r.inside r.paired) refl))

module _ (t : Token) (ts before : List Token) (bs : List Open)
    (h : unpaired (map bracket_of before)
    ≡ marks bs)
    (further : (before : List Token) (bs : List Open) → unpaired (map bracket_of before) ≡ marks bs
    → line_of_first (λ more. is_wrong_closing (before ++ more)) ts
    ≡ first_wrong (unpaired (marks bs ++ map bracket_of ts)) None) where
  abbrev Goal : Type 0
  Goal =
      line_of_first (λ more. is_wrong_closing (before ++ more)) (t ∷ ts)
      ≡ first_wrong (unpaired (marks bs ++ bracket_of t ∷ map bracket_of ts)) None

  tested : (b : Bool) → (is_closing (mark_of t) && not (pairs_back before t)) ≡ b
      → line_of_first (λ more. is_wrong_closing (before ++ more)) (t ∷ ts)
      ≡ cond b (Some t.line) (line_of_first (λ more. is_wrong_closing (before ++ t ∷ more)) ts)
  tested b e =
      ap (λ x. cond x (Some t.line)
      (line_of_first (λ more. is_wrong_closing (before ++ t ∷ more)) ts))
      (ap (λ x. is_closing (mark_of t) && not (pairs_back x t)) (append-nil before) ∙ e)

  -- no wrong one here
  goes_on : (bs : List Open) → (is_closing (mark_of t) && not (pairs_back before t)) ≡ false
      → unpaired (map bracket_of (before ++ t ∷ [])) ≡ marks bs
      → line_of_first (λ more. is_wrong_closing (before ++ more)) (t ∷ ts)
      ≡ first_wrong (unpaired (marks bs ++ map bracket_of ts)) None
  goes_on bs e k = tested false e
      ∙ sym (λ i. line_of_first (λ more. is_wrong_closing (append_assoc before (t ∷ []) more i))
      ts)
      ∙ further (before ++ t ∷ []) bs k

  marked : (m : Mark) → mark_of t ≡ m
      → first_wrong
      (unpaired (marks bs ++ record { mark = m; line = t.line } ∷ map bracket_of ts)) None
      ≡ first_wrong (unpaired (marks bs ++ bracket_of t ∷ map bracket_of ts)) None
  marked m e =
      ap (λ x. first_wrong
      (unpaired (marks bs ++ record { mark = x; line = t.line } ∷ map bracket_of ts)) None) (sym e)

  plain_here : mark_of t ≡ Plain → Goal
  plain_here e =
      goes_on bs (ap (λ m. is_closing m && not (pairs_back before t)) e)
      (ap unpaired (map_brackets before (t ∷ []))
      ∙ same_behind (map bracket_of before) (bracket_of t ∷ []) []
      (ap (λ m. in_front m t.line []) e)
      ∙ ap unpaired (append-nil (map bracket_of before)) ∙ h)
      ∙ ap (λ x. first_wrong x None)
      (same_behind (marks bs) (map bracket_of ts)
      (record { mark = Plain; line = t.line } ∷ map bracket_of ts) refl) ∙ marked Plain e

  opening_here : (p : Pair) → mark_of t ≡ Opening p → Goal
  opening_here p e =
      let o = entry p t group.Hidden in
      goes_on (bs ++ o ∷ []) (ap (λ m. is_closing m && not (pairs_back before t)) e)
      (ap unpaired (map_brackets before (t ∷ []))
      ∙ ap (λ m. unpaired (map bracket_of before ++ record { mark = m; line = t.line } ∷ [])) e
      ∙ opening_stays (map bracket_of before) p t.line ∙ ap (λ x. x ++ bracket p t.line ∷ []) h
      ∙ sym (sym (append-nil (marks (bs ++ o ∷ []))) ∙ marks_end bs o []))
      ∙ ap (λ x. first_wrong (unpaired x) None) (marks_end bs o (map bracket_of ts))
      ∙ marked (Opening p) e

  wrong_here : (p : Pair) → mark_of t ≡ Closing p → pairs_back before t ≡ false
      → first_wrong
      (unpaired (marks bs ++ record { mark = Closing p; line = t.line } ∷ map bracket_of ts)) None
      ≡ Some t.line → Goal
  wrong_here p e none w = tested true (rw (none, e) refl) ∙ sym w ∙ marked (Closing p) e

  closing_here : (p : Pair) → mark_of t ≡ Closing p → (bs ≡ []) ⊎ Ended bs → Goal
  closing_here p e (inl none) =
      wrong_here p e
      (never_true (pairs_back before t) (λ k. let l = back_leaves before t p e k in
      no_end l.left (bracket p l.line) (sym (h ∙ ap marks none) ∙ l.is)))
      (ap (λ x. first_wrong
      (unpaired (marks x ++ record { mark = Closing p; line = t.line } ∷ map bracket_of ts)) None)
      none)
  closing_here p e (inr last) = by (same_pair last.end.pair p) refl where
    open_last : (rest : List Bracket)
        → marks bs ++ rest ≡ marks last.front ++ bracket last.end.pair last.end.line ∷ rest
    open_last rest = ap (λ x. marks x ++ rest) last.is ∙ marks_end last.front last.end rest

    left_last : unpaired (map bracket_of before)
        ≡ marks last.front ++ bracket last.end.pair last.end.line ∷ []
    left_last = h ∙ sym (append-nil (marks bs)) ∙ open_last []

    by : (b : Bool) → same_pair last.end.pair p ≡ b → Goal
    by true s =
        goes_on last.front
        (rw (
          pairs_with_last before t p last.end.pair
              (marks last.front) last.end.line e s left_last,
          e,
        ) refl)
        (ap unpaired (map_brackets before (t ∷ []))
        ∙ sym (once_more (map bracket_of before) (bracket_of t ∷ []))
        ∙ ap (λ x. unpaired (x ++ bracket_of t ∷ [])) h
        ∙ ap unpaired (open_last (bracket_of t ∷ []))
        ∙ ap (λ m. unpaired
        (marks last.front
        ++ bracket last.end.pair last.end.line ∷ record { mark = m; line = t.line } ∷ [])) e
        ∙ closes_last last.front last.end p t.line [] s
        ∙ ap unpaired (append-nil (marks last.front)) ∙ openings_stay last.front)
        ∙ ap (λ x. first_wrong x None)
        (sym (closes_last last.front last.end p t.line (map bracket_of ts) s))
        ∙ ap (λ x. first_wrong (unpaired x) None)
        (sym (open_last (record { mark = Closing p; line = t.line } ∷ map bracket_of ts)))
        ∙ marked (Closing p) e
    by false s =
        wrong_here p e (never_true (pairs_back before t) (λ k.
        let l = back_leaves before t p e k in
        let same : last.end.pair ≡ p =
        same_opening last.end.pair p
        (ap (λ (b : Bracket). b.mark)
        (last_same (marks last.front) l.left (bracket last.end.pair last.end.line)
        (bracket p l.line) (sym left_last ∙ l.is))) in
        let own : same_pair last.end.pair p ≡ true = ap (λ q. same_pair q p) same ∙ same_self p in
        cc (own, s)))
        (ap (λ x. first_wrong (unpaired x) None)
        (open_last (record { mark = Closing p; line = t.line } ∷ map bracket_of ts))
        ∙ wrong_last last.front last.end p t.line (map bracket_of ts) None s)

-- behind tokens of which opening brackets alone are left
first_closing : (ts before : List Token) (bs : List Open)
    → unpaired (map bracket_of before) ≡ marks bs
    → line_of_first (λ more. is_wrong_closing (before ++ more)) ts
    ≡ first_wrong (unpaired (marks bs ++ map bracket_of ts)) None
first_closing [] before bs h =
    sym (ap (λ x. first_wrong (unpaired x) None) (append-nil (marks bs))
    ∙ ap (λ x. first_wrong x None) (openings_stay bs)
    ∙ ap (λ x. first_wrong x None) (sym (append-nil (marks bs))) ∙ no_closing bs [] None)
first_closing (t ∷ ts) before bs h = by (mark_of t) refl (first_closing ts) where
  by : (m : Mark) → mark_of t ≡ m
      → ((before : List Token) (bs : List Open) → unpaired (map bracket_of before) ≡ marks bs
      → line_of_first (λ more. is_wrong_closing (before ++ more)) ts
      ≡ first_wrong (unpaired (marks bs ++ map bracket_of ts)) None)
      → line_of_first (λ more. is_wrong_closing (before ++ more)) (t ∷ ts)
      ≡ first_wrong (unpaired (marks bs ++ bracket_of t ∷ map bracket_of ts)) None
  by Plain e further = plain_here t ts before bs h further e
  by (Opening p) e further = opening_here t ts before bs h further p e
  by (Closing p) e further = closing_here t ts before bs h further p e (last_of bs)

-- ---- opening brackets in front of some tokens

-- tokens whose brackets pair, and a bracket behind them
record BeginsBy (ts : List Token) (b : Bracket) : Type 0 where
  inside : List Token
  closing : Token
  rest : List Token
  parts : inside ++ closing ∷ rest ≡ ts
  is : bracket_of closing ≡ b
  paired : IsBalanced inside

first_spelt : (rest : List (Token × Forest)) (f : Forest) (b : Bracket) (left : List Bracket)
    → left_out rest ≡ b ∷ left → BeginsBy (flat f ++ spelt rest) b
first_spelt [] f b left e = cc
first_spelt ((t, g) ∷ rest) f b left e = record {
  inside = flat f;
  closing = t;
  rest = flat g ++ spelt rest;
  parts = refl;
  is = head_same (bracket_of t) b (left_out rest) left e;
  paired = balanced_flat f;
}

-- the first bracket that is left
begins_by : (ts : List Token) (b : Bracket) (left : List Bracket)
    → unpaired (map bracket_of ts) ≡ b ∷ left → BeginsBy ts b
begins_by ts b left e = let s = spread ts in
    subst (λ x. BeginsBy x b) s.parts (first_spelt s.rest s.front b left (s.left ∙ e))

record LeavesFirst (ts : List Token) (p : Pair) : Type 0 where
  line : ℕ
  left : List Bracket
  is : unpaired (map bracket_of ts) ≡ record { mark = Closing p; line = line } ∷ left

-- where an opening bracket pairs, a closing one is left first
ahead_leaves : (t : Token) (ts : List Token) (p : Pair) → mark_of t ≡ Opening p
    → pairs_ahead t ts ≡ true → LeavesFirst ts p
ahead_leaves t ts p e h =
    let f = found (λ inside closing rest. are_pair t closing && is_balanced inside) ts h in
    let pair = pairing (mark_of t) (mark_of f.at) (and_first _ _ f.holds) in
    let same = same_opening pair.pair p (sym pair.opens ∙ e) in
    let balanced =
    balanced_of (length f.before) f.before (and_second (are_pair t f.at) _ f.holds) in
    record {
      line = f.at.line;
      left = unpaired (map bracket_of f.behind);
      is = ap (λ x. unpaired (map bracket_of x)) (sym f.parts)
          ∙ none_in_front balanced (f.at ∷ f.behind)
          ∙ ap (λ m. in_front m f.at.line (unpaired (map bracket_of f.behind))) (pair.closes
          ∙ ap Closing same);
    }

-- and where one of its kind is left first, it pairs
pairs_with_first : (t : Token) (ts : List Token) (p : Pair) (b : Bracket) (left : List Bracket)
    → mark_of t ≡ Opening p → b.mark ≡ Closing p
    → unpaired (map bracket_of ts) ≡ b ∷ left → pairs_ahead t ts ≡ true
pairs_with_first t ts p b left e c h =
    let r = begins_by ts b left h in
    let closes : mark_of r.closing ≡ Closing p = ap (λ (b : Bracket). b.mark) r.is ∙ c in
    subst (λ x. pairs_ahead t x ≡ true) r.parts
    (some (λ inside closing rest. are_pair t closing
    && is_balanced inside) r.inside r.closing r.rest
    (rw (e, closes, same_self p, is_balanced_of r.inside r.paired) refl))

-- the line of the first that is no closing one
abbrev first_opening : List Bracket → Option ℕ
first_opening [] = None
first_opening (b ∷ bs) = if is_closing b.mark then first_opening bs else Some b.line

open_line : (ts : List Token)
    → line_of_first is_left_open ts ≡ first_opening (unpaired (map bracket_of ts))
open_line [] = refl
open_line (t ∷ ts) = by (mark_of t) refl (open_line ts) where
  tested : (b : Bool) → (is_opening (mark_of t) && not (pairs_ahead t ts)) ≡ b
      → line_of_first is_left_open (t ∷ ts) ≡ cond b (Some t.line) (line_of_first is_left_open ts)
  tested b e = ap (λ x. cond x (Some t.line) (line_of_first is_left_open ts)) e

  marked : (m : Mark) → mark_of t ≡ m
      → first_opening (in_front m t.line (unpaired (map bracket_of ts)))
      ≡ first_opening (unpaired (map bracket_of (t ∷ ts)))
  marked m e = ap (λ x. first_opening (in_front x t.line (unpaired (map bracket_of ts)))) (sym e)

  opened : (p : Pair) → mark_of t ≡ Opening p → (left : List Bracket)
      → unpaired (map bracket_of ts) ≡ left
      → line_of_first is_left_open ts ≡ first_opening left
      → line_of_first is_left_open (t ∷ ts) ≡ first_opening (in_front (Opening p) t.line left)
  opened p e [] u more =
      tested true
      (rw (
        never_true (pairs_ahead t ts) (λ k. let l = ahead_leaves t ts p e k in
            let never = sym l.is ∙ u in cc never),
        e,
      ) refl)
  opened p e (b ∷ left) u more = chosen (is_closed_by p b.mark) refl where
    chosen : (x : Bool) → is_closed_by p b.mark ≡ x
        → line_of_first is_left_open (t ∷ ts)
        ≡ first_opening (cond x left (record { mark = Opening p; line = t.line } ∷ b ∷ left))
    chosen true c =
        tested false (rw (pairs_with_first t ts p b left e (closes_own p b.mark c) u, e) refl)
        ∙ more
        ∙ ap (λ m. cond (is_closing m) (first_opening left) (Some b.line)) (closes_own p b.mark c)
    chosen false c =
        tested true (rw (
          never_true (pairs_ahead t ts) (λ k.
              let l = ahead_leaves t ts p e k in
              let same : b.mark ≡ Closing p =
              ap (λ (x : Bracket). x.mark)
              (head_same b (record { mark = Closing p; line = l.line }) left l.left (sym u
              ∙ l.is)) in
              let own : is_closed_by p b.mark ≡ true = ap (is_closed_by p) same ∙ same_self p in
              cc (own, c)),
          e,
        ) refl)

  by : (m : Mark) → mark_of t ≡ m
      → line_of_first is_left_open ts ≡ first_opening (unpaired (map bracket_of ts))
      → line_of_first is_left_open (t ∷ ts) ≡ first_opening (unpaired (map bracket_of (t ∷ ts)))
  by Plain e more = tested false (ap (λ m. is_opening m && not (pairs_ahead t ts)) e) ∙ more
      ∙ marked Plain e
  by (Closing p) e more = tested false (ap (λ m. is_opening m && not (pairs_ahead t ts)) e) ∙ more
      ∙ marked (Closing p) e
  by (Opening p) e more = opened p e (unpaired (map bracket_of ts)) refl more
      ∙ marked (Opening p) e

-- ---- both

else_line : (bs : List Bracket) (line : ℕ)
    → or_else (first_wrong bs None) (Some line) ≡ first_wrong bs (Some line)
else_line [] line = refl
else_line (b ∷ bs) line = by (is_closing b.mark) (else_line bs line) where
  by : (x : Bool) → or_else (first_wrong bs None) (Some line) ≡ first_wrong bs (Some line)
      → or_else (cond x (Some b.line) (first_wrong bs None)) (Some line)
      ≡ cond x (Some b.line) (first_wrong bs (Some line))
  by true e = refl
  by false e = e

both : (left : List Bracket)
    → or_else (first_wrong left None) (first_opening left) ≡ first_wrong left (first_line left)
both [] = refl
both (b ∷ bs) = by (is_closing b.mark) where
  by : (x : Bool)
      → or_else (cond x (Some b.line) (first_wrong bs None))
      (cond x (first_opening bs) (Some b.line))
      ≡ cond x (Some b.line) (first_wrong bs (Some b.line))
  by true = refl
  by false = else_line bs b.line

-- the line by what pairs is the line by what is left
pub wrong_is : (tokens : List Token)
    → wrong_line tokens ≡ wrong_among (unpaired (map bracket_of tokens))
unfolding wrong_line
wrong_is tokens =
    ap (λ x. or_else x (line_of_first is_left_open tokens)) (first_closing tokens [] [] refl)
    ∙ ap (or_else (first_wrong (unpaired (map bracket_of tokens)) None)) (open_line tokens)
    ∙ both (unpaired (map bracket_of tokens))
