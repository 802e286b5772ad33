-- Class bodies that don't stand too deep.
use Rattle.std.proofs.Common.{◌≡◌, refl, sym, ◌∙◌, ap, ℕ, zero, suc, ◌+◌, ◌≤◌, arith, Bool, true}
use Rattle.std.proofs.Common.{false, cond, if◌then◌else◌, List, [], ◌∷◌, ◌++◌, length}
use Rattle.std.proofs.Common.{length-append, map, Option, Some, None}
use Rattle.java_token.specs.declared.token.Token.{Token}
use Rattle.segments.specs.declared.bracket.Pair.{Pair}
use Rattle.segments.specs.declared.bracket.Mark.TheVariants.{Opening}
use Rattle.segments.specs.declared.segment.SegEnd.TheVariants.{Semi, Body, Skipped}
use Rattle.segments.specs.Brackets.{mark_of}
use Rattle.segments.specs.Words.{is_semicolon}
use Rattle.segments.specs.Cut.{Piece, head_of, is_class_head, line_of, without_last, segment_of}
use Rattle.segments.specs.Cut.{tail_of, cut_within, first_some, depth_of, deep_beyond}
use Rattle.segments.specs.Segmentwise.{ends}
use Rattle.segments.proofs.Ends.{between_ends, behind_ends}
use Rattle.segments.proofs.Forests.{Forest, Nothing, Single, Group, flat}
use Rattle.segments.proofs.Pieces.{pieces_of}
use Rattle.segments.proofs.Heads.{without_last_end, opening_no_semicolon}
use Rattle.segments.proofs.Outside.{body_within, deep_within, level_segments, level_deep}
use Rattle.segments.proofs.Outside.{ends_single, segment_is, depth_is}

first_none : (x : Option ℕ) (xs : List (Option ℕ)) → first_some (x ∷ xs) ≡ None → x ≡ None
first_none None xs e = refl
first_none (Some line) xs e = cc

rest_none : (x : Option ℕ) (xs : List (Option ℕ)) → first_some (x ∷ xs) ≡ None
    → first_some xs ≡ None
rest_none None xs e = e
rest_none (Some line) xs e = cc

-- these parts have the same segments, however deep class bodies are cut
abbrev Agrees : ℕ → ℕ → List (List Piece × Piece) → Type 0
Agrees n k parts = first_some (map (depth_of (deep_within n)) parts) ≡ None
    → map (segment_of (body_within n)) parts ≡ map (segment_of (body_within k)) parts

agrees_cons : (n k : ℕ) (part : List Piece × Piece) (parts : List (List Piece × Piece))
    → (depth_of (deep_within n) part ≡ None
    → segment_of (body_within n) part ≡ segment_of (body_within k) part) → Agrees n k parts
    → Agrees n k (part ∷ parts)
agrees_cons n k part parts one more e =
    let a =
    one (first_none (depth_of (deep_within n) part) (map (depth_of (deep_within n)) parts) e) in
    let b =
    more (rest_none (depth_of (deep_within n) part) (map (depth_of (deep_within n)) parts) e) in
    ap (λ x. x ∷ map (segment_of (body_within n)) parts) a
    ∙ ap (λ xs. segment_of (body_within k) part ∷ xs) b

agrees_going : (n k : ℕ) (before : List Piece) (p : Piece) (ps : List Piece) (b : Bool)
    → ends before p ≡ b
    → Agrees n k (if b then (before, p) ∷ between_ends [] ps
    else between_ends (before ++ p ∷ []) ps) → Agrees n k (between_ends before (p ∷ ps))
agrees_going n k before p ps b e h = rw e h

semicolon_same : (n k : ℕ) (before : List Piece) (t : Token) → is_semicolon t ≡ true
    → segment_of (body_within n) (before, t ∷ []) ≡ segment_of (body_within k) (before, t ∷ [])
semicolon_same n k before t s =
    ap (λ b. record {
      head = head_of before;
      end = cond b Semi
          (cond (is_class_head (head_of before)) (body_within n t.line []) (Skipped t.line));
    }) s
    ∙ sym (ap (λ b. record {
      head = head_of before;
      end = cond b Semi
          (cond (is_class_head (head_of before)) (body_within k t.line []) (Skipped t.line));
    }) s)

-- a list whose class bodies agree
cut_agrees : (f : Forest) (n k : ℕ) → Agrees n k (between_ends [] (pieces_of f))
    → deep_beyond n (flat f) ≡ None → cut_within n (flat f) ≡ cut_within k (flat f)
cut_agrees f n k h none =
    sym (level_segments n f)
    ∙ ap (λ x. x ++ tail_of (head_of (behind_ends [] (pieces_of f)))) (h (level_deep n f ∙ none))
    ∙ level_segments k f

body_same : (i : Forest) (c : Token) (n k line deep : ℕ) → length (flat i) + 1 ≤ k
    → ((m j : ℕ) → length (flat i) ≤ j → Agrees m j (between_ends [] (pieces_of i)))
    → deep_within n deep (without_last (flat i ++ c ∷ [])) ≡ None
    → body_within n line (without_last (flat i ++ c ∷ []))
    ≡ body_within k line (without_last (flat i ++ c ∷ []))
body_same i c zero k line deep h inside none = cc
body_same i c (suc m) zero line deep h inside none = absurd (omega arith)
body_same i c (suc m) (suc j) line deep h inside none =
    let e = without_last_end (flat i) c in
    let d : deep_beyond m (flat i) ≡ None = ap (deep_beyond m) (sym e) ∙ none in
    ap (λ x. Body (cut_within m x)) e ∙ ap Body (cut_agrees i m j (inside m j (omega arith)) d)
    ∙ ap (λ x. Body (cut_within j x)) (sym e)

group_same : (p : Pair) (o : Token) → mark_of o ≡ Opening p
    → (i : Forest) (c : Token) (n k : ℕ) (before : List Piece) → length (flat i) + 1 ≤ k
    → ((m j : ℕ) → length (flat i) ≤ j → Agrees m j (between_ends [] (pieces_of i)))
    → depth_of (deep_within n) (before, o ∷ (flat i ++ c ∷ [])) ≡ None
    → segment_of (body_within n) (before, o ∷ (flat i ++ c ∷ []))
    ≡ segment_of (body_within k) (before, o ∷ (flat i ++ c ∷ []))
group_same p o eo i c n k before h inside none = by (is_class_head (head_of before)) refl where
  by : (b : Bool) → is_class_head (head_of before) ≡ b
      → segment_of (body_within n) (before, o ∷ (flat i ++ c ∷ []))
      ≡ segment_of (body_within k) (before, o ∷ (flat i ++ c ∷ []))
  by false e = segment_is n before o (flat i ++ c ∷ []) false (opening_no_semicolon o p eo) e
      ∙ sym (segment_is k before o (flat i ++ c ∷ []) false (opening_no_semicolon o p eo) e)
  by true e =
      let d = sym (depth_is n before o (flat i ++ c ∷ []) true (opening_no_semicolon o p eo) e)
      ∙ none in
      segment_is n before o (flat i ++ c ∷ []) true (opening_no_semicolon o p eo) e
      ∙ ap (λ x. record { head = head_of before; end = x })
      (body_same i c n k o.line (line_of (head_of before)) h inside d)
      ∙ sym (segment_is k before o (flat i ++ c ∷ []) true (opening_no_semicolon o p eo) e)

agree : (f : Forest) (n k : ℕ) (before : List Piece) → length (flat f) ≤ k
    → Agrees n k (between_ends before (pieces_of f))
agree Nothing n k before h = λ e. refl
agree (Single t e f) n k before h =
    by (ends before (t ∷ [])) refl (λ ps. agree f n k ps (omega arith)) where
      by : (b : Bool) → ends before (t ∷ []) ≡ b
          → ((ps : List Piece) → Agrees n k (between_ends ps (pieces_of f)))
          → Agrees n k (between_ends before ((t ∷ []) ∷ pieces_of f))
      by false x behind =
          agrees_going n k before (t ∷ []) (pieces_of f) false x (behind (before ++ (t ∷ []) ∷ []))
      by true x behind = agrees_going n k before (t ∷ []) (pieces_of f) true x
          (agrees_cons n k (before, t ∷ []) (between_ends [] (pieces_of f))
          (λ none. semicolon_same n k before t (sym (ends_single before t e) ∙ x)) (behind []))
agree (Group p o eo i c ec f) n k before h =
    let len = length-append (flat i) (c ∷ flat f) in
    by (ends before (o ∷ (flat i ++ c ∷ []))) refl (λ ps. agree f n k ps (omega arith))
    (λ m j s. agree i m j [] s) (omega arith) where
      by : (b : Bool) → ends before (o ∷ (flat i ++ c ∷ [])) ≡ b
          → ((ps : List Piece) → Agrees n k (between_ends ps (pieces_of f)))
          → ((m j : ℕ) → length (flat i) ≤ j → Agrees m j (between_ends [] (pieces_of i)))
          → length (flat i) + 1 ≤ k
          → Agrees n k (between_ends before ((o ∷ (flat i ++ c ∷ [])) ∷ pieces_of f))
      by false x behind inside s =
          agrees_going n k before (o ∷ (flat i ++ c ∷ [])) (pieces_of f) false x
          (behind (before ++ (o ∷ (flat i ++ c ∷ [])) ∷ []))
      by true x behind inside s =
          agrees_going n k before (o ∷ (flat i ++ c ∷ [])) (pieces_of f) true x
          (agrees_cons n k (before, o ∷ (flat i ++ c ∷ [])) (between_ends [] (pieces_of f))
          (group_same p o eo i c n k before s inside) (behind []))

-- where no class body stands too deep, the cut is the whole one
pub cut_whole : (f : Forest) (n k : ℕ) → length (flat f) ≤ k → deep_beyond n (flat f) ≡ None
    → cut_within n (flat f) ≡ cut_within k (flat f)
cut_whole f n k h none = cut_agrees f n k (agree f n k [] h) none
