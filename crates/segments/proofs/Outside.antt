-- What a cutter does with a whole forest, outside all brackets of a level.
use Rattle.std.proofs.Common.{◌≡◌, refl, sym, ◌∙◌, ap, ℕ, zero, suc, ◌-◌, arith, Bool, true}
use Rattle.std.proofs.Common.{false, not, ◌||◌, ◌&&◌, ◌==◌, cond, if◌then◌else◌, List, [], ◌∷◌}
use Rattle.std.proofs.Common.{◌++◌, append_assoc, append-nil, map, Option, Some, None}
use Rattle.std.proofs.Math.Dec.{eqb-suc-zero}
use Rattle.java_token.specs.declared.token.Token.{Token}
use Rattle.segments.specs.declared.bracket.Pair.{Pair}
use Rattle.segments.specs.declared.bracket.Pair.TheVariants.{Parentheses, Brackets, Braces}
use Rattle.segments.specs.declared.bracket.Mark.TheVariants.{Opening, Closing, Plain}
use Rattle.segments.specs.declared.segment.Segment.{Segment}
use Rattle.segments.specs.declared.segment.SegEnd.{SegEnd}
use Rattle.segments.specs.declared.segment.SegEnd.TheVariants.{Semi, Body, Skipped}
use Rattle.segments.specs.declared.level.Level.{Level}
use Rattle.segments.proofs.LevelModel.{Cutter}
use Rattle.segments.proofs.LevelModel.{Open}
use Rattle.segments.specs.declared.cutter.Place.TheVariants as place
use Rattle.segments.proofs.GroupKinds as group
use Rattle.segments.specs.Brackets.{mark_of}
use Rattle.segments.specs.Words.{is_semicolon, is_assign, is_default}
use Rattle.segments.specs.Cut.{Piece, pieces, is_end, begins, is_assigned, last_begins}
use Rattle.segments.specs.Cut.{opens_braces, mark_is_braces, braces_alone, head_of, is_class_head}
use Rattle.segments.specs.Cut.{line_of, without_last, segment_of, tail_of, cut_by, cut_within}
use Rattle.segments.specs.Cut.{first_some, depth_of, deep_by, deep_beyond}
use Rattle.segments.specs.Places.{between, behind}
use Rattle.segments.specs.Segmentwise.{ends}
use Rattle.segments.proofs.Ends.{between_ends, behind_ends}
use Rattle.segments.specs.Levels.{fresh, stored, ended, segments_of}
use Rattle.segments.specs.Steps.{place_in, is_ending, or_else, first_line_or}
use Rattle.segments.proofs.LevelModel.{entry, noted_deep, skipping, body, ending, behind_default}
use Rattle.segments.proofs.LevelModel.{opened_in_head, step, run}
use Rattle.segments.proofs.Forests.{Forest, Nothing, Single, Group, flat}
use Rattle.segments.proofs.Pieces.{pieces_of}
use Rattle.segments.proofs.Places.{parts_flat, left_flat}
use Rattle.segments.proofs.Alone.{alone, alone_whole}
use Rattle.segments.proofs.Heads.{last_begins_end, is_assigned_end, head_end, without_last_end}
use Rattle.segments.proofs.Heads.{opening_no_semicolon, opening_no_assign, opening_no_default}
use Rattle.segments.proofs.Running.{at, step_plain, step_opening, step_closing, run_single}
use Rattle.segments.proofs.Running.{run_group, hidden_run, grown, place_in_unassigned, inside_all}
use Rattle.segments.proofs.Running.{inside_alone}

-- ---- a group of the head

abbrev settled : Level → Level
settled l = record l { is_behind_default = false }

abbrev kept : Bool → Forest → List Token
kept assigned g = if assigned then alone g else flat g

stored_group : (l : Level) (o : Token) (xs : List Token) (c : Token)
    → stored (grown (stored l o) xs) c ≡ grown l (o ∷ (xs ++ c ∷ []))
stored_group l o xs c = ap (λ h. record l { head = h }) (simp append_assoc)

stored_braces : (l : Level) (o c : Token) → stored (stored l o) c ≡ grown l (o ∷ c ∷ [])
stored_braces l o c = ap (λ h. record l { head = h }) (simp append_assoc)

outer_opened : (l : Level) (bs : List Open) (d : Option ℕ) (p : Pair) (o : Token)
    → mark_of o ≡ Opening p → is_ending p l ≡ false
    → step (at l bs place.Outside d) o
    ≡ at (stored (settled l) o) (bs ++ entry p o group.Outer ∷ []) (place_in p l.is_assigned) d
outer_opened l bs d p o eo h =
    step_opening l bs place.Outside d p o eo
    ∙ ap (λ b. cond b (ending (at l bs place.Outside d) o)
    (opened_in_head (behind_default (at l bs place.Outside d)) p o group.Outer)) h

outer_all : (l : Level) (bs : List Open) (d : Option ℕ) (p : Pair) (o : Token) (eo : mark_of o
    ≡ Opening p) (i : Forest) (c : Token) (ec : mark_of c ≡ Closing p) (ys : List Token)
    (s : Cutter)
    → is_ending p l ≡ false → l.is_assigned ≡ false
    → run (at (grown (settled l) (flat (Group p o eo i c ec Nothing))) bs place.Outside d) ys ≡ s
    → run (at l bs place.Outside d) (o ∷ (flat i ++ c ∷ ys)) ≡ s
outer_all l bs d p o eo i c ec ys s h a after =
    run_group _ _ _ _ _ o (flat i) c ys
    (outer_opened l bs d p o eo h
    ∙ ap (λ w. at (stored (settled l) o) (bs ++ entry p o group.Outer ∷ []) w d) (ap (place_in p) a
    ∙ place_in_unassigned p))
    (inside_all i (stored (settled l) o) (bs ++ entry p o group.Outer ∷ []) d a)
    (step_closing _ bs place.Inside d p o group.Outer c ec
    ∙ ap (λ x. at x bs place.Outside d) (stored_group (settled l) o (flat i) c))
    after

outer_alone : (p : Pair) (l : Level) (bs : List Open) (d : Option ℕ) (o : Token) (eo : mark_of o
    ≡ Opening p) (i : Forest) (c : Token) (ec : mark_of c ≡ Closing p) (ys : List Token)
    (s : Cutter)
    → is_ending p l ≡ false → l.is_assigned ≡ true
    → run (at (grown (settled l) (alone (Group p o eo i c ec Nothing))) bs place.Outside d) ys ≡ s
    → run (at l bs place.Outside d) (o ∷ (flat i ++ c ∷ ys)) ≡ s
outer_alone Braces l bs d o eo i c ec ys s h a after =
    run_group _ _ _ _ _ o (flat i) c ys
    (outer_opened l bs d Braces o eo h
    ∙ ap (λ x. at (stored (settled l) o) (bs ++ entry Braces o group.Outer ∷ [])
    (place_in Braces x) d) a)
    (hidden_run i (stored (settled l) o) (bs ++ entry Braces o group.Outer ∷ []) d)
    (step_closing _ bs place.Hidden d Braces o group.Outer c ec
    ∙ ap (λ x. at x bs place.Outside d) (stored_braces (settled l) o c))
    after
outer_alone Parentheses l bs d o eo i c ec ys s h a after =
    run_group _ _ _ _ _ o (flat i) c ys
    (outer_opened l bs d Parentheses o eo h)
    (inside_alone i (stored (settled l) o) (bs ++ entry Parentheses o group.Outer ∷ []) d a)
    (step_closing _ bs place.Inside d Parentheses o group.Outer c ec
    ∙ ap (λ x. at x bs place.Outside d) (stored_group (settled l) o (alone i) c))
    after
outer_alone Brackets l bs d o eo i c ec ys s h a after =
    run_group _ _ _ _ _ o (flat i) c ys
    (outer_opened l bs d Brackets o eo h)
    (inside_alone i (stored (settled l) o) (bs ++ entry Brackets o group.Outer ∷ []) d a)
    (step_closing _ bs place.Inside d Brackets o group.Outer c ec
    ∙ ap (λ x. at x bs place.Outside d) (stored_group (settled l) o (alone i) c))
    after

outer_run : (l : Level) (bs : List Open) (d : Option ℕ) (p : Pair) (o : Token) (eo : mark_of o
    ≡ Opening p) (i : Forest) (c : Token) (ec : mark_of c ≡ Closing p) (ys : List Token)
    (s : Cutter)
    → is_ending p l ≡ false
    → run (at
    (grown (settled l) (kept l.is_assigned (Group p o eo i c ec Nothing))) bs place.Outside d) ys
    ≡ s
    → run (at l bs place.Outside d) (o ∷ (flat i ++ c ∷ ys)) ≡ s
outer_run l bs d p o eo i c ec ys s h after = by l.is_assigned refl after where
  by : (b : Bool) → l.is_assigned ≡ b
      → run (at (grown (settled l) (kept b (Group p o eo i c ec Nothing))) bs place.Outside d) ys
      ≡ s
      → run (at l bs place.Outside d) (o ∷ (flat i ++ c ∷ ys)) ≡ s
  by true a after = outer_alone p l bs d o eo i c ec ys s h a after
  by false a after = outer_all l bs d p o eo i c ec ys s h a after

-- ---- levels as their pieces

-- the level behind these segments and pieces
abbrev pub level_of : ℕ → List Segment → List Piece → Level
level_of left done before = record {
  left = left;
  done = done;
  head = head_of before;
  is_assigned = is_assigned before;
  is_behind_default = last_begins is_default before;
}

abbrev pub body_within : ℕ → ℕ → List Token → SegEnd
body_within zero = λ line inside. Skipped line
body_within (suc most) = λ line inside. Body (cut_within most inside)

pub cut_by_body : (n : ℕ) (tokens : List Token)
    → cut_within n tokens ≡ cut_by (body_within n) tokens
unfolding cut_within
cut_by_body zero tokens = refl
cut_by_body (suc n) tokens = refl

abbrev pub deep_within : ℕ → ℕ → List Token → Option ℕ
deep_within zero = λ line inside. Some line
deep_within (suc most) = λ line inside. deep_beyond most inside

pub deep_by_body : (n : ℕ) (tokens : List Token)
    → deep_beyond n tokens ≡ deep_by (deep_within n) tokens
unfolding deep_beyond
deep_by_body zero tokens = refl
deep_by_body (suc n) tokens = refl

abbrev pub either : Option ℕ → Option ℕ → Option ℕ
either (Some line) other = Some line
either None other = other

either_none : (d : Option ℕ) → either d None ≡ d
either_none (Some line) = refl
either_none None = refl

either_first : (d x : Option ℕ) (xs : List (Option ℕ))
    → either d (first_some (x ∷ xs)) ≡ either (either d x) (first_some xs)
either_first (Some line) x xs = refl
either_first None None xs = refl
either_first None (Some line) xs = refl

or_else_either : (d : Option ℕ) (line : ℕ) → or_else d line ≡ either d (Some line)
or_else_either (Some other) line = refl
or_else_either None line = refl

-- where the cutter is behind these pieces
abbrev pub after : ℕ → List Segment → List Piece → List Open → Option ℕ → List Piece → Cutter
after n done before bs d ps =
    at (level_of n (done ++ map (segment_of (body_within n)) (between_ends before ps))
    (behind_ends before ps)) bs place.Outside
    (either d (first_some (map (depth_of (deep_within n)) (between_ends before ps))))

after_by : ℕ → List Segment → List Piece → List Open → Option ℕ → Piece → List Piece → Bool →
    Cutter
after_by n done before bs d p ps b =
    at (level_of n
    (done ++ map (segment_of (body_within n)) (if b then (before, p) ∷ between_ends [] ps
    else between_ends (before ++ p ∷ []) ps))
    (if b then behind_ends [] ps else behind_ends (before ++ p ∷ []) ps)) bs place.Outside
    (either d
    (first_some
    (map (depth_of (deep_within n)) (if b then (before, p) ∷ between_ends [] ps
    else between_ends (before ++ p ∷ []) ps))))

after_going : (n : ℕ) (done : List Segment) (before : List Piece) (bs : List Open) (d : Option ℕ)
    (p : Piece) (ps : List Piece) → ends before p ≡ false
    → after n done (before ++ p ∷ []) bs d ps ≡ after n done before bs d (p ∷ ps)
unfolding after_by
after_going n done before bs d p ps e = sym (ap (after_by n done before bs d p ps) e)

after_end : (n : ℕ) (done : List Segment) (before : List Piece) (bs : List Open) (d : Option ℕ)
    (p : Piece) (ps : List Piece) → ends before p ≡ true
    → after n (done ++ segment_of (body_within n) (before, p) ∷ []) [] bs
    (either d (depth_of (deep_within n) (before, p))) ps ≡ after n done before bs d (p ∷ ps)
unfolding after_by
after_end n done before bs d p ps e =
    let xs = between_ends [] ps in
    ap (λ x. at (level_of n x (behind_ends [] ps)) bs place.Outside
    (either (either d (depth_of (deep_within n) (before, p)))
    (first_some (map (depth_of (deep_within n)) xs))))
    (append_assoc done (segment_of (body_within n) (before, p) ∷ [])
    (map (segment_of (body_within n)) xs))
    ∙ ap (λ x. at
    (level_of n (done ++ map (segment_of (body_within n)) ((before, p) ∷ xs))
    (behind_ends [] ps)) bs place.Outside x)
    (sym (either_first d (depth_of (deep_within n) (before, p))
    (map (depth_of (deep_within n)) xs)))
    ∙ sym (ap (after_by n done before bs d p ps) e)

-- ---- one token

or_false : (b c : Bool) → (b || (false && c)) ≡ b
or_false true c = refl
or_false false c = refl

pub ends_single : (before : List Piece) (t : Token)
    → mark_of t ≡ Plain → ends before (t ∷ []) ≡ is_semicolon t
unfolding opens_braces
ends_single before t e =
    ap (λ m. is_semicolon t
    || (mark_is_braces m && not (is_assigned before || last_begins is_default before))) e
    ∙ or_false (is_semicolon t) (not (is_assigned before || last_begins is_default before))

-- a level with one piece more
grown_by : (n : ℕ) (done : List Segment) (before : List Piece) (p : Piece) (more : List Token)
    (a b : Bool)
    → (if is_assigned before then braces_alone p else p) ≡ more
    → is_assigned before || begins is_assign p ≡ a → begins is_default p ≡ b
    → record (grown (level_of n done before) more) { is_assigned = a; is_behind_default = b }
    ≡ level_of n done (before ++ p ∷ [])
grown_by n done before p more a b m e f =
    let h = head_end before p in
    let i = is_assigned_end before p in
    let j = last_begins_end is_default before p in
    rw (h, i, j, ← m, ← e, ← f) refl

single_alone : (t : Token) (e : mark_of t ≡ Plain) (b : Bool)
    → cond b (braces_alone (t ∷ [])) (t ∷ []) ≡ t ∷ []
single_alone t e true = alone_whole (Single t e Nothing)
single_alone t e false = refl

semicolon_step : (n : ℕ) (done : List Segment) (before : List Piece) (bs : List Open)
    (d : Option ℕ)
    (t : Token) → mark_of t ≡ Plain → is_semicolon t ≡ true
    → step (at (level_of n done before) bs place.Outside d) t
    ≡ at (level_of n (done ++ segment_of (body_within n) (before, t ∷ []) ∷ []) []) bs
    place.Outside
    (either d (depth_of (deep_within n) (before, t ∷ [])))
semicolon_step n done before bs d t e s =
    let l = level_of n done before in
    step_plain l bs place.Outside d t e
    ∙ ap (λ b. at
    (cond b (ended l Semi)
    (record (stored l t) {
      is_assigned = l.is_assigned || is_assign t;
      is_behind_default = is_default t;
    })) bs place.Outside d) s
    ∙ ap (λ b. at
    (level_of n
    (done ++ record {
      head = head_of before;
      end = cond b Semi
          (cond (is_class_head (head_of before)) (body_within n t.line []) (Skipped t.line));
    } ∷ []) [])
    bs place.Outside d) (sym s)
    ∙ ap (λ x. at
    (level_of n (done ++ segment_of (body_within n) (before, t ∷ []) ∷ []) []) bs place.Outside x)
    (sym (either_none d)
    ∙ ap (λ b. either d
    (cond b None
    (cond (is_class_head (head_of before)) (deep_within n (line_of (head_of before)) []) None)))
    (sym s))

other_step : (n : ℕ) (done : List Segment) (before : List Piece) (bs : List Open) (d : Option ℕ)
    (t : Token) → mark_of t ≡ Plain → is_semicolon t ≡ false
    → step (at (level_of n done before) bs place.Outside d) t
    ≡ at (level_of n done (before ++ (t ∷ []) ∷ [])) bs place.Outside d
other_step n done before bs d t e s =
    let l = level_of n done before in
    step_plain l bs place.Outside d t e
    ∙ ap (λ b. at
    (cond b (ended l Semi)
    (record (stored l t) {
      is_assigned = l.is_assigned || is_assign t;
      is_behind_default = is_default t;
    })) bs place.Outside d) s
    ∙ ap (λ x. at x bs place.Outside d)
    (grown_by n done before (t ∷ []) (t ∷ []) (is_assigned before || is_assign t) (is_default t)
    (single_alone t e (is_assigned before)) refl refl)

-- ---- a group that ends a segment

pub ends_group : (p : Pair) (n : ℕ) (done : List Segment) (before : List Piece) (o : Token)
    (rest : List Token) → mark_of o ≡ Opening p
    → ends before (o ∷ rest) ≡ is_ending p (level_of n done before)
unfolding opens_braces
ends_group p n done before o rest e =
    ap (λ b. b
    || (mark_is_braces (mark_of o) && not (is_assigned before || last_begins is_default before)))
    (opening_no_semicolon o p e)
    ∙ ap (λ m. mark_is_braces m && not (is_assigned before || last_begins is_default before)) e
    ∙ by p
  where
    by : (q : Pair)
        → (mark_is_braces (Opening q) && not (is_assigned before || last_begins is_default before))
        ≡ is_ending q (level_of n done before)
    by Parentheses = refl
    by Brackets = refl
    by Braces = refl

pub ending_braces : (p : Pair) (l : Level) → is_ending p l ≡ true → p ≡ Braces
ending_braces Parentheses l e = cc
ending_braces Brackets l e = cc
ending_braces Braces l e = refl

first_line_class : (head : List Token) (t : Token) → is_class_head head ≡ true
    → first_line_or head t ≡ line_of head
unfolding is_class_head
first_line_class [] t e = cc
first_line_class (u ∷ us) t e = refl

-- the level behind a segment with this end
abbrev closed_level : ℕ → List Segment → List Piece → SegEnd → Level
closed_level n done before end =
    level_of n (done ++ record { head = head_of before; end = end } ∷ []) []

pub segment_is : (n : ℕ) (before : List Piece) (o : Token) (rest : List Token) (b : Bool)
    → is_semicolon o ≡ false → is_class_head (head_of before) ≡ b
    → segment_of (body_within n) (before, o ∷ rest)
    ≡ record {
      head = head_of before;
      end = cond b (body_within n o.line (without_last rest)) (Skipped o.line);
    }
segment_is n before o rest b s h =
    let of : SegEnd → Segment = λ x. record { head = head_of before; end = x } in
    ap (λ x. of
    (cond x Semi
    (cond (is_class_head (head_of before)) (body_within n o.line (without_last rest))
    (Skipped o.line)))) s
    ∙ ap (λ x. of (cond x (body_within n o.line (without_last rest)) (Skipped o.line))) h

pub depth_is : (n : ℕ) (before : List Piece) (o : Token) (rest : List Token) (b : Bool)
    → is_semicolon o ≡ false → is_class_head (head_of before) ≡ b
    → depth_of (deep_within n) (before, o ∷ rest)
    ≡ cond b (deep_within n (line_of (head_of before)) (without_last rest)) None
depth_is n before o rest b s h =
    ap (λ x. cond x None
    (cond (is_class_head (head_of before))
    (deep_within n (line_of (head_of before)) (without_last rest)) None)) s
    ∙ ap (λ x. cond x (deep_within n (line_of (head_of before)) (without_last rest)) None) h

-- the state behind a group that ends a segment
target : (n : ℕ) (done : List Segment) (before : List Piece) (bs : List Open) (d : Option ℕ)
    (o : Token) (rest : List Token) (b : Bool) → is_semicolon o ≡ false
    → is_class_head (head_of before) ≡ b
    → at (closed_level n done before
    (cond b (body_within n o.line (without_last rest)) (Skipped o.line))) bs place.Outside
    (either d (cond b (deep_within n (line_of (head_of before)) (without_last rest)) None))
    ≡ at (level_of n
    (done ++ segment_of (body_within n) (before, o ∷ rest) ∷ []) []) bs place.Outside
    (either d (depth_of (deep_within n) (before, o ∷ rest)))
target n done before bs d o rest b s h =
    ap (λ x. at (level_of n (done ++ x ∷ []) []) bs place.Outside
    (either d (cond b (deep_within n (line_of (head_of before)) (without_last rest)) None)))
    (sym (segment_is n before o rest b s h))
    ∙ ap (λ x. at
    (level_of n (done ++ segment_of (body_within n) (before, o ∷ rest) ∷ []) []) bs place.Outside
    (either d x)) (sym (depth_is n before o rest b s h))

-- the step at its opening brace
ending_opened : (l : Level) (bs : List Open) (d : Option ℕ) (o : Token) (b : Bool)
    → mark_of o ≡ Opening Braces → is_ending Braces l ≡ true → is_class_head l.head ≡ b
    → step (at l bs place.Outside d) o
    ≡ cond b
    (cond (l.left == 0) (skipping (noted_deep (at l bs place.Outside d) o) o)
    (body (at l bs place.Outside d) o)) (skipping (at l bs place.Outside d) o)
ending_opened l bs d o b eo h k =
    let s = at l bs place.Outside d in
    step_opening l bs place.Outside d Braces o eo
    ∙ ap (λ x. cond x (ending s o) (opened_in_head (behind_default s) Braces o group.Outer)) h
    ∙ ap (λ x. cond x (cond (l.left == 0) (skipping (noted_deep s o) o) (body s o))
    (skipping s o)) k

skipped_run : (n : ℕ) (done : List Segment) (before : List Piece) (bs : List Open) (d : Option ℕ)
    (o : Token) → mark_of o ≡ Opening Braces
    → (i : Forest) (c : Token) → mark_of c ≡ Closing Braces → (ys : List Token) (s : Cutter)
    → is_ending Braces (level_of n done before) ≡ true → is_class_head (head_of before) ≡ false
    → run (at
    (level_of n
    (done ++ segment_of (body_within n) (before, o ∷ (flat i ++ c ∷ [])) ∷ []) []) bs place.Outside
    (either d (depth_of (deep_within n) (before, o ∷ (flat i ++ c ∷ []))))) ys ≡ s
    → run (at (level_of n done before) bs place.Outside d) (o ∷ (flat i ++ c ∷ ys)) ≡ s
skipped_run n done before bs d o eo i c ec ys s h k after =
    let l = level_of n done before in
    run_group _ _ _ _ _ o (flat i) c ys
    (ending_opened l bs d o false eo h k)
    (hidden_run i l (bs ++ entry Braces o group.Skipped ∷ []) d)
    (step_closing l bs place.Hidden d Braces o group.Skipped c ec
    ∙ ap (λ x. at (closed_level n done before (Skipped o.line)) bs place.Outside x)
    (sym (either_none d))
    ∙ target n done before bs d o (flat i ++ c ∷ []) false (opening_no_semicolon o Braces eo) k)
    after

too_deep_run : (done : List Segment) (before : List Piece) (bs : List Open) (d : Option ℕ)
    (o : Token) → mark_of o ≡ Opening Braces
    → (i : Forest) (c : Token) → mark_of c ≡ Closing Braces → (ys : List Token) (s : Cutter)
    → is_ending Braces (level_of zero done before) ≡ true → is_class_head (head_of before) ≡ true
    → run (at
    (level_of zero
    (done ++ segment_of (body_within zero) (before, o ∷ (flat i ++ c ∷ [])) ∷ []) []) bs
    place.Outside
    (either d (depth_of (deep_within zero) (before, o ∷ (flat i ++ c ∷ []))))) ys ≡ s
    → run (at (level_of zero done before) bs place.Outside d) (o ∷ (flat i ++ c ∷ ys)) ≡ s
too_deep_run done before bs d o eo i c ec ys s h k after =
    let l = level_of zero done before in
    let e = or_else d (first_line_or (head_of before) o) in
    run_group _ _ _ _ _ o (flat i) c ys
    (ending_opened l bs d o true eo h k)
    (hidden_run i l (bs ++ entry Braces o group.Skipped ∷ []) e)
    (step_closing l bs place.Hidden e Braces o group.Skipped c ec
    ∙ ap (λ x. at (closed_level zero done before (Skipped o.line)) bs place.Outside x)
    (or_else_either d (first_line_or (head_of before) o)
    ∙ ap (λ x. either d (Some x)) (first_line_class (head_of before) o k))
    ∙ target zero done before bs d o (flat i ++ c ∷ []) true (opening_no_semicolon o Braces eo) k)
    after

-- what a level holds at the end of a class body
pub level_segments : (m : ℕ) (i : Forest)
    → segments_of
    (level_of m (map (segment_of (body_within m)) (between_ends [] (pieces_of i)))
    (behind_ends [] (pieces_of i))) ≡ cut_within m (flat i)
level_segments m i =
    ap (λ xs. map (segment_of (body_within m)) xs
    ++ tail_of (head_of (behind_ends [] (pieces_of i)))) (sym (parts_flat i))
    ∙ ap (λ ys. map (segment_of (body_within m)) (between is_end (pieces (flat i)))
    ++ tail_of (head_of ys)) (sym (left_flat i))
    ∙ sym (cut_by_body m (flat i))

pub level_deep : (m : ℕ) (i : Forest)
    → first_some (map (depth_of (deep_within m)) (between_ends [] (pieces_of i)))
    ≡ deep_beyond m (flat i)
level_deep m i = ap (λ xs. first_some (map (depth_of (deep_within m)) xs)) (sym (parts_flat i))
    ∙ sym (deep_by_body m (flat i))

suc_less : (m : ℕ) → suc m - 1 ≡ m
suc_less m = omega arith

body_run : (m : ℕ) (done : List Segment) (before : List Piece) (bs : List Open) (d : Option ℕ)
    (o : Token) → mark_of o ≡ Opening Braces
    → (i : Forest) (c : Token) → mark_of c ≡ Closing Braces → (ys : List Token) (s : Cutter)
    → is_ending Braces (level_of (suc m) done before) ≡ true → is_class_head (head_of before)
    ≡ true
    → ((inner : List Open)
    → run (at (level_of m [] []) inner place.Outside d) (flat i)
    ≡ after m [] [] inner d (pieces_of i))
    → run (at
    (level_of (suc m)
    (done ++ segment_of (body_within (suc m)) (before, o ∷ (flat i ++ c ∷ [])) ∷ []) []) bs
    place.Outside
    (either d (depth_of (deep_within (suc m)) (before, o ∷ (flat i ++ c ∷ []))))) ys ≡ s
    → run (at (level_of (suc m) done before) bs place.Outside d) (o ∷ (flat i ++ c ∷ ys)) ≡ s
body_run m done before bs d o eo i c ec ys s h k inside behind =
    let l = level_of (suc m) done before in
    let st = at l bs place.Outside d in
    let opened_here = bs ++ entry Braces o (group.Body l) ∷ [] in
    let inner =
    level_of m (map (segment_of (body_within m)) (between_ends [] (pieces_of i)))
    (behind_ends [] (pieces_of i)) in
    let deep = first_some (map (depth_of (deep_within m)) (between_ends [] (pieces_of i))) in
    run_group _ _ _ _ _ o (flat i) c ys
    (ending_opened l bs d o true eo h k
    ∙ ap (λ b. cond b (skipping (noted_deep st o) o) (body st o)) (eqb-suc-zero m)
    ∙ ap (λ x. at (fresh x) opened_here place.Outside d) (suc_less m))
    (inside opened_here)
    (step_closing inner bs place.Outside (either d deep) Braces o (group.Body l) c ec
    ∙ ap (λ x. at (closed_level (suc m) done before (Body x)) bs place.Outside (either d deep))
    (level_segments m i)
    ∙ ap (λ x. at (closed_level (suc m) done before (Body (cut_within m (flat i)))) bs
    place.Outside
    (either d x)) (level_deep m i)
    ∙ ap (λ x. at (closed_level (suc m) done before (Body (cut_within m x))) bs place.Outside
    (either d (deep_beyond m x))) (sym (without_last_end (flat i) c))
    ∙ target (suc m) done before bs d o (flat i ++ c ∷ []) true
    (opening_no_semicolon o Braces eo) k)
    behind

-- ---- the whole forest

or_nothing : (b : Bool) → (b || false) ≡ b
or_nothing true = refl
or_nothing false = refl

group_level : (p : Pair) (o : Token) (eo : mark_of o ≡ Opening p) (i : Forest) (c : Token)
    (ec : mark_of c ≡ Closing p) (n : ℕ) (done : List Segment) (before : List Piece)
    → grown (settled (level_of n done before))
    (kept (is_assigned before) (Group p o eo i c ec Nothing))
    ≡ level_of n done (before ++ (o ∷ (flat i ++ c ∷ [])) ∷ [])
group_level p o eo i c ec n done before =
    let piece = o ∷ (flat i ++ c ∷ []) in
    grown_by n done before piece (kept (is_assigned before) (Group p o eo i c ec Nothing))
    (is_assigned before) false
    (ap (λ x. cond (is_assigned before) x piece) (alone_whole (Group p o eo i c ec Nothing)))
    (ap (λ b. is_assigned before || b) (opening_no_assign o p eo)
    ∙ or_nothing (is_assigned before))
    (opening_no_default o p eo)

going_run : (f : Forest) (p : Pair) (o : Token) (eo : mark_of o ≡ Opening p) (i : Forest)
    (c : Token) (ec : mark_of c ≡ Closing p)
    (n : ℕ) (done : List Segment) (before : List Piece) (bs : List Open) (d : Option ℕ)
    → is_ending p (level_of n done before) ≡ false
    → run (at (level_of n done (before ++ (o ∷ (flat i ++ c ∷ [])) ∷ [])) bs place.Outside d)
    (flat f) ≡ after n done (before ++ (o ∷ (flat i ++ c ∷ [])) ∷ []) bs d (pieces_of f)
    → run (at (level_of n done before) bs place.Outside d) (o ∷ (flat i ++ c ∷ flat f))
    ≡ after n done before bs d ((o ∷ (flat i ++ c ∷ [])) ∷ pieces_of f)
going_run f p o eo i c ec n done before bs d h behind =
    outer_run (level_of n done before) bs d p o eo i c ec (flat f) _ h
    (ap (λ x. run (at x bs place.Outside d) (flat f)) (group_level p o eo i c ec n done before)
    ∙ behind
    ∙ after_going n done before bs d (o ∷ (flat i ++ c ∷ [])) (pieces_of f)
    (ends_group p n done before o (flat i ++ c ∷ []) eo ∙ h))

end_zero : (f : Forest) (p : Pair) (o : Token) (eo : mark_of o ≡ Opening p) (i : Forest)
    (c : Token)
    (ec : mark_of c ≡ Closing p)
    (done : List Segment) (before : List Piece) (bs : List Open) (d : Option ℕ)
    → is_ending p (level_of zero done before) ≡ true
    → ((so_far : List Segment) (deep : Option ℕ)
    → run (at (level_of zero so_far []) bs place.Outside deep) (flat f)
    ≡ after zero so_far [] bs deep (pieces_of f))
    → run (at (level_of zero done before) bs place.Outside d) (o ∷ (flat i ++ c ∷ flat f))
    ≡ after zero done before bs d ((o ∷ (flat i ++ c ∷ [])) ∷ pieces_of f)
end_zero f p o eo i c ec done before bs d h behind = by (is_class_head (head_of before)) refl where
  braces : p ≡ Braces
  braces = ending_braces p (level_of zero done before) h

  rest : run
      (at (level_of zero
      (done ++ segment_of (body_within zero) (before, o ∷ (flat i ++ c ∷ [])) ∷ []) []) bs
      place.Outside
      (either d (depth_of (deep_within zero) (before, o ∷ (flat i ++ c ∷ []))))) (flat f)
      ≡ after zero done before bs d ((o ∷ (flat i ++ c ∷ [])) ∷ pieces_of f)
  rest = behind _ _
      ∙ after_end zero done before bs d (o ∷ (flat i ++ c ∷ [])) (pieces_of f)
      (ends_group p zero done before o (flat i ++ c ∷ []) eo ∙ h)

  by : (b : Bool) → is_class_head (head_of before) ≡ b
      → run (at (level_of zero done before) bs place.Outside d) (o ∷ (flat i ++ c ∷ flat f))
      ≡ after zero done before bs d ((o ∷ (flat i ++ c ∷ [])) ∷ pieces_of f)
  by false k =
      skipped_run zero done before bs d o (eo ∙ ap Opening braces) i c (ec
      ∙ ap Closing braces) (flat f) _
      (ap (λ q. is_ending q (level_of zero done before)) (sym braces) ∙ h) k rest
  by true k =
      too_deep_run done before bs d o (eo ∙ ap Opening braces) i c (ec
      ∙ ap Closing braces) (flat f) _
      (ap (λ q. is_ending q (level_of zero done before)) (sym braces) ∙ h) k rest

end_suc : (f : Forest) (p : Pair) (o : Token) (eo : mark_of o ≡ Opening p) (i : Forest) (c : Token)
    (ec : mark_of c ≡ Closing p)
    (m : ℕ) (done : List Segment) (before : List Piece) (bs : List Open) (d : Option ℕ)
    → is_ending p (level_of (suc m) done before) ≡ true
    → ((inner : List Open)
    → run (at (level_of m [] []) inner place.Outside d) (flat i)
    ≡ after m [] [] inner d (pieces_of i))
    → ((so_far : List Segment) (deep : Option ℕ)
    → run (at (level_of (suc m) so_far []) bs place.Outside deep) (flat f)
    ≡ after (suc m) so_far [] bs deep (pieces_of f))
    → run (at (level_of (suc m) done before) bs place.Outside d) (o ∷ (flat i ++ c ∷ flat f))
    ≡ after (suc m) done before bs d ((o ∷ (flat i ++ c ∷ [])) ∷ pieces_of f)
end_suc f p o eo i c ec m done before bs d h inside behind =
    by (is_class_head (head_of before)) refl where
      braces : p ≡ Braces
      braces = ending_braces p (level_of (suc m) done before) h

      rest : run
          (at (level_of (suc m)
          (done ++ segment_of (body_within (suc m)) (before, o ∷ (flat i ++ c ∷ [])) ∷ []) []) bs
          place.Outside
          (either d (depth_of (deep_within (suc m)) (before, o ∷ (flat i ++ c ∷ []))))) (flat f)
          ≡ after (suc m) done before bs d ((o ∷ (flat i ++ c ∷ [])) ∷ pieces_of f)
      rest = behind _ _
          ∙ after_end (suc m) done before bs d (o ∷ (flat i ++ c ∷ [])) (pieces_of f)
          (ends_group p (suc m) done before o (flat i ++ c ∷ []) eo ∙ h)

      by : (b : Bool) → is_class_head (head_of before) ≡ b
          → run (at (level_of (suc m) done before) bs place.Outside d) (o ∷ (flat i ++ c ∷ flat f))
          ≡ after (suc m) done before bs d ((o ∷ (flat i ++ c ∷ [])) ∷ pieces_of f)
      by false k =
          skipped_run (suc m) done before bs d o (eo ∙ ap Opening braces) i c (ec
          ∙ ap Closing braces) (flat f) _
          (ap (λ q. is_ending q (level_of (suc m) done before)) (sym braces) ∙ h) k rest
      by true k =
          body_run m done before bs d o (eo ∙ ap Opening braces) i c (ec
          ∙ ap Closing braces) (flat f) _
          (ap (λ q. is_ending q (level_of (suc m) done before)) (sym braces) ∙ h) k inside rest

pub outside_run : (f : Forest) (n : ℕ) (done : List Segment) (before : List Piece) (bs : List Open)
    (d : Option ℕ)
    → run (at (level_of n done before) bs place.Outside d) (flat f)
    ≡ after n done before bs d (pieces_of f)
outside_run Nothing n done before bs d =
    ap (λ x. at (level_of n x before) bs place.Outside d) (sym (append-nil done))
    ∙ ap (λ x. at (level_of n (done ++ []) before) bs place.Outside x) (sym (either_none d))
outside_run (Single t e f) n done before bs d = by (is_semicolon t) refl (outside_run f n) where
  by : (b : Bool) → is_semicolon t ≡ b
      → ((so_far : List Segment) (ps : List Piece) (os : List Open) (deep : Option ℕ)
      → run (at (level_of n so_far ps) os place.Outside deep) (flat f)
      ≡ after n so_far ps os deep (pieces_of f))
      → run (at (level_of n done before) bs place.Outside d) (t ∷ flat f)
      ≡ after n done before bs d ((t ∷ []) ∷ pieces_of f)
  by true s behind = run_single _ _ _ t (flat f) (semicolon_step n done before bs d t e s)
      (behind _ [] bs _
      ∙ after_end n done before bs d (t ∷ []) (pieces_of f) (ends_single before t e ∙ s))
  by false s behind = run_single _ _ _ t (flat f) (other_step n done before bs d t e s)
      (behind done (before ++ (t ∷ []) ∷ []) bs d
      ∙ after_going n done before bs d (t ∷ []) (pieces_of f) (ends_single before t e ∙ s))
outside_run (Group p o eo i c ec f) zero done before bs d =
    by (is_ending p (level_of zero done before)) refl (outside_run f zero) where
      by : (b : Bool) → is_ending p (level_of zero done before) ≡ b
          → ((so_far : List Segment) (ps : List Piece) (os : List Open) (deep : Option ℕ)
          → run (at (level_of zero so_far ps) os place.Outside deep) (flat f)
          ≡ after zero so_far ps os deep (pieces_of f))
          → run (at (level_of zero done before) bs place.Outside d) (o ∷ (flat i ++ c ∷ flat f))
          ≡ after zero done before bs d ((o ∷ (flat i ++ c ∷ [])) ∷ pieces_of f)
      by false h behind = going_run f p o eo i c ec zero done before bs d h (behind done _ bs d)
      by true h behind =
          end_zero f p o eo i c ec done before bs d h (λ so_far deep. behind so_far [] bs deep)
outside_run (Group p o eo i c ec f) (suc m) done before bs d =
    by (is_ending p (level_of (suc m) done before)) refl (outside_run f (suc m))
    (outside_run i m) where
      by : (b : Bool) → is_ending p (level_of (suc m) done before) ≡ b
          → ((so_far : List Segment) (ps : List Piece) (os : List Open) (deep : Option ℕ)
          → run (at (level_of (suc m) so_far ps) os place.Outside deep) (flat f)
          ≡ after (suc m) so_far ps os deep (pieces_of f))
          → ((so_far : List Segment) (ps : List Piece) (os : List Open) (deep : Option ℕ)
          → run (at (level_of m so_far ps) os place.Outside deep) (flat i)
          ≡ after m so_far ps os deep (pieces_of i))
          → run (at (level_of (suc m) done before) bs place.Outside d) (o ∷ (flat i ++ c ∷ flat f))
          ≡ after (suc m) done before bs d ((o ∷ (flat i ++ c ∷ [])) ∷ pieces_of f)
      by false h behind inside =
          going_run f p o eo i c ec (suc m) done before bs d h (behind done _ bs d)
      by true h behind inside =
          end_suc f p o eo i c ec m done before bs d h (λ inner. inside [] [] inner d)
          (λ so_far deep. behind so_far [] bs deep)
