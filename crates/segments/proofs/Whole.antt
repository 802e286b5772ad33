-- The answer for a whole list.
use Rattle.std.proofs.Common.{◌≡◌, refl, sym, ◌∙◌, ap, subst, ℕ, ◌≤◌, arith, Bool, true, false}
use Rattle.std.proofs.Common.{cond, List, [], ◌∷◌, ◌++◌, append-nil, length, drop, map, Option}
use Rattle.std.proofs.Common.{Some, None, Result, Ok, Err}
use Rattle.std.proofs.lemmas.List.{drop_all}
use Rattle.java_token.specs.declared.token.Token.{Token}
use Rattle.segments.specs.declared.segment.Segment.{Segment}
use Rattle.segments.specs.declared.error.SegErr.{SegErr}
use Rattle.segments.specs.declared.error.SegErr.TheVariants.{Unbalanced, TooDeep, Memory}
use Rattle.segments.specs.declared.level.Level.{Level}
use Rattle.segments.specs.declared.cutter.Cutter.{Cutter}
use Rattle.segments.proofs.LevelModel.{Open}
use Rattle.segments.specs.declared.cutter.Place.TheVariants as place
use Rattle.segments.specs.Brackets.{IsBalanced, is_closing, wrong_line}
use Rattle.segments.proofs.Unpaired.{Bracket, bracket_of, unpaired, first_line, first_wrong}
use Rattle.segments.specs.Cut.{segment_of, depth_of, first_some, cut_within, deep_beyond}
use Rattle.segments.proofs.Ends.{between_ends, behind_ends}
use Rattle.segments.specs.Levels.{fresh, segments_of}
use Rattle.segments.specs.Steps.{start, run}
use Rattle.segments.specs.Finish.{finished}
use Rattle.segments.proofs.LevelModel as model
use Rattle.segments.proofs.LevelModel.{start as model_start}
use Rattle.segments.proofs.Follows.{followed_whole}
use Rattle.segments.specs.Answer.{cut, answer_by, segmented, Gives, Answers}
use Rattle.segments.proofs.Forests.{Forest, flat, spelt, left_out, spread}
use Rattle.segments.proofs.Pieces.{pieces_of}
use Rattle.segments.proofs.Running.{at}
use Rattle.segments.proofs.Outside.{either, level_of, body_within, deep_within, outside_run}
use Rattle.segments.proofs.Outside.{level_segments, level_deep}
use Rattle.segments.proofs.Wrong.{marks, verdict, wrong_among, wrong_run}
use Rattle.segments.proofs.Paired.{balanced_flat, none_in_front, wrong_is}
use Rattle.segments.proofs.Depth.{cut_whole}

finished_wrong : (w : Option ℕ) (bs : List Open) (d : Option ℕ) (l : Level) (line : ℕ)
    → either w (first_line (marks bs)) ≡ Some line
    → model.finished_by w bs d l ≡ Err (Unbalanced line)
finished_wrong (Some other) bs d l line e =
    ap (λ x. Err (Unbalanced x)) (some_same other line e) where
      some_same : (a b : ℕ) → Some a ≡ Some b → a ≡ b
      some_same a b e = cc
finished_wrong None [] d l line e = cc
finished_wrong None (b ∷ bs) d l line e =
    ap (λ x. Err (Unbalanced x)) (some_same b.line line e) where
      some_same : (a b : ℕ) → Some a ≡ Some b → a ≡ b
      some_same a b e = cc

some_wrong : (bs : List Bracket) (line : ℕ) → first_wrong bs (Some line) ≡ None → ⊥
some_wrong [] line e = cc
some_wrong (b ∷ bs) line e = by (is_closing b.mark) e (some_wrong bs line) where
  by : (x : Bool) → cond x (Some b.line) (first_wrong bs (Some line)) ≡ None
      → (first_wrong bs (Some line) ≡ None → ⊥) → ⊥
  by true e h = cc
  by false e h = h e

none_left : (bs : List Bracket) → wrong_among bs ≡ None → bs ≡ []
none_left [] e = refl
none_left (b ∷ bs) e = absurd (some_wrong (b ∷ bs) b.line e)

none_spelt : (rest : List (Token × Forest)) → left_out rest ≡ [] → spelt rest ≡ []
none_spelt [] e = refl
none_spelt ((t, f) ∷ rest) e = cc

-- a list whose brackets pair is a forest
pub forest_of : (tokens : List Token) → wrong_line tokens ≡ None → (f : Forest) × (flat f ≡ tokens)
forest_of tokens e =
    let s = spread tokens in
    let none = s.left ∙ none_left (unpaired (map bracket_of tokens)) (sym (wrong_is tokens) ∙ e)
    in (
      s.front,
      sym (append-nil (flat s.front))
          ∙ ap (λ x. flat s.front ++ x) (sym (none_spelt s.rest none)) ∙ s.parts,
    )

pub balanced : (tokens : List Token) → wrong_line tokens ≡ None → IsBalanced tokens
balanced tokens e = let f = forest_of tokens e in subst IsBalanced f.1 (balanced_flat f.0)

pub never_wrong : (tokens : List Token) → IsBalanced tokens → wrong_line tokens ≡ None
never_wrong tokens h = wrong_is tokens
    ∙ ap (λ x. wrong_among (unpaired (map bracket_of x))) (sym (append-nil tokens))
    ∙ ap wrong_among (none_in_front h [])

unbalanced : (tokens : List Token) (line : ℕ) → wrong_line tokens ≡ Some line → IsBalanced tokens
    → ⊥
unbalanced tokens line e h = let n = never_wrong tokens h in cc

finished_paired : (n : ℕ) (f : Forest)
    → model.finished (model.run (at (fresh n) [] place.Outside None) (flat f))
    ≡ answer_by None (deep_beyond n (flat f)) (cut_within n (flat f))
finished_paired n f =
    ap model.finished (outside_run f n [] [] [] None)
    ∙ by (first_some (map (depth_of (deep_within n)) (between_ends [] (pieces_of f))))
    (level_of n (map (segment_of (body_within n)) (between_ends [] (pieces_of f)))
    (behind_ends [] (pieces_of f)))
    ∙ ap (λ x. answer_by None x
    (segments_of
    (level_of n (map (segment_of (body_within n)) (between_ends [] (pieces_of f)))
    (behind_ends [] (pieces_of f))))) (level_deep n f)
    ∙ ap (λ x. answer_by None (deep_beyond n (flat f)) x) (level_segments n f)
  where
    by : (d : Option ℕ) (l : Level)
        → model.finished_by None [] d l ≡ answer_by None d (segments_of l)
    by (Some line) l = refl
    by None l = refl

-- what a cutter answers is what the definitions say
pub whole : (n : ℕ) (tokens : List Token)
    → model.finished (model.run (model.start n) tokens)
    ≡ answer_by (wrong_line tokens) (deep_beyond n tokens) (cut_within n tokens)
unfolding model_start
whole n tokens = by (wrong_line tokens) refl where
  v : verdict (model.run (at (fresh n) [] place.Outside None) tokens) ≡ wrong_line tokens
  v = wrong_run tokens (fresh n) [] place.Outside None ∙ sym (wrong_is tokens)

  by : (w : Option ℕ) → wrong_line tokens ≡ w
      → model.finished (model.run (model.start n) tokens)
      ≡ answer_by (wrong_line tokens) (deep_beyond n tokens) (cut_within n tokens)
  by (Some line) e =
      let c = model.run (at (fresh n) [] place.Outside None) tokens in
      finished_wrong c.wrong c.brackets c.deep c.level line (v ∙ e)
      ∙ ap (λ w. answer_by w (deep_beyond n tokens) (cut_within n tokens)) (sym e)
  by None e =
      let f = forest_of tokens e in
      ap (λ x. model.finished (model.run (at (fresh n) [] place.Outside None) x)) (sym f.1)
      ∙ finished_paired n f.0
      ∙ ap (λ x. answer_by None (deep_beyond n x) (cut_within n x)) f.1
      ∙ ap (λ w. answer_by w (deep_beyond n tokens) (cut_within n tokens)) (sym e)

-- where nothing is too deep, that is the whole cut
whole_cut : (n : ℕ) (tokens : List Token) → wrong_line tokens ≡ None → deep_beyond n tokens ≡ None
    → cut_within n tokens ≡ cut tokens
unfolding cut
whole_cut n tokens e none =
    let f = forest_of tokens e in
    ap (cut_within n) (sym f.1)
    ∙ cut_whole f.0 n (length tokens) (rw f.1 (omega arith)) (ap (deep_beyond n) f.1 ∙ none)
    ∙ ap (cut_within (length tokens)) f.1

-- `Answers`, by what doesn't pair, what is too deep, and the segments
abbrev Fits : Option ℕ → Option ℕ → List Segment → Result (List Segment) SegErr → Type 0
Fits wrong deep all (Ok segments) = (wrong ≡ None) × (deep ≡ None) × (segments ≡ all)
Fits wrong deep all (Err (Unbalanced line)) = wrong ≡ Some line
Fits wrong deep all (Err (TooDeep line)) = (wrong ≡ None) × (deep ≡ Some line)
Fits wrong deep all (Err Memory) = Unit {0}

ok_same : (a b : List Segment) → (let x : Result (List Segment) SegErr = Ok a in x ≡ Ok b) → a ≡ b
ok_same a b e = cc

unbalanced_same : (a b : ℕ)
    → (let x : Result (List Segment) SegErr = Err (Unbalanced a) in x ≡ Err (Unbalanced b)) → a ≡ b
unbalanced_same a b e = cc

too_deep_same : (a b : ℕ)
    → (let x : Result (List Segment) SegErr = Err (TooDeep a) in x ≡ Err (TooDeep b)) → a ≡ b
too_deep_same a b e = cc

fits : (w d : Option ℕ) (shallow all : List Segment) → (w ≡ None → d ≡ None → shallow ≡ all)
    → (r : Result (List Segment) SegErr)
    → Gives r (answer_by w d shallow) → Fits w d all r
fits (Some line) d shallow all same (Ok segments) g = cc
fits (Some line) d shallow all same (Err (Unbalanced other)) g =
    ap Some (unbalanced_same line other g)
fits (Some line) d shallow all same (Err (TooDeep other)) g = cc
fits None (Some line) shallow all same (Ok segments) g = cc
fits None (Some line) shallow all same (Err (Unbalanced other)) g = cc
fits None (Some line) shallow all same (Err (TooDeep other)) g =
    (refl, ap Some (too_deep_same line other g))
fits None None shallow all same (Ok segments) g =
    (refl, refl, sym (ok_same shallow segments g) ∙ same refl refl)
fits None None shallow all same (Err (Unbalanced other)) g = cc
fits None None shallow all same (Err (TooDeep other)) g = cc
fits w d shallow all same (Err Memory) g = tt

pub answers : (n : ℕ) (tokens : List Token) (r : Result (List Segment) SegErr)
    → Gives r (model.finished (model.run (model.start n) tokens)) → Answers n tokens r
answers n tokens r g =
    by r (fits (wrong_line tokens) (deep_beyond n tokens) (cut_within n tokens) (cut tokens)
    (whole_cut n tokens) r (subst (λ x. Gives r x) (whole n tokens) g))
  where
    by : (r : Result (List Segment) SegErr)
        → Fits (wrong_line tokens) (deep_beyond n tokens) (cut tokens) r → Answers n tokens r
    by (Ok segments) h = (balanced tokens h.0, h.1, h.2)
    by (Err (Unbalanced line)) h = (unbalanced tokens line h, h)
    by (Err (TooDeep line)) h = (balanced tokens h.0, h.1)
    by (Err Memory) h = h

same_answer : (w d : Option ℕ) (shallow all : List Segment) → (w ≡ None → d ≡ None → shallow ≡ all)
    → answer_by w d shallow ≡ answer_by w d all
same_answer (Some line) d shallow all same = refl
same_answer None (Some line) shallow all same = refl
same_answer None None shallow all same = ap Ok (same refl refl)

-- what a cutter answers, with the whole cut
pub whole_answer : (n : ℕ) (tokens : List Token)
    → model.finished (model.run (model.start n) tokens) ≡ segmented n tokens
unfolding segmented
whole_answer n tokens = whole n tokens
    ∙ same_answer (wrong_line tokens) (deep_beyond n tokens) (cut_within n tokens) (cut tokens)
    (whole_cut n tokens)

-- the end of the tokens
at_end : (n : ℕ) (tokens : List Token) (c : Cutter) (i : ℕ) → length tokens ≤ i
    → run c (drop i tokens) ≡ run (start n) tokens
    → finished c ≡ model.finished (model.run (model.start n) tokens)
at_end n tokens c i h e =
    ap (λ rest. finished (run c rest)) (sym (drop_all i tokens h)) ∙ ap finished e
    ∙ followed_whole n tokens

pub answers_at_end : (n : ℕ) (tokens : List Token) (r : Result (List Segment) SegErr) (c : Cutter)
    (i : ℕ) → length tokens ≤ i
    → run c (drop i tokens) ≡ run (start n) tokens → Gives r (finished c) → Answers n tokens r
answers_at_end n tokens r c i h e g =
    answers n tokens r (subst (λ x. Gives r x) (at_end n tokens c i h e) g)

pub exact_at_end : (n : ℕ) (tokens : List Token) (r : Result (List Segment) SegErr) (c : Cutter)
    (i : ℕ) → length tokens ≤ i
    → run c (drop i tokens) ≡ run (start n) tokens → Gives r (finished c)
    → Gives r (segmented n tokens)
exact_at_end n tokens r c i h e g =
    subst (λ x. Gives r x) (at_end n tokens c i h e ∙ whole_answer n tokens) g
