-- Brackets that don't pair.
use Rattle.std.proofs.Common.{◌≡◌, refl, sym, ◌∙◌, ap, ℕ, Bool, true, false, ◌==◌, cond, List, []}
use Rattle.std.proofs.Common.{◌∷◌, ◌++◌, append-nil, map, Option, Some, ◌⊎◌, inl, inr}
use Rattle.java_token.specs.declared.token.Token.{Token}
use Rattle.segments.specs.declared.bracket.Pair.{Pair}
use Rattle.segments.specs.declared.bracket.Pair.TheVariants.{Braces}
use Rattle.segments.specs.declared.bracket.Mark.{Mark}
use Rattle.segments.specs.declared.bracket.Mark.TheVariants.{Opening, Closing, Plain}
use Rattle.segments.specs.declared.level.Level.{Level}
use Rattle.segments.proofs.LevelModel.{Cutter}
use Rattle.segments.proofs.LevelModel.{Open}
use Rattle.segments.specs.declared.cutter.Place.{Place}
use Rattle.segments.specs.declared.cutter.Place.TheVariants as place
use Rattle.segments.proofs.GroupKinds as group
use Rattle.segments.proofs.GroupKinds.{Kind}
use Rattle.segments.specs.Brackets.{mark_of, same_pair}
use Rattle.segments.proofs.Unpaired.{Bracket, bracket_of, in_front, unpaired, first_line}
use Rattle.segments.proofs.Unpaired.{first_wrong}
use Rattle.segments.specs.Cut.{is_class_head}
use Rattle.hdr_core.specs.Stack.{top, below}
use Rattle.segments.specs.Levels.{stored}
use Rattle.segments.specs.Steps.{plain_at, place_in, is_ending, or_else, first_line_or}
use Rattle.segments.proofs.LevelModel.{entry, noted_deep, skipping, body, ending, behind_default}
use Rattle.segments.proofs.LevelModel.{opened_in_head, opened, closed_group, closed_by, unless}
use Rattle.segments.proofs.LevelModel.{step, step_by, run}
use Rattle.hdr_core.proofs.Stacks.{top_end, below_end}
use Rattle.segments.proofs.Running.{at, step_plain, step_opening}
use Rattle.segments.proofs.Outside.{either, ending_braces}

-- ---- opening brackets

abbrev pub bracket : Pair → ℕ → Bracket
bracket pair line = record { mark = Opening pair; line = line }

abbrev pub marks : List Open → List Bracket
marks [] = []
marks (o ∷ os) = bracket o.pair o.line ∷ marks os

pub marks_end : (os : List Open) (o : Open) (rest : List Bracket)
    → marks (os ++ o ∷ []) ++ rest ≡ marks os ++ bracket o.pair o.line ∷ rest
marks_end [] o rest = refl
marks_end (x ∷ os) o rest = ap (λ l. bracket x.pair x.line ∷ l) (marks_end os o rest)

pub openings_stay : (os : List Open) → unpaired (marks os) ≡ marks os
openings_stay [] = refl
openings_stay (o ∷ []) = refl
openings_stay (o ∷ x ∷ os) = ap (λ l. in_front (Opening o.pair) o.line l) (openings_stay (x ∷ os))

pub no_closing : (os : List Open) (rest : List Bracket) (otherwise : Option ℕ)
    → first_wrong (marks os ++ rest) otherwise ≡ first_wrong rest otherwise
no_closing [] rest otherwise = refl
no_closing (o ∷ os) rest otherwise = no_closing os rest otherwise

pub same_behind : (xs ys zs : List Bracket) → unpaired ys ≡ unpaired zs
    → unpaired (xs ++ ys) ≡ unpaired (xs ++ zs)
same_behind [] ys zs e = e
same_behind (x ∷ xs) ys zs e = ap (in_front x.mark x.line) (same_behind xs ys zs e)

-- opening brackets in front of one that is left
stay_behind : (os : List Open) (p : Pair) (line : ℕ) (zs rest : List Bracket)
    → unpaired zs ≡ bracket p line ∷ rest
    → unpaired (marks os ++ zs) ≡ marks os ++ bracket p line ∷ rest
stay_behind [] p line zs rest e = e
stay_behind (o ∷ []) p line zs rest e = ap (in_front (Opening o.pair) o.line) e
stay_behind (o ∷ x ∷ os) p line zs rest e =
    ap (in_front (Opening o.pair) o.line) (stay_behind (x ∷ os) p line zs rest e)

-- ---- steps

record Noted (c : Cutter) (bs : List Open) (p : Pair) (t : Token) : Type 0 where
  level : Level
  where_ : Place
  deep : Option ℕ
  kind : Kind
  is : c ≡ at level (bs ++ entry p t kind ∷ []) where_ deep

note_ending : (l : Level) (bs : List Open) (d : Option ℕ) (p : Pair) (t : Token) → p ≡ Braces
    → Noted (ending (at l bs place.Outside d) t) bs p t
note_ending l bs d p t braces = by (is_class_head l.head) refl (l.left == 0) refl where
  st : Cutter
  st = at l bs place.Outside d

  by : (b : Bool) → is_class_head l.head ≡ b → (z : Bool) → (l.left == 0) ≡ z
      → Noted (ending st t) bs p t
  by false e z f = record {
    level = l;
    where_ = place.Hidden;
    deep = d;
    kind = group.Skipped;
    is = ap (λ x. cond x (cond (l.left == 0) (skipping (noted_deep st t) t) (body st t))
        (skipping st t)) e
        ∙ ap (λ q. at l (bs ++ entry q t group.Skipped ∷ []) place.Hidden d) (sym braces);
  }
  by true e true f = record {
    level = l;
    where_ = place.Hidden;
    deep = or_else d (first_line_or l.head t);
    kind = group.Skipped;
    is = ap (λ x. cond x (cond (l.left == 0) (skipping (noted_deep st t) t) (body st t))
        (skipping st t)) e
        ∙ ap (λ x. cond x (skipping (noted_deep st t) t) (body st t)) f
        ∙ ap (λ q. at l (bs ++ entry q t group.Skipped ∷ []) place.Hidden
        (or_else d (first_line_or l.head t))) (sym braces);
  }
  by true e false f = record {
    level = (body st t).level;
    where_ = place.Outside;
    deep = d;
    kind = group.Body l;
    is = ap (λ x. cond x (cond (l.left == 0) (skipping (noted_deep st t) t) (body st t))
        (skipping st t)) e
        ∙ ap (λ x. cond x (skipping (noted_deep st t) t) (body st t)) f
        ∙ ap (λ q. at (body st t).level (bs ++ entry q t (group.Body l) ∷ []) place.Outside d)
        (sym braces);
  }

note_opened : (l : Level) (bs : List Open) (w : Place) (d : Option ℕ) (p : Pair) (t : Token)
    → Noted (opened (at l bs w d) p t) bs p t
note_opened l bs place.Inside d p t =
    record {
      level = stored l t;
      where_ = place_in p l.is_assigned;
      deep = d;
      kind = group.Inner;
      is = refl;
    }
note_opened l bs place.Hidden d p t =
    record { level = l; where_ = place.Hidden; deep = d; kind = group.Hidden; is = refl }
note_opened l bs place.Outside d p t = by (is_ending p l) refl where
  st : Cutter
  st = at l bs place.Outside d

  by : (b : Bool) → is_ending p l ≡ b → Noted (opened st p t) bs p t
  by false h = record {
    level = (opened_in_head (behind_default st) p t group.Outer).level;
    where_ = place_in p l.is_assigned;
    deep = d;
    kind = group.Outer;
    is = ap (λ x. cond x (ending st t) (opened_in_head (behind_default st) p t group.Outer)) h;
  }
  by true h = let n = note_ending l bs d p t (ending_braces p l h) in record {
    level = n.level;
    where_ = n.where_;
    deep = n.deep;
    kind = n.kind;
    is = ap (λ x. cond x (ending st t) (opened_in_head (behind_default st) p t group.Outer)) h
        ∙ n.is;
  }

record Left (c : Cutter) (bs : List Open) : Type 0 where
  level : Level
  where_ : Place
  deep : Option ℕ
  is : c ≡ at level bs where_ deep

left_closed : (g : Kind) (line : ℕ) (l : Level) (bs : List Open) (w : Place) (d : Option ℕ)
    (t : Token) → Left (closed_group g line (at l bs w d) t) bs
left_closed group.Outer line l bs w d t =
    record { level = stored l t; where_ = place.Outside; deep = d; is = refl }
left_closed group.Inner line l bs w d t =
    record { level = stored l t; where_ = place.Inside; deep = d; is = refl }
left_closed group.Hidden line l bs w d t = record { level = l; where_ = w; deep = d; is = refl }
left_closed group.Skipped line l bs w d t =
    record {
      level = (closed_group group.Skipped line (at l bs w d) t).level;
      where_ = place.Outside;
      deep = d;
      is = refl;
    }
left_closed (group.Body outer) line l bs w d t =
    record {
      level = (closed_group (group.Body outer) line (at l bs w d) t).level;
      where_ = w;
      deep = d;
      is = refl;
    }

-- a list is empty, or has a last item
pub record Ended (os : List Open) : Type 0 where
  pub front : List Open
  pub end : Open
  pub is : os ≡ front ++ end ∷ []

pub last_of : (os : List Open) → (os ≡ []) ⊎ Ended os
last_of [] = inl refl
last_of (o ∷ os) = inr (by (last_of os)) where
  by : (os ≡ []) ⊎ Ended os → Ended (o ∷ os)
  by (inl e) = record { front = []; end = o; is = ap (λ l. o ∷ l) e }
  by (inr e) = record { front = o ∷ e.front; end = e.end; is = ap (λ l. o ∷ l) e.is }

-- ---- the whole list

-- the line that a cutter has for brackets that don't pair
abbrev pub verdict : Cutter → Option ℕ
verdict c = either c.wrong (first_line (marks c.brackets))

abbrev pub wrong_among : List Bracket → Option ℕ
wrong_among left = first_wrong left (first_line left)

stays_wrong : (c : Cutter) (line : ℕ) (ts : List Token) → c.wrong ≡ Some line
    → verdict (run c ts) ≡ Some line
unfolding step
stays_wrong c line [] e = ap (λ x. either x (first_line (marks c.brackets))) e
stays_wrong c line (t ∷ ts) e = ap (λ x. verdict (run (unless x c (step_by (mark_of t) c t)) ts)) e
    ∙ stays_wrong c line ts e

step_closed : (l : Level) (bs : List Open) (w : Place) (d : Option ℕ) (p : Pair) (t : Token)
    → mark_of t ≡ Closing p
    → step (at l bs w d) t ≡ closed_by (top bs) (at l (below bs) w d) p t
unfolding step
step_closed l bs w d p t e = ap (λ m. step_by m (at l bs w d) t) e

-- a closing bracket behind the opening one that is open
pub closes_last : (front : List Open) (o : Open) (p : Pair) (line : ℕ) (rest : List Bracket)
    → same_pair o.pair p ≡ true
    → unpaired
    (marks front ++ bracket o.pair o.line ∷ record { mark = Closing p; line = line } ∷ rest)
    ≡ unpaired (marks front ++ rest)
closes_last front o p line rest e =
    same_behind (marks front)
    (bracket o.pair o.line ∷ record { mark = Closing p; line = line } ∷ rest) rest
    (ap (λ b. cond b (unpaired rest)
    (bracket o.pair o.line ∷ record { mark = Closing p; line = line } ∷ unpaired rest)) e)

pub wrong_last : (front : List Open) (o : Open) (p : Pair) (line : ℕ) (rest : List Bracket)
    (otherwise : Option ℕ) → same_pair o.pair p ≡ false
    → first_wrong
    (unpaired
    (marks front ++ bracket o.pair o.line ∷ record { mark = Closing p; line = line } ∷ rest))
    otherwise ≡ Some line
wrong_last front o p line rest otherwise e =
    let inner : unpaired (bracket o.pair o.line ∷ record { mark = Closing p; line = line } ∷ rest)
    ≡ bracket o.pair o.line ∷ record { mark = Closing p; line = line } ∷ unpaired rest =
    ap (λ b. cond b (unpaired rest)
    (bracket o.pair o.line ∷ record { mark = Closing p; line = line } ∷ unpaired rest)) e in
    let all =
    stay_behind front o.pair o.line
    (bracket o.pair o.line ∷ record { mark = Closing p; line = line } ∷ rest)
    (record { mark = Closing p; line = line } ∷ unpaired rest) inner in
    ap (λ left. first_wrong left otherwise) all
    ∙ no_closing front
    (bracket o.pair o.line ∷ record { mark = Closing p; line = line } ∷ unpaired rest) otherwise

module _ (t : Token) (ts : List Token) (l : Level) (bs : List Open) (w : Place) (d : Option ℕ)
    (behind : (l : Level) (bs : List Open) (w : Place) (d : Option ℕ)
    → verdict (run (at l bs w d) ts) ≡ wrong_among (unpaired (marks bs ++ map bracket_of ts)))
  where
    marked : (m : Mark) → mark_of t ≡ m
        → wrong_among
        (unpaired (marks bs ++ record { mark = m; line = t.line } ∷ map bracket_of ts))
        ≡ wrong_among (unpaired (marks bs ++ bracket_of t ∷ map bracket_of ts))
    marked m e =
        ap (λ x. wrong_among
        (unpaired (marks bs ++ record { mark = x; line = t.line } ∷ map bracket_of ts))) (sym e)

    wrong_plain : mark_of t ≡ Plain → verdict (run (step (at l bs w d) t) ts)
        ≡ wrong_among (unpaired (marks bs ++ bracket_of t ∷ map bracket_of ts))
    wrong_plain e =
        ap (λ c. verdict (run c ts)) (step_plain l bs w d t e) ∙ behind (plain_at w l t) bs w d
        ∙ ap wrong_among
        (same_behind (marks bs) (map bracket_of ts)
        (record { mark = Plain; line = t.line } ∷ map bracket_of ts) refl) ∙ marked Plain e

    wrong_opening : (p : Pair) → mark_of t ≡ Opening p
        → verdict (run (step (at l bs w d) t) ts)
        ≡ wrong_among (unpaired (marks bs ++ bracket_of t ∷ map bracket_of ts))
    wrong_opening p e =
        let n = note_opened l bs w d p t in
        ap (λ c. verdict (run c ts)) (step_opening l bs w d p t e ∙ n.is)
        ∙ behind n.level (bs ++ entry p t n.kind ∷ []) n.where_ n.deep
        ∙ ap (λ x. wrong_among (unpaired x)) (marks_end bs (entry p t n.kind) (map bracket_of ts))
        ∙ marked (Opening p) e

    wrong_closing : (p : Pair) → mark_of t ≡ Closing p → (bs ≡ []) ⊎ Ended bs
        → verdict (run (step (at l bs w d) t) ts)
        ≡ wrong_among (unpaired (marks bs ++ bracket_of t ∷ map bracket_of ts))
    wrong_closing p e (inl none) =
        ap (λ c. verdict (run c ts)) (step_closed l bs w d p t e
        ∙ ap (λ x. closed_by (top x) (at l (below x) w d) p t) none)
        ∙ stays_wrong _ t.line ts refl
        ∙ ap (λ x. wrong_among
        (unpaired (marks x ++ record { mark = Closing p; line = t.line } ∷ map bracket_of ts)))
        (sym none) ∙ marked (Closing p) e
    wrong_closing p e (inr last) = by (same_pair last.end.pair p) refl where
      taken : step (at l bs w d) t ≡ closed_by (Some last.end) (at l last.front w d) p t
      taken = step_closed l bs w d p t e
          ∙ ap (λ x. closed_by (top x) (at l (below x) w d) p t) last.is
          ∙ ap (λ x. closed_by x (at l (below (last.front ++ last.end ∷ [])) w d) p t)
          (top_end last.front last.end)
          ∙ ap (λ x. closed_by (Some last.end) (at l x w d) p t) (below_end last.front last.end)

      shown : wrong_among
          (unpaired
          (marks last.front
          ++ bracket last.end.pair last.end.line ∷ record { mark = Closing p; line = t.line }
          ∷ map bracket_of ts))
          ≡ wrong_among (unpaired (marks bs ++ bracket_of t ∷ map bracket_of ts))
      shown =
          ap (λ x. wrong_among (unpaired x))
          (sym (marks_end last.front last.end
          (record { mark = Closing p; line = t.line } ∷ map bracket_of ts)))
          ∙ ap (λ x. wrong_among
          (unpaired (marks x ++ record { mark = Closing p; line = t.line } ∷ map bracket_of ts)))
          (sym last.is) ∙ marked (Closing p) e

      by : (b : Bool) → same_pair last.end.pair p ≡ b
          → verdict (run (step (at l bs w d) t) ts)
          ≡ wrong_among (unpaired (marks bs ++ bracket_of t ∷ map bracket_of ts))
      by true s =
          let n = left_closed last.end.group last.end.line l last.front w d t in
          ap (λ c. verdict (run c ts)) (taken
          ∙ ap (λ x. cond x (closed_group last.end.group last.end.line (at l last.front w d) t)
          (record (at l last.front w d) { wrong = Some t.line })) s ∙ n.is)
          ∙ behind n.level last.front n.where_ n.deep
          ∙ ap wrong_among (sym (closes_last last.front last.end p t.line (map bracket_of ts) s))
          ∙ shown
      by false s =
          ap (λ c. verdict (run c ts)) (taken
          ∙ ap (λ x. cond x (closed_group last.end.group last.end.line (at l last.front w d) t)
          (record (at l last.front w d) { wrong = Some t.line })) s)
          ∙ stays_wrong _ t.line ts refl
          ∙ sym (wrong_last last.front last.end p t.line (map bracket_of ts) _ s) ∙ shown

pub wrong_run : (ts : List Token) (l : Level) (bs : List Open) (w : Place) (d : Option ℕ)
    → verdict (run (at l bs w d) ts) ≡ wrong_among (unpaired (marks bs ++ map bracket_of ts))
wrong_run [] l bs w d =
    let e : unpaired (marks bs ++ []) ≡ marks bs ++ [] = ap unpaired (append-nil (marks bs))
    ∙ openings_stay bs ∙ sym (append-nil (marks bs)) in
    ap first_line (sym (append-nil (marks bs)))
    ∙ sym (no_closing bs [] (first_line (marks bs ++ []))) ∙ ap wrong_among (sym e)
wrong_run (t ∷ ts) l bs w d = by (mark_of t) refl (wrong_run ts) where
  by : (m : Mark) → mark_of t ≡ m
      → ((l : Level) (bs : List Open) (w : Place) (d : Option ℕ)
      → verdict (run (at l bs w d) ts) ≡ wrong_among (unpaired (marks bs ++ map bracket_of ts)))
      → verdict (run (step (at l bs w d) t) ts)
      ≡ wrong_among (unpaired (marks bs ++ bracket_of t ∷ map bracket_of ts))
  by Plain e behind = wrong_plain t ts l bs w d behind e
  by (Opening p) e behind = wrong_opening t ts l bs w d behind p e
  by (Closing p) e behind = wrong_closing t ts l bs w d behind p e (last_of bs)
