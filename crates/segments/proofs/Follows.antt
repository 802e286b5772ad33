-- The cutter follows its model.
use Rattle.std.proofs.Common.{◌≡◌, refl, sym, ◌∙◌, ap, subst, ℕ, Bool, true, false, ◌-◌, ◌==◌}
use Rattle.std.proofs.Common.{cond, List, [], ◌∷◌, ◌++◌, append_assoc, append-nil, map, Option}
use Rattle.std.proofs.Common.{Some, None, Err, ◌⊎◌, inl, inr}
use Rattle.java_token.specs.declared.token.Token.{Token}
use Rattle.segments.specs.declared.bracket.Pair.{Pair}
use Rattle.segments.specs.declared.bracket.Pair.TheVariants.{Braces}
use Rattle.segments.specs.declared.bracket.Mark.{Mark}
use Rattle.segments.specs.declared.bracket.Mark.TheVariants.{Opening, Closing, Plain}
use Rattle.segments.specs.declared.segment.SegEnd.TheVariants.{Body, Skipped}
use Rattle.segments.specs.declared.error.SegErr.TheVariants.{Unbalanced}
use Rattle.segments.specs.declared.level.Level.{Level}
use Rattle.segments.specs.declared.cutter.Cutter.{Cutter}
use Rattle.segments.specs.declared.cutter.Open.{Open}
use Rattle.segments.specs.declared.cutter.Place.{Place}
use Rattle.segments.specs.declared.cutter.Place.TheVariants as place
use Rattle.segments.specs.declared.cutter.Group.{Group}
use Rattle.segments.specs.declared.cutter.Group.TheVariants as real
use Rattle.segments.specs.Brackets.{mark_of, same_pair}
use Rattle.segments.specs.Cut.{is_class_head}
use Rattle.hdr_core.specs.Stack.{top, below}
use Rattle.segments.specs.Levels.{fresh, stored, ended, segments_of}
use Rattle.segments.specs.Steps.{place_in, is_ending, or_else, first_line_or, left_body, start}
use Rattle.segments.specs.Steps.{step, run}
use Rattle.segments.specs.Steps as steps
use Rattle.segments.specs.Finish.{finished_by, finished}
use Rattle.hdr_core.proofs.Stacks.{top_end, below_end}
use Rattle.segments.proofs.GroupKinds as group
use Rattle.segments.proofs.GroupKinds.{Kind}
use Rattle.segments.proofs.LevelModel as model
use Rattle.segments.proofs.LevelModel.{step as model_step, start as model_start}
use Rattle.segments.proofs.Wrong.{Ended, last_of}

abbrev bare_group : Kind → Group
bare_group group.Outer = real.Outer
bare_group group.Inner = real.Inner
bare_group group.Hidden = real.Hidden
bare_group group.Skipped = real.Skipped
bare_group (group.Body level) = real.Body

abbrev bare_open : model.Open → Open
bare_open o = record { pair = o.pair; line = o.line; group = bare_group o.group }

abbrev level_in : Kind → List Level
level_in (group.Body level) = level ∷ []
level_in _ = []

-- the levels that the open class bodies stand in
abbrev levels : List model.Open → List Level
levels [] = []
levels (o ∷ os) = level_in o.group ++ levels os

abbrev cutter_of : Level → List Level → List Open → Place → Option ℕ → Option ℕ → Cutter
cutter_of level outer brackets place deep wrong =
    record {
      level = level;
      outer = outer;
      brackets = brackets;
      place = place;
      deep = deep;
      wrong = wrong;
    }

abbrev model_of : Level → List model.Open → Place → Option ℕ → Option ℕ → model.Cutter
model_of level brackets place deep wrong =
    record { level = level; brackets = brackets; place = place; deep = deep; wrong = wrong }

-- the cutter of a model
abbrev bare : model.Cutter → Cutter
bare c = cutter_of c.level (levels c.brackets) (map bare_open c.brackets) c.place c.deep c.wrong

map_end : (os : List model.Open) (o : model.Open)
    → map bare_open (os ++ o ∷ []) ≡ map bare_open os ++ bare_open o ∷ []
map_end [] o = refl
map_end (x ∷ os) o = ap (λ l. bare_open x ∷ l) (map_end os o)

levels_end : (os : List model.Open) (o : model.Open)
    → levels (os ++ o ∷ []) ≡ levels os ++ level_in o.group
levels_end [] o = append-nil (level_in o.group)
levels_end (x ∷ os) o = ap (λ l. level_in x.group ++ l) (levels_end os o)
    ∙ sym (append_assoc (level_in x.group) (levels os) (level_in o.group))

-- a bracket more
noted : (l : Level) (bs : List model.Open) (o : model.Open) (w : Place) (d wr : Option ℕ)
    → cutter_of l (levels bs ++ level_in o.group) (map bare_open bs ++ bare_open o ∷ []) w d wr
    ≡ bare (model_of l (bs ++ o ∷ []) w d wr)
noted l bs o w d wr =
    ap (λ outer. cutter_of l outer (map bare_open bs ++ bare_open o ∷ []) w d wr)
    (sym (levels_end bs o))
    ∙ ap (λ brackets. cutter_of l (levels (bs ++ o ∷ [])) brackets w d wr) (sym (map_end bs o))

noted_plain : (l : Level) (bs : List model.Open) (o : model.Open) (w : Place) (d wr : Option ℕ)
    → level_in o.group ≡ []
    → cutter_of l (levels bs) (map bare_open bs ++ bare_open o ∷ []) w d wr
    ≡ bare (model_of l (bs ++ o ∷ []) w d wr)
noted_plain l bs o w d wr e =
    ap (λ outer. cutter_of l outer (map bare_open bs ++ bare_open o ∷ []) w d wr)
    (sym (ap (λ x. levels bs ++ x) e ∙ append-nil (levels bs)))
    ∙ noted l bs o w d wr

chosen : (b : Bool) (x y : Cutter) (m n : model.Cutter) → x ≡ bare m → y ≡ bare n
    → cond b x y ≡ bare (cond b m n)
chosen true x y m n e f = e
chosen false x y m n e f = f

skipping : (l : Level) (bs : List model.Open) (w : Place) (d wr : Option ℕ) (t : Token)
    → steps.skipping (bare (model_of l bs w d wr)) t
    ≡ bare (model.skipping (model_of l bs w d wr) t)
skipping l bs w d wr t =
    noted_plain l bs (model.entry Braces t group.Skipped) place.Hidden d wr refl

ending : (l : Level) (bs : List model.Open) (w : Place) (d wr : Option ℕ) (t : Token)
    → steps.ending (bare (model_of l bs w d wr)) t ≡ bare (model.ending (model_of l bs w d wr) t)
ending l bs w d wr t =
    chosen (is_class_head l.head) _ _ _ _
    (chosen (l.left == 0) _ _ _ _ (skipping l bs w (or_else d (first_line_or l.head t)) wr t)
    (noted (fresh (l.left - 1)) bs (model.entry Braces t (group.Body l)) w d wr))
    (skipping l bs w d wr t)

opened : (l : Level) (bs : List model.Open) (w : Place) (d wr : Option ℕ) (p : Pair) (t : Token)
    → steps.opened (bare (model_of l bs w d wr)) p t
    ≡ bare (model.opened (model_of l bs w d wr) p t)
opened l bs place.Outside d wr p t =
    chosen (is_ending p l) _ _ _ _ (ending l bs place.Outside d wr t)
    (noted_plain (stored (record l { is_behind_default = false }) t) bs
    (model.entry p t group.Outer) (place_in p l.is_assigned) d wr refl)
opened l bs place.Inside d wr p t =
    noted_plain (stored l t) bs (model.entry p t group.Inner) (place_in p l.is_assigned) d wr refl
opened l bs place.Hidden d wr p t =
    noted_plain l bs (model.entry p t group.Hidden) place.Hidden d wr refl

-- a group ends
closed_group : (g : Kind) (line : ℕ) (l : Level) (bs : List model.Open) (w : Place)
    (d wr : Option ℕ) (t : Token)
    → steps.closed_group (bare_group g) line
    (cutter_of l (levels bs ++ level_in g) (map bare_open bs) w d wr) t
    ≡ bare (model.closed_group g line (model_of l bs w d wr) t)
closed_group group.Outer line l bs w d wr t =
    ap (λ os. cutter_of (stored l t) os (map bare_open bs) place.Outside d wr)
    (append-nil (levels bs))
closed_group group.Inner line l bs w d wr t =
    ap (λ os. cutter_of (stored l t) os (map bare_open bs) place.Inside d wr)
    (append-nil (levels bs))
closed_group group.Hidden line l bs w d wr t =
    ap (λ os. cutter_of l os (map bare_open bs) w d wr) (append-nil (levels bs))
closed_group group.Skipped line l bs w d wr t =
    ap (λ os. cutter_of (ended l (Skipped line)) os (map bare_open bs) place.Outside d wr)
    (append-nil (levels bs))
closed_group (group.Body outer) line l bs w d wr t =
    ap (λ x. left_body x (cutter_of l (below (levels bs ++ outer ∷ [])) (map bare_open bs) w d wr))
    (top_end (levels bs) outer)
    ∙ ap (λ os. cutter_of (ended outer (Body (segments_of l))) os (map bare_open bs) w d wr)
    (below_end (levels bs) outer)

-- after a step both are wrong alike, or the cutter is that of the model
record AreWrong (c : Cutter) (m : model.Cutter) : Type 0 where
  line : ℕ
  wrong : c.wrong ≡ Some line
  model_wrong : m.wrong ≡ Some line

abbrev Follows : Cutter → model.Cutter → Type 0
Follows c m = (c ≡ bare m) ⊎ AreWrong c m

closed_last : (l : Level) (front : List model.Open) (o : model.Open) (w : Place) (d : Option ℕ)
    (p : Pair) (t : Token)
    → Follows
    (steps.closed_by (Some (bare_open o))
    (cutter_of l (levels front ++ level_in o.group) (map bare_open front) w d None) p t)
    (model.closed_by (Some o) (model_of l front w d None) p t)
closed_last l front o w d p t = by (same_pair o.pair p) where
  by : (b : Bool)
      → Follows
      (cond b
      (steps.closed_group (bare_group o.group) o.line
      (cutter_of l (levels front ++ level_in o.group) (map bare_open front) w d None) t)
      (record
      (cutter_of l (levels front ++ level_in o.group)
      (map bare_open front) w d None) { wrong = Some t.line }))
      (cond b (model.closed_group o.group o.line (model_of l front w d None) t)
      (record (model_of l front w d None) { wrong = Some t.line }))
  by true = inl (closed_group o.group o.line l front w d None t)
  by false = inr (record { line = t.line; wrong = refl; model_wrong = refl })

abbrev follows_at : Option Open → List Open → List Level → Option model.Open → List model.Open
    → Level → Place → Option ℕ → Pair → Token → Type 0
follows_at last front outer model_last model_front l w d p t =
    Follows (steps.closed_by last (cutter_of l outer front w d None) p t)
    (model.closed_by model_last (model_of l model_front w d None) p t)

closed : (l : Level) (bs : List model.Open) (w : Place) (d : Option ℕ) (p : Pair) (t : Token)
    → (bs ≡ []) ⊎ Ended bs
    → Follows (steps.closed (bare (model_of l bs w d None)) p t)
    (model.closed (model_of l bs w d None) p t)
closed l bs w d p t (inl none) =
    subst (λ x. follows_at (top (map bare_open x)) (below (map bare_open x)) (levels x) (top x)
    (below x) l w d p t) (sym none)
    (inr (record { line = t.line; wrong = refl; model_wrong = refl }))
closed l bs w d p t (inr e) =
    let front = e.front in
    let o = e.end in
    subst (λ x. follows_at (top (map bare_open x)) (below (map bare_open x)) (levels x) (top x)
    (below x) l w d p t) (sym e.is)
    (rw (
      map_end front o,
      top_end (map bare_open front) (bare_open o),
      below_end (map bare_open front) (bare_open o),
      levels_end front o,
      top_end front o,
      below_end front o,
    )
    (closed_last l front o w d p t))

stepped : (m : Mark) (l : Level) (bs : List model.Open) (w : Place) (d : Option ℕ) (t : Token)
    → Follows (steps.step_by m (bare (model_of l bs w d None)) t)
    (model.step_by m (model_of l bs w d None) t)
stepped Plain l bs w d t = inl refl
stepped (Opening p) l bs w d t = inl (opened l bs w d None p t)
stepped (Closing p) l bs w d t = closed l bs w d p t (last_of bs)

one_step : (l : Level) (bs : List model.Open) (w : Place) (d wr : Option ℕ) (t : Token)
    → Follows (step (bare (model_of l bs w d wr)) t) (model_step (model_of l bs w d wr) t)
unfolding step model_step
one_step l bs w d (Some line) t = inl refl
one_step l bs w d None t = stepped (mark_of t) l bs w d t

-- ---- whole lists

stays : (c : Cutter) (line : ℕ) (ts : List Token) → c.wrong ≡ Some line
    → finished (run c ts) ≡ Err (Unbalanced line)
unfolding step
stays c line [] e = ap (λ x. finished_by x c.brackets c.deep c.level) e
stays c line (t ∷ ts) e =
    ap (λ x. finished (run (steps.unless x c (steps.step_by (mark_of t) c t)) ts)) e
    ∙ stays c line ts e

model_stays : (c : model.Cutter) (line : ℕ) (ts : List Token) → c.wrong ≡ Some line
    → model.finished (model.run c ts) ≡ Err (Unbalanced line)
unfolding model_step
model_stays c line [] e = ap (λ x. model.finished_by x c.brackets c.deep c.level) e
model_stays c line (t ∷ ts) e =
    ap (λ x. model.finished (model.run (model.unless x c (model.step_by (mark_of t) c t)) ts)) e
    ∙ model_stays c line ts e

ended_alike : (wr : Option ℕ) (bs : List model.Open) (d : Option ℕ) (l : Level)
    → finished_by wr (map bare_open bs) d l ≡ model.finished_by wr bs d l
ended_alike (Some line) bs d l = refl
ended_alike None (b ∷ bs) d l = refl
ended_alike None [] (Some line) l = refl
ended_alike None [] None l = refl

pub followed : (ts : List Token) (m : model.Cutter)
    → finished (run (bare m) ts) ≡ model.finished (model.run m ts)
followed [] m = ended_alike m.wrong m.brackets m.deep m.level
followed (t ∷ ts) m =
    by (one_step m.level m.brackets m.place m.deep m.wrong t) (followed ts (model_step m t)) where
      by : Follows (step (bare m) t) (model_step m t)
          → finished (run (bare (model_step m t)) ts)
          ≡ model.finished (model.run (model_step m t) ts)
          → finished (run (step (bare m) t) ts) ≡ model.finished (model.run (model_step m t) ts)
      by (inl e) further = ap (λ c. finished (run c ts)) e ∙ further
      by (inr w) further = stays (step (bare m) t) w.line ts w.wrong
          ∙ sym (model_stays (model_step m t) w.line ts w.model_wrong)

-- the whole list
pub followed_whole : (n : ℕ) (ts : List Token)
    → finished (run (start n) ts) ≡ model.finished (model.run (model_start n) ts)
unfolding start model_start
followed_whole n ts = followed ts (model_of (fresh n) [] place.Outside None None)
