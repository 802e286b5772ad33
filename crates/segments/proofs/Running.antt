-- What a cutter does with a whole forest, in a group.
use Rattle.std.proofs.Common.{◌≡◌, refl, sym, ◌∙◌, ap, ℕ, true, false, cond, List, [], ◌∷◌, ◌++◌}
use Rattle.std.proofs.Common.{append_assoc, append-nil, Option, Some, None}
use Rattle.java_token.specs.declared.token.Token.{Token}
use Rattle.segments.specs.declared.bracket.Pair.{Pair}
use Rattle.segments.specs.declared.bracket.Pair.TheVariants.{Parentheses, Brackets, Braces}
use Rattle.segments.specs.declared.bracket.Mark.TheVariants.{Opening, Closing, Plain}
use Rattle.segments.specs.declared.level.Level.{Level}
use Rattle.segments.proofs.LevelModel.{Cutter}
use Rattle.segments.proofs.LevelModel.{Open}
use Rattle.segments.specs.declared.cutter.Place.{Place}
use Rattle.segments.specs.declared.cutter.Place.TheVariants as place
use Rattle.segments.proofs.GroupKinds as group
use Rattle.segments.proofs.GroupKinds.{Kind}
use Rattle.segments.specs.Brackets.{mark_of, same_pair}
use Rattle.hdr_core.specs.Stack.{below}
use Rattle.segments.specs.Levels.{stored}
use Rattle.segments.specs.Steps.{place_in}
use Rattle.segments.proofs.LevelModel.{plain, entry, opened, closed_group, closed_by, step}
use Rattle.segments.proofs.LevelModel.{step_by, run}
use Rattle.hdr_core.proofs.Stacks.{top_end, below_end}
use Rattle.segments.proofs.Forests.{Forest, Nothing, Single, Group, flat}
use Rattle.segments.proofs.Alone.{alone}

-- a cutter that has met no wrong bracket
abbrev pub at : Level → List Open → Place → Option ℕ → Cutter
at level brackets place deep =
    record { level = level; brackets = brackets; place = place; deep = deep; wrong = None }

pub step_plain : (l : Level) (bs : List Open) (w : Place) (d : Option ℕ) (t : Token)
    → mark_of t ≡ Plain → step (at l bs w d) t ≡ plain (at l bs w d) t
unfolding step
step_plain l bs w d t e = ap (λ m. step_by m (at l bs w d) t) e

pub step_opening : (l : Level) (bs : List Open) (w : Place) (d : Option ℕ) (p : Pair) (t : Token)
    → mark_of t ≡ Opening p
    → step (at l bs w d) t ≡ opened (at l bs w d) p t
unfolding step
step_opening l bs w d p t e = ap (λ m. step_by m (at l bs w d) t) e

same_self : (p : Pair) → same_pair p p ≡ true
same_self Parentheses = refl
same_self Brackets = refl
same_self Braces = refl

pub step_closing : (l : Level) (bs : List Open) (w : Place) (d : Option ℕ) (p : Pair) (o : Token)
    (g : Kind) (t : Token) → mark_of t ≡ Closing p
    → step (at l (bs ++ entry p o g ∷ []) w d) t ≡ closed_group g o.line (at l bs w d) t
unfolding step
step_closing l bs w d p o g t e =
    ap (λ m. step_by m (at l (bs ++ entry p o g ∷ []) w d) t) e
    ∙ ap (λ x. closed_by x (at l (below (bs ++ entry p o g ∷ [])) w d) p t)
    (top_end bs (entry p o g))
    ∙ ap (λ x. closed_by (Some (entry p o g)) (at l x w d) p t) (below_end bs (entry p o g))
    ∙ ap (λ b. cond b (closed_group g o.line (at l bs w d) t)
    (record (at l bs w d) { wrong = Some t.line })) (same_self p)

pub run_append : (s : Cutter) (xs ys : List Token) → run s (xs ++ ys) ≡ run (run s xs) ys
run_append s [] ys = refl
run_append s (x ∷ xs) ys = run_append (step s x) xs ys

pub run_single : (s s1 s2 : Cutter) (t : Token) (xs : List Token) → step s t ≡ s1 → run s1 xs ≡ s2
    → run s (t ∷ xs) ≡ s2
run_single s s1 s2 t xs a b = ap (λ u. run u xs) a ∙ b

pub run_group : (s s1 s2 s3 s4 : Cutter) (o : Token) (xs : List Token) (c : Token)
    (ys : List Token)
    → step s o ≡ s1 → run s1 xs ≡ s2 → step s2 c ≡ s3 → run s3 ys ≡ s4
    → run s (o ∷ (xs ++ c ∷ ys)) ≡ s4
run_group s s1 s2 s3 s4 o xs c ys a b d e =
    ap (λ u. run u (xs ++ c ∷ ys)) a ∙ run_append s1 xs (c ∷ ys) ∙ ap (λ u. run u (c ∷ ys)) b
    ∙ ap (λ u. run u ys) d ∙ e

-- ---- where nothing is stored

pub hidden_run : (f : Forest) (l : Level) (bs : List Open) (d : Option ℕ)
    → run (at l bs place.Hidden d) (flat f) ≡ at l bs place.Hidden d
hidden_run Nothing l bs d = refl
hidden_run (Single t e f) l bs d =
    run_single _ _ _ t (flat f) (step_plain l bs place.Hidden d t e) (hidden_run f l bs d)
hidden_run (Group p o eo i c ec f) l bs d =
    run_group _ _ _ _ _ o (flat i) c (flat f) (step_opening l bs place.Hidden d p o eo)
    (hidden_run i l (bs ++ entry p o group.Hidden ∷ []) d)
    (step_closing l bs place.Hidden d p o group.Hidden c ec) (hidden_run f l bs d)

-- ---- where tokens are stored

abbrev pub grown : Level → List Token → Level
grown l xs = record l { head = l.head ++ xs }

pub grown_grown : (l : Level) (xs ys : List Token) → grown (grown l xs) ys ≡ grown l (xs ++ ys)
grown_grown l xs ys = ap (λ h. record l { head = h }) (append_assoc l.head xs ys)

grown_nothing : (l : Level) → l ≡ grown l []
grown_nothing l = ap (λ h. record l { head = h }) (sym (append-nil l.head))

grown_group : (l : Level) (o : Token) (xs : List Token) (c : Token) (ys : List Token)
    → grown (stored (grown (stored l o) xs) c) ys ≡ grown l (o ∷ (xs ++ c ∷ ys))
grown_group l o xs c ys = ap (λ h. record l { head = h }) (simp append_assoc)

pub place_in_unassigned : (p : Pair) → place_in p false ≡ place.Inside
place_in_unassigned Parentheses = refl
place_in_unassigned Brackets = refl
place_in_unassigned Braces = refl

pub inside_all : (f : Forest) (l : Level) (bs : List Open) (d : Option ℕ) → l.is_assigned ≡ false
    → run (at l bs place.Inside d) (flat f) ≡ at (grown l (flat f)) bs place.Inside d
inside_all Nothing l bs d h = ap (λ x. at x bs place.Inside d) (grown_nothing l)
inside_all (Single t e f) l bs d h =
    run_single _ _ _ t (flat f) (step_plain l bs place.Inside d t e)
    (inside_all f (stored l t) bs d h
    ∙ ap (λ x. at x bs place.Inside d) (grown_grown l (t ∷ []) (flat f)))
inside_all (Group p o eo i c ec f) l bs d h =
    run_group _ _ _ _ _ o (flat i) c (flat f)
    (step_opening l bs place.Inside d p o eo
    ∙ ap (λ w. at (stored l o) (bs ++ entry p o group.Inner ∷ []) w d) (ap (place_in p) h
    ∙ place_in_unassigned p))
    (inside_all i (stored l o) (bs ++ entry p o group.Inner ∷ []) d h)
    (step_closing _ bs place.Inside d p o group.Inner c ec)
    (inside_all f _ bs d h ∙ ap (λ x. at x bs place.Inside d)
    (grown_group l o (flat i) c (flat f)))

stored_braces : (l : Level) (o c : Token) (ys : List Token)
    → grown (stored (stored l o) c) ys ≡ grown l (o ∷ c ∷ ys)
stored_braces l o c ys = ap (λ h. record l { head = h }) (simp append_assoc)

pub inside_alone : (f : Forest) (l : Level) (bs : List Open) (d : Option ℕ) → l.is_assigned ≡ true
    → run (at l bs place.Inside d) (flat f) ≡ at (grown l (alone f)) bs place.Inside d
inside_alone Nothing l bs d h = ap (λ x. at x bs place.Inside d) (grown_nothing l)
inside_alone (Single t e f) l bs d h =
    run_single _ _ _ t (flat f) (step_plain l bs place.Inside d t e)
    (inside_alone f (stored l t) bs d h
    ∙ ap (λ x. at x bs place.Inside d) (grown_grown l (t ∷ []) (alone f)))
inside_alone (Group Braces o eo i c ec f) l bs d h =
    run_group _ _ _ _ _ o (flat i) c (flat f)
    (step_opening l bs place.Inside d Braces o eo
    ∙ ap (λ a. at (stored l o) (bs ++ entry Braces o group.Inner ∷ []) (place_in Braces a) d) h)
    (hidden_run i (stored l o) (bs ++ entry Braces o group.Inner ∷ []) d)
    (step_closing _ bs place.Hidden d Braces o group.Inner c ec)
    (inside_alone f _ bs d h ∙ ap (λ x. at x bs place.Inside d) (stored_braces l o c (alone f)))
inside_alone (Group Parentheses o eo i c ec f) l bs d h =
    run_group _ _ _ _ _ o (flat i) c (flat f) (step_opening l bs place.Inside d Parentheses o eo)
    (inside_alone i (stored l o) (bs ++ entry Parentheses o group.Inner ∷ []) d h)
    (step_closing _ bs place.Inside d Parentheses o group.Inner c ec)
    (inside_alone f _ bs d h
    ∙ ap (λ x. at x bs place.Inside d) (grown_group l o (alone i) c (alone f)))
inside_alone (Group Brackets o eo i c ec f) l bs d h =
    run_group _ _ _ _ _ o (flat i) c (flat f) (step_opening l bs place.Inside d Brackets o eo)
    (inside_alone i (stored l o) (bs ++ entry Brackets o group.Inner ∷ []) d h)
    (step_closing _ bs place.Inside d Brackets o group.Inner c ec)
    (inside_alone f _ bs d h
    ∙ ap (λ x. at x bs place.Inside d) (grown_group l o (alone i) c (alone f)))
