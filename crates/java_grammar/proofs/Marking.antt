-- The marks of tokens, from the front.
use Rattle.std.proofs.Common.{◌≡◌, refl, sym, ◌∙◌, ap, ℕ, zero, suc, ◌+◌, ◌-◌, ◌<◌, ◌≤◌, ◌==◌}
use Rattle.std.proofs.Common.{arith, Bool, true, false, List, [], ◌∷◌, ◌++◌, length, drop, get_or}
use Rattle.std.proofs.Common.{None}
use Rattle.std.specs.Prelude.{if◌then◌else◌}
use Rattle.std.proofs.Math.Seq.{drop-nil}
use Rattle.std.proofs.Math.Dec.{eqb-suc-zero}
use Rattle.java_token.specs.declared.token.Token.{Token}
use Rattle.java_grammar.specs.declared.edge.Edge.{Edge}
use Rattle.java_grammar.specs.declared.edge.Edge.TheVariants as edge
use Rattle.java_grammar.specs.Parts.{part_of, parts}
use Rattle.java_grammar.specs.Tests.{angles}
use Rattle.java_grammar.specs.Marks.{Mark, Single, Angle, Group, Semi, angle_marks, marks_by}
use Rattle.java_grammar.specs.Marks.{token_marks, marks, edge_marks}
use Rattle.java_grammar.specs.Reading.{first_angles, is_end, front_part, is_angle, behind_mark}
use Rattle.java_grammar.specs.Reading.{mark_is_group, is_group, mark_is_semi, is_semi}
use Rattle.java_grammar.specs.Reading.{NothingRead}

-- ---- the angles of a token

angle_more : (n k : ℕ) (text : List Mark) → k < n
    → drop k (angle_marks n ++ text) ≡ Angle true ∷ drop (suc k) (angle_marks n ++ text)
angle_more zero k text h = absurd (omega arith)
angle_more (suc n) zero text h = refl
angle_more (suc n) (suc k) text h = let less : k < n = omega arith in angle_more n k text less

angle_last : (n : ℕ) (text : List Mark) → drop n (angle_marks n ++ text) ≡ Angle false ∷ text
angle_last zero text = refl
angle_last (suc n) text = angle_last n text

-- a closing angle comes first
pub record AngleFirst (text : List Mark) : Type 0 where
  pub more : Bool
  pub behind : List Mark
  pub is : text ≡ Angle more ∷ behind

angle_some : (n k : ℕ) (text : List Mark) → k ≤ n → AngleFirst (drop k (angle_marks n ++ text))
angle_some zero zero text h = record { more = false; behind = text; is = refl }
angle_some zero (suc k) text h = absurd (omega arith)
angle_some (suc n) zero text h = record { more = true; behind = angle_marks n ++ text; is = refl }
angle_some (suc n) (suc k) text h = let less : k ≤ n = omega arith in angle_some n k text less

-- ---- the first token

-- what is known of it: where it stands in the list, and its angles
pub record First (ts : List Token) (t : Token) (a : ℕ) : Type 0 where
  pub some : 1 ≤ length ts
  pub is : t ≡ get_or ts 0 t
  pub counted : a ≡ angles (part_of t)

pub first_is : {ts : List Token} {t : Token} {a : ℕ} → First ts t a → first_angles (parts ts) ≡ a
first_is {ts = []} first = absurd (omega (arith, first.some))
first_is {ts = u ∷ ts} {t = t} first = sym (first.counted ∙ ap (λ x. angles (part_of x)) first.is)

of_single : (u : Token) (ts : List Token) → 0 ≡ angles (part_of u)
    → marks (u ∷ ts) ≡ Single u ∷ marks ts
unfolding token_marks
of_single u ts e = ap (λ n. marks_by n u ++ marks ts) (sym e)

pub of_angles : (u : Token) (ts : List Token) (n : ℕ) → suc n ≡ angles (part_of u)
    → marks (u ∷ ts) ≡ angle_marks n ++ marks ts
unfolding token_marks
of_angles u ts n e = ap (λ m. marks_by m u ++ marks ts) (sym e)

pub single_first : (ts : List Token) (t : Token) (a taken : ℕ) → First ts t a → a ≡ 0
    → taken ≤ first_angles (parts ts) - 1
    → drop taken (marks ts) ≡ Single t ∷ marks (drop 1 ts)
single_first [] t a taken first none within = absurd (omega (arith, first.some))
single_first (u ∷ ts) t a taken first none within =
    let e : 0 ≡ angles (part_of u) = sym none ∙ first.counted
    ∙ ap (λ x. angles (part_of x)) first.is in
    let zero_taken : taken ≡ 0 = omega (arith, e) in
    ap (λ n. drop n (marks (u ∷ ts))) zero_taken ∙ of_single u ts e
    ∙ ap (λ x. Single x ∷ marks ts) (sym first.is)

pub more_first : (ts : List Token) (t : Token) (a taken : ℕ) → First ts t a → taken + 1 < a
    → drop taken (marks ts) ≡ Angle true ∷ drop (taken + 1) (marks ts)
more_first [] t a taken first less = absurd (omega (arith, first.some))
more_first (u ∷ ts) t zero taken first less = absurd (omega arith)
more_first (u ∷ ts) t (suc n) taken first less =
    let e : suc n ≡ angles (part_of u) = first.counted ∙ ap (λ x. angles (part_of x)) first.is in
    let k : taken < n = omega arith in
    let s : suc taken ≡ taken + 1 = omega arith in
    let m = of_angles u ts n e in
    ap (drop taken) m ∙ angle_more n taken (marks ts) k
    ∙ ap (λ x. Angle true ∷ drop (suc taken) x) (sym m)
    ∙ ap (λ x. Angle true ∷ drop x (marks (u ∷ ts))) s

pub last_first : (ts : List Token) (t : Token) (a taken : ℕ) → First ts t a → taken + 1 ≡ a
    → drop taken (marks ts) ≡ Angle false ∷ marks (drop 1 ts)
last_first [] t a taken first last = absurd (omega (arith, first.some))
last_first (u ∷ ts) t zero taken first last = absurd (omega arith)
last_first (u ∷ ts) t (suc n) taken first last =
    let e : suc n ≡ angles (part_of u) = first.counted ∙ ap (λ x. angles (part_of x)) first.is in
    let k : taken ≡ n = omega arith in
    ap (drop taken) (of_angles u ts n e) ∙ ap (λ x. drop x (angle_marks n ++ marks ts)) k
    ∙ angle_last n (marks ts)

pub angle_first : (ts : List Token) (t : Token) (a taken : ℕ) → First ts t a → 0 < a
    → taken ≤ first_angles (parts ts) - 1
    → AngleFirst (drop taken (marks ts))
angle_first [] t a taken first some within = absurd (omega (arith, first.some))
angle_first (u ∷ ts) t zero taken first some within = absurd (omega arith)
angle_first (u ∷ ts) t (suc n) taken first some within =
    let e : suc n ≡ angles (part_of u) = first.counted ∙ ap (λ x. angles (part_of x)) first.is in
    let k : taken ≤ n = omega (arith, e) in
    let r = angle_some n taken (marks ts) k in
    record { more = r.more; behind = r.behind; is = ap (drop taken) (of_angles u ts n e) ∙ r.is }

-- ---- what is read

pub not_angle : (now text : List Mark) (t : Token) → now ≡ Single t ∷ text
    → now ≡ (if is_angle now then behind_mark now else now)
not_angle now text t e = e ∙ sym (ap (λ x. if is_angle x then behind_mark x else x) e)

pub angle_read : (now text : List Mark) (more : Bool) → now ≡ Angle more ∷ text
    → text ≡ (if is_angle now then behind_mark now else now)
angle_read now text more e = sym (ap (λ x. if is_angle x then behind_mark x else x) e)

pub nothing_read : (now : List Mark) → front_part now ≡ None → NothingRead now now
nothing_read now e = record { none = e; same = refl }

-- ---- the end

abbrev mark_is_outer : Mark → Bool
mark_is_outer (Single t) = false
mark_is_outer (Angle more) = false
mark_is_outer Group = true
mark_is_outer Semi = true

-- neither a token nor an angle comes next
abbrev pub is_outer : List Mark → Bool
is_outer [] = true
is_outer (m ∷ text) = mark_is_outer m

pub edge_outer : (e : Edge) → is_outer (edge_marks e) ≡ true
edge_outer edge.Nothing = refl
edge_outer edge.Group = refl
edge_outer edge.Semicolon = refl

pub edge_part : (e : Edge) → front_part (edge_marks e) ≡ None
edge_part edge.Nothing = refl
edge_part edge.Group = refl
edge_part edge.Semicolon = refl

pub edge_angle : (e : Edge) → is_angle (edge_marks e) ≡ false
edge_angle edge.Nothing = refl
edge_angle edge.Group = refl
edge_angle edge.Semicolon = refl

-- what a reader sees behind its last token
pub last_marks : (ts : List Token) (taken : ℕ) (e : Edge) (now : List Mark) → length ts ≡ 0
    → drop taken (marks ts) ++ edge_marks e ≡ now → now ≡ edge_marks e
last_marks [] taken e now h view = sym view ∙ ap (λ l. l ++ edge_marks e) (drop-nil taken)
last_marks (t ∷ ts) taken e now h view = absurd (omega arith)

-- a token or an angle stands at the front
pub record Inner (text : List Mark) : Type 0 where
  pub front : Mark
  pub behind : List Mark
  pub is : text ≡ front ∷ behind
  pub inside : mark_is_outer front ≡ false

inner_by : (n : ℕ) (u : Token) (ts : List Token) (taken : ℕ) → n ≡ angles (part_of u)
    → taken ≤ n - 1 → Inner (drop taken (marks (u ∷ ts)))
inner_by zero u ts taken e within =
    let k : taken ≡ 0 = omega arith in
    record {
      front = Single u;
      behind = marks ts;
      is = ap (λ x. drop x (marks (u ∷ ts))) k ∙ of_single u ts e;
      inside = refl;
    }
inner_by (suc n) u ts taken e within =
    let k : taken ≤ n = omega arith in
    let a = angle_some n taken (marks ts) k in
    record {
      front = Angle a.more;
      behind = a.behind;
      is = ap (drop taken) (of_angles u ts n e) ∙ a.is;
      inside = refl;
    }

-- where a token is left, no end comes next
pub inner_marks : (ts : List Token) (taken : ℕ) → 1 ≤ length ts
    → taken ≤ first_angles (parts ts) - 1 → Inner (drop taken (marks ts))
inner_marks [] taken some within = absurd (omega arith)
inner_marks (u ∷ ts) taken some within = inner_by (angles (part_of u)) u ts taken refl within

no_end : (m : Mark) → mark_is_outer m ≡ false
    → (mark_is_group m ≡ false) × (mark_is_semi m ≡ false)
no_end (Single t) e = (refl, refl)
no_end (Angle more) e = (refl, refl)
no_end Group e = absurd cc
no_end Semi e = absurd cc

-- which end comes next, where a token is left
pub record NoEnd (now : List Mark) : Type 0 where
  pub «end» : is_end now ≡ false
  pub group : is_group now ≡ false
  pub semi : is_semi now ≡ false

pub no_end_yet : (ts : List Token) (taken : ℕ) (e : Edge) (now : List Mark) → 1 ≤ length ts
    → taken ≤ first_angles (parts ts) - 1 → drop taken (marks ts) ++ edge_marks e ≡ now → NoEnd now
no_end_yet ts taken e now some within view =
    let m = inner_marks ts taken some within in
    let is = sym view ∙ ap (λ l. l ++ edge_marks e) m.is in
    let n = no_end m.front m.inside in
    record {
      «end» = ap is_end is;
      group = ap is_group is ∙ n.0;
      semi = ap is_semi is ∙ n.1;
    }
