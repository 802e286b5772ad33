-- Operators at the front of marks.
use Rattle.std.proofs.Common.{◌≡◌, refl, sym, ◌∙◌, ap, subst, ℕ, zero, suc, ◌-◌, ◌<◌, ◌≤◌, arith}
use Rattle.std.proofs.Common.{true, false, List, [], ◌∷◌, ◌++◌, length, take, drop, Some, None}
use Rattle.std.proofs.Common.{append_assoc}
use Rattle.std.proofs.lemmas.List.{take_rest}
use Rattle.java_token.specs.declared.token.Token.{Token}
use Rattle.java_ast.specs.declared.expression.BinOp.{BinOp}
use Rattle.java_ast.specs.declared.expression.BinOp.TheVariants as binary
use Rattle.java_grammar.specs.declared.part.Part.{Part}
use Rattle.java_grammar.specs.declared.part.Part.TheVariants as part
use Rattle.java_grammar.specs.declared.edge.Edge.{Edge}
use Rattle.java_grammar.specs.Parts.{part_of, parts}
use Rattle.java_grammar.specs.Tests.{operator_angles, angles}
use Rattle.java_grammar.specs.Marks.{Mark, Single, Angle, angle_marks, marks, edge_marks}
use Rattle.java_grammar.specs.Words.{Is}
use Rattle.java_grammar.specs.Expressions.{Operator}
use Rattle.java_grammar.specs.Reading.{first_angles, binary_of, angle_operator, IsFront}
use Rattle.java_grammar.specs.Reading.{NoOperator}
use Rattle.java_grammar.proofs.Marking.{First, of_angles, is_outer, edge_outer}

-- ---- operators that are no angles

spelled_alone : (op : BinOp) (text : List Mark) → operator_angles op ≡ 0
    → Is (part.Binary op) text → Operator op text
spelled_alone binary.Greater text e x = cc
spelled_alone binary.ShiftRight text e x = cc
spelled_alone binary.ShiftRightUnsigned text e x = cc
spelled_alone binary.OrOr text e x = x
spelled_alone binary.AndAnd text e x = x
spelled_alone binary.Or text e x = x
spelled_alone binary.Xor text e x = x
spelled_alone binary.And text e x = x
spelled_alone binary.Equal text e x = x
spelled_alone binary.NotEqual text e x = x
spelled_alone binary.Less text e x = x
spelled_alone binary.LessEqual text e x = x
spelled_alone binary.GreaterEqual text e x = x
spelled_alone binary.ShiftLeft text e x = x
spelled_alone binary.Plus text e x = x
spelled_alone binary.Minus text e x = x
spelled_alone binary.Star text e x = x
spelled_alone binary.Slash text e x = x
spelled_alone binary.Percent text e x = x

same_token : (op : BinOp) (t : Token) (text behind front : List Mark)
    → Single t ∷ text ≡ front ++ behind → Is (part.Binary op) front
    → part_of t ≡ part.Binary op
same_token op t text behind front whole x =
    let e : Single t ∷ text ≡ Single x.token ∷ behind = whole ∙ ap (λ l. l ++ behind) x.whole in
    let same : t ≡ x.token = cc in
    ap part_of same ∙ x.part

no_angle : (t : Token) (text behind front : List Mark) (m : Mark) (rest : List Mark)
    → Single t ∷ text ≡ front ++ behind → front ≡ m ∷ rest
    → Single t ≡ m
no_angle t text behind front m rest whole e =
    let f : Single t ∷ text ≡ m ∷ (rest ++ behind) = whole ∙ ap (λ l. l ++ behind) e in cc

not_spelled : (op : BinOp) (t : Token) (text behind front : List Mark)
    → binary_of (part_of t) ≡ None → Single t ∷ text ≡ front ++ behind
    → Operator op front → ⊥
not_spelled binary.Greater t text behind front e w x = let f : Single t
    ≡ Angle false = no_angle t text behind front (Angle false) [] w x in cc
not_spelled binary.ShiftRight t text behind front e w x =
    let f : Single t ≡ Angle true = no_angle t text behind front (Angle true)
    (Angle false ∷ []) w x in cc
not_spelled binary.ShiftRightUnsigned t text behind front e w x =
    let f : Single t ≡ Angle true = no_angle t text behind front (Angle true)
    (Angle true ∷ Angle false ∷ []) w x in cc
not_spelled binary.OrOr t text behind front e w x =
    let f : Some binary.OrOr ≡ None = ap binary_of
    (sym (same_token binary.OrOr t text behind front w x)) ∙ e in cc
not_spelled binary.AndAnd t text behind front e w x =
    let f : Some binary.AndAnd ≡ None = ap binary_of
    (sym (same_token binary.AndAnd t text behind front w x)) ∙ e in cc
not_spelled binary.Or t text behind front e w x =
    let f : Some binary.Or ≡ None = ap binary_of
    (sym (same_token binary.Or t text behind front w x)) ∙ e in cc
not_spelled binary.Xor t text behind front e w x =
    let f : Some binary.Xor ≡ None = ap binary_of
    (sym (same_token binary.Xor t text behind front w x)) ∙ e in cc
not_spelled binary.And t text behind front e w x =
    let f : Some binary.And ≡ None = ap binary_of
    (sym (same_token binary.And t text behind front w x)) ∙ e in cc
not_spelled binary.Equal t text behind front e w x =
    let f : Some binary.Equal ≡ None = ap binary_of
    (sym (same_token binary.Equal t text behind front w x)) ∙ e in cc
not_spelled binary.NotEqual t text behind front e w x =
    let f : Some binary.NotEqual ≡ None = ap binary_of
    (sym (same_token binary.NotEqual t text behind front w x)) ∙ e in cc
not_spelled binary.Less t text behind front e w x =
    let f : Some binary.Less ≡ None = ap binary_of
    (sym (same_token binary.Less t text behind front w x)) ∙ e in cc
not_spelled binary.LessEqual t text behind front e w x =
    let f : Some binary.LessEqual
    ≡ None = ap binary_of (sym (same_token binary.LessEqual t text behind front w x))
    ∙ e in cc
not_spelled binary.GreaterEqual t text behind front e w x =
    let f : Some binary.GreaterEqual
    ≡ None = ap binary_of (sym (same_token binary.GreaterEqual t text behind front w x))
    ∙ e in cc
not_spelled binary.ShiftLeft t text behind front e w x =
    let f : Some binary.ShiftLeft
    ≡ None = ap binary_of (sym (same_token binary.ShiftLeft t text behind front w x))
    ∙ e in cc
not_spelled binary.Plus t text behind front e w x =
    let f : Some binary.Plus ≡ None = ap binary_of
    (sym (same_token binary.Plus t text behind front w x)) ∙ e in cc
not_spelled binary.Minus t text behind front e w x =
    let f : Some binary.Minus ≡ None = ap binary_of
    (sym (same_token binary.Minus t text behind front w x)) ∙ e in cc
not_spelled binary.Star t text behind front e w x =
    let f : Some binary.Star ≡ None = ap binary_of
    (sym (same_token binary.Star t text behind front w x)) ∙ e in cc
not_spelled binary.Slash t text behind front e w x =
    let f : Some binary.Slash ≡ None = ap binary_of
    (sym (same_token binary.Slash t text behind front w x)) ∙ e in cc
not_spelled binary.Percent t text behind front e w x =
    let f : Some binary.Percent ≡ None = ap binary_of
    (sym (same_token binary.Percent t text behind front w x)) ∙ e in cc

pub no_operator : (now text : List Mark) (t : Token) → now ≡ Single t ∷ text
    → binary_of (part_of t) ≡ None → NoOperator now now
no_operator now text t e none_ = record {
  none = λ op behind x. not_spelled op t text behind x.front none_ (sym e ∙ x.whole) x.spelled;
  same = refl;
}

operator_first : (op : BinOp) (front behind : List Mark) → Operator op front
    → is_outer (front ++ behind) ≡ false
operator_first binary.Greater front behind x = ap (λ l. is_outer (l ++ behind)) x
operator_first binary.ShiftRight front behind x = ap (λ l. is_outer (l ++ behind)) x
operator_first binary.ShiftRightUnsigned front behind x = ap (λ l. is_outer (l ++ behind)) x
operator_first binary.OrOr front behind x = ap (λ l. is_outer (l ++ behind)) x.whole
operator_first binary.AndAnd front behind x = ap (λ l. is_outer (l ++ behind)) x.whole
operator_first binary.Or front behind x = ap (λ l. is_outer (l ++ behind)) x.whole
operator_first binary.Xor front behind x = ap (λ l. is_outer (l ++ behind)) x.whole
operator_first binary.And front behind x = ap (λ l. is_outer (l ++ behind)) x.whole
operator_first binary.Equal front behind x = ap (λ l. is_outer (l ++ behind)) x.whole
operator_first binary.NotEqual front behind x = ap (λ l. is_outer (l ++ behind)) x.whole
operator_first binary.Less front behind x = ap (λ l. is_outer (l ++ behind)) x.whole
operator_first binary.LessEqual front behind x = ap (λ l. is_outer (l ++ behind)) x.whole
operator_first binary.GreaterEqual front behind x = ap (λ l. is_outer (l ++ behind)) x.whole
operator_first binary.ShiftLeft front behind x = ap (λ l. is_outer (l ++ behind)) x.whole
operator_first binary.Plus front behind x = ap (λ l. is_outer (l ++ behind)) x.whole
operator_first binary.Minus front behind x = ap (λ l. is_outer (l ++ behind)) x.whole
operator_first binary.Star front behind x = ap (λ l. is_outer (l ++ behind)) x.whole
operator_first binary.Slash front behind x = ap (λ l. is_outer (l ++ behind)) x.whole
operator_first binary.Percent front behind x = ap (λ l. is_outer (l ++ behind)) x.whole

pub no_operator_at_end : (now : List Mark) (e : Edge) → now ≡ edge_marks e → NoOperator now now
no_operator_at_end now e is = record {
  none = λ op behind x.
      let f : true ≡ false = sym (ap is_outer is ∙ edge_outer e)
      ∙ ap is_outer x.whole ∙ operator_first op x.front behind x.spelled in cc;
  same = refl;
}

operator_part : (p : Part) (op : BinOp) → binary_of p ≡ Some op → p ≡ part.Binary op
operator_part (part.Binary o) op e = let f : o ≡ op = cc in ap part.Binary f
operator_part _ op e = cc

pub operator_alone : (now text : List Mark) (t : Token) (op : BinOp) → now ≡ Single t ∷ text
    → binary_of (part_of t) ≡ Some op
    → angles (part_of t) ≡ 0 → IsFront (Operator op) now text
operator_alone now text t op e is none_ =
    let p : part_of t ≡ part.Binary op = operator_part (part_of t) op is in
    let n : operator_angles op ≡ 0 = sym (ap angles p) ∙ none_ in
    record {
      front = Single t ∷ [];
      whole = e;
      spelled = spelled_alone op (Single t ∷ []) n (record { token = t; whole = refl; part = p });
    }

-- ---- angles

left_of : (n k : ℕ) (text : List Mark) → k ≤ n
    → drop k (angle_marks n ++ text) ≡ angle_marks (n - k) ++ text
left_of n zero text h = let e : n ≡ n - 0 = omega arith in ap (λ m. angle_marks m ++ text) e
left_of zero (suc k) text h = absurd (omega arith)
left_of (suc n) (suc k) text h =
    let less : k ≤ n = omega arith in
    let e : n - k ≡ suc n - suc k = omega arith in left_of n k text less
    ∙ ap (λ m. angle_marks m ++ text) e

at_most_three : (op : BinOp) → operator_angles op ≤ 3
at_most_three binary.Greater = omega arith
at_most_three binary.ShiftRight = omega arith
at_most_three binary.ShiftRightUnsigned = omega arith
at_most_three _ = omega arith

few_angles : (p : Part) → angles p ≤ 3
few_angles (part.Binary op) = at_most_three op
few_angles _ = omega arith

angles_spelled : (m : ℕ) → m ≤ 2 → Operator (angle_operator (suc m)) (angle_marks m)
angles_spelled zero h = refl
angles_spelled (suc zero) h = refl
angles_spelled (suc (suc zero)) h = refl
angles_spelled (suc (suc (suc m))) h = absurd (omega arith)

pub operator_of_angles : (ts : List Token) (t : Token) (a taken n : ℕ) (now end : List Mark)
    → First ts t a → 0 < a → taken ≤ first_angles (parts ts) - 1
    → drop taken (marks ts) ++ end ≡ now → n ≡ a - taken
    → IsFront (Operator (angle_operator n)) now (marks (drop 1 ts) ++ end)
operator_of_angles [] t a taken n now end first some within view left = absurd
    (omega (arith, first.some))
operator_of_angles (u ∷ ts) t zero taken n now end first some within view left =
    absurd (omega arith)
operator_of_angles (u ∷ ts) t (suc k) taken n now end first some within view left =
    let e : suc k ≡ angles (part_of u) = first.counted ∙ ap (λ x. angles (part_of x)) first.is in
    let few = few_angles (part_of u) in
    let inside : taken ≤ k = omega (arith, e) in
    let small : k - taken ≤ 2 = omega (arith, e, few) in
    let count : suc (k - taken) ≡ n = omega (arith, left) in
    record {
      front = angle_marks (k - taken);
      whole = sym view
          ∙ ap (λ l. l ++ end) (ap (drop taken) (of_angles u ts k e)
          ∙ left_of k taken (marks ts) inside)
          ∙ append_assoc (angle_marks (k - taken)) (marks ts) end;
      spelled = subst (λ m. Operator (angle_operator m) (angle_marks (k - taken))) count
          (angles_spelled (k - taken) small);
    }

pub angles_read : (ts : List Token) (t : Token) (a taken : ℕ) (op : BinOp) (now end : List Mark)
    → First ts t a → 0 < a → taken ≤ first_angles (parts ts) - 1
    → drop taken (marks ts) ++ end ≡ now → op ≡ angle_operator (a - taken)
    → IsFront (Operator op) now (marks (take (length ts - 1) (drop 1 ts)) ++ end)
angles_read ts t a taken op now end first some within view is =
    let r = operator_of_angles ts t a taken (a - taken) now end first some within view refl in
    let q = subst (λ o. IsFront (Operator o) now (marks (drop 1 ts) ++ end)) (sym is) r in
    subst (λ l. IsFront (Operator op) now (marks l ++ end)) (sym (take_rest ts 1)) q
