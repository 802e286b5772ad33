-- Type arguments, passed token by token.
use Rattle.std.proofs.Common.{◌≡◌, refl, sym, ◌∙◌, ap, ℕ, zero, suc, ◌+◌, ◌-◌, ◌<◌, arith, List}
use Rattle.std.proofs.Common.{[], ◌∷◌, length, take, drop, get_or, Option, Some, None}
use Rattle.std.proofs.lemmas.List.{take_rest}
use Rattle.java_token.specs.declared.token.Token.{Token}
use Rattle.java_grammar.specs.declared.part.Part.{Part}
use Rattle.java_grammar.specs.declared.type_arguments.Angled.{Angled}
use Rattle.java_grammar.specs.declared.type_arguments.AngleStep.{AngleStep}
use Rattle.java_grammar.specs.declared.type_arguments.AngleStep.TheVariants as angle
use Rattle.java_grammar.specs.Parts.{part_of, parts}
use Rattle.java_grammar.specs.Extents.{angle_step, one_more_angled, angled_by, angled_from}
use Rattle.java_grammar.proofs.Passing.{drop_drop, drop_parts, parts_at}

-- so many more are counted
abbrev pub later_angled : ℕ → Option Angled → Option Angled
later_angled n None = None
later_angled n (Some a) = Some (record { count = n + a.count; left = a.left })

pub later_zero : (x : Option Angled) → later_angled 0 x ≡ x
later_zero None = refl
later_zero (Some a) = ap (λ n. Some (record { count = n; left = a.left })) (omega arith)

later_one : (n : ℕ) (x : Option Angled)
    → later_angled n (one_more_angled x) ≡ later_angled (n + 1) x
later_one n None = refl
later_one n (Some a) = ap (λ m. Some (record { count = m; left = a.left })) (omega arith)

one_later : (n : ℕ) (x : Option Angled)
    → one_more_angled (later_angled n x) ≡ later_angled (suc n) x
one_later n None = refl
one_later n (Some a) = ap (λ m. Some (record { count = m; left = a.left })) (omega arith)

later_later : (n m : ℕ) (x : Option Angled)
    → later_angled n (later_angled m x) ≡ later_angled (n + m) x
later_later n m None = refl
later_later n m (Some a) = ap (λ k. Some (record { count = k; left = a.left })) (omega arith)

-- what is skipped is counted
skipped : (depth more : ℕ) (ps : List Part)
    → angled_from depth more ps ≡ later_angled more (angled_from depth 0 (drop more ps))
skipped depth zero ps = sym (later_zero (angled_from depth 0 ps))
skipped depth (suc more) [] = refl
skipped depth (suc more) (p ∷ ps) = ap one_more_angled (skipped depth more ps)
    ∙ one_later more (angled_from depth 0 (drop more ps))

-- the step at a place
at_step : (ts : List Token) (i depth : ℕ) (t : Token) (p : Part) (s : AngleStep) → i < length ts
    → t ≡ get_or ts i t → p ≡ part_of t
    → s ≡ angle_step depth p (parts (take (length ts - (i + 1)) (drop (i + 1) ts)))
    → angled_from depth 0 (parts (drop i ts))
    ≡ angled_by s (λ now more. angled_from now more (parts (drop (i + 1) ts)))
at_step ts i depth t p s h is part step =
    ap (angled_from depth 0) (parts_at ts i t h is)
    ∙ ap (λ x. angled_by x (λ now more. angled_from now more (parts (drop (i + 1) ts))))
    (sym (simp take_rest at step ∙ ap
    (λ x. angle_step depth x (parts (drop (i + 1) ts))) part))

pub goes_on : (ts : List Token) (i depth now more : ℕ) (t : Token) (p : Part) (s : AngleStep)
    → i < length ts → t ≡ get_or ts i t → p ≡ part_of t
    → s ≡ angle_step depth p (parts (take (length ts - (i + 1)) (drop (i + 1) ts)))
    → s ≡ angle.GoesOn now more
    → angled_from 1 0 (parts ts) ≡ later_angled i (angled_from depth 0 (parts (drop i ts)))
    → angled_from 1 0 (parts ts) ≡ later_angled (i + (1 + more))
    (angled_from now 0 (parts (drop (i + (1 + more)) ts)))
goes_on ts i depth now more t p s h is part step now_step counted =
    let rest = drop (i + 1) ts in
    let behind = λ (o m : ℕ). angled_from o m (parts rest) in
    let e : drop more rest ≡ drop (i + (1 + more)) ts = drop_drop more (i + 1) ts
    ∙ ap (λ n. drop n ts) (omega arith) in
    let k : i + 1 + more ≡ i + (1 + more) = omega arith in
    counted
    ∙ ap (later_angled i) (at_step ts i depth t p s h is part step
    ∙ ap (λ x. angled_by x behind) now_step)
    ∙ later_one i (angled_from now more (parts rest))
    ∙ ap (later_angled (i + 1)) (skipped now more (parts rest))
    ∙ later_later (i + 1) more (angled_from now 0 (drop more (parts rest)))
    ∙ ap (λ n. later_angled n (angled_from now 0 (drop more (parts rest)))) k
    ∙ ap (λ x. later_angled (i + (1 + more)) (angled_from now 0 x))
    (drop_parts more rest ∙ ap parts e)

pub closes : (ts : List Token) (i depth left : ℕ) (t : Token) (p : Part) (s : AngleStep)
    → i < length ts → t ≡ get_or ts i t → p ≡ part_of t
    → s ≡ angle_step depth p (parts (take (length ts - (i + 1)) (drop (i + 1) ts)))
    → s ≡ angle.Closes left
    → angled_from 1 0 (parts ts) ≡ later_angled i (angled_from depth 0 (parts (drop i ts)))
    → Some (record { count = i + 1; left = left }) ≡ angled_from 1 0 (parts ts)
closes ts i depth left t p s h is part step now_step counted =
    let behind = λ (o m : ℕ). angled_from o m (parts (drop (i + 1) ts)) in
    sym (counted ∙ ap (later_angled i)
    (at_step ts i depth t p s h is part step ∙ ap (λ x. angled_by x behind) now_step))

pub stops : (ts : List Token) (i depth : ℕ) (t : Token) (p : Part) (s : AngleStep) → i < length ts
    → t ≡ get_or ts i t → p ≡ part_of t
    → s ≡ angle_step depth p (parts (take (length ts - (i + 1)) (drop (i + 1) ts)))
    → s ≡ angle.Stops
    → angled_from 1 0 (parts ts) ≡ later_angled i (angled_from depth 0 (parts (drop i ts)))
    → None ≡ angled_from 1 0 (parts ts)
stops ts i depth t p s h is part step now_step counted =
    let behind = λ (o m : ℕ). angled_from o m (parts (drop (i + 1) ts)) in
    sym (counted ∙ ap (later_angled i)
    (at_step ts i depth t p s h is part step ∙ ap (λ x. angled_by x behind) now_step))
