-- The depth of the scan counts the type arguments that are open in the text.
use Rattle.std.proofs.Common.{◌≡◌, refl, sym, ap, ◌∙◌, subst, ℕ, zero, suc, ◌+◌, ◌-◌, ◌<◌, ◌≤◌}
use Rattle.std.proofs.Common.{max, Bool, true, false, not, ◌==◌, List, [], ◌∷◌, ◌++◌, length, map}
use Rattle.std.proofs.Common.{Option, Some, None, if◌then◌else◌, cond, arith}
use Rattle.std.specs.Prelude.{nat_lt}
use Rattle.std.specs.List.{position_or_len}
use Rattle.std.proofs.lemmas.Bool.{false≢true, ltb-true, ltb-false, le-ltb}
use Rattle.java_types.specs.Nesting.{greatest}
use Rattle.java_types.proofs.Levels.{depth_after, byte_level, counted, text_levels}
use Rattle.java_types.specs.declared.production.SigPlace.TheVariants.{ClassPlace, MethodPlace}
use Rattle.java_types.specs.declared.production.SigPlace.TheVariants.{FieldPlace}
use Rattle.java_types.specs.declared.production.Production.{Production}
use Rattle.java_types.specs.declared.production.Production.TheVariants.{AnyResult, AnyType}
use Rattle.java_types.specs.declared.production.Production.TheVariants.{Reference, Thrown}
use Rattle.java_types.specs.declared.production.Production.TheVariants.{ClassType, Element}
use Rattle.signature_scan.specs.declared.part.Part.{Part}
use Rattle.signature_scan.specs.declared.part.Part.TheVariants as part
use Rattle.signature_scan.specs.declared.state.Around.{Around}
use Rattle.signature_scan.specs.declared.state.Around.TheVariants as around
use Rattle.signature_scan.specs.declared.state.State.{State}
use Rattle.signature_scan.specs.declared.state.State.TheVariants as state
use Rattle.signature_scan.specs.Machine.{next, depth_of, deeper}
use Rattle.lemmas.proofs.Tables.{below, same_below}

abbrev pub is_start : State → Bool
is_start (state.Start place) = true
is_start (state.Parameter place) = false
is_start (state.ParameterName place) = false
is_start (state.FirstBound place) = false
is_start (state.ClassOrName place started) = false
is_start (state.VariableOrName place started) = false
is_start state.Parenthesis = false
is_start (state.Behind a depth) = false
is_start (state.Within p a depth) = false

-- the levels of the bytes that are left
abbrev pub levels_from : State → List ℕ → List ℕ
levels_from s w = if is_start s then text_levels w else counted (depth_of s) w

abbrev pub one_less : ℕ → ℕ
one_less zero = zero
one_less (suc d) = d

-- the depth behind a byte
abbrev pub depth_behind : Bool → ℕ → ℕ → ℕ
depth_behind true depth b = depth
depth_behind false depth b =
    if b == 60 then suc depth else (if b == 62 then one_less depth else depth)

-- whether the next state is a start, and its depth; where there is none, what is expected
abbrev told : Bool × ℕ → Option State → Bool × ℕ
told expected None = expected
told expected (Some t) = (is_start t, depth_of t)

-- no start, at the depth behind the byte
abbrev expected : State → ℕ → Bool × ℕ
expected s b = (false, depth_behind (is_start s) (depth_of s) b)

abbrev Tabled : State → Type 0
Tabled s = map (λ b. told (expected s b) (next s b)) (below 256) ≡ map (expected s) (below 256)

type_tabled : (w : Production) (a : Around) (depth : ℕ)
    → Tabled (state.Within (part.Type w) a depth)
type_tabled AnyResult a depth = refl
type_tabled AnyType a depth = refl
type_tabled Reference a depth = refl
type_tabled Thrown a depth = refl
type_tabled ClassType a depth = refl
type_tabled Element a depth = refl

within_tabled : (p : Part) (a : Around) (depth : ℕ) → Tabled (state.Within p a depth)
within_tabled (part.Type w) a depth = type_tabled w a depth
within_tabled (part.Dimensions zero) a depth = refl
within_tabled (part.Dimensions (suc more)) a depth = refl
within_tabled (part.ClassName true) a depth = refl
within_tabled (part.ClassName false) a depth = refl
within_tabled (part.InnerName true) a depth = refl
within_tabled (part.InnerName false) a depth = refl
within_tabled (part.VariableName true) a depth = refl
within_tabled (part.VariableName false) a depth = refl
within_tabled part.Argument a depth = refl
within_tabled part.ArgumentsClosed a depth = refl

behind_tabled : (a : Around) (depth : ℕ) → Tabled (state.Behind a depth)
behind_tabled (around.Bounds ClassPlace) zero = refl
behind_tabled (around.Bounds MethodPlace) zero = refl
behind_tabled (around.Bounds FieldPlace) zero = refl
behind_tabled around.Supertypes zero = refl
behind_tabled around.Formals zero = refl
behind_tabled around.Throws zero = refl
behind_tabled around.Nothing zero = refl
behind_tabled a (suc depth) = refl

state_tabled : (s : State) → Tabled s
state_tabled (state.Start ClassPlace) = refl
state_tabled (state.Start MethodPlace) = refl
state_tabled (state.Start FieldPlace) = refl
state_tabled (state.Parameter place) = refl
state_tabled (state.ParameterName place) = refl
state_tabled (state.FirstBound ClassPlace) = refl
state_tabled (state.FirstBound MethodPlace) = refl
state_tabled (state.FirstBound FieldPlace) = refl
state_tabled (state.ClassOrName place true) = refl
state_tabled (state.ClassOrName place false) = refl
state_tabled (state.VariableOrName place true) = refl
state_tabled (state.VariableOrName place false) = refl
state_tabled state.Parenthesis = refl
state_tabled (state.Behind a depth) = behind_tabled a depth
state_tabled (state.Within p a depth) = within_tabled p a depth

-- the depth of the next state, which is no start
pub record Next (s : State) (b : ℕ) (t : State) : Type 0 where
  pub goes : is_start t ≡ false
  pub depth : depth_of t ≡ depth_behind (is_start s) (depth_of s) b

pub next_told : (s : State) (b : ℕ) (t : State) → b < 256 → next s b ≡ Some t → Next s b t
next_told s b t h e =
    let p = ap (told (expected s b)) (sym e)
    ∙ same_below (λ b. told (expected s b) (next s b)) (expected s) 256 b (state_tabled s) h in
    record { goes = ap (λ (x : Bool × ℕ). x.0) p; depth = ap (λ (x : Bool × ℕ). x.1) p }

rises : (start : Bool) (depth b : ℕ) → depth_behind start depth b ≤ depth + 1
rises true depth b = omega arith
rises false depth b = by (b == 60) (b == 62) depth
  where
    by : (opens closes : Bool) (depth : ℕ)
        → (if opens then suc depth else (if closes then one_less depth else depth)) ≤ depth + 1
    by true closes depth = omega arith
    by false true zero = omega arith
    by false true (suc depth) = omega arith
    by false false depth = omega arith

pub depth_rises : (s : State) (b : ℕ) (t : State) → b < 256 → next s b ≡ Some t
    → depth_of t ≤ depth_of s + 1
depth_rises s b t h e =
    subst (λ d. d ≤ depth_of s + 1) (sym (next_told s b t h e).depth)
    (rises (is_start s) (depth_of s) b)

start_depth : (s : State) → is_start s ≡ true → depth_of s ≡ 0
start_depth (state.Start place) e = refl
start_depth (state.Parameter place) e = refl
start_depth (state.ParameterName place) e = refl
start_depth (state.FirstBound place) e = refl
start_depth (state.ClassOrName place started) e = refl
start_depth (state.VariableOrName place started) e = refl
start_depth state.Parenthesis e = refl
start_depth (state.Behind a depth) e = absurd (false≢true e)
start_depth (state.Within p a depth) e = absurd (false≢true e)

-- ---- levels

-- the level of a byte
abbrev pub level : Bool → ℕ → ℕ → ℕ
level true depth b = 0
level false depth b = byte_level depth b

abbrev pub level_at : State → ℕ → ℕ
level_at s b = level (is_start s) (depth_of s) b

start_levels : (b : ℕ) (w : List ℕ) → text_levels (b ∷ w) ≡ 0 ∷ counted 0 w
start_levels b w = by (b == 60) (b == 62)
  where
    by : (opens closes : Bool) → (if opens then 0 ∷ counted 0 w
        else ((if opens then 0 + 1 else 0)
        ∷ counted (if opens then 0 + 1 else (if closes then 0 - 1 else 0)) w)) ≡ 0 ∷ counted 0 w
    by true closes = refl
    by false true = refl
    by false false = refl

less_is : (depth : ℕ) → depth - 1 ≡ one_less depth
less_is zero = refl
less_is (suc depth) = omega arith

behind_is : (depth b : ℕ) → depth_after depth b ≡ depth_behind false depth b
behind_is depth b = by (b == 60) (b == 62)
  where
    by : (opens closes : Bool) → (if opens then depth + 1
        else (if closes then depth - 1 else depth))
        ≡ (if opens then suc depth else (if closes then one_less depth else depth))
    by true closes = omega arith
    by false true = less_is depth
    by false false = refl

steps : (start : Bool) (depth b : ℕ) (w : List ℕ) → (start ≡ true → depth ≡ 0)
    → (if start then text_levels (b ∷ w) else counted depth (b ∷ w))
    ≡ level start depth b ∷ counted (depth_behind start depth b) w
steps true depth b w none = start_levels b w ∙ ap (λ d. 0 ∷ counted d w) (sym (none refl))
steps false depth b w none = ap (λ d. byte_level depth b ∷ counted d w) (behind_is depth b)

pub levels_step : (s : State) (b : ℕ) (t : State) (w : List ℕ) → Next s b t
    → levels_from s (b ∷ w) ≡ level_at s b ∷ levels_from t w
levels_step s b t w n =
    steps (is_start s) (depth_of s) b w (start_depth s)
    ∙ ap (λ d. level_at s b ∷ counted d w) (sym n.depth)
    ∙ ap (λ start. level_at s b ∷ (if start then text_levels w else counted (depth_of t) w))
    (sym n.goes)

pub levels_end : (s : State) → levels_from s [] ≡ []
levels_end s = by (is_start s)
  where
    by : (start : Bool) → (if start then text_levels [] else counted (depth_of s) []) ≡ []
    by true = refl
    by false = refl

-- ---- the first level that is too deep

abbrev deep_at : ℕ → ℕ → Option ℕ
deep_at n at = if nat_lt 64 n then Some at else None

abbrev pub first_deep : ℕ → List ℕ → Option ℕ
first_deep at [] = None
first_deep at (n ∷ ns) = if nat_lt 64 n then Some at else first_deep (at + 1) ns

abbrev or_else : Option ℕ → Option ℕ → Option ℕ
or_else None other = other
or_else (Some at) other = Some at

first_push : (at : ℕ) (ns : List ℕ) (n : ℕ)
    → first_deep at (ns ++ (n ∷ [])) ≡ or_else (first_deep at ns) (deep_at n (at + length ns))
first_push at [] n = let e : at ≡ at + 0 = omega arith in ap (deep_at n) e
first_push at (m ∷ ns) n = by (nat_lt 64 m) (first_push (at + 1) ns n)
  where
    by : (t : Bool) → first_deep (at + 1) (ns ++ (n ∷ []))
        ≡ or_else (first_deep (at + 1) ns) (deep_at n (at + 1 + length ns))
        → (if t then Some at else first_deep (at + 1) (ns ++ (n ∷ [])))
        ≡ or_else (if t then Some at else first_deep (at + 1) ns)
        (deep_at n (at + length (m ∷ ns)))
    by true more = refl
    by false more = let e : at + 1 + length ns ≡ at + length (m ∷ ns) = omega arith in
        more ∙ ap (λ k. or_else (first_deep (at + 1) ns) (deep_at n k)) e

-- whether the next state or the level is too deep
both_deep : (start : Bool) (depth b : ℕ) → (start ≡ true → depth ≡ 0) → depth ≤ 64
    → nat_lt 64 (depth_behind start depth b) ≡ nat_lt 64 (level start depth b)
both_deep true depth b none h = ap (nat_lt 64) (none refl)
both_deep false depth b none h = by (b == 60) (b == 62)
  where
    closed : nat_lt 64 (one_less depth) ≡ false
    closed = le-ltb 64 (one_less depth) (let e = less_is depth in omega arith)

    by : (opens closes : Bool) → nat_lt 64
        (if opens then suc depth else (if closes then one_less depth else depth))
        ≡ nat_lt 64 (if opens then depth + 1 else 0)
    by true closes = let e : suc depth ≡ depth + 1 = omega arith in ap (nat_lt 64) e
    by false true = closed
    by false false = le-ltb 64 depth h

pub deeper_is : (s : State) (b : ℕ) (t : State) (deep : Option ℕ) (at : ℕ) (ns : List ℕ)
    → Next s b t → deep ≡ first_deep 0 ns → at ≡ length ns → (deep ≡ None → depth_of s ≤ 64)
    → deeper deep t at ≡ first_deep 0 (ns ++ (level_at s b ∷ []))
deeper_is s b t (Some first) at ns n found here shallow =
    ap (λ o. or_else o (deep_at (level_at s b) (0 + length ns))) found
    ∙ sym (first_push 0 ns (level_at s b))
deeper_is s b t None at ns n found here shallow =
    let place : at ≡ 0 + length ns = omega arith in
    ap (λ d. deep_at d at) n.depth
    ∙ ap (λ t. if t then Some at else None)
    (both_deep (is_start s) (depth_of s) b (start_depth s) (shallow refl))
    ∙ ap (deep_at (level_at s b)) place
    ∙ ap (λ o. or_else o (deep_at (level_at s b) (0 + length ns))) found
    ∙ sym (first_push 0 ns (level_at s b))

pub still_shallow : (t : State) (deep : Option ℕ) (at : ℕ) → deeper deep t at ≡ None
    → depth_of t ≤ 64
still_shallow t (Some first) at e = absurd (cc)
still_shallow t None at e = by (nat_lt 64 (depth_of t)) refl e
  where
    by : (test : Bool) → nat_lt 64 (depth_of t) ≡ test → (if test then Some at else None) ≡ None
        → depth_of t ≤ 64
    by true is e = absurd (cc)
    by false is e = ltb-false 64 (depth_of t) is

-- none is too deep
pub none_deep : (at : ℕ) (ns : List ℕ) → first_deep at ns ≡ None → greatest ns ≤ 64
none_deep at [] e = omega arith
none_deep at (n ∷ ns) e = by (nat_lt 64 n) refl e (none_deep (at + 1) ns)
  where
    by : (test : Bool) → nat_lt 64 n ≡ test
        → (if test then Some at else first_deep (at + 1) ns) ≡ None
        → (first_deep (at + 1) ns ≡ None → greatest ns ≤ 64) → max n (greatest ns) ≤ 64
    by true is e more = absurd (cc)
    by false is e more = let one : n ≤ 64 = ltb-false 64 n is in
        let others : greatest ns ≤ 64 = more e in omega arith

abbrev pub is_deep : ℕ → Bool
is_deep level = nat_lt 64 level

pub record DeepFrom (at first : ℕ) (ns : List ℕ) : Type 0 where
  pub deep : 64 < greatest ns
  pub place : first ≡ at + position_or_len is_deep ns

pub some_deep : (at : ℕ) (ns : List ℕ) (first : ℕ) → first_deep at ns ≡ Some first
    → DeepFrom at first ns
some_deep at [] first e = absurd (cc)
some_deep at (n ∷ ns) first e = by (nat_lt 64 n) refl e (some_deep (at + 1) ns first)
  where
    by : (test : Bool) → nat_lt 64 n ≡ test
        → (if test then Some at else first_deep (at + 1) ns) ≡ Some first
        → (first_deep (at + 1) ns ≡ Some first → DeepFrom (at + 1) first ns)
        → DeepFrom at first (n ∷ ns)
    by true is e more = let one : 64 < n = ltb-true 64 n is in let same : at ≡ first = cc in
        let here : position_or_len is_deep (n ∷ ns)
        ≡ 0 = ap (λ t. cond (not t) (1 + position_or_len is_deep ns) 0) is in
        record { deep = omega arith; place = omega arith }
    by false is e more = let d = more e in let others : 64 < greatest ns = d.deep in
        let beyond : position_or_len is_deep (n ∷ ns)
        ≡ 1 + position_or_len is_deep ns =
        ap (λ t. cond (not t) (1 + position_or_len is_deep ns) 0) is in
        let found : first ≡ at + 1 + position_or_len is_deep ns = d.place in
        record { deep = omega arith; place = omega arith }
