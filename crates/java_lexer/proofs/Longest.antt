-- The machine's scan finds the longest piece.
use Rattle.std.proofs.Common.{◌≡◌, ℕ, zero, suc, ◌+◌, ◌<◌, ◌≤◌, true, false, List, [], ◌∷◌}
use Rattle.std.proofs.Common.{length, take, drop, Option, Some, None, if◌then◌else◌, refl, sym}
use Rattle.std.proofs.Common.{◌∙◌, ap, arith, IfSome, get_or}
use Rattle.std.proofs.lemmas.List.{drop_all, drop_more}
use Rattle.java_lexer.specs.declared.kind.Kind.{Kind}
use Rattle.java_lexer.specs.declared.form.Form.TheVariants as form
use Rattle.java_lexer.specs.declared.state.State.{State}
use Rattle.java_lexer.specs.declared.state.State.TheVariants as state
use Rattle.java_lexer.specs.Grammar.{kind_by, comment}
use Rattle.java_lexer.specs.Pieces.{kind_of, longest_up_to, longest, or_shorter, piece_at}
use Rattle.java_lexer.specs.Pieces.{opens_comment}
use Rattle.java_lexer.specs.Machine.{next_state, state_kind, scan, better, go_on}
use Rattle.java_lexer.proofs.Derive.{derive, derive-is}
use Rattle.java_lexer.proofs.FormLemmas.{stands, comment_behind, comment_slash, comment_opening}
use Rattle.java_lexer.proofs.States.{completed, completed_if, completed-step, completed-end}

abbrev pub Found : Type 0
Found = Option (ℕ × Kind)

abbrev pub either : Found → Found → Found
either None b = b
either (Some x) b = Some x

-- found n units further on
abbrev pub moved : ℕ → Found → Found
moved n None = None
moved n (Some x) = Some (n + x.0, x.1)

abbrev pub one : Option Kind → Found
one None = None
one (Some k) = Some (1, k)

suc_is : (n : ℕ) → suc n ≡ 1 + n
suc_is n = omega arith

shorter_step : (n : ℕ) (here : Option Kind) (rest single : Found)
    → or_shorter (suc (suc n)) here (either (moved 1 rest) single)
    ≡ either (moved 1 (or_shorter (suc n) here rest)) single
shorter_step n None rest single = refl
shorter_step n (Some k) rest single = ap (λ m. Some (m, k)) (suc_is (suc n))

shorter_one : (here : Option Kind) → or_shorter 1 here None ≡ one here
shorter_one None = refl
shorter_one (Some k) = refl

-- the longest front begins with the first unit
longest_cons : (kind : List ℕ → Option Kind) (n c : ℕ) (cs : List ℕ)
    → longest_up_to kind (suc n) (c ∷ cs)
    ≡ either (moved 1 (longest_up_to (λ w. kind (c ∷ w)) n cs)) (one (kind (c ∷ [])))
unfolding longest_up_to
longest_cons kind zero c cs = shorter_one (kind (c ∷ []))
longest_cons kind (suc n) c cs =
    ap (or_shorter (suc (suc n)) (kind (c ∷ take (suc n) cs))) (longest_cons kind n c cs)
    ∙ shorter_step n (kind (c ∷ take (suc n) cs)) (longest_up_to (λ w. kind (c ∷ w)) n cs)
    (one (kind (c ∷ [])))

-- where nothing has a kind, no front has
longest_none : (n : ℕ) (cs : List ℕ) → longest_up_to (λ w. None) n cs ≡ None
unfolding longest_up_to
longest_none zero cs = refl
longest_none (suc n) cs = longest_none n cs

longest_empty : (kind : List ℕ → Option Kind) → longest kind [] ≡ None
unfolding longest_up_to
longest_empty kind = refl

moved_twice : (n : ℕ) (found : Found) (here : Option Kind) (best : Found)
    → either (moved (n + 1) found) (better (n + 1) here best)
    ≡ either (moved n (either (moved 1 found) (one here))) best
moved_twice n None None best = refl
moved_twice n None (Some k) best = refl
moved_twice n (Some x) here best = let e : n + 1 + x.0 ≡ n + (1 + x.0) = omega arith in
    ap (λ m. Some (m, x.1)) e

longest_step : (q : State) (c : ℕ) (cs : List ℕ) (next : Option State) → next_state q c ≡ next
    → longest (completed q) (c ∷ cs)
    ≡ either (moved 1 (longest (completed_if next) cs)) (one (completed_if next []))
longest_step q c cs next e =
    longest_cons (completed q) (length cs) c cs
    ∙ ap (λ (kind : List ℕ → Option Kind). either (moved 1 (longest kind cs)) (one (kind [])))
    (λ i w. completed-step q c w i)
    ∙ ap (λ o. either (moved 1 (longest (completed_if o) cs)) (one (completed_if o []))) e

scan_step : (q : State) (n c : ℕ) (best : Found) (cs : List ℕ) (next : Option State)
    → next_state q c ≡ next
    → ((next : State)
    → scan next (n + 1) (better (n + 1) (state_kind next) best) cs
    ≡ either (moved (n + 1) (longest (completed next) cs)) (better (n + 1) (state_kind next) best))
    → go_on next (λ next. scan next (n + 1) (better (n + 1) (state_kind next) best) cs) best
    ≡ either (moved n (longest (completed q) (c ∷ cs))) best
scan_step q n c best cs None e further =
    sym (ap (λ found. either (moved n found) best) (longest_step q c cs None e
    ∙ ap (λ found. either (moved 1 found) None) (longest_none (length cs) cs)))
scan_step q n c best cs (Some next) e further = further next
    ∙ moved_twice n (longest (completed next) cs) (state_kind next) best
    ∙ ap (λ here. either (moved n (either (moved 1 (longest (completed next) cs)) (one here)))
    best)
    (sym (completed-end next))
    ∙ sym (ap (λ found. either (moved n found) best) (longest_step q c cs (Some next) e))

pub scan-is : (q : State) (n : ℕ) (best : Found) (cs : List ℕ)
    → scan q n best cs ≡ either (moved n (longest (completed q) cs)) best
scan-is q n best [] = sym (ap (λ found. either (moved n found) best) (longest_empty (completed q)))
scan-is q n best (c ∷ cs) =
    scan_step q n c best cs (next_state q c) refl
    (λ next. scan-is next (n + 1) (better (n + 1) (state_kind next) best) cs)

moved_none : (found : Found) → either (moved 0 found) None ≡ found
moved_none None = refl
moved_none (Some x) = let e : 0 + x.0 ≡ x.0 = omega arith in ap (λ m. Some (m, x.1)) e

-- a scan of all units
pub scan_all : (q : State) (cs : List ℕ) → scan q 0 None cs ≡ longest (completed q) cs
scan_all q cs = scan-is q 0 None cs ∙ moved_none (longest (completed q) cs)

start_is : (w : List ℕ) → completed state.Start w ≡ kind_of w
unfolding completed
start_is w = refl

comment_is : (w : List ℕ)
    → completed (state.Other (form.Comment false)) w ≡ kind_by (stands (form.Comment false)) w
unfolding completed
comment_is w = refl

-- where no comment opens, the machine finds the piece
pub piece_scanned : (units : List ℕ) → opens_comment units ≡ false
    → scan state.Start 0 None units ≡ piece_at units
unfolding piece_at
piece_scanned units e = scan_all state.Start units
    ∙ ap (λ (kind : List ℕ → Option Kind). longest kind units) (λ i w. start_is w i)
    ∙ sym (ap (λ b. if b then longest (kind_by comment) units else longest kind_of units) e)

two_moved : (found : Found) → either (moved 1 (either (moved 1 found) None)) None ≡ moved 2 found
two_moved None = refl
two_moved (Some x) = let e : 1 + (1 + x.0) ≡ 2 + x.0 = omega arith in ap (λ m. Some (m, x.1)) e

comment_found : (cs : List ℕ)
    → longest (kind_by comment) (47 ∷ 42 ∷ cs)
    ≡ moved 2 (scan (state.Other (form.Comment false)) 0 None cs)
comment_found cs =
    longest_cons (kind_by comment) (length (42 ∷ cs)) 47 (42 ∷ cs)
    ∙ ap (λ (kind : List ℕ → Option Kind). either (moved 1 (longest kind (42 ∷ cs)))
    (one (kind []))) (λ i w. derive-is comment 47 w i)
    ∙ ap (λ here. either (moved 1 (longest (kind_by (derive comment 47)) (42 ∷ cs)))
    (one here)) comment_slash
    ∙ ap (λ found. either (moved 1 found) None) (
    longest_cons (kind_by (derive comment 47)) (length cs) 42 cs
    ∙ ap (λ (kind : List ℕ → Option Kind). either (moved 1 (longest kind cs)) (one (kind [])))
    (λ i w. derive-is (derive comment 47) 42 w i)
    ∙ ap (λ ps. either (moved 1 (longest (kind_by ps) cs)) (one (kind_by ps []))) comment_behind
    ∙ ap (λ here. either (moved 1 (longest (kind_by (stands (form.Comment false))) cs))
    (one here)) comment_opening)
    ∙ two_moved (longest (kind_by (stands (form.Comment false))) cs)
    ∙ ap (moved 2)
    (sym (scan_all (state.Other (form.Comment false)) cs
    ∙ ap (λ (kind : List ℕ → Option Kind). longest kind cs) (λ i w. comment_is w i)))

-- where a comment opens, the machine finds its end
pub comment_scanned : (units : List ℕ) → opens_comment units ≡ true → 2 ≤ length units
    → moved 2 (scan (state.Other (form.Comment false)) 0 None (drop 2 units)) ≡ piece_at units
unfolding piece_at
comment_scanned [] e h = absurd (omega arith)
comment_scanned (c ∷ []) e h = absurd (omega arith)
comment_scanned (c ∷ d ∷ cs) e h =
    let slash : c ≡ 47 = grind (arith, e) in
    let star : d ≡ 42 = grind (arith, e) in
    sym (ap (λ b. if b then longest (kind_by comment) (c ∷ d ∷ cs)
    else longest kind_of (c ∷ d ∷ cs)) e
    ∙ rw (slash, star) (comment_found cs))

-- the scan goes on
pub scan_more : (q next : State) (i : ℕ) (best after : Found) (units : List ℕ) → i < length units
    → next_state q (get_or units i 0) ≡ Some next → after ≡ better (i + 1) (state_kind next) best
    → scan next (i + 1) after (drop (i + 1) units) ≡ scan q i best (drop i units)
scan_more q next i best after units h e b =
    rw (b, drop_more units i 0 h)
    (sym (ap (λ o. go_on o
    (λ q. scan q (i + 1) (better (i + 1) (state_kind q) best) (drop (i + 1) units)) best) e))

-- the scan ends before a unit
pub scan_stops : (q : State) (i : ℕ) (best : Found) (units : List ℕ) → i < length units
    → next_state q (get_or units i 0) ≡ None → best ≡ scan q i best (drop i units)
scan_stops q i best units h e =
    rw (drop_more units i 0 h)
    (sym (ap (λ o. go_on o
    (λ q. scan q (i + 1) (better (i + 1) (state_kind q) best) (drop (i + 1) units)) best) e))

-- the scan ends at the end
pub scan_ends : (q : State) (i : ℕ) (best : Found) (units : List ℕ) → length units ≤ i
    → best ≡ scan q i best (drop i units)
scan_ends q i best units h = rw (drop_all i units h) refl

pub within_more : (best : Found) (i : ℕ) → IfSome best (λ found. found.0 ≤ i)
    → IfSome best (λ found. found.0 ≤ i + 1)
within_more None i h = h
within_more (Some x) i h = omega arith
