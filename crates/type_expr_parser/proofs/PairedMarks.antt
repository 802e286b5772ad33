-- Marks before a bracket that has no partner.
use Rattle.std.proofs.Common.{◌≡◌, refl, sym, ◌∙◌, ap, subst, ℕ, zero, suc, ◌+◌, ◌-◌, ◌≤◌, ◌<◌}
use Rattle.std.proofs.Common.{◌==◌, arith, Bool, true, false, List, [], ◌∷◌, ◌++◌, length, take}
use Rattle.std.proofs.Common.{drop, get_or, drop-cons, take-append-drop}
use Rattle.std.proofs.Common.{Option, Some, None}
use Rattle.std.specs.Prelude.{if◌then◌else◌, ◌&&◌}
use Rattle.std.proofs.lemmas.Bool.{eqb-true, false≢true}
use Rattle.std.proofs.lemmas.Grind.{flat_map-append}
use Rattle.java_token.specs.declared.token.Token.{Token}
use Rattle.java_grammar.specs.declared.part.Part.{Part}
use Rattle.java_grammar.specs.declared.part.Part.TheVariants as part
use Rattle.java_grammar.specs.Parts.{part_of}
use Rattle.java_grammar.specs.Tests.{angles, is_opening}
use Rattle.java_grammar.specs.Marks.{Mark, Single, Angle, Group, Semi, angle_marks, marks_by}
use Rattle.java_grammar.specs.Marks.{token_marks, marks}
use Rattle.type_expr_parser.specs.Reading.{◌>>=◌}
use Rattle.type_expr_parser.specs.Pairing.{step_part, depth_behind, Balanced, more_closing}
use Rattle.type_expr_parser.specs.Pairing.{closing_in, is_unclosed, HasBalanced}
use Rattle.type_expr_parser.proofs.Balance.{depth_append}

-- ---- brackets that stay opens

part_open : (p : Part) (d k c : ℕ) (more : List Mark)
    → ((e : ℕ) → depth_behind e more ≡ Some k → e ≤ k + c)
    → (step_part d p >>= λ e. depth_behind e more) ≡ Some k
    → d ≤ k + more_closing p c
part_open (part.Opening q) d k c more f e = let h = f (suc d) e in omega arith
part_open (part.Closing q) zero k c more f e = absurd (cc)
part_open (part.Closing q) (suc d) k c more f e = let h = f d e in omega arith
part_open p d k c more f e = f d e

still_open : (more left : List Mark) (d k : ℕ) → depth_behind d more ≡ Some k
    → d ≤ k + closing_in (more ++ left)
still_open [] left d k e = let same : d ≡ k = cc in omega arith
still_open (Single t ∷ more) left d k e =
    part_open (part_of t) d k (closing_in (more ++ left)) more
    (λ n h. still_open more left n k h) e
still_open (Angle a ∷ more) left d k e = still_open more left d k e
still_open (Group ∷ more) left d k e = still_open more left d k e
still_open (Semi ∷ more) left d k e = still_open more left d k e

-- ---- one list, cut in two ways

pub data Cut {X : Type 0} (a b front left : List X) : Type 0 where
  within : (more : List X) → a ≡ front ++ more → Cut a b front left
  beyond : (x : X) (more : List X) → front ≡ a ++ x ∷ more → b ≡ (x ∷ more) ++ left
      → Cut a b front left

cut_more : {X : Type 0} (x y : X) (a b front left : List X) → x ≡ y → Cut a b front left
    → Cut (x ∷ a) b (y ∷ front) left
cut_more x y a b front left e (within more p) = within more
    (ap (λ l. x ∷ l) p ∙ ap (λ z. z ∷ (front ++ more)) e)
cut_more x y a b front left e (beyond z more p q) = beyond z more
    (ap (λ l. y ∷ l) p ∙ ap (λ w. w ∷ (a ++ z ∷ more)) (sym e)) q

cut_lists : {X : Type 0} (a b front left : List X) → a ++ b ≡ front ++ left → Cut a b front left
cut_lists a b [] left e = within a refl
cut_lists [] b (x ∷ front) left e = beyond x front refl e
cut_lists (x ∷ a) b (y ∷ front) left e =
    let first : x ≡ y = cc in
    let others : a ++ b ≡ front ++ left = cc in
    cut_more x y a b front left first (cut_lists a b front left others)

-- ---- an opening bracket without a partner

opening_angles : (p : Part) → is_opening p ≡ true → angles p ≡ 0
opening_angles (part.Opening q) e = refl
opening_angles p e = absurd (false≢true e)

opening_step : (p : Part) (d : ℕ) → is_opening p ≡ true → step_part d p ≡ Some (suc d)
opening_step (part.Opening q) d e = refl
opening_step p d e = absurd (false≢true e)

opening_marks : (t : Token) → is_opening (part_of t) ≡ true → token_marks t ≡ Single t ∷ []
unfolding token_marks
opening_marks t e = ap (λ n. marks_by n t) (opening_angles (part_of t) e)

not_passed : (t : Token) (a more left : List Mark) (o : Option ℕ)
    → is_opening (part_of t) ≡ true → closing_in (more ++ left) ≡ 0
    → depth_behind 0 a ≡ o
    → (o >>= λ e. depth_behind e (Single t ∷ more)) ≡ Some 0 → ⊥
not_passed t a more left None opens none o e = cc
not_passed t a more left (Some d) opens none o e =
    let f : depth_behind (suc d) more ≡ Some 0 =
    sym (ap (λ r. r >>= λ n. depth_behind n more) (opening_step (part_of t) d opens)) ∙ e in
    let h = still_open more left (suc d) 0 f in
    absurd (omega arith)

cut_within : (t : Token) (a rest front left : List Mark)
    → is_opening (part_of t) ≡ true → closing_in rest ≡ 0 → Balanced front
    → Cut a (Single t ∷ rest) front left → (more : List Mark) × (a ≡ front ++ more)
cut_within t a rest front left opens none bal (within more p) = (more, p)
cut_within t a rest front left opens none bal (beyond x more p q) =
    let first : Single t ≡ x = cc in
    let others : rest ≡ more ++ left = cc in
    let pairs : depth_behind 0 (a ++ Single t ∷ more) ≡ Some 0 =
    ap (λ m. depth_behind 0 (a ++ m ∷ more)) first ∙ sym (ap (depth_behind 0) p) ∙ bal 0 in
    absurd (not_passed t a more left (depth_behind 0 a) opens (sym (ap closing_in others)
    ∙ none) refl
    (sym (depth_append a (Single t ∷ more) 0) ∙ pairs))

pub marks_parts : (at : ℕ) (tokens : List Token)
    → marks tokens ≡ marks (take at tokens) ++ marks (drop at tokens)
marks_parts at tokens =
    sym (ap marks (take-append-drop at tokens))
    ∙ flat_map-append token_marks (take at tokens) (drop at tokens)

held_at : (tokens : List Token) (at : ℕ) (t : Token) → drop at tokens ≡ t ∷ drop (suc at) tokens
    → is_opening (part_of t) ≡ true → closing_in (marks (drop (suc at) tokens)) ≡ 0
    → HasBalanced (marks tokens) (marks (take at tokens))
held_at tokens at t split opens none front left bal e =
    let rest = marks (drop (suc at) tokens) in
    let whole : marks (take at tokens) ++ (Single t ∷ rest) ≡ front ++ left =
    ap (λ m. marks (take at tokens) ++ (m ++ rest)) (sym (opening_marks t opens))
    ∙ ap (λ l. marks (take at tokens) ++ marks l) (sym split)
    ∙ sym (marks_parts at tokens) ∙ e in
    cut_within t (marks (take at tokens)) rest front left opens none bal
    (cut_lists (marks (take at tokens)) (Single t ∷ rest) front left whole)

-- ---- the scan from behind

closing_angles : (n : ℕ) (text : List Mark) → closing_in (angle_marks n ++ text) ≡ closing_in text
closing_angles zero text = refl
closing_angles (suc n) text = closing_angles n text

angle_part : (p : Part) (n c : ℕ) → angles p ≡ suc n → more_closing p c ≡ c
angle_part (part.Opening q) n c e = absurd (cc)
angle_part (part.Closing q) n c e = absurd (cc)
angle_part p n c e = refl

closing_by : (n : ℕ) (t : Token) (text : List Mark) → angles (part_of t) ≡ n
    → closing_in (marks_by n t ++ text) ≡ more_closing (part_of t) (closing_in text)
closing_by zero t text e = refl
closing_by (suc n) t text e =
    closing_angles n text ∙ sym (angle_part (part_of t) n (closing_in text) e)

closing_token : (t : Token) (text : List Mark)
    → closing_in (token_marks t ++ text) ≡ more_closing (part_of t) (closing_in text)
unfolding token_marks
closing_token t text = closing_by (angles (part_of t)) t text refl

pub record Scanned (tokens : List Token) (behind cut closing : ℕ) : Type 0 where
  pub counted : closing ≡ closing_in (marks (drop behind tokens))
  pub held : HasBalanced (marks tokens) (marks (take cut tokens))

unclosed_by : (a b : Bool) → (a && b) ≡ true → (a ≡ true) × (b ≡ true)
unclosed_by true true e = (refl, refl)
unclosed_by true false e = absurd (cc)
unclosed_by false b e = absurd (cc)

pub scan_step : (tokens : List Token) (at behind cut closing : ℕ) (t : Token)
    → behind ≡ suc at → at < length tokens → t ≡ get_or tokens at t
    → Scanned tokens behind cut closing
    → Scanned tokens at (if is_unclosed closing (part_of t) then at else cut)
    (more_closing (part_of t) closing)
scan_step tokens at behind cut closing t is lt item so_far =
    let split : drop at tokens ≡ t ∷ drop (suc at) tokens =
    drop-cons tokens at t lt ∙ ap (λ u. u ∷ drop (suc at) tokens) (sym item) in
    let c : closing ≡ closing_in (marks (drop (suc at) tokens)) =
    so_far.counted ∙ ap (λ n. closing_in (marks (drop n tokens))) is in
    record {
      counted = ap (more_closing (part_of t)) c
          ∙ sym (closing_token t (marks (drop (suc at) tokens)))
          ∙ ap (λ l. closing_in (marks l)) (sym split);
      held = by (is_unclosed closing (part_of t)) refl c split;
    }
  where
    by : (b : Bool) → is_unclosed closing (part_of t) ≡ b
        → closing ≡ closing_in (marks (drop (suc at) tokens))
        → drop at tokens ≡ t ∷ drop (suc at) tokens
        → HasBalanced (marks tokens) (marks (take (if b then at else cut) tokens))
    by true e c split =
        let u = unclosed_by (is_opening (part_of t)) (closing == 0) e in
        held_at tokens at t split u.0 (sym c ∙ eqb-true closing 0 u.1)
    by false e c split = so_far.held

pub scan_begins : (tokens : List Token) → Scanned tokens (length tokens) (length tokens) 0
scan_begins tokens = record {
  counted = sym (ap (λ l. closing_in (marks l)) (drop_all tokens));
  held = λ front left bal e. (left, ap marks (take_all tokens) ∙ e);
}
  where
    drop_all : (ts : List Token) → drop (length ts) ts ≡ []
    drop_all [] = refl
    drop_all (t ∷ ts) = drop_all ts

    take_all : (ts : List Token) → take (length ts) ts ≡ ts
    take_all [] = refl
    take_all (t ∷ ts) = ap (λ l. t ∷ l) (take_all ts)

more_few : (p : Part) (n : ℕ) → more_closing p n ≤ n + 1
more_few (part.Opening q) n = omega arith
more_few (part.Closing q) n = omega arith
more_few p n = omega arith

cut_few : (b : Bool) (at cut n : ℕ) → at ≤ n → cut ≤ n → (if b then at else cut) ≤ n
cut_few true at cut n h k = h
cut_few false at cut n h k = k

pub record Next (tokens : List Token) (seen cut closing : ℕ) : Type 0 where
  pub few : closing ≤ seen + 1
  pub within : cut ≤ length tokens
  pub scanned : Scanned tokens (length tokens - (seen + 1)) cut closing

pub scan_next : (tokens : List Token) (at seen cut closing next_cut next_closing : ℕ) (t : Token)
    → at ≡ length tokens - (seen + 1) → seen < length tokens → t ≡ get_or tokens at t
    → next_cut ≡ (if is_unclosed closing (part_of t) then at else cut)
    → next_closing ≡ more_closing (part_of t) closing
    → closing ≤ seen → cut ≤ length tokens → Scanned tokens (length tokens - seen) cut closing
    → Next tokens seen next_cut next_closing
scan_next tokens at seen cut closing next_cut next_closing t is lt item a b few held so_far =
    let behind : length tokens - seen ≡ suc at = omega arith in
    let fits : at < length tokens = omega arith in
    let low : at ≤ length tokens = omega arith in
    let s = scan_step tokens at (length tokens - seen) cut closing t behind fits item so_far in
    let more = more_few (part_of t) closing in
    let less = cut_few (is_unclosed closing (part_of t)) at cut (length tokens) low held in
    record {
      few = omega arith;
      within = subst (λ k. k ≤ length tokens) (sym a) less;
      scanned = subst (λ k. Scanned tokens k next_cut next_closing) is
          (subst (λ k. Scanned tokens at k next_closing) (sym a)
          (subst (λ k. Scanned tokens at (if is_unclosed closing (part_of t) then at else cut) k)
          (sym b) s));
    }
