-- Where a front of the marks of tokens ends.
use Rattle.std.proofs.Common.{◌≡◌, refl, sym, ◌∙◌, ap, subst, ℕ, zero, suc, ◌+◌, ◌-◌, ◌*◌, ◌≤◌}
use Rattle.std.proofs.Common.{◌<◌, arith, List, [], ◌∷◌, ◌++◌, length, take, drop, get_or}
use Rattle.std.proofs.Common.{drop-cons, length-append, length-drop, append_assoc}
use Rattle.java_token.specs.declared.token.Token.{Token}
use Rattle.java_grammar.specs.Parts.{part_of, parts}
use Rattle.java_grammar.specs.Tests.{angles}
use Rattle.java_grammar.specs.Marks.{Mark, marks_by, token_marks, marks}
use Rattle.java_grammar.specs.Reading.{first_angles}
use Rattle.type_expr_parser.specs.Calls.{behind_front}
use Rattle.type_expr_parser.proofs.CallLaws.{marks_within, few_angles, angle_count}
use Rattle.type_expr_parser.proofs.PairedMarks.{marks_parts}

-- ---- how many marks a token is

size_by : (n : ℕ) (t : Token) → (n ≡ 0 → length (marks_by n t) ≡ 1) × (0 < n
    → length (marks_by n t) ≡ n)
size_by zero t = (λ e. refl, λ h. absurd (omega arith))
size_by (suc n) t = (λ e. absurd (omega arith), λ h. let e = angle_count n in omega arith)

pub size_alone : (t : Token) (n : ℕ) → n ≡ angles (part_of t) → n ≡ 0 → 1 ≡ length (token_marks t)
unfolding token_marks
size_alone t n e z = sym ((size_by (angles (part_of t)) t).0 (sym e ∙ z))

pub size_angles : (t : Token) (n : ℕ) → n ≡ angles (part_of t) → 0 < n → n ≡ length (token_marks t)
unfolding token_marks
size_angles t n e h =
    let g : 0 < angles (part_of t) = omega arith in
    e ∙ sym ((size_by (angles (part_of t)) t).1 g)

pub size_few : (t : Token) (n : ℕ) → n ≡ angles (part_of t) → n ≤ 3
size_few t n e = let h = few_angles (part_of t) in omega arith

-- ---- from the front

pub marks_at : (tokens : List Token) (at : ℕ) (t : Token) → at < length tokens
    → t ≡ get_or tokens at t
    → marks (drop at tokens) ≡ token_marks t ++ marks (drop (suc at) tokens)
marks_at tokens at t lt item =
    ap marks (drop-cons tokens at t lt ∙ ap (λ u. u ∷ drop (suc at) tokens) (sym item))

pub count_step : (tokens : List Token) (at count : ℕ) (t : Token) → at < length tokens
    → t ≡ get_or tokens at t
    → count + length (marks (drop at tokens)) ≡ length (marks tokens)
    → (count + length (token_marks t)) + length (marks (drop (at + 1) tokens))
    ≡ length (marks tokens)
count_step tokens at count t lt item e =
    let m = ap length (marks_at tokens at t lt item)
    ∙ length-append (token_marks t) (marks (drop (suc at) tokens)) in
    let n : length (marks (drop (at + 1) tokens)) ≡ length (marks (drop (suc at) tokens)) =
    ap (λ k. length (marks (drop k tokens))) (let h : at + 1 ≡ suc at = omega arith in h) in
    omega arith

drop_all : (ts : List Token) (at : ℕ) → length ts ≤ at → drop at ts ≡ []
drop_all [] zero h = refl
drop_all [] (suc at) h = refl
drop_all (t ∷ ts) zero h = absurd (omega arith)
drop_all (t ∷ ts) (suc at) h = let g : length ts ≤ at = omega arith in drop_all ts at g

pub counted_all : (tokens : List Token) (at count : ℕ) → length tokens ≤ at
    → count + length (marks (drop at tokens)) ≡ length (marks tokens)
    → count ≡ length (marks tokens)
counted_all tokens at count h e =
    let none : length (marks (drop at tokens)) ≡ 0 =
    ap (λ ts. length (marks ts)) (drop_all tokens at h) in
    omega arith

-- more than the first of two is left out
drop_past : (a b : List Mark) (n : ℕ) → length a ≤ n → drop n (a ++ b) ≡ drop (n - length a) b
drop_past [] b n h = let e : n ≡ n - 0 = omega arith in ap (λ k. drop k b) e
drop_past (m ∷ a) b zero h = absurd (omega arith)
drop_past (m ∷ a) b (suc n) h =
    let g : length a ≤ n = omega arith in
    let e : n - length a ≡ suc n - suc (length a) = omega arith in
    drop_past a b n g ∙ ap (λ k. drop k b) e

pub record Left (tokens : List Token) (at left count : ℕ) : Type 0 where
  pub behind : drop left (marks (drop at tokens)) ≡ drop count (marks tokens)
  pub within : left ≤ length (marks (drop at tokens))

pub left_step : (tokens : List Token) (at left count : ℕ) (t : Token) → at < length tokens
    → t ≡ get_or tokens at t → length (token_marks t) ≤ left → Left tokens at left count
    → Left tokens (at + 1) (left - length (token_marks t)) count
left_step tokens at left count t lt item h x =
    let m = marks_at tokens at t lt item in
    let size = ap length m ∙ length-append (token_marks t) (marks (drop (suc at) tokens)) in
    let next : suc at ≡ at + 1 = omega arith in
    let within = x.within in
    let fits : left - length (token_marks t) ≤ length (marks (drop
    (suc at) tokens)) = omega arith in
    subst (λ k. Left tokens k (left - length (token_marks t)) count) next (record {
      behind = sym (ap (drop left) m
          ∙ drop_past (token_marks t) (marks (drop (suc at) tokens)) left h) ∙ x.behind;
      within = fits;
    })

pub left_end : (tokens : List Token) (at left count : ℕ) → length tokens ≤ at
    → Left tokens at left count
    → behind_front tokens (length tokens) 0 ≡ drop count (marks tokens)
left_end tokens at left count h x =
    let same : length tokens ≤ length tokens = omega arith in
    let none = ap marks (drop_all tokens at h) in
    let e : left ≡ 0 = (let w = x.within in let z = ap length none in omega arith) in
    ap marks (drop_all tokens (length tokens) same) ∙ sym none
    ∙ ap (λ k. drop k (marks (drop at tokens))) (sym e) ∙ x.behind

angles_left : (n k : ℕ) (t : Token) → k < length (marks_by n t) → k ≤ n - 1
angles_left zero k t h = omega arith
angles_left (suc n) k t h = let e = angle_count n in omega arith

token_left : (t : Token) (k : ℕ) → k < length (token_marks t) → k ≤ angles (part_of t) - 1
unfolding token_marks
token_left t k h = angles_left (angles (part_of t)) k t h

pub part_within : (tokens : List Token) (at left : ℕ) (t : Token) → at < length tokens
    → t ≡ get_or tokens at t → left < length (token_marks t)
    → left ≤ first_angles (parts (drop at tokens)) - 1
part_within tokens at left t lt item h =
    let first : first_angles (parts (drop at tokens)) ≡ angles (part_of t) =
    ap (λ ts. first_angles (parts ts)) (drop-cons tokens at t lt)
    ∙ ap (λ u. angles (part_of u)) (sym item) in
    let k = token_left t left h in
    omega arith

pub none_within : (tokens : List Token) → 0 ≤ first_angles (parts (drop
    (length tokens) tokens)) - 1
none_within tokens = omega arith

-- ---- where a reader stands

drop_front : (a b : List Mark) → drop (length a) (a ++ b) ≡ b
drop_front [] b = refl
drop_front (m ∷ a) b = drop_front a b

some_marks : (n : ℕ) (t : Token) → 1 ≤ length (marks_by n t)
some_marks zero t = omega arith
some_marks (suc n) t = let e = angle_count n in omega arith

some_mark : (t : Token) → 1 ≤ length (token_marks t)
unfolding token_marks
some_mark t = some_marks (angles (part_of t)) t

pub no_fewer : (tokens : List Token) → length tokens ≤ length (marks tokens)
no_fewer [] = omega arith
no_fewer (t ∷ tokens) =
    let a = some_mark t in
    let b = no_fewer tokens in
    let c = length-append (token_marks t) (marks tokens) in
    omega arith

front_few : (rest : List Token) → first_angles (parts rest) ≤ 3
front_few [] = omega arith
front_few (t ∷ rest) = few_angles (part_of t)

take_few : (k : ℕ) (ts : List Token) → length (take k ts) ≤ length ts
take_few zero [] = omega arith
take_few zero (t ∷ ts) = omega arith
take_few (suc k) [] = omega arith
take_few (suc k) (t ∷ ts) = let h = take_few k ts in omega arith

take_over : (n : ℕ) (ts : List Token) → length ts ≤ n → take n ts ≡ ts
take_over zero [] h = refl
take_over zero (t ∷ ts) h = absurd (omega arith)
take_over (suc n) [] h = refl
take_over (suc n) (t ∷ ts) h =
    let g : length ts ≤ n = omega arith in ap (λ l. t ∷ l) (take_over n ts g)

pub tail_all : (tokens : List Token) (cut : ℕ)
    → take (length tokens - cut) (drop cut tokens) ≡ drop cut tokens
tail_all tokens cut =
    let e = length-drop cut tokens in
    let h : length (drop cut tokens) ≤ length tokens - cut = omega arith in
    take_over (length tokens - cut) (drop cut tokens) h

-- the reader's tokens aren't many
pub few_rest : (tokens rest : List Token) (cut taken : ℕ) (front end now : List Mark)
    → drop taken (marks rest) ++ end ≡ now → taken ≤ first_angles (parts rest) - 1
    → marks (take cut tokens) ≡ front ++ now
    → length rest ≤ 3 * length tokens + 2
few_rest tokens rest cut taken front end now e h whole =
    let a = ap length whole ∙ length-append front now in
    let b = marks_within (take cut tokens) in
    let c = take_few cut tokens in
    let d = sym (ap length e) ∙ length-append (drop taken (marks rest)) end in
    let i = length-drop taken (marks rest) in
    let f = front_few rest in
    let g = no_fewer rest in
    omega arith

pub whole_front : (tokens rest : List Token) (cut taken all left tail : ℕ)
    (front end now : List Mark) (used part : ℕ)
    → drop taken (marks rest) ++ end ≡ now
    → marks (take cut tokens) ≡ front ++ now
    → all ≡ length (marks tokens) → left ≡ length (marks rest)
    → tail ≡ length (marks (drop cut tokens))
    → behind_front tokens used part
    ≡ drop (all - (((left - taken) + length end) + tail)) (marks tokens)
    → marks tokens ≡ front ++ behind_front tokens used part
whole_front tokens rest cut taken all left tail front end now used part e whole a b c place =
    let behind = marks (drop cut tokens) in
    let split : marks tokens ≡ front ++ (now ++ behind) =
    marks_parts cut tokens ∙ ap (λ l. l ++ behind) whole ∙ append_assoc front now behind in
    let sizes = ap length split ∙ length-append front (now ++ behind) in
    let more = length-append now behind in
    let d = sym (ap length e) ∙ length-append (drop taken (marks rest)) end in
    let i = length-drop taken (marks rest) in
    let count : all - (((left - taken) + length end) + tail) ≡ length front = omega arith in
    split ∙ ap (λ l. front ++ l) (sym (drop_front front (now ++ behind))
    ∙ ap (drop (length front)) (sym split)
    ∙ ap (λ k. drop k (marks tokens)) (sym count) ∙ sym place)
