-- The search for what makes a declaration one of a class.
use Rattle.std.proofs.Common.{◌≡◌, refl, sym, ◌∙◌, ap, ℕ, suc, ◌+◌, ◌-◌, ◌<◌, ◌≤◌, add-one, arith}
use Rattle.std.proofs.Common.{Bool, true, false, not, ◌==◌, ◌&&◌, ◌||◌, cond, List, [], ◌∷◌, ◌++◌}
use Rattle.std.proofs.Common.{length, take, drop, get_or, drop-cons, append_assoc, append-nil}
use Rattle.std.proofs.Math.Seq.{take-suc}
use Rattle.std.proofs.lemmas.List.{take_rest, drop_all}
use Rattle.java_token.specs.declared.token.Token.{Token}
use Rattle.segments.specs.Brackets.{count, opens, closes, is_outside, some_token}
use Rattle.segments.specs.Words.{begins_class, is_dot}
use Rattle.segments.specs.Cut.{declares_class, ends_in_dot, is_class_head}

-- some place behind these tokens is so
abbrev pub some_place : (List Token → List Token → Bool) → List Token → List Token → Bool
some_place is before [] = false
some_place is before (t ∷ behind) =
    is before (t ∷ behind) || some_place is (before ++ t ∷ []) behind

-- the same of a place, by what stands behind some tokens alone
abbrev shifted : (List Token → List Token → Bool) → List Token → List Token → Token → List Token
    → Bool
shifted is before front t behind = is (before ++ front) (t ∷ behind)

some_place_shifted : (is : List Token → List Token → Bool) (ts before : List Token)
    → some_place is before ts ≡ some_token (shifted is before) ts
some_place_shifted is [] before = refl
some_place_shifted is (t ∷ ts) before =
    ap (λ b. is before (t ∷ ts) || b) (some_place_shifted is ts (before ++ t ∷ [])
    ∙ ap (λ test. some_token test ts)
    (λ i front u behind. is (append_assoc before (t ∷ []) front i) (u ∷ behind)))
    ∙ ap (λ whole. is whole (t ∷ ts) || some_token (λ front. shifted is before (t ∷ front)) ts)
    (sym (append-nil before))

pub class_head_is : (head : List Token) → some_place declares_class [] head ≡ is_class_head head
unfolding is_class_head
class_head_is head = some_place_shifted declares_class head []

pub ends_in_dot_end : (xs : List Token) (t : Token) → ends_in_dot (xs ++ t ∷ []) ≡ is_dot t
ends_in_dot_end [] t = refl
ends_in_dot_end (y ∷ []) t = refl
ends_in_dot_end (y ∷ z ∷ xs) t = ends_in_dot_end (z ∷ xs) t

pub count_end : (p : Token → Bool) (xs : List Token) (t : Token)
    → count p (xs ++ t ∷ []) ≡ cond (p t) (count p xs + 1) (count p xs)
count_end p [] t = by (p t) where
  by : (b : Bool) → cond b (1 + 0) 0 ≡ cond b (0 + 1) 0
  by true = refl
  by false = refl
count_end p (x ∷ xs) t = by (p x) (p t) (count_end p xs t) where
  by : (b c : Bool) → count p (xs ++ t ∷ []) ≡ cond c (count p xs + 1) (count p xs)
      → cond b (1 + count p (xs ++ t ∷ [])) (count p (xs ++ t ∷ []))
      ≡ cond c (cond b (1 + count p xs) (count p xs) + 1) (cond b (1 + count p xs) (count p xs))
  by true true e = rw e (omega arith)
  by true false e = rw e refl
  by false true e = e
  by false false e = e

-- the tokens before a place and behind it
pub at_place : (head : List Token) (i : ℕ) (t : Token) → i < length head → t ≡ get_or head i t
    → take (i + 1) head ≡ take i head ++ t ∷ []
at_place head i t h e = ap (λ n. take n head) (add-one i) ∙ take-suc head i t h
    ∙ ap (λ x. take i head ++ x ∷ []) (sym e)

pub behind_place : (head : List Token) (i : ℕ) (t : Token) → i < length head → t ≡ get_or head i t
    → drop i head ≡ t ∷ drop (i + 1) head
behind_place head i t h e =
    drop-cons head i t h ∙ ap (λ x. x ∷ drop (suc i) head) (sym e)
    ∙ ap (λ n. t ∷ drop n head) (sym (add-one i))

-- the test at a place, by the counts up to it
pub declares_at : (head : List Token) (i opened closed : ℕ) (dot : Bool)
    → opened ≡ opens (take i head) → closed ≡ closes (take i head)
    → dot ≡ ends_in_dot (take i head)
    → ((opened == closed) && not dot && begins_class (drop i head))
    ≡ declares_class (take i head) (drop i head)
unfolding is_outside
declares_at head i opened closed dot o c d = rw (o, c, d) refl

and_false : (b : Bool) → (b && false) ≡ true → ⊥
and_false true e = cc
and_false false e = cc

found_at : (before behind : List Token) → declares_class before behind ≡ true
    → some_place declares_class before behind ≡ true
unfolding begins_class
found_at before [] e = absurd (and_false _ e)
found_at before (t ∷ behind) e = rw e refl

none_at : (before behind : List Token) (t : Token) → declares_class before (t ∷ behind) ≡ false
    → some_place declares_class before (t ∷ behind)
    ≡ some_place declares_class (before ++ t ∷ []) behind
none_at before behind t e = rw e refl

-- the test holds at a place
pub found : (head : List Token) (i opened closed : ℕ) (dot r : Bool) → opened ≡ opens (take i head)
    → closed ≡ closes (take i head)
    → dot ≡ ends_in_dot (take i head)
    → some_place declares_class (take i head) (drop i head) ≡ some_place declares_class [] head
    → r ≡ ((opened == closed) && not dot && begins_class (take (length head - i) (drop i head)))
    → r ≡ true
    → true ≡ some_place declares_class [] head
found head i opened closed dot r o c d none test holds =
    let e = declares_at head i opened closed dot o c d in
    let f : declares_class (take i head) (drop i head) ≡ true =
    sym e ∙ sym (simp take_rest at test)
    ∙ holds in
    sym (found_at (take i head) (drop i head) f) ∙ none

-- the test fails at a place
pub not_found : (head : List Token) (i opened closed : ℕ) (dot r : Bool) (t : Token)
    → i < length head → t ≡ get_or head i t
    → opened ≡ opens (take i head) → closed ≡ closes (take i head)
    → dot ≡ ends_in_dot (take i head)
    → some_place declares_class (take i head) (drop i head) ≡ some_place declares_class [] head
    → r ≡ ((opened == closed) && not dot && begins_class (take (length head - i) (drop i head)))
    → r ≡ false
    → some_place declares_class (take (i + 1) head) (drop (i + 1) head)
    ≡ some_place declares_class [] head
not_found head i opened closed dot r t h is o c d none test fails =
    let e = declares_at head i opened closed dot o c d in
    let f : declares_class (take i head) (drop i head) ≡ false = sym e
    ∙ sym (simp take_rest at test) ∙ fails in
    let b = behind_place head i t h is in
    let g : declares_class (take i head) (t ∷ drop (i + 1) head) ≡ false =
    ap (declares_class (take i head)) (sym b) ∙ f in
    ap (λ x. some_place declares_class x (drop (i + 1) head)) (at_place head i t h is)
    ∙ sym (none_at (take i head) (drop (i + 1) head) t g)
    ∙ sym (ap (some_place declares_class (take i head)) b) ∙ none

-- one place more is counted
pub counted_place : (p : Token → Bool) (head : List Token) (i n : ℕ) (t : Token) → i < length head
    → t ≡ get_or head i t
    → n ≡ count p (take i head) → cond (p t) (n + 1) n ≡ count p (take (i + 1) head)
counted_place p head i n t h is e =
    rw (at_place head i t h is, count_end p (take i head) t, e) refl

pub counted_few : (b : Bool) (n i : ℕ) → n ≤ i → cond b (n + 1) n ≤ i + 1
counted_few true n i h = omega arith
counted_few false n i h = omega arith

pub dot_place : (head : List Token) (i : ℕ) (t : Token) → i < length head → t ≡ get_or head i t
    → is_dot t ≡ ends_in_dot (take (i + 1) head)
dot_place head i t h is = rw (at_place head i t h is, ends_in_dot_end (take i head) t) refl

-- the end
pub none_found : (head : List Token) (i : ℕ) → length head ≤ i
    → some_place declares_class (take i head) (drop i head) ≡ some_place declares_class [] head
    → false ≡ some_place declares_class [] head
none_found head i h none = let e = drop_all i head h in rw e at none
