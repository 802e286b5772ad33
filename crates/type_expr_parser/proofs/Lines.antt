-- Fronts of marks that lines spell, and how readings of them are put together.
use Rattle.std.proofs.Common.{◌≡◌, refl, sym, ◌∙◌, ap, subst, ℕ, zero, suc, ◌+◌, ◌≤◌, arith}
use Rattle.std.proofs.Common.{List, [], ◌∷◌, ◌++◌, length, append_assoc, append-nil, length-append}
use Rattle.std.proofs.Common.{Some, None}
use Rattle.java_grammar.specs.Marks.{Mark, Line}
use Rattle.java_grammar.specs.Words.{Nothing, ◌⨾◌, Row, Separated}
use Rattle.java_grammar.specs.Reading.{IsFront}
use Rattle.type_expr_parser.specs.Reading.{Read, found, ◌>>=◌, step, prepended, many}
use Rattle.type_expr_parser.specs.Reading.{behind_many}

-- ---- readings one behind the other

some_is : {X : Type 0} {x y : X} → Some x ≡ Some y → x ≡ y
some_is {X} {x} {y} e = cc

pub value_is : {A : Type 0} {x y : A} {rest left : List Mark}
    → found x rest ≡ found y left → x ≡ y
value_is {A} e = ap (λ (p : A × List Mark). p.0) (some_is e)

pub left_is : {A : Type 0} {x y : A} {rest left : List Mark}
    → found x rest ≡ found y left → rest ≡ left
left_is {A} e = ap (λ (p : A × List Mark). p.1) (some_is e)

pub record Bound {A B : Type 0} (r : Read A) (f : A × List Mark → Read B) (y : B)
    (left : List Mark) : Type 0 where
  pub item : A
  pub rest : List Mark
  pub first : r ≡ Some (item, rest)
  pub second : f (item, rest) ≡ Some (y, left)

pub bound : {A B : Type 0} (r : Read A) (f : A × List Mark → Read B) (y : B) (left : List Mark)
    → (r >>= f) ≡ Some (y, left) → Bound r f y left
bound None f y left e = absurd cc
bound (Some x) f y left e = record { item = x.0; rest = x.1; first = refl; second = e }

pub bind_is : {A B : Type 0} {r : Read A} {x : A × List Mark} {y : Read B}
    (f : A × List Mark → Read B)
    → r ≡ Some x → f x ≡ y → (r >>= f) ≡ y
bind_is f e h = ap (λ r. r >>= f) e ∙ h

pub none_bound : {A B : Type 0} {r : Read A} (f : A × List Mark → Read B) → r ≡ None
    → (r >>= f) ≡ None
none_bound f e = ap (λ r. r >>= f) e

-- ---- fronts

pub then_front : {a b : Line} {text mid left : List Mark} → IsFront a text mid
    → IsFront b mid left → IsFront (a ⨾ b) text left
then_front {left} x y = record {
  front = x.front ++ y.front;
  whole = x.whole ∙ ap (λ l. x.front ++ l) y.whole ∙ sym (append_assoc x.front y.front left);
  spelled = record {
    front = x.front;
    rest = y.front;
    whole = refl;
    before = x.spelled;
    after = y.spelled;
  };
}

pub front_as : {a b : Line} {text left : List Mark} → ((t : List Mark) → a t → b t)
    → IsFront a text left → IsFront b text left
front_as f x = record { front = x.front; whole = x.whole; spelled = f x.front x.spelled }

pub no_front : (text : List Mark) → IsFront Nothing text text
no_front text = record { front = []; whole = refl; spelled = refl }

-- what stands behind the first of two
pub regroup : {a b : Line} {text : List Mark} (x : (a ⨾ b) text) (left : List Mark)
    → text ++ left ≡ x.front ++ (x.rest ++ left)
regroup x left = ap (λ l. l ++ left) x.whole ∙ append_assoc x.front x.rest left

pub both_lengths : {a b : Line} {text : List Mark} (x : (a ⨾ b) text)
    → length text ≡ length x.front + length x.rest
both_lengths x = ap length x.whole ∙ length-append x.front x.rest

-- ---- lines in other words

pub both_as : {a b c d : Line} → ((t : List Mark) → a t → c t) → ((t : List Mark) → b t → d t)
    → (text : List Mark) → (a ⨾ b) text → (c ⨾ d) text
both_as f g text x = record {
  front = x.front;
  rest = x.rest;
  whole = x.whole;
  before = f x.front x.before;
  after = g x.rest x.after;
}

pub row_as : {X : Type 0} {a b : X → Line} → ((x : X) (t : List Mark) → a x t → b x t)
    → (xs : List X) (text : List Mark) → Row a xs text → Row b xs text
row_as f [] text x = x
row_as f (y ∷ ys) text x = both_as (f y) (row_as f ys) text x

pub to_left : {a b c : Line} (text : List Mark) → (a ⨾ (b ⨾ c)) text → ((a ⨾ b) ⨾ c) text
to_left text x = record {
  front = x.front ++ x.after.front;
  rest = x.after.rest;
  whole = x.whole ∙ ap (λ l. x.front ++ l) x.after.whole
      ∙ sym (append_assoc x.front x.after.front x.after.rest);
  before = record {
    front = x.front;
    rest = x.after.front;
    whole = refl;
    before = x.before;
    after = x.after.before;
  };
  after = x.after.after;
}

pub to_right : {a b c : Line} (text : List Mark) → ((a ⨾ b) ⨾ c) text → (a ⨾ (b ⨾ c)) text
to_right text x = record {
  front = x.before.front;
  rest = x.before.rest ++ x.rest;
  whole = x.whole ∙ ap (λ l. l ++ x.rest) x.before.whole
      ∙ append_assoc x.before.front x.before.rest x.rest;
  before = x.before.before;
  after = record {
    front = x.before.rest;
    rest = x.rest;
    whole = refl;
    before = x.before.after;
    after = x.after;
  };
}

-- items with something between each two: the first, and the others each behind that
pub to_row : {X : Type 0} (between : Line) (line : X → Line) (x : X) (xs : List X)
    (text : List Mark)
    → Separated between line (x ∷ xs) text
    → (line x ⨾ Row (λ y. between ⨾ line y) xs) text
to_row between line x [] text s = record {
  front = text;
  rest = [];
  whole = sym (append-nil text);
  before = s;
  after = refl;
}
to_row between line x (y ∷ ys) text s =
    let more : (between ⨾ (line y ⨾ Row (λ z. between ⨾ line z) ys)) s.rest =
    both_as {a = between} (λ t l. l) (to_row between line y ys) s.rest s.after in
    record {
      front = s.front;
      rest = s.rest;
      whole = s.whole;
      before = s.before;
      after = to_left s.rest more;
    }

pub from_row : {X : Type 0} (between : Line) (line : X → Line) (x : X) (xs : List X)
    (text : List Mark)
    → (line x ⨾ Row (λ y. between ⨾ line y) xs) text
    → Separated between line (x ∷ xs) text
from_row between line x [] text s =
    subst (line x) (sym (s.whole ∙ ap (λ l. s.front ++ l) s.after ∙ append-nil s.front)) s.before
from_row between line x (y ∷ ys) text s = record {
  front = s.front;
  rest = s.rest;
  whole = s.whole;
  before = s.before;
  after = both_as {a = between} (λ t l. l) (from_row between line y ys) s.rest
      (to_right s.rest s.after);
}

-- ---- as many items as come

many_step : {A : Type 0} (item : List Mark → Read A) (Spells : A → Line)
    → ((text : List Mark) (x : A) (left : List Mark) → item text ≡ Some (x, left)
    → IsFront (Spells x) text left)
    → (n : ℕ) (text : List Mark) (r : Read A) → item text ≡ r
    → ((rest : List Mark) → IsFront (Row Spells (many item n rest).0) rest (many item n rest).1)
    → IsFront (Row Spells
    (step r ([], text) (λ x rest. prepended (x ∷ []) (many item n rest))).0) text
    (step r ([], text) (λ x rest. prepended (x ∷ []) (many item n rest))).1
many_step item Spells sound n text None e more = no_front text
many_step item Spells sound n text (Some x) e more =
    then_front (sound text x.0 x.1 e) (more x.1)

-- what is read is a row
pub many_takes : {A : Type 0} (item : List Mark → Read A) (Spells : A → Line)
    → ((text : List Mark) (x : A) (left : List Mark) → item text ≡ Some (x, left)
    → IsFront (Spells x) text left)
    → (n : ℕ) (text : List Mark)
    → IsFront (Row Spells (many item n text).0) text (many item n text).1
unfolding many
many_takes item Spells sound zero text = no_front text
many_takes item Spells sound (suc n) text =
    many_step item Spells sound n text (item text) refl (many_takes item Spells sound n)

pub none_come : {A : Type 0} (item : List Mark → Read A) (n : ℕ) (left : List Mark)
    → item left ≡ None → many item n left ≡ ([], left)
unfolding many
none_come item zero left e = refl
none_come item (suc n) left e =
    ap (λ r. step r ([], left) (λ x rest. prepended (x ∷ []) (many item n rest))) e

-- how an item is read before what may follow it
pub record Rows {A : Type 0} (item : List Mark → Read A) (Spells : A → Line)
    (Follows : List Mark → Type 0) (most : ℕ) : Type 0 where
  pub again : (x : A) (front left : List Mark) → Spells x front → length front ≤ most
      → Follows left → item (front ++ left) ≡ Some (x, left)
  pub next : (x : A) (front left : List Mark) → Spells x front → Follows (front ++ left)
  pub some : (x : A) (front : List Mark) → Spells x front → 1 ≤ length front

row_follows : {A : Type 0} {item : List Mark → Read A} {Spells : A → Line}
    {Follows : List Mark → Type 0} {most : ℕ} (law : Rows item Spells Follows most)
    (xs : List A) (front left : List Mark)
    → Row Spells xs front → Follows left → Follows (front ++ left)
row_follows {Follows} law [] front left s f = subst (λ l. Follows (l ++ left)) (sym s) f
row_follows {Follows} law (x ∷ xs) front left s f =
    subst Follows (sym (regroup s left)) (law.next x s.front (s.rest ++ left) s.before)

-- a row is read
pub many_again : {A : Type 0} {item : List Mark → Read A} {Spells : A → Line}
    {Follows : List Mark → Type 0} {most : ℕ} (law : Rows item Spells Follows most)
    (n : ℕ) (xs : List A) (front left : List Mark)
    → Row Spells xs front → length front ≤ n → n ≤ most → Follows left → item left ≡ None
    → many item n (front ++ left) ≡ (xs, left)
unfolding many
many_again {item} law n [] front left s few fits f none =
    ap (λ l. many item n (l ++ left)) s ∙ none_come item n left none
many_again law zero (x ∷ xs) front left s few fits f none =
    absurd (let a = law.some x s.front s.before in let b = both_lengths s in omega arith)
many_again {item} {most = most} law (suc n) (x ∷ xs) front left s few fits f none =
    let a = law.some x s.front s.before in
    let b = both_lengths s in
    let short : length s.front ≤ most = omega arith in
    let fewer : length s.rest ≤ n = omega arith in
    let less : n ≤ most = omega arith in
    let one = law.again x s.front (s.rest ++ left) s.before short
    (row_follows law xs s.rest left s.after f) in
    ap (λ l. many item (suc n) l) (regroup s left)
    ∙ ap (λ r. step r ([], s.front ++ (s.rest ++ left))
    (λ y rest. prepended (y ∷ []) (many item n rest))) one
    ∙ ap (prepended (x ∷ [])) (many_again law n xs s.rest left s.after fewer less f none)

-- what is behind the items that come
behind_step : {A : Type 0} (item : List Mark → Read A) (n : ℕ) (text : List Mark) (r : Read A)
    → ((rest : List Mark) → behind_many item n rest ≡ (many item n rest).1)
    → step r text (λ x rest. behind_many item n rest)
    ≡ (step r ([], text) (λ x rest. prepended (x ∷ []) (many item n rest))).1
behind_step item n text None more = refl
behind_step item n text (Some x) more = more x.1

pub behind_is : {A : Type 0} (item : List Mark → Read A) (n : ℕ) (text : List Mark)
    → behind_many item n text ≡ (many item n text).1
unfolding many behind_many
behind_is item zero text = refl
behind_is item (suc n) text = behind_step item n text (item text) (behind_is item n)
