-- The laws of rows, and of lists with a token between each two.
use Rattle.std.proofs.Common.{◌≡◌, refl, sym, ◌∙◌, ap, subst, ℕ, zero, suc, ◌≤◌, arith}
use Rattle.std.proofs.Common.{true, false, List, [], ◌∷◌, ◌++◌, length, Some, None}
use Rattle.java_grammar.specs.declared.sign.Sign.{Sign}
use Rattle.java_grammar.specs.Marks.{Mark, Line}
use Rattle.java_grammar.specs.Signs.{sign_part}
use Rattle.java_grammar.specs.Words.{◌⨾◌, Row, Is}
use Rattle.java_grammar.specs.Reading.{IsFront}
use Rattle.type_expr_parser.specs.Reading.{Read, found, step, many, prepended, sign_at}
use Rattle.type_expr_parser.proofs.Lines.{bound, bind_is, none_bound, then_front, front_as}
use Rattle.type_expr_parser.proofs.Lines.{regroup, both_lengths, to_row, from_row}
use Rattle.type_expr_parser.proofs.Lines.{many_takes, none_come}
use Rattle.type_expr_parser.proofs.TokenLaws.{sign_again, sign_takes, sign_missing}
use Rattle.type_expr_parser.proofs.AnnTakes.{given}
use Rattle.productions.specs.Keys.{Key, Fixed, here, Stops, has, apart}
use Rattle.productions.specs.Productions.{Production, a_sign, row, further_at, separated}
use Rattle.productions.specs.Laws.{Law, Refuses}
use Rattle.productions.proofs.Lists.{stops_append, stops_before}
use Rattle.productions.proofs.Combining.{a_sign_law}

-- ---- items one behind the other

-- how an item is read before what may follow it, and that an item may follow
record Steps {A : Type 0} (item : List Mark → Read A) (Spells : A → Line)
    (Follows : List Mark → Type 0) (most : ℕ) : Type 0 where
  again : (x : A) (front left : List Mark) → Spells x front → length front ≤ most
      → Follows left → item (front ++ left) ≡ found x left
  next : (x : A) (front left : List Mark) → Spells x front → Follows left
      → Follows (front ++ left)
  some : (x : A) (front : List Mark) → Spells x front → 1 ≤ length front

row_follows : {A : Type 0} {item : List Mark → Read A} {Spells : A → Line}
    {Follows : List Mark → Type 0} {most : ℕ} (law : Steps item Spells Follows most)
    (xs : List A) (front left : List Mark)
    → Row Spells xs front → Follows left → Follows (front ++ left)
row_follows {Follows} law [] front left s f = subst (λ l. Follows (l ++ left)) (sym s) f
row_follows {Follows} law (x ∷ xs) front left s f =
    subst Follows (sym (regroup s left))
    (law.next x s.front (s.rest ++ left) s.before (row_follows law xs s.rest left s.after f))

steps_again : {A : Type 0} {item : List Mark → Read A} {Spells : A → Line}
    {Follows : List Mark → Type 0} {most : ℕ} (law : Steps item Spells Follows most)
    (n : ℕ) (xs : List A) (front left : List Mark)
    → Row Spells xs front → length front ≤ n → n ≤ most → Follows left → item left ≡ None
    → many item n (front ++ left) ≡ (xs, left)
unfolding many
steps_again {item} law n [] front left s few fits f none =
    ap (λ l. many item n (l ++ left)) s ∙ none_come item n left none
steps_again law zero (x ∷ xs) front left s few fits f none =
    absurd (let a = law.some x s.front s.before in let b = both_lengths s in omega arith)
steps_again {item} {most = most} law (suc n) (x ∷ xs) front left s few fits f none =
    let a = law.some x s.front s.before in
    let b = both_lengths s in
    let short : length s.front ≤ most = omega arith in
    let fewer : length s.rest ≤ n = omega arith in
    let less : n ≤ most = omega arith in
    ap (λ l. many item (suc n) l) (regroup s left)
    ∙ ap (λ r. step r ([], s.front ++ (s.rest ++ left))
    (λ y rest. prepended (y ∷ []) (many item n rest)))
    (law.again x s.front (s.rest ++ left) s.before short
    (row_follows law xs s.rest left s.after f))
    ∙ ap (prepended (x ∷ [])) (steps_again law n xs s.rest left s.after fewer less f none)

-- ---- as many as come

module _ {A : Type 0} {a : Production A} where
  row_steps : Law a → apart a.goes a.begins ≡ true → a.empty ≡ false → (n : ℕ)
      → Steps (a.read n) a.Spells (Stops a.goes) n
  row_steps la e some n = record {
    again = λ x text left s few stops. la.again n x text left s few stops;
    next = λ x text left s stops.
        stops_before la a.goes e x text left s stops (λ c. let d = sym c ∙ some in cc);
    some = λ x text s. la.some some x text s;
  }

  row_first : Law a → apart a.goes a.begins ≡ true → a.empty ≡ false
      → (xs : List A) (text left : List Mark) (k : Key) → Row a.Spells xs text
      → Stops a.goes left → has a.begins k ≡ false → here k left ≡ false
      → here k (text ++ left) ≡ false
  row_first la e some [] text left k s stops h f = ap (λ l. here k (l ++ left)) s ∙ f
  row_first la e some (x ∷ xs) text left k s stops h f =
      ap (here k) (regroup s left)
      ∙ la.first x s.front (s.rest ++ left) k s.before
      (row_follows (row_steps la e some 0) xs s.rest left s.after stops) h
      (λ c. let d = sym c ∙ some in cc)

  pub row_law : (keys : List Key) → Law a → apart a.goes a.begins ≡ true → a.empty ≡ false
      → Refuses keys a → Law (row keys a)
  row_law keys la e some refuses = record {
    takes = λ n text xs left h.
        given (row keys a).Spells h
        (many_takes (a.read n) a.Spells (λ t x l g. la.takes n t x l g) n text);
    again = λ n xs text left s few stops.
        let t = stops_append keys a.goes left stops in
        let same : n ≤ n = omega arith in
        ap Some (steps_again (row_steps la e some n) n xs text left s few same t.1
        (refuses.none n left t.0));
    first = λ xs text left k s stops h f.
        let t = stops_append keys a.goes left stops in
        row_first la e some xs text left k s t.1 h (f refl);
    some = λ c xs text s. absurd cc;
  }

  -- ---- with a token between each two

  further_takes : (k : Sign) → Law a → (n : ℕ) (text : List Mark) (x : A) (left : List Mark)
      → further_at k a n text ≡ found x left
      → IsFront (Is (sign_part k) ⨾ a.Spells x) text left
  unfolding further_at
  further_takes k la n text x left e =
      let p = bound (sign_at k text) (λ t. a.read n t.1) x left e in
      then_front (sign_takes k text p.item p.rest p.first) (la.takes n p.rest x left p.second)

  separated_takes : (k : Sign) → Law a → (n : ℕ) (text : List Mark) (xs : List A)
      (left : List Mark) → (separated k a).read n text ≡ found xs left
      → IsFront ((separated k a).Spells xs) text left
  separated_takes k la n text xs left e =
      let p = bound (a.read n text)
      (λ x. Some (prepended (x.0 ∷ []) (many (further_at k a n) n x.1))) xs left e in
      let more = many (further_at k a n) n p.rest in
      given (separated k a).Spells p.second
      (front_as (from_row (Is (sign_part k)) a.Spells p.item more.0)
      (then_front (la.takes n text p.item p.rest p.first)
      (many_takes (further_at k a n) (λ x. Is (sign_part k) ⨾ a.Spells x)
      (further_takes k la n) n p.rest)))

  steps : (k : Sign) → Law a → apart a.goes (a_sign k).begins ≡ true → (n : ℕ)
      → Steps (further_at k a n) (λ x. Is (sign_part k) ⨾ a.Spells x) (Stops a.goes) n
  unfolding further_at
  steps k la e n = record {
    again = λ x text left s few stops.
        let l = both_lengths s in
        let fewer : length s.rest ≤ n = omega arith in
        ap (further_at k a n) (regroup s left)
        ∙ bind_is (λ t. a.read n t.1) (sign_again k s.front (s.rest ++ left) s.before)
        (la.again n x s.rest left s.after fewer stops);
    next = λ x text left s stops.
        subst (Stops a.goes) (sym (regroup s left))
        (stops_before (a_sign_law k) a.goes e tt s.front (s.rest ++ left) s.before tt
        (λ h. absurd cc));
    some = λ x text s.
        let l = both_lengths s in let m = ap length s.before.whole in omega arith;
  }

  separated_again : (k : Sign) → Law a → apart a.goes (a_sign k).begins ≡ true
      → (n : ℕ) (xs : List A) (text left : List Mark) → (separated k a).Spells xs text
      → length text ≤ n → Stops (Fixed k ∷ a.goes) left
      → (separated k a).read n (text ++ left) ≡ found xs left
  unfolding further_at
  separated_again k la e n [] text left s few stops = absurd s
  separated_again k la e n (x ∷ xs) text left s few stops =
      let r = to_row (Is (sign_part k)) a.Spells x xs text s in
      let l = both_lengths r in
      let fits : length r.front ≤ n = omega arith in
      let fewer : length r.rest ≤ n = omega arith in
      let same : n ≤ n = omega arith in
      ap ((separated k a).read n) (regroup r left)
      ∙ bind_is (λ x. Some (prepended (x.0 ∷ []) (many (further_at k a n) n x.1)))
      (la.again n x r.front (r.rest ++ left) r.before fits
      (row_follows (steps k la e n) xs r.rest left r.after stops.1))
      (ap (λ m. Some (prepended (x ∷ []) m))
      (steps_again (steps k la e n) n xs r.rest left r.after fewer same stops.1
      (none_bound (λ t. a.read n t.1) (sign_missing k left stops.0))))

  separated_first : (k : Sign) → Law a → apart a.goes (a_sign k).begins ≡ true
      → a.empty ≡ false → (xs : List A) (text left : List Mark)
      (j : Key) → (separated k a).Spells xs text → Stops a.goes left → has a.begins j ≡ false
      → here j (text ++ left) ≡ false
  separated_first k la e some [] text left j s stops h = absurd s
  separated_first k la e some (x ∷ xs) text left j s stops h =
      let r = to_row (Is (sign_part k)) a.Spells x xs text s in
      ap (here j) (regroup r left)
      ∙ la.first x r.front (r.rest ++ left) j r.before
      (row_follows (steps k la e 0) xs r.rest left r.after stops) h
      (λ f. let d = sym f ∙ some in cc)

  separated_some : (k : Sign) → Law a → a.empty ≡ false → (xs : List A) (text : List Mark)
      → (separated k a).Spells xs text → 1 ≤ length text
  separated_some k la e [] text s = absurd s
  separated_some k la e (x ∷ xs) text s =
      let r = to_row (Is (sign_part k)) a.Spells x xs text s in
      let l = both_lengths r in
      let m = la.some e x r.front r.before in
      omega arith

  pub separated_law : (k : Sign) → Law a → apart a.goes (a_sign k).begins ≡ true
      → a.empty ≡ false → Law (separated k a)
  separated_law k la e f = record {
    takes = separated_takes k la;
    again = separated_again k la e;
    first = λ xs text left j s stops h g. separated_first k la e f xs text left j s stops.1 h;
    some = λ g xs text s. separated_some k la f xs text s;
  }
