-- One law for each way of making productions.
use Rattle.std.proofs.Common.{◌≡◌, refl, sym, ◌∙◌, ap, subst, ℕ, ◌+◌, ◌≤◌, arith}
use Rattle.std.proofs.Common.{Bool, true, false, List, [], ◌∷◌, ◌++◌, length, Option, Some, None}
use Rattle.std.proofs.Common.{inl, inr}
use Rattle.std.specs.Prelude.{if◌then◌else◌}
use Rattle.java_grammar.specs.declared.sign.Sign.{Sign}
use Rattle.java_grammar.specs.Marks.{Mark, Line}
use Rattle.java_grammar.specs.Signs.{sign_part}
use Rattle.java_grammar.specs.Reading.{IsFront}
use Rattle.type_expr_parser.specs.Reading.{Read, found, ◌>>=◌}
use Rattle.type_expr_parser.proofs.Lines.{value_is, bound, bind_is, none_bound, then_front, front_as}
use Rattle.type_expr_parser.proofs.Lines.{no_front, regroup, both_lengths}
use Rattle.type_expr_parser.proofs.TokenLaws.{sign_again, sign_takes, sign_missing}
use Rattle.type_expr_parser.proofs.AnnTakes.{given}
use Rattle.productions.specs.Keys.{Key, Fixed, here, Stops, Begin, has, apart, front_may}
use Rattle.productions.specs.Productions.{Production, a_sign, nothing, ◌▸◌, ◌▹◌, ◌◃◌, only_if, made}
use Rattle.productions.specs.Productions.{checked, tested, spelled, narrowed, wider, chosen, picked}
use Rattle.productions.specs.Productions.{behind}
use Rattle.productions.specs.Laws.{Law, Alike, Sure, Refuses, Reads}
use Rattle.productions.proofs.Lists.{if_false, has_append, stops_append, has_only_if}
use Rattle.productions.proofs.Lists.{stops_only_if, both_empty, stops_before, none_here, stops_by}
use Rattle.productions.proofs.Fronts.{part_key, sign_key}

-- ---- a token, and nothing

pub a_sign_law : (s : Sign) → Law (a_sign s)
a_sign_law s = record {
  takes = λ n text x left e. sign_takes s text x left e;
  again = λ n x text left t few stops. sign_again s text left t;
  first = λ x text left k t stops h f.
      part_key k (sign_part s) text left t (if_false (front_may (sign_part s) k) false h).0;
  some = λ e x text t. let l = ap length t.whole in omega arith;
}

pub nothing_law : {A : Type 0} (none : A) → Law (nothing none)
nothing_law none = record {
  takes = λ n text x left e.
      given (nothing none).Spells e (front_as (λ t s. (refl, s)) (no_front text));
  again = λ n x text left t few stops.
      ap (λ l. found none (l ++ left)) t.1 ∙ ap (λ y. found y left) (sym t.0);
  first = λ x text left k t stops h f. ap (λ l. here k (l ++ left)) t.1 ∙ f refl;
  some = λ e x text t. absurd cc;
}

-- ---- one behind the other

-- what stands behind the first, with which this goes on, doesn't go on with it
first_stops : {B : Type 0} {b : Production B} (goes : List Key) → Law b
    → apart goes b.begins ≡ true → (y : B) (text left : List Mark)
    → b.Spells y text → Stops (b.goes ++ only_if b.empty goes) left
    → Stops goes (text ++ left) × Stops b.goes left
first_stops {b = b} goes lb e y text left s stops =
    let t = stops_append b.goes (only_if b.empty goes) left stops in (
      stops_before lb goes e y text left s t.0 (stops_only_if b.empty goes left t.1),
      t.0,
    )

module _ {A B : Type 0} {a : Production A} {b : Production B} where
  then_takes : Law a → Law b → (n : ℕ) (text : List Mark) (x : A × B) (left : List Mark)
      → (a ▸ b).read n text ≡ found x left → IsFront ((a ▸ b).Spells x) text left
  then_takes la lb n text x left e =
      let p = bound (a.read n text) (λ x. b.read n x.1 >>= λ y. found (x.0, y.0) y.1) x left e in
      let q = bound (b.read n p.rest) (λ y. found (p.item, y.0) y.1) x left p.second in
      given (a ▸ b).Spells q.second
      (then_front (la.takes n text p.item p.rest p.first)
      (lb.takes n p.rest q.item q.rest q.first))

  then_again : Law a → Law b → apart a.goes b.begins ≡ true
      → (n : ℕ) (x : A × B) (text left : List Mark) → (a ▸ b).Spells x text
      → length text ≤ n → Stops (a ▸ b).goes left
      → (a ▸ b).read n (text ++ left) ≡ found x left
  then_again la lb e n x text left s few stops =
      let l = both_lengths s in
      let fits : length s.front ≤ n = omega arith in
      let fewer : length s.rest ≤ n = omega arith in
      let t = first_stops a.goes lb e x.1 s.rest left s.after stops in
      ap ((a ▸ b).read n) (regroup s left)
      ∙ bind_is (λ x. b.read n x.1 >>= λ y. found (x.0, y.0) y.1)
      (la.again n x.0 s.front (s.rest ++ left) s.before fits t.0)
      (bind_is (λ y. found (x.0, y.0) y.1)
      (lb.again n x.1 s.rest left s.after fewer t.1) refl)

  then_first : Law a → Law b → apart a.goes b.begins ≡ true
      → (x : A × B) (text left : List Mark) (k : Key)
      → (a ▸ b).Spells x text → Stops (a ▸ b).goes left → has (a ▸ b).begins k ≡ false
      → ((a ▸ b).empty ≡ true → here k left ≡ false)
      → here k (text ++ left) ≡ false
  then_first la lb e x text left k s stops h f =
      let g = has_append a.begins (only_if a.empty b.begins) k h in
      let t = first_stops a.goes lb e x.1 s.rest left s.after stops in
      ap (here k) (regroup s left)
      ∙ la.first x.0 s.front (s.rest ++ left) k s.before t.0 g.0 (λ c.
      lb.first x.1 s.rest left k s.after t.1 (has_only_if a.empty b.begins k g.1 c) (λ d.
      f (both_empty a.empty b.empty c d)))

  then_some : Law a → Law b → (a ▸ b).empty ≡ false → (x : A × B) (text : List Mark)
      → (a ▸ b).Spells x text → 1 ≤ length text
  then_some la lb e x text s = by (both_lengths s) a.empty refl e
    where
      by : length text ≡ length s.front + length s.rest → (c : Bool) → a.empty ≡ c
          → (if c then b.empty else false) ≡ false → 1 ≤ length text
      by l true c h = let m = lb.some h x.1 s.rest s.after in omega arith
      by l false c h = let m = la.some c x.0 s.front s.before in omega arith

  pub then_law : Law a → Law b → apart a.goes b.begins ≡ true → Law (a ▸ b)
  then_law la lb e = record {
    takes = then_takes la lb;
    again = then_again la lb e;
    first = then_first la lb e;
    some = then_some la lb;
  }

-- ---- what an item comes to

pub made_law : {A B : Type 0} {a : Production A} (f : A → B) → Law a → Law (made f a)
made_law {a = a} f la = record {
  takes = λ n text y left e.
      let p = bound (a.read n text) (λ x. found (f x.0) x.1) y left e in
      given (made f a).Spells p.second
      (front_as (λ t s. (p.item, refl, s)) (la.takes n text p.item p.rest p.first));
  again = λ n y text left s few stops.
      bind_is (λ x. found (f x.0) x.1) (la.again n s.0 text left s.2 few stops)
      (ap (λ z. found z left) s.1);
  first = λ y text left k s stops h g. la.first s.0 text left k s.2 stops h g;
  some = λ e y text s. la.some e s.0 text s.2;
}

checked_by : {A B : Type 0} (a : Production A) (f : A → Option B) (x : A) (text rest : List Mark)
    (y : B) (left : List Mark) (o : Option B) → f x ≡ o
    → IsFront (a.Spells x) text rest → (o >>= λ z. found z rest) ≡ found y left
    → IsFront ((checked f a).Spells y) text left
checked_by a f x text rest y left None e s h = absurd cc
checked_by a f x text rest y left (Some z) e s h =
    given (checked f a).Spells h (front_as (λ t u. (x, e, u)) s)

pub checked_law : {A B : Type 0} {a : Production A} (f : A → Option B) → Law a
    → Law (checked f a)
checked_law {a = a} f la = record {
  takes = λ n text y left e.
      let p = bound (a.read n text) (λ x. f x.0 >>= λ y. found y x.1) y left e in
      checked_by a f p.item text p.rest y left (f p.item) refl
      (la.takes n text p.item p.rest p.first) p.second;
  again = λ n y text left s few stops.
      bind_is (λ x. f x.0 >>= λ y. found y x.1) (la.again n s.0 text left s.2 few stops)
      (ap (λ o. o >>= λ z. found z left) s.1);
  first = λ y text left k s stops h g. la.first s.0 text left k s.2 stops h g;
  some = λ e y text s. la.some e s.0 text s.2;
}

tested_by : {A : Type 0} (a : Production A) (test : A → Bool) (x : A) (text rest : List Mark)
    (y : A) (left : List Mark) (b : Bool) → test x ≡ b
    → IsFront (a.Spells x) text rest → (if b then found x rest else None) ≡ found y left
    → IsFront ((tested test a).Spells y) text left
tested_by a test x text rest y left false e s h = absurd cc
tested_by a test x text rest y left true e s h =
    given (tested test a).Spells h (front_as (λ t u. (e, u)) s)

pub tested_law : {A : Type 0} {a : Production A} (test : A → Bool) → Law a → Law (tested test a)
tested_law {a = a} test la = record {
  takes = λ n text y left e.
      let p = bound (a.read n text) (λ x. if test x.0 then found x.0 x.1 else None) y left e in
      tested_by a test p.item text p.rest y left (test p.item) refl
      (la.takes n text p.item p.rest p.first) p.second;
  again = λ n y text left s few stops.
      bind_is (λ x. if test x.0 then found x.0 x.1 else None)
      (la.again n y text left s.1 few stops)
      (ap (λ b. if b then found y left else None) s.0);
  first = λ y text left k s stops h g. la.first y text left k s.1 stops h g;
  some = λ e y text s. la.some e y text s.1;
}

-- ---- in other words

-- another way of reading the same, of which a line says which texts they are
pub like_law : {A : Type 0} {p : Production A} → Law p → (read : ℕ → List Mark → Read A)
    (Spells : A → Line) → ((n : ℕ) (text : List Mark) → read n text ≡ p.read n text)
    → Alike p Spells
    → Law (record {
      read = read;
      Spells = Spells;
      begins = p.begins;
      goes = p.goes;
      empty = p.empty;
    })
like_law lp read Spells same alike = record {
  takes = λ n text x left e.
      front_as (alike.to x) (lp.takes n text x left (sym (same n text) ∙ e));
  again = λ n x text left s few stops.
      same n (text ++ left) ∙ lp.again n x text left (alike.of x text s) few stops;
  first = λ x text left k s stops h f. lp.first x text left k (alike.of x text s) stops h f;
  some = λ e x text s. lp.some e x text (alike.of x text s);
}

pub spelled_law : {A : Type 0} {p : Production A} {Spells : A → Line} → Law p
    → Alike p Spells → Law (spelled p Spells)
spelled_law {p = p} {Spells = Spells} lp alike =
    like_law lp p.read Spells (λ n text. refl) alike

pub narrowed_law : {A : Type 0} {p : Production A} (begins : List Begin) → Law p
    → ((x : A) (text left : List Mark) (k : Key) → p.Spells x text → Stops p.goes left
    → has begins k ≡ false → (p.empty ≡ true → here k left ≡ false)
    → here k (text ++ left) ≡ false)
    → Law (narrowed p begins)
narrowed_law begins lp first = record {
  takes = lp.takes;
  again = lp.again;
  first = first;
  some = lp.some;
}

pub wider_law : {A : Type 0} {p : Production A} (keys : List Key) → Law p → Law (wider keys p)
wider_law {p = p} keys lp = record {
  takes = lp.takes;
  again = λ n x text left s few stops.
      lp.again n x text left s few (stops_append keys p.goes left stops).1;
  first = λ x text left k s stops h f.
      lp.first x text left k s (stops_append keys p.goes left stops).1 h f;
  some = lp.some;
}

drop_first : {A : Type 0} (b : Production A) (r : Read (Unit {0})) (n : ℕ)
    → (r >>= λ x. b.read n x.1)
    ≡ ((r >>= λ x. b.read n x.1 >>= λ y. found {A = Unit {0} × A} (x.0, y.0) y.1)
    >>= λ z. found z.0.1 z.1)
drop_first b None n = refl
drop_first {A} b (Some x) n = by (b.read n x.1)
  where
    by : (r : Read A) → r ≡ ((r >>= λ y. found {A = Unit {0} × A} (x.0, y.0) y.1)
        >>= λ z. found z.0.1 z.1)
    by None = refl
    by (Some y) = refl

pub after_law : {A : Type 0} {a : Production (Unit {0})} {b : Production A} → Law a → Law b
    → apart a.goes b.begins ≡ true → Law (a ▹ b)
after_law {a = a} {b} la lb e =
    like_law (made_law (λ x. x.1) (then_law la lb e)) (a ▹ b).read (a ▹ b).Spells
    (λ n text. drop_first b (a.read n text) n) (record {
      to = λ y text s. subst (λ z. (a ▹ b).Spells z text) s.1 s.2;
      of = λ y text s. ((tt, y), refl, s);
    })

drop_second : {A : Type 0} (b : Production (Unit {0})) (r : Read A) (n : ℕ)
    → (r >>= λ x. b.read n x.1 >>= λ y. found x.0 y.1)
    ≡ ((r >>= λ x. b.read n x.1 >>= λ y. found {A = A × Unit {0}} (x.0, y.0) y.1)
    >>= λ z. found z.0.0 z.1)
drop_second b None n = refl
drop_second {A} b (Some x) n = by (b.read n x.1)
  where
    by : (r : Read (Unit {0})) → (r >>= λ y. found x.0 y.1)
        ≡ ((r >>= λ y. found {A = A × Unit {0}} (x.0, y.0) y.1) >>= λ z. found z.0.0 z.1)
    by None = refl
    by (Some y) = refl

pub before_law : {A : Type 0} {a : Production A} {b : Production (Unit {0})} → Law a → Law b
    → apart a.goes b.begins ≡ true → Law (a ◃ b)
before_law {a = a} {b} la lb e =
    like_law (made_law (λ x. x.0) (then_law la lb e)) (a ◃ b).read (a ◃ b).Spells
    (λ n text. drop_second b (a.read n text) n) (record {
      to = λ y text s. subst (λ z. (a ◃ b).Spells z text) s.1 s.2;
      of = λ y text s. ((y, tt), refl, s);
    })

-- ---- one of two

chosen_stops : (keys one other : List Key) (left : List Mark) → Stops (keys ++ (one ++ other)) left
    → Stops keys left × Stops one left × Stops other left
chosen_stops keys one other left stops =
    let t = stops_append keys (one ++ other) left stops in
    let u = stops_append one other left t.1 in
    (t.0, u.0, u.1)

module _ {A : Type 0} {a b : Production A} where
  chosen_takes : (test : List Mark → Bool) (keys : List Key) → Law a → Law b
      → (n : ℕ) (text : List Mark) (y : A) (left : List Mark)
      → (chosen test keys a b).read n text ≡ found y left
      → IsFront ((chosen test keys a b).Spells y) text left
  chosen_takes test keys la lb n text y left e = by (test text) e
    where
      by : (c : Bool) → (if c then a.read n text else b.read n text) ≡ found y left
          → IsFront ((chosen test keys a b).Spells y) text left
      by true h = front_as (λ t s. inl s) (la.takes n text y left h)
      by false h = front_as (λ t s. inr s) (lb.takes n text y left h)

  chosen_again : (test : List Mark → Bool) (keys : List Key) → Law a → Law b
      → ((y : A) (text left : List Mark) → a.Spells y text → Stops a.goes left
      → test (text ++ left) ≡ true)
      → ((y : A) (text left : List Mark) → b.Spells y text → Stops keys left
      → Stops b.goes left → test (text ++ left) ≡ false)
      → (n : ℕ) (y : A) (text left : List Mark)
      → (chosen test keys a b).Spells y text → length text ≤ n
      → Stops (chosen test keys a b).goes left
      → (chosen test keys a b).read n (text ++ left) ≡ found y left
  chosen_again test keys la lb is isnt n y text left s few stops =
      let t = chosen_stops keys a.goes b.goes left stops in by s t.0 t.1 t.2
    where
      read : Bool → Read A
      read c = if c then a.read n (text ++ left) else b.read n (text ++ left)

      by : (chosen test keys a b).Spells y text → Stops keys left
          → Stops a.goes left → Stops b.goes left
          → (chosen test keys a b).read n (text ++ left) ≡ found y left
      by (inl x) none st su = ap read (is y text left x st) ∙ la.again n y text left x few st
      by (inr x) none st su = ap read (isnt y text left x none su) ∙ lb.again n y text left x few su

  chosen_first : (test : List Mark → Bool) (keys : List Key) → Law a → Law b → a.empty ≡ false
      → (y : A) (text left : List Mark) (j : Key)
      → (chosen test keys a b).Spells y text → Stops (chosen test keys a b).goes left
      → has (a.begins ++ b.begins) j ≡ false
      → (b.empty ≡ true → here j left ≡ false) → here j (text ++ left) ≡ false
  chosen_first test keys la lb some y text left j s stops h f =
      let t = chosen_stops keys a.goes b.goes left stops in
      let g = has_append a.begins b.begins j h in
      by s t.1 t.2 g.0 g.1
    where
      by : (chosen test keys a b).Spells y text → Stops a.goes left → Stops b.goes left
          → has a.begins j ≡ false → has b.begins j ≡ false → here j (text ++ left) ≡ false
      by (inl x) st su ha hb = la.first y text left j x st ha (λ c. let d = sym c ∙ some in cc)
      by (inr x) st su ha hb = lb.first y text left j x su hb f

  pub chosen_law : (test : List Mark → Bool) (keys : List Key) → Law a → Law b
      → ((y : A) (text left : List Mark) → a.Spells y text → Stops a.goes left
      → test (text ++ left) ≡ true)
      → ((y : A) (text left : List Mark) → b.Spells y text → Stops keys left
      → Stops b.goes left → test (text ++ left) ≡ false)
      → a.empty ≡ false → Law (chosen test keys a b)
  chosen_law test keys la lb is isnt some = record {
    takes = chosen_takes test keys la lb;
    again = chosen_again test keys la lb is isnt;
    first = chosen_first test keys la lb some;
    some = λ c y text s. by c y text s;
  }
    where
      by : b.empty ≡ false → (y : A) (text : List Mark) → (chosen test keys a b).Spells y text
          → 1 ≤ length text
      by c y text (inl x) = la.some some y text x
      by c y text (inr x) = lb.some c y text x

  pub picked_law : (k : Key) → Law a → Law b → Sure k a → a.empty ≡ false
      → has b.begins k ≡ false → Law (picked k a b)
  picked_law k la lb sure some e =
      chosen_law (here k) (only_if b.empty (k ∷ [])) la lb sure.comes
      (λ y text left s none stops. lb.first y text left k s stops e
      (λ c. (stops_only_if b.empty (k ∷ []) left none c).0))
      some

-- ---- with what a text surely begins

pub sign_sure : (s : Sign) → Sure (Fixed s) (a_sign s)
sign_sure s = record { comes = λ x text left t stops. sign_key s text left t }

pub after_sure : {A : Type 0} {a : Production (Unit {0})} {b : Production A} {k : Key} → Law b
    → Sure k a → apart a.goes b.begins ≡ true → Sure k (a ▹ b)
after_sure {a = a} {k = k} lb sure e = record {
  comes = λ y text left s stops.
      let t = first_stops a.goes lb e y s.rest left s.after stops in
      ap (here k) (regroup s left) ∙ sure.comes tt s.front (s.rest ++ left) s.before t.0;
}

pub then_sure : {A B : Type 0} {a : Production A} {b : Production B} {k : Key} → Law b
    → Sure k a → apart a.goes b.begins ≡ true → Sure k (a ▸ b)
then_sure {a = a} {k = k} lb sure e = record {
  comes = λ y text left s stops.
      let t = first_stops a.goes lb e y.1 s.rest left s.after stops in
      ap (here k) (regroup s left) ∙ sure.comes y.0 s.front (s.rest ++ left) s.before t.0;
}

pub made_sure : {A B : Type 0} {a : Production A} {k : Key} (f : A → B) → Sure k a
    → Sure k (made f a)
made_sure f sure = record {
  comes = λ y text left s stops. sure.comes s.0 text left s.2 stops;
}

pub behind_law : {A : Type 0} {a : Production A} (none : A) (s : Sign) → Law a
    → Law (behind none s a)
behind_law none s la =
    picked_law (Fixed s) (after_law (a_sign_law s) la refl) (nothing_law none)
    (after_sure la (sign_sure s) refl) refl refl

-- ---- what refuses

pub sign_refuses : (s : Sign) → Refuses (Fixed s ∷ []) (a_sign s)
sign_refuses s = record { none = λ n text stops. sign_missing s text stops.0 }

pub then_refuses : {A B : Type 0} {a : Production A} (b : Production B) {keys : List Key}
    → Refuses keys a → Refuses keys (a ▸ b)
then_refuses b refuses = record {
  none = λ n text stops.
      none_bound (λ x. b.read n x.1 >>= λ y. found (x.0, y.0) y.1) (refuses.none n text stops);
}

pub after_refuses : {A : Type 0} {a : Production (Unit {0})} (b : Production A) {keys : List Key}
    → Refuses keys a → Refuses keys (a ▹ b)
after_refuses b refuses = record {
  none = λ n text stops. none_bound (λ x. b.read n x.1) (refuses.none n text stops);
}

pub made_refuses : {A B : Type 0} {a : Production A} {keys : List Key} (f : A → B)
    → Refuses keys a → Refuses keys (made f a)
made_refuses f refuses = record {
  none = λ n text stops. none_bound (λ x. found (f x.0) x.1) (refuses.none n text stops);
}

pub picked_refuses : {A : Type 0} (a : Production A) {b : Production A} {k : Key} {keys : List Key}
    → Refuses keys b → Refuses (k ∷ keys) (picked k a b)
picked_refuses a {b} refuses = record {
  none = λ n text stops.
      ap (λ c. if c then a.read n text else b.read n text) stops.0
      ∙ refuses.none n text stops.1;
}

-- ---- whole texts

-- at most one item has a text, as long as something may stand behind it
pub one_item : {A : Type 0} {p : Production A} → Law p → (left : List Mark) → Stops p.goes left
    → (x y : A) (text : List Mark) → p.Spells x text → p.Spells y text → x ≡ y
one_item law left stops x y text s t =
    let same : length text ≤ length text = omega arith in
    value_is (sym (law.again (length text) x text left s same stops)
    ∙ law.again (length text) y text left t same stops)

pub law_reads : {A : Type 0} {p : Production A} → Law p → (left : List Mark)
    → none_here p.goes left ≡ true → Reads p p.Spells
law_reads {p = p} law left e = record {
  takes = law.takes;
  again = law.again;
  one = one_item law left (stops_by p.goes left e);
}
