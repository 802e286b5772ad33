-- Words, and what is left of languages behind a byte.
use Rattle.std.proofs.Common.{◌≡◌, ◌↔◌, ◌⊎◌, inl, inr, refl, sym, ap, ◌∙◌, ℕ, zero, suc, Bool}
use Rattle.std.proofs.Common.{true, List, [], ◌∷◌, ◌++◌, append_assoc, append-nil}

-- ---- facts that say the same

pub same : {A : Type 0} → A ↔ A
same = (λ x. x, λ x. x)

pub and_then : {A B C : Type 0} → A ↔ B → B ↔ C → A ↔ C
and_then p q = (λ x. q.0 (p.0 x), λ z. p.1 (q.1 z))

pub turned : {A B : Type 0} → A ↔ B → B ↔ A
turned p = (p.1, p.0)

either_to : {A B C D : Type 0} → (A → C) → (B → D) → A ⊎ B → C ⊎ D
either_to f g (inl x) = inl (f x)
either_to f g (inr y) = inr (g y)

pub either : {A B C D : Type 0} → A ↔ C → B ↔ D → (A ⊎ B) ↔ (C ⊎ D)
either p q = (either_to p.0 q.0, either_to p.1 q.1)

pub pair : {A B C D : Type 0} → A ↔ C → B ↔ D → (A × B) ↔ (C × D)
pair p q = (λ x. (p.0 x.0, q.0 x.1), λ x. (p.1 x.0, q.1 x.1))

swap_to : {A B : Type 0} → A ⊎ B → B ⊎ A
swap_to (inl x) = inr x
swap_to (inr y) = inl y

pub swap : {A B : Type 0} → (A ⊎ B) ↔ (B ⊎ A)
swap = (swap_to, swap_to)

-- ---- words in a row

-- a word of the one language and then a word of the other
pub record Cat (L K : List ℕ → Type 0) (w : List ℕ) : Type 0 where
  pub front : List ℕ
  pub rest : List ℕ
  pub whole : w ≡ front ++ rest
  pub first : L front
  pub second : K rest

pub cat_to : {L M K N : List ℕ → Type 0} → ((v : List ℕ) → L v → M v) → ((v : List ℕ) → K v → N v)
    → (w : List ℕ) → Cat L K w → Cat M N w
cat_to f g w c =
    record {
      front = c.front;
      rest = c.rest;
      whole = c.whole;
      first = f c.front c.first;
      second = g c.rest c.second;
    }

pub cats : {L M K N : List ℕ → Type 0} → ((v : List ℕ) → L v ↔ M v) → ((v : List ℕ) → K v ↔ N v)
    → (w : List ℕ) → Cat L K w ↔ Cat M N w
cats f g w = (cat_to (λ v. (f v).0) (λ v. (g v).0) w, cat_to (λ v. (f v).1) (λ v. (g v).1) w)

-- the empty word alone
abbrev pub Empty : List ℕ → Type 0
Empty w = w ≡ []

split_empty : (L K : List ℕ → Type 0) (front rest : List ℕ) → [] ≡ front ++ rest → L front → K rest
    → L [] × K []
split_empty L K [] [] e l k = (l, k)
split_empty L K [] (b ∷ rest) e l k = absurd (cc)
split_empty L K (b ∷ front) rest e l k = absurd (cc)

pub cat_empty : (L K : List ℕ → Type 0) → Cat L K [] ↔ (L [] × K [])
cat_empty L K = (
  λ c. split_empty L K c.front c.rest c.whole c.first c.second,
  λ p.
      record { front = []; rest = []; whole = refl; first = p.0; second = p.1 },
)

-- a word that begins with the byte: it is of the second language alone, or the first has the byte
split_cons : (L K : List ℕ → Type 0) (b : ℕ) (w front rest : List ℕ) → b ∷ w ≡ front ++ rest
    → L front → K rest → (L [] × K (b ∷ w)) ⊎ Cat (λ v. L (b ∷ v)) K w
split_cons L K b w [] rest e l k = inl (l, rw e k)
split_cons L K b w (d ∷ front) rest e l k =
    let head : d ≡ b = cc in
    let tail : w ≡ front ++ rest = cc in
    inr (record { front = front; rest = rest; whole = tail; first = rw head at l; second = k })

join_cons : (L K : List ℕ → Type 0) (b : ℕ) (w : List ℕ)
    → (L [] × K (b ∷ w)) ⊎ Cat (λ v. L (b ∷ v)) K w → Cat L K (b ∷ w)
join_cons L K b w (inl p) =
    record { front = []; rest = b ∷ w; whole = refl; first = p.0; second = p.1 }
join_cons L K b w (inr c) =
    record {
      front = b ∷ c.front;
      rest = c.rest;
      whole = ap (λ v. b ∷ v) c.whole;
      first = c.first;
      second = c.second;
    }

pub cat_cons : (L K : List ℕ → Type 0) (b : ℕ) (w : List ℕ) → Cat L K (b ∷ w)
    ↔ ((L [] × K (b ∷ w)) ⊎ Cat (λ v. L (b ∷ v)) K w)
cat_cons L K b w =
    (λ c. split_cons L K b w c.front c.rest c.whole c.first c.second, join_cons L K b w)

-- the empty word before or behind
pub cat_first : (K : List ℕ → Type 0) (w : List ℕ) → Cat Empty K w ↔ K w
cat_first K w = (
  λ c. by c.front c.rest c.whole c.first c.second,
  λ k.
      record { front = []; rest = w; whole = refl; first = refl; second = k },
)
  where
    by : (front rest : List ℕ) → w ≡ front ++ rest → front ≡ [] → K rest → K w
    by [] rest e f k = rw e k
    by (b ∷ front) rest e f k = absurd (cc)

pub cat_last : (L : List ℕ → Type 0) (w : List ℕ) → Cat L Empty w ↔ L w
cat_last L w = (
  λ c. by c.front c.rest c.whole c.first c.second,
  λ l.
      record { front = w; rest = []; whole = sym (append-nil w); first = l; second = refl },
)
  where
    by : (front rest : List ℕ) → w ≡ front ++ rest → L front → rest ≡ [] → L w
    by front [] e l r = let same : w ≡ front = e ∙ append-nil front in rw same l
    by front (b ∷ rest) e l r = absurd (cc)

pub cat_assoc : (L K M : List ℕ → Type 0) (w : List ℕ) → Cat (Cat L K) M w ↔ Cat L (Cat K M) w
cat_assoc L K M w = (
  λ c. record {
    front = c.first.front;
    rest = c.first.rest ++ c.rest;
    whole =
        c.whole ∙ ap (λ v. v ++ c.rest) c.first.whole
        ∙ append_assoc c.first.front c.first.rest c.rest;
    first = c.first.first;
    second =
        record {
          front = c.first.rest;
          rest = c.rest;
          whole = refl;
          first = c.first.second;
          second = c.second;
        };
  },
  λ c. record {
    front = c.front ++ c.second.front;
    rest = c.second.rest;
    whole =
        c.whole ∙ ap (λ v. c.front ++ v) c.second.whole
        ∙ sym (append_assoc c.front c.second.front c.second.rest);
    first =
        record {
          front = c.front;
          rest = c.second.front;
          whole = refl;
          first = c.first;
          second = c.second.first;
        };
    second = c.second.second;
  },
)

cat_or_to : (L M K : List ℕ → Type 0) (w front rest : List ℕ) → w ≡ front ++ rest
    → L front ⊎ M front → K rest → Cat L K w ⊎ Cat M K w
cat_or_to L M K w front rest e (inl l) k =
    inl (record { front = front; rest = rest; whole = e; first = l; second = k })
cat_or_to L M K w front rest e (inr m) k =
    inr (record { front = front; rest = rest; whole = e; first = m; second = k })

cat_or_from : (L M K : List ℕ → Type 0) (w : List ℕ) → Cat L K w ⊎ Cat M K w
    → Cat (λ v. L v ⊎ M v) K w
cat_or_from L M K w (inl c) =
    record {
      front = c.front;
      rest = c.rest;
      whole = c.whole;
      first = inl c.first;
      second = c.second;
    }
cat_or_from L M K w (inr c) =
    record {
      front = c.front;
      rest = c.rest;
      whole = c.whole;
      first = inr c.first;
      second = c.second;
    }

pub cat_or : (L M K : List ℕ → Type 0) (w : List ℕ) → Cat (λ v. L v ⊎ M v) K w
    ↔ (Cat L K w ⊎ Cat M K w)
cat_or L M K w =
    (λ c. cat_or_to L M K w c.front c.rest c.whole c.first c.second, cat_or_from L M K w)

-- ---- any number of words in a row

abbrev pub Times : (List ℕ → Type 0) → ℕ → List ℕ → Type 0
Times L zero = Empty
Times L (suc n) = Cat L (Times L n)

abbrev pub Star : (List ℕ → Type 0) → List ℕ → Type 0
Star L w = (n : ℕ) × Times L n w

pub star_none : (L : List ℕ → Type 0) → Star L []
star_none L = (zero, refl)

pub star_more : (L : List ℕ → Type 0) (w : List ℕ) → Cat L (Star L) w → Star L w
star_more L w c = (
  suc c.second.0,
  record {
    front = c.front;
    rest = c.rest;
    whole = c.whole;
    first = c.first;
    second = c.second.1;
  },
)

star_cons_to : (L : List ℕ → Type 0) (b : ℕ) (w : List ℕ) (n : ℕ) → Times L n (b ∷ w)
    → Cat (λ v. L (b ∷ v)) (Star L) w
star_cons_to L b w zero e = absurd (cc)
star_cons_to L b w (suc n) c = by (star_cons_to L b w n) ((cat_cons L (Times L n) b w).0 c)
  where
    by : (Times L n (b ∷ w) → Cat (λ v. L (b ∷ v)) (Star L) w)
        → (L [] × Times L n (b ∷ w)) ⊎ Cat (λ v. L (b ∷ v)) (Times L n) w
        → Cat (λ v. L (b ∷ v)) (Star L) w
    by again (inl p) = again p.1
    by again (inr d) =
        record {
          front = d.front;
          rest = d.rest;
          whole = d.whole;
          first = d.first;
          second = (n, d.second);
        }

-- a word that begins with the byte
pub star_cons : (L : List ℕ → Type 0) (b : ℕ) (w : List ℕ) → Star L (b ∷ w)
    ↔ Cat (λ v. L (b ∷ v)) (Star L) w
star_cons L b w = (
  λ s. star_cons_to L b w s.0 s.1,
  λ c. star_more L (b ∷ w)
      (record {
        front = b ∷ c.front;
        rest = c.rest;
        whole = ap (λ v. b ∷ v) c.whole;
        first = c.first;
        second = c.second;
      }),
)

times_to : (L M : List ℕ → Type 0) → ((v : List ℕ) → L v → M v) → (n : ℕ) (w : List ℕ) →
    Times L n w
    → Times M n w
times_to L M f zero w e = e
times_to L M f (suc n) w c =
    record {
      front = c.front;
      rest = c.rest;
      whole = c.whole;
      first = f c.front c.first;
      second = times_to L M f n c.rest c.second;
    }

pub stars : {L M : List ℕ → Type 0} → ((v : List ℕ) → L v ↔ M v) → (w : List ℕ) → Star L w
    ↔ Star M w
stars {L} {M} f w = (
  λ s. (s.0, times_to L M (λ v. (f v).0) s.0 w s.1),
  λ s.
      (s.0, times_to M L (λ v. (f v).1) s.0 w s.1),
)

star_step_to : (L : List ℕ → Type 0) (w : List ℕ) (n : ℕ) → Times L n w
    → (w ≡ []) ⊎ Cat L (Star L) w
star_step_to L w zero e = inl e
star_step_to L w (suc n) c =
    inr (record {
      front = c.front;
      rest = c.rest;
      whole = c.whole;
      first = c.first;
      second = (n, c.second);
    })

star_step_back : (L : List ℕ → Type 0) (w : List ℕ) → (w ≡ []) ⊎ Cat L (Star L) w → Star L w
star_step_back L w (inl e) = (zero, e)
star_step_back L w (inr c) = star_more L w c

-- none, or one and then others
pub star_step : (L : List ℕ → Type 0) (w : List ℕ) → Star L w ↔ ((w ≡ []) ⊎ Cat L (Star L) w)
star_step L w = (λ s. star_step_to L w s.0 s.1, star_step_back L w)

-- one of two that can't be
pub only_right : {A B : Type 0} → (A → ⊥) → (A ⊎ B) ↔ B
only_right {A} {B} never =
    (λ s. elim s as (λ s. B) [ inl x ↦ absurd (never x) | inr y ↦ y ], λ y. inr y)

pub only_left : {A B : Type 0} → (B → ⊥) → (A ⊎ B) ↔ A
only_left {A} {B} never =
    (λ s. elim s as (λ s. A) [ inl x ↦ x | inr y ↦ absurd (never y) ], λ x. inl x)

-- a fact that is known
pub known : {A B : Type 0} → A → (A × B) ↔ B
known x = (λ p. p.1, λ y. (x, y))

pub same_test : (a b : Bool) → a ≡ b → (a ≡ true) ↔ (b ≡ true)
same_test a b e = (λ x. sym e ∙ x, λ y. e ∙ y)

not_empty : (b : ℕ) (w : List ℕ) → b ∷ w ≡ [] → ⊥
not_empty b w e = absurd (cc)

pub star_begins : (L : List ℕ → Type 0) (b : ℕ) (w : List ℕ) → Star L (b ∷ w)
    ↔ Cat L (Star L) (b ∷ w)
star_begins L b w = and_then (star_step L (b ∷ w)) (only_right (not_empty b w))
