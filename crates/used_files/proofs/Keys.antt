-- Keys that stood before, gone over one by one.
use Rattle.std.proofs.Common.{◌≡◌, ℕ, ◌+◌, ◌<◌, Bool, true, false, cond, ◌||◌, not, List}
use Rattle.std.proofs.Common.{[], ◌∷◌, ◌++◌, length, map, take, get_or, refl, ap, ◌∙◌, arith}
use Rattle.std.proofs.Common.{below_more}
use Rattle.std.specs.Prelude.{bytes_eq}
use Rattle.std.specs.List.{list_any}
use Rattle.std.specs.Borrow.{Bor}
use Rattle.std.proofs.lemmas.Cmp.{nat_list_eq_equiv}
use Rattle.std.proofs.lemmas.List.{take_more, take-map, get_or-map, map_push, get_or_append_left}
use Rattle.std.proofs.lemmas.List.{get_or_push}
use Rattle.std.proofs.lemmas.List.Folds.{list_any-append}
use Rattle.used_files.specs.Parts.{now_of}
use Rattle.used_files.specs.Paths.{is_among, is_repeated}

abbrev Key : Type 0
Key = Bor (List ℕ)

-- the keys before a place
abbrev pub before : List Key → ℕ → List (List ℕ)
before keys i = map now_of (take i keys)

-- whether a key that was asked for is there, once one more was put in
pub among_more : (keys : List Key) (i : ℕ) (d : Key) (q : List ℕ) → i < length keys
    → is_among (before keys (i + 1)) q
    ≡ cond (bytes_eq (get_or keys i d).now q) true (is_among (before keys i) q)
among_more keys i d q inside =
    ap (list_any (bytes_eq q))
    (ap (map now_of) (take_more keys i d inside) ∙ map_push now_of (take i keys) (get_or keys i d))
    ∙ list_any-append (bytes_eq q) (before keys i) ((get_or keys i d).now ∷ [])
    ∙ by (bytes_eq q (get_or keys i d).now) (bytes_eq (get_or keys i d).now q)
    (nat_list_eq_equiv.symm q (get_or keys i d).now) (is_among (before keys i) q)
  where
    by : (a b : Bool) → a ≡ b → (c : Bool) → (c || (a || false)) ≡ cond b true c
    by true true e true = refl
    by true true e false = refl
    by false false e true = refl
    by false false e false = refl
    by true false e c = absurd cc
    by false true e c = absurd cc

pub repeated_at : (keys : List Key) (i : ℕ) (d : Key) → i < length keys
    → is_repeated (map now_of keys) i ≡ is_among (before keys i) (get_or keys i d).now
repeated_at keys i d inside =
    ap (λ ks. is_among ks (get_or (map now_of keys) i [])) (take-map now_of i keys)
    ∙ ap (is_among (before keys i)) (get_or-map now_of keys i d [] inside)

-- one more mark
pub marks_more : (marks pushed : List Bool) (m : Bool) (want : ℕ → Bool) (i : ℕ) → length marks ≡ i
    → pushed ≡ marks ++ m ∷ [] → ((k : ℕ) → k < i → get_or marks k false ≡ want k) → m ≡ want i
    → (k : ℕ) → k < i + 1 → get_or pushed k false ≡ want k
marks_more marks pushed m want i long more below here =
    below_more (λ k. get_or pushed k false ≡ want k) i
    (λ k lt. ap (λ list. get_or list k false) more
    ∙ get_or_append_left marks (m ∷ []) false k (omega arith) ∙ below k lt)
    (ap (λ list. get_or list i false) more ∙ get_or_push marks m false i long ∙ here)

pub twice_not : (b : Bool) → not (not b) ≡ b
twice_not true = refl
twice_not false = refl
