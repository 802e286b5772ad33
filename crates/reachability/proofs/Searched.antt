-- What a search finds is what is reached.
use Rattle.std.proofs.Common.{◌≡◌, ◌≢◌, refl, ap, sym, subst, ◌∙◌, ℕ, zero, suc, ◌+◌, ◌≤◌, ◌<◌}
use Rattle.std.proofs.Common.{Bool, true, false, List, [], ◌∷◌, ◌++◌, length, take, get_or, set}
use Rattle.std.proofs.Common.{replicate, arith, inl, inr, ⊎_elim, append_assoc, append-nil}
use Rattle.std.proofs.Common.{length-append}
use Rattle.std.specs.Prelude.{Contains}
use Rattle.std.proofs.lemmas.List.{get_or_default, get_or_past, get_or-set_same, get_or-set_other}
use Rattle.std.proofs.lemmas.List.{length-set, take_more, take_all, take-append-le}
use Rattle.std.proofs.lemmas.List.Elements.{Contains-append_left, Contains-append_right}
use Rattle.std.proofs.lemmas.List.Elements.{Contains-append_cases}
use Rattle.std.proofs.lemmas.Bool.{cases_eq, cases_lt}
use Rattle.reachability.specs.declared.search.Search.{Search}
use Rattle.reachability.specs.Reached.{targets, IsClosed, IsReached}
use Rattle.reachability.specs.Search.{IsMarked, unmarked, IsAnew, Grew}

-- ---- lists

only : {X : Type 0} (x y : X) → Contains (x ∷ []) y → x ≡ y
only x y (zero, few, is) = is
only x y (suc k, few, is) = absurd (omega (arith, few))

itself : {X : Type 0} (x : X) → Contains (x ∷ []) x
itself x = (0, omega arith, refl)

none : {X : Type 0} (y : X) → Contains [] y → ⊥
none y (k, few, is) = absurd (omega (arith, few))

in_range : (marks : List Bool) (n : ℕ) → get_or marks n false ≡ true → n < length marks
in_range [] n h = absurd cc
in_range (mark ∷ marks) zero h = omega arith
in_range (mark ∷ marks) (suc n) h = let more = in_range marks n h in omega (arith, more)

pub new_in_range : (marks : List Bool) (n : ℕ) → get_or marks n true ≡ false → n < length marks
new_in_range [] n h = absurd cc
new_in_range (mark ∷ marks) zero h = omega arith
new_in_range (mark ∷ marks) (suc n) h = let more = new_in_range marks n h in omega (arith, more)

-- one mark more leaves one number less
one_less : (marks : List Bool) (n : ℕ) → get_or marks n true ≡ false →
    unmarked (set marks n true) + 1 ≡ unmarked marks
one_less [] n h = absurd cc
one_less (true ∷ marks) zero h = absurd cc
one_less (false ∷ marks) zero h = omega arith
one_less (true ∷ marks) (suc n) h = one_less marks n h
one_less (false ∷ marks) (suc n) h = let less = one_less marks n h in omega (arith, less)

-- ---- one number

module _ (old new : Search) (n : ℕ) where
  pub grew_one : get_or old.marks.items n true ≡ false → new.marks.items
      ≡ set old.marks.items n true → new.found.items ≡ old.found.items ++ n ∷ [] →
      Grew old new (n ∷ [])
  grew_one fresh marks found =
      let few = new_in_range old.marks.items n fresh in
      let now : IsMarked new n = ap (λ ms. get_or ms n false) marks
      ∙ get_or-set_same old.marks.items n true false few in
      let other : (i : ℕ) → i ≢ n → get_or new.marks.items i false
      ≡ get_or old.marks.items i false = λ i no. ap (λ ms. get_or ms i false) marks
      ∙ get_or-set_other old.marks.items n i true false no in
      record {
        more = n ∷ [];
        found = found;
        level = ap length marks ∙ length-set old.marks.items n true;
        kept = λ i m. ⊎_elim (λ (e : i ≡ n). subst (IsMarked new) (sym e) now)
            (λ no. other i no ∙ m) (cases_eq i n);
        fresh = λ i m. ⊎_elim (λ (e : i ≡ n). inr (
          subst (Contains (n ∷ [])) (sym e) (itself n),
          subst (Contains (n ∷ [])) (sym e) (itself n),
        )) (λ no. inl (sym (other i no) ∙ m))
            (cases_eq i n);
        listed = λ i here. subst (IsMarked new) (only n i here) now;
        each = λ i here few. subst (IsMarked new) (only n i here) now;
        spent = ap (λ ms. unmarked ms + 1) marks ∙ one_less old.marks.items n fresh;
      }

pub grew_none : (search : Search) (n : ℕ) → get_or search.marks.items n true ≡ true →
    Grew search search (n ∷ [])
grew_none search n old = record {
  more = [];
  found = sym (append-nil search.found.items);
  level = refl;
  kept = λ i m. m;
  fresh = λ i m. inl m;
  listed = λ i here. absurd (none i here);
  each = λ i here few. subst (IsMarked search) (only n i here)
      (get_or_default search.marks.items n false true
      (subst (λ (k : ℕ). k < length search.marks.items) (sym (only n i here)) few) ∙ old);
  spent = omega arith;
}

-- ---- several numbers

pub grew_nothing : (search : Search) → Grew search search []
grew_nothing search = record {
  more = [];
  found = sym (append-nil search.found.items);
  level = refl;
  kept = λ i m. m;
  fresh = λ i m. inl m;
  listed = λ i here. absurd (none i here);
  each = λ i here few. absurd (none i here);
  spent = omega arith;
}

pub grew_more : (a b c : Search) (xs ys : List ℕ) → Grew a b xs → Grew b c ys → Grew a c (xs ++ ys)
grew_more a b c xs ys p q = record {
  more = p.more ++ q.more;
  found = q.found ∙ ap (λ (f : List ℕ). f ++ q.more) p.found
      ∙ append_assoc a.found.items p.more q.more;
  level = q.level ∙ p.level;
  kept = λ i m. q.kept i (p.kept i m);
  fresh = λ i m. ⊎_elim
      (λ before. ⊎_elim (λ older. inl older)
      (λ here. inr (
        Contains-append_left p.more q.more i here.0,
        Contains-append_left xs ys i here.1,
      )) (p.fresh i before))
      (λ here. inr (
        Contains-append_right p.more q.more i here.0,
        Contains-append_right xs ys i here.1,
      ))
      (q.fresh i m);
  listed = λ i here. ⊎_elim (λ l. q.kept i (p.listed i l)) (λ r. q.listed i r)
      (Contains-append_cases p.more q.more i here);
  each = λ i here few. ⊎_elim (λ l. q.kept i (p.each i l few))
      (λ r. q.each i r (let e = p.level in omega (arith, few, e)))
      (Contains-append_cases xs ys i here);
  spent = let u = p.spent in let v = q.spent in let l = length-append p.more q.more
      in omega (arith, u, v, l);
}

pub grew_next : (a b c : Search) (numbers : List ℕ) (i d : ℕ) → i < length numbers →
    Grew a b (take i numbers) → Grew b c (get_or numbers i d ∷ []) →
    Grew a c (take (i + 1) numbers)
grew_next a b c numbers i d few p q =
    subst (Grew a c) (sym (take_more numbers i d few))
    (grew_more a b c (take i numbers) (get_or numbers i d ∷ []) p q)

-- ---- the whole search

reach_begun : (graph : List (List ℕ)) (begin : List ℕ) (n : ℕ) → Contains begin n →
    IsReached graph begin n
reach_begun graph begin n here = λ has closed. closed.begins n here

reach_more : (graph : List (List ℕ)) (begin : List ℕ) (n m : ℕ) → IsReached graph begin n →
    Contains (targets graph n) m → IsReached graph begin m
reach_more graph begin n m reached here = λ has closed. closed.leads n m (reached has closed) here

pub record Searching (graph : List (List ℕ)) (begin : List ℕ) (search : Search) (at : ℕ) :
    Type 0 where
  pub level : length search.marks.items ≡ length graph
  pub within : at ≤ length search.found.items
  pub sound : (n : ℕ) → IsMarked search n → IsReached graph begin n
  pub listed : (n : ℕ) → Contains search.found.items n → IsMarked search n
  pub all : (n : ℕ) → IsMarked search n → Contains search.found.items n
  pub begun : (n : ℕ) → Contains begin n → n < length graph → IsMarked search n
  pub done : (n m : ℕ) → Contains (take at search.found.items) n → Contains (targets graph n) m →
      m < length graph → IsMarked search m

no_mark : (size n : ℕ) → get_or (replicate size false) n false ≡ true → ⊥
no_mark zero n h = absurd cc
no_mark (suc size) zero h = absurd cc
no_mark (suc size) (suc n) h = no_mark size n h

length-replicated : (size : ℕ) → length (replicate size false) ≡ size
length-replicated zero = refl
length-replicated (suc size) = ap suc (length-replicated size)

pub searching_begins : (graph : List (List ℕ)) (begin : List ℕ) (anew search : Search) →
    IsAnew anew (length graph) → Grew anew search begin → Searching graph begin search 0
searching_begins graph begin anew search new grew =
    let old : (n : ℕ) → IsMarked anew n → ⊥ =
    λ n m. no_mark (length graph) n (sym (ap (λ ms. get_or ms n false) new.marks) ∙ m) in
    let size : length anew.marks.items ≡ length graph = ap length new.marks
    ∙ length-replicated (length graph) in
    let found : search.found.items ≡ grew.more =
    grew.found ∙ ap (λ (f : List ℕ). f ++ grew.more) new.found in
    record {
      level = grew.level ∙ size;
      within = omega arith;
      sound = λ n m. ⊎_elim (λ o. absurd (old n o)) (λ here. reach_begun graph begin n here.1)
          (grew.fresh n m);
      listed = λ n here. grew.listed n (subst (λ (f : List ℕ). Contains f n) found here);
      all = λ n m. ⊎_elim (λ o. absurd (old n o))
          (λ here. subst (λ (f : List ℕ). Contains f n) (sym found) here.0) (grew.fresh n m);
      begun = λ n here few. grew.each n here (omega (arith, few, size));
      done = λ n m here to few. absurd (none n here);
    }

pub found_in_range : (graph : List (List ℕ)) (begin : List ℕ) (search : Search) (at n : ℕ) →
    Searching graph begin search at → at < length search.found.items →
    n ≡ get_or search.found.items at n → n < length graph
found_in_range graph begin search at n s few is =
    let range = in_range search.marks.items n (s.listed n (at, few, sym is)) in
    let e = s.level in omega (arith, range, e)

pub searching_more : (graph : List (List ℕ)) (begin : List ℕ) (old new : Search) (at n : ℕ) →
    Searching graph begin old at → at < length old.found.items → n ≡ get_or old.found.items at n →
    Grew old new (targets graph n) → Searching graph begin new (at + 1)
searching_more graph begin old new at n s few is grew =
    let size = length-append old.found.items grew.more in
    let longer : length new.found.items ≡ length old.found.items + length grew.more =
    ap length grew.found ∙ size in
    let front : take (at + 1) new.found.items ≡ take at old.found.items ++ n ∷ [] =
    ap (take (at + 1)) grew.found
    ∙ take-append-le (at + 1) old.found.items grew.more (omega (arith, few))
    ∙ take_more old.found.items at n few
    ∙ ap (λ k. take at old.found.items ++ k ∷ []) (sym is) in
    record {
      level = grew.level ∙ s.level;
      within = omega (arith, few, longer);
      sound = λ i m. ⊎_elim (λ o. s.sound i o)
          (λ here. reach_more graph begin n i (s.sound n (s.listed n (at, few, sym is))) here.1)
          (grew.fresh i m);
      listed = λ i here. ⊎_elim (λ l. grew.kept i (s.listed i l)) (λ r. grew.listed i r)
          (Contains-append_cases old.found.items grew.more i
          (subst (λ (f : List ℕ). Contains f i) grew.found here));
      all = λ i m. subst (λ (f : List ℕ). Contains f i) (sym grew.found)
          (⊎_elim (λ o. Contains-append_left old.found.items grew.more i (s.all i o))
          (λ here. Contains-append_right old.found.items grew.more i here.0) (grew.fresh i m));
      begun = λ i here small. grew.kept i (s.begun i here small);
      done = λ i m here to small. ⊎_elim
          (λ l. grew.kept m (s.done i m l to small))
          (λ r. grew.each m (subst (λ (k : ℕ). Contains (targets graph k) m) (sym (only n i r))
          to) (let e = s.level in omega (arith, small, e)))
          (Contains-append_cases (take at old.found.items) (n ∷ []) i
          (subst (λ (f : List ℕ). Contains f i) front here));
    }

-- numbers beyond the graph lead nowhere, so they may count as found
or_beyond : Search → ℕ → Bool
or_beyond search n = get_or search.marks.items n true

closed_beyond : (graph : List (List ℕ)) (begin : List ℕ) (search : Search) (at : ℕ) →
    Searching graph begin search at → length search.found.items ≤ at →
    IsClosed graph begin (λ n. get_or search.marks.items n true)
closed_beyond graph begin search at s over =
    let level = s.level in
    let has : (n : ℕ) → (n < length graph → IsMarked search n) → get_or search.marks.items n true
    ≡ true =
    λ n marked. ⊎_elim
    (λ (few : n < length graph). let f : n < length search.marks.items = omega (arith, few, level)
    in get_or_default search.marks.items n true false f ∙ marked few)
    (λ (past : length graph ≤ n). get_or_past search.marks.items n true
    (omega (arith, past, level)))
    (cases_lt n (length graph)) in
    record {
      begins = λ n here. has n (λ few. s.begun n here few);
      leads = λ n m h to. has m (λ small.
          ⊎_elim
          (λ (few : n < length graph).
          let f : n < length search.marks.items = omega (arith, few, level) in
          let marked : IsMarked search n = get_or_default search.marks.items n false true f ∙ h in
          let whole : take at search.found.items ≡ search.found.items =
          take_all at search.found.items over in
          s.done n m (subst (λ (l : List ℕ). Contains l n) (sym whole) (s.all n marked)) to small)
          (λ (past : length graph ≤ n). absurd
          (none m (subst (λ (l : List ℕ). Contains l m) (get_or_past graph n [] past) to)))
          (cases_lt n (length graph)));
    }

pub searched : (graph : List (List ℕ)) (begin : List ℕ) (search : Search) (at : ℕ) →
    Searching graph begin search at → length search.found.items ≤ at → (n : ℕ) →
    n < length graph → IsReached graph begin n → IsMarked search n
searched graph begin search at s over n few reached =
    let level = s.level in
    let f : n < length search.marks.items = omega (arith, few, level) in
    get_or_default search.marks.items n false true f
    ∙ reached (λ k. get_or search.marks.items k true)
    (closed_beyond graph begin search at s over)
