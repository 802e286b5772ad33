-- Lists of keys and of beginnings.
use Rattle.std.proofs.Common.{◌≡◌, refl, ◌∙◌, ap, Bool, true, false, List, [], ◌∷◌, ◌++◌}
use Rattle.std.specs.Prelude.{if◌then◌else◌}
use Rattle.java_grammar.specs.Marks.{Mark}
use Rattle.productions.specs.Keys.{Key, here, Stops, Begin, may, has, apart}
use Rattle.productions.specs.Productions.{Production, only_if}
use Rattle.productions.specs.Laws.{Law}

pub if_false : (b c : Bool) → (if b then true else c) ≡ false → (b ≡ false) × (c ≡ false)
if_false true c e = absurd cc
if_false false c e = (refl, e)

if_true : (b c : Bool) → (if b then false else c) ≡ true → (b ≡ false) × (c ≡ true)
if_true true c e = absurd cc
if_true false c e = (refl, e)

pub has_append : (a b : List Begin) (k : Key) → has (a ++ b) k ≡ false
    → (has a k ≡ false) × (has b k ≡ false)
has_append [] b k e = (refl, e)
has_append (j ∷ a) b k e =
    let f = if_false (may j k) (has (a ++ b) k) e in
    let g = has_append a b k f.1 in
    (ap (λ c. if c then true else has a k) f.0 ∙ g.0, g.1)

pub stops_append : (a b : List Key) (left : List Mark) → Stops (a ++ b) left
    → Stops a left × Stops b left
stops_append [] b left s = (tt, s)
stops_append (k ∷ a) b left s = let t = stops_append a b left s.1 in ((s.0, t.0), t.1)

pub has_only_if : (e : Bool) (begins : List Begin) (k : Key) → has (only_if e begins) k ≡ false
    → e ≡ true → has begins k ≡ false
has_only_if true begins k h e = h
has_only_if false begins k h e = absurd cc

pub stops_only_if : (e : Bool) (keys : List Key) (left : List Mark) → Stops (only_if e keys) left
    → e ≡ true → Stops keys left
stops_only_if true keys left s e = s
stops_only_if false keys left s e = absurd cc

pub both_empty : (a b : Bool) → a ≡ true → b ≡ true → (if a then b else false) ≡ true
both_empty true b x y = y
both_empty false b x y = absurd cc

-- no key that goes on with the first begins the second
pub stops_before : {B : Type 0} {b : Production B} (law : Law b) (goes : List Key)
    → apart goes b.begins ≡ true
    → (y : B) (text left : List Mark) → b.Spells y text → Stops b.goes left
    → (b.empty ≡ true → Stops goes left) → Stops goes (text ++ left)
stops_before law [] e y text left s stops f = tt
stops_before {b = b} law (k ∷ goes) e y text left s stops f =
    let g = if_true (has b.begins k) (apart goes b.begins) e in (
      law.first y text left k s stops g.0 (λ h. (f h).0),
      stops_before law goes g.1 y text left s stops (λ h. (f h).1),
    )

-- none of these comes next, as a test
abbrev pub none_here : List Key → List Mark → Bool
none_here [] text = true
none_here (k ∷ keys) text = if here k text then false else none_here keys text

pub stops_by : (keys : List Key) (text : List Mark) → none_here keys text ≡ true → Stops keys text
stops_by [] text e = tt
stops_by (k ∷ keys) text e =
    let f = if_true (here k text) (none_here keys text) e in (f.0, stops_by keys text f.1)
