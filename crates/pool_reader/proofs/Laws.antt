-- What it is for a reader to read just what a relation spells, and how such readers are put
-- together.
use Rattle.std.proofs.Common.{◌⊎◌, ◌≡◌, ℕ, zero, suc, ◌+◌, ◌-◌, ◌<◌, ◌≤◌, Bool, true, false}
use Rattle.std.proofs.Common.{true≢false, cond}
use Rattle.std.proofs.Common.{List, [], ◌∷◌, ◌++◌, length, get_or, Result, Ok, Err, refl, sym, ap}
use Rattle.std.proofs.Common.{subst, ◌∙◌, append_assoc, append-nil, arith, inl, inr}
use Rattle.std.specs.List.{flat_map, AllByRecursion}
use Rattle.std.proofs.lemmas.List.Concat.{flat_map-cons}
use Rattle.class_desc.specs.Items.{EachSpells}
use Rattle.class_desc.specs.Texts.{total}
use Rattle.pool_reader.specs.declared.fault.ClassFault.{ClassFault}
use Rattle.pool_reader.specs.Reading.{AreBytes, ◌>>=◌, Position, leaving, left_with, start, Read}
use Rattle.pool_reader.specs.Reading.{times, pass_all}

abbrev pub IsBytes : List ℕ → Type 0
IsBytes bytes = (i : ℕ) → get_or bytes i 0 < 256

pub from_AreBytes : (bytes : List ℕ) → AreBytes bytes → IsBytes bytes
from_AreBytes [] fits i = omega arith
from_AreBytes (b ∷ bytes) fits zero = fits.0
from_AreBytes (b ∷ bytes) fits (suc i) = from_AreBytes bytes fits.1 i

-- The bytes here begin with a text that spells the item, and the others are left. Of the room for
-- texts the item's weight is gone, but for the part of it that was gone before.
pub record Takes {A : Type 0} (before : ℕ) (weight : A → ℕ) (Spells : A → List ℕ → Type 0)
    (p : Position) (item : A) (left : Position) : Type 0 where
  pub text : List ℕ
  pub parts : p.rest ≡ text ++ left.rest
  pub stays : left ≡ left_with p left.rest left.spare
  pub spent : p.spare + before ≡ left.spare + weight item
  pub left_fits : IsBytes left.rest
  pub spells : Spells item text

-- What the reader reads is spelled, and what is spelled the reader reads, whatever follows, where
-- there is room for its texts. An item has a weight, of which a part was counted before.
pub record Weighs {A : Type 0} (before : ℕ) (weight : A → ℕ) (read : Position → Read A)
    (Spells : A → List ℕ → Type 0) : Type 0 where
  pub takes : (p : Position) (item : A) (left : Position)
      → IsBytes p.rest
      → read p ≡ Ok (item, left)
      → Takes before weight Spells p item left
  pub again : (p : Position) (item : A) (text left : List ℕ) (spare : ℕ)
      → Spells item text
      → p.spare + before ≡ spare + weight item
      → read (leaving p (text ++ left)) ≡ Ok (item, left_with p left spare)
  pub more : (item : A) (text : List ℕ) → Spells item text → before ≤ weight item

-- an item without texts
abbrev pub weightless : {A : Type 0} → A → ℕ
weightless item = 0

-- the same of a reader that names no texts
abbrev pub Reads : {A : Type 0} → (Position → Read A) → (A → List ℕ → Type 0) → Type 0
Reads read Spells = Weighs 0 weightless read Spells

-- ---- readers that name no texts, without their room

-- the bytes here begin with a text that spells the item, and the others are left
pub record Plainly {A : Type 0} (Spells : A → List ℕ → Type 0) (p : Position) (item : A)
    (left : Position) : Type 0 where
  pub text : List ℕ
  pub parts : p.rest ≡ text ++ left.rest
  pub stays : left ≡ leaving p left.rest
  pub left_fits : IsBytes left.rest
  pub spells : Spells item text

module _ {A : Type 0} {read : Position → Read A} {Spells : A → List ℕ → Type 0} where
  pub reads_plainly : ((p : Position) (item : A) (left : Position)
      → IsBytes p.rest
      → read p ≡ Ok (item, left)
      → Plainly Spells p item left)
      → ((p : Position) (item : A) (text left : List ℕ)
      → Spells item text
      → read (leaving p (text ++ left)) ≡ Ok (item, leaving p left))
      → Reads read Spells
  reads_plainly takes again = record {
    takes = λ p item left fits e.
        let t = takes p item left fits e in
        let spare : left.spare ≡ p.spare = ap (λ (q : Position). q.spare) t.stays in
        record {
          text = t.text;
          parts = t.parts;
          stays = t.stays ∙ ap (λ n. left_with p left.rest n) (sym spare);
          spent = ap (λ n. n + 0) (sym spare);
          left_fits = t.left_fits;
          spells = t.spells;
        };
    again = λ p item text left spare s spent.
        let same : p.spare ≡ spare = omega (arith, spent) in
        again p item text left s
        ∙ ap (λ n. ok_at item (left_with p left n)) same;
    more = λ item text s. omega arith;
  }
    where
      ok_at : A → Position → Read A
      ok_at item left = Ok (item, left)

  pub takes_plainly : Reads read Spells → (p : Position) (item : A) (left : Position)
      → IsBytes p.rest
      → read p ≡ Ok (item, left)
      → Plainly Spells p item left
  takes_plainly law p item left fits e =
      let t = law.takes p item left fits e in
      let spare : left.spare ≡ p.spare = omega (arith, t.spent) in
      record {
        text = t.text;
        parts = t.parts;
        stays = t.stays ∙ ap (λ n. left_with p left.rest n) spare;
        left_fits = t.left_fits;
        spells = t.spells;
      }

  pub again_plainly : Reads read Spells → (p : Position) (item : A) (text left : List ℕ)
      → Spells item text
      → read (leaving p (text ++ left)) ≡ Ok (item, leaving p left)
  again_plainly law p item text left s = law.again p item text left p.spare s refl

-- the value of a step that did not fail
pub bind_ok : {A B : Type 0} (r : Result A ClassFault) (f : A → Result B ClassFault) (y : B)
    → (r >>= f) ≡ Ok y
    → (x : A) × (r ≡ Ok x) × (f x ≡ Ok y)
bind_ok (Ok x) f y e = (x, refl, e)
bind_ok (Err d) f y e = absurd cc

abbrev done : {A : Type 0} → A → Result A ClassFault
done x = Ok x

pub ok_is : {A : Type 0} (x y : A) → done x ≡ done y → x ≡ y
ok_is x y e = cc

-- the same, where as much was counted before
pub counted_before : {A : Type 0} {before other : ℕ} {weight : A → ℕ} {read : Position → Read A}
    {Spells : A → List ℕ → Type 0}
    → before ≡ other
    → Weighs before weight read Spells
    → Weighs other weight read Spells
counted_before {weight} {read} {Spells} same law =
    subst (λ (n : ℕ). Weighs n weight read Spells) same law

-- ---- the same items, of which a relation says the same in other words
pub reads_as : {A : Type 0} {before : ℕ} {weight : A → ℕ} {read : Position → Read A}
    {Spells : A → List ℕ → Type 0}
    (Says : A → List ℕ → Type 0)
    → Weighs before weight read Spells
    → ((item : A) (text : List ℕ) → Spells item text → Says item text)
    → ((item : A) (text : List ℕ) → Says item text → Spells item text)
    → Weighs before weight read Says
reads_as Says law to from = record {
  takes = λ p item left fits e.
      let t = law.takes p item left fits e in
      record {
        text = t.text;
        parts = t.parts;
        stays = t.stays;
        spent = t.spent;
        left_fits = t.left_fits;
        spells = to item t.text t.spells;
      };
  again = λ p item text left spare s spent.
      law.again p item text left spare (from item text s) spent;
  more = λ item text s. law.more item text (from item text s);
}

-- ---- a reader that gives what another gives
pub reads_same : {A : Type 0} {before : ℕ} {weight : A → ℕ} {read other : Position → Read A}
    {Spells : A → List ℕ → Type 0}
    → ((p : Position) → read p ≡ other p)
    → Weighs before weight other Spells
    → Weighs before weight read Spells
reads_same same law = record {
  takes = λ p item left fits e. law.takes p item left fits (sym (same p) ∙ e);
  again = λ p item text left spare s spent.
      same (leaving p (text ++ left)) ∙ law.again p item text left spare s spent;
  more = law.more;
}

-- a step of a row within a row is a step of the whole row
pub regrouped_step : {A B C : Type 0} (r : Result A ClassFault) (f : A → Result B ClassFault)
    (g : B → Result C ClassFault) (h : A → Result C ClassFault)
    → ((x : A) → (f x >>= g) ≡ h x)
    → ((r >>= f) >>= g) ≡ (r >>= h)
regrouped_step (Ok x) f g h same = same x
regrouped_step (Err fault) f g h same = refl

-- ---- nothing is read

abbrev pub Given : {A : Type 0} → A → A → List ℕ → Type 0
Given made item text = (made ≡ item) × (text ≡ [])

-- all of the item's weight was counted before
pub weighs_given : {A : Type 0} {before : ℕ} {weight : A → ℕ} (made : A)
    → before ≡ weight made
    → Weighs before weight (λ p. Ok (made, p)) (Given made)
weighs_given {A} {before} {weight} made all = record {
  takes = λ p item left fits e.
      let is = ok_is (made, p) (item, left) e in
      let same : p ≡ left = ap (λ (x : A × Position). x.1) is in
      let made_is : made ≡ item = ap (λ (x : A × Position). x.0) is in
      subst (λ (q : Position). Takes before weight (Given made) p item q) same (record {
        text = [];
        parts = refl;
        stays = refl;
        spent = ap (λ n. p.spare + n) (all ∙ ap weight made_is);
        left_fits = fits;
        spells = (made_is, refl);
      });
  again = λ p item text left spare s spent.
      let counted : before ≡ weight item = all ∙ ap weight s.0 in
      let same : p.spare ≡ spare = omega (arith, spent, counted) in
      rw (s.0, s.1, same) refl;
  more = λ item text s.
      let counted : before ≡ weight item = all ∙ ap weight s.0 in
      omega (arith, counted);
}

pub reads_given : {A : Type 0} (made : A) → Reads (λ p. Ok (made, p)) (Given made)
reads_given made = weighs_given made refl

-- ---- one item, and then another that may depend on it

pub record Then {A B : Type 0} (First : A → List ℕ → Type 0) (Second : A → B → List ℕ → Type 0)
    (last : B) (text : List ℕ) : Type 0 where
  pub item : A
  pub front : List ℕ
  pub rest : List ℕ
  pub whole : text ≡ front ++ rest
  pub first : First item front
  pub second : Second item last rest

-- the text of both
pub joined : {A B : Type 0} {First : A → List ℕ → Type 0} {Second : A → B → List ℕ → Type 0}
    {last : B} {text x y : List ℕ} (s : Then First Second last text)
    → s.front ≡ x
    → s.rest ≡ y
    → text ≡ x ++ y
joined {x} s front rest =
    s.whole ∙ ap (λ (t : List ℕ). t ++ s.rest) front ∙ ap (λ (t : List ℕ). x ++ t) rest

-- where nothing stands behind the first
pub alone : {A B : Type 0} {First : A → List ℕ → Type 0} {Second : A → B → List ℕ → Type 0}
    {last : B} {text x : List ℕ} (s : Then First Second last text)
    → s.front ≡ x
    → s.rest ≡ []
    → text ≡ x
alone {x} s front rest = joined s front rest ∙ append-nil x

-- ---- an item made of the one that is read

pub record Made {A B : Type 0} (make : A → B) (Spells : A → List ℕ → Type 0) (made : B)
    (text : List ℕ) : Type 0 where
  pub item : A
  pub is : make item ≡ made
  pub spells : Spells item text

-- the weight of the item that is made has what was counted before, and that of the one it is made of
pub weighs_made : {A B : Type 0} {before : ℕ} {own : A → ℕ} {weight : B → ℕ}
    {read : Position → Read A} {Spells : A → List ℕ → Type 0} (make : A → B)
    → ((item : A) → before + own item ≡ weight (make item))
    → Weighs 0 own read Spells
    → Weighs before weight (λ p. read p >>= λ x. Ok (make x.0, x.1)) (Made make Spells)
weighs_made {A} {B} {before} {own} {weight} {read} {Spells} make sum law = record {
  takes = λ p made left fits e.
      let b = bind_ok (read p) (λ x. Ok (make x.0, x.1)) (made, left) e in
      let t = law.takes p b.0.0 b.0.1 fits b.1 in
      let is = ok_is (make b.0.0, b.0.1) (made, left) b.2 in
      let same : b.0.1 ≡ left = ap (λ (x : B × Position). x.1) is in
      let made_is : make b.0.0 ≡ made = ap (λ (x : B × Position). x.0) is in
      let weight_is : before + own b.0.0 ≡ weight made = sum b.0.0 ∙ ap weight made_is in
      subst (λ (q : Position). Takes before weight (Made make Spells) p made q) same (record {
        text = t.text;
        parts = t.parts;
        stays = t.stays;
        spent = omega (arith, t.spent, weight_is);
        left_fits = t.left_fits;
        spells = record { item = b.0.0; is = made_is; spells = t.spells };
      });
  again = λ p made text left spare s spent.
      let weight_is : before + own s.item ≡ weight made = sum s.item ∙ ap weight s.is in
      ap (λ (r : Read A). r >>= λ x. Ok (make x.0, x.1))
      (law.again p s.item text left spare s.spells (omega (arith, spent, weight_is)))
      ∙ ap (λ (m : B). done (m, left_with p left spare)) s.is;
  more = λ made text s.
      let weight_is : before + own s.item ≡ weight made = sum s.item ∙ ap weight s.is in
      omega (arith, weight_is);
}

pub reads_made : {A B : Type 0} {read : Position → Read A} {Spells : A → List ℕ → Type 0}
    (make : A → B)
    → Reads read Spells
    → Reads (λ p. read p >>= λ x. Ok (make x.0, x.1)) (Made make Spells)
reads_made make law = weighs_made make (λ item. refl) law

-- The item that is made, and then one that depends on what it is made of. The weight of the first
-- was counted before the second.
pub weighs_then_of : {A B C : Type 0} {before : ℕ} {own : B → ℕ} {weight : C → ℕ}
    {read : Position → Read B} {make : A → B}
    {First : A → List ℕ → Type 0} {Second : A → C → List ℕ → Type 0}
    (next : Position → B → Position → Read C)
    → Weighs 0 own read (Made make First)
    → ((begun : Position) (item : A)
    → Weighs (before + own (make item)) weight (next begun (make item)) (Second item))
    → Weighs before weight (λ p. read p >>= λ x. next p x.0 x.1) (Then First Second)
weighs_then_of {A} {B} {C} {before} {own} {weight} {read} {make} {First} {Second} next one two =
    record {
      takes = λ p last left fits e.
          let b = bind_ok (read p) (λ x. next p x.0 x.1) (last, left) e in
          let t = one.takes p b.0.0 b.0.1 fits b.1 in
          let m = t.spells in
          let of_made : next p (make m.item) b.0.1 ≡ Ok (last, left) =
          ap (λ (k : B). next p k b.0.1) m.is ∙ b.2 in
          let u = (two p m.item).takes b.0.1 last left t.left_fits of_made in
          let own_is : own (make m.item) ≡ own b.0.0 = ap own m.is in
          record {
            text = t.text ++ u.text;
            parts = t.parts ∙ ap (λ (more : List ℕ). t.text ++ more) u.parts
                ∙ sym (append_assoc t.text u.text left.rest);
            stays = u.stays
                ∙ ap (λ (q : Position). left_with q left.rest left.spare) t.stays;
            spent = omega (arith, t.spent, u.spent, own_is);
            left_fits = u.left_fits;
            spells = record {
              item = m.item;
              front = t.text;
              rest = u.text;
              whole = refl;
              first = m.spells;
              second = u.spells;
            };
          };
      again = λ p last text left spare s spent.
          let begun = leaving p (text ++ left) in
          let regrouped : text ++ left ≡ s.front ++ (s.rest ++ left) =
          ap (λ (t : List ℕ). t ++ left) s.whole ∙ append_assoc s.front s.rest left in
          let spelled : Made make First (make s.item) s.front =
          record { item = s.item; is = refl; spells = s.first } in
          let enough : before + own (make s.item) ≤ weight last =
          (two begun s.item).more last s.rest s.second in
          let middle = p.spare - own (make s.item) in
          let q = left_with p (s.rest ++ left) middle in
          let one_is : read begun ≡ Ok (make s.item, q) =
          ap (λ (t : List ℕ). read (leaving p t)) regrouped
          ∙ one.again p (make s.item) s.front (s.rest ++ left) middle spelled
          (omega (arith, spent, enough)) in
          ap (λ (r : Read B). r >>= λ x. next begun x.0 x.1) one_is
          ∙ (two begun s.item).again q last s.rest left spare s.second
          (omega (arith, spent, enough));
      more = λ last text s.
          let enough : before + own (make s.item) ≤ weight last =
          (two (start []) s.item).more last s.rest s.second in
          omega (arith, enough);
    }

pub weighs_then : {A B : Type 0} {before : ℕ} {own : A → ℕ} {weight : B → ℕ}
    {read : Position → Read A} {First : A → List ℕ → Type 0}
    {Second : A → B → List ℕ → Type 0}
    (next : Position → A → Position → Read B)
    → Weighs 0 own read First
    → ((begun : Position) (item : A)
    → Weighs (before + own item) weight (next begun item) (Second item))
    → Weighs before weight (λ p. read p >>= λ x. next p x.0 x.1) (Then First Second)
weighs_then {A} {B} {own} {read} {First} {Second} next one two =
    weighs_then_of {own = own} {make = λ (x : A). x} next
    (reads_as (Made (λ (x : A). x) First) one
    (λ item text s. record { item = item; is = refl; spells = s })
    (λ item text m. subst (λ (x : A). First x text) m.is m.spells))
    two

-- the first names no texts
pub reads_then_of : {A B C : Type 0} {before : ℕ} {weight : C → ℕ} {read : Position → Read B}
    {make : A → B}
    {First : A → List ℕ → Type 0} {Second : A → C → List ℕ → Type 0}
    (next : Position → B → Position → Read C)
    → Reads read (Made make First)
    → ((begun : Position) (item : A)
    → Weighs before weight (next begun (make item)) (Second item))
    → Weighs before weight (λ p. read p >>= λ x. next p x.0 x.1) (Then First Second)
reads_then_of {before} {make} next one two =
    weighs_then_of {own = weightless} {make = make} next one
    (λ begun item. counted_before (omega arith) (two begun item))

pub reads_then : {A B : Type 0} {before : ℕ} {weight : B → ℕ} {read : Position → Read A}
    {First : A → List ℕ → Type 0}
    {Second : A → B → List ℕ → Type 0}
    (next : Position → A → Position → Read B)
    → Reads read First
    → ((begun : Position) (item : A) → Weighs before weight (next begun item) (Second item))
    → Weighs before weight (λ p. read p >>= λ x. next p x.0 x.1) (Then First Second)
reads_then {before} next one two =
    weighs_then {own = weightless} next one
    (λ begun item. counted_before (omega arith) (two begun item))

-- ---- a check that takes no bytes, and then an item

pub record Checked {A B : Type 0} (check : Result A ClassFault) (Second : A → B → List ℕ → Type 0)
    (last : B) (text : List ℕ) : Type 0 where
  pub item : A
  pub passed : check ≡ Ok item
  pub second : Second item last text

pub reads_checked : {A B : Type 0} {before : ℕ} {weight : B → ℕ}
    {Second : A → B → List ℕ → Type 0} (check : Result A ClassFault)
    (next : A → Position → Read B)
    → ((item : A) → Weighs before weight (next item) (Second item))
    → Weighs before weight (λ p. check >>= λ x. next x p) (Checked check Second)
reads_checked {A} {B} check next two = record {
  takes = λ p last left fits e.
      let b = bind_ok check (λ x. next x p) (last, left) e in
      let u = (two b.0).takes p last left fits b.2 in
      record {
        text = u.text;
        parts = u.parts;
        stays = u.stays;
        spent = u.spent;
        left_fits = u.left_fits;
        spells = record { item = b.0; passed = b.1; second = u.spells };
      };
  again = λ p last text left spare s spent.
      ap (λ (r : Result A ClassFault). r >>= λ x. next x (leaving p (text ++ left))) s.passed
      ∙ (two s.item).again p last text left spare s.second spent;
  more = λ last text s. (two s.item).more last text s.second;
}

-- ---- a test, and an item on each side

abbrev pub Either : {A : Type 0} → Bool → (A → List ℕ → Type 0) → (A → List ℕ → Type 0) → A
    → List ℕ → Type 0
Either test Yes No item text = (test ≡ true) × Yes item text ⊎ (test ≡ false) × No item text

of_true : {A : Type 0} (One Two : A → List ℕ → Type 0) (item : A) (text : List ℕ)
    → Either true One Two item text
    → One item text
of_true One Two item text (inl s) = s.1
of_true One Two item text (inr s) = absurd (true≢false s.0)

of_false : {A : Type 0} (One Two : A → List ℕ → Type 0) (item : A) (text : List ℕ)
    → Either false One Two item text
    → Two item text
of_false One Two item text (inl s) = absurd (true≢false (sym s.0))
of_false One Two item text (inr s) = s.1

pub reads_if : {A : Type 0} {before : ℕ} {weight : A → ℕ} (test : Bool)
    {one two : Position → Read A}
    {One Two : A → List ℕ → Type 0}
    → Weighs before weight one One
    → Weighs before weight two Two
    → Weighs before weight (λ p. cond test (one p) (two p)) (Either test One Two)
reads_if true {one} {two} {One} {Two} first second =
    reads_as (Either true One Two) first (λ item text s. inl (refl, s))
    (λ item text s. of_true One Two item text s)
reads_if false {one} {two} {One} {Two} first second =
    reads_as (Either false One Two) second (λ item text s. inr (refl, s))
    (λ item text s. of_false One Two item text s)

-- a fault: nothing is spelled
abbrev pub Never : {A : Type 0} → A → List ℕ → Type 0
Never item text = ⊥

pub reads_never : {A : Type 0} {before : ℕ} {weight : A → ℕ} (fault : Position → ClassFault)
    → Weighs before weight (λ p. Err (fault p)) Never
reads_never fault = record {
  takes = λ p item left fits e. absurd cc;
  again = λ p item text left spare s spent. absurd s;
  more = λ item text s. absurd s;
}

-- ---- as many items as a count says

pub record Several {A : Type 0} (Spells : A → List ℕ → Type 0) (count : ℕ) (items : List A)
    (text : List ℕ) : Type 0 where
  pub length_is : length items ≡ count
  pub each : EachSpells Spells items text

pub same_after : (m n : ℕ) → suc m ≡ suc n → m ≡ n
same_after m n e = cc

none_read : {A : Type 0} (Spells : A → List ℕ → Type 0) (items : List A) (text : List ℕ)
    → Several Spells 0 items text
    → Given [] items text
none_read Spells [] text s = (refl, s.each)
none_read Spells (item ∷ items) text s = absurd (let h = s.length_is in cc)

one_and : {A : Type 0} (Spells : A → List ℕ → Type 0) (n : ℕ) (items : List A) (text : List ℕ)
    → Several Spells (suc n) items text
    → Then Spells (λ item. Made (λ items. item ∷ items) (Several Spells n)) items text
one_and Spells n [] text s = absurd (let h = s.length_is in cc)
one_and Spells n (item ∷ items) text s = record {
  item = item;
  front = s.each.0;
  rest = s.each.1;
  whole = s.each.2;
  first = s.each.3;
  second = record {
    item = items;
    is = refl;
    spells = record {
      length_is = same_after (length items) n s.length_is;
      each = s.each.4;
    };
  };
}

and_one : {A : Type 0} (Spells : A → List ℕ → Type 0) (n : ℕ) (items : List A) (text : List ℕ)
    → Then Spells (λ item. Made (λ items. item ∷ items) (Several Spells n)) items text
    → Several Spells (suc n) items text
and_one Spells n items text s =
    let others = s.second in
    subst (λ v. Several Spells (suc n) v text) others.is (record {
      length_is = ap suc others.spells.length_is;
      each = (s.front, s.rest, s.whole, s.first, others.spells.each);
    })

pub weighs_times : {A : Type 0} {weight : A → ℕ} {read : Position → Read A}
    {Spells : A → List ℕ → Type 0}
    → Weighs 0 weight read Spells
    → (n : ℕ)
    → Weighs 0 (total weight) (times read n) (Several Spells n)
unfolding times
weighs_times {Spells} law zero =
    reads_as (Several Spells 0) (weighs_given [] refl)
    (λ items text s.
    subst (λ v. Several Spells 0 v text) s.0 (record { length_is = refl; each = s.1 }))
    (none_read Spells)
weighs_times {weight} {read} {Spells} law (suc n) =
    reads_as (Several Spells (suc n))
    (weighs_then
    (λ begun item rest. times read n rest >>= λ items. Ok (item ∷ items.0, items.1))
    law
    (λ begun item.
    weighs_made (λ items. item ∷ items) (λ items. omega arith) (weighs_times law n)))
    (and_one Spells n)
    (one_and Spells n)

-- ---- items that have one text each

abbrev pub Spelled : {A : Type 0} → (A → Type 0) → (A → List ℕ) → A → List ℕ → Type 0
Spelled Fits spell item text = Fits item × (text ≡ spell item)

-- ---- items of which nothing is kept

-- some item has this text
pub record SomeSpelled {A : Type 0} (Fits : A → Type 0) (spell : A → List ℕ) (none : Unit {0})
    (text : List ℕ) : Type 0 where
  pub item : A
  pub fits : Fits item
  pub is : text ≡ spell item

-- some items, as many as that, have this text
pub record AllSpelled {A : Type 0} (Fits : A → Type 0) (spell : A → List ℕ) (count : ℕ)
    (none : Unit {0}) (text : List ℕ) : Type 0 where
  pub items : List A
  pub length_is : length items ≡ count
  pub fits : AllByRecursion Fits items
  pub is : text ≡ flat_map spell items

none_passed : {A : Type 0} (Fits : A → Type 0) (spell : A → List ℕ) (none : Unit {0})
    (text : List ℕ)
    → AllSpelled Fits spell 0 none text
    → Given tt none text
none_passed Fits spell none text s = by s.items s.length_is s.is
  where
    by : (items : List _) → length items ≡ 0 → text ≡ flat_map spell items → Given tt none text
    by [] len is = (refl, is)
    by (item ∷ items) len is = absurd (let h = len in cc)

one_passed : {A : Type 0} (Fits : A → Type 0) (spell : A → List ℕ) (n : ℕ) (none : Unit {0})
    (text : List ℕ)
    → AllSpelled Fits spell (suc n) none text
    → Then (SomeSpelled Fits spell) (λ item. AllSpelled Fits spell n) none text
one_passed Fits spell n none text s = by s.items s.length_is s.fits s.is
  where
    by : (items : List _)
        → length items ≡ suc n
        → AllByRecursion Fits items
        → text ≡ flat_map spell items
        → Then (SomeSpelled Fits spell) (λ item. AllSpelled Fits spell n) none text
    by [] len fits is = absurd (let h = len in cc)
    by (item ∷ items) len fits is = record {
      item = tt;
      front = spell item;
      rest = flat_map spell items;
      whole = is ∙ flat_map-cons spell item items;
      first = record { item = item; fits = fits.0; is = refl };
      second = record {
        items = items;
        length_is = same_after (length items) n len;
        fits = fits.1;
        is = refl;
      };
    }

passed_one : {A : Type 0} (Fits : A → Type 0) (spell : A → List ℕ) (n : ℕ) (none : Unit {0})
    (text : List ℕ)
    → Then (SomeSpelled Fits spell) (λ item. AllSpelled Fits spell n) none text
    → AllSpelled Fits spell (suc n) none text
passed_one Fits spell n none text s =
    let one = s.first in
    let others = s.second in
    record {
      items = one.item ∷ others.items;
      length_is = ap suc others.length_is;
      fits = (one.fits, others.fits);
      is = joined s one.is others.is ∙ sym (flat_map-cons spell one.item others.items);
    }

pub reads_passing : {A : Type 0} {read : Position → Read (Unit {0})} {Fits : A → Type 0}
    {spell : A → List ℕ}
    → Reads read (SomeSpelled Fits spell)
    → (n : ℕ)
    → Reads (pass_all read n) (AllSpelled Fits spell n)
unfolding pass_all
reads_passing {Fits} {spell} law zero =
    reads_as (AllSpelled Fits spell 0) (reads_given tt)
    (λ none text s. record { items = []; length_is = refl; fits = tt; is = s.1 })
    (none_passed Fits spell)
reads_passing {read} {Fits} {spell} law (suc n) =
    reads_as (AllSpelled Fits spell (suc n))
    (reads_then (λ begun item rest. pass_all read n rest) law (λ begun item. reads_passing law n))
    (passed_one Fits spell n)
    (one_passed Fits spell n)
