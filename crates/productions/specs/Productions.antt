-- Productions of the grammar as values: how an item is read, which texts spell it, with what they
-- begin, and what goes on with them.
use Rattle.std.specs.Prelude.{◌≡◌, ℕ, Bool, true, false, if◌then◌else◌, List, [], ◌∷◌, ◌++◌}
use Rattle.std.specs.Prelude.{Option, Some, None}
use Rattle.java_grammar.specs.declared.sign.Sign.{Sign}
use Rattle.java_grammar.specs.Marks.{Mark, Line}
use Rattle.java_grammar.specs.Signs.{sign_part}
use Rattle.java_grammar.specs.Words.{Nothing, ◌⨾◌, Either, Row, Separated, Is}
use Rattle.type_expr_parser.specs.Reading.{Read, found, ◌>>=◌, many, prepended, sign_at}
use Rattle.productions.specs.Keys.{Key, Fixed, here, Begin, With}

pub record Production (A : Type 0) : Type 1 where
  -- what is read, with what is left behind it; at most so many items stand in each other
  pub read : ℕ → List Mark → Read A
  -- which texts spell it
  pub Spells : A → Line
  -- with what these begin
  pub begins : List Begin
  -- what goes on with it
  pub goes : List Key
  -- whether it may be an empty text
  pub empty : Bool

-- ---- a token

abbrev pub a_sign : Sign → Production (Unit {0})
a_sign s = record {
  read = λ n text. sign_at s text;
  Spells = λ u. Is (sign_part s);
  begins = With (sign_part s) ∷ [];
  goes = [];
  empty = false;
}

-- ---- nothing, which is this item

abbrev pub nothing : {A : Type 0} → A → Production A
nothing none = record {
  read = λ n text. found none text;
  Spells = λ y text. (y ≡ none) × Nothing text;
  begins = [];
  goes = [];
  empty = true;
}

-- ---- one behind the other

abbrev pub only_if : {X : Type 0} → Bool → List X → List X
only_if true keys = keys
only_if false keys = []

infixr 5 ◌▸◌
abbrev pub ◌▸◌ : {A B : Type 0} → Production A → Production B → Production (A × B)
a ▸ b = record {
  read = λ n text. a.read n text >>= λ x. b.read n x.1 >>= λ y. found (x.0, y.0) y.1;
  Spells = λ both. a.Spells both.0 ⨾ b.Spells both.1;
  begins = a.begins ++ only_if a.empty b.begins;
  goes = b.goes ++ only_if b.empty a.goes;
  empty = if a.empty then b.empty else false;
}

-- the second, behind what gives nothing
infixr 5 ◌▹◌
abbrev pub ◌▹◌ : {A : Type 0} → Production (Unit {0}) → Production A → Production A
a ▹ b = record {
  read = λ n text. a.read n text >>= λ x. b.read n x.1;
  Spells = λ y. a.Spells tt ⨾ b.Spells y;
  begins = a.begins ++ only_if a.empty b.begins;
  goes = b.goes ++ only_if b.empty a.goes;
  empty = if a.empty then b.empty else false;
}

-- the first, before what gives nothing
infixr 5 ◌◃◌
abbrev pub ◌◃◌ : {A : Type 0} → Production A → Production (Unit {0}) → Production A
a ◃ b = record {
  read = λ n text. a.read n text >>= λ x. b.read n x.1 >>= λ y. found x.0 y.1;
  Spells = λ x. a.Spells x ⨾ b.Spells tt;
  begins = a.begins ++ only_if a.empty b.begins;
  goes = b.goes ++ only_if b.empty a.goes;
  empty = if a.empty then b.empty else false;
}

-- ---- what an item comes to

abbrev pub made : {A B : Type 0} → (A → B) → Production A → Production B
made {A} f a = record {
  read = λ n text. a.read n text >>= λ x. found (f x.0) x.1;
  Spells = λ y text. (x : A) × (f x ≡ y) × a.Spells x text;
  begins = a.begins;
  goes = a.goes;
  empty = a.empty;
}

-- the same where it may come to nothing
abbrev pub checked : {A B : Type 0} → (A → Option B) → Production A → Production B
checked {A} f a = record {
  read = λ n text. a.read n text >>= λ x. f x.0 >>= λ y. found y x.1;
  Spells = λ y text. (x : A) × (f x ≡ Some y) × a.Spells x text;
  begins = a.begins;
  goes = a.goes;
  empty = a.empty;
}

-- the same where it passes a test
abbrev pub tested : {A : Type 0} → (A → Bool) → Production A → Production A
tested test a = record {
  read = λ n text. a.read n text >>= λ x. if test x.0 then found x.0 x.1 else None;
  Spells = λ y text. (test y ≡ true) × a.Spells y text;
  begins = a.begins;
  goes = a.goes;
  empty = a.empty;
}

-- ---- in other words

-- the same texts, as a line of the grammar says them
abbrev pub spelled : {A : Type 0} → Production A → (A → Line) → Production A
spelled p Spells = record {
  read = p.read;
  Spells = Spells;
  begins = p.begins;
  goes = p.goes;
  empty = p.empty;
}

-- they begin with less
abbrev pub narrowed : {A : Type 0} → Production A → List Begin → Production A
narrowed p begins = record {
  read = p.read;
  Spells = p.Spells;
  begins = begins;
  goes = p.goes;
  empty = p.empty;
}

-- more goes on with them
abbrev pub wider : {A : Type 0} → List Key → Production A → Production A
wider keys p = record {
  read = p.read;
  Spells = p.Spells;
  begins = p.begins;
  goes = keys ++ p.goes;
  empty = p.empty;
}

-- ---- one of two: the first, where the test of the text says so

abbrev pub chosen : {A : Type 0} → (List Mark → Bool) → List Key → Production A → Production A
    → Production A
chosen test keys a b = record {
  read = λ n text. if test text then a.read n text else b.read n text;
  Spells = λ y. Either (a.Spells y) (b.Spells y);
  begins = a.begins ++ b.begins;
  goes = keys ++ (a.goes ++ b.goes);
  empty = b.empty;
}

-- the first where the key comes, with which it surely begins
abbrev pub picked : {A : Type 0} → Key → Production A → Production A → Production A
picked k a b = chosen (here k) (only_if b.empty (k ∷ [])) a b

-- the token and an item, or else this item
abbrev pub behind : {A : Type 0} → A → Sign → Production A → Production A
behind none s a = picked (Fixed s) (a_sign s ▹ a) (nothing none)

-- ---- as many as come

abbrev pub row : {A : Type 0} → List Key → Production A → Production (List A)
row keys a = record {
  read = λ n text. Some (many (a.read n) n text);
  Spells = Row a.Spells;
  begins = a.begins;
  goes = keys ++ a.goes;
  empty = true;
}

-- with a token between each two
unfoldable pub further_at : {A : Type 0} → Sign → Production A → ℕ → List Mark → Read A
further_at s a n text = sign_at s text >>= λ t. a.read n t.1

abbrev pub separated : {A : Type 0} → Sign → Production A → Production (List A)
separated s a = record {
  read = λ n text. a.read n text
      >>= λ x. Some (prepended (x.0 ∷ []) (many (further_at s a n) n x.1));
  Spells = Separated (Is (sign_part s)) a.Spells;
  begins = a.begins;
  goes = Fixed s ∷ a.goes;
  empty = false;
}
