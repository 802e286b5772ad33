-- The law of a production: what is read is spelled, and what is spelled is read.
use Rattle.std.specs.Prelude.{◌≡◌, ℕ, ◌≤◌, true, false, List, ◌++◌, length, None}
use Rattle.java_grammar.specs.Marks.{Mark, Line}
use Rattle.java_grammar.specs.Reading.{IsFront}
use Rattle.type_expr_parser.specs.Reading.{found}
use Rattle.productions.specs.Keys.{Key, here, Stops, has}
use Rattle.productions.specs.Productions.{Production}

pub record Law {A : Type 0} (p : Production A) : Type 0 where
  -- what is read is spelled by the marks up to what is left
  pub takes : (n : ℕ) (text : List Mark) (x : A) (left : List Mark)
      → p.read n text ≡ found x left → IsFront (p.Spells x) text left
  -- what is spelled is read, whatever follows that doesn't go on with it
  pub again : (n : ℕ) (x : A) (text left : List Mark) → p.Spells x text → length text ≤ n
      → Stops p.goes left → p.read n (text ++ left) ≡ found x left
  -- with what it begins
  pub first : (x : A) (text left : List Mark) (k : Key) → p.Spells x text → Stops p.goes left
      → has p.begins k ≡ false → (p.empty ≡ true → here k left ≡ false)
      → here k (text ++ left) ≡ false
  pub some : p.empty ≡ false → (x : A) (text : List Mark) → p.Spells x text → 1 ≤ length text

-- texts of the production are those of the line
pub record Alike {A : Type 0} (p : Production A) (Spells : A → Line) : Type 0 where
  pub to : (x : A) (text : List Mark) → p.Spells x text → Spells x text
  pub of : (x : A) (text : List Mark) → Spells x text → p.Spells x text

-- a text of the production surely begins with the key
pub record Sure {A : Type 0} (k : Key) (p : Production A) : Type 0 where
  pub comes : (x : A) (text left : List Mark) → p.Spells x text → Stops p.goes left
      → here k (text ++ left) ≡ true

-- nothing is read where none of the keys comes
pub record Refuses {A : Type 0} (keys : List Key) (p : Production A) : Type 0 where
  pub none : (n : ℕ) (text : List Mark) → Stops keys text → p.read n text ≡ None

-- what the production reads is what the line spells: no more, no less, and of a text no other
pub record Reads {A : Type 0} (p : Production A) (Spells : A → Line) : Type 0 where
  pub takes : (n : ℕ) (text : List Mark) (x : A) (left : List Mark)
      → p.read n text ≡ found x left → IsFront (Spells x) text left
  pub again : (n : ℕ) (x : A) (text left : List Mark) → Spells x text → length text ≤ n
      → Stops p.goes left → p.read n (text ++ left) ≡ found x left
  pub one : (x y : A) (text : List Mark) → Spells x text → Spells y text → x ≡ y
