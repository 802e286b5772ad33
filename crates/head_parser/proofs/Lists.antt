-- Lists of which none, or one at least, stands behind a token.
use Rattle.std.proofs.Common.{◌≡◌, refl, List, [], ◌∷◌, inl, inr}
use Rattle.java_grammar.specs.Marks.{Mark, Line}
use Rattle.java_grammar.specs.Words.{Nothing, ◌⨾◌, Either}

pub list_some : {X : Type 0} (x : X) (xs : List X) → x ∷ xs ≡ [] → ⊥
list_some x xs e = absurd cc

-- what the production says, and what the grammar says
abbrev pub Behind : {X : Type 0} → Line → (List X → Line) → List X → Line
Behind first Items xs = Either (first ⨾ Items xs) (λ text. (xs ≡ []) × Nothing text)

pub record Listed {X : Type 0} (first : Line) (Items : List X → Line)
    (Spells : List X → Line) : Type 0 where
  pub none : (text : List Mark) → Items [] text → ⊥
  pub empty : (text : List Mark) → Nothing text → Spells [] text
  pub of_empty : (text : List Mark) → Spells [] text → Nothing text
  pub some : (x : X) (xs : List X) (text : List Mark) → (first ⨾ Items (x ∷ xs)) text
      → Spells (x ∷ xs) text
  pub of_some : (x : X) (xs : List X) (text : List Mark) → Spells (x ∷ xs) text
      → (first ⨾ Items (x ∷ xs)) text

pub to_listed : {X : Type 0} {first : Line} {Items Spells : List X → Line}
    → Listed first Items Spells → (xs : List X) (text : List Mark)
    → Behind first Items xs text → Spells xs text
to_listed l [] text (inl s) = absurd (l.none s.rest s.after)
to_listed l [] text (inr s) = l.empty text s.1
to_listed l (x ∷ xs) text (inl s) = l.some x xs text s
to_listed l (x ∷ xs) text (inr s) = absurd (list_some x xs s.0)

pub of_listed : {X : Type 0} {first : Line} {Items Spells : List X → Line}
    → Listed first Items Spells → (xs : List X) (text : List Mark)
    → Spells xs text → Behind first Items xs text
of_listed l [] text s = inr (refl, l.of_empty text s)
of_listed l (x ∷ xs) text s = inl (l.of_some x xs text s)

pub listed : {X : Type 0} {first : Line} {Items Spells : List X → Line}
    → ((text : List Mark) → Items [] text → ⊥)
    → ((text : List Mark) → Nothing text → Spells [] text)
    → ((text : List Mark) → Spells [] text → Nothing text)
    → ((x : X) (xs : List X) (text : List Mark) → (first ⨾ Items (x ∷ xs)) text
    → Spells (x ∷ xs) text)
    → ((x : X) (xs : List X) (text : List Mark) → Spells (x ∷ xs) text
    → (first ⨾ Items (x ∷ xs)) text)
    → Listed first Items Spells
listed none empty of_empty some of_some = record {
  none = none;
  empty = empty;
  of_empty = of_empty;
  some = some;
  of_some = of_some;
}
