-- Lists of tokens whose brackets pair, as forests of groups.
use Rattle.std.proofs.Common.{◌≡◌, refl, sym, ◌∙◌, ap, Bool, true, false, List, [], ◌∷◌, ◌++◌}
use Rattle.std.proofs.Common.{append_assoc, map}
use Rattle.java_token.specs.declared.token.Token.{Token}
use Rattle.segments.specs.declared.bracket.Pair.{Pair}
use Rattle.segments.specs.declared.bracket.Pair.TheVariants.{Parentheses, Brackets, Braces}
use Rattle.segments.specs.declared.bracket.Mark.{Mark}
use Rattle.segments.specs.declared.bracket.Mark.TheVariants.{Opening, Closing, Plain}
use Rattle.segments.specs.Brackets.{mark_of, same_pair}
use Rattle.segments.proofs.Unpaired.{Bracket, bracket_of, is_closed_by, unpaired}

pub data Forest : Type 0 where
  Nothing : Forest
  Single : (t : Token) → mark_of t ≡ Plain → Forest → Forest
  Group : (p : Pair) (o : Token) → mark_of o ≡ Opening p → Forest → (c : Token)
      → mark_of c ≡ Closing p → Forest → Forest

abbrev pub flat : Forest → List Token
flat Nothing = []
flat (Single t e f) = t ∷ flat f
flat (Group p o eo i c ec f) = o ∷ (flat i ++ c ∷ flat f)

-- forests with a token before each but the first
abbrev pub spelt : List (Token × Forest) → List Token
spelt [] = []
spelt ((t, f) ∷ rest) = t ∷ (flat f ++ spelt rest)

abbrev pub left_out : List (Token × Forest) → List Bracket
left_out [] = []
left_out ((t, f) ∷ rest) = bracket_of t ∷ left_out rest

-- a list is forests, with the brackets between them that don't pair
pub record Spread (tokens : List Token) : Type 0 where
  pub front : Forest
  pub rest : List (Token × Forest)
  pub left : left_out rest ≡ unpaired (map bracket_of tokens)
  pub parts : flat front ++ spelt rest ≡ tokens

pub pair_of_same : (p q : Pair) → same_pair p q ≡ true → p ≡ q
pair_of_same Parentheses Parentheses e = refl
pair_of_same Parentheses Brackets e = cc
pair_of_same Parentheses Braces e = cc
pair_of_same Brackets Parentheses e = cc
pair_of_same Brackets Brackets e = refl
pair_of_same Brackets Braces e = cc
pair_of_same Braces Parentheses e = cc
pair_of_same Braces Brackets e = cc
pair_of_same Braces Braces e = refl

pub closes_own : (p : Pair) (m : Mark) → is_closed_by p m ≡ true → m ≡ Closing p
closes_own p (Opening q) e = cc
closes_own p (Closing q) e = ap Closing (sym (pair_of_same p q e))
closes_own p Plain e = cc

-- an opening bracket in front of what is spread
opening : (t : Token) (p : Pair) (tokens : List Token) → mark_of t ≡ Opening p
    → (f : Forest) (rest : List (Token × Forest))
    → left_out rest ≡ unpaired (map bracket_of tokens) → flat f ++ spelt rest ≡ tokens
    → Spread (t ∷ tokens)
opening t p tokens e f [] left parts = record {
  front = Nothing;
  rest = (t, f) ∷ [];
  left = rw (← left, e) refl;
  parts = ap (λ x. t ∷ x) parts;
}
opening t p tokens e f ((c, g) ∷ rest) left parts = by (is_closed_by p (mark_of c)) refl where
  by : (b : Bool) → is_closed_by p (mark_of c) ≡ b → Spread (t ∷ tokens)
  by true closed = record {
    front = Group p t e f c (closes_own p (mark_of c) closed) g;
    rest = rest;
    left = rw (← left, e, closed) refl;
    parts = ap (λ x. t ∷ x) (append_assoc (flat f) (c ∷ flat g) (spelt rest) ∙ parts);
  }
  by false closed = record {
    front = Nothing;
    rest = (t, f) ∷ (c, g) ∷ rest;
    left = rw (← left, e, closed) refl;
    parts = ap (λ x. t ∷ x) parts;
  }

pub spread : (tokens : List Token) → Spread tokens
spread [] = record { front = Nothing; rest = []; left = refl; parts = refl }
spread (t ∷ tokens) = by (mark_of t) refl (spread tokens) where
  by : (m : Mark) → mark_of t ≡ m → Spread tokens → Spread (t ∷ tokens)
  by Plain e s = record {
    front = Single t e s.front;
    rest = s.rest;
    left = rw e s.left;
    parts = ap (λ x. t ∷ x) s.parts;
  }
  by (Closing p) e s = record {
    front = Nothing;
    rest = (t, s.front) ∷ s.rest;
    left = rw (e, ← s.left) refl;
    parts = ap (λ x. t ∷ x) s.parts;
  }
  by (Opening p) e s = opening t p tokens e s.front s.rest s.left s.parts
