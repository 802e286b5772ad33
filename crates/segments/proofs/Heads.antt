-- Heads that grow by a piece, and what an opening bracket isn't.
use Rattle.std.proofs.Common.{◌≡◌, refl, sym, ◌∙◌, ap, Bool, true, false, ◌||◌, if◌then◌else◌}
use Rattle.std.proofs.Common.{List, [], ◌∷◌, ◌++◌, append_assoc, append-nil}
use Rattle.java_token.specs.declared.token.Token.{Token}
use Rattle.java_token.specs.declared.token.TokenKind.{TokenKind}
use Rattle.java_token.specs.declared.token.TokenKind.TheVariants as kind
use Rattle.java_token.specs.declared.operator.OpTok.TheVariants.{Semicolon, Assign}
use Rattle.java_token.specs.declared.keyword.Kw.TheVariants as word
use Rattle.segments.specs.declared.bracket.Pair.{Pair}
use Rattle.segments.specs.declared.bracket.Mark.TheVariants.{Opening}
use Rattle.segments.specs.Brackets.{mark_of, mark_of_kind}
use Rattle.segments.specs.Words.{is_semicolon, is_assign, is_default, kind_is_semicolon}
use Rattle.segments.specs.Words.{kind_is_assign, kind_is_default}
use Rattle.segments.specs.Places.{written}
use Rattle.segments.specs.Cut.{Piece, begins, is_assigned, last_begins, braces_alone}
use Rattle.segments.specs.Cut.{piece_in_head, head_of, without_last}

pub last_begins_end : (is : Token → Bool) (ps : List Piece) (p : Piece)
    → last_begins is (ps ++ p ∷ []) ≡ begins is p
last_begins_end is [] p = refl
last_begins_end is (q ∷ []) p = refl
last_begins_end is (q ∷ r ∷ ps) p = last_begins_end is (r ∷ ps) p

pub is_assigned_end : (ps : List Piece) (p : Piece)
    → is_assigned (ps ++ p ∷ []) ≡ is_assigned ps || begins is_assign p
is_assigned_end [] p = by (begins is_assign p) where
  by : (b : Bool) → (b || false) ≡ b
  by true = refl
  by false = refl
is_assigned_end (q ∷ ps) p = by (begins is_assign q) (is_assigned_end ps p) where
  by : (b : Bool) → is_assigned (ps ++ p ∷ []) ≡ is_assigned ps || begins is_assign p
      → (b || is_assigned (ps ++ p ∷ [])) ≡ (b || is_assigned ps) || begins is_assign p
  by true e = refl
  by false e = e

written_end : {X Y : Type 0} (each : List X → X → List Y) (xs : List X) (x : X)
    → written each (xs ++ x ∷ []) ≡ written each xs ++ each xs x
written_end each [] x = append-nil (each [] x)
written_end each (y ∷ xs) x =
    ap (λ l. each [] y ++ l) (written_end (λ before. each (y ∷ before)) xs x)
    ∙ sym (append_assoc (each [] y) (written (λ before. each (y ∷ before)) xs) (each (y ∷ xs) x))

pub head_end : (ps : List Piece) (p : Piece)
    → head_of (ps ++ p ∷ []) ≡ head_of ps ++ (if is_assigned ps then braces_alone p else p)
head_end ps p = written_end piece_in_head ps p

pub without_last_end : (xs : List Token) (t : Token) → without_last (xs ++ t ∷ []) ≡ xs
without_last_end [] t = refl
without_last_end (x ∷ []) t = refl
without_last_end (x ∷ y ∷ xs) t = ap (λ l. x ∷ l) (without_last_end (y ∷ xs) t)

pub opening_no_semicolon : (t : Token) (p : Pair) → mark_of t ≡ Opening p → is_semicolon t ≡ false
unfolding mark_of is_semicolon
opening_no_semicolon t p e = by t.kind e where
  by : (k : TokenKind) → mark_of_kind k ≡ Opening p → kind_is_semicolon k ≡ false
  by (kind.Op Semicolon) e = cc
  by (kind.Op op) e = refl
  by k e = refl

pub opening_no_assign : (t : Token) (p : Pair) → mark_of t ≡ Opening p → is_assign t ≡ false
unfolding mark_of is_assign
opening_no_assign t p e = by t.kind e where
  by : (k : TokenKind) → mark_of_kind k ≡ Opening p → kind_is_assign k ≡ false
  by (kind.Op Assign) e = cc
  by (kind.Op op) e = refl
  by k e = refl

pub opening_no_default : (t : Token) (p : Pair) → mark_of t ≡ Opening p → is_default t ≡ false
unfolding mark_of is_default
opening_no_default t p e = by t.kind e where
  by : (k : TokenKind) → mark_of_kind k ≡ Opening p → kind_is_default k ≡ false
  by (kind.Keyword word.Default) e = cc
  by (kind.Keyword w) e = cc
  by k e = refl
