-- The loop that cuts a text follows its cut.
use Rattle.std.proofs.Common.{◌≡◌, ℕ, zero, suc, ◌+◌, ◌-◌, ◌<◌, ◌≤◌, Bool, true, false, ◌&&◌}
use Rattle.std.proofs.Common.{◌||◌, not, ◌==◌, List, [], ◌∷◌, ◌++◌, length, take, drop, get_or}
use Rattle.std.proofs.Common.{Option, Some, None, IfSome, refl, sym, ◌∙◌, ap, append_assoc}
use Rattle.std.proofs.Common.{append-nil, length-drop, arith, if◌then◌else◌}
use Rattle.std.proofs.lemmas.List.{drop_all, drop-drop, drop_more}
use Rattle.std.proofs.Math.Seq.{take-add}
use Rattle.java_token.specs.declared.token.Token.{Token}
use Rattle.java_token.specs.declared.token.TokenKind.{TokenKind}
use Rattle.java_lexer.specs.declared.kind.Kind.{Kind}
use Rattle.java_lexer.specs.Pieces.{kind_of, longest_up_to, or_shorter, piece_at, opens_comment}
use Rattle.java_lexer.specs.Grammar.{kind_by, comment}
use Rattle.java_lexer.specs.Tokens.{token_of}
use Rattle.java_lexer.specs.Lexing.{Cut, with_token, ended, with_piece, cut_up_to, line_behind}
use Rattle.java_lexer.specs.Cutting.{ends_begun, ends_in_return, tokens_at}

-- a longest piece is not empty
some_front : (kind : List ℕ → Option Kind) (n : ℕ) (units : List ℕ)
    → IfSome (longest_up_to kind n units) (λ found. 0 < found.0)
unfolding longest_up_to
some_front kind zero units = tt
some_front kind (suc n) units =
    shorter (kind (take (suc n) units)) n (longest_up_to kind n units) (some_front kind n units)
  where
    shorter : (here : Option Kind) (n : ℕ) (rest : Option (ℕ × Kind))
        → IfSome rest (λ found. 0 < found.0)
        → IfSome (or_shorter (suc n) here rest) (λ found. 0 < found.0)
    shorter None n rest h = h
    shorter (Some k) n rest h = omega arith

one_of_two : (b : Bool) (x y : Option (ℕ × Kind)) → IfSome x (λ found. 0 < found.0)
    → IfSome y (λ found. 0 < found.0) → IfSome (if b then x else y) (λ found. 0 < found.0)
one_of_two true x y h k = h
one_of_two false x y h k = k

pub piece_not_empty : (units : List ℕ) → IfSome (piece_at units) (λ found. 0 < found.0)
unfolding piece_at
piece_not_empty units =
    one_of_two (opens_comment units) _ _ (some_front (kind_by comment) (length units) units)
    (some_front kind_of (length units) units)

-- tokens before those of a cut
abbrev pub behind_tokens : List Token → Cut → Cut
behind_tokens tokens cut =
    record { tokens = tokens ++ cut.tokens; before = cut.before; rest = cut.rest }

token_first : (token : Option TokenKind) (line : ℕ) (tokens : List Token) (cut : Cut)
    → behind_tokens (tokens ++ tokens_at token line) cut
    ≡ behind_tokens tokens (with_token token line cut)
token_first None line tokens cut = ap (λ ts. behind_tokens ts cut) (append-nil tokens)
token_first (Some kind) line tokens cut =
    ap (λ ts. record { tokens = ts; before = cut.before; rest = cut.rest })
    (append_assoc tokens (record { kind = kind; line = line } ∷ []) cut.tokens)

-- more pieces than units make no difference
enough : (n m : ℕ) (before units : List ℕ) → length units ≤ n → length units ≤ m
    → cut_up_to n before units ≡ cut_up_to m before units
unfolding cut_up_to
enough zero zero before units h k = refl
enough zero (suc m) before [] h k = refl
enough zero (suc m) before (c ∷ units) h k = absurd (omega arith)
enough (suc n) zero before [] h k = refl
enough (suc n) zero before (c ∷ units) h k = absurd (omega arith)
enough (suc n) (suc m) before [] h k = refl
enough (suc n) (suc m) before (c ∷ units) h k =
    same_further (piece_at (c ∷ units)) before (c ∷ units) n m (piece_not_empty (c ∷ units))
    (λ more rest p q. enough n m more rest p q)
    (omega arith) (omega arith)
  where
    same_further : (piece : Option (ℕ × Kind)) (before units : List ℕ) (n m : ℕ)
        → IfSome piece (λ found. 0 < found.0)
        → ((more rest : List ℕ) → length rest ≤ n → length rest ≤ m
        → cut_up_to n more rest ≡ cut_up_to m more rest)
        → length units ≤ suc n → length units ≤ suc m
        → with_piece piece before units (λ more rest. cut_up_to n more rest)
        ≡ with_piece piece before units (λ more rest. cut_up_to m more rest)
    same_further None before units n m p further h k = refl
    same_further (Some piece) before units n m p further h k =
        ap (λ cut. with_token (token_of piece.1 (take piece.0 units)) (line_behind before) cut)
        (further (before ++ take piece.0 units) (drop piece.0 units)
        (omega (arith, length-drop piece.0 units)) (omega (arith, length-drop piece.0 units)))

-- the cut of what is left behind a place
abbrev pub cut_at : ℕ → List ℕ → Cut
cut_at at units = cut_up_to (length (drop at units)) (take at units) (drop at units)

stepped : (piece : ℕ × Kind) (n : ℕ) (before units : List ℕ) → piece_at units ≡ Some piece
    → length units ≡ suc n
    → cut_up_to (length units) before units
    ≡ with_token (token_of piece.1 (take piece.0 units)) (line_behind before)
    (cut_up_to n (before ++ take piece.0 units) (drop piece.0 units))
unfolding cut_up_to
stepped piece n before [] e l = absurd (omega (arith, l))
stepped piece n before (c ∷ units) e l =
    let same : length units ≡ n = omega (arith, l) in
    rw (← same)
    (ap (λ found. with_piece found before (c ∷ units)
    (λ more rest. cut_up_to (length units) more rest)) e)

stopped : (before units : List ℕ) → piece_at units ≡ None
    → cut_up_to (length units) before units ≡ ended before units
unfolding cut_up_to
stopped before [] e = refl
stopped before (c ∷ units) e =
    ap (λ found. with_piece found before (c ∷ units)
    (λ more rest. cut_up_to (length units) more rest)) e

drop_further : (at n : ℕ) (units : List ℕ) → drop n (drop at units) ≡ drop (at + n) units
drop_further at n units = drop-drop n at units

take_further : (at n : ℕ) (units : List ℕ)
    → take at units ++ take n (drop at units) ≡ take (at + n) units
take_further at n units = sym (take-add at n units)

-- a piece is cut off
pub cut_step : (at n : ℕ) (kind : Kind) (line : ℕ) (tokens : List Token) (units : List ℕ)
    → at < length units → piece_at (drop at units) ≡ Some (n, kind) → 0 < n
    → line ≡ line_behind (take at units)
    → behind_tokens (tokens ++ tokens_at (token_of kind (take n (drop at units))) line)
    (cut_at (at + n) units) ≡ behind_tokens tokens (cut_at at units)
cut_step at n kind line tokens units h e p l =
    let some : length (drop at units) ≡ suc (length (drop at units) - 1) =
    omega (arith, length-drop at units) in
    let one =
    stepped (n, kind) (length (drop at units) - 1) (take at units) (drop at units) e some in
    let fuel =
    enough (length (drop at units) - 1) (length (drop n (drop at units)))
    (take at units ++ take n (drop at units)) (drop n (drop at units))
    (omega (arith, length-drop n (drop at units), p, some)) (omega arith) in
    token_first (token_of kind (take n (drop at units))) line tokens (cut_at (at + n) units)
    ∙ ap (behind_tokens tokens)
    (rw l (sym (one
    ∙ ap (with_token (token_of kind (take n (drop at units))) (line_behind (take at units)))
    (fuel ∙ ap (λ rest. cut_up_to (length rest) (take at units ++ take n (drop at units)) rest)
    (drop_further at n units)
    ∙ ap (λ before. cut_up_to (length (drop (at + n) units)) before (drop (at + n) units))
    (take_further at n units)))))

-- no further piece
pub cut_stops : (at : ℕ) (tokens : List Token) (units : List ℕ) → piece_at (drop at units) ≡ None
    → behind_tokens tokens (cut_at at units)
    ≡ record { tokens = tokens; before = take at units; rest = drop at units }
cut_stops at tokens units e = ap (behind_tokens tokens) (stopped (take at units) (drop at units) e)
    ∙ ap (λ ts. record { tokens = ts; before = take at units; rest = drop at units })
    (append-nil tokens)

nothing_ends : (before units : List ℕ) → units ≡ []
    → cut_up_to (length units) before units ≡ ended before units
unfolding cut_up_to
nothing_ends before [] e = refl
nothing_ends before (c ∷ units) e = absurd (cc)

-- no further unit
pub cut_ends : (at : ℕ) (tokens : List Token) (units : List ℕ) → length units ≤ at
    → behind_tokens tokens (cut_at at units)
    ≡ record { tokens = tokens; before = take at units; rest = drop at units }
cut_ends at tokens units h =
    ap (behind_tokens tokens) (nothing_ends (take at units) (drop at units) (drop_all at units h))
    ∙ ap (λ ts. record { tokens = ts; before = take at units; rest = drop at units })
    (append-nil tokens)

-- line terminators of two parts

pub ends_begun-append : (r : Bool) (xs ys : List ℕ)
    → ends_begun r (xs ++ ys) ≡ ends_begun r xs + ends_begun (ends_in_return r xs) ys
unfolding ends_begun ends_in_return
ends_begun-append r [] ys = omega arith
ends_begun-append r (c ∷ xs) ys = let h = ends_begun-append (c == 13) xs ys in omega (arith, h)

pub ends_in_return-append : (r : Bool) (xs ys : List ℕ)
    → ends_in_return r (xs ++ ys) ≡ ends_in_return (ends_in_return r xs) ys
unfolding ends_in_return
ends_in_return-append r [] ys = refl
ends_in_return-append r (c ∷ xs) ys = ends_in_return-append (c == 13) xs ys

-- a piece further on
pub line_ends_further : (at n : ℕ) (units : List ℕ)
    → ends_begun false (take (at + n) units)
    ≡ ends_begun false (take at units) + ends_begun (ends_in_return false (take at units))
    (take n (drop at units))
line_ends_further at n units = ap (ends_begun false) (sym (take_further at n units))
    ∙ ends_begun-append false (take at units) (take n (drop at units))

pub ends_in_return_further : (at n : ℕ) (units : List ℕ)
    → ends_in_return false (take (at + n) units)
    ≡ ends_in_return (ends_in_return false (take at units)) (take n (drop at units))
ends_in_return_further at n units = ap (ends_in_return false) (sym (take_further at n units))
    ∙ ends_in_return-append false (take at units) (take n (drop at units))

-- one unit of a piece
pub ends_step : (r : Bool) (i : ℕ) (units : List ℕ) → i < length units
    → ends_begun r (drop i units)
    ≡ (if get_or units i 0 == 13 || (get_or units i 0 == 10 && not r) then 1 else 0)
    + ends_begun (get_or units i 0 == 13) (drop (i + 1) units)
unfolding ends_begun
ends_step r i units h = rw (drop_more units i 0 h) refl

pub return_step : (r : Bool) (i : ℕ) (units : List ℕ) → i < length units
    → ends_in_return r (drop i units)
    ≡ ends_in_return (get_or units i 0 == 13) (drop (i + 1) units)
unfolding ends_in_return
return_step r i units h = rw (drop_more units i 0 h) refl

pub ends_none : (r : Bool) (i : ℕ) (units : List ℕ) → length units ≤ i
    → ends_begun r (drop i units) ≡ 0
unfolding ends_begun
ends_none r i units h = rw (drop_all i units h) refl

pub return_none : (r : Bool) (i : ℕ) (units : List ℕ) → length units ≤ i
    → ends_in_return r (drop i units) ≡ r
unfolding ends_in_return
return_none r i units h = rw (drop_all i units h) refl

-- the count goes on
pub ends_moved : (a b i : ℕ) (r s : Bool) (units : List ℕ) → i < length units
    → b ≡ (if get_or units i 0 == 13 || (get_or units i 0 == 10 && not r) then 1 else 0) + a
    → s ≡ (get_or units i 0 == 13)
    → b + ends_begun s (drop (i + 1) units) ≡ a + ends_begun r (drop i units)
ends_moved a b i r s units h e l = rw (e, l, ends_step r i units h) (omega arith)

pub return_moved : (i : ℕ) (r s : Bool) (units : List ℕ) → i < length units
    → s ≡ (get_or units i 0 == 13)
    → ends_in_return s (drop (i + 1) units) ≡ ends_in_return r (drop i units)
return_moved i r s units h l = rw l (sym (return_step r i units h))
