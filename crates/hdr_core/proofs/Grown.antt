-- What is told, written in parts.
use Rattle.std.proofs.Common.{◌≡◌, ℕ, ◌+◌, ◌<◌, List, [], ◌∷◌, ◌++◌, take, drop, length, get_or}
use Rattle.std.proofs.Common.{refl, ap, sym, ◌∙◌, append_assoc, append-nil, add-one, drop-cons}
use Rattle.std.specs.Prelude.{Option, Some, None, Result, Ok, Err, OnErr, flat_map}
use Rattle.std.proofs.Math.Seq.{take-add, take-suc}
use Rattle.std.proofs.lemmas.Grind.{flat_map-append}
use Rattle.std.proofs.lemmas.List.{take-append-drop}
use Rattle.hdr_core.specs.Causes.{grown, GrewByFront}

pub grown_append : (told : Option (List ℕ)) (a b : List ℕ)
    → grown (grown told a) b ≡ grown told (a ++ b)
grown_append None a b = refl
grown_append (Some bytes) a b = ap Some (append_assoc bytes a b)

-- one more write of a piece
pub grown_step : (old mid new : Option (List ℕ)) (at n : ℕ) (piece : List ℕ)
    → mid ≡ grown old (take at piece) → new ≡ grown mid (take n (drop at piece))
    → new ≡ grown old (take (at + n) piece)
grown_step old mid new at n piece e is =
    is ∙ ap (λ o. grown o (take n (drop at piece))) e
    ∙ grown_append old (take at piece) (take n (drop at piece))
    ∙ ap (grown old) (sym (take-add at n piece))

-- a part of the piece is a front of it
pub grew_take : (old new : Option (List ℕ)) (at : ℕ) (piece : List ℕ)
    → new ≡ grown old (take at piece) → GrewByFront old new piece
grew_take old new at piece e = (take at piece, drop at piece, take-append-drop at piece, e)

-- a front of the middle, behind what stands before it
pub grew_after : (old mid new : Option (List ℕ)) (a b c text : List ℕ) → mid ≡ grown old a
    → GrewByFront mid new b → a ++ (b ++ c) ≡ text → GrewByFront old new text
grew_after old mid new a b c text e g is = (
  a ++ g.0,
  g.1 ++ c,
  append_assoc a g.0 (g.1 ++ c)
      ∙ ap (λ t. a ++ t) (sym (append_assoc g.0 g.1 c) ∙ ap (λ t. t ++ c) g.2) ∙ is,
  g.3
      ∙ ap (λ o. grown o g.0) e ∙ grown_append old a g.0,
)

-- Nothing is a front of every text.
pub grew_nothing : (told : Option (List ℕ)) (text : List ℕ) → GrewByFront told told text
grew_nothing told text = ([], text, refl, sym (grown_nothing told))
  where
    grown_nothing : (o : Option (List ℕ)) → grown o [] ≡ o
    grown_nothing None = refl
    grown_nothing (Some bytes) = ap Some (append-nil bytes)

pub on_err : {T E P : Type 0} (r : Result T E) → P → OnErr r P
on_err (Ok x) p = tt
on_err (Err e) p = p

split_at : {X : Type 0} (text_of : X → List ℕ) (i : ℕ) (xs : List X) (d : X) → i < length xs
    → flat_map text_of (take i xs)
    ++ (text_of (get_or xs i d) ++ flat_map text_of (drop (i + 1) xs)) ≡ flat_map text_of xs
split_at text_of i xs d h =
    let cut : drop i xs ≡ get_or xs i d ∷ drop (i + 1) xs = rw add-one (drop-cons xs i d h) in
    ap (λ t. flat_map text_of (take i xs) ++ t) (sym (ap (flat_map text_of) cut))
    ∙ sym (flat_map-append text_of (take i xs) (drop i xs))
    ∙ ap (flat_map text_of) (take-append-drop i xs)

-- where the text of one item is told in part, behind those of the items before it
pub grew_items : {X : Type 0} (text_of : X → List ℕ) (old mid new : Option (List ℕ)) (i : ℕ)
    (xs : List X) (x d : X) → i < length xs → mid ≡ grown old (flat_map text_of (take i xs))
    → x ≡ get_or xs i d → GrewByFront mid new (text_of x)
    → GrewByFront old new (flat_map text_of xs)
grew_items text_of old mid new i xs x d h e is g =
    grew_after old mid new (flat_map text_of (take i xs)) (text_of x)
    (flat_map text_of (drop (i + 1) xs)) (flat_map text_of xs) e g
    (rw is (split_at text_of i xs d h))

-- the text of one more item
pub grown_items : {X : Type 0} (text_of : X → List ℕ) (old mid new : Option (List ℕ)) (i : ℕ)
    (xs : List X) (x : X) → i < length xs → mid ≡ grown old (flat_map text_of (take i xs))
    → x ≡ get_or xs i x → new ≡ grown mid (text_of x)
    → new ≡ grown old (flat_map text_of (take (i + 1) xs))
grown_items text_of old mid new i xs x h e is more =
    more ∙ ap (λ o. grown o (text_of x)) e
    ∙ grown_append old (flat_map text_of (take i xs)) (text_of x)
    ∙ ap (grown old) (sym one_more)
  where
    one_more : flat_map text_of (take (i + 1) xs) ≡ flat_map text_of (take i xs) ++ text_of x
    one_more =
        ap (flat_map text_of) (rw add-one (take-suc xs i x h))
        ∙ flat_map-append text_of (take i xs) (get_or xs i x ∷ [])
        ∙ ap (λ t. flat_map text_of (take i xs) ++ t)
        (append-nil (text_of (get_or xs i x)) ∙ ap text_of (sym is))
