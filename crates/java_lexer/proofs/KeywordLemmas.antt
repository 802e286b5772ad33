-- Keywords are looked up among those of a length.
use Rattle.std.proofs.Common.{◌≡◌, ℕ, suc, ◌+◌, ◌<◌, ◌≤◌, Bool, true, false, ◌&&◌, nat_eq, List}
use Rattle.std.proofs.Common.{[], ◌∷◌, length, map, drop, get_or, Option, Some, None}
use Rattle.std.proofs.Common.{if◌then◌else◌, refl, sym, ◌∙◌, ap}
use Rattle.std.proofs.lemmas.List.{drop_all, drop_more}
use lib.Pointwise.{pointwise}
use denote.Ref.{Bor}
use Rattle.java_token.specs.declared.keyword.Kw.{Kw}
use Rattle.java_lexer.specs.Keywords.{Entries, look_up, entries, keyword_of}

-- an entry of the code
abbrev pub Written : Type 0
Written = Bor (List ℕ) × Kw

abbrev pub read : Written → List ℕ × Kw
read entry = (entry.0.now, entry.1)

-- the entry at a place has the text
pub found_here : (i : ℕ) (d : Written) (es : List Written) (word : List ℕ) → i < length es
    → pointwise nat_eq word (get_or es i d).0.now ≡ true
    → Some (get_or es i d).1 ≡ look_up (map read (drop i es)) word
found_here i d es word h e =
    rw (drop_more es i d h)
    (sym (ap (λ b. if b then Some (get_or es i d).1
    else look_up (map read (drop (i + 1) es)) word) e))

-- it has not
pub not_here : (i : ℕ) (d : Written) (es : List Written) (word : List ℕ) → i < length es
    → pointwise nat_eq word (get_or es i d).0.now ≡ false
    → look_up (map read (drop (i + 1) es)) word ≡ look_up (map read (drop i es)) word
not_here i d es word h e =
    rw (drop_more es i d h)
    (sym (ap (λ b. if b then Some (get_or es i d).1
    else look_up (map read (drop (i + 1) es)) word) e))

-- all entries are looked at
pub none_left : (i : ℕ) (es : List Written) (word : List ℕ) → length es ≤ i
    → None ≡ look_up (map read (drop i es)) word
none_left i es word h = rw (drop_all i es h) refl

-- the entries whose texts have such a length
abbrev pub of_length : (ℕ → Bool) → Entries → Entries
of_length fits [] = []
of_length fits (entry ∷ es) =
    if fits (length entry.0) then entry ∷ of_length fits es else of_length fits es

same_length : (word text : List ℕ) → pointwise nat_eq word text ≡ true → length word ≡ length text
same_length [] [] e = refl
same_length [] (c ∷ text) e = cc
same_length (c ∷ word) [] e = cc
same_length (c ∷ word) (d ∷ text) e = ap suc (same_length word text (both (nat_eq c d) _ e))
  where
    both : (a b : Bool) → (a && b) ≡ true → b ≡ true
    both true b e = e
    both false b e = cc

look_up_case : (fits same : Bool) (k : Kw) (few all : Option Kw) → (same ≡ true → fits ≡ true)
    → few ≡ all
    → (if fits then (if same then Some k else few) else few) ≡ (if same then Some k else all)
look_up_case true true k few all h e = refl
look_up_case true false k few all h e = e
look_up_case false true k few all h e = let no : false ≡ true = h refl in cc
look_up_case false false k few all h e = e

if_look_up : (b : Bool) (entry : List ℕ × Kw) (es : Entries) (word : List ℕ)
    → look_up (if b then entry ∷ es else es) word
    ≡ (if b then look_up (entry ∷ es) word else look_up es word)
if_look_up true entry es word = refl
if_look_up false entry es word = refl

-- they are enough for a text of such a length
among : (fits : ℕ → Bool) (es : Entries) (word : List ℕ) → fits (length word) ≡ true
    → look_up (of_length fits es) word ≡ look_up es word
among fits [] word h = refl
among fits (entry ∷ es) word h =
    if_look_up (fits (length entry.0)) entry (of_length fits es) word
    ∙ look_up_case (fits (length entry.0)) (pointwise nat_eq word entry.0) entry.1 _ _
    (λ e. ap fits (sym (same_length word entry.0 e)) ∙ h) (among fits es word h)

pub keyword_among : (fits : ℕ → Bool) (es : Entries) (word : List ℕ) → es ≡ of_length fits entries
    → fits (length word) ≡ true → look_up es word ≡ keyword_of word
unfolding keyword_of
keyword_among fits es word e h = rw e (among fits entries word h)
