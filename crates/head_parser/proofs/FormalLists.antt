-- Formal parameters among items of which the first may be a receiver.
use Rattle.std.proofs.Common.{◌≡◌, refl, sym, ◌∙◌, ap, subst, Bool, true, false, List, [], ◌∷◌}
use Rattle.std.proofs.Common.{◌++◌, Option, Some, None, append_assoc, append-nil, inl, inr}
use Rattle.java_ast.specs.declared.member.Param.{Param}
use Rattle.java_grammar.specs.Marks.{Mark, Line}
use Rattle.java_grammar.specs.Words.{Nothing, ◌⨾◌, Either, Separated, Comma, Commas}
use Rattle.java_grammar.specs.Words.{PerhapsCommas}
use Rattle.java_grammar.specs.Members.{FormalSpells, Receiver, BehindReceiver}
use Rattle.type_expr_parser.specs.Reading.{◌>>=◌}
use Rattle.type_expr_parser.proofs.Lines.{both_as}
use Rattle.head_parser.specs.Formals.{ItemLine, all_named, formals_of}

-- ---- one by one

-- these are collected, and the items are still to come
abbrev pub formals_from : Bool → List Param → List (Option Param) → Option (List Param)
formals_from first front [] = Some front
formals_from first front (Some p ∷ items) = formals_from false (front ++ p ∷ []) items
formals_from true front (None ∷ items) = formals_from false front items
formals_from false front (None ∷ items) = None

front_by : (front : List Param) (p : Param) (o : Option (List Param))
    → (o >>= λ ps. Some ((front ++ p ∷ []) ++ ps))
    ≡ ((o >>= λ ps. Some (p ∷ ps)) >>= λ ps. Some (front ++ ps))
front_by front p None = refl
front_by front p (Some ps) = ap Some (append_assoc front (p ∷ []) ps)

from_named : (front : List Param) (items : List (Option Param))
    → formals_from false front items ≡ (all_named items >>= λ ps. Some (front ++ ps))
from_named front [] = ap Some (sym (append-nil front))
from_named front (None ∷ items) = refl
from_named front (Some p ∷ items) =
    from_named (front ++ p ∷ []) items ∙ front_by front p (all_named items)

some_again : (o : Option (List Param)) → (o >>= λ ps. Some ([] ++ ps)) ≡ o
some_again None = refl
some_again (Some ps) = refl

pub from_first : (items : List (Option Param)) → formals_from true [] items ≡ formals_of items
from_first [] = refl
from_first (None ∷ items) = from_named [] items ∙ some_again (all_named items)
from_first (Some p ∷ items) = from_named (p ∷ []) items

-- ---- as the grammar says it

abbrev named : List Param → List (Option Param)
named [] = []
named (p ∷ ps) = Some p ∷ named ps

all_by : (p : Param) (items : List (Option Param)) (ps : List Param) (o : Option (List Param))
    → ((qs : List Param) → o ≡ Some qs → items ≡ named qs)
    → (o >>= λ qs. Some (p ∷ qs)) ≡ Some ps → Some p ∷ items ≡ named ps
all_by p items ps None h f = absurd cc
all_by p items ps (Some qs) h f =
    let same : p ∷ qs ≡ ps = cc in
    ap (λ l. Some p ∷ l) (h qs refl) ∙ ap named same

all_some : (items : List (Option Param)) (ps : List Param) → all_named items ≡ Some ps
    → items ≡ named ps
all_some [] ps e = let f : [] ≡ ps = cc in ap named f
all_some (None ∷ items) ps e = absurd cc
all_some (Some p ∷ items) ps e =
    all_by p items ps (all_named items) (λ qs h. all_some items qs h) e

some_all : (ps : List Param) → all_named (named ps) ≡ Some ps
some_all [] = refl
some_all (p ∷ ps) = ap (λ o. o >>= λ qs. Some (p ∷ qs)) (some_all ps)

same : (a : Line) (text : List Mark) → a text → a text
same a text x = x

to_commas : (p : Param) (ps : List Param) (text : List Mark)
    → Separated Comma ItemLine (named (p ∷ ps)) text → Commas FormalSpells (p ∷ ps) text
to_commas p [] text s = s
to_commas p (q ∷ ps) text s =
    both_as (same (FormalSpells p)) (both_as (same Comma) (to_commas q ps)) text s

of_commas : (p : Param) (ps : List Param) (text : List Mark)
    → Commas FormalSpells (p ∷ ps) text → Separated Comma ItemLine (named (p ∷ ps)) text
of_commas p [] text s = s
of_commas p (q ∷ ps) text s =
    both_as (same (FormalSpells p)) (both_as (same Comma) (of_commas q ps)) text s

-- what the parentheses hold
abbrev Held : List Param → Line
Held ps = Either (PerhapsCommas FormalSpells ps) (Receiver ⨾ BehindReceiver ps)

alone : (text : List Mark) → Receiver text → (Receiver ⨾ Nothing) text
alone text s = record {
  front = text;
  rest = [];
  whole = sym (append-nil text);
  before = s;
  after = refl;
}

to_received : (ps : List Param) (text : List Mark)
    → Separated Comma ItemLine (None ∷ named ps) text → (Receiver ⨾ BehindReceiver ps) text
to_received [] text s = alone text s
to_received (p ∷ ps) text s =
    both_as (same Receiver) (both_as (same Comma) (to_commas p ps)) text s

of_received : (ps : List Param) (text : List Mark) → (Receiver ⨾ BehindReceiver ps) text
    → Separated Comma ItemLine (None ∷ named ps) text
of_received [] text s =
    subst Receiver (sym (s.whole ∙ ap (λ l. s.front ++ l) s.after ∙ append-nil s.front)) s.before
of_received (p ∷ ps) text s =
    both_as (same Receiver) (both_as (same Comma) (of_commas p ps)) text s

pub to_held : (items : List (Option Param)) (ps : List Param) (text : List Mark)
    → formals_of items ≡ Some ps → PerhapsCommas ItemLine items text → Held ps text
to_held [] [] text e s = inl s
to_held [] (p ∷ ps) text e s = absurd cc
to_held (None ∷ items) ps text e s =
    inr (to_received ps text
    (subst (λ l. Separated Comma ItemLine (None ∷ l) text) (all_some items ps e) s))
to_held (Some p ∷ items) ps text e s =
    by ps (all_some (Some p ∷ items) ps e)
  where
    by : (qs : List Param) → Some p ∷ items ≡ named qs → Held qs text
    by [] h = absurd cc
    by (q ∷ qs) h = inl (to_commas q qs text (subst (λ l. Separated Comma ItemLine l text) h s))

pub record Items (ps : List Param) (text : List Mark) : Type 0 where
  pub items : List (Option Param)
  pub checked : formals_of items ≡ Some ps
  pub spelled : PerhapsCommas ItemLine items text

pub of_held : (ps : List Param) (text : List Mark) → Held ps text → Items ps text
of_held [] text (inl s) = record { items = []; checked = refl; spelled = s }
of_held (p ∷ ps) text (inl s) = record {
  items = named (p ∷ ps);
  checked = some_all (p ∷ ps);
  spelled = of_commas p ps text s;
}
of_held ps text (inr s) = record {
  items = None ∷ named ps;
  checked = some_all ps;
  spelled = of_received ps text s;
}
