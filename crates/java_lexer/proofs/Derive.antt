-- What is left of productions behind a unit. A unit counts by its symbol alone.
use Rattle.std.proofs.Common.{◌≡◌, ℕ, Bool, true, false, ◌&&◌, ◌||◌, not, ◌==◌, List, [], ◌∷◌}
use Rattle.std.proofs.Common.{◌++◌, Option, Some, if◌then◌else◌, refl, sym, ◌∙◌, ap, subst, arith}
use Rattle.std.proofs.lemmas.Bool.{eqb-true}
use Rattle.java_lexer.specs.declared.kind.Kind.{Kind}
use Rattle.java_lexer.specs.Grammar.{symbol, Except, holds, has, Item, One, Maybe, Many, Tail}
use Rattle.java_lexer.specs.Grammar.{StringTail, Characters, Quote, TwoQuotes, Backslash}
use Rattle.java_lexer.specs.Grammar.{BlockTail, CommentTail, is_empty, is_block_rest}
use Rattle.java_lexer.specs.Grammar.{line_terminators, any_of, octal_digit, simple_escape}
use Rattle.java_lexer.specs.Grammar.{begins_escape, is_item, is_cut, is_spelled, Production}
use Rattle.java_lexer.specs.Grammar.{kind_by}
use Rattle.java_lexer.proofs.BlockRest.{no_cut, same_symbol, plain_rest, escape_rest, one_quote}
use Rattle.java_lexer.proofs.BlockRest.{two_quotes, three_quotes}

-- behind a symbol an item can't stand, or is over, or goes on as another
pub data After : Type 0 where
  Ends : After
  Over : After
  Goes : Item → After

abbrev pub behind_characters : ℕ → After
behind_characters s = if s == 92 then Goes (BlockTail Backslash) else Goes (BlockTail Characters)

abbrev pub after : Item → ℕ → After
after (One units) s = if holds units s then Over else Ends
after (Maybe units) s = if holds units s then Over else Ends
after (Many units) s = if holds units s then Goes (Many units) else Ends
after (Tail digits gap) s =
    if holds digits s then Goes (Tail digits false)
    else (if s == 95 then Goes (Tail digits true) else Ends)
after (StringTail false) s =
    if s == 92 then Goes (StringTail true)
    else (if holds (Except (34 ∷ line_terminators)) s then Goes (StringTail false) else Ends)
after (StringTail true) s =
    if holds simple_escape s || holds octal_digit s then Goes (StringTail false) else Ends
after (BlockTail Characters) s = if s == 34 then Goes (BlockTail Quote) else behind_characters s
after (BlockTail Quote) s = if s == 34 then Goes (BlockTail TwoQuotes) else behind_characters s
after (BlockTail TwoQuotes) s = if s == 34 then Over else behind_characters s
after (BlockTail Backslash) s =
    if (holds simple_escape s || holds octal_digit s)
    || holds (any_of line_terminators) s then Goes (BlockTail Characters) else Ends
after (CommentTail star) s = if star && s == 47 then Over else Goes (CommentTail (s == 42))

abbrev pub is_after : After → List ℕ → Bool
is_after Ends w = false
is_after Over w = is_empty w
is_after (Goes x) w = is_item x w

and_is : (b : Bool) (x : After) (w : List ℕ)
    → (b && is_after x w) ≡ is_after (if b then x else Ends) w
and_is true x w = refl
and_is false x w = refl

if_is : (b : Bool) (x y : After) (w : List ℕ) (t u : Bool) → t ≡ is_after x w → u ≡ is_after y w
    → (if b then t else u) ≡ is_after (if b then x else y) w
if_is true x y w t u e f = e
if_is false x y w t u e f = f

-- a character that is no quotation mark
no_quote : (c : ℕ) (w : List ℕ) → (c == 34) ≡ false
    → is_block_rest (c ∷ w) ≡ is_after (behind_characters (symbol c)) w
no_quote c w q = by (c == 92) refl where
  by : (b : Bool) → (c == 92) ≡ b
      → is_block_rest (c ∷ w) ≡ is_after (behind_characters (symbol c)) w
  by true e =
      subst (λ x. is_block_rest (x ∷ w) ≡ is_after (behind_characters (symbol x)) w)
      (sym (eqb-true c 92 e)) refl
  by false e = rw (same_symbol 92 c (omega arith), e) (plain_rest c w q e)

after-is : (x : Item) (c : ℕ) (w : List ℕ) → is_item x (c ∷ w) ≡ is_after (after x (symbol c)) w
after-is (One units) c w = and_is (has units c) Over w
after-is (Maybe units) c w = and_is (has units c) Over w
after-is (Many units) c w = and_is (has units c) (Goes (Many units)) w
after-is (Tail digits gap) c w =
    if_is (has digits c) (Goes (Tail digits false)) _ w _ _ refl
    (and_is (symbol c == 95) (Goes (Tail digits true)) w)
after-is (StringTail false) c w =
    if_is (symbol c == 92) (Goes (StringTail true)) _ w _ _ refl
    (and_is (has (Except (34 ∷ line_terminators)) c) (Goes (StringTail false)) w)
after-is (StringTail true) c w = and_is (begins_escape c) (Goes (StringTail false)) w
after-is (BlockTail Characters) c w = by (c == 34) refl where
  by : (b : Bool) → (c == 34) ≡ b
      → is_block_rest (c ∷ w)
      ≡ is_after (if symbol c == 34 then Goes (BlockTail Quote) else behind_characters (symbol c))
      w
  by true e =
      subst (λ x. is_block_rest (x ∷ w)
      ≡ is_after (if symbol x == 34 then Goes (BlockTail Quote)
      else behind_characters (symbol x)) w) (sym (eqb-true c 34 e)) refl
  by false e = rw (same_symbol 34 c (omega arith), e) (no_quote c w e)
after-is (BlockTail Quote) c w = by (c == 34) refl where
  by : (b : Bool) → (c == 34) ≡ b
      → is_block_rest (34 ∷ c ∷ w)
      ≡ is_after (if symbol c == 34 then Goes (BlockTail TwoQuotes)
      else behind_characters (symbol c)) w
  by true e =
      subst (λ x. is_block_rest (34 ∷ x ∷ w)
      ≡ is_after (if symbol x == 34 then Goes (BlockTail TwoQuotes)
      else behind_characters (symbol x)) w) (sym (eqb-true c 34 e)) refl
  by false e = rw (same_symbol 34 c (omega arith), e) (one_quote c w e ∙ no_quote c w e)
after-is (BlockTail TwoQuotes) c w = by (c == 34) refl where
  by : (b : Bool) → (c == 34) ≡ b
      → is_block_rest (34 ∷ 34 ∷ c ∷ w)
      ≡ is_after (if symbol c == 34 then Over else behind_characters (symbol c)) w
  by true e =
      subst (λ x. is_block_rest (34 ∷ 34 ∷ x ∷ w)
      ≡ is_after (if symbol x == 34 then Over else behind_characters (symbol x)) w)
      (sym (eqb-true c 34 e)) (three_quotes w)
  by false e = rw (same_symbol 34 c (omega arith), e) (two_quotes c w e ∙ no_quote c w e)
after-is (BlockTail Backslash) c w = escape_rest c w
    ∙ and_is (begins_escape c || has (any_of line_terminators) c) (Goes (BlockTail Characters)) w
after-is (CommentTail star) c w =
    if_is (star && symbol c == 47) Over (Goes (CommentTail (symbol c == 42))) w _ _ refl refl

-- the item may spell nothing
abbrev pub can_end : Item → Bool
can_end (One units) = false
can_end (Maybe units) = true
can_end (Many units) = true
can_end (Tail digits gap) = not gap
can_end (StringTail escaped) = not escaped
can_end (BlockTail read) = false
can_end (CommentTail star) = false

can_end-is : (x : Item) → is_item x [] ≡ can_end x
can_end-is (One units) = refl
can_end-is (Maybe units) = refl
can_end-is (Many units) = refl
can_end-is (Tail digits gap) = refl
can_end-is (StringTail true) = refl
can_end-is (StringTail false) = refl
can_end-is (BlockTail Characters) = refl
can_end-is (BlockTail Quote) = refl
can_end-is (BlockTail TwoQuotes) = refl
can_end-is (BlockTail Backslash) = refl
can_end-is (CommentTail star) = refl

abbrev pub continued : After → List Item → List (List Item)
continued Ends items = []
continued Over items = items ∷ []
continued (Goes x) items = (x ∷ items) ∷ []

-- what items leave behind a symbol
abbrev pub left : List Item → ℕ → List (List Item)
left [] s = []
left (x ∷ items) s = continued (after x s) items ++ (if can_end x then left items s else [])

abbrev pub any_spells : List (List Item) → List ℕ → Bool
any_spells [] w = false
any_spells (items ∷ more) w = is_spelled items w || any_spells more w

or_false : (b : Bool) → (b || false) ≡ b
or_false true = refl
or_false false = refl

or_assoc : (a b c : Bool) → ((a || b) || c) ≡ (a || (b || c))
or_assoc true b c = refl
or_assoc false b c = refl

or_comm : (a b : Bool) → (a || b) ≡ (b || a)
or_comm true true = refl
or_comm true false = refl
or_comm false true = refl
or_comm false false = refl

any_append : (xs ys : List (List Item)) (w : List ℕ)
    → any_spells (xs ++ ys) w ≡ (any_spells xs w || any_spells ys w)
any_append [] ys w = refl
any_append (x ∷ xs) ys w = ap (λ b. is_spelled x w || b) (any_append xs ys w)
    ∙ sym (or_assoc (is_spelled x w) (any_spells xs w) (any_spells ys w))

-- only the empty front passes
empty_cut : (q : List ℕ → Bool) (w : List ℕ) → is_cut is_empty q w ≡ q w
empty_cut q [] = refl
empty_cut q (c ∷ w) = ap (λ b. q (c ∷ w) || b) (no_cut q w) ∙ or_false (q (c ∷ w))

continued-is : (a : After) (items : List Item) (w : List ℕ)
    → is_cut (is_after a) (is_spelled items) w ≡ any_spells (continued a items) w
continued-is Ends items w = no_cut (is_spelled items) w
continued-is Over items w = empty_cut (is_spelled items) w ∙ sym (or_false (is_spelled items w))
continued-is (Goes x) items w = sym (or_false (is_spelled (x ∷ items) w))

ending : (b : Bool) (items : List Item) (s : ℕ) (w : List ℕ) (t : Bool)
    → t ≡ any_spells (left items s) w → (b && t) ≡ any_spells (if b then left items s else []) w
ending true items s w t e = e
ending false items s w t e = refl

left-is : (items : List Item) (c : ℕ) (w : List ℕ)
    → is_spelled items (c ∷ w) ≡ any_spells (left items (symbol c)) w
left-is [] c w = refl
left-is (x ∷ items) c w =
    let here : is_cut (λ v. is_item x (c ∷ v)) (is_spelled items) w
    ≡ any_spells (continued (after x (symbol c)) items) w
    = ap (λ (p : List ℕ → Bool). is_cut p (is_spelled items) w) (λ i v. after-is x c v i)
    ∙ continued-is (after x (symbol c)) items w in
    let later : (is_item x [] && is_spelled items (c ∷ w))
    ≡ any_spells (if can_end x then left items (symbol c) else []) w
    = ap (λ b. b && is_spelled items (c ∷ w)) (can_end-is x)
    ∙ ending (can_end x) items (symbol c) w _ (left-is items c w) in
    ap (λ b. b || is_cut (λ v. is_item x (c ∷ v)) (is_spelled items) w) later
    ∙ ap (λ b. any_spells (if can_end x then left items (symbol c) else []) w || b) here
    ∙ or_comm (any_spells (if can_end x then left items (symbol c) else []) w)
    (any_spells (continued (after x (symbol c)) items) w)
    ∙ sym (any_append (continued (after x (symbol c)) items)
    (if can_end x then left items (symbol c) else []) w)

-- these sequences of items, all of one kind, and then others
abbrev pub joined : Kind → List (List Item) → List Production → List Production
joined k [] ps = ps
joined k (items ∷ more) ps = (k, items) ∷ joined k more ps

-- what productions leave behind a symbol
abbrev pub derive : List Production → ℕ → List Production
derive [] s = []
derive (p ∷ ps) s = joined p.0 (left p.1 s) (derive ps s)

first_or : (a b : Bool) (k : Kind) (o : Option Kind)
    → (if a then Some k else (if b then Some k else o)) ≡ (if a || b then Some k else o)
first_or true b k o = refl
first_or false b k o = refl

joined-is : (k : Kind) (more : List (List Item)) (ps : List Production) (w : List ℕ)
    → kind_by (joined k more ps) w ≡ (if any_spells more w then Some k else kind_by ps w)
unfolding kind_by
joined-is k [] ps w = refl
joined-is k (items ∷ more) ps w =
    ap (λ o. if is_spelled items w then Some k else o) (joined-is k more ps w)
    ∙ first_or (is_spelled items w) (any_spells more w) k (kind_by ps w)

-- the kind of a unit and others is, of what is left behind it, the kind of the others
pub derive-is : (ps : List Production) (c : ℕ) (w : List ℕ)
    → kind_by ps (c ∷ w) ≡ kind_by (derive ps (symbol c)) w
unfolding kind_by
derive-is [] c w = refl
derive-is (p ∷ ps) c w = ap (λ b. if b then Some p.0 else kind_by ps (c ∷ w)) (left-is p.1 c w)
    ∙ ap (λ o. if any_spells (left p.1 (symbol c)) w then Some p.0 else o) (derive-is ps c w)
    ∙ sym (joined-is p.0 (left p.1 (symbol c)) (derive ps (symbol c)) w)
