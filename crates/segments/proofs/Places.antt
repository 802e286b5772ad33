-- The ends as a set of places of the whole list.
use Rattle.std.proofs.Common.{◌≡◌, refl, sym, ◌∙◌, ap, ℕ, ◌+◌, ◌-◌, arith, Bool, true, false, not}
use Rattle.std.proofs.Common.{◌&&◌, ◌||◌, cond, List, [], ◌∷◌, ◌++◌, length, length-append, drop}
use Rattle.std.proofs.Common.{reverse}
use Rattle.std.specs.List.{prefix_len, after_last}
use Rattle.std.proofs.lemmas.List.{drop_all, drop-append-le, reverse-append}
use Rattle.java_token.specs.declared.token.TokenKind.{TokenKind}
use Rattle.java_token.specs.declared.token.TokenKind.TheVariants as kind
use Rattle.java_token.specs.declared.operator.OpTok.TheVariants.{Assign}
use Rattle.segments.specs.Brackets.{mark_of, mark_of_kind}
use Rattle.segments.specs.Words.{is_semicolon, is_assign, is_default, kind_is_semicolon}
use Rattle.segments.specs.Words.{kind_is_assign, kind_is_default}
use Rattle.segments.specs.Cut.{Piece, pieces, begins, last_begins, opens_braces, mark_is_braces}
use Rattle.segments.specs.Cut.{is_assigned, is_assigned_since_semicolon, is_end}
use Rattle.segments.specs.Segmentwise.{ends}
use Rattle.segments.specs.Places.{between, behind}
use Rattle.segments.proofs.Parts.{between_from, behind_from, between_is, behind_is}
use Rattle.segments.proofs.Ends.{between_ends, behind_ends}
use Rattle.segments.proofs.Forests.{Forest, flat}
use Rattle.segments.proofs.Pieces.{pieces_of, pieces_flat}
use Rattle.segments.proofs.Heads.{last_begins_end, is_assigned_end}

-- what stands behind the last item that passes, with one item more
after_last_end : {X : Type 0} (p : X → Bool) (xs : List X) (x : X)
    → after_last p (xs ++ x ∷ []) ≡ cond (p x) [] (after_last p xs ++ x ∷ [])
after_last_end {X} p xs x =
    ap (λ r. drop (length (xs ++ x ∷ []) - prefix_len fails r) (xs ++ x ∷ []))
    (reverse-append xs (x ∷ []))
    ∙ ap (λ n. drop (n - cond (fails x) (1 + k) 0) (xs ++ x ∷ [])) (length-append xs (x ∷ []))
    ∙ by (p x)
  where
    fails : X → Bool
    fails y = not (p y)

    k : ℕ
    k = prefix_len fails (reverse xs)

    by : (b : Bool) → drop ((length xs + 1) - cond (not b) (1 + k) 0) (xs ++ x ∷ [])
        ≡ cond b [] (drop (length xs - k) xs ++ x ∷ [])
    by true =
        drop_all ((length xs + 1) - 0) (xs ++ x ∷ []) (omega (arith, length-append xs (x ∷ [])))
    by false =
        let same : (length xs + 1) - (1 + k) ≡ length xs - k = omega arith in
        ap (λ n. drop n (xs ++ x ∷ [])) same
        ∙ drop-append-le (length xs - k) xs (x ∷ []) (omega arith)

assigned_since_end : (ps : List Piece) (p : Piece)
    → is_assigned_since_semicolon (ps ++ p ∷ [])
    ≡ (not (begins is_semicolon p) && (is_assigned_since_semicolon ps || begins is_assign p))
unfolding is_assigned_since_semicolon
assigned_since_end ps p =
    ap is_assigned (after_last_end (begins is_semicolon) ps p) ∙ by (begins is_semicolon p) where
      by : (b : Bool) → is_assigned (cond b [] (after_last (begins is_semicolon) ps ++ p ∷ []))
          ≡ (not b && (is_assigned (after_last (begins is_semicolon) ps) || begins is_assign p))
      by true = refl
      by false = is_assigned_end (after_last (begins is_semicolon) ps) p

-- ---- an end is no `=` and no `default`

no_assign_kind : (k : TokenKind) → mark_is_braces (mark_of_kind k) ≡ true → kind_is_assign k
    ≡ false
no_assign_kind (kind.Op Assign) e = cc
no_assign_kind (kind.Op op) e = refl
no_assign_kind k e = refl

no_default_brace : (k : TokenKind) → mark_is_braces (mark_of_kind k) ≡ true
    → kind_is_default k ≡ false
no_default_brace (kind.Keyword w) e = cc
no_default_brace k e = refl

no_default_semicolon : (k : TokenKind) → kind_is_semicolon k ≡ true → kind_is_default k ≡ false
no_default_semicolon (kind.Keyword w) e = cc
no_default_semicolon k e = refl

no_assign : (p : Piece) → begins opens_braces p ≡ true → begins is_assign p ≡ false
unfolding opens_braces mark_of is_assign
no_assign [] e = cc
no_assign (t ∷ ts) e = no_assign_kind t.kind e

no_default : (p : Piece) → begins opens_braces p ≡ true → begins is_default p ≡ false
unfolding opens_braces mark_of is_default
no_default [] e = cc
no_default (t ∷ ts) e = no_default_brace t.kind e

semicolon_no_default : (p : Piece) → begins is_semicolon p ≡ true → begins is_default p ≡ false
unfolding is_semicolon is_default
semicolon_no_default [] e = cc
semicolon_no_default (t ∷ ts) e = no_default_semicolon t.kind e

-- ---- both ways to say where the ends are

-- the whole list and the segment agree on what the ends ask
pub record Agree (all before : List Piece) : Type 0 where
  pub assigned : is_assigned_since_semicolon all ≡ is_assigned before
  pub default_ : last_begins is_default all ≡ last_begins is_default before

same_ends : (all before : List Piece) → Agree all before → (p : Piece)
    → is_end all p ≡ ends before p
same_ends all before h p =
    ap (λ a. begins is_semicolon p
    || (begins opens_braces p && not (a || last_begins is_default all))) h.assigned
    ∙ ap (λ b. begins is_semicolon p
    || (begins opens_braces p && not (is_assigned before || b))) h.default_

going : (all before : List Piece) → Agree all before → (p : Piece) → ends before p ≡ false
    → Agree (all ++ p ∷ []) (before ++ p ∷ [])
going all before h p e = record {
  assigned = assigned_since_end all p
      ∙ ap (λ a. not (begins is_semicolon p) && (a || begins is_assign p)) h.assigned
      ∙ by (begins is_semicolon p) e ∙ sym (is_assigned_end before p);
  default_ = last_begins_end is_default all p ∙ sym (last_begins_end is_default before p);
} where
  by : (b : Bool)
      → (b || (begins opens_braces p && not (is_assigned before || last_begins is_default before)))
      ≡ false
      → (not b && (is_assigned before || begins is_assign p))
      ≡ (is_assigned before || begins is_assign p)
  by true e = cc
  by false e = refl

ended : (all before : List Piece) → Agree all before → (p : Piece) → ends before p ≡ true
    → Agree (all ++ p ∷ []) []
ended all before h p e =
    by (begins is_semicolon p) refl (begins opens_braces p) refl (is_assigned before) refl e where
      by : (s : Bool) → begins is_semicolon p ≡ s → (b : Bool) → begins opens_braces p ≡ b
          → (a : Bool)
          → is_assigned before ≡ a
          → ends before p ≡ true → Agree (all ++ p ∷ []) []
      by true es b eb a ea e = record {
        assigned = assigned_since_end all p
            ∙ ap (λ x. not x && (is_assigned_since_semicolon all || begins is_assign p)) es;
        default_ = last_begins_end is_default all p ∙ semicolon_no_default p es;
      }
      by false es true eb false ea e = record {
        assigned = assigned_since_end all p
            ∙ ap (λ x. not x && (is_assigned_since_semicolon all || begins is_assign p)) es
            ∙ ap (λ x. x || begins is_assign p) (h.assigned ∙ ea) ∙ no_assign p eb;
        default_ = last_begins_end is_default all p ∙ no_default p eb;
      }
      by false es true eb true ea e =
          absurd
          (never (last_begins is_default before)
          (sym (ap (λ x. x
          || (begins opens_braces p && not (is_assigned before || last_begins is_default before)))
          es
          ∙ ap (λ x. x && not (is_assigned before || last_begins is_default before)) eb
          ∙ ap (λ x. not (x || last_begins is_default before)) ea) ∙ e))
        where
          never : (x : Bool) → not (true || x) ≡ true → ⊥
          never x e = cc
      by false es false eb a ea e =
          absurd
          (never (not (is_assigned before || last_begins is_default before))
          (sym (ap (λ x. x
          || (begins opens_braces p && not (is_assigned before || last_begins is_default before)))
          es
          ∙ ap (λ x. x && not (is_assigned before || last_begins is_default before)) eb) ∙ e))
        where
          never : (x : Bool) → (false && x) ≡ true → ⊥
          never x e = cc

pub same_between : (ps all before : List Piece) → Agree all before
    → between_from is_end all before ps ≡ between_ends before ps
same_between [] all before h = refl
same_between (p ∷ ps) all before h = by (ends before p) refl (same_between ps) where
  by : (b : Bool) → ends before p ≡ b
      → ((all before : List Piece) → Agree all before
      → between_from is_end all before ps ≡ between_ends before ps)
      → between_from is_end all before (p ∷ ps) ≡ between_ends before (p ∷ ps)
  by true e more =
      ap (λ b. cond b ((before, p) ∷ between_from is_end (all ++ p ∷ []) [] ps)
      (between_from is_end (all ++ p ∷ []) (before ++ p ∷ []) ps)) (same_ends all before h p ∙ e)
      ∙ ap (λ x. (before, p) ∷ x) (more (all ++ p ∷ []) [] (ended all before h p e))
      ∙ sym (ap (λ b. cond b ((before, p) ∷ between_ends [] ps)
      (between_ends (before ++ p ∷ []) ps)) e)
  by false e more =
      ap (λ b. cond b ((before, p) ∷ between_from is_end (all ++ p ∷ []) [] ps)
      (between_from is_end (all ++ p ∷ []) (before ++ p ∷ []) ps)) (same_ends all before h p ∙ e)
      ∙ more (all ++ p ∷ []) (before ++ p ∷ []) (going all before h p e)
      ∙ sym (ap (λ b. cond b ((before, p) ∷ between_ends [] ps)
      (between_ends (before ++ p ∷ []) ps)) e)

pub same_behind : (ps all before : List Piece) → Agree all before
    → behind_from is_end all before ps ≡ behind_ends before ps
same_behind [] all before h = refl
same_behind (p ∷ ps) all before h = by (ends before p) refl (same_behind ps) where
  by : (b : Bool) → ends before p ≡ b
      → ((all before : List Piece) → Agree all before
      → behind_from is_end all before ps ≡ behind_ends before ps)
      → behind_from is_end all before (p ∷ ps) ≡ behind_ends before (p ∷ ps)
  by true e more =
      ap (λ b. cond b (behind_from is_end (all ++ p ∷ []) [] ps)
      (behind_from is_end (all ++ p ∷ []) (before ++ p ∷ []) ps)) (same_ends all before h p ∙ e)
      ∙ more (all ++ p ∷ []) [] (ended all before h p e)
      ∙ sym (ap (λ b. cond b (behind_ends [] ps) (behind_ends (before ++ p ∷ []) ps)) e)
  by false e more =
      ap (λ b. cond b (behind_from is_end (all ++ p ∷ []) [] ps)
      (behind_from is_end (all ++ p ∷ []) (before ++ p ∷ []) ps)) (same_ends all before h p ∙ e)
      ∙ more (all ++ p ∷ []) (before ++ p ∷ []) (going all before h p e)
      ∙ sym (ap (λ b. cond b (behind_ends [] ps) (behind_ends (before ++ p ∷ []) ps)) e)

pub nothing_before : Agree [] []
unfolding is_assigned_since_semicolon
nothing_before = record { assigned = refl; default_ = refl }

-- the ends of a list
pub parts_are : (ps : List Piece) → between is_end ps ≡ between_ends [] ps
parts_are ps = between_is is_end ps ∙ same_between ps [] [] nothing_before

pub left_is : (ps : List Piece) → behind is_end ps ≡ behind_ends [] ps
left_is ps = behind_is is_end ps ∙ same_behind ps [] [] nothing_before

-- the ends of a forest
pub parts_flat : (f : Forest) → between is_end (pieces (flat f)) ≡ between_ends [] (pieces_of f)
parts_flat f = ap (between is_end) (pieces_flat f) ∙ parts_are (pieces_of f)

pub left_flat : (f : Forest) → behind is_end (pieces (flat f)) ≡ behind_ends [] (pieces_of f)
left_flat f = ap (behind is_end) (pieces_flat f) ∙ left_is (pieces_of f)
