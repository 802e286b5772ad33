-- Modifiers: what is read is what the grammar spells.
use Rattle.std.proofs.Common.{◌≡◌, refl, ◌∙◌, ap, subst, ℕ, Bool, true, false, List, [], ◌∷◌}
use Rattle.std.proofs.Common.{◌++◌, length, Option, Some, None, arith, inl, inr, ◌⊎◌}
use Rattle.std.specs.Prelude.{if◌then◌else◌, is_none, nat_eq}
use lib.Pointwise.{pointwise}
use Rattle.java_token.specs.declared.token.Token.{Token}
use Rattle.java_token.specs.declared.token.TokenKind.{TokenKind}
use Rattle.java_token.specs.declared.token.TokenKind.TheVariants as kind
use Rattle.java_ast.specs.declared.annotation.AnnTree.{AnnTree}
use Rattle.java_grammar.specs.declared.modifier.Modifier.{Modifier}
use Rattle.java_grammar.specs.declared.modifier.Modifier.TheVariants as item
use Rattle.java_grammar.specs.declared.part.Part.{Part}
use Rattle.java_grammar.specs.declared.part.Part.TheVariants as part
use Rattle.java_grammar.specs.declared.part.ModifierWord.{ModifierWord}
use Rattle.java_grammar.specs.declared.part.ModifierWord.TheVariants as modifier
use Rattle.java_grammar.specs.declared.sign.Sign.TheVariants as sign
use Rattle.java_grammar.specs.Marks.{Mark, Single, Angle, Group, Semi}
use Rattle.java_grammar.specs.Parts.{part_of, kind_part}
use Rattle.java_grammar.specs.Signs.{sign_is, sign_part}
use Rattle.java_grammar.specs.Tests.{is_sealed}
use Rattle.java_grammar.specs.Words.{◌⨾◌, Is, Word}
use Rattle.java_grammar.specs.Annotations.{AnnSpells}
use Rattle.java_grammar.specs.Reading.{front_part, behind_mark, IsFront}
use Rattle.java_grammar.specs.Modifiers.{ModifierLine}
use Rattle.type_expr_parser.specs.Reading.{found, ◌>>=◌, comes, comes_by, sign_at, word_in, word_at}
use Rattle.type_expr_parser.proofs.Lines.{value_is, left_is, none_bound}
use Rattle.type_expr_parser.proofs.TokenLaws.{sign_missing}
use Rattle.productions.specs.Keys.{Key, Fixed, Keyword, Annotated, Sealing, NonSealing, NoToken}
use Rattle.productions.specs.Keys.{here, has, front_may, follows_by, is_keyword, word_comes}
use Rattle.productions.specs.Keys.{kind_is_word}
use Rattle.productions.specs.Productions.{made}
use Rattle.productions.specs.Leaves.{the_word_at, annotation}
use Rattle.productions.specs.Laws.{Law, Sure, Refuses}
use Rattle.productions.proofs.Lists.{if_false}
use Rattle.productions.proofs.Fronts.{part_key}
use Rattle.productions.proofs.Combining.{a_sign_law, after_law, made_law, checked_law, spelled_law}
use Rattle.productions.proofs.Combining.{wider_law, picked_law, made_sure, made_refuses, picked_refuses}
use Rattle.productions.proofs.Rows.{row_law}
use Rattle.productions.proofs.Leaves.{the_word_law, annotation_law, annotation_sure}
use Rattle.head_parser.specs.Modifiers.{keyword_by, keyword_at, keywords, keyword, word_sealed}
use Rattle.head_parser.specs.Modifiers.{word_non, sealed_line, non_sealed_line, modifier_line}
use Rattle.head_parser.specs.Modifiers.{modifier_keys, checked_modifiers, modifiers}
use Rattle.head_parser.proofs.EachOnce.{checked_is, is_checked}

-- ---- keywords

keyword_takes_by : (t : Token) (rest : List Mark) (word : ModifierWord) (left : List Mark) (p : Part)
    → part_of t ≡ p → keyword_by (Some p) (Single t ∷ rest) ≡ found word left
    → IsFront (Is (part.Modifier word)) (Single t ∷ rest) left
keyword_takes_by t rest word left (part.Modifier w) e h =
    let same : rest ≡ left = left_is h in
    let one : w ≡ word = value_is h in
    record {
      front = Single t ∷ [];
      whole = ap (λ l. Single t ∷ l) same;
      spelled = record { token = t; whole = refl; part = e ∙ ap part.Modifier one };
    }
keyword_takes_by t rest word left p e h = absurd cc

keyword_takes : (text : List Mark) (word : ModifierWord) (left : List Mark)
    → keyword_at text ≡ found word left → IsFront (Is (part.Modifier word)) text left
unfolding keyword_at
keyword_takes [] word left e = absurd cc
keyword_takes (Single t ∷ rest) word left e = keyword_takes_by t rest word left (part_of t) refl e
keyword_takes (Angle more ∷ rest) word left e = absurd cc
keyword_takes (Group ∷ rest) word left e = absurd cc
keyword_takes (Semi ∷ rest) word left e = absurd cc

keyword_may : (w : ModifierWord) (k : Key) → has keywords k ≡ false
    → front_may (part.Modifier w) k ≡ false
keyword_may w k h =
    let a = if_false (front_may (part.Modifier modifier.Public) k) _ h in
    let b = if_false (front_may (part.Modifier modifier.Protected) k) _ a.1 in
    let c = if_false (front_may (part.Modifier modifier.Private) k) _ b.1 in
    let d = if_false (front_may (part.Modifier modifier.Abstract) k) _ c.1 in
    let e = if_false (front_may (part.Modifier modifier.Static) k) _ d.1 in
    let f = if_false (front_may (part.Modifier modifier.Final) k) _ e.1 in
    let g = if_false (front_may (part.Modifier modifier.Transient) k) _ f.1 in
    let i = if_false (front_may (part.Modifier modifier.Volatile) k) _ g.1 in
    let j = if_false (front_may (part.Modifier modifier.Synchronized) k) _ i.1 in
    let l = if_false (front_may (part.Modifier modifier.Native) k) _ j.1 in
    let m = if_false (front_may (part.Modifier modifier.Strictfp) k) _ l.1 in
    let n = if_false (front_may (part.Modifier modifier.Default) k) _ m.1 in
    by w (a.0, b.0, c.0, d.0, e.0, f.0, g.0, i.0, j.0, l.0, m.0, n.0)
  where
    No : ModifierWord → Type 0
    No v = front_may (part.Modifier v) k ≡ false

    by : (v : ModifierWord) → No modifier.Public × No modifier.Protected × No modifier.Private
        × No modifier.Abstract × No modifier.Static × No modifier.Final × No modifier.Transient
        × No modifier.Volatile × No modifier.Synchronized × No modifier.Native
        × No modifier.Strictfp × No modifier.Default
        → No v
    by modifier.Public x = x.0
    by modifier.Protected x = x.1
    by modifier.Private x = x.2
    by modifier.Abstract x = x.3
    by modifier.Static x = x.4
    by modifier.Final x = x.5
    by modifier.Transient x = x.6
    by modifier.Volatile x = x.7
    by modifier.Synchronized x = x.8
    by modifier.Native x = x.9
    by modifier.Strictfp x = x.10
    by modifier.Default x = x.11

pub keyword_law : Law keyword
unfolding keyword keyword_at
keyword_law = record {
  takes = λ n text word left e. keyword_takes text word left e;
  again = λ n word text left s few stops.
      ap (λ l. keyword_at (l ++ left)) s.whole
      ∙ ap (λ p. keyword_by (Some p) (Single s.token ∷ left)) s.part;
  first = λ word text left k s stops h f.
      part_key k (part.Modifier word) text left s (keyword_may word k h);
  some = λ e word text s. let l = ap length s.whole in omega arith;
}

keyword_sure : Sure Keyword keyword
unfolding keyword
keyword_sure = record {
  comes = λ word text left s stops.
      ap (λ l. here Keyword (l ++ left)) s.whole ∙ ap is_keyword s.part;
}

-- ---- `sealed` and `non-sealed`

pub sealed_law : Law sealed_line
unfolding sealed_line
sealed_law =
    wider_law (Fixed sign.Dot ∷ Fixed sign.LeftParenthesis ∷ NoToken ∷ []) (the_word_law word_sealed)

follows : (o : Option Part) → comes_by sign.Dot o ≡ false
    → comes_by sign.LeftParenthesis o ≡ false → is_none o ≡ false → follows_by o ≡ true
follows None dot group some = absurd cc
follows (Some p) dot group some =
    ap (λ b. if b then false else (if sign_is sign.LeftParenthesis p then false else true)) dot
    ∙ ap (λ b. if b then false else true) group

sealed_sure : Sure Sealing sealed_line
unfolding sealed_line part_of
sealed_sure = record {
  comes = λ none text left s stops.
      ap (λ l. here Sealing (l ++ left)) s.whole
      ∙ ap (λ q. if is_sealed (kind_part q) then follows_by (front_part left) else false) s.word
      ∙ follows (front_part left) stops.0 stops.1.0 stops.1.1.0;
}

pub non_sealed_law : Law non_sealed_line
unfolding non_sealed_line
non_sealed_law =
    after_law (the_word_law word_non)
    (after_law (a_sign_law sign.Minus) (the_word_law word_sealed) refl) refl

abbrev none : Unit {0}
none = tt

-- the word, or nothing, is read
word_kind : (word : List ℕ) (k : TokenKind) (rest : List Mark) (b : Bool)
    → kind_is_word word k ≡ b
    → ((word_in k >>= λ n. found n rest)
    >>= λ x. if pointwise nat_eq x.0 word then found none x.1 else None)
    ≡ (if b then found none rest else None)
word_kind word (kind.Word name) rest b e = ap (λ c. if c then found none rest else None) e
word_kind word (kind.Keyword w) rest b e = ap (λ c. if c then found none rest else None) e
word_kind word (kind.Lit l) rest b e = ap (λ c. if c then found none rest else None) e
word_kind word (kind.Op o) rest b e = ap (λ c. if c then found none rest else None) e

word_read : (word : List ℕ) (text : List Mark) → the_word_at word text
    ≡ (if word_comes word text then found none (behind_mark text) else None)
unfolding word_at
word_read word [] = refl
word_read word (Single t ∷ rest) =
    word_kind word t.kind rest (kind_is_word word t.kind) refl
word_read word (Angle more ∷ rest) = refl
word_read word (Group ∷ rest) = refl
word_read word (Semi ∷ rest) = refl

non_by : (n : ℕ) (text : List Mark) (b : Bool)
    → (if b then comes sign.Minus (behind_mark text) else false) ≡ false
    → ((if b then found none (behind_mark text) else None)
    >>= λ x. sign_at sign.Minus x.1 >>= λ y. the_word_at word_sealed y.1) ≡ None
non_by n text false h = refl
non_by n text true h = none_bound (λ y. the_word_at word_sealed y.1)
    (sign_missing sign.Minus (behind_mark text) h)

non_refuses : Refuses (NonSealing ∷ []) non_sealed_line
unfolding non_sealed_line
non_refuses = record {
  none = λ n text stops.
      ap (λ r. r >>= λ x. sign_at sign.Minus x.1 >>= λ y. the_word_at word_sealed y.1)
      (word_read word_non text)
      ∙ non_by n text (word_comes word_non text) stops.0;
}

-- ---- one modifier

pub modifier_law : Law modifier_line
unfolding modifier_line sealed_line non_sealed_line keyword
modifier_law =
    spelled_law
    (picked_law Annotated (made_law item.Annotation annotation_law)
    (picked_law Keyword (made_law item.Keyword keyword_law)
    (picked_law Sealing (made_law (λ none. item.Sealed) sealed_law)
    (made_law (λ none. item.NonSealed) non_sealed_law)
    (made_sure {a = sealed_line} (λ none. item.Sealed) sealed_sure) refl refl)
    (made_sure {a = keyword} item.Keyword keyword_sure) refl refl)
    (made_sure item.Annotation annotation_sure) refl refl)
    (record { to = to; of = of })
  where
    to : (m : Modifier) (text : List Mark)
        → (((a : AnnTree) × (item.Annotation a ≡ m) × AnnSpells a text)
        ⊎ (((w : ModifierWord) × (item.Keyword w ≡ m) × Is (part.Modifier w) text)
        ⊎ (((u : Unit {0}) × (item.Sealed ≡ m) × Word word_sealed text)
        ⊎ ((u : Unit {0}) × (item.NonSealed ≡ m) × (Word word_non
        ⨾ (Is (sign_part sign.Minus) ⨾ Word word_sealed)) text))))
        → ModifierLine m text
    to m text (inl s) = subst (λ x. ModifierLine x text) s.1 s.2
    to m text (inr (inl s)) = subst (λ x. ModifierLine x text) s.1 s.2
    to m text (inr (inr (inl s))) = subst (λ x. ModifierLine x text) s.1 s.2
    to m text (inr (inr (inr s))) = subst (λ x. ModifierLine x text) s.1 s.2

    of : (m : Modifier) (text : List Mark) → ModifierLine m text
        → (((a : AnnTree) × (item.Annotation a ≡ m) × AnnSpells a text)
        ⊎ (((w : ModifierWord) × (item.Keyword w ≡ m) × Is (part.Modifier w) text)
        ⊎ (((u : Unit {0}) × (item.Sealed ≡ m) × Word word_sealed text)
        ⊎ ((u : Unit {0}) × (item.NonSealed ≡ m) × (Word word_non
        ⨾ (Is (sign_part sign.Minus) ⨾ Word word_sealed)) text))))
    of (item.Annotation a) text s = inl (a, refl, s)
    of (item.Keyword w) text s = inr (inl (w, refl, s))
    of item.Sealed text s = inr (inr (inl (tt, refl, s)))
    of item.NonSealed text s = inr (inr (inr (tt, refl, s)))

-- ---- all of them

pub modifier_refuses : Refuses modifier_keys modifier_line
unfolding modifier_line
modifier_refuses = record {
  none = (picked_refuses (made item.Annotation annotation) {k = Annotated}
      (picked_refuses (made item.Keyword keyword) {k = Keyword}
      (picked_refuses (made (λ none. item.Sealed) sealed_line) {k = Sealing}
      (made_refuses {a = non_sealed_line} (λ none. item.NonSealed) non_refuses)))).none;
}

pub modifiers_law : Law modifiers
unfolding modifiers modifier_line sealed_line non_sealed_line keyword
modifiers_law =
    spelled_law
    (checked_law checked_modifiers
    (row_law modifier_keys modifier_law refl refl modifier_refuses))
    (record {
      to = λ mods text s.
          let c = checked_is s.0 mods s.1 in
          record {
            items = s.0;
            spelled = s.2;
            each_once = c.0;
            one_access = c.1;
            whole = c.2;
          };
      of = λ mods text s.
          (s.items, is_checked s.items mods s.each_once s.one_access s.whole, s.spelled);
    })
