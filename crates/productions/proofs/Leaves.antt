-- Laws of tokens, ends, names and annotations.
use Rattle.std.proofs.Common.{◌≡◌, refl, sym, ◌∙◌, ap, subst, ℕ, suc, ◌≤◌, arith}
use Rattle.std.proofs.Common.{Bool, true, false, List, [], ◌∷◌, ◌++◌, length, None, ◌⊎◌, inl, inr}
use Rattle.std.specs.Prelude.{if◌then◌else◌, nat_eq, not}
use Rattle.std.proofs.lemmas.Cmp.{nat_list_eq_equiv}
use Rattle.std.specs.Cmp.Lexicographic.{same_text}
use lib.Pointwise.{pointwise}
use Rattle.java_token.specs.declared.token.Token.{Token}
use Rattle.java_token.specs.declared.token.TokenKind.{TokenKind}
use Rattle.java_token.specs.declared.token.TokenKind.TheVariants as kind
use Rattle.java_ast.specs.declared.annotation.AnnTree.{AnnTree, out-AnnTree}
use Rattle.java_grammar.specs.declared.part.Part.TheVariants as part
use Rattle.java_grammar.specs.declared.sign.Sign.{Sign}
use Rattle.java_grammar.specs.declared.sign.Sign.TheVariants as sign
use Rattle.java_grammar.specs.Marks.{Mark, Single, Angle, Group, Semi}
use Rattle.java_grammar.specs.Signs.{sign_is, sign_part}
use Rattle.java_grammar.specs.Words.{Row, Word, ClosingAngle}
use Rattle.java_grammar.specs.Parts.{part_of, kind_part, is_sealed_name}
use Rattle.java_grammar.specs.Tests.{is_word}
use Rattle.java_grammar.specs.Reading.{front_part, is_angle, is_group, is_semi, behind_mark, IsFront}
use Rattle.java_grammar.specs.Expressions.{Dot, QName}
use Rattle.java_grammar.specs.Annotations.{AnnSpells}
use Rattle.java_grammar.specs.Members.{SkippedGroup, Semicolon}
use Rattle.type_expr_parser.specs.Reading.{found, ◌>>=◌, front_line, comes, sign_at, word_at, word_in}
use Rattle.type_expr_parser.specs.Names.{further_word_at}
use Rattle.type_expr_parser.proofs.Lines.{left_is, bound, bind_is, front_as, regroup}
use Rattle.type_expr_parser.proofs.Lines.{both_lengths, to_row}
use Rattle.type_expr_parser.proofs.TokenLaws.{sign_again, sign_takes_on, sign_comes, on_any_line, word_again}
use Rattle.type_expr_parser.proofs.TokenLaws.{word_takes, word_takes_on, any_line, word_line}
use Rattle.type_expr_parser.proofs.NameLaws.{qname_takes, qname_again, further_missing}
use Rattle.type_expr_parser.proofs.AnnTakes.{given, annotations_takes, annotation_spelled}
use Rattle.type_expr_parser.proofs.AnnAgain.{annotation_again}
use Rattle.type_expr_parser.proofs.ArgAgain.{annotations_again}
use Rattle.productions.specs.Keys.{Key, Fixed, Spelled, Keyword, Annotated, Sealing, NonSealing}
use Rattle.productions.specs.Keys.{Dotted, word_by, kind_is_word, NoToken, Inside, here, Stops, has, front_may, word_may}
use Rattle.productions.specs.Keys.{any_word, With, AnAngle, AnEnd}
use Rattle.productions.specs.Leaves.{a_sign_on, name, name_on, the_word, angle}
use Rattle.productions.specs.Leaves.{skipped_group, semicolon, qualified_name, annotations}
use Rattle.productions.specs.Leaves.{annotation}
use Rattle.productions.specs.Laws.{Law, Sure}
use Rattle.productions.proofs.Lists.{if_false}
use Rattle.productions.proofs.Fronts.{part_key, the_word_key, any_word_key}

-- ---- tokens

pub a_sign_on_law : (s : Sign) → Law (a_sign_on s)
a_sign_on_law s = record {
  takes = λ n text line left e.
      let p = bound (sign_at s text) (λ x. found (front_line text) x.1) line left e in
      given (a_sign_on s).Spells p.second (sign_takes_on s text p.item p.rest p.first);
  again = λ n line text left t few stops.
      bind_is (λ x. found (front_line (text ++ left)) x.1)
      (sign_again s text left (on_any_line line (sign_part s) text t))
      (ap (λ l. found (front_line (l ++ left)) left) t.whole ∙ ap (λ l. found l left) t.on);
  first = λ line text left k t stops h f.
      part_key k (sign_part s) text left (on_any_line line (sign_part s) text t)
      (if_false (front_may (sign_part s) k) false h).0;
  some = λ e line text t. let l = ap length t.whole in omega arith;
}

any_word_may : (k : Key) → has any_word k ≡ false
    → (front_may part.Word k ≡ false) × (front_may part.Sealed k ≡ false)
any_word_may k h =
    let f = if_false (front_may part.Word k) (has (With part.Sealed ∷ []) k) h in
    (f.0, (if_false (front_may part.Sealed k) false f.1).0)

word_first : (k : Key) (word : List ℕ) (text left : List Mark) → Word word text
    → has any_word k ≡ false → here k (text ++ left) ≡ false
word_first k word text left x h =
    let f = any_word_may k h in any_word_key k word text left x f.0 f.1

pub name_law : Law name
name_law = record {
  takes = λ n text x left e. word_takes text x left e;
  again = λ n x text left s few stops. word_again x text left s;
  first = λ x text left k s stops h f. word_first k x text left s h;
  some = λ e x text s. let l = ap length s.whole in omega arith;
}

pub name_on_law : Law name_on
name_on_law = record {
  takes = λ n text x left e.
      let p = bound (word_at text) (λ x. found (front_line text, x.0) x.1) x left e in
      given name_on.Spells p.second (word_takes_on text p.item p.rest p.first);
  again = λ n x text left s few stops.
      bind_is (λ y. found (front_line (text ++ left), y.0) y.1)
      (word_again x.1 text left (any_line x.0 x.1 text s))
      (ap (λ l. found (l, x.1) left) (word_line x.0 x.1 text left s));
  first = λ x text left k s stops h f.
      word_first k x.1 text left (any_line x.0 x.1 text s) h;
  some = λ e x text s. let l = ap length s.whole in omega arith;
}

the_word_by : (word name : List ℕ) (text rest : List Mark) (u : Unit {0}) (left : List Mark)
    (b : Bool) → pointwise nat_eq name word ≡ b → IsFront (Word name) text rest
    → (if b then found tt rest else None) ≡ found u left → IsFront (Word word) text left
the_word_by word name text rest u left true e s h =
    given (λ v. Word word) h (front_as (λ t x. subst (λ w. Word w t) (same_text name word (sym e)) x)
    s)
the_word_by word name text rest u left false e s h = absurd cc

pub the_word_law : (word : List ℕ) → Law (the_word word)
the_word_law word = record {
  takes = λ n text u left e.
      let p = bound (word_at text)
      (λ x. if pointwise nat_eq x.0 word then found tt x.1 else None) u left e in
      the_word_by word p.item text p.rest u left (pointwise nat_eq p.item word) refl
      (word_takes text p.item p.rest p.first) p.second;
  again = λ n u text left s few stops.
      bind_is (λ x. if pointwise nat_eq x.0 word then found tt x.1 else None)
      (word_again word text left s)
      (ap (λ b. if b then found tt left else None) (nat_list_eq_equiv.refl word));
  first = λ u text left k s stops h f.
      the_word_key k word text left s (if_false (word_may word k) false h).0;
  some = λ e u text s. let l = ap length s.whole in omega arith;
}

pub the_word_sure : (word : List ℕ) → Sure (Spelled word) (the_word word)
the_word_sure word = record {
  comes = λ u text left s stops.
      ap (λ l. here (Spelled word) (l ++ left)) s.whole ∙ ap (kind_is_word word) s.word
      ∙ nat_list_eq_equiv.refl word;
}

-- ---- closing angles and ends

angle_takes : (text : List Mark) (x : Unit {0}) (left : List Mark)
    → (if is_angle text then found tt (behind_mark text) else None) ≡ found x left
    → IsFront ClosingAngle text left
angle_takes [] x left e = absurd cc
angle_takes (Single t ∷ text) x left e = absurd cc
angle_takes (Angle more ∷ text) x left e = record {
  front = Angle more ∷ [];
  whole = let same : text ≡ left = left_is e in ap (λ l. Angle more ∷ l) same;
  spelled = (more, refl);
}
angle_takes (Group ∷ text) x left e = absurd cc
angle_takes (Semi ∷ text) x left e = absurd cc

angle_first : (k : Key) (more : Bool) (left : List Mark) → has (AnAngle ∷ []) k ≡ false
    → here k (Angle more ∷ left) ≡ false
angle_first (Fixed s) more left h = refl
angle_first (Spelled name) more left h = refl
angle_first Keyword more left h = refl
angle_first Annotated more left h = refl
angle_first Sealing more left h = refl
angle_first NonSealing more left h = refl
angle_first Dotted more left h = refl
angle_first NoToken more left h = absurd cc
angle_first Inside more left h = absurd cc

pub angle_law : Law angle
angle_law = record {
  takes = λ n text x left e. angle_takes text x left e;
  again = λ n x text left s few stops. ap (λ l. angle.read n (l ++ left)) s.1;
  first = λ x text left k s stops h f.
      ap (λ l. here k (l ++ left)) s.1 ∙ angle_first k s.0 left h;
  some = λ e x text s. let l = ap length s.1 in omega arith;
}

end_first : (k : Key) (m : Mark) (left : List Mark) → (m ≡ Group) ⊎ (m ≡ Semi)
    → has (AnEnd ∷ []) k ≡ false → here k (m ∷ left) ≡ false
end_first k m left (inl e) h = ap (λ n. here k (n ∷ left)) e ∙ by k h
  where
    by : (k : Key) → has (AnEnd ∷ []) k ≡ false → here k (Group ∷ left) ≡ false
    by (Fixed s) h = refl
    by (Spelled name) h = refl
    by Keyword h = refl
    by Annotated h = refl
    by Sealing h = refl
    by NonSealing h = refl
    by Dotted h = refl
    by NoToken h = absurd cc
    by Inside h = refl
end_first k m left (inr e) h = ap (λ n. here k (n ∷ left)) e ∙ by k h
  where
    by : (k : Key) → has (AnEnd ∷ []) k ≡ false → here k (Semi ∷ left) ≡ false
    by (Fixed s) h = refl
    by (Spelled name) h = refl
    by Keyword h = refl
    by Annotated h = refl
    by Sealing h = refl
    by NonSealing h = refl
    by Dotted h = refl
    by NoToken h = absurd cc
    by Inside h = refl

group_takes : (text : List Mark) (x : Unit {0}) (left : List Mark)
    → (if is_group text then found tt (behind_mark text) else None) ≡ found x left
    → IsFront SkippedGroup text left
group_takes [] x left e = absurd cc
group_takes (Single t ∷ text) x left e = absurd cc
group_takes (Angle more ∷ text) x left e = absurd cc
group_takes (Group ∷ text) x left e = record {
  front = Group ∷ [];
  whole = let same : text ≡ left = left_is e in ap (λ l. Group ∷ l) same;
  spelled = refl;
}
group_takes (Semi ∷ text) x left e = absurd cc

pub skipped_group_law : Law skipped_group
skipped_group_law = record {
  takes = λ n text x left e. group_takes text x left e;
  again = λ n x text left s few stops. ap (λ l. skipped_group.read n (l ++ left)) s;
  first = λ x text left k s stops h f.
      ap (λ l. here k (l ++ left)) s ∙ end_first k Group left (inl refl) h;
  some = λ e x text s. let l = ap length s in omega arith;
}

semi_takes : (text : List Mark) (x : Unit {0}) (left : List Mark)
    → (if is_semi text then found tt (behind_mark text) else None) ≡ found x left
    → IsFront Semicolon text left
semi_takes [] x left e = absurd cc
semi_takes (Single t ∷ text) x left e = absurd cc
semi_takes (Angle more ∷ text) x left e = absurd cc
semi_takes (Semi ∷ text) x left e = record {
  front = Semi ∷ [];
  whole = let same : text ≡ left = left_is e in ap (λ l. Semi ∷ l) same;
  spelled = refl;
}
semi_takes (Group ∷ text) x left e = absurd cc

pub semicolon_law : Law semicolon
semicolon_law = record {
  takes = λ n text x left e. semi_takes text x left e;
  again = λ n x text left s few stops. ap (λ l. semicolon.read n (l ++ left)) s;
  first = λ x text left k s stops h f.
      ap (λ l. here k (l ++ left)) s ∙ end_first k Semi left (inr refl) h;
  some = λ e x text s. let l = ap length s in omega arith;
}

-- ---- names

no_word_by : (t : Token) (k : TokenKind) (rest : List Mark) → t.kind ≡ k
    → is_word (kind_part k) ≡ false
    → (word_in k >>= λ n. found n rest) ≡ None
no_word_by t (kind.Word word) rest e h = absurd (by (is_sealed_name word) h)
  where
    by : (b : Bool) → is_word (if b then part.Sealed else part.Word) ≡ false → ⊥
    by true e = cc
    by false e = cc
no_word_by t (kind.Keyword k) rest e h = refl
no_word_by t (kind.Lit l) rest e h = refl
no_word_by t (kind.Op o) rest e h = refl

no_word_at : (text : List Mark) → word_by (front_part text) ≡ false → word_at text ≡ None
unfolding word_at part_of
no_word_at [] h = refl
no_word_at (Single t ∷ text) h = no_word_by t t.kind text refl h
no_word_at (Angle more ∷ text) h = refl
no_word_at (Group ∷ text) h = refl
no_word_at (Semi ∷ text) h = refl

dot_by : (text : List Mark) (b : Bool) → comes sign.Dot text ≡ b
    → (if b then word_by (front_part (behind_mark text)) else false) ≡ false
    → further_word_at text ≡ None
unfolding further_word_at
dot_by text false e h = further_missing text e
dot_by text true e h =
    let x = sign_comes sign.Dot text e in
    ap (λ l. sign_at sign.Dot l >>= λ dot. word_at dot.1) x.whole
    ∙ bind_is (λ dot. word_at dot.1) (sign_again sign.Dot x.front (behind_mark text) x.spelled)
    (no_word_at (behind_mark text) h)

-- no further word, where no dot before a word comes
no_further : (text : List Mark) → here Dotted text ≡ false → further_word_at text ≡ None
no_further text h = dot_by text (comes sign.Dot text) refl h

qname_first : (words : List (List ℕ)) (text left : List Mark) (k : Key) → QName words text
    → has any_word k ≡ false → here k (text ++ left) ≡ false
qname_first [] text left k s h = absurd s
qname_first (w ∷ words) text left k s h =
    let r = to_row Dot Word w words text s in
    ap (here k) (regroup r left) ∙ word_first k w r.front (r.rest ++ left) r.before h

qname_some : (words : List (List ℕ)) (text : List Mark) → QName words text → 1 ≤ length text
qname_some [] text s = absurd s
qname_some (w ∷ words) text s =
    let r = to_row Dot Word w words text s in
    let l = both_lengths r in
    let m = ap length r.before.whole in
    omega arith

pub qualified_name_law : Law qualified_name
qualified_name_law = record {
  takes = qname_takes;
  again = λ n words text left s few stops.
      let fits : length text ≤ suc n = omega arith in
      qname_again n words text left s fits (no_further left stops.0);
  first = λ words text left k s stops h f. qname_first words text left k s h;
  some = λ e words text s. qname_some words text s;
}

-- ---- annotations

pub at_may : (k : Key) → has (With part.At ∷ []) k ≡ false → front_may part.At k ≡ false
at_may k h = (if_false (front_may part.At k) false h).0

annotation_first : (a : AnnTree) (text left : List Mark) (k : Key) → AnnSpells a text
    → has (With part.At ∷ []) k ≡ false → here k (text ++ left) ≡ false
annotation_first a text left k s h =
    let z = s.1 in
    let at = on_any_line (out-AnnTree a).line part.At z.front z.before in
    ap (here k) (regroup z left) ∙ part_key k part.At z.front (z.rest ++ left) at (at_may k h)

pub annotations_first : (anns : List AnnTree) (text left : List Mark) (k : Key)
    → Row AnnSpells anns text → has (With part.At ∷ []) k ≡ false
    → here k left ≡ false → here k (text ++ left) ≡ false
annotations_first [] text left k s h e = ap (λ l. here k (l ++ left)) s ∙ e
annotations_first (a ∷ anns) text left k s h e =
    ap (here k) (regroup s left) ∙ annotation_first a s.front (s.rest ++ left) k s.before h

pub annotations_law : Law annotations
annotations_law = record {
  takes = λ n text x left e. given annotations.Spells e (annotations_takes n text);
  again = λ n x text left s few stops.
      ap (found tt) (annotations_again n text left s few (record {
        word = further_missing left stops.1.0;
        group = stops.1.1.0;
      }) stops.0);
  first = λ x text left k s stops h f. annotations_first s.0 text left k s.1 h (f refl);
  some = λ e x text s. absurd cc;
}

pub annotation_law : Law annotation
annotation_law = record {
  takes = annotation_spelled;
  again = λ n a text left s few stops.
      let fits : length text ≤ suc n = omega arith in
      annotation_again n a text left s fits (record {
        word = further_missing left stops.0;
        group = stops.1.0;
      });
  first = λ a text left k s stops h f. annotation_first a text left k s h;
  some = λ e a text s.
      let l = both_lengths s.1 in let m = ap length s.1.before.whole in omega arith;
}

-- behind the `@` of an annotation is a word
pub annotation_sure : Sure Annotated annotation
annotation_sure = record { comes = sure }
  where
    sure : (a : AnnTree) (text left : List Mark) → AnnSpells a text → Stops annotation.goes left
        → here Annotated (text ++ left) ≡ true
    sure a text left s stops =
        let z = s.1 in
        let q = z.after in
        let at = on_any_line (out-AnnTree a).line part.At z.front z.before in
        let none : comes sign.Interface (z.rest ++ left) ≡ false =
        ap (comes sign.Interface) (regroup q left)
        ∙ qname_first (out-AnnTree a).names q.front (q.rest ++ left) (Fixed sign.Interface) q.before
        refl in
        ap (here Annotated) (regroup z left ∙ ap (λ l. l ++ (z.rest ++ left)) at.whole)
        ∙ ap (λ p. if sign_is sign.At p then not (comes sign.Interface (z.rest ++ left)) else false)
        at.part
        ∙ ap not none
