-- Lists in parentheses, and rows of annotations.
use Rattle.std.proofs.Common.{◌≡◌, refl, sym, ◌∙◌, ap, subst, List, [], ◌∷◌, ◌++◌, inl, inr, append-nil, true, false}
use Rattle.java_grammar.specs.declared.part.Part.TheVariants as part
use Rattle.java_grammar.specs.declared.part.Pair.TheVariants as pair
use Rattle.java_grammar.specs.declared.sign.Sign.TheVariants as sign
use Rattle.java_grammar.specs.Marks.{Mark, Line}
use Rattle.java_grammar.specs.Words.{◌⨾◌, Either, Separated, Is, Comma, PerhapsCommas}
use Rattle.type_expr_parser.specs.Annotations.{annotation_over, annotation_at}
use Rattle.type_expr_parser.proofs.Lines.{none_bound}
use Rattle.type_expr_parser.proofs.TokenLaws.{sign_missing}
use Rattle.productions.specs.Keys.{Fixed, has, apart}
use Rattle.productions.specs.Productions.{Production, a_sign}
use Rattle.productions.specs.Leaves.{annotation}
use Rattle.productions.specs.Lists.{annotation_row, in_parentheses}
use Rattle.productions.specs.Laws.{Law, Refuses}
use Rattle.productions.proofs.Combining.{a_sign_law, after_law, before_law, made_law, spelled_law}
use Rattle.productions.proofs.Combining.{picked_law, sign_sure, made_sure}
use Rattle.productions.proofs.Rows.{row_law, separated_law}
use Rattle.productions.proofs.Leaves.{annotation_law}

-- ---- annotations

annotation_refuses : Refuses (Fixed sign.At ∷ []) annotation
unfolding annotation_at annotation_over
annotation_refuses = record {
  none = λ n text stops. none_bound _ (sign_missing sign.At text stops.0);
}

pub annotation_row_law : Law annotation_row
annotation_row_law = row_law (Fixed sign.At ∷ []) annotation_law refl refl annotation_refuses

-- ---- parentheses

abbrev Right : Line
Right = Is (part.Closing pair.Parentheses)

module _ {A : Type 0} (Spells : A → Line) where
  -- what the production says behind `(`
  abbrev Inside : List A → Line
  Inside xs =
      Either (λ text. (Unit {0}) × ([] ≡ xs) × Right text) (Separated Comma Spells xs ⨾ Right)

  to_inside : (xs : List A) (text : List Mark) → Inside xs text
      → (PerhapsCommas Spells xs ⨾ Right) text
  to_inside [] text (inl s) = record {
    front = [];
    rest = text;
    whole = refl;
    before = refl;
    after = s.2;
  }
  to_inside [] text (inr s) = absurd s.before
  to_inside (x ∷ xs) text (inl s) = let e = s.1 in absurd cc
  to_inside (x ∷ xs) text (inr s) = s

  of_inside : (xs : List A) (text : List Mark) → (PerhapsCommas Spells xs ⨾ Right) text
      → Inside xs text
  of_inside [] text s =
      let whole : s.rest ≡ text = sym (s.whole ∙ ap (λ l. l ++ s.rest) s.before) in
      inl (tt, refl, subst Right whole s.after)
  of_inside (x ∷ xs) text s = inr s

pub in_parentheses_law : {A : Type 0} {a : Production A} → Law a
    → apart a.goes (a_sign sign.Comma).begins ≡ true → a.empty ≡ false
    → apart a.goes (a_sign sign.RightParenthesis).begins ≡ true
    → has a.begins (Fixed sign.RightParenthesis) ≡ false
    → Law (in_parentheses a)
in_parentheses_law {a = a} la comma some right first =
    spelled_law
    (after_law (a_sign_law sign.LeftParenthesis)
    (picked_law (Fixed sign.RightParenthesis)
    (made_law (λ none. []) (a_sign_law sign.RightParenthesis))
    (before_law (separated_law sign.Comma la comma some) (a_sign_law sign.RightParenthesis) right)
    (made_sure {a = a_sign sign.RightParenthesis} (λ none. []) (sign_sure sign.RightParenthesis))
    refl (ap (λ l. has l (Fixed sign.RightParenthesis)) (append-nil a.begins) ∙ first)) refl)
    (record {
      to = λ xs text s. record {
        front = s.front;
        rest = s.rest;
        whole = s.whole;
        before = s.before;
        after = to_inside a.Spells xs s.rest s.after;
      };
      of = λ xs text s. record {
        front = s.front;
        rest = s.rest;
        whole = s.whole;
        before = s.before;
        after = of_inside a.Spells xs s.rest s.after;
      };
    })
