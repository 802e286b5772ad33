-- Packages and imports: what is read is what the grammar spells.
use Rattle.std.proofs.Common.{◌≡◌, refl, ◌∙◌, ap, subst, Bool, true, false, List, [], ◌∷◌, ◌++◌}
use Rattle.std.proofs.Common.{inl, inr, Some}
use Rattle.std.specs.Prelude.{if◌then◌else◌}
use Rattle.java_ast.specs.declared.expression.BinOp.TheVariants as binary
use Rattle.java_grammar.specs.declared.part.Part.TheVariants as part
use Rattle.java_grammar.specs.declared.part.ModifierWord.TheVariants as modifier
use Rattle.java_grammar.specs.declared.sign.Sign.TheVariants as sign
use Rattle.java_grammar.specs.Marks.{Mark, Line}
use Rattle.java_grammar.specs.Signs.{sign_is}
use Rattle.java_grammar.specs.Reading.{front_part}
use Rattle.java_grammar.specs.Words.{Nothing, ◌⨾◌, Either, Is}
use Rattle.java_grammar.specs.Units.{Static, OnDemand}
use Rattle.type_expr_parser.proofs.Lines.{regroup}
use Rattle.productions.specs.Keys.{Key, Fixed, Spelled, Keyword, Annotated, Sealing, NonSealing}
use Rattle.productions.specs.Keys.{Dotted, NoToken, Inside, word_by, here, has, DotStar}
use Rattle.productions.specs.Laws.{Law, Sure}
use Rattle.productions.proofs.Fronts.{part_key}
use Rattle.productions.proofs.Lists.{if_false}
use Rattle.productions.proofs.Combining.{a_sign_law, nothing_law, then_law, after_law, before_law}
use Rattle.productions.proofs.Combining.{made_law, spelled_law, narrowed_law, picked_law, sign_sure}
use Rattle.productions.proofs.Combining.{after_sure, made_sure}
use Rattle.productions.proofs.Leaves.{a_sign_on_law, semicolon_law, qualified_name_law}
use Rattle.head_parser.specs.Units.{package_line, static_word, dot_star, on_demand, ImportLine, import_line}

pub package_law : Law package_line
unfolding package_line
package_law =
    spelled_law
    (after_law (a_sign_law sign.Package) (before_law qualified_name_law semicolon_law refl) refl)
    (record { to = λ words t s. s; of = λ words t s. s })

-- ---- what is there, or not, as a truth value

abbrev There : Line → Bool → Line
There line b = Either (λ text. (Unit {0}) × (true ≡ b) × line text)
    (λ text. (b ≡ false) × Nothing text)

pub static_law : Law static_word
unfolding static_word
static_law =
    spelled_law
    (picked_law (Fixed sign.Static) (made_law _ (a_sign_law sign.Static)) (nothing_law false)
    (made_sure _ (sign_sure sign.Static)) refl refl)
    (record { to = to; of = of })
  where
    to : (b : Bool) (text : List Mark) → There (Is (part.Modifier modifier.Static)) b text
        → Static b text
    to true text (inl s) = s.2
    to true text (inr s) = let e = s.0 in absurd cc
    to false text (inl s) = let e = s.1 in absurd cc
    to false text (inr s) = s.1

    of : (b : Bool) (text : List Mark) → Static b text
        → There (Is (part.Modifier modifier.Static)) b text
    of true text s = inl (tt, refl, s)
    of false text s = inr (refl, s)

-- `.*` is no dot with a word behind it
star_first : (text left : List Mark) (k : Key) → (Is part.Dot ⨾ Is (part.Binary binary.Star)) text
    → has (DotStar ∷ []) k ≡ false → here k (text ++ left) ≡ false
star_first text left k s h = ap (here k) (regroup s left) ∙ by k h
  where
    behind : List Mark
    behind = s.rest ++ left

    no_word : here Dotted (s.front ++ behind) ≡ false
    no_word =
        ap (λ l. here Dotted (l ++ behind)) s.before.whole
        ∙ ap (λ p. if sign_is sign.Dot p then word_by (front_part behind) else false) s.before.part
        ∙ ap (λ l. word_by (front_part (l ++ left))) s.after.whole
        ∙ ap (λ p. word_by (Some p)) s.after.part

    by : (k : Key) → has (DotStar ∷ []) k ≡ false → here k (s.front ++ behind) ≡ false
    by (Fixed g) h = part_key (Fixed g) part.Dot s.front behind s.before (if_false _ false h).0
    by (Spelled name) h = part_key (Spelled name) part.Dot s.front behind s.before refl
    by Keyword h = part_key Keyword part.Dot s.front behind s.before refl
    by Annotated h = part_key Annotated part.Dot s.front behind s.before refl
    by Sealing h = part_key Sealing part.Dot s.front behind s.before refl
    by NonSealing h = part_key NonSealing part.Dot s.front behind s.before refl
    by Dotted h = no_word
    by NoToken h = part_key NoToken part.Dot s.front behind s.before refl
    by Inside h = absurd cc

pub dot_star_law : Law dot_star
unfolding dot_star
dot_star_law =
    narrowed_law (DotStar ∷ [])
    (after_law (a_sign_law sign.Dot) (a_sign_law sign.Star) refl)
    (λ x text left k s stops h f. star_first text left k s h)

dot_star_sure : Sure (Fixed sign.Dot) dot_star
unfolding dot_star
dot_star_sure = record {
  comes = (after_sure (a_sign_law sign.Star) (sign_sure sign.Dot) refl).comes;
}

pub on_demand_law : Law on_demand
unfolding on_demand dot_star
on_demand_law =
    spelled_law
    (picked_law (Fixed sign.Dot) (made_law _ dot_star_law) (nothing_law false)
    (made_sure {a = dot_star} (λ none. true) dot_star_sure) refl refl)
    (record { to = to; of = of })
  where
    to : (b : Bool) (text : List Mark)
        → There (Is part.Dot ⨾ Is (part.Binary binary.Star)) b text → OnDemand b text
    to true text (inl s) = s.2
    to true text (inr s) = let e = s.0 in absurd cc
    to false text (inl s) = let e = s.1 in absurd cc
    to false text (inr s) = s.1

    of : (b : Bool) (text : List Mark) → OnDemand b text
        → There (Is part.Dot ⨾ Is (part.Binary binary.Star)) b text
    of true text s = inl (tt, refl, s)
    of false text s = inr (refl, s)

pub import_law : Law import_line
unfolding import_line static_word on_demand dot_star
import_law =
    spelled_law
    (made_law _ (then_law (a_sign_on_law sign.Import)
    (then_law static_law
    (then_law qualified_name_law (before_law on_demand_law semicolon_law refl) refl) refl) refl))
    (record {
      to = λ i t s. subst (λ j. ImportLine j t) s.1 s.2;
      of = λ i t s. ((i.line, (i.is_static, (i.names, i.on_demand))), refl, s);
    })
