-- The kept classes of a list, stripped, keep the answers of the list.
use Rattle.std.proofs.Common.{◌≡◌, refl, sym, ap, subst, ◌∙◌, Bool, true, false, cond}
use Rattle.std.proofs.Common.{List, [], ◌∷◌, ◌++◌, map, filter, Option, Some, None}
use Rattle.std.proofs.lemmas.Bool.{false≢true}
use Rattle.std.specs.Prelude.{option_to_list}
use Rattle.std.specs.List.{flat_map, AllByRecursion}
use Rattle.class_desc.specs.declared.class.ClassDesc.{ClassDesc}
use Rattle.class_views.specs.Kept.{is_kept, strip_each, strip_set}
use Rattle.class_views.specs.Strip.{strip_class, HasOneInnerClasses}
use Rattle.projection.specs.Written.{left_in, KeepsAnswers}
use Rattle.projection.proofs.Answered.{survives}
use Rattle.projection.proofs.Stripping.{strip_shows_less}

-- what is left of a list in which each item goes or is changed in its place
module _ {A B : Type 0} (keeps : A → Bool) (change : A → B) where
  abbrev in_place : A → Option B
  in_place x = cond (keeps x) (Some (change x)) None

  pub left_of : (xs : List A) →
      flat_map option_to_list (map in_place xs) ≡ map change (filter keeps xs)
  left_of [] = refl
  left_of (x ∷ xs) = by (keeps x) (left_of xs)
    where
      by : (b : Bool) → flat_map option_to_list (map in_place xs) ≡ map change (filter keeps xs) →
          option_to_list (cond b (Some (change x)) None)
          ++ flat_map option_to_list (map in_place xs)
          ≡ map change (cond b (x ∷ filter keeps xs) (filter keeps xs))
      by true e = ap (λ ys. change x ∷ ys) e
      by false e = e

-- what is left of each class is the stripped list
pub left_stripped : (list : List ClassDesc) → left_in (strip_each list) ≡ strip_set list
left_stripped list = left_of (is_kept list) strip_class list

pub stripped_keeps : (list : List ClassDesc) → AllByRecursion HasOneInnerClasses list →
    KeepsAnswers list (strip_set list)
stripped_keeps list one = record {
  resolution = λ others client query beside asked other.
      survives (strip_shows_less list others one beside) client asked.superclass_stays asked
      (λ member. absurd (false≢true (sym other ∙ member)));
  membership = λ others client query beside asked plain.
      survives (strip_shows_less list others one beside) client asked.superclass_stays asked
      (λ member. plain);
}

pub left_keeps : (list : List ClassDesc) (each : List (Option ClassDesc)) →
    each ≡ strip_each list → AllByRecursion HasOneInnerClasses list →
    KeepsAnswers list (left_in each)
left_keeps list each are one =
    subst (KeepsAnswers list) (sym (ap left_in are ∙ left_stripped list)) (stripped_keeps list one)
