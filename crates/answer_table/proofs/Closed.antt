-- What the words of a closed table hold.
use Rattle.std.proofs.Common.{◌≡◌, ◌≢◌, ℕ, ◌<◌, ◌==◌, Bool, true, false, List, []}
use Rattle.std.proofs.Common.{map, get_or, refl, sym, ap, ◌∙◌, subst, eq-eqb, ne_eqb}
use Rattle.std.specs.Prelude.{slice_index, Some, None, if◌then◌else◌}
use mathlib.Core.Option.{some, some-ne-none}
use lib.ListN.{get_elem?}
use Rattle.atomic_table.specs.Table.{Final, Seen}
use Rattle.answer_table.specs.declared.view.View.{View}
use Rattle.answer_table.specs.Views.{knows}
use Rattle.answer_table.specs.Rule.{KnowsFilled}
use Rattle.answer_table.specs.Closing.{IsClosed, answer_of}
use Rattle.answer_table.proofs.Items.{each_snoc, item_read, item_mapped}
use Rattle.answer_table.proofs.Steps.{Rule, holds_answer}

-- the last state met the rule
pub closed : (listed words homes : List ℕ) (seat : ℕ) (v : View)
    → Final (Seen (Rule listed) seat v) words homes → IsClosed listed words v
closed listed words homes seat v (s, seen, same, count, home) =
    let kept = seen.0 in
    let fills = kept.filled seat v seen.1 in
    subst (λ ws. IsClosed listed ws v) same record {
      count = kept.count;
      answers = kept.answers;
      each = kept.each;
      filled = each_snoc (KnowsFilled listed s.words) [] v
          (λ i w none. absurd (some-ne-none w (sym none)))
          fills;
    }

module _ (words : List ℕ) (i word : ℕ) (at : get_elem? words i ≡ some word) where
  module _ (listed : List ℕ) (v : View) (is : IsClosed listed words v) where
    -- a word that isn't empty holds its answer
    pub holds_listed : word ≢ 0 → word ≡ slice_index listed i
    holds_listed full =
        let read = item_read words i word 0 at in
        let old : ℕ = slice_index words i in
        let apart : old ≢ 0 = λ e. full (sym read.1 ∙ e) in
        sym read.1 ∙ holds_answer (slice_index listed i) old (is.each i read.0) apart

    -- a word that the closing seat knew isn't empty
    pub known_is_full : knows v i ≡ true → word ≢ 0
    known_is_full known empty =
        let read = item_read words i word 0 at in
        let holds = (is.filled 0 v refl i known).1 in
        is.answers i 0 (subst (λ n. i < n) is.count read.0) (sym holds ∙ read.1 ∙ empty)

  answer_if : (b : Bool) → (word == 0) ≡ b
      → get_or (map answer_of words) i None ≡ (if b then None else Some word)
  answer_if b is =
      item_mapped answer_of words i word None at
      ∙ ap (λ (b : Bool). if b then None else Some word) is

  pub none_held : word ≡ 0 → None ≡ get_or (map answer_of words) i None
  none_held empty = sym (answer_if true (eq-eqb word 0 empty))

  pub some_held : word ≢ 0 → Some word ≡ get_or (map answer_of words) i None
  some_held full = sym (answer_if false (ne_eqb word 0 full))
