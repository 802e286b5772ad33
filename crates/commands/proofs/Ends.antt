-- What the command comes to: files where no phase has a diagnostic, else those of the first one.
use Rattle.std.proofs.Common.{◌≡◌, ℕ, true, List, [], ◌∷◌, refl, ap, sym, ◌∙◌, eqb-true}
use Rattle.std.specs.declared.cmp.Ordering.TheVariants.{Equal}
use Rattle.std.specs.Ordering.{is_eq}
use Rattle.std.proofs.lemmas.Bool.{and_parts}
use denote.Enum.Bare.{same_true}
use lib.Pointwise.{bytes_decides}
use Rattle.hdr_core.specs.Diagnostics.{diag_order}
use Rattle.hdr_core.specs.Sorted.{Sorts}
use Rattle.hdr_core.specs.declared.diagnostics.Diag.{Diag}
use Rattle.hdr_core.specs.contracts.code.Code.{the_type}
use Rattle.hdr_core.specs.contracts.diagnostics.DiagPartialEq.TheImpl.{ghosts}
use Rattle.hdr_core.specs.contracts.diagnostics.DiagOrd.TheImpl.Laws as order
use Rattle.file_contents.specs.declared.limits.Limits.{Limits}
use Rattle.used_files.specs.Order.{in_order}
use Rattle.commands.specs.Outcome.{Outcome, made_of, diagnosed, unless_diagnosed}
use Rattle.used_files.specs.Paths.{UsedFile}
use Rattle.file_contents.specs.declared.items.Item.{Item}
use Rattle.commands.specs.Phases.{first_phase}
use Rattle.file_contents.specs.Contents.{items_of}
use Rattle.used_files.specs.Stops.{IsFilled}
use Rattle.used_files.proofs.Ordered.{order_sorts, not_empty}

-- equal diagnostics are one
same : (x y : Diag) → ghosts.eq x y ≡ true → x ≡ y
same x y e =
    let file = and_parts _ _ e in
    let line = and_parts _ _ file.1 in
    let code = and_parts _ _ line.1 in
    let texts = and_parts _ _ code.1 in
    let files = eqb-true x.file y.file file.0 in
    let lines = eqb-true x.line y.line line.0 in
    let codes = same_true the_type tt x.code y.code code.0 in
    let names = (bytes_decides x.name y.name).0 texts.0 in
    let paths = (bytes_decides x.path y.path).0 texts.1 in
    λ i. record { file = files i; line = lines i; code = codes i; name = names i; path = paths i }

exact_diag : (x y : Diag) → diag_order x y ≡ Equal → x ≡ y
exact_diag x y e = same x y (order.matches_eq-law x y ∙ ap is_eq e)

module _ (phases : List Item → List Diag) (make : List Item → Outcome) (limits : Limits)
    (files : List UsedFile) where
  pub ends_made : (o : Outcome) → first_phase limits phases files ≡ []
      → o ≡ make (items_of files) → made_of phases make limits files ≡ o
  ends_made o none are =
      ap (λ found. unless_diagnosed (in_order diag_order found) (make (items_of files))) none
      ∙ sym are

  pub ends_diagnosed : (found sorted : List Diag) → IsFilled found
      → first_phase limits phases files ≡ found
      → ((other : List Diag) → Sorts diag_order found other → other ≡ sorted)
      → made_of phases make limits files ≡ diagnosed sorted
  ends_diagnosed [] sorted filled is sole = absurd filled
  ends_diagnosed (d ∷ ds) sorted filled is sole =
      let same_list : in_order diag_order (d ∷ ds)
      ≡ sorted = sole (in_order diag_order (d ∷ ds))
      (order_sorts diag_order order.total-law exact_diag (d ∷ ds)) in
      ap (λ found. unless_diagnosed (in_order diag_order found) (make (items_of files)))
      is
      ∙ ap (λ list. unless_diagnosed list (make (items_of files))) same_list
      ∙ told sorted same_list
    where
      told : (sorted : List Diag) → in_order diag_order (d ∷ ds) ≡ sorted
          → unless_diagnosed sorted (make (items_of files)) ≡ diagnosed sorted
      told [] e = absurd (not_empty diag_order d ds e)
      told (x ∷ xs) e = refl
