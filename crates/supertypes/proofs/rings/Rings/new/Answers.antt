use Rattle.std.proofs.Common.{◌≡◌, ◌∙◌, ap, refl, replicate, Option, Some, None, ℕ}
use Rattle.supertypes.specs.declared.rings.Standing.TheVariants.{New}
use Rattle.supertypes.proofs.Stepped.{began}
use Rattle.supertypes.proofs.rings.Rings.new.Goals as goal

-- what holds of no number holds of None alone
none_only : (P : Option ℕ → Type 0) → ((x : ℕ) → P (Some x) → ⊥) → (y : Option ℕ) → P y → y ≡ None
none_only P never None h = refl
none_only P never (Some x) h = absurd (never x h)

pub returns : goal.returns
returns c =
    began c.args.graph.now _
    (c.in_ok-from_elem.ensures.items_if_clones_equal (λ y h. h)
    ∙ ap (λ k. replicate k New) c.len-classes.ensures)
    (c.in_ok-from_elem-2.ensures.items_if_clones_equal (none_only _ (λ x h. h))
    ∙ ap (λ k. replicate k None) c.len-classes.ensures)
    c.in_ok-with_capacity.ensures.items c.in_ok-with_capacity-2.ensures.items
    c.in_ok-with_capacity-3.ensures.items
