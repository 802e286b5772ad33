use Rattle.std.proofs.Common.{◌≡◌, ◌-◌, take, drop, length, arith}
use Rattle.std.proofs.lemmas.List.{take_rest}
use Rattle.descriptor_scan.proofs.Passed.{handed, field_passed, too_many, no_field}
use Rattle.descriptor_scan.proofs.field.behind_field.Goals as goal

pub returns-then-dims : goal.returns-then-dims
returns-then-dims c
    = too_many c.args.text.now c.brackets-dims.result c.brackets-dims.ensures.value (omega arith)

pub returns : goal.returns
returns c =
    let text = c.args.text.now in
    let dims = c.brackets-dims.result in
    let inner = take (length text - dims) (drop dims text) in
    let at : inner ≡ drop dims text = simp take_rest in
    handed (no_field text inner dims c.brackets-dims.ensures.value at)
    (λ rest p. field_passed text inner rest.now dims c.brackets-dims.ensures.value at
    (omega arith) p) c.behind_element.result c.behind_element.ensures
