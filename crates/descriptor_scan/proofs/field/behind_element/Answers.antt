use Rattle.std.proofs.Common.{◌∙◌, refl, sym, arith, rules, get_or}
use Rattle.descriptor_scan.proofs.Passed.{first_byte, tail_of, handed, class_passed}
use Rattle.descriptor_scan.proofs.Passed.{letter_passed, no_class, no_letter, no_byte}
use Rattle.descriptor_scan.proofs.field.behind_element.Goals as goal
use Rattle.descriptor_scan.proofs.field.behind_element.Goals.{in_default-via-then-text-lt1}
use Rattle.descriptor_scan.proofs.field.behind_element.Goals.{in_default-via-in-len1-up+else-is_primitive}

pub returns-in-76 : goal.returns-in-76
returns-in-76 c =
    let text = c.args.text.now in
    let front = first_byte 76 text (omega arith) (omega arith) in
    handed (no_class text (tail_of text) front) (λ rest p. class_passed text
    (tail_of text) rest.now front p) c.behind_class_name.result c.behind_class_name.ensures

pub returns-in-len1-up : goal.returns-in-len1-up
returns-in-len1-up c =
    let text = c.args.text.now in
    letter_passed text (tail_of text) (get_or text 0 0) (first_byte (get_or text 0 0) text
    (omega arith) refl) (sym c.is_primitive.ensures ∙ c.if-is_primitive.true)

pub returns-in_default : goal.returns-in_default
returns-in_default c =
    let text = c.args.text.now in
    elim c.in_default.branch [
      | in_default-via-then-text-lt1 w ↦ no_byte text (search rules)
      | in_default-via-in-len1-up+else-is_primitive w ↦ no_letter text (omega arith) (λ e. absurd
          (omega arith)) (sym w.is_primitive.ensures ∙ w.if-is_primitive.false)
    ]
