use Rattle.std.proofs.Common.{◌∙◌, sym, subst, arith, rules, get_or}
use Rattle.std.proofs.lemmas.Result.{err_from_is_err_and}
use Rattle.descriptor_sig.specs.Parts.{NameSpells, ElementSpells, IsRead}
use Rattle.descriptor_sig.proofs.ClassNames.{tail_of, opened}
use Rattle.descriptor_sig.proofs.Fields.{read_primitive, read_class, stuck_class, stuck_at}
use Rattle.descriptor_sig.proofs.Fields.{stuck_at_end}
use Rattle.descriptor_sig.proofs.Stops.{opened_as, stopped}
use Rattle.descriptor_sig.proofs.descriptor_reader.DescriptorReader.element.Goals as goal
use Rattle.descriptor_sig.proofs.descriptor_reader.DescriptorReader.element.Goals.{in_default-via-then-self-lt1}
use Rattle.descriptor_sig.proofs.descriptor_reader.DescriptorReader.element.Goals.{in_default-via-in-len1-up+else-is_primitive}

pub returns-in_err-name-in-76 : goal.returns-in_err-name-in-76
returns-in_err-name-in-76 c =
    let text = c.args.self.now.rest.now in
    stopped NameSpells ElementSpells c.in_err-name-in-76.field-0.0 c.from_residual.result
    (tail_of text) c.class_name.new.self.rest.now text
    (err_from_is_err_and c.from_residual.result c.from_residual.ensures.1)
    c.in_err-name-in-76.ensures
    (stuck_class text (tail_of text) c.class_name.new.self.rest.now
    (opened_as 76 text (omega arith) (omega arith)))

pub returns-in_ok-class_type-in-76 : goal.returns-in_ok-class_type-in-76
returns-in_ok-class_type-in-76 c =
    let text = c.args.self.now.rest.now in
    let left = c.class_name.new.self.rest.now in
    subst (IsRead ElementSpells text left) (sym c.in_ok-class_type-in-76.ensures)
    (read_class c.in_ok-name-in-76.name text (tail_of text) left
    (opened_as 76 text (omega arith) (omega arith)) c.in_ok-name-in-76.ensures)

pub returns-in-len1-up : goal.returns-in-len1-up
returns-in-len1-up c =
    let text = c.args.self.now.rest.now in
    read_primitive (get_or text 0 0) text (tail_of text) (opened text (omega arith))
    (sym c.is_primitive.ensures ∙ c.if-is_primitive.true)

pub returns-in_default : goal.returns-in_default
returns-in_default c =
    let text = c.args.self.now.rest.now in
    elim c.in_default.branch [
      | in_default-via-then-self-lt1 w ↦ stuck_at_end text (search rules)
      | in_default-via-in-len1-up+else-is_primitive w ↦ stuck_at text (λ e. absurd (omega arith))
          (sym w.is_primitive.ensures ∙ w.if-is_primitive.false)
    ]
