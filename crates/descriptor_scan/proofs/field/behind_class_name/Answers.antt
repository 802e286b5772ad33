use Rattle.std.proofs.Common.{◌∙◌, refl, sym, rules, get_or}
use Rattle.descriptor_scan.proofs.Passed.{first_byte, name_passed, not_named, not_ended}
use Rattle.descriptor_scan.proofs.field.behind_class_name.Goals as goal
use Rattle.descriptor_scan.proofs.field.behind_class_name.Goals.{in_default-via-then-behind-lt1}
use Rattle.descriptor_scan.proofs.field.behind_class_name.Goals.{in_default-via-in-len1-up+else-is_class_name}

pub returns-in-len1-up : goal.returns-in-len1-up
returns-in-len1-up c =
    let behind = c.split_at.result.1.now in
    name_passed c.args.text.now c.split_at.result.0.now behind _ c.name_length.result
    (get_or behind 0 0) c.name_length.ensures.value c.split_at.ensures.front
    c.split_at.ensures.back
    (first_byte (get_or behind 0 0) behind c.in-len1-up.len_at_least refl)
    (sym c.is_class_name.ensures ∙ c.if-is_class_name.true)

pub returns-in_default : goal.returns-in_default
returns-in_default c =
    let behind = c.split_at.result.1.now in
    elim c.in_default.branch [
      | in_default-via-then-behind-lt1 w ↦ not_ended c.args.text.now c.split_at.result.0.now behind
          c.name_length.result c.name_length.ensures.value c.split_at.ensures.front
          c.split_at.ensures.back (search rules)
      | in_default-via-in-len1-up+else-is_class_name w ↦ not_named c.args.text.now
          c.split_at.result.0.now behind c.name_length.result c.name_length.ensures.value
          c.split_at.ensures.front c.split_at.ensures.back
          (sym w.is_class_name.ensures ∙ w.if-is_class_name.false)
    ]
