use Rattle.std.proofs.Common.{[], ◌∷◌, ap, ◌∙◌, arith}
use Rattle.hdr_core.specs.declared.code.Code.TheVariants.{L8}
use Rattle.hdr_core.specs.declared.diagnostics.Diag.{Diag}
use Rattle.file_contents.specs.Reading.{diag_in}
use Rattle.file_contents.proofs.Reading.{too_many}
use Rattle.file_contents.proofs.read.check_count.Goals as goal

pub returns-clause-stops : goal.returns-clause-stops
returns-clause-stops c =
    too_many c.args.limits c.args.used.now c.first-item.result c.in_ok-list.list.items
    (omega arith) c.first-item.is
    (c.in_ok-list.ensures
    ∙ ap (λ (d : Diag). d ∷ [])
    (c.in_ok-diag.ensures ∙ ap (λ p. diag_in 0 p 0 L8 []) c.path.ensures))
