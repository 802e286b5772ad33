use Rattle.std.proofs.Common.{subst, arith}
use Rattle.pool_reader.specs.Reading.{Answers}
use Rattle.class_reader.proofs.ClassLaws.{is_found, class_again}
use Rattle.class_reader.proofs.class.read_class.Goals as goal

pub returns-clause-found : goal.returns-clause-found
returns-clause-found c = is_found c.args.bytes.now c.class_from.result (λ i.
    omega (arith, c.type_inv.bytes i)) c.class_from.ensures

pub returns-clause-only : goal.returns-clause-only
returns-clause-only c = λ d spells.
    subst (λ read. Answers (λ d. d) c.class_from.result read)
    (class_again c.args.bytes.now d spells) c.class_from.ensures
