use Rattle.std.proofs.Common.{◌∙◌, sym, arith}
use Rattle.java_names.proofs.ModifiedUtf8.{found_pair, found_triple}
use Rattle.java_names.proofs.units.first_unit.Goals as goal

pub returns-in-len2-up : goal.returns-in-len2-up
returns-in-len2-up c =
    rw c.unit_of_pair.ensures (found_pair c.args.bytes.now (omega arith)
    (sym c.is_pair.ensures ∙ c.if-is_pair.true))

pub returns-in-len3-up : goal.returns-in-len3-up
returns-in-len3-up c =
    rw c.unit_of_triple.ensures (found_triple c.args.bytes.now (omega arith)
    (sym c.is_triple.ensures ∙ c.if-is_triple.true))
