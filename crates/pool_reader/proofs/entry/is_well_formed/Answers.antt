use Rattle.std.proofs.Common.{◌∙◌, sym}
use Rattle.pool_reader.proofs.Ascii.{ascii_is}
use Rattle.pool_reader.proofs.entry.is_well_formed.Goals as goal

pub returns-then-is_ascii : goal.returns-then-is_ascii
returns-then-is_ascii c =
    c.if-is_ascii.true
    ∙ ascii_is c.args.text.now (sym c.is_ascii.ensures ∙ c.if-is_ascii.true)
