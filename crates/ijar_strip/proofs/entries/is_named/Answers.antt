use Rattle.ijar_strip.proofs.Lookups.{last_listed}
use Rattle.ijar_strip.proofs.entries.is_named.Goals as goal

pub returns : goal.returns
returns c = cc (
  last_listed c.args.names.now c.args.name.now,
  c.last.ensures,
  c.is_some.ensures,
  c.bytes.ensures,
)
