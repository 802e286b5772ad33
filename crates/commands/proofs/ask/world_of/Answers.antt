use Rattle.commands.proofs.Asked.{never_repeated}
use Rattle.commands.proofs.ask.world_of.Goals as goal

pub unreachable-requires : goal.unreachable-requires
unreachable-requires c =
    never_repeated c.args.classes.items c.of.result c.in-Err-Repeated.field-0 _ _ c.requires.apart
    c.of.ensures.repeated c.in-Err-Repeated.is c.in-Err-Repeated.field-0-is
