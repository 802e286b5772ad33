use Rattle.std.proofs.Common.{◌∙◌, ap, [], List, ℕ}
use Rattle.member_index.specs.Order.{placed}
use Rattle.member_index.specs.declared.kind.Kind.TheVariants as kind
use Rattle.member_index.proofs.Listed.{names_placed}
use Rattle.member_index.proofs.index.MemberIndex.fields_named.Goals as goal

pub returns : goal.returns
returns c = λ is.
    c.places_in.ensures is.names
    ∙ ap (λ (name : List ℕ). placed kind.Names c.args.classes.now c.args.class (name, []))
    c.bytes.ensures
    ∙ names_placed c.args.classes.now c.args.class c.args.name.now
