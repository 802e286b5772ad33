use Rattle.std.proofs.Common.{◌∙◌, ap, List, ℕ}
use Rattle.member_index.specs.Order.{placed}
use Rattle.member_index.specs.declared.kind.Kind.TheVariants as kind
use Rattle.member_index.proofs.Listed.{methods_placed}
use Rattle.member_index.proofs.index.MemberIndex.methods.Goals as goal

pub returns : goal.returns
returns c = λ is.
    c.places_in.ensures is.methods
    ∙ ap (λ (name : List ℕ). placed kind.Methods c.args.classes.now c.args.class
    (name, c.bytes-2.result.now)) c.bytes.ensures
    ∙ ap (λ (descriptor : List ℕ). placed kind.Methods c.args.classes.now c.args.class
    (c.args.name.now, descriptor)) c.bytes-2.ensures
    ∙ methods_placed c.args.classes.now c.args.class (c.args.name.now, c.args.descriptor.now)
