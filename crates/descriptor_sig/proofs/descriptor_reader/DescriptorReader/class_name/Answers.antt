use Rattle.std.proofs.Common.{◌∙◌, sym, arith}
use Rattle.descriptor_sig.proofs.ClassNames.{name_start, name_more_at, name_done_at}
use Rattle.descriptor_sig.proofs.ClassNames.{name_stuck_at, name_cut_short}
use Rattle.descriptor_sig.proofs.descriptor_reader.DescriptorReader.class_name.Goals as goal
use Rattle.descriptor_sig.proofs.descriptor_reader.DescriptorReader.class_name.Goals.{else-in_part-via-then-in_part+else-b-eq59}
use Rattle.descriptor_sig.proofs.descriptor_reader.DescriptorReader.class_name.Goals.{else-in_part-via-else-in_part}

pub loop-self-init : goal.loop-self-init
loop-self-init c = name_start c.args.self.now.rest.now

pub returns-then-b-eq59 : goal.returns-then-b-eq59
returns-then-b-eq59 c =
    name_done_at c.loop-self.in_part c.args.self.now.rest.now c.loop-self.self.rest.now
    c.in_ok-name.name c.loop-self.invariant (omega arith) c.if-in_part.true (omega arith)
    c.in_ok-name.ensures

pub returns-in_default-part_after : goal.returns-in_default-part_after
returns-in_default-part_after c =
    name_stuck_at c.loop-self.in_part c.args.self.now.rest.now c.loop-self.self.rest.now
    c.loop-self.invariant (omega arith) (sym c.part_after.ensures ∙ c.in_default-part_after.is)
    (λ e. elim c.else-in_part.branch [
      | else-in_part-via-then-in_part+else-b-eq59 w ↦ absurd
          (w.if-b-eq59.false e)
      | else-in_part-via-else-in_part w ↦ w.if-in_part.false
    ])

pub loop-self-preserved : goal.loop-self-preserved
loop-self-preserved c =
    name_more_at c.loop-self.in_part c.in-Some.goes_on c.args.self.now.rest.now
    c.loop-self.self.rest.now c.loop-self.invariant (omega arith)
    (sym c.part_after.ensures ∙ c.in-Some.is)

pub returns : goal.returns
returns c =
    name_cut_short c.loop-self.in_part c.args.self.now.rest.now c.loop-self.self.rest.now
    c.loop-self.invariant (omega arith)
