use Rattle.std.proofs.Common.{◌∙◌, sym, ap, length}
use Rattle.std.proofs.lemmas.Bool.{eqb-true, eqb-false}
use Rattle.std.proofs.lemmas.List.{nil_from_length}
use Rattle.std.proofs.lemmas.Result.{err_from_is_err_and}
use Rattle.descriptor_sig.proofs.Descriptors.{whole_read, whole_more}
use Rattle.descriptor_sig.proofs.Stops.{stopped_whole}
use Rattle.descriptor_sig.proofs.descriptor_reader.DescriptorReader.whole.Goals as goal

pub returns-in_err-sig : goal.returns-in_err-sig
returns-in_err-sig c =
    stopped_whole c.in_err-sig.field-0.0 c.from_residual.result c.descriptor.new.self.rest.now
    c.args.self.now.rest.now
    (err_from_is_err_and c.from_residual.result c.from_residual.ensures.1)
    c.in_err-sig.ensures

pub returns-then-not-is_empty : goal.returns-then-not-is_empty
returns-then-not-is_empty c =
    whole_more c.in_ok-sig.sig c.args.self.now.rest.now c.descriptor.new.self.rest.now
    c.in_ok-sig.ensures
    (λ e. eqb-false (length c.descriptor.new.self.rest.now) 0
    (sym c.is_empty.ensures ∙ c.if-not-is_empty.true) (ap length e))

pub returns : goal.returns
returns c =
    whole_read c.in_ok-sig.sig c.args.self.now.rest.now c.descriptor.new.self.rest.now
    c.in_ok-sig.ensures
    (nil_from_length c.descriptor.new.self.rest.now
    (eqb-true (length c.descriptor.new.self.rest.now) 0
    (sym c.is_empty.ensures ∙ c.if-not-is_empty.false)))
