use Rattle.std.proofs.Common.{◌≡◌, []}
use Rattle.std.proofs.lemmas.Result.{err_from_is_err_and}
use Rattle.descriptor_sig.specs.Parts.{FormalsSpell, ReturnSpells, MethodSpells}
use Rattle.descriptor_sig.proofs.Descriptors.{read_method, stuck_method_formals}
use Rattle.descriptor_sig.proofs.Descriptors.{stuck_method_return}
use Rattle.descriptor_sig.proofs.Stops.{stopped}
use Rattle.descriptor_sig.proofs.descriptor_reader.DescriptorReader.method.Goals as goal

pub returns-in_err-formals : goal.returns-in_err-formals
returns-in_err-formals c =
    let text = c.args.self.now.rest.now in
    let left = c.formals.new.self.rest.now in
    stopped FormalsSpell MethodSpells c.in_err-formals.field-0.0 c.from_residual.result text left
    text
    (err_from_is_err_and c.from_residual.result c.from_residual.ensures.1)
    c.in_err-formals.ensures
    (stuck_method_formals text left)

pub returns-in_err-ret : goal.returns-in_err-ret
returns-in_err-ret c =
    let text = c.args.self.now.rest.now in
    let inner = c.formals.new.self.rest.now in
    let left = c.return_type.new.self.rest.now in
    stopped ReturnSpells MethodSpells c.in_err-ret.field-0.0 c.from_residual-in_err-ret.result
    inner
    left text
    (err_from_is_err_and c.from_residual-in_err-ret.result c.from_residual-in_err-ret.ensures.1)
    c.in_err-ret.ensures
    (stuck_method_return c.in_ok-formals.formals text inner left c.in_ok-formals.ensures)

pub returns : goal.returns
returns c =
    let params : c.of.result ≡ [] = cc in
    let throws : c.of-2.result ≡ [] = cc in
    rw (params, throws) (read_method c.in_ok-formals.formals c.in_ok-ret.ret
    c.args.self.now.rest.now c.formals.new.self.rest.now c.return_type.new.self.rest.now
    c.in_ok-formals.ensures c.in_ok-ret.ensures)
