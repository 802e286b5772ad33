use Rattle.std.proofs.lemmas.Result.{err_from_is_err_and}
use Rattle.descriptor_sig.specs.Parts.{ElementSpells, FieldSpells}
use Rattle.descriptor_sig.proofs.Fields.{read_array, stuck_field}
use Rattle.descriptor_sig.proofs.Stops.{stopped, stopped_dimensions}
use Rattle.descriptor_sig.proofs.descriptor_reader.DescriptorReader.field_type.Goals as goal

pub returns-in_err-dims : goal.returns-in_err-dims
returns-in_err-dims c =
    stopped_dimensions c.in_err-dims.field-0.0 c.from_residual.result
    c.dimensions.new.self.rest.now
    c.args.self.now.rest.now
    (err_from_is_err_and c.from_residual.result c.from_residual.ensures.1)
    c.in_err-dims.ensures

pub returns-in_err-element : goal.returns-in_err-element
returns-in_err-element c =
    let text = c.args.self.now.rest.now in
    let inner = c.dimensions.new.self.rest.now in
    let left = c.element.new.self.rest.now in
    stopped ElementSpells FieldSpells c.in_err-element.field-0.0
    c.from_residual-in_err-element.result inner left text
    (err_from_is_err_and c.from_residual-in_err-element.result
    c.from_residual-in_err-element.ensures.1)
    c.in_err-element.ensures
    (stuck_field c.in_ok-dims.dims text inner left c.in_ok-dims.ensures)

pub returns : goal.returns
returns c =
    read_array c.in_ok-dims.dims c.in_ok-element.element c.in_ok-new.field-0
    c.args.self.now.rest.now c.dimensions.new.self.rest.now c.element.new.self.rest.now
    c.if-dims-eq0.false c.in_ok-new.ensures c.in_ok-dims.ensures c.in_ok-element.ensures
