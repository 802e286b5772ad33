use Rattle.std.proofs.Common.{◌≡◌, true, false, cond, sym, ap, subst, arith, ◌∙◌}
use Rattle.std.specs.Prelude.{Ok}
use Rattle.class_reader.specs.Reading.{class_of}
use Rattle.used_files.specs.Paths.{is_module, part_below}
use Rattle.file_contents.specs.Contents.{module_content, class_content}
use Rattle.file_contents.specs.Valid.{IsValidContent}
use Rattle.file_contents.proofs.Valid.{are_bytes}
use Rattle.file_contents.proofs.items.read_content.Goals as goal

pub returns-then-is_module-clause-exact : goal.returns-then-is_module-clause-exact
returns-then-is_module-clause-exact c =
    let place = c.args.place.now in
    let bytes = c.args.bytes.now in
    let yes : is_module place.path ≡ true = ap is_module (sym c.path.ensures)
    ∙ sym c.is_module.ensures ∙ c.if-is_module.true in
    ap (λ b. cond b (Ok (module_content (part_below place.root place.path) bytes))
    (class_content (class_of bytes))) yes
    ∙ ap Ok (sym
    (c.in_ok-content.ensures
    ∙ ap (λ below. module_content below bytes)
    (c.part_below-below.ensures
    ∙ ap (λ root. part_below root c.path-then-is_module.result.now) c.root.ensures
    ∙ ap (part_below place.root) c.path-then-is_module.ensures)))

pub returns-clause-exact : goal.returns-clause-exact
returns-clause-exact c =
    let place = c.args.place.now in
    let bytes = c.args.bytes.now in
    let no : is_module place.path ≡ false = ap is_module (sym c.path.ensures)
    ∙ sym c.is_module.ensures ∙ c.if-is_module.false in
    ap (λ b. cond b (Ok (module_content (part_below place.root place.path) bytes))
    (class_content (class_of bytes))) no
    ∙ ap class_content c.in_ok-desc.ensures.exact

pub returns-then-is_module-clause-valid : goal.returns-then-is_module-clause-valid
returns-then-is_module-clause-valid c =
    subst IsValidContent (sym c.in_ok-content.ensures) tt

pub returns-clause-valid : goal.returns-clause-valid
returns-clause-valid c =
    let bytes = c.args.bytes.now in
    let fits = are_bytes bytes (λ i. omega (arith, c.type_inv.bytes i)) in
    ((bytes, fits, c.in_ok-desc.ensures.found), tt)
