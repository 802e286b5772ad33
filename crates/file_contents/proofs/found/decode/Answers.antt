use Rattle.std.proofs.Common.{ℕ, List, [], ◌∷◌, ◌++◌, ap, refl, ◌∙◌}
use Rattle.hdr_core.specs.declared.code.Code.{Code}
use Rattle.hdr_core.specs.declared.diagnostics.Diag.{Diag}
use Rattle.used_files.specs.Paths.{used_file}
use Rattle.file_contents.specs.Reading.{Numbered, diag_in}
use Rattle.file_contents.specs.declared.items.Item.{Item}
use Rattle.file_contents.proofs.Reading.{decoded_content, decoded_fault}
use Rattle.file_contents.proofs.Valid.{one_more, valid_more}
use Rattle.file_contents.proofs.found.decode.Goals as goal

pub returns-in-Ok-clause-decodes : goal.returns-in-Ok-clause-decodes
returns-in-Ok-clause-decodes c =
    let n : Numbered = (c.args.file, used_file c.args.place c.args.bytes.now) in
    let with_path : List ℕ → List Item =
    λ path. c.args.found.now.items.items
    ++ record { file = c.args.file; path = path; content = c.in-Ok.content } ∷ [] in
    decoded_content n c.args.found.now _ refl refl c.in-Ok.content c.in-Ok.ensures.exact
    (c.in_ok-push-in-Ok.ensures.items ∙ ap with_path c.into_path-path.ensures) refl

pub returns-in-Err-Fault-clause-decodes : goal.returns-in-Err-Fault-clause-decodes
returns-in-Err-Fault-clause-decodes c =
    let n : Numbered = (c.args.file, used_file c.args.place c.args.bytes.now) in
    let fault = c.in-Err-Fault.fault in
    let in_path : List ℕ → Diag =
    λ path. diag_in c.args.file path fault.offset c.code_of_kind-code.result [] in
    let with_code : Code → Diag =
    λ code. diag_in c.args.file c.args.place.path fault.offset code [] in
    let with_diag : Diag → List Diag = λ diag. c.args.found.now.format.items ++ diag ∷ [] in
    decoded_fault n c.args.found.now _ refl refl fault
    (rw c.in-Err-Fault.field-0-is at c.in-Err-Fault.ensures.exact)
    (c.in_ok-push-in-Err-Fault.ensures.items
    ∙ ap with_diag (c.in_ok-diag-in-Err-Fault.ensures ∙ ap in_path c.path.ensures
    ∙ ap with_code c.code_of_kind-code.ensures)) refl

pub returns-in-Ok-clause-valid : goal.returns-in-Ok-clause-valid
returns-in-Ok-clause-valid c =
    valid_more c.args.found.now.items.items _ _ c.in_ok-push-in-Ok.ensures.items
    c.in-Ok.ensures.valid

pub returns-in-Ok-clause-grew : goal.returns-in-Ok-clause-grew
returns-in-Ok-clause-grew c =
    one_more c.args.found.now.items.items _ _ c.in_ok-push-in-Ok.ensures.items
