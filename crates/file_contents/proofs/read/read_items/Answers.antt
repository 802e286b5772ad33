use Rattle.std.proofs.Common.{◌≡◌, ◌≤◌, List, [], length, map, subst, arith}
use Rattle.std.proofs.lemmas.Result.{err_from_is_err_and}
use Rattle.used_files.specs.Parts.{now_of}
use Rattle.used_files.specs.Paths.{Place}
use Rattle.used_files.proofs.Listings.{must_hold, is_use}
use Rattle.used_files.proofs.Options.{stops_weaker}
use Rattle.file_contents.specs.Found.{TooMany}
use Rattle.file_contents.specs.Contents.{items_of}
use Rattle.file_contents.specs.Phases.{file_phases}
use Rattle.file_contents.proofs.Reading.{told_reading, told_format, told_none}
use Rattle.file_contents.proofs.Told.{many_told, with_found}
use Rattle.file_contents.proofs.read.read_items.Goals as goal

pub read_files-requires-clause-held : goal.read_files-requires-clause-held
read_files-requires-clause-held g c =
    let before = g.F.Files.held c.args.files.now in
    let later = g.F.Files.held c.list_roots.new.files in
    let roots = map now_of c.args.roots.now in
    let listed = c.in_ok-listed.listed.items in
    let uses = c.in_ok-used.used.items in
    let limits = c.args.limits in
    must_hold c.args.kinds before later c.in_ok-listed.ensures.held roots listed uses
    c.in_ok-listed.ensures.used c.in_ok-used.ensures

pub returns-in_err-check_count-clause-stops : goal.returns-in_err-check_count-clause-stops
returns-in_err-check_count-clause-stops g c =
    let before = g.F.Files.held c.args.files.now in
    let later = g.F.Files.held c.list_roots.new.files in
    let roots = map now_of c.args.roots.now in
    let listed = c.in_ok-listed.listed.items in
    let uses = c.in_ok-used.used.items in
    let limits = c.args.limits in
    let p = err_from_is_err_and c.from_residual-in_err-check_count.result
    c.from_residual-in_err-check_count.ensures.1 in
    rw (p.1, p.2)
    (stops_weaker c.in_err-check_count.field-0.0 _ _ _ _ (λ path none. absurd none)
    (λ list many. let P : List Place → Type 0 = λ ps. TooMany limits ps list in
    many_told c.args.kinds before later c.in_ok-listed.ensures.held roots listed uses
    c.in_ok-listed.ensures.used c.in_ok-used.ensures limits list
    (subst P c.deref.ensures.value many))
    c.in_err-check_count.ensures.stops)

pub returns-in_err-found-clause-stops : goal.returns-in_err-found-clause-stops
returns-in_err-found-clause-stops g c =
    let before = g.F.Files.held c.args.files.now in
    let later = g.F.Files.held c.list_roots.new.files in
    let roots = map now_of c.args.roots.now in
    let listed = c.in_ok-listed.listed.items in
    let uses = c.in_ok-used.used.items in
    let limits = c.args.limits in
    let p = err_from_is_err_and c.from_residual-in_err-found.result
    c.from_residual-in_err-found.ensures.1 in
    rw (p.1, p.2)
    (stops_weaker c.in_err-found.field-0.0 _ _ _ _
    (λ path there. is_use c.args.kinds before later c.in_ok-listed.ensures.held roots listed uses
    c.in_ok-listed.ensures.used c.in_ok-used.ensures path there)
    (λ list none. absurd none) c.in_err-found.ensures.stops)

pub returns-in_err-stop_at-clause-stops : goal.returns-in_err-stop_at-clause-stops
returns-in_err-stop_at-clause-stops g c =
    let before = g.F.Files.held c.args.files.now in
    let later = g.F.Files.held c.list_roots.new.files in
    let roots = map now_of c.args.roots.now in
    let listed = c.in_ok-listed.listed.items in
    let uses = c.in_ok-used.used.items in
    let limits = c.args.limits in
    let P : List Place → Type 0 = λ ps. length ps ≤ limits.files in
    let few = subst P c.deref.ensures.value c.in_ok-check_count.ensures.fine in
    let found = c.in_ok-found.found in
    let p = err_from_is_err_and c.from_residual-in_err-stop_at.result
    c.from_residual-in_err-stop_at.ensures.1 in
    rw (p.1, p.2)
    (stops_weaker c.in_err-stop_at.field-0.0 _ _ _ _ (λ path none. absurd none)
    (λ list told. (
      told.0,
      with_found c.args.kinds before later c.in_ok-listed.ensures.held roots listed uses
          c.in_ok-listed.ensures.used c.in_ok-used.ensures limits found
          (λ files. file_phases limits files ≡ list) few c.in_ok-found.ensures.found
          (λ files few is. told_reading limits files few found is list told.0 told.1),
    ))
    c.in_err-stop_at.ensures.some)

pub returns-in_err-stop_at-2-clause-stops : goal.returns-in_err-stop_at-2-clause-stops
returns-in_err-stop_at-2-clause-stops g c =
    let before = g.F.Files.held c.args.files.now in
    let later = g.F.Files.held c.list_roots.new.files in
    let roots = map now_of c.args.roots.now in
    let listed = c.in_ok-listed.listed.items in
    let uses = c.in_ok-used.used.items in
    let limits = c.args.limits in
    let P : List Place → Type 0 = λ ps. length ps ≤ limits.files in
    let few = subst P c.deref.ensures.value c.in_ok-check_count.ensures.fine in
    let found = c.in_ok-found.found in
    let p = err_from_is_err_and c.from_residual-in_err-stop_at-2.result
    c.from_residual-in_err-stop_at-2.ensures.1 in
    rw (p.1, p.2)
    (stops_weaker c.in_err-stop_at-2.field-0.0 _ _ _ _ (λ path none. absurd none)
    (λ list told. (
      told.0,
      with_found c.args.kinds before later c.in_ok-listed.ensures.held roots listed uses
          c.in_ok-listed.ensures.used c.in_ok-used.ensures limits found
          (λ files. file_phases limits files ≡ list) few c.in_ok-found.ensures.found
          (λ files few is. told_format limits files few found is c.in_ok-stop_at.ensures.none list
          told.1),
    ))
    c.in_err-stop_at-2.ensures.some)

pub returns-clause-items : goal.returns-clause-items
returns-clause-items g c =
    let before = g.F.Files.held c.args.files.now in
    let later = g.F.Files.held c.list_roots.new.files in
    let roots = map now_of c.args.roots.now in
    let listed = c.in_ok-listed.listed.items in
    let uses = c.in_ok-used.used.items in
    let limits = c.args.limits in
    let P : List Place → Type 0 = λ ps. length ps ≤ limits.files in
    let few = subst P c.deref.ensures.value c.in_ok-check_count.ensures.fine in
    let found = c.in_ok-found.found in
    with_found c.args.kinds before later c.in_ok-listed.ensures.held roots listed uses
    c.in_ok-listed.ensures.used c.in_ok-used.ensures limits found
    (λ files. found.items.items ≡ items_of files) few c.in_ok-found.ensures.found
    (λ files few is. is.items c.in_ok-stop_at.ensures.none)

pub returns-clause-fine : goal.returns-clause-fine
returns-clause-fine g c =
    let before = g.F.Files.held c.args.files.now in
    let later = g.F.Files.held c.list_roots.new.files in
    let roots = map now_of c.args.roots.now in
    let listed = c.in_ok-listed.listed.items in
    let uses = c.in_ok-used.used.items in
    let limits = c.args.limits in
    let P : List Place → Type 0 = λ ps. length ps ≤ limits.files in
    let few = subst P c.deref.ensures.value c.in_ok-check_count.ensures.fine in
    let found = c.in_ok-found.found in
    with_found c.args.kinds before later c.in_ok-listed.ensures.held roots listed uses
    c.in_ok-listed.ensures.used c.in_ok-used.ensures limits found
    (λ files. file_phases limits files ≡ []) few c.in_ok-found.ensures.found
    (λ files few is. told_none limits files few found is c.in_ok-stop_at.ensures.none
    c.in_ok-stop_at-2.ensures.none)

pub returns-clause-few : goal.returns-clause-few
returns-clause-few g c =
    let P : List Place → Type 0 = λ ps. length ps ≤ c.args.limits.files in
    let few = subst P c.deref.ensures.value c.in_ok-check_count.ensures.fine in
    let within = c.in_ok-found.ensures.few in omega (arith, few, within)
