use Rattle.std.proofs.Common.{map, ap, ◌∙◌}
use Rattle.std.specs.Prelude.{string_bytes}
use Rattle.std.proofs.lemmas.Result.{IfOk-weaker}
use Rattle.used_files.specs.Order.{in_order}
use Rattle.used_files.specs.Paths.{path_order}
use Rattle.used_files.proofs.Listings.{listing_used}
use Rattle.used_files.proofs.used.used_paths.Goals as goal

pub returns : goal.returns
returns c =
    IfOk-weaker c.sort_paths.result _ _
    (λ paths e held listing. e ∙ ap (in_order path_order) c.in_ok-paths.ensures
    ∙ listing_used c.args.kinds held c.args.root.now (map string_bytes c.args.listed.items) listing)
    c.sort_paths.ensures
