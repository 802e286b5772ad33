use Rattle.std.proofs.Common.{arith}
use Rattle.std.proofs.lemmas.Cmp.{nat_list_eq_equiv, nat_list_cmp_total}
use Rattle.std.proofs.lemmas.Map.Lookups.{exact_bytes}
use lib.Pointwise.{bytes_decides}
use Rattle.std.specs.Cmp.Lexicographic.{texts_ties}
use Rattle.hdr_core.proofs.Sorting.{sorts_dedup}
use Rattle.used_files.specs.Paths.{path_order}
use Rattle.used_files.proofs.Ordered.{sorts_is_order, written_over}
use Rattle.used_files.proofs.used.sort_paths.Goals as goal

pub returns : goal.returns
returns c =
    let moved = rw c.as_mut_slice.ensures.value at c.in_ok-sort.ensures.permutation in
    let whole = written_over c.args.paths.items c.sort.new.self c.args.paths.len
    (omega (arith, c.in_ok-sort.ensures.len, c.as_mut_slice.ensures.len)) in
    let sorted = sorts_dedup nat_list_cmp_total nat_list_eq_equiv texts_ties
    (λ x y. (bytes_decides x y).0) _ _ _ moved c.in_ok-sort.ensures.sorted
    (rw whole at c.dedup.ensures.filtered) in
    sorts_is_order path_order nat_list_cmp_total exact_bytes _ _ sorted
