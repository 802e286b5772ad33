use Rattle.std.proofs.Common.{◌≡◌, true, refl, arith, ap, ◌∙◌, map}
use Rattle.std.proofs.lemmas.Bool.{and_parts}
use lib.Pointwise.{bytes_decides}
use Rattle.hdr_core.proofs.Sorting.{sorts_dedup}
use Rattle.run_ends.specs.declared.out_file.OutFile.{OutFile}
use Rattle.run_ends.specs.contracts.out_file.OutFilePartialEq.TheImpl.{ghosts}
use Rattle.run_ends.specs.contracts.out_file.OutFileEq.TheImpl.Laws as equality
use Rattle.run_ends.specs.contracts.out_file.OutFileOrd.TheImpl.Laws as order
use Rattle.used_files.proofs.Ordered.{sorts_is_order, order_mapped, written_over}
use Rattle.run_ends.specs.OutFiles.{file_order, file_seen}
use Rattle.run_ends.proofs.Written.{exact_file}
use Rattle.run_ends.proofs.out_file.sort_files.Goals as goal

-- equal files are one
same : (x y : OutFile) → ghosts.eq x y ≡ true → x ≡ y
same x y e =
    let parts = and_parts _ _ e in
    let paths = (bytes_decides x.path y.path).0 parts.0 in
    let bytes = (bytes_decides x.bytes y.bytes).0 parts.1 in
    λ i. record { path = paths i; bytes = bytes i }

pub returns : goal.returns
returns c =
    let moved = rw c.as_mut_slice.ensures.value at c.in_ok-sort.ensures.permutation in
    let whole = written_over c.args.list.items c.sort.new.self c.args.list.len
    (omega (arith, c.in_ok-sort.ensures.len, c.as_mut_slice.ensures.len)) in
    let sorted = sorts_dedup order.total-law equality.laws-law order.matches_eq-law same _ _ _
    moved c.in_ok-sort.ensures.sorted (rw whole at c.dedup.ensures.filtered) in
    ap (map file_seen) (sorts_is_order _ order.total-law exact_file _ _ sorted)
    ∙ order_mapped file_seen _ file_order (λ x y. refl) c.args.list.items
