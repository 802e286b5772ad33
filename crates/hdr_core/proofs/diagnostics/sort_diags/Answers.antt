use Rattle.std.proofs.Common.{◌≡◌, true, eqb-true, ℕ, List, ◌++◌, length, take, drop, arith}
use Rattle.std.proofs.lemmas.Grind.{common_steps}
use Rattle.std.proofs.lemmas.Bool.{and_parts}
use denote.Enum.Bare.{same_true}
use lib.Pointwise.{bytes_decides}
use Rattle.hdr_core.specs.declared.diagnostics.Diag.{Diag}
use Rattle.hdr_core.specs.contracts.code.Code.{the_type}
use Rattle.hdr_core.specs.contracts.diagnostics.DiagPartialEq.TheImpl.{ghosts}
use Rattle.hdr_core.specs.contracts.diagnostics.DiagEq.TheImpl.Laws as equality
use Rattle.hdr_core.specs.contracts.diagnostics.DiagOrd.TheImpl.Laws as order
use Rattle.hdr_core.proofs.Sorting.{sorts_dedup, sorts_alike}
use Rattle.hdr_core.proofs.diagnostics.sort_diags.Goals as goal

-- equal diagnostics are one
same : (x y : Diag) → ghosts.eq x y ≡ true → x ≡ y
same x y e =
    let file = and_parts _ _ e in
    let line = and_parts _ _ file.1 in
    let code = and_parts _ _ line.1 in
    let texts = and_parts _ _ code.1 in
    let files = eqb-true x.file y.file file.0 in
    let lines = eqb-true x.line y.line line.0 in
    let codes = same_true the_type tt x.code y.code code.0 in
    let names = (bytes_decides x.name y.name).0 texts.0 in
    let paths = (bytes_decides x.path y.path).0 texts.1 in
    λ i. record { file = files i; line = lines i; code = codes i; name = names i; path = paths i }

-- a vector's items after they were written over as a slice
written_over : (given written : List Diag) (count : ℕ) → length written ≡ count
    → take count (written ++ drop (length written) given) ≡ written
written_over given written count e = grind (arith, common_steps)

pub returns : goal.returns
returns c =
    let moved = rw c.as_mut_slice.ensures.value at c.in_ok-sort.ensures.permutation in
    let whole = written_over c.args.list.items c.sort.new.self c.args.list.len
    (omega (arith, c.in_ok-sort.ensures.len, c.as_mut_slice.ensures.len)) in
    let sorted = sorts_dedup order.total-law equality.laws-law order.matches_eq-law same _ _ _
    moved
    c.in_ok-sort.ensures.sorted (rw whole at c.dedup.ensures.filtered) in
    record {
      sorted = sorted;
      sole =
          λ other sorts. sorts_alike order.total-law _ _ _ sorts sorted;
    }
