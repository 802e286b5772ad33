use Rattle.std.proofs.Common.{◌≡◌, length, take, arith, refl, sym, ◌∙◌, length-drop}
use Rattle.std.proofs.lemmas.List.{take_rest, length-take-le}
use Rattle.hdr_core.proofs.Pieces.{consumes_more}
use Rattle.hdr_core.proofs.out_folders.gives_bytes.Goals as goal

pub loop-count-preserved : goal.loop-count-preserved
loop-count-preserved g c =
    let piece = take c.in-Ok.count c.read.new.buf in
    let long : length piece ≡ c.in-Ok.count = length-take-le c.in-Ok.count c.read.new.buf
    c.in-Ok.ensures.bound.0 in
    let same = simp take_rest at (sym c.starts_with.ensures.value ∙ c.if-not-starts_with.false) in
    let fits = simp (take_rest, length-drop) at (c.if-not-starts_with.ensures.bound refl) in
    let given = consumes_more _ _ _ c.loop-count.at c.args.bytes.now piece
    c.loop-count.invariant.given c.in-Ok.ensures.bytes.0 same in
    record { within = omega (arith, long, fits); given = rw long at given }
