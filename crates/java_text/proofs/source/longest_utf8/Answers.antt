use Rattle.std.proofs.Common.{◌∙◌, sym, arith, length, ◌≤◌}
use Rattle.std.specs.Str.Lossy.{utf8_valid_len}
use Rattle.std.proofs.lemmas.List.{take_all}
use Rattle.std.proofs.lemmas.Str.{utf8_valid_len-IsUtf8}
use Rattle.java_text.proofs.source.longest_utf8.Goals as goal

pub returns-in-Ok : goal.returns-in-Ok
returns-in-Ok c =
    let whole = utf8_valid_len-IsUtf8 c.args.bytes.now c.in-Ok.ensures.cases.1 in
    let h : length c.args.bytes.now ≤ utf8_valid_len c.args.bytes.now = omega (arith, whole) in
    c.in-Ok.ensures.cases.0 ∙ sym (take_all _ c.args.bytes.now h)
