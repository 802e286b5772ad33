use Rattle.std.proofs.Common.{◌≡◌, ◌++◌, take}
use Rattle.ask_text.specs.Texts.{signed_texts}
use Rattle.ask_text.proofs.parts.append_signed.Given as goal

abbrev pub invariant-loop-annotation : goal.invariant-loop-annotation
invariant-loop-annotation l =
    l.line.items
    ≡ l.fn.line.items ++ signed_texts l.sign (take l.annotation-index l.annotations)
