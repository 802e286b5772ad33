use Rattle.std.proofs.Common.{◌≡◌, ◌++◌, take}
use Rattle.ask_text.specs.Texts.{blanked}
use Rattle.ask_text.proofs.parts.append_names.Given as goal

abbrev pub invariant-loop-name : goal.invariant-loop-name
invariant-loop-name l = l.line.items ≡ l.fn.line.items ++ blanked (take l.name-index l.names)
