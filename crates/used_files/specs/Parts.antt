use Rattle.std.specs.Prelude.{ℕ, List}
use Rattle.std.specs.Borrow.{Bor}

-- a text, without where it lies in memory
abbrev pub now_of : Bor (List ℕ) → List ℕ
now_of text = text.now
