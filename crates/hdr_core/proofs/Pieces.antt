-- Bytes that are read or written piece by piece.
use Rattle.std.proofs.Common.{◌≡◌, ℕ, ◌+◌, true, List, ◌++◌, take, drop, length, ap, sym, ◌∙◌}
use Rattle.std.proofs.Common.{append_assoc, nat_eq}
use Rattle.std.specs.Prelude.{Option, Some, None}
use Rattle.std.specs.Io.KnownBytes.{Appends, Consumes}
use Rattle.std.specs.List.{starts_with}
use Rattle.std.proofs.Math.Seq.{take-add}
use lib.Pointwise.{bytes_decides}

-- one more piece, which is the next of the bytes
pub consumes_more : (first mid last : Option (List ℕ)) (at : ℕ) (bytes piece : List ℕ)
    → Consumes first mid (take at bytes) → Consumes mid last piece
    → starts_with nat_eq (drop at bytes) piece ≡ true
    → Consumes first last (take (at + length piece) bytes)
consumes_more None mid last at bytes piece before now same = tt
consumes_more (Some xs) None last at bytes piece before now same = absurd before
consumes_more (Some xs) (Some ys) None at bytes piece before now same = absurd now
consumes_more (Some xs) (Some ys) (Some zs) at bytes piece before now same =
    before ∙ ap (λ t. take at bytes ++ t) now ∙ sym (append_assoc (take at bytes) piece zs)
    ∙ ap (λ t. t ++ zs) more
  where
    more : take at bytes ++ piece ≡ take (at + length piece) bytes
    more =
        ap (λ t. take at bytes ++ t)
        ((bytes_decides piece (take (length piece) (drop at bytes))).0 same)
        ∙ sym (take-add at (length piece) bytes)

-- one more piece is written, behind the bytes before it
pub appends_more : (first mid last : Option (List ℕ)) (at count : ℕ) (bytes : List ℕ)
    → Appends first mid (take at bytes) → Appends mid last (take count (drop at bytes))
    → Appends first last (take (at + count) bytes)
appends_more None mid last at count bytes before now = tt
appends_more (Some xs) None last at count bytes before now = absurd before
appends_more (Some xs) (Some ys) None at count bytes before now = absurd now
appends_more (Some xs) (Some ys) (Some zs) at count bytes before now =
    now ∙ ap (λ t. t ++ take count (drop at bytes)) before
    ∙ append_assoc xs (take at bytes) (take count (drop at bytes))
    ∙ ap (λ t. xs ++ t) (sym (take-add at count bytes))
