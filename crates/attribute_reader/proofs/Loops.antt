-- A loop that reads as many items as a count says, each with all before it.
use Rattle.std.proofs.Common.{◌≡◌, ℕ, suc, ◌+◌, ◌-◌, ◌<◌, ◌≤◌, List, ◌++◌, Ok, Err, refl}
use Rattle.std.proofs.Common.{sym, ◌∙◌, arith}
use Rattle.pool_reader.specs.declared.fault.ReadErr.{ReadErr}
use Rattle.pool_reader.specs.declared.fault.ReadErr.TheVariants as errors
use Rattle.pool_reader.specs.Reading.{Position, Read, Fails}
use Rattle.attribute_reader.specs.Items.{growing}

module _ {A : Type 0} (read : List A → Position → Read (List A)) where
  pub grows : (before more : List A) (count i : ℕ) (p after : Position) (total : Read (List A))
      → i < count
      → read before p ≡ Ok (more, after)
      → growing read before (count - i) p ≡ total
      → growing read (before ++ more) (count - (i + 1)) after ≡ total
  unfolding growing
  grows before more count i p after total lt h so_far =
      let k : count - i ≡ suc (count - (i + 1)) = omega arith in
      let one : growing read before (count - i) p
      ≡ growing read (before ++ more) (count - (i + 1)) after =
      rw (k, h) refl in
      sym one ∙ so_far

  pub growing_ends : (e : ReadErr) (before : List A) (count i : ℕ) (p : Position)
      (total : Read (List A))
      → i < count
      → Fails e (read before p)
      → growing read before (count - i) p ≡ total
      → Fails e total
  unfolding growing
  growing_ends errors.Memory before count i p total lt h so_far = tt
  growing_ends (errors.Fault f) before count i p total lt h so_far =
      let k : count - i ≡ suc (count - (i + 1)) = omega arith in
      let one : growing read before (count - i) p ≡ Err f = rw (k, h) refl in
      sym so_far ∙ one

  pub grown : (before : List A) (count i : ℕ) (p : Position) (total : Read (List A))
      → count ≤ i
      → growing read before (count - i) p ≡ total
      → total ≡ Ok (before, p)
  unfolding growing
  grown before count i p total le so_far =
      let k : count - i ≡ 0 = omega arith in
      let one : growing read before (count - i) p ≡ Ok (before, p) = rw k refl in
      sym so_far ∙ one
