-- Loops that read items as long as some come.
use Rattle.std.proofs.Common.{◌≡◌, refl, sym, ◌∙◌, ap, ℕ, suc, ◌+◌, ◌-◌, ◌<◌, ◌≤◌, arith}
use Rattle.std.proofs.Common.{List, [], ◌∷◌, ◌++◌, append_assoc, append-nil, Some, None}
use Rattle.java_grammar.specs.Marks.{Mark}
use Rattle.type_expr_parser.specs.Reading.{Read, prepended, many, many_count, behind_many}

-- so many before these
abbrev pub counted : ℕ → ℕ × List Mark → ℕ × List Mark
counted so_far read = (so_far + read.0, read.1)

module _ {A : Type 0} where
  pub goes_on : (item : List Mark → Read A) (front : List A) (count i : ℕ) (text : List Mark)
      (x : A) (after : List Mark) (total : List A × List Mark)
      → i < count
      → item text ≡ Some (x, after)
      → prepended front (many item (count - i) text) ≡ total
      → prepended (front ++ x ∷ []) (many item (count - (i + 1)) after) ≡ total
  unfolding many
  goes_on item front count i text x after total lt h so_far =
      let k : count - i ≡ suc (count - (i + 1)) = omega arith in
      let r = many item (count - (i + 1)) after in
      let one : prepended front (many item (count - i) text) ≡ prepended (front ++ x ∷ []) r =
      rw (k, h) (ap (λ l. (l, r.1)) (sym (append_assoc front (x ∷ []) r.0))) in
      sym one ∙ so_far

  pub stops : (item : List Mark → Read A) (front : List A) (count i : ℕ) (text : List Mark)
      (total : List A × List Mark)
      → i < count
      → item text ≡ None
      → prepended front (many item (count - i) text) ≡ total
      → total ≡ (front, text)
  unfolding many
  stops item front count i text total lt h so_far =
      let k : count - i ≡ suc (count - (i + 1)) = omega arith in
      let one : prepended front (many item (count - i) text) ≡ (front, text) =
      rw (k, h) (ap (λ l. (l, text)) (append-nil front)) in
      sym so_far ∙ one

  pub is_done : (item : List Mark → Read A) (front : List A) (count i : ℕ) (text : List Mark)
      (total : List A × List Mark)
      → count ≤ i
      → prepended front (many item (count - i) text) ≡ total
      → total ≡ (front, text)
  unfolding many
  is_done item front count i text total le so_far =
      let k : count - i ≡ 0 = omega arith in
      let one : prepended front (many item (count - i) text) ≡ (front, text) =
      rw k (ap (λ l. (l, text)) (append-nil front)) in
      sym so_far ∙ one

  -- ---- as many as come

  pub counts_on : (item : List Mark → Read A) (so_far count i : ℕ) (text : List Mark)
      (x : A) (after : List Mark) (total : ℕ × List Mark)
      → i < count
      → item text ≡ Some (x, after)
      → counted so_far (many_count item (count - i) text) ≡ total
      → counted (so_far + 1) (many_count item (count - (i + 1)) after) ≡ total
  unfolding many_count
  counts_on item so_far count i text x after total lt h before =
      let k : count - i ≡ suc (count - (i + 1)) = omega arith in
      let r = many_count item (count - (i + 1)) after in
      let e : so_far + suc r.0 ≡ (so_far + 1) + r.0 = omega arith in
      let one : counted so_far (many_count item (count - i) text) ≡ counted (so_far + 1) r =
      rw (k, h) (ap (λ n. (n, r.1)) e) in
      sym one ∙ before

  pub count_stops : (item : List Mark → Read A) (so_far count i : ℕ) (text : List Mark)
      (total : ℕ × List Mark)
      → i < count
      → item text ≡ None
      → counted so_far (many_count item (count - i) text) ≡ total
      → total ≡ (so_far, text)
  unfolding many_count
  count_stops item so_far count i text total lt h before =
      let k : count - i ≡ suc (count - (i + 1)) = omega arith in
      let e : so_far + 0 ≡ so_far = omega arith in
      let one : counted so_far (many_count item (count - i) text) ≡ (so_far, text) =
      rw (k, h) (ap (λ n. (n, text)) e) in
      sym before ∙ one

  pub count_is_done : (item : List Mark → Read A) (so_far count i : ℕ) (text : List Mark)
      (total : ℕ × List Mark)
      → count ≤ i
      → counted so_far (many_count item (count - i) text) ≡ total
      → total ≡ (so_far, text)
  unfolding many_count
  count_is_done item so_far count i text total le before =
      let k : count - i ≡ 0 = omega arith in
      let e : so_far + 0 ≡ so_far = omega arith in
      let one : counted so_far (many_count item (count - i) text) ≡ (so_far, text) =
      rw k (ap (λ n. (n, text)) e) in
      sym before ∙ one

  -- ---- passed

  pub passes : (item : List Mark → Read A) (count i : ℕ) (text : List Mark) (x : A)
      (after total : List Mark)
      → i < count
      → item text ≡ Some (x, after)
      → behind_many item (count - i) text ≡ total
      → behind_many item (count - (i + 1)) after ≡ total
  unfolding behind_many
  passes item count i text x after total lt h so_far =
      let k : count - i ≡ suc (count - (i + 1)) = omega arith in
      let one : behind_many item (count - i) text ≡ behind_many item (count - (i + 1)) after =
      rw (k, h) refl in
      sym one ∙ so_far

  pub passing_stops : (item : List Mark → Read A) (count i : ℕ) (text total : List Mark)
      → i < count
      → item text ≡ None
      → behind_many item (count - i) text ≡ total
      → total ≡ text
  unfolding behind_many
  passing_stops item count i text total lt h so_far =
      let k : count - i ≡ suc (count - (i + 1)) = omega arith in
      let one : behind_many item (count - i) text ≡ text = rw (k, h) refl in
      sym so_far ∙ one

  pub passing_is_done : (item : List Mark → Read A) (count i : ℕ) (text total : List Mark)
      → count ≤ i
      → behind_many item (count - i) text ≡ total
      → total ≡ text
  unfolding behind_many
  passing_is_done item count i text total le so_far =
      let k : count - i ≡ 0 = omega arith in
      let one : behind_many item (count - i) text ≡ text = rw k refl in
      sym so_far ∙ one
