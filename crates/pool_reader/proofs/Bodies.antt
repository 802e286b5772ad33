-- The body of an attribute, read within its length.
use Rattle.std.proofs.Common.{◌≡◌, ℕ, ◌<◌, ◌^◌, Bool, true, false, cond, eqb, List, [], ◌++◌}
use Rattle.std.proofs.Common.{length, take, Some, Result, Ok, Err, refl, sym, ap, subst}
use Rattle.std.proofs.Common.{◌∙◌, ◌+◌, append_assoc, append-nil, arith}
use Rattle.std.specs.Int.{w32, to_be_bytes}
use Rattle.std.proofs.lemmas.Bool.{eqb-true}
use Rattle.std.proofs.lemmas.List.{take_at, nil_from_length}
use Rattle.class_desc.specs.Items.{Within}
use Rattle.pool_reader.specs.declared.fault.ClassFault.{ClassFault}
use Rattle.pool_reader.specs.Reading.{◌>>=◌, Position, leaving, left_with, offset, Read}
use Rattle.pool_reader.specs.Reading.{number_at, piece_at, body_at, left_over, ended}
use Rattle.pool_reader.specs.Reading.{behind_body, within}
use Rattle.pool_reader.proofs.Laws.{IsBytes, Takes, Weighs, takes_plainly, again_plainly}
use Rattle.pool_reader.proofs.Laws.{bind_ok, ok_is}
use Rattle.pool_reader.proofs.Numbers.{IsBytes-take, reads_u32, reads_piece}

abbrev done : {A : Type 0} → A → Result A ClassFault
done x = Ok x

-- the position from which a body of these bytes is read
abbrev inside : Position → List ℕ → Position → Position
inside begun bytes behind = record {
  rest = bytes;
  end = offset behind;
  outer = Some (offset begun);
  spare = begun.spare;
}

-- ---- the body

-- the bytes here begin with a length and as many bytes, which are the body
record TakesBody (p body left : Position) : Type 0 where
  bytes : List ℕ
  fits : length bytes < 2 ^ 32
  parts : p.rest ≡ (to_be_bytes w32 (length bytes) ++ bytes) ++ left.rest
  stays : left ≡ leaving p left.rest
  left_fits : IsBytes left.rest
  body_is : inside p bytes left ≡ body
  body_fits : IsBytes bytes

takes_body : (p body left : Position) → IsBytes p.rest → body_at p ≡ Ok (body, left)
    → TakesBody p body left
unfolding body_at
takes_body p body left fits e =
    let b = bind_ok (number_at w32 p)
    (λ count. piece_at count.0 count.1 >>= λ bytes. Ok (inside p bytes.0 bytes.1, bytes.1))
    (body, left) e in
    let n = b.0.0 in
    let q = b.0.1 in
    let t = takes_plainly reads_u32 p n q fits b.1 in
    let c = bind_ok (piece_at n q) (λ bytes. Ok (inside p bytes.0 bytes.1, bytes.1)) (body, left)
    b.2 in
    let bytes = c.0.0 in
    let behind = c.0.1 in
    let u = takes_plainly (reads_piece n) q bytes behind t.left_fits c.1 in
    let is = ok_is (inside p bytes behind, behind) (body, left) c.2 in
    let rest_is : q.rest ≡ bytes ++ behind.rest =
    u.parts ∙ ap (λ (t : List ℕ). t ++ behind.rest) u.spells.1 in
    let front_is : take n q.rest ≡ bytes =
    ap (take n) rest_is ∙ take_at bytes behind.rest n u.spells.0 in
    let count_is : t.text ≡ to_be_bytes w32 (length bytes) =
    t.spells.1 ∙ ap (to_be_bytes w32) (sym u.spells.0) in
    subst (λ (x : Position × Position). TakesBody p x.0 x.1) is (record {
      bytes = bytes;
      fits = subst (λ (k : ℕ). k < 2 ^ 32) (sym u.spells.0) t.spells.0;
      parts = t.parts ∙ ap (λ (k : List ℕ). k ++ q.rest) count_is
          ∙ ap (λ (k : List ℕ). to_be_bytes w32 (length bytes) ++ k) rest_is
          ∙ sym (append_assoc (to_be_bytes w32 (length bytes)) bytes behind.rest);
      stays = u.stays ∙ ap (λ (x : Position). leaving x behind.rest) t.stays;
      left_fits = u.left_fits;
      body_is = refl;
      body_fits = subst IsBytes front_is (IsBytes-take n q.rest t.left_fits);
    })

body_again : (p : Position) (bytes left : List ℕ) → length bytes < 2 ^ 32
    → body_at (leaving p ((to_be_bytes w32 (length bytes) ++ bytes) ++ left))
    ≡ Ok (
      inside (leaving p ((to_be_bytes w32 (length bytes) ++ bytes) ++ left)) bytes
          (leaving p left),
      leaving p left,
    )
unfolding body_at
body_again p bytes left fits =
    let count = to_be_bytes w32 (length bytes) in
    let begun = leaving p ((count ++ bytes) ++ left) in
    let regrouped : (count ++ bytes) ++ left ≡ count ++ (bytes ++ left) =
    append_assoc count bytes left in
    let one : number_at w32 begun ≡ Ok (length bytes, leaving p (bytes ++ left)) =
    ap (λ (t : List ℕ). number_at w32 (leaving p t)) regrouped
    ∙ again_plainly reads_u32 p (length bytes) count (bytes ++ left) (fits, refl) in
    let two : piece_at (length bytes) (leaving p (bytes ++ left)) ≡ Ok (bytes, leaving p left) =
    again_plainly (reads_piece (length bytes)) p bytes bytes left (refl, refl) in
    ap (λ (r : Read ℕ). r >>= λ count. piece_at count.0 count.1 >>= λ bytes.
    done (inside begun bytes.0 bytes.1, bytes.1)) one
    ∙ ap (λ (r : Read (List ℕ)). r >>= λ bytes. done (inside begun bytes.0 bytes.1, bytes.1)) two

-- ---- its end

none_left : (p : Position) (nothing : Unit {0}) → ended p ≡ Ok nothing → p.rest ≡ []
none_left p nothing e = by (eqb (length p.rest) 0) refl e
  where
    by : (b : Bool)
        → eqb (length p.rest) 0 ≡ b
        → cond b (Ok tt) (Err (left_over p p.outer)) ≡ Ok nothing
        → p.rest ≡ []
    by true is e = nil_from_length p.rest (eqb-true _ _ is)
    by false is e = absurd cc

-- ---- an item that is the whole body

abbrev pub WithinSpells : {A : Type 0} → (A → List ℕ → Type 0) → A → List ℕ → Type 0
WithinSpells Spells item = Within (Spells item)

module _ {A : Type 0} {weight : A → ℕ} {read : Position → Read A} {Spells : A → List ℕ → Type 0}
    (law : Weighs 0 weight read Spells) where
  within_takes : (p : Position) (item : A) (left : Position) → IsBytes p.rest
      → within read p ≡ Ok (item, left)
      → Takes 0 weight (WithinSpells Spells) p item left
  within_takes p item left fits e =
      let b = bind_ok (body_at p)
      (λ body. read body.0 >>= λ item. behind_body item.1 body.1 >>= λ behind.
      Ok (item.0, behind.1)) (item, left) e in
      let t = takes_body p b.0.0 b.0.1 fits b.1 in
      let c = bind_ok (read b.0.0)
      (λ item. behind_body item.1 b.0.1 >>= λ behind. Ok (item.0, behind.1)) (item, left) b.2 in
      let read_is : read (inside p t.bytes b.0.1) ≡ Ok c.0 = ap read t.body_is ∙ c.1 in
      let u = law.takes (inside p t.bytes b.0.1) c.0.0 c.0.1 t.body_fits read_is in
      let d = bind_ok (behind_body c.0.1 b.0.1) (λ behind. Ok (c.0.0, behind.1)) (item, left) c.2
      in
      let f = bind_ok (ended c.0.1) (λ end. Ok (tt, left_with b.0.1 b.0.1.rest c.0.1.spare)) d.0
      d.1 in
      let whole : t.bytes ≡ u.text =
      u.parts ∙ ap (λ (k : List ℕ). u.text ++ k) (none_left c.0.1 f.0 f.1)
      ∙ append-nil u.text in
      let behind_is : left_with b.0.1 b.0.1.rest c.0.1.spare ≡ d.0.1 =
      ap (λ (x : Unit {0} × Position). x.1)
      (ok_is (tt, left_with b.0.1 b.0.1.rest c.0.1.spare) d.0 f.2) in
      let is = ap (λ (q : Position). (c.0.0, q)) behind_is
      ∙ ok_is (c.0.0, d.0.1) (item, left) d.2 in
      subst (λ (x : A × Position). Takes 0 weight (WithinSpells Spells) p x.0 x.1) is (record {
        text = to_be_bytes w32 (length t.bytes) ++ t.bytes;
        parts = t.parts;
        stays = ap (λ (q : Position). left_with q b.0.1.rest c.0.1.spare) t.stays;
        spent = u.spent;
        left_fits = t.left_fits;
        spells = record {
          body = t.bytes;
          fits = t.fits;
          whole = refl;
          spelled = subst (Spells c.0.0) (sym whole) u.spells;
        };
      })

  within_again : (p : Position) (item : A) (text left : List ℕ) (spare : ℕ)
      → WithinSpells Spells item text
      → p.spare + 0 ≡ spare + weight item
      → within read (leaving p (text ++ left)) ≡ Ok (item, left_with p left spare)
  within_again p item text left spare s spent =
      let count = to_be_bytes w32 (length s.body) in
      let begun = leaving p ((count ++ s.body) ++ left) in
      let body = inside begun s.body (leaving p left) in
      let one : body_at begun ≡ Ok (body, leaving p left) = body_again p s.body left s.fits in
      let two : read body ≡ Ok (item, left_with body [] spare) =
      ap (λ (t : List ℕ). read (leaving body t)) (sym (append-nil s.body))
      ∙ law.again body item s.body [] spare s.spelled spent in
      ap (λ (t : List ℕ). within read (leaving p (t ++ left))) s.whole
      ∙ ap (λ (r : Read Position). r >>= λ body. read body.0 >>= λ item.
      behind_body item.1 body.1 >>= λ behind. done (item.0, behind.1)) one
      ∙ ap (λ (r : Read A). r >>= λ item. behind_body item.1 (leaving p left) >>= λ behind.
      done (item.0, behind.1)) two

  -- a reader within a length reads just what is spelled there
  pub weighs_within : Weighs 0 weight (within read) (WithinSpells Spells)
  weighs_within = record {
    takes = within_takes;
    again = within_again;
    more = λ item text s. omega arith;
  }
