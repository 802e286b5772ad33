use Rattle.std.proofs.Common.{◌≡◌, ℕ, true, cond, not, List, [], map, length}
use Rattle.std.proofs.Common.{get_or, ap, sym, ◌∙◌, arith}
use Rattle.std.specs.Prelude.{bytes_eq}
use Rattle.std.specs.List.{list_any}
use Rattle.std.specs.Borrow.{Bor}
use Rattle.std.specs.HashSet.{contains_by}
use Rattle.used_files.specs.Parts.{now_of}
use Rattle.used_files.specs.Paths.{is_repeated}
use Rattle.used_files.proofs.Keys.{among_more, repeated_at, marks_more, twice_not}
use Rattle.used_files.proofs.repeats.repeated_marks.Goals as goal

pub loop-key-init : goal.loop-key-init
loop-key-init c = record {
  len = c.in_ok-marks.ensures.len;
  marks = λ k lt. absurd (omega (arith, lt));
  seen =
      λ q. ap (list_any (λ (key : Bor (List ℕ)). bytes_eq q.now key.now))
      c.in_ok-seen.ensures.empty;
}

pub loop-key-preserved : goal.loop-key-preserved
loop-key-preserved c =
    let keys = c.args.keys.now in
    let i = c.loop-key.key-index in
    let none : Bor (List ℕ) = record { ref_ptr = (0, 0); now = [] } in
    let key = get_or keys i none in
    let inside = c.loop-key-test.true in
    let so_far = c.loop-key.invariant in
    let long : length c.loop-key.marks.items ≡ i =
    sym c.loop-key.marks.ok.0 ∙ so_far.len in
    record {
      len = omega (arith, c.in_ok-push.ensures.len, so_far.len);
      marks =
          marks_more c.loop-key.marks.items c.push.new.self.items (not c.in_ok-is_new.is_new)
          (is_repeated (map now_of keys)) i long c.in_ok-push.ensures.items so_far.marks
          (ap not c.in_ok-is_new.ensures.added
          ∙ twice_not (contains_by (λ other. bytes_eq key.now other.now) c.loop-key.seen)
          ∙ so_far.seen key ∙ sym (repeated_at keys i none inside));
      seen =
          λ q. c.in_ok-is_new.ensures.updates.0 q
          ∙ ap (λ b. cond (bytes_eq key.now q.now) true b) (so_far.seen q)
          ∙ sym (among_more keys i none q.now inside);
    }
