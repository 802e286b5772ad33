use Rattle.std.proofs.Common.{◌≡◌, ◌≤◌, length, map, drop}
use Rattle.std.specs.Prelude.{IfSome}
use Rattle.std.specs.Vec.Iter.{into_iter_items}
use Rattle.used_files.specs.Paths.{file_at}
use Rattle.file_contents.specs.Valid.{AreValid}
use Rattle.file_contents.proofs.Reading.{SoFar}
use Rattle.file_contents.proofs.found.read_files.Given as goal

abbrev pub invariant-loop-place : goal.invariant-loop-place
invariant-loop-place g l =
    let held = g.F.Files.held in
    let faults = g.F.Files.faults in
    let all = into_iter_items l.initial.place-iterator in
    record {
      within : l.file ≤ length all;
      rest : into_iter_items l.place-iterator ≡ drop l.file all;
      few : l.found.total ≤ l.limits.bytes;
      so_far : IfSome (held l.fn.files)
          (λ files. SoFar l.limits (map (file_at files) all) l.file l.found);
      valid : AreValid l.found.items.items;
      grew : length l.found.items.items ≤ l.file;
      faults : faults l.files ≡ faults l.fn.files;
      held : held l.files ≡ held l.fn.files;
    }
