use Rattle.std.proofs.Common.{◌≡◌, map, take}
use Rattle.std.specs.Prelude.{IfSome}
use Rattle.std.specs.List.{flat_map}
use Rattle.used_files.specs.Parts.{now_of}
use Rattle.used_files.specs.Paths.{places}
use Rattle.used_files.proofs.used.list_roots.Given as goal

-- the places of the roots so far
abbrev pub invariant-loop-root : goal.invariant-loop-root
invariant-loop-root g l =
    let held = g.F.Files.held in
    let faults = g.F.Files.faults in
    record {
      used : IfSome (held l.fn.files)
          (λ files. l.all.items
          ≡ flat_map (places l.kinds files) (map now_of (take l.root-index l.roots)));
      faults : faults l.files ≡ faults l.fn.files;
      held : held l.files ≡ held l.fn.files;
    }
