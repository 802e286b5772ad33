-- Files that are written, and their order.
use Rattle.std.specs.declared.cmp.Ordering.{Ordering}
use Rattle.std.specs.Ordering.{nat_cmp, on, then_cmp}
use Rattle.std.specs.Cmp.Lexicographic.{slice_cmp}
use Rattle.run_ends.specs.declared.out_file.OutFile.{OutFile}
use Rattle.used_files.specs.Paths.{File}

-- a file that is written, as its path and its bytes
abbrev pub file_seen : OutFile → File
file_seen file = (file.path, file.bytes)

-- by path, and files of one path by their bytes
abbrev pub file_order : File → File → Ordering
file_order =
    then_cmp (on (λ file. file.0) (slice_cmp nat_cmp)) (on (λ file. file.1) (slice_cmp nat_cmp))
