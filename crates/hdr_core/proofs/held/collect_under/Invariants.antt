use Rattle.std.proofs.Common.{◌≡◌, take, map, filter, string_bytes}
use Rattle.hdr_core.specs.Held.{is_under}
use Rattle.hdr_core.proofs.held.collect_under.Given as goal

-- so far the paths under the root among the files that were gone over
abbrev pub invariant-loop-file : goal.invariant-loop-file
invariant-loop-file l =
    map string_bytes l.paths.items
    ≡ filter (is_under l.root) (map (λ file. string_bytes file.path)
    (take l.file-index l.files))
