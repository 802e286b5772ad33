-- What the objects in memory hold, and which calls were made on them.
use Rattle.std.specs.Prelude.{ℕ, List, Option, Some, map, string_bytes}
use Rattle.hdr_core.specs.Calls.{calls_failed}
use Rattle.hdr_core.specs.declared.calls.Calls.{Calls}
use Rattle.hdr_core.specs.declared.failing.MemFiles.{MemFiles}
use Rattle.hdr_core.specs.declared.failing.MemOuts.{MemOuts}
use Rattle.hdr_core.specs.declared.held.HeldFile.{HeldFile}
use Rattle.hdr_core.specs.declared.sure.SureFiles.{SureFiles}
use Rattle.hdr_core.specs.declared.sure.SureOuts.{SureOuts}
use Rattle.hdr_core.specs.declared.sure.SureSink.{SureSink}

-- files in memory, each as its path and its bytes
abbrev pub held_files : List HeldFile → List (List ℕ × List ℕ)
held_files = map (λ file. (string_bytes file.path, file.bytes.items))

abbrev pub files_held : MemFiles → Option (List (List ℕ × List ℕ))
files_held files = Some (held_files files.files.items)

abbrev pub files_calls : MemFiles → Calls
files_calls files = files.calls

abbrev pub files_faults : MemFiles → ℕ
files_faults files = calls_failed files.calls

abbrev pub outs_written : MemOuts → Option (List (List ℕ × List ℕ))
outs_written outs = Some (held_files outs.written.items)

abbrev pub outs_calls : MemOuts → Calls
outs_calls outs = outs.calls

abbrev pub outs_faults : MemOuts → ℕ
outs_faults outs = calls_failed outs.calls

abbrev pub sure_held : SureFiles → Option (List (List ℕ × List ℕ))
sure_held sure = Some (held_files sure.files.items)

abbrev pub sure_written : SureOuts → Option (List (List ℕ × List ℕ))
sure_written sure = Some (held_files sure.written.items)

abbrev pub sure_told : SureSink → Option (List ℕ)
sure_told sure = Some sure.told.items
