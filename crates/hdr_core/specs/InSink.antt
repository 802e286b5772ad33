-- What a sink in memory was told, how much a write takes, and which calls were made on it.
use Rattle.std.specs.Prelude.{ℕ, List, Option, Some}
use Rattle.hdr_core.specs.Calls.{calls_failed}
use Rattle.hdr_core.specs.declared.calls.Calls.{Calls}
use Rattle.hdr_core.specs.declared.failing.MemSink.{MemSink}

abbrev pub sink_told : MemSink → Option (List ℕ)
sink_told sink = Some sink.told.items

-- how many bytes a write takes at most
abbrev pub sink_step : MemSink → ℕ
sink_step sink = sink.step

abbrev pub sink_calls : MemSink → Calls
sink_calls sink = sink.calls

abbrev pub sink_faults : MemSink → ℕ
sink_faults sink = calls_failed sink.calls
