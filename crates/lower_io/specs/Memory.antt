-- What contracts see of the sources and sinks in memory.
use Rattle.std.specs.Prelude.{ℕ, List}
use Rattle.std.specs.declared.option.Option.{Option}
use Rattle.lower_io.specs.Rest.{rest_bytes}
use Rattle.lower_io.specs.Room.{told_bytes}
use Rattle.lower_io.specs.declared.calls.Calls.{Calls}
use Rattle.lower_io.specs.declared.room.Room.{Room}
use Rattle.lower_io.specs.declared.sink.BytesSink.{BytesSink}
use Rattle.lower_io.specs.declared.sink.SureSink.{SureSink}
use Rattle.lower_io.specs.declared.source.BytesSource.{BytesSource}
use Rattle.lower_io.specs.declared.source.SureSource.{SureSource}

-- the bytes that are left
abbrev pub source_bytes : BytesSource → List ℕ
source_bytes source = rest_bytes source.rest

-- at most so many of them are given in a call
abbrev pub source_step : BytesSource → ℕ
source_step source = source.step

abbrev pub source_calls : BytesSource → Calls
source_calls source = source.calls

abbrev pub source_faults : BytesSource → ℕ
source_faults source = source.calls.failed

-- at most so many bytes are taken in a call
abbrev pub sink_step : BytesSink → ℕ
sink_step sink = sink.step

abbrev pub sink_calls : BytesSink → Calls
sink_calls sink = sink.calls

abbrev pub sink_faults : BytesSink → ℕ
sink_faults sink = sink.calls.failed

abbrev pub sink_room : BytesSink → Room
sink_room sink = sink.room

-- the bytes that are told
abbrev pub sink_told : BytesSink → Option (List ℕ)
sink_told sink = told_bytes sink.room

-- the bytes that are left
abbrev pub sure_bytes : SureSource → List ℕ
sure_bytes source = rest_bytes source.rest

abbrev pub sure_room : SureSink → Room
sure_room sink = sink.room

-- the bytes that are told
abbrev pub sure_told : SureSink → Option (List ℕ)
sure_told sink = told_bytes sink.room
