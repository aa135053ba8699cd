-- What the outside in memory holds and tells.
use Rattle.std.specs.Prelude.{ℕ, List, Option, Some, drop}
use Rattle.kt_base.specs.declared.memory.Fails.{Fails}
use Rattle.kt_base.specs.declared.memory.MemSource.{MemSource}
use Rattle.kt_base.specs.declared.memory.MemSink.{MemSink}
use Rattle.kt_base.specs.declared.clock.MemClock.{MemClock}
use Rattle.kt_base.specs.Readings.{counted_readings}

-- what a clock has to give
abbrev pub list_of : MemClock → List ℕ
list_of clock = clock.readings

-- how many readings it gave
abbrev pub given_of : MemClock → ℕ
given_of clock = clock.given

abbrev pub told_readings : MemClock → Option (List ℕ)
told_readings clock = counted_readings clock.readings clock.given

abbrev pub told_left : MemSource → Option (List ℕ)
told_left source = Some (drop source.at source.bytes)

-- the calls of a source so far, and those which are to fail
abbrev pub source_fails : MemSource → Fails
source_fails source = source.fails

abbrev pub told_written : MemSink → Option (List ℕ)
told_written sink = Some sink.bytes.items

-- the calls of a sink so far, and those which are to fail
abbrev pub sink_fails : MemSink → Fails
sink_fails sink = sink.fails

-- how many bytes more a sink has room for
abbrev pub room_of : MemSink → ℕ
room_of sink = sink.room
