-- A sink in memory.
use Rattle.std.specs.Prelude.{◌-◌, ℕ, Bool, List, length}
use Rattle.kin_io.specs.declared.plans.CallPlan.{CallPlan}
use Rattle.kin_io.specs.declared.memory_sinks.MemSink.{MemSink}

-- the bytes that it took
abbrev pub taken_bytes : MemSink → List ℕ
taken_bytes s = s.taken.items

-- how many bytes it takes in all
abbrev pub room_of : MemSink → ℕ
room_of s = s.room

-- how many bytes it still takes
abbrev pub room_left : MemSink → ℕ
room_left s = room_of s - length (taken_bytes s)

-- whether it is flushed: no byte was taken since the last flush
abbrev pub has_flushed : MemSink → Bool
has_flushed s = s.is_flushed

-- how often it failed
abbrev pub sink_faults : MemSink → ℕ
sink_faults s = s.faults

-- the calls that were made, and those that are to fail
abbrev pub sink_plan : MemSink → CallPlan
sink_plan s = s.plan
