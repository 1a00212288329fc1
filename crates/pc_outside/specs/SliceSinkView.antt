-- How a sink over a slice is seen.
use Rattle.std.specs.Prelude.{[], ◌∷◌, take, drop, nat_lt, if◌then◌else◌}
use Rattle.pc_outside.specs.declared.slice_sink.SliceSink.{SliceSink}
use Rattle.pc_outside.specs.SliceSink.{SliceSinkState}

abbrev pub sink_view : SliceSink → SliceSinkState
sink_view s = record {
  bytes = take s.count s.buffer.now;
  rest = drop s.count s.buffer.now;
  missed = if nat_lt 0 s.faults then s.missed ∷ [] else [];
  faults = s.faults;
  slice = s.buffer.ghost_name;
}
