-- The line of a fault in a slice, after its write.
use Rattle.std.proofs.Common.{◌≡◌, ℕ, List, [], length, take, Some, Result, rules}
use Rattle.std.specs.Prelude.{OnErr}
use Rattle.pc_outside.specs.declared.slice_sink.SliceSink.{SliceSink}
use Rattle.pc_outside.specs.Counts.{Rose}
use Rattle.pc_outside.specs.SliceSink.{held_bytes}
use Rattle.pc_outside.specs.SliceSinkView.{sink_view}
use Rattle.pc_outside.specs.WriteLaws.{writes_front}
use Rattle.pc_outside.specs.Writes.{WritesAll}
use Rattle.pc_c.proofs.CallLemmas.{cut_or_whole}

-- a text was written to a sink that held nothing, as far as there is room
pub cut_line : {T E : Type 0} (s : SliceSink) (text : List ℕ) (result : Result T E) (before : ℕ) → before ≡ 0
    → WritesAll (Some []) (Some (held_bytes (sink_view s))) result text → OnErr result (Rose before s.faults)
    → (sink_view s).bytes ≡ take (length s.buffer.now) text
cut_line s text result before none written cause = search (rules, cut_or_whole, writes_front)
