-- The bits of the span are taken.
use Rattle.std.proofs.Common.{arith}
use Rattle.std.proofs.Math.Path.{fun_ext}
use Rattle.empty_cells.specs.Spans.{without_span}
use Rattle.empty_cells.proofs.EmptiesLemmas.{same_left}
use Rattle.empty_cells.proofs.SpanBits.{moved_twice, taken_bit}
use Rattle.empty_cells.proofs.empties.Empties.without_span.Goals as goal

pub returns : goal.returns
unfolding without_span
returns c = grind (arith, fun_ext, same_left, moved_twice, taken_bit)
