-- One bit, at most that of the last column and row.
use Rattle.std.proofs.Common.{◌+◌, ◌*◌, arith}
use Rattle.std.proofs.lemmas.Int.{ints}
use Rattle.srs.proofs.CallerLemmas.{near_within}
use Rattle.empty_cells.proofs.PlacedBits.{one_cell_bit}
use Rattle.empty_cells.proofs.placed.cell_bit.Goals as goal

pub returns : goal.returns
returns c =
    let near = near_within c.args.offset c.requires in
    one_cell_bit c.args.offset (8 * c.from_two.result + c.from_two-2.result) c.requires (omega (arith, ints, c.from_two.ensures, c.from_two-2.ensures))
