-- The cells so far.
use Rattle.std.proofs.Common.{◌≡◌, ℕ, map, take, pos}
use Rattle.srs.specs.SameCells.{is_among}
use Rattle.empty_cells.specs.Empties.{empty_cells}
use Rattle.empty_cells.specs.SentCells.{sent_up}
use Rattle.empty_cells.proofs.empties.Empties.sent.Given as goal

abbrev pub invariant-loop-x : goal.invariant-loop-x
invariant-loop-x l = (a b : ℕ) → empty_cells l.sent a b ≡ is_among (map (sent_up l.rows) (take l.x-index l.x-items)) (pos a, pos b)
