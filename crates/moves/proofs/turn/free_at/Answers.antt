-- The pivot is moved by few columns and rows, so that no sum leaves a byte.
use Rattle.std.proofs.Common.{rules}
use Rattle.srs.specs.Cells.{moved}
use Rattle.well.proofs.CallerLemmas.{free_pivot_inside}
use Rattle.moves.proofs.TurnLemmas.{none_outside, some_inside}
use Rattle.moves.proofs.turn.free_at.Goals as goal
use Rattle.moves.proofs.turn.free_at.Goals.{then-x-lt0-via-then-x-lt0, then-x-lt0-via-else-x-lt0+then-y-lt0}

pub returns-then-x-lt0 : goal.returns-then-x-lt0
unfolding moved
returns-then-x-lt0 c = search (rules, none_outside, free_pivot_inside)

pub returns : goal.returns
unfolding moved
returns c = search (rules, free_pivot_inside, some_inside)
