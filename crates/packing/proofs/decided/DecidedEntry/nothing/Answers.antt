-- No piece is needed where there is no cell.
use Rattle.std.proofs.Common.{refl, ap}
use Rattle.lane_board.specs.Field.{Field, empty_field}
use Rattle.empty_cells.proofs.CallerLemmas.{fills_nothing}
use Rattle.packing.proofs.decided.DecidedEntry.nothing.Goals as goal

pub new-requires-2 : goal.new-requires-2
unfolding empty_field
new-requires-2 c = (λ _. fills_nothing 8 _ _ (record { none = λ x y. ap (λ (E : Field). E x y) c.empty.ensures }), λ _. refl)
