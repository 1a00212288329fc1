-- Two words of each rotation.
use Rattle.srs.specs.declared.rotation.Rotation.{Rotation}
use Rattle.place_sets.specs.States.{states_of}
use Rattle.place_sets.proofs.LowPlaceLemmas.{eight_filled}
use Rattle.place_sets.proofs.PieceIndex.{indexed_piece}
use Rattle.place_sets.proofs.StateSets.{states_within}
use Rattle.place_sets.proofs.low_held.LowPlaces.of_states.Goals as goal

pub returns-clause-piece : goal.returns-clause-piece
returns-clause-piece g c = indexed_piece _ c.args.piece c.kind_of.ensures

pub returns-clause-held : goal.returns-clause-held
unfolding states_of
returns-clause-held g c =
    eight_filled _ c.args.piece (states_of c.args.states.now) c.args.rows c.pivot_bounds-bounds.result c.requires (λ (r : Rotation). states_within c.args.states.now r) c.pivot_bounds-bounds.ensures.bounds
    c.rows_under.ensures c.rows_under-2.ensures c.rows_under-3.ensures c.rows_under-4.ensures c.rows_under-5.ensures c.rows_under-6.ensures c.rows_under-7.ensures c.rows_under-8.ensures
    (indexed_piece _ c.args.piece c.kind_of.ensures)
