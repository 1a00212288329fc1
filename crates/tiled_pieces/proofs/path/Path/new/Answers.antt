-- There is no piece.
use Rattle.std.proofs.Common.{refl, arith}
use Rattle.tiled_pieces.specs.Listings.{path_of}
use Rattle.tiled_pieces.proofs.ListedAll.{nowhere}
use Rattle.tiled_pieces.proofs.path.Path.new.Goals as goal

pub invariant_of-result : goal.invariant_of-result
invariant_of-result c = record { few = omega arith; none = λ index _ low. nowhere c.empty.result c.empty.ensures index low }

pub returns : goal.returns
unfolding path_of
returns c = refl
