-- The piece is put at the first free index.
use Rattle.std.proofs.Common.{rules}
use Rattle.tiled_pieces.specs.Listings.{path_of}
use Rattle.tiled_pieces.proofs.PathLemmas.{one_more, put_elsewhere, put_there}
use Rattle.tiled_pieces.proofs.path.Path.push.Goals as goal

pub invariant_of-self : goal.invariant_of-self
invariant_of-self c = search (rules, put_elsewhere)

pub returns : goal.returns
unfolding path_of
returns c = search (rules, one_more, put_elsewhere, put_there)
