-- The kind and the cells at the index.
use Rattle.std.proofs.Common.{rules}
use Rattle.tiled_pieces.proofs.ListedLemmas.{laid_of}
use Rattle.tiled_pieces.proofs.listed.ListedTiling.piece_at.Goals as goal

pub returns : goal.returns
returns c = search (rules, laid_of)
