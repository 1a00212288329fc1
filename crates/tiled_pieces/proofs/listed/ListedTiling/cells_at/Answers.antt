-- The kind and the cells at the index.
use Rattle.std.proofs.Common.{rules}
use Rattle.srs.proofs.CallerLemmas.{piece_code-injective}
use Rattle.tiled_pieces.proofs.ListedLemmas.{laid_kind, laid_of}
use Rattle.tiled_pieces.proofs.listed.ListedTiling.cells_at.Goals as goal

pub returns-then-code : goal.returns-then-code
returns-then-code c = search (rules, laid_kind)

pub returns : goal.returns
returns c = search (rules, laid_of, piece_code-injective)
