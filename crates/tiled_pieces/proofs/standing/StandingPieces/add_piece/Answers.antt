-- It is there already, or it is added.
use Rattle.std.proofs.Common.{refl}
use Rattle.tiled_pieces.proofs.StandingLemmas.{grows_by_push}
use Rattle.tiled_pieces.proofs.standing.StandingPieces.add_piece.Goals as goal

pub returns-clause-added : goal.returns-clause-added
returns-clause-added c = grows_by_push c.args.self.now.pieces.items c.push.new.self.items c.args.number _ refl c.in_ok-push.ensures.items
