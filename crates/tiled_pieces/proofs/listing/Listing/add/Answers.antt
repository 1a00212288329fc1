-- The path is pushed, or the list is full.
use Rattle.std.proofs.Common.{refl}
use Rattle.tiled_pieces.proofs.PathLemmas.{adds_path}
use Rattle.tiled_pieces.proofs.listing.Listing.add.Goals as goal

pub returns-in-Ok : goal.returns-in-Ok
returns-in-Ok c = adds_path c.args.self.now _ refl refl refl c.in-Ok.ensures.items
