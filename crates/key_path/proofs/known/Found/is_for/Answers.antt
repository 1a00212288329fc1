-- Each part is the same.
use Rattle.std.proofs.Common.{rules}
use Rattle.key_path.proofs.known.Found.is_for.Goals as goal

pub returns : goal.returns
returns c = search rules
