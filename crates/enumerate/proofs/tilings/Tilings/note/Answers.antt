-- What is noted goes first, or memory was refused.
use Rattle.std.proofs.Common.{refl}
use Rattle.enumerate.specs.Settled.{by_memory, no_memory}
use Rattle.enumerate.proofs.Noted.{kept-noted}
use Rattle.enumerate.proofs.tilings.Tilings.note.Goals as goal

pub returns-in-Ok : goal.returns-in-Ok
returns-in-Ok c = by_memory (kept-noted _ _ _ _ c.in-Ok.ensures.noted)

pub returns-in-Err : goal.returns-in-Err
returns-in-Err c = no_memory refl
