-- The three powers.
use Rattle.std.proofs.Common.{refl}
use Rattle.percent.proofs.start.room_for.Goals as goal

pub returns-in-0-to-8192 : goal.returns-in-0-to-8192
returns-in-0-to-8192 c = (13, refl)

pub returns-in-8193-to-65536 : goal.returns-in-8193-to-65536
returns-in-8193-to-65536 c = (16, refl)

pub returns-in_default : goal.returns-in_default
returns-in_default c = (18, refl)
