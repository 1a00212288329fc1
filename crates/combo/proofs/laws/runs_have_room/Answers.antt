-- Between walls four cells have room for each placement of a run.
use Rattle.combo.proofs.RoomLemmas.{runs_have_room}
use Rattle.combo.proofs.laws.runs_have_room.Goals as goal

pub returns : goal.returns
returns c = runs_have_room
