-- A number for each state of one piece whose pivot lies in the well.
use Rattle.std.specs.Prelude.{ℕ, ◌+◌, ◌*◌}
use Rattle.srs.specs.declared.placement.Placement.{Placement}
use Rattle.srs.specs.Rotation.{rotation_index}

-- the number of a state among those of its piece
unfoldable pub state_code : Placement → ℕ
state_code state = rotation_index state.rotation * 230 + (state.y * 10 + state.x)
