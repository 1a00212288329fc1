-- What setups stand for: states under the rules.
use Rattle.std.specs.Prelude.{◌≡◌, ℕ, ◌+◌, ◌-◌, true, min}
use Rattle.srs.specs.declared.piece.Piece.{Piece}
use Rattle.srs.specs.declared.placement.Placement.{Placement}
use Rattle.srs.specs.Kick.{Table}
use Rattle.well.specs.Well.{filled}
use Rattle.moves.specs.declared.key.DropMode.{DropMode}
use Rattle.hold_queue.specs.QueueSet.{queues_in_play}
use Rattle.prune.specs.OnePart.{less_one}
use Rattle.empty_cells.specs.SupplyWords.{supply_of}
use Rattle.enumerate.specs.declared.setup.NextSupply.{NextSupply}
use Rattle.enumerate.specs.declared.setup.Setup.{Setup}
use Rattle.enumerate.specs.SearchState.{SearchState, after_of, is_live}

unfoldable pub state_of : Table → DropMode → Setup → SearchState
state_of table mode setup = record {
  table = table;
  mode = mode;
  field = filled setup.well;
  rows = setup.rows;
  line = queues_in_play setup.line.queues;
}

-- how many pieces of each kind may still be played after a piece: one fewer of its kind, and of each kind at most as many
-- as placements come then
pub record IsSupplyAfter (setup : Setup) (piece : Piece) (next : NextSupply) : Type 0 where
  pub supplied : (other : Piece) → supply_of next.supply other ≡ min setup.left (less_one (supply_of setup.supply) piece other)
  pub limits : (other : Piece) → supply_of next.limited other ≡ min (setup.left - 1) (supply_of next.supply other)

-- where one more placement is to come, the state after this one is live, whatever the rules
abbrev pub LeadsOn : Setup → Placement → Type 0
LeadsOn setup q = (table : Table) (mode : DropMode) (left : ℕ) → left + 1 ≡ setup.left →
    is_live left (after_of (state_of table mode setup) q) ≡ true
