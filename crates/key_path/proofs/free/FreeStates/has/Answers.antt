-- Each pivot of the board is free.
use Rattle.std.proofs.Common.{pos, sym, ap, ◌∙◌}
use Rattle.lane_board.specs.Field.{Field, has_cell}
use Rattle.place_sets.specs.States.{has_pivot}
use Rattle.key_path.proofs.free.FreeStates.has.Goals as goal

pub returns : goal.returns
unfolding has_cell has_pivot
returns c = λ held. c.args.self.now.exact.exact c.args.state.now.rotation (pos c.args.state.now.x, pos c.args.state.now.y)
    ∙ sym (ap (λ (pivots : Field). pivots c.args.state.now.x c.args.state.now.y) c.board.ensures) ∙ sym c.get.ensures ∙ held
