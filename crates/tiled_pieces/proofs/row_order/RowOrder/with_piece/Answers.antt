-- The gaps of the piece go before its rows.
use Rattle.std.proofs.lemmas.Bool.{not-false}
use Rattle.empty_cells.specs.Empties.{empty_cells}
use Rattle.empty_cells.proofs.CallerLemmas.{cells_small}
use Rattle.tiled_pieces.proofs.RowOrderLemmas.{follows_piece, follows_tail, piece_goes}
use Rattle.tiled_pieces.proofs.row_order.RowOrder.with_piece.Goals as goal

pub returns-then-gaps-eq0 : goal.returns-then-gaps-eq0
returns-then-gaps-eq0 c = λ piece more follows. follows_tail c.args.self (record { piece = piece; cells = empty_cells c.args.cells.now }) more follows

pub returns : goal.returns
returns c = λ piece more follows. follows_piece c.args.self c.with.result (record { piece = piece; cells = empty_cells c.args.cells.now }) more (not-false _ c.if-not-self.false)
    (λ turn agrees turns. c.with.ensures turn agrees (piece_goes (empty_cells c.args.cells.now) piece c.rows-rows.result c.between-gaps.result turn
    (cells_small c.args.cells.now) c.rows-rows.ensures c.between-gaps.ensures turns)) follows
