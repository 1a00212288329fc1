-- The entry of the piece.
use Rattle.std.proofs.Common.{◌-◌, ◌↔◌, IsTrue, false, get_or, sym, subst}
use Rattle.srs.specs.Kick.{srs_table}
use Rattle.srs.specs.Rules.{table_of}
use Rattle.reach.specs.FloodRules.{flood_table}
use Rattle.reach.specs.SameOffsets.{HaveSameOffsets}
use Rattle.reach.proofs.flood_rules.FloodRules.has_srs_offsets.Goals as goal

pub returns : goal.returns
unfolding flood_table
returns c =
    subst (λ code. IsTrue (get_or c.args.self.now.srs (code - 1) false) ↔ HaveSameOffsets (table_of c.args.self.now.rules) srs_table c.args.piece) (sym c.code.ensures)
    (c.args.self.now.known c.args.piece)
