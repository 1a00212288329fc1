-- Kicks are short.
use Rattle.std.proofs.Common.{◌≡◌, true, subst, sym}
use Rattle.std.specs.List.{list_all}
use Rattle.srs.specs.Rules.{table_of}
use Rattle.srs.proofs.CallerLemmas.{table_of-small}
use Rattle.kick_file.specs.Printing.{is_short_move}
use Rattle.pc_kicks.proofs.LineLemmas.{kicks_short}
use Rattle.pc_kicks.proofs.lines.push_turn.Goals as goal

pub push_offsets-requires : goal.push_offsets-requires
push_offsets-requires c =
    subst (λ cells. list_all is_short_move cells ≡ true) (sym c.kicks_of.ensures)
    (kicks_short (table_of c.args.rules.now) c.args.piece c.args.from c.args.to (table_of-small c.args.rules.now))
