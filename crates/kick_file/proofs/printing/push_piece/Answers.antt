-- One rotation after the other.
use Rattle.std.proofs.Common.{rules}
use Rattle.kick_file.proofs.PrintLemmas.{piece_ends}
use Rattle.kick_file.proofs.printing.push_piece.Goals as goal

pub returns : goal.returns
returns c = search (rules, piece_ends)
