-- Without memory each mark is one of the others.
use Rattle.std.proofs.Common.{List}
use Rattle.std.proofs.lemmas.Bool.{both_ways}
use Rattle.tiled_pieces.specs.declared.standing.StandingPieces.{StandingPieces}
use Rattle.percent.specs.declared.marks.Mark.{Mark}
use Rattle.percent.specs.Standing.{AreStanding}
use Rattle.percent.proofs.MarkLemmas.{all_set}
use Rattle.percent.proofs.marks.Marks.wanted_pieces.Goals as goal

anywhere : (known : List Mark) (pieces : StandingPieces) → AreStanding known (record { listed = pieces; others = 18446744073709551615 })
anywhere known pieces = record { each = λ k below unset mark there cells some. absurd (both_ways _ unset (all_set k below)) }

pub returns-in-Err-clause-each : goal.returns-in-Err-clause-each
returns-in-Err-clause-each c = anywhere c.args.self.now.known.items (record { piece = c.args.piece; pieces = c.new.result })
