-- The queues and the table of offsets of what is asked about a field are determined.
use Rattle.std.proofs.Common.{◌≡◌, ◌∙◌, List, Result, Ok, sym}
use Rattle.lane_board.specs.Field.{Field}
use Rattle.srs.specs.Kick.{Table}
use Rattle.srs.specs.Rules.{table_of}
use Rattle.kick_file.specs.declared.fault.KickFault.{KickFault}
use Rattle.queue_pattern.specs.declared.element.Element.{Element}
use Rattle.queue_pattern.specs.declared.fault.PatternFault.{PatternFault}
use Rattle.queue_pattern.specs.Pattern.{elements_of}
use Rattle.problem.specs.declared.problem.Problem.{Problem}
use Rattle.pc_settings.specs.Request.{FieldRequest}
use Rattle.pc_source.specs.Problem.{IsProblemOf}

same_ok : (xs ys : List Element) → ◌≡◌ {A = Result (List Element) PatternFault} (Ok xs) (Ok ys) → xs ≡ ys
same_ok xs ys e = cc

-- two problems that are asked about one field have the same elements of queues
pub same_elements : (request : FieldRequest) (F : Field) (one other : Problem) → IsProblemOf request F one → IsProblemOf request F other → elements_of one.pattern ≡ elements_of other.pattern
same_elements request F one other first second = same_ok _ _ (first.queues ∙ sym second.queues)

same_read : (t u : Table) → ◌≡◌ {A = Result Table KickFault} (Ok t) (Ok u) → t ≡ u
same_read t u e = cc

-- and the same table
pub same_table : (request : FieldRequest) (F : Field) (one other : Problem) → IsProblemOf request F one → IsProblemOf request F other → table_of one.rules ≡ table_of other.rules
same_table request F one other first second = same_read _ _ (first.rules ∙ sym second.rules)
