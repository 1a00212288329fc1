-- The problem that is asked about a field.
use Rattle.std.specs.Prelude.{◌≡◌, Ok}
use Rattle.lane_board.specs.Field.{Field}
use Rattle.srs.specs.Rules.{table_of}
use Rattle.well.specs.Well.{filled}
use Rattle.queue_pattern.specs.Pattern.{elements_of}
use Rattle.problem.specs.declared.problem.Problem.{Problem}
use Rattle.pc_settings.specs.Request.{FieldRequest}
use Rattle.pc_source.specs.ProblemFaults.{elements_asked}

-- this field, the height, the queues, the held piece and the rules that are asked for
pub record IsProblemOf (request : FieldRequest) (F : Field) (problem : Problem) : Type 0 where
  pub field : filled problem.well ≡ F
  pub height : problem.height ≡ request.height
  pub queues : Ok (elements_of problem.pattern) ≡ elements_asked request
  pub hold : problem.hold ≡ request.hold
  pub held : problem.held ≡ request.held
  pub drop : problem.drop_mode ≡ request.drop_mode
  pub rules : Ok (table_of problem.rules) ≡ request.table
