-- What a small bot does next.
use Rattle.std.specs.Prelude.{◌≡◌, ℕ, List, [], ◌∷◌, Option, Some, None, Result, Ok, Err}
use Rattle.srs.specs.declared.piece.Piece.{Piece}
use Rattle.srs.specs.declared.placement.Placement.{Placement}
use Rattle.srs.specs.Kick.{srs_table}
use Rattle.srs.specs.Order.{sequence_cmp}
use Rattle.srs.specs.Rules.{table_of}
use Rattle.srs.specs.Rising.{IsLeastAbove, NoneAbove}
use Rattle.well.specs.declared.well.Well.{Well}
use Rattle.well.specs.Well.{filled}
use Rattle.moves.specs.declared.key.DropMode.TheVariants.{Soft}
use Rattle.moves.specs.declared.key.Key.{Key}
use Rattle.key_path.specs.LeastKeyWord.{IsLeastKeyWord}
use Rattle.queue_pattern.specs.Pattern.{elements_of}
use Rattle.queue_pattern.specs.Queues.{queues}
use Rattle.hold_queue.specs.declared.hold.Hold.TheVariants.{Allowed}
use Rattle.pc_outside.specs.declared.answers.Refused.{Refused}
use Rattle.pc_outside.specs.declared.answers.Refused.TheVariants as refused
use Rattle.problem.specs.declared.fault.ProblemFault.{ProblemFault}
use Rattle.problem.specs.declared.problem.Problem.{Problem}
use Rattle.problem.specs.Faults.{IsFirstFault}
use Rattle.problem.specs.Problem.{IsFit}
use Rattle.problem.specs.Solution.{IsSolution}
use Rattle.calling.specs.declared.bot.KeyedPlacement.{KeyedPlacement}

-- the least solution begins with this placement, and these are the least keys that lead to it
pub record BeginsLeast (problem : Problem) (placement : Placement) (keys : List Key) : Type 0 where
  pub rest : List Placement
  pub least : IsLeastAbove sequence_cmp (IsSolution problem None) None (placement ∷ rest)
  pub least_keys : IsLeastKeyWord (table_of problem.rules) (filled problem.well) problem.drop_mode placement (Some keys)

-- this placement begins the least solution, with its keys, or there is no solution
abbrev pub IsFirstMove : Problem → Option KeyedPlacement → Type 0
IsFirstMove problem None = NoneAbove sequence_cmp (IsSolution problem None) None
IsFirstMove problem (Some found) = BeginsLeast problem found.placement found.keys.items

-- the problem of a field, a height and one queue: with hold and nothing held, soft drops, and the Super Rotation System
pub record IsBotProblem (well : Well) (height : ℕ) (queue : List Piece) (problem : Problem) : Type 0 where
  pub field : problem.well ≡ well
  pub rows : problem.height ≡ height
  pub one_queue : queues (elements_of problem.pattern) ≡ queue ∷ []
  pub hold : problem.hold ≡ Allowed
  pub none_held : problem.held ≡ None
  pub soft : problem.drop_mode ≡ Soft
  pub srs : table_of problem.rules ≡ srs_table

-- The first move, or what keeps the problem from being fit. Want of memory may come only where the problem is fit.
abbrev pub IsBotAnswer : Problem → Result (Option KeyedPlacement) (Refused ProblemFault) → Type 0
IsBotAnswer problem (Ok found) = IsFirstMove problem found
IsBotAnswer problem (Err (refused.Fault fault)) = IsFirstFault problem fault
IsBotAnswer problem (Err refused.NoMemory) = IsFit problem
