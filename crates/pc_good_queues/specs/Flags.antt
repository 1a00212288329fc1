-- The flags of a problem's queues.
use Rattle.std.specs.Prelude.{Bool, List, map}
use Rattle.queue_pattern.specs.Pattern.{elements_of}
use Rattle.queue_pattern.specs.Queues.{queues}
use Rattle.problem.specs.declared.problem.Problem.{Problem}
use Rattle.percent.specs.GoodHands.{is_good_queue}

-- for each queue of the pattern, whether it is good
unfoldable pub flags_of : Problem → List Bool
flags_of problem = map (is_good_queue problem) (queues (elements_of problem.pattern))
