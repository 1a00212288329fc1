-- The tree of a problem's queues, and the answers for the queues.
use Rattle.std.specs.Prelude.{◌≡◌, ℕ, ◌-◌, ◌*◌, ◌/◌, ◌<◌, Bool, true, false, List, [], length, slice_index_or}
use Rattle.queue_pattern.specs.declared.element.Element.{Element}
use Rattle.queue_pattern.specs.Cut.{cut}
use Rattle.queue_pattern.specs.Pattern.{elements_of}
use Rattle.queue_pattern.specs.Queues.{queues}
use Rattle.hold_queue.specs.AtHand.{count_held, playable, taken_from}
use Rattle.problem.specs.declared.problem.Problem.{Problem}
use Rattle.problem.specs.Problem.{needed_of}
use Rattle.tails.specs.declared.tree.TailTree.{TailTree}
use Rattle.tails.specs.declared.tail_set.TailSet.{TailSet}
use Rattle.tails.specs.TailSets.{has}
use Rattle.tails.specs.Tails.{start_tail}
use Rattle.percent.specs.GoodHands.{is_good_queue}

-- how many pieces of a queue matter beside the piece that is held at first
unfoldable pub pieces_drawn : Problem → ℕ
pieces_drawn problem =
    taken_from problem.hold (needed_of problem) - count_held (playable problem.hold problem.held)

-- the tree of a pattern with these elements, cut to the pieces that matter
pub record IsTreeOf (problem : Problem) (elements : List Element) (tree : TailTree) : Type 0 where
  pub pattern : elements_of tree.pattern ≡ cut (pieces_drawn problem) elements
  pub hold : tree.hold ≡ problem.hold

-- the tail of the queue with this number: that of the cut queue with which it begins, where so many queues begin alike
unfoldable pub numbered_tail : Problem → TailTree → ℕ → ℕ → ℕ
numbered_tail problem tree alike number = start_tail tree problem.held (number / alike)

-- there are so many times as many queues as cut ones
pub record BeginAlike (problem : Problem) (tree : TailTree) (alike : ℕ) : Type 0 where
  pub some : 0 < alike
  pub all : length (queues (elements_of problem.pattern)) ≡ alike * length (queues (elements_of tree.pattern))

-- a test passes for the tail of each queue
pub record HasEachTail (problem : Problem) (tree : TailTree) (alike : ℕ) (tails : ℕ → Bool) : Type 0 where
  pub each : (number : ℕ) → number < length (queues (elements_of problem.pattern))
      → tails (numbered_tail problem tree alike number) ≡ true

-- a queue is good exactly if its tail is among these
pub record HasGoodTails (problem : Problem) (tree : TailTree) (alike : ℕ) (good : TailSet) : Type 0 where
  pub each : (number : ℕ) → number < length (queues (elements_of problem.pattern))
      → has good (numbered_tail problem tree alike number)
      ≡ is_good_queue problem (slice_index_or (queues (elements_of problem.pattern)) number [])

-- whether each of the first so many queues is good
pub record AreAnswers (problem : Problem) (answers : List Bool) (count : ℕ) : Type 0 where
  pub size : length answers ≡ count
  pub each : (number : ℕ) → number < count → slice_index_or answers number false
      ≡ is_good_queue problem (slice_index_or (queues (elements_of problem.pattern)) number [])
