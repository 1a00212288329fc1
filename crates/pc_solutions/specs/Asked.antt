-- What is asked: the problem of a request without a fault, and the sequence after which its solutions are listed.
use Rattle.std.specs.Prelude.{◌≡◌, ◌≢◌, ℕ, ◌*◌, ◌<◌, ◌≤◌, List, [], ◌∷◌, Option, Some, None}
use Rattle.lane_board.specs.Field.{Field}
use Rattle.srs.specs.declared.placement.Placement.{Placement}
use Rattle.placement_numbers.specs.Numbers.{AreNumbersOf}
use Rattle.problem.specs.declared.problem.Problem.{Problem}
use Rattle.problem.specs.Problem.{needed_of}
use Rattle.pc_source.specs.FieldText.{IsFieldOf, of_source}
use Rattle.pc_source.specs.Problem.{IsProblemOf}
use Rattle.pc_settings.specs.Request.{PathRequest}
use Rattle.pc_path.specs.Output.{IsGiven}
use Rattle.pc_path.specs.PathTask.{path_fault}

-- `path` finds no fault where the source has these bytes, and this is the problem that it is asked about
pub record IsAsked (request : PathRequest) (bytes : List ℕ) (problem : Problem) : Type 0 where
  pub none : path_fault request bytes ≡ None
  pub field : Field
  pub asked : IsFieldOf request.common.field request.common.page (of_source bytes) field
  pub named : IsProblemOf request.common field problem

-- the sequence of so many placements that numbers give, or where there are no numbers, what the value of `--after`
-- gives
abbrev pub IsAfter : ℕ → (numbers : List ℕ) → (text : Option (List ℕ)) → Option (List Placement) → Type 0
IsAfter needed [] text after = IsGiven needed text after
IsAfter needed (number ∷ numbers) text None = ⊥
IsAfter needed (number ∷ numbers) text (Some sequence) = AreNumbersOf needed (number ∷ numbers) sequence

-- numbers are given, and they are those of no sequence of as many placements as a solution has
pub record HasNoSequence (request : PathRequest) (bytes numbers : List ℕ) : Type 0 where
  pub problem : Problem
  pub asked : IsAsked request bytes problem
  pub some : numbers ≢ []
  pub none : (sequence : List Placement) → AreNumbersOf (needed_of problem) numbers sequence → ⊥

-- no fault stands, this problem is asked about, and this sequence is given, or none
pub record AsksAfter (request : PathRequest) (bytes numbers : List ℕ) (problem : Problem)
    (after : Option (List Placement)) : Type 0 where
  pub asked : IsAsked request bytes problem
  pub given : IsAfter (needed_of problem) numbers request.after after

-- that stands, and there is not room for the numbers of one solution
pub record LacksSolutionRoom (request : PathRequest) (bytes numbers : List ℕ) (room : ℕ) : Type 0 where
  pub problem : Problem
  pub after : Option (List Placement)
  pub asks : AsksAfter request bytes numbers problem after
  pub short : room < 4 * needed_of problem

-- that stands, and there is room for them
pub record HasSolutionRoom (request : PathRequest) (bytes numbers : List ℕ) (room : ℕ) : Type 0 where
  pub problem : Problem
  pub after : Option (List Placement)
  pub asks : AsksAfter request bytes numbers problem after
  pub enough : 4 * needed_of problem ≤ room
