-- The solutions that are written, as numbers.
use Rattle.std.specs.Prelude.{◌≡◌, ℕ, ◌*◌, ◌/◌, ◌<◌, ◌≤◌, ◌==◌, nat_lt, min, Bool, if◌then◌else◌, List, length, take, drop, Option, None}
use Rattle.std.specs.List.{flat_map}
use Rattle.srs.specs.declared.placement.Placement.{Placement}
use Rattle.placement_numbers.specs.Numbers.{sequence_numbers}
use Rattle.problem.specs.declared.problem.Problem.{Problem}
use Rattle.problem.specs.Problem.{needed_of}
use Rattle.problem.specs.SolutionList.{IsList}
use Rattle.enumerate.specs.declared.search.Search.{Search}
use Rattle.enumerate.specs.ViewOf.{solutions}
use Rattle.enumerate.specs.Work.{pairs}
use Rattle.pc_settings.specs.Request.{PathRequest}
use Rattle.pc_path.specs.Work.{IsSearchOf}
use Rattle.pc_solutions.specs.Asked.{AsksAfter}

-- how many solutions of so many placements may be written: as many as the limit allows and the room holds whole
abbrev pub most_written : (limit room needed : ℕ) → ℕ
most_written limit room needed = if needed == 0 then limit else min limit (room / (4 * needed))

-- The floods are those of one search after this sequence, which would still list what is behind the solutions that
-- were written. They are all pairs where it came to the end of the list and no sequence was given.
pub record IsStepWork (problem : Problem) (after : Option (List Placement)) (sequences : List (List Placement))
    (most count floods : ℕ) : Type 0 where
  pub search : Search
  pub searched : IsSearchOf problem after search floods
  pub left : solutions search ≡ drop count sequences
  pub ended : after ≡ None → length sequences < most → floods ≡ pairs problem None

-- These bytes are the numbers of the first so many solutions of the problem that is asked about, in the rising list of
-- those after the given sequence where there is one. They are as many as there are, as the limit allows, and as the
-- room holds whole. The list is told to end with them where there are fewer than the limit and the room allow.
pub record WritesSolutions (request : PathRequest) (bytes numbers : List ℕ) (room : ℕ) (written : List ℕ) (count : ℕ)
    (ended : Bool) (floods : ℕ) : Type 0 where
  pub problem : Problem
  pub after : Option (List Placement)
  pub asks : AsksAfter request bytes numbers problem after
  pub fits : 4 * needed_of problem ≤ room
  pub sequences : List (List Placement)
  pub list : IsList (record { problem = problem; queue = None; bound = after }) sequences
  pub counted : count ≡ min (most_written request.limit room (needed_of problem)) (length sequences)
  pub are : written ≡ flat_map sequence_numbers (take count sequences)
  pub size : length written ≡ count * (4 * needed_of problem)
  pub end : ended ≡ nat_lt (length sequences) (most_written request.limit room (needed_of problem))
  pub work : IsStepWork problem after sequences (most_written request.limit room (needed_of problem)) count floods
