-- What `path` writes.
use Rattle.std.specs.Prelude.{◌≡◌, ℕ, Bool, true, false, List, [], ◌++◌, Option, Some, None}
use Rattle.lane_board.specs.Field.{Field}
use Rattle.srs.specs.declared.placement.Placement.{Placement}
use Rattle.srs.specs.Order.{sequence_cmp}
use Rattle.srs.specs.Rising.{IsRisingListOf}
use Rattle.problem.specs.declared.problem.Problem.{Problem}
use Rattle.enumerate.specs.Counted.{as_count}
use Rattle.problem.specs.Problem.{needed_of}
use Rattle.problem.specs.SolutionList.{IsSolutionAbove}
use Rattle.report.specs.Forms.{floods_form, report_form}
use Rattle.sequence_text.specs.Form.{Spells}
use Rattle.pc_source.specs.Problem.{IsProblemOf}
use Rattle.pc_settings.specs.Request.{PathRequest}
use Rattle.pc_path.specs.Formats.{solution_form}

-- none where no text is given, and else the sequence of so many placements that it spells
abbrev pub IsGiven : ℕ → Option (List ℕ) → Option (List Placement) → Type 0
IsGiven needed None after = after ≡ None
IsGiven needed (Some text) None = ⊥
IsGiven needed (Some text) (Some sequence) = Spells needed text sequence

-- What is listed about this field: the rising list of all solutions of the problem that is asked about it, after the
-- given sequence where there is one.
pub record Listed (request : PathRequest) (F : Field) : Type 0 where
  pub problem : Problem
  pub named : IsProblemOf request.common F problem
  pub after : Option (List Placement)
  pub given : IsGiven (needed_of problem) request.after after
  pub sequences : List (List Placement)
  pub list : IsRisingListOf sequence_cmp (IsSolutionAbove
      (record { problem = problem; queue = None; bound = after })) sequences

-- where it is asked for, the line of the number of floods, or of u64's greatest value where there were more
abbrev pub stats_form : Bool → ℕ → List ℕ
stats_form true floods = floods_form (as_count floods)
stats_form false floods = []

-- The report of what is listed: as many of the sequences as the limit allows, each in the form that is asked for, and
-- each placement with its key word where keys are asked for. Behind it stands the number of floods that were made,
-- where it is asked for.
pub record IsReportOf (request : PathRequest) (F : Field) (floods : ℕ) (output : List ℕ) : Type 0 where
  pub listed : Listed request F
  pub report : output ≡ report_form (solution_form request.format request.keys listed.problem) request.limit
      listed.sequences ++ stats_form request.stats floods
