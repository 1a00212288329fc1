-- The numbers of a solution may be given, and what is asked with the needed length.
use Rattle.std.proofs.Common.{◌≡◌, ◌∙◌, ℕ, ◌-◌, List, [], ◌∷◌, All, Option, None, sym, subst, rules}
use Rattle.std.proofs.lemmas.List.Elements.{All-cons, All-nil}
use Rattle.lane_board.specs.Field.{Field}
use Rattle.srs.specs.declared.placement.Placement.{Placement}
use Rattle.srs.specs.Kick.{Table}
use Rattle.srs.specs.Cells.{HasPivotInWell}
use Rattle.well.specs.Lock.{locked, rows_removed}
use Rattle.well.specs.Well.{filled}
use Rattle.well.proofs.CallerLemmas.{free_pivot_inside}
use Rattle.moves.specs.declared.key.DropMode.{DropMode}
use Rattle.moves.proofs.CallerLemmas.{place-free}
use Rattle.placement_numbers.specs.Numbers.{AreNumbersOf, sequence_numbers}
use Rattle.problem.specs.declared.problem.Problem.{Problem}
use Rattle.problem.specs.Plays.{Plays}
use Rattle.problem.specs.Problem.{IsFit, needed_of}
use Rattle.problem.specs.Solution.{IsSolution}
use Rattle.problem.proofs.CallerLemmas.{long-needed}
use Rattle.pc_settings.specs.Request.{PathRequest}
use Rattle.pc_source.specs.FieldTask.{its_field}
use Rattle.pc_source.specs.FieldText.{of_source}
use Rattle.pc_source.specs.Had.{HasProblem}
use Rattle.pc_source.proofs.FieldFaults.{had_fault}
use Rattle.pc_path.specs.Faults.{listing_fault}
use Rattle.pc_path.specs.Output.{IsGiven}
use Rattle.pc_solutions.specs.Asked.{AsksAfter, IsAfter, IsAsked}

played_within : (table : Table) (mode : DropMode) (F : Field) (rows : ℕ) (sequence : List Placement) → Plays table mode F rows sequence → All HasPivotInWell sequence
played_within table mode F rows [] plays = All-nil HasPivotInWell
played_within table mode F rows (q ∷ rest) plays =
    All-cons HasPivotInWell q rest (free_pivot_inside F q (place-free table F mode q plays.0))
    (played_within table mode (locked F q) (rows - rows_removed F q) rest plays.2)

pub solution_numbers : (problem : Problem) (sequence : List Placement) → IsFit problem → IsSolution problem None sequence → AreNumbersOf (needed_of problem) (sequence_numbers sequence) sequence
solution_numbers problem sequence fit solution = search (rules, long-needed, played_within)

-- there is no fault, and the problem is that of the listing
pub is_asked : (request : PathRequest) (bytes : List ℕ) (problem : Problem) → HasProblem request.common (of_source bytes) problem → listing_fault request (filled problem.well) ≡ None → IsAsked request bytes problem
is_asked request bytes problem has none = record {
  none = had_fault its_field request.common.field request.common.page (λ F bytes. listing_fault request F) bytes (filled problem.well) has.field ∙ none;
  field = filled problem.well;
  asked = has.field.is;
  named = has.named;
}

-- the length is the needed one
pub asks_after : (length : ℕ) (request : PathRequest) (bytes numbers : List ℕ) (problem : Problem) (listed after : Option (List Placement)) → length ≡ needed_of problem
    → HasProblem request.common (of_source bytes) problem → listing_fault request (filled problem.well) ≡ None → IsGiven (needed_of problem) request.after listed
    → ((text : Option (List ℕ)) → IsGiven length text listed → IsAfter length numbers text after) → AsksAfter request bytes numbers problem after
asks_after length request bytes numbers problem listed after same has none given goes = record {
  asked = is_asked request bytes problem has none;
  given = subst (λ n. IsAfter n numbers request.after after) same (goes request.after (subst (λ n. IsGiven n request.after listed) (sym same) given));
}
