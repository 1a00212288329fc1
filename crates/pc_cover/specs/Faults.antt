-- The first fault of what `cover` asks about its field: that of the problem, and then that of the lines of the source.
use Rattle.std.specs.Prelude.{ℕ, ◌/◌, List, [], ◌∷◌, Option, Some, None, Ok, Err}
use Rattle.lane_board.specs.Field.{Field}
use Rattle.well.specs.Counts.{empties_below}
use Rattle.pc_faults.specs.declared.fault.Fault.{Fault}
use Rattle.pc_faults.specs.declared.fault.Fault.TheVariants as faults
use Rattle.pc_faults.specs.FirstFault.{first_of_these}
use Rattle.pc_settings.specs.Request.{FieldRequest}
use Rattle.pc_source.specs.ProblemFaults.{problem_fault}
use Rattle.pc_cover.specs.Given.{Given, given_in}

abbrev pub given_fault : Given → Option Fault
given_fault (Ok sequences) = None
given_fault (Err fault) = Some (faults.Cover fault)

-- of a request about a field with these cells, where the source has these bytes
unfoldable pub covering_fault : FieldRequest → Field → List ℕ → Option Fault
covering_fault request F bytes = first_of_these (
    problem_fault request F
    ∷ given_fault (given_in (empties_below F request.height / 4) bytes)
    ∷ [])
