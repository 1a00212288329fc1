-- The first fault of what `path` asks about its field: that of the problem, and then that of the given sequence.
use Rattle.std.specs.Prelude.{ℕ, ◌/◌, List, [], ◌∷◌, Option, Some, None, Result, Ok, Err}
use Rattle.lane_board.specs.Field.{Field}
use Rattle.srs.specs.declared.placement.Placement.{Placement}
use Rattle.well.specs.Counts.{empties_below}
use Rattle.sequence_text.specs.Reading.{sequence_in}
use Rattle.pc_faults.specs.declared.fault.Fault.{Fault}
use Rattle.pc_faults.specs.declared.fault.Fault.TheVariants as faults
use Rattle.pc_faults.specs.FirstFault.{first_of_these}
use Rattle.pc_source.specs.ProblemFaults.{problem_fault}
use Rattle.pc_settings.specs.Request.{PathRequest}

abbrev pub sequence_fault : Result (List Placement) ℕ → Option Fault
sequence_fault (Ok sequence) = None
sequence_fault (Err place) = Some (faults.BadAfter place)

-- A given text spells a sequence of as many placements as are needed, or is refused at the length of its longest
-- front that begins one: the law `bad_after_is_at_the_longest_front` says this of the reading `sequence_in`.
abbrev pub after_fault : ℕ → Option (List ℕ) → Option Fault
after_fault needed None = None
after_fault needed (Some text) = sequence_fault (sequence_in needed text)

-- of a request about a field with these cells
unfoldable pub listing_fault : PathRequest → Field → Option Fault
listing_fault request F = first_of_these (
    problem_fault request.common F
    ∷ after_fault (empties_below F request.common.height / 4) request.after
    ∷ [])
