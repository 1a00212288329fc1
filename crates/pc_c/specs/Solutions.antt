-- What a call for solutions wrote, by its status.
use Rattle.std.specs.Prelude.{◌≡◌, ◌≢◌, ℕ, ◌≤◌, ◌==◌, List, true, ◌⊎◌}
use Rattle.pc_words.specs.Request.{path}
use Rattle.pc_solutions.specs.Asked as asked
use Rattle.pc_solutions.specs.Asked.{HasNoSequence}
use Rattle.pc_solutions.specs.Written.{WritesSolutions}
use Rattle.pc_c.specs.Asked.{ForAsked, TellsAskedFault}
use Rattle.pc_c.specs.Call.{ForFloods, IsStatus}
use Rattle.pc_c.specs.OtherCommand.{asks_other, is_path}

-- one of the statuses of a command line, or another command is asked for, or the numbers are those of no sequence
abbrev pub IsSolutionsStatus : ℕ → Type 0
IsSolutionsStatus status = IsStatus status ⊎ (status ≡ 7) ⊎ (status ≡ 8)

-- the numbers of so many solutions were written, by floods of which a u64 tells so much; 1 tells that the list ends
-- with them, and 0 that this is not known
abbrev pub TellsSolutions : (words : List (List ℕ)) (input numbers : List ℕ) (room : ℕ) (written : List ℕ)
    (count ended floods : ℕ) → Type 0
TellsSolutions words input numbers room written count ended floods = ForAsked path words input (λ request bytes.
    ForFloods floods (WritesSolutions request bytes numbers room written count (ended == 1)))

-- the numbers that are given are those of no sequence of as many placements as a solution has
abbrev pub LacksSequence : (words : List (List ℕ)) (input numbers : List ℕ) → Type 0
LacksSequence words input numbers = ForAsked path words input (λ request bytes. HasNoSequence request bytes numbers)

-- there is not room for the numbers of one solution
abbrev pub LacksSolutionRoom : (words : List (List ℕ)) (input numbers : List ℕ) (room : ℕ) → Type 0
LacksSolutionRoom words input numbers room =
    ForAsked path words input (λ request bytes. asked.LacksSolutionRoom request bytes numbers room)

-- What the status of a call says of these words, this input and these numbers. There was so much room for what was
-- written and for the line that was told, and the call tells so many solutions and floods, and whether the list ends.
pub record EndsSolutions (words : List (List ℕ)) (input numbers : List ℕ) (room : ℕ) (written : List ℕ)
    (count ended : ℕ) (told : List ℕ) (err_room floods status : ℕ) : Type 0 where
  pub done : status ≡ 0 → TellsSolutions words input numbers room written count ended floods
  pub faulty : status ≡ 2 → TellsAskedFault is_path words input told err_room
  pub no_room : status ≡ 4 → LacksSolutionRoom words input numbers room
  pub no_sequence : status ≡ 8 → LacksSequence words input numbers
  pub other : status ≡ 7 → asks_other is_path words ≡ true
  pub other_ends : asks_other is_path words ≡ true → (status ≡ 5) ⊎ (status ≡ 7)

-- what is neither written nor told at this status; whether the list ends is told by 1 or 0
pub record IsSilentSolutions (written count ended told floods status : ℕ) : Type 0 where
  pub quiet : status ≢ 0 → (written ≡ 0) × (count ≡ 0) × (ended ≡ 0)
  pub flag : ended ≤ 1
  pub no_line : status ≢ 2 → told ≡ 0
  pub idle : status ≢ 0 → floods ≡ 0
