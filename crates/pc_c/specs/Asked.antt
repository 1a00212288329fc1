-- What the words ask of the one command that a call answers.
use Rattle.std.specs.Prelude.{◌≡◌, ℕ, List, Bool, false, Ok, None}
use Rattle.pc_source.specs.Task.{first_fault}
use Rattle.pc_words.specs.Request.{Request}
use Rattle.pc_words.specs.Words.{asked_in, request_in}
use Rattle.pc_app.specs.Tasks.{task_for, task_of}
use Rattle.pc_c.specs.Call.{TellsFault, seen}
use Rattle.pc_c.specs.OtherCommand.{asks_other}

-- The words ask for this command, no fault stands, and this holds of what they ask and of the bytes that the command
-- sees of the input.
pub record ForAsked {Asked : Type 0} (command : Asked → Request) (words : List (List ℕ)) (input : List ℕ)
    (Holds : Asked → List ℕ → Type 0) : Type 0 where
  pub request : Asked
  pub asked : asked_in (request_in words) ≡ Ok (command request)
  pub none : first_fault (task_for (command request)) (seen (task_for (command request)) input) ≡ None
  pub holds : Holds request (seen (task_for (command request)) input)

-- a fault of the words, or of the input of the command that is answered: its line is told, as far as there is room
pub record TellsAskedFault (is_answered : Request → Bool) (words : List (List ℕ)) (input told : List ℕ) (room : ℕ)
    : Type 0 where
  pub no_other : asks_other is_answered words ≡ false
  pub fault : TellsFault (task_of words) (seen (task_of words) input) told room
