-- How a call for solutions is answered, before its status and its numbers are told.
use Rattle.std.specs.Prelude.{◌≡◌, ℕ, ◌≤◌, List, length, take, drop}
use Rattle.pc_words.specs.Request.{path}
use Rattle.pc_solutions.specs.declared.list.Written.{Written}
use Rattle.pc_solutions.specs.declared.solutions.Refusal.{Refusal}
use Rattle.pc_solutions.specs.declared.solutions.Refusal.TheVariants.{Fault, NoSequence, NoRoom, NoMemory}
use Rattle.pc_solutions.specs.Written.{WritesSolutions}
use Rattle.pc_c.specs.declared.answer.Answer.{Answer}
use Rattle.pc_c.specs.Answered.{HasAskedFault, IsAnswer}
use Rattle.pc_c.specs.Asked.{ForAsked}
use Rattle.pc_c.specs.OtherCommand.{is_path}
use Rattle.pc_c.specs.Solutions.{LacksSequence, LacksSolutionRoom}

-- why there are no solutions
abbrev pub IsPathRefusal : (words : List (List ℕ)) (input numbers : List ℕ) (room : ℕ) → Refusal → Type 0
IsPathRefusal words input numbers room (Fault fault) = HasAskedFault is_path words input fault
IsPathRefusal words input numbers room NoSequence = LacksSequence words input numbers
IsPathRefusal words input numbers room NoRoom = LacksSolutionRoom words input numbers room
IsPathRefusal words input numbers room NoMemory = Unit {0}

-- an answer, what it left in the bytes that it was given, and its floods
abbrev pub IsPathAnswer : (words : List (List ℕ)) (input numbers before after : List ℕ) (floods : ℕ)
    → Answer Written Refusal → Type 0
IsPathAnswer words input numbers before after floods = IsAnswer is_path words
    (λ written. ForAsked path words input (λ request bytes.
    WritesSolutions request bytes numbers (length before) (take written.size after) written.count written.ended floods)
    × (written.size ≤ length after) × (drop written.size after ≡ drop written.size before))
    (λ refusal. IsPathRefusal words input numbers (length before) refusal × (floods ≡ 0))
    (after ≡ before) floods
