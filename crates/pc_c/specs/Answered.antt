-- What a call that answers one command has for the words, before its status and its numbers are told.
use Rattle.std.specs.Prelude.{◌≡◌, ℕ, List, Bool, true, false, Some, Result, Ok, Err}
use Rattle.pc_faults.specs.declared.fault.Fault.{Fault}
use Rattle.pc_source.specs.Task.{first_fault}
use Rattle.pc_words.specs.Request.{Request}
use Rattle.pc_app.specs.Tasks.{task_of}
use Rattle.pc_c.specs.declared.answer.Answer.{Answer}
use Rattle.pc_c.specs.declared.answer.Answer.TheVariants.{Written, OtherCommand, Unwritten}
use Rattle.pc_c.specs.Call.{seen}
use Rattle.pc_c.specs.OtherCommand.{asks_other}

-- what was written, or why nothing was
abbrev pub answer_of : {T E : Type 0} → Result T E → Answer T E
answer_of (Ok written) = Written written
answer_of (Err why) = Unwritten why

-- this is the first fault of the words, or of the input of the command that is answered
pub record HasAskedFault (is_answered : Request → Bool) (words : List (List ℕ)) (input : List ℕ) (fault : Fault)
    : Type 0 where
  pub no_other : asks_other is_answered words ≡ false
  pub first : first_fault (task_of words) (seen (task_of words) input) ≡ Some fault

-- An answer after so many floods, where `Writes` says what is written, `Refuses` why nothing is, and `Kept` that
-- nothing was written.
abbrev pub IsAnswer : {T E : Type 0} → (is_answered : Request → Bool) (words : List (List ℕ)) (Writes : T → Type 0)
    (Refuses : E → Type 0) (Kept : Type 0) (floods : ℕ) → Answer T E → Type 0
IsAnswer is_answered words Writes Refuses Kept floods (Written written) = Writes written
IsAnswer is_answered words Writes Refuses Kept floods OtherCommand =
    (asks_other is_answered words ≡ true) × Kept × (floods ≡ 0)
IsAnswer is_answered words Writes Refuses Kept floods (Unwritten why) = Refuses why × Kept
