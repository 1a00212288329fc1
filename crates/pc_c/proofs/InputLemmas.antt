-- The bytes that a command sees of the input, the fault that it finds first, and what words ask of a command.
use Rattle.std.proofs.Common.{◌≡◌, ◌∙◌, ℕ, ◌<◌, ◌≤◌, Bool, true, false, not, if◌then◌else◌, List, [], length, Some, None, Ok, Err, sym, ap, subst, rules}
use Rattle.pc_faults.specs.declared.fault.Fault.{Fault}
use Rattle.pc_faults.specs.declared.fault.Fault.TheVariants.{SourceTooLong}
use Rattle.pc_source.specs.Task.{Needs, Task, first_fault, is_source, most_bytes, reads_source, source_bytes}
use Rattle.pc_source.proofs.CallerLemmas.{not_too_long, too_long}
use Rattle.pc_words.specs.Request.{Request}
use Rattle.pc_words.specs.Words.{asked_in, request_in}
use Rattle.pc_app.specs.Tasks.{task_for, task_in}
use Rattle.pc_c.specs.Answered.{HasAskedFault}
use Rattle.pc_c.specs.Asked.{ForAsked}
use Rattle.pc_c.specs.Call.{seen}
use Rattle.pc_c.specs.OtherCommand.{is_other}

needs_source : (needs : Needs) → is_source needs ≡ true → needs ≡ source_bytes
needs_source needs is = search rules

module _ (task : Task) (input : List ℕ) where
  -- the input is too long
  long_input : (reads : Bool) → reads ≡ reads_source task → reads ≡ true → most_bytes < length input
      → first_fault task (seen task input) ≡ Some SourceTooLong
  long_input reads is read more =
      let source = sym is ∙ read in
      subst (λ b. first_fault task (if b then input else []) ≡ Some SourceTooLong) (sym source)
      (too_long task input (needs_source task.needs source) more)

  module _ (reads : Bool) (bytes : List ℕ) (is : reads ≡ reads_source task) (same : bytes ≡ (if reads then input else []))
      (within : length bytes ≤ most_bytes) where
    seen_here : bytes ≡ seen task input
    seen_here = same ∙ ap (λ b. if b then input else []) is

    first_here : first_fault task (seen task input) ≡ task.fault bytes
    first_here = ap (first_fault task) (sym seen_here) ∙ not_too_long task bytes within

-- the words have a fault
pub words_refused : (is_answered : Request → Bool) (words : List (List ℕ)) (input : List ℕ) (fault : Fault)
    → Err fault ≡ asked_in (request_in words) → HasAskedFault is_answered words input fault
words_refused is_answered words input fault same = search (rules, not_too_long)

-- the words ask for the command that is answered
module _ {Asked : Type 0} (command : Asked → Request) (is_answered : Request → Bool) (request : Asked)
    (answers : is_answered (command request) ≡ true) (words : List (List ℕ)) (input : List ℕ)
    (same : Ok (command request) ≡ asked_in (request_in words)) where
  has_fault : (fault : Fault)
      → first_fault (task_for (command request)) (seen (task_for (command request)) input) ≡ Some fault
      → HasAskedFault is_answered words input fault
  has_fault fault first = record {
    no_other = subst (λ r. is_other is_answered r ≡ false) same (ap not answers);
    first = subst (λ r. first_fault (task_in r) (seen (task_in r) input) ≡ Some fault) same first;
  }

  -- and the input is too long
  pub long_asked : (reads : Bool) → reads ≡ reads_source (task_for (command request)) → reads ≡ true
      → most_bytes < length input → HasAskedFault is_answered words input SourceTooLong
  long_asked reads is read more =
      has_fault SourceTooLong (long_input (task_for (command request)) input reads is read more)

  -- and it sees these bytes
  module _ (reads : Bool) (bytes : List ℕ) (is : reads ≡ reads_source (task_for (command request)))
      (given : bytes ≡ (if reads then input else [])) (within : length bytes ≤ most_bytes) where
    pub for_asked : {Holds : Asked → List ℕ → Type 0} → (task_for (command request)).fault bytes ≡ None
        → Holds request bytes → ForAsked command words input Holds
    for_asked {Holds} none holds = record {
      request = request;
      asked = sym same;
      none = first_here (task_for (command request)) input reads bytes is given within ∙ none;
      holds = subst (Holds request) (seen_here (task_for (command request)) input reads bytes is given within) holds;
    }

    pub faulty_asked : (fault : Fault) → (task_for (command request)).fault bytes ≡ Some fault
        → HasAskedFault is_answered words input fault
    faulty_asked fault found =
        has_fault fault (first_here (task_for (command request)) input reads bytes is given within ∙ found)
