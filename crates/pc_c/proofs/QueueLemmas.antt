-- What a call for good queues answers, by its words.
use Rattle.std.proofs.Common.{◌≡◌, ℕ, ◌-◌, ◌^◌, ◌≤◌, min, Bool, if◌then◌else◌, List, [], length, take, drop, None, Result, Ok, Err, OnOk, IfOk, refl, subst, inl, inr, arith}
use Rattle.std.specs.Prelude.{IfErr, OnErr}
use Rattle.pc_settings.specs.Request.{PercentRequest}
use Rattle.pc_source.specs.FieldText.{field_needs}
use Rattle.pc_source.specs.Task.{is_source, most_bytes}
use Rattle.pc_percent.specs.PercentTask.{percent_fault}
use Rattle.pc_words.specs.Request.{percent}
use Rattle.pc_words.specs.Words.{asked_in, request_in}
use Rattle.pc_good_queues.specs.declared.answer.NoBits.{NoBits}
use Rattle.pc_good_queues.specs.declared.answer.NoBits.TheVariants as none
use Rattle.pc_good_queues.specs.declared.answer.QueueCounts.{QueueCounts}
use Rattle.pc_good_queues.specs.Bits.{bytes_for}
use Rattle.pc_good_queues.specs.GoodQueues.{AreGoodQueues}
use Rattle.pc_good_queues.specs.Refusals.{Refuses}
use Rattle.pc_c.specs.declared.answer.Answer.{Answer}
use Rattle.pc_c.specs.declared.answer.Answer.TheVariants.{Written, OtherCommand, Unwritten}
use Rattle.pc_c.specs.Answered.{answer_of}
use Rattle.pc_c.specs.Asked.{ForAsked}
use Rattle.pc_c.specs.OtherCommand.{is_percent}
use Rattle.pc_c.specs.GoodQueues.{EndsQueues}
use Rattle.pc_c.specs.QueuesEnded.{IsPercentAnswer, IsPercentRefusal}
use Rattle.pc_c.proofs.InputLemmas.{faulty_asked, for_asked}

module _ (words : List (List ℕ)) (input : List ℕ) where
  -- they ask for `percent`
  module _ (request : PercentRequest) (same : Ok (percent request) ≡ asked_in (request_in words))
      (reads : Bool) (bytes : List ℕ) (is : reads ≡ is_source (field_needs request.common.field))
      (given : bytes ≡ (if reads then input else [])) (within : length bytes ≤ most_bytes) where
    asked : {Holds : PercentRequest → List ℕ → Type 0} → percent_fault request bytes ≡ None → Holds request bytes
        → ForAsked percent words input Holds
    asked = for_asked percent is_percent request refl words input same reads bytes is given within

    refused : (room floods : ℕ) (why : NoBits) → Refuses request bytes room floods why → IsPercentRefusal words input room floods why
    refused room floods (none.Fault fault) refuses =
        (faulty_asked percent is_percent request refl words input same reads bytes is given within fault refuses.0, refuses.1)
    refused room floods (none.NoRoom count) refuses = (asked refuses.0 refuses.1, refuses.2)
    refused room floods none.NoMemory (inl early) = inl early.1
    refused room floods none.NoMemory (inr late) = inr (asked late.0 late.1)

    pub percent_answered : (old new : List ℕ) (floods : ℕ) (result : Result QueueCounts NoBits)
        → IfOk result (λ counts. AreGoodQueues request.common bytes (take (bytes_for counts.queues) new) counts.queues counts.good)
        → OnOk result (percent_fault request bytes ≡ None)
        → IfOk result (λ counts. drop (bytes_for counts.queues) new ≡ drop (bytes_for counts.queues) old)
        → IfErr result (λ why. Refuses request bytes (length old) floods why) → OnErr result (new ≡ old)
        → IsPercentAnswer words input old new floods (answer_of result)
    percent_answered old new floods (Ok counts) found none rest refuses kept = (asked none found, rest)
    percent_answered old new floods (Err why) found none rest refuses kept = (refused (length old) floods why refuses, kept)

  -- the counter began at 0, and tells so many floods
  pub told_answer : (old new : List ℕ) (count before now : ℕ) → before ≡ 0 → count ≡ min now (2 ^ 64 - 1) → (answer : Answer QueueCounts NoBits)
      → IsPercentAnswer words input old new (now - before) answer → IsPercentAnswer words input old new count answer
  told_answer old new count before now began told (Written counts) is = is
  told_answer old new count before now began told OtherCommand is = (is.0, is.1, omega (arith, began, told, is.2))
  told_answer old new count before now began told (Unwritten (none.Fault fault)) is =
      ((is.0.0, omega (arith, began, told, is.0.1)), is.1)
  told_answer old new count before now began told (Unwritten (none.NoRoom queues)) is =
      ((is.0.0, omega (arith, began, told, is.0.1)), is.1)
  told_answer old new count before now began told (Unwritten none.NoMemory) is = (
    elim is.0 [
      | inl early ↦ inl (omega (arith, began, told, early))
      | inr late ↦ inr late
    ],
    is.1,
  )

-- the same words
pub same_words : {words other : List (List ℕ)} {input written : List ℕ} {room count good : ℕ} {told : List ℕ}
    {err_room floods status : ℕ} → words ≡ other → EndsQueues words input written room count good told err_room floods status
    → EndsQueues other input written room count good told err_room floods status
same_words {input = input} {written = written} {room = room} {count = count} {good = good} {told = told} {err_room = err_room} {floods = floods} {status = status} same =
    subst (λ (words : List (List ℕ)). EndsQueues words input written room count good told err_room floods status) same

-- memory is wanting for the words
pub queues_wanting : (words : List (List ℕ)) (input : List ℕ) (room err_room status : ℕ) → status ≡ 5
    → EndsQueues words input [] room 0 0 [] err_room 0 status
queues_wanting words input room err_room status five = record {
  done = λ is. absurd (omega (arith, five, is));
  faulty = λ is. absurd (omega (arith, five, is));
  no_room = λ is. absurd (omega (arith, five, is));
  no_memory = λ _. inl refl;
  other = λ is. absurd (omega (arith, five, is));
  other_ends = λ _. inl five;
}
