-- What a call for solutions answers, by its words.
use Rattle.std.proofs.Common.{◌≡◌, ◌∙◌, ℕ, ◌-◌, ◌^◌, ◌≤◌, ◌==◌, min, Bool, true, if◌then◌else◌, List, [], length, take, drop, Some, None, Result, Ok, Err, IfOk, refl, sym, ap, subst, true≢false, inl, arith, rules}
use Rattle.std.specs.Prelude.{OnErr}
use Rattle.pc_faults.specs.declared.fault.Fault.{Fault}
use Rattle.pc_settings.specs.Request.{PathRequest}
use Rattle.pc_source.specs.FieldText.{field_needs}
use Rattle.pc_source.specs.Task.{is_source, most_bytes}
use Rattle.pc_source.proofs.CallerLemmas.{none_added}
use Rattle.pc_path.specs.PathTask.{path_fault}
use Rattle.pc_words.specs.Request.{path}
use Rattle.pc_words.specs.Words.{asked_in, request_in}
use Rattle.pc_solutions.specs.declared.list.Written.{Written}
use Rattle.pc_solutions.specs.declared.solutions.Refusal.{Refusal}
use Rattle.pc_solutions.specs.declared.solutions.Refusal.TheVariants as refusals
use Rattle.pc_solutions.specs.declared.solutions.Refusal.TheVariants.{NoSequence, NoRoom, NoMemory}
use Rattle.pc_solutions.specs.Asked.{HasNoSequence, LacksSolutionRoom}
use Rattle.pc_solutions.specs.Written.{WritesSolutions}
use Rattle.pc_c.specs.Answered.{answer_of}
use Rattle.pc_c.specs.Asked.{ForAsked}
use Rattle.pc_c.specs.Solutions.{EndsSolutions, TellsSolutions}
use Rattle.pc_c.specs.OtherCommand.{asks_other, is_other, is_path}
use Rattle.pc_c.specs.SolutionsEnded.{IsPathAnswer}
use Rattle.pc_c.specs.declared.answer.Answer.{Answer}
use Rattle.pc_c.specs.declared.answer.Answer.TheVariants as answers
use Rattle.pc_c.proofs.InputLemmas.{faulty_asked, for_asked}

-- ---- over the bytes, by the settings

module _ (words : List (List ℕ)) (input : List ℕ) (request : PathRequest)
    (same : Ok (path request) ≡ asked_in (request_in words)) (reads : Bool) (bytes : List ℕ)
    (is : reads ≡ is_source (field_needs request.common.field)) (given : bytes ≡ (if reads then input else []))
    (within : length bytes ≤ most_bytes) where
  asked : {Holds : PathRequest → List ℕ → Type 0} → path_fault request bytes ≡ None → Holds request bytes → ForAsked path words input Holds
  asked = for_asked path is_path request refl words input same reads bytes is given within

  pub path_answered : (numbers before after : List ℕ) (old new : ℕ) (result : Result Written Refusal)
      → IfOk result (λ w. WritesSolutions request bytes numbers (length before) (take w.size after) w.count w.ended (new - old))
      → IfOk result (λ w. w.size ≤ length after) → IfOk result (λ w. drop w.size after ≡ drop w.size before)
      → ((fault : Fault) → result ≡ Err (refusals.Fault fault) → path_fault request bytes ≡ Some fault)
      → (result ≡ Err NoSequence → HasNoSequence request bytes numbers)
      → (result ≡ Err NoRoom → LacksSolutionRoom request bytes numbers (length before))
      → OnErr result (after ≡ before) → OnErr result (new ≡ old)
      → IsPathAnswer words input numbers before after (new - old) (answer_of result)
  path_answered numbers before after old new (Ok w) writes fits rest faulty unsequenced roomless kept idle =
      (asked writes.asks.asked.none writes, fits, rest)
  path_answered numbers before after old new (Err (refusals.Fault fault)) writes fits rest faulty unsequenced roomless kept idle =
      ((faulty_asked path is_path request refl words input same reads bytes is given within fault (faulty fault refl), none_added old new idle), kept)
  path_answered numbers before after old new (Err NoSequence) writes fits rest faulty unsequenced roomless kept idle =
      let has = unsequenced refl in
      ((asked has.asked.none has, none_added old new idle), kept)
  path_answered numbers before after old new (Err NoRoom) writes fits rest faulty unsequenced roomless kept idle =
      let has = roomless refl in
      ((asked has.asks.asked.none has, none_added old new idle), kept)
  path_answered numbers before after old new (Err NoMemory) writes fits rest faulty unsequenced roomless kept idle =
      ((tt, none_added old new idle), kept)

-- ---- by the words

-- the words ask for `path`
pub path_asked : (words : List (List ℕ)) (input : List ℕ) {Holds : PathRequest → List ℕ → Type 0} → ForAsked path words input Holds → asks_other is_path words ≡ true → ⊥
path_asked words input has other = true≢false (sym other ∙ ap (is_other is_path) has.asked)

-- ---- what was answered

module _ (words : List (List ℕ)) (input numbers before after : List ℕ) (floods : ℕ) (answer : Answer Written Refusal)
    (here : IsPathAnswer words input numbers before after floods answer) where
  pub was_written : (w : Written) → answer ≡ answers.Written w
      → ForAsked path words input (λ request bytes. WritesSolutions request bytes numbers (length before) (take w.size after) w.count w.ended floods)
  was_written w found = (subst (IsPathAnswer words input numbers before after floods) found here).0

-- the numbers that are told of it
pub tells : (words : List (List ℕ)) (input numbers written : List ℕ) (room count ended floods made : ℕ) (all : Bool) → floods ≡ min made (2 ^ 64 - 1) → (ended == 1) ≡ all
    → ForAsked path words input (λ request bytes. WritesSolutions request bytes numbers room written count all made)
    → TellsSolutions words input numbers room written count ended floods
tells words input numbers written room count ended floods made all counted flag has = search rules

-- ---- what the status says of the words

module _ (words : List (List ℕ)) (input numbers : List ℕ) (room : ℕ) (written : List ℕ) (count ended : ℕ) (told : List ℕ)
    (err_room floods status : ℕ) where
  abbrev Ends : Type 0
  Ends = EndsSolutions words input numbers room written count ended told err_room floods status

  pub ends_done : status ≡ 0 → TellsSolutions words input numbers room written count ended floods → Ends
  ends_done zero tells = record {
    done = λ _. tells;
    faulty = λ is. absurd (omega (arith, zero, is));
    no_room = λ is. absurd (omega (arith, zero, is));
    no_sequence = λ is. absurd (omega (arith, zero, is));
    other = λ is. absurd (omega (arith, zero, is));
    other_ends = λ other. absurd (path_asked words input tells other);
  }

  pub ends_wanting : status ≡ 5 → Ends
  ends_wanting five = record {
    done = λ is. absurd (omega (arith, five, is));
    faulty = λ is. absurd (omega (arith, five, is));
    no_room = λ is. absurd (omega (arith, five, is));
    no_sequence = λ is. absurd (omega (arith, five, is));
    other = λ is. absurd (omega (arith, five, is));
    other_ends = λ _. inl five;
  }
