-- What a call answers where its problem is had, and where it is not.
use Rattle.std.proofs.Common.{◌≡◌, ◌≢◌, ℕ, ◌≤◌, ◌<◌, List, length, count_by, None, refl, sym, subst, inl, inr}
use Rattle.well.specs.Well.{filled}
use Rattle.queue_pattern.specs.Pattern.{elements_of}
use Rattle.queue_pattern.specs.Queues.{queues}
use Rattle.problem.specs.declared.problem.Problem.{Problem}
use Rattle.problem.specs.Problem.{IsFit}
use Rattle.percent.specs.GoodHands.{is_good_queue}
use Rattle.percent.proofs.CallerLemmas.{good-decides}
use Rattle.pc_outside.specs.declared.answers.Refused.{Refused}
use Rattle.pc_outside.specs.declared.answers.Refused.TheVariants as refused
use Rattle.pc_faults.specs.declared.fault.Fault.{Fault}
use Rattle.pc_settings.specs.Request.{PercentRequest}
use Rattle.pc_source.specs.FieldText.{field_needs, of_source}
use Rattle.pc_source.specs.Task.{nothing}
use Rattle.pc_source.specs.Had.{HasProblem, IsRefusedInput}
use Rattle.pc_source.proofs.FieldFaults.{no_request_fault}
use Rattle.pc_percent.specs.PercentTask.{percent_fault}
use Rattle.pc_good_queues.specs.Bits.{AreBitsOf, bytes_for}
use Rattle.pc_good_queues.specs.Flags.{flags_of}
use Rattle.pc_good_queues.specs.GoodQueues.{AreGoodQueues}
use Rattle.pc_good_queues.specs.declared.answer.NoBits.TheVariants.{NoMemory, NoRoom}
use Rattle.pc_good_queues.specs.Refusals.{AsksQueues, Refuses}
use Rattle.pc_good_queues.specs.Told.{refusal}

module _ (request : PercentRequest) (bytes : List ℕ) where
  -- the problem is not had
  pub refused_before : (room floods : ℕ) (r : Refused Fault) → floods ≡ 0 → IsRefusedInput (percent_fault request bytes) r
      → (r ≡ refused.NoMemory → field_needs request.common.field ≢ nothing) → Refuses request bytes room floods (refusal r)
  refused_before room floods (refused.Fault fault) none is needed = (is, none)
  refused_before room floods refused.NoMemory none is needed = inl (needed refl, none)

  module _ (problem : Problem) (has : HasProblem request.common (of_source bytes) problem) where
    pub no_fault : percent_fault request bytes ≡ None
    no_fault = no_request_fault request.common (of_source bytes) problem has

    module _ (count : ℕ) (all : count ≡ length (queues (elements_of problem.pattern))) where
      asks : AsksQueues request.common count
      asks = record { elements = elements_of problem.pattern; spelled = sym has.named.queues; all = all }

      pub lacks : (room floods : ℕ) → room < bytes_for count → floods ≡ 0 → Refuses request bytes room floods (NoRoom count)
      lacks room floods short idle = (no_fault, record { asked = asks; short = short }, idle)

      pub has_room : (room floods : ℕ) → bytes_for count ≤ room → Refuses request bytes room floods NoMemory
      has_room room floods enough = inr (no_fault, record { count = count; asked = asks; enough = enough })

      -- the bits are written
      pub found : IsFit problem → (written : List ℕ) (good : ℕ) (answered : Problem) → answered ≡ problem
          → AreBitsOf (flags_of answered) written
          → good ≡ count_by (is_good_queue answered) (queues (elements_of answered.pattern))
          → AreGoodQueues request.common bytes written count good
      unfolding flags_of
      found fit written good answered same bits good_ones = record {
        field = filled problem.well;
        asked = has.field.is;
        problem = problem;
        named = has.named;
        is_good = is_good_queue problem;
        decides = λ queue. good-decides problem queue fit;
        bits = subst (λ p. AreBitsOf (flags_of p) written) same bits;
        all = all;
        good_ones = subst (λ p. good ≡ count_by (is_good_queue p) (queues (elements_of p.pattern))) same good_ones;
      }
