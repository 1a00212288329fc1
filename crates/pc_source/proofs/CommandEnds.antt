-- How commands end: by a fault, for want of memory, or by their last writes.
use Rattle.std.proofs.Common.{◌≡◌, ◌≢◌, ◌⊎◌, ℕ, ◌-◌, ◌≤◌, List, Some, None, Result, Ok, Err, sym, subst, arith, inl, inr}
use Rattle.pc_outside.specs.Counts.{HasCause}
use Rattle.pc_outside.specs.Writes.{WritesAll}
use Rattle.pc_outside.specs.declared.answers.Refused.{Refused}
use Rattle.pc_outside.specs.declared.answers.Refused.TheVariants as refused
use Rattle.pc_faults.specs.declared.fault.Fault.{Fault}
use Rattle.pc_faults.specs.declared.status.Status.{Status}
use Rattle.pc_faults.specs.declared.status.Status.TheVariants.{Done, Input, SinkFault, NoMemory}
use Rattle.pc_faults.specs.Codes.{refused_status, written_status}
use Rattle.pc_source.specs.Ends.{CommandEnds}
use Rattle.pc_source.specs.Had.{IsRefusedInput}
use Rattle.pc_source.specs.Sink.{SinkChange}
use Rattle.pc_source.specs.Task.{Task, nothing}
use Rattle.pc_source.specs.Work.{Works}
use Rattle.pc_source.proofs.CallerLemmas.{none_added, refused_answers, written_answers}

module _ (task : Task) (bytes : List ℕ) (sink : SinkChange) (Kept : Type 0) (before now : ℕ) where
  -- no flood was made
  refusal_works : (r : Refused Fault) → now ≡ before → Works task (task.fault bytes) bytes sink (now - before) (refused_status r)
  refusal_works (refused.Fault f) idle = none_added before now idle
  refusal_works refused.NoMemory idle = inl (none_added before now idle)

  writing_works : {T E : Type 0} (result : Result T E) → task.IsWork bytes sink Done (now - before) → task.IsWork bytes sink SinkFault (now - before)
      → Works task (task.fault bytes) bytes sink (now - before) (written_status result)
  writing_works (Ok all) done failed = done
  writing_works (Err e) done failed = failed

  -- a call was refused, and nothing was done before
  pub ends_refused : (r : Refused Fault) (status : Status) → status ≡ refused_status r → Kept → now ≡ before → (r ≡ refused.NoMemory → task.needs ≢ nothing) → IsRefusedInput (task.fault bytes) r
      → CommandEnds task bytes sink Kept before now status
  ends_refused r status same kept idle needed is = record {
    answers = refused_answers task bytes sink Kept (now - before) r status same kept needed is;
    works = subst (Works task (task.fault bytes) bytes sink (now - before)) (sym same) (refusal_works r idle);
    counted = omega (arith, idle);
  }

  -- a fault was found before anything was done
  pub ends_by_fault : (fault : Fault) → task.fault bytes ≡ Some fault → Kept → now ≡ before → CommandEnds task bytes sink Kept before now (Input fault)
  ends_by_fault fault is kept idle = record { answers = (is, kept); works = none_added before now idle; counted = omega (arith, idle) }

  -- memory was wanting before anything was written, and no fault stands
  pub ends_unwritten : task.fault bytes ≡ None → Kept → before ≤ now → (now ≡ before) ⊎ task.IsWork bytes sink NoMemory (now - before) → CommandEnds task bytes sink Kept before now NoMemory
  ends_unwritten none kept rose work = record {
    answers = record { known = λ _. none; first = λ _. kept; ended = inl kept };
    works = elim work [
      | inl idle ↦ inl (none_added before now idle)
      | inr made ↦ inr (none, made)
    ];
    counted = rose;
  }

  -- the last writes were made, or one of them failed
  pub ends_written : {T E : Type 0} (output : List ℕ) (result : Result T E) (status : Status) → status ≡ written_status result → task.fault bytes ≡ None → task.IsOutput bytes (now - before) output
      → WritesAll sink.held sink.holds result output → HasCause sink.alone sink.before sink.now result → before ≤ now
      → task.IsWork bytes sink Done (now - before) → task.IsWork bytes sink SinkFault (now - before) → CommandEnds task bytes sink Kept before now status
  ends_written output result status same none is written cause rose done failed = record {
    answers = written_answers task bytes output sink Kept (now - before) result status same none is written cause;
    works = subst (Works task (task.fault bytes) bytes sink (now - before)) (sym same) (writing_works result done failed);
    counted = rose;
  }
