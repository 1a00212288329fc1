-- Two runs of a task that see the same bytes end alike.
use Rattle.std.proofs.Common.{◌≡◌, ◌∙◌, ℕ, Bool, false, List, [], ◌++◌, Option, Some, None, refl, sym, subst, append-nil, rules}
use Rattle.std.proofs.lemmas.Option.{same_Some}
use Rattle.pc_outside.specs.Writes.{Grows}
use Rattle.pc_outside.specs.WriteLaws.{grows_nothing}
use Rattle.pc_faults.specs.declared.fault.Fault.{Fault}
use Rattle.pc_faults.specs.declared.status.Status.{Status}
use Rattle.pc_faults.specs.declared.status.Status.TheVariants.{Done, Input, SourceFault, SinkFault, NoMemory}
use Rattle.pc_source.specs.Sink.{SinkChange}
use Rattle.pc_source.specs.Task.{Task, first_fault}
use Rattle.pc_path.specs.Output.{stats_form}
use Rattle.run_laws.specs.Undisturbed.{EndAlike, EndsUndisturbed}

no_fault_and_one : (found : Option Fault) (fault : Fault) → found ≡ None → found ≡ Some fault → ⊥
no_fault_and_one found fault none some = cc

nothing_written : (sink : SinkChange) → sink.holds ≡ sink.held → Grows sink.held sink.holds []
nothing_written sink kept = subst (λ now. Grows sink.held now []) (sym kept) (grows_nothing sink.held)

-- two outputs are one, but that each has the number of its own floods at its end where it is written
pub record IsShared (tells : Bool) (floods others : ℕ) (a b : List ℕ) : Type 0 where
  pub output : List ℕ
  pub one : a ≡ output ++ stats_form tells floods
  pub other : b ≡ output ++ stats_form tells others

-- where no number is written they are one
pub same_shared : (floods others : ℕ) (a b : List ℕ) → a ≡ b → IsShared false floods others a b
same_shared floods others a b same = record { output = a; one = sym (append-nil a); other = sym same ∙ sym (append-nil a) }

pub both_end_alike : (task : Task) (bytes : List ℕ) (tells : Bool) (floods others : ℕ)
    → ((a b : List ℕ) → task.IsOutput bytes floods a → task.IsOutput bytes others b → IsShared tells floods others a b)
    → (sink sinks : SinkChange) (one other : Status)
    → EndsUndisturbed task bytes floods sink one → EndsUndisturbed task bytes others sinks other → EndAlike tells floods others one other sink sinks
both_end_alike task bytes tells floods others shared sink sinks Done Done a b =
    let same = shared a.1.output b.1.output a.1.is_output b.1.is_output in
    record {
      status = refl;
      output = same.output;
      written = subst (λ output. Grows sink.held sink.holds output) same.one a.1.grown;
      also = subst (λ output. Grows sinks.held sinks.holds output) same.other b.1.grown;
    }
both_end_alike task bytes tells floods others shared sink sinks Done (Input fault) a b = absurd (no_fault_and_one (first_fault task bytes) fault a.0 b.0)
both_end_alike task bytes tells floods others shared sink sinks Done SourceFault a b = absurd b
both_end_alike task bytes tells floods others shared sink sinks Done SinkFault a b = absurd b
both_end_alike task bytes tells floods others shared sink sinks Done NoMemory a b = absurd b
both_end_alike task bytes tells floods others shared sink sinks (Input fault) Done a b = absurd (no_fault_and_one (first_fault task bytes) fault b.0 a.0)
both_end_alike task bytes tells floods others shared sink sinks (Input fault) (Input found) a b =
    search (rules, same_Some, nothing_written)
both_end_alike task bytes tells floods others shared sink sinks (Input fault) SourceFault a b = absurd b
both_end_alike task bytes tells floods others shared sink sinks (Input fault) SinkFault a b = absurd b
both_end_alike task bytes tells floods others shared sink sinks (Input fault) NoMemory a b = absurd b
both_end_alike task bytes tells floods others shared sink sinks SourceFault other a b = absurd a
both_end_alike task bytes tells floods others shared sink sinks SinkFault other a b = absurd a
both_end_alike task bytes tells floods others shared sink sinks NoMemory other a b = absurd a
