-- How a run ended, by what it answered before its fault was told.
use Rattle.std.proofs.Common.{◌≡◌, ◌≢◌, ◌⊎◌, ℕ, ◌-◌, ◌≤◌, true, List, Option, Some, None, Err, refl, subst, inl, inr, rules}
use Rattle.kick_file.specs.declared.fault.KickFault.{KickFault}
use Rattle.pc_outside.specs.Counts.{Rose}
use Rattle.pc_outside.specs.Writes.{Grows, GrowsByFront}
use Rattle.pc_faults.specs.declared.fault.Fault.{Fault}
use Rattle.pc_faults.specs.declared.fault.Fault.TheVariants as faults
use Rattle.pc_faults.specs.declared.status.Status.{Status}
use Rattle.pc_faults.specs.declared.status.Status.TheVariants.{Done, Input, SourceFault, SinkFault, NoMemory}
use Rattle.pc_faults.specs.declared.words_fault.WordsFault.{WordsFault}
use Rattle.pc_faults.specs.FaultLine as lines
use Rattle.pc_source.specs.Statuses.{EndsBy}
use Rattle.pc_source.specs.Sink.{SinkChange}
use Rattle.pc_source.specs.Source.{LeavesSource}
use Rattle.pc_source.specs.Task.{ForBytes, ForSomeBytes, Needs, Task, first_fault, is_source, nothing, reads_source}
use Rattle.pc_source.specs.Work.{Works}
use Rattle.pc_words.specs.Words.{asked_in, request_in}
use Rattle.pc_app.specs.Ran.{LeavesSink, Ran}
use Rattle.pc_app.specs.Run.{RunEnds, SourceChange}
use Rattle.pc_app.specs.Tasks.{task_of}
use Rattle.pc_app.proofs.Answering.{front_of_each}
use Rattle.pc_app.proofs.Commands.{one_output}

-- where a fault stands, the run ends by it, or by what it needs to know it
wanting : (needs : Needs) (fault : Fault) → (needs ≡ nothing → ⊥) → EndsBy needs fault NoMemory
wanting needs fault some = search rules

unread : (needs : Needs) (fault : Fault) → is_source needs ≡ true → EndsBy needs fault SourceFault
unread needs fault reads = search rules

told : (needs : Needs) (fault found : Fault) → found ≡ fault → EndsBy needs fault (Input found)
told needs fault found same = search rules

one_fault : (found : Option Fault) (fault other : Fault) → found ≡ Some fault → found ≡ Some other → other ≡ fault
one_fault found fault other is also = cc

not_none : {P : Type 0} (found : Option Fault) (fault : Fault) → found ≡ Some fault → found ≡ None → P
not_none found fault is none = absurd cc

module _ (task : Task) (bytes : List ℕ) (out : SinkChange) (Kept : Type 0) (floods : ℕ) (fault : Fault) (is : first_fault task bytes ≡ Some fault) where
  ends_by : (status : Status) → Ran task bytes out Kept floods status → EndsBy task.needs fault status
  ends_by Done ran = not_none (first_fault task bytes) fault is ran.none
  ends_by (Input found) ran = told task.needs fault found (one_fault (first_fault task bytes) fault found is ran.0)
  ends_by SourceFault ran = unread task.needs fault ran.0
  ends_by SinkFault ran = not_none (first_fault task bytes) fault is ran.none
  ends_by NoMemory ran = wanting task.needs fault (λ needs. not_none (first_fault task bytes) fault is (ran.known needs))

  keeps : (status : Status) → Ran task bytes out Kept floods status → Kept
  keeps Done ran = not_none (first_fault task bytes) fault is ran.none
  keeps (Input found) ran = ran.1
  keeps SourceFault ran = ran.1
  keeps SinkFault ran = not_none (first_fault task bytes) fault is ran.none
  keeps NoMemory ran = elim ran.ended [
    | inl kept ↦ kept
    | inr ended ↦ not_none (first_fault task bytes) fault is ended.none
  ]

-- without a fault, and where no count rose
completes : (task : Task) (bytes : List ℕ) (out : SinkChange) (Kept : Type 0) (floods : ℕ) (FailedRead : Type 0) → first_fault task bytes ≡ None → (status : Status) → Ran task bytes out Kept floods status
    → (status ≡ SourceFault → FailedRead) → (FailedRead → ⊥) → (Rose out.before out.now → ⊥) → (status ≡ Done) ⊎ (status ≡ NoMemory)
completes task bytes out Kept floods FailedRead none status ran failed read wrote = search rules

count_kept : (task : Task) (out : SinkChange) (Kept : Type 0) → (Kept → out.now ≡ out.before) → (status : Status) → LeavesSink task out Kept status → out.alone ≡ true → status ≢ SinkFault → out.now ≡ out.before
count_kept task out Kept same status left alone other = search rules

module _ (words : List (List ℕ)) (origin : SourceChange) (SourceKept : Type 0) (out : SinkChange) (OutKept : Type 0) (err : SinkChange) (ErrKept : Type 0) (before now : ℕ) (status : Status) where
  pub run_ends : (OutKept → out.holds ≡ out.held) → (OutKept → out.now ≡ out.before)
      → ForBytes (task_of words) origin.left (λ bytes. Ran (task_of words) bytes out OutKept (now - before) status)
      → LeavesSink (task_of words) out OutKept status
      → ((fault : WordsFault) → status ≡ Input (faults.Words fault) → request_in words ≡ Err fault)
      → ((fault : KickFault) → status ≡ Input (faults.Kicks fault) → asked_in (request_in words) ≡ Err (faults.Kicks fault))
      → LeavesSource (reads_source (task_of words)) origin.left origin.leaves SourceKept status
      → (status ≡ SourceFault → Rose origin.before origin.now)
      → (origin.alone ≡ true → status ≢ SourceFault → origin.now ≡ origin.before)
      → ForSomeBytes (task_of words) origin.left (λ bytes. Works (task_of words) (first_fault (task_of words) bytes) bytes out (now - before) status)
      → before ≤ now
      → ((fault : Fault) → status ≡ Input fault → now ≡ before)
      → (status ≡ SourceFault → now ≡ before)
      → ForBytes (task_of words) origin.left (λ bytes. (fault : Fault) → first_fault (task_of words) bytes ≡ Some fault → now ≡ before)
      → ((fault : Fault) → status ≡ Input fault → (Rose err.before err.now → ⊥) → Grows err.held err.holds (lines.fault_line fault))
      → ((fault : Fault) → status ≡ Input fault → GrowsByFront err.held err.holds (lines.fault_line fault))
      → (((fault : Fault) → status ≢ Input fault) → ErrKept)
      → RunEnds words origin SourceKept out OutKept err ErrKept before now status
  run_ends held counted ran sink words_fault kicks_fault source source_rose source_kept work rose input_idle unread_idle fault_idle whole_line fault_line no_line =
      let task = task_of words in
      let floods = now - before in record {
        done = λ is bytes sees. (subst (Ran task bytes out OutKept floods) is (ran bytes sees)).wrote;
        no_fault = λ is bytes sees. (subst (Ran task bytes out OutKept floods) is (ran bytes sees)).none;
        front = λ bytes sees. front_of_each task bytes out OutKept floods (one_output words bytes floods floods (λ tells. refl)) held status (ran bytes sees);
        input = λ fault is bytes sees. (subst (Ran task bytes out OutKept floods) is (ran bytes sees)).0;
        words_fault = words_fault;
        kicks_fault = kicks_fault;
        fault = λ bytes sees fault is. ends_by task bytes out OutKept floods fault is status (ran bytes sees);
        quiet = λ bytes sees fault is. (keeps task bytes out OutKept floods fault is status (ran bytes sees), fault_idle bytes sees fault is);
        input_quiet = λ fault is. (subst (LeavesSink task out OutKept) is sink, input_idle fault is);
        source_fault = λ is. (source_rose is, subst (LeavesSink task out OutKept) is sink, unread_idle is);
        sink_fault = λ is bytes sees. subst (Ran task bytes out OutKept floods) is (ran bytes sees);
        sink_rose = λ is. subst (LeavesSink task out OutKept) is sink;
        no_memory = λ first is. (subst (LeavesSink task out OutKept) is sink).0 first;
        complete = λ bytes sees none read wrote. completes task bytes out OutKept floods (Rose origin.before origin.now) none status (ran bytes sees) source_rose read wrote;
        source = source;
        source_kept = source_kept;
        sink_kept = count_kept task out OutKept counted status sink;
        work = work;
        rose = rose;
        whole_line = whole_line;
        fault_line = fault_line;
        no_line = no_line;
      }
