-- What a run over slices leaves in them, by what its clauses say of its sinks.
use Rattle.std.proofs.Common.{◌≡◌, ◌≢◌, ℕ, ◌+◌, ◌-◌, ◌^◌, ◌<◌, ◌≤◌, min, true, List, [], ◌∷◌, ◌++◌, length, length-append, length-take, length-drop, take, Some, None, nat_lt, if◌then◌else◌, ◌⊎◌, inl, inr, refl, sym, ap, subst, ◌∙◌, append_assoc, lt-ltb, ltb-true, ltb-false, arith, rules}
use Rattle.std.proofs.lemmas.Bool.{cases_Bool}
use Rattle.std.proofs.lemmas.List.{take_all, take_at}
use Rattle.std.proofs.lemmas.Option.{same_Some}
use Rattle.pc_outside.specs.declared.slice_sink.SliceSink.{SliceSink}
use Rattle.pc_outside.specs.Counts.{Rose}
use Rattle.pc_outside.specs.SliceSink.{held_bytes}
use Rattle.pc_outside.specs.SliceSinkView.{sink_view}
use Rattle.pc_outside.specs.WriteLaws.{grows_told}
use Rattle.pc_outside.specs.Writes.{Grows, GrowsByFront}
use Rattle.pc_faults.specs.declared.fault.Fault.{Fault}
use Rattle.pc_faults.specs.declared.status.Status.{Status}
use Rattle.pc_faults.specs.declared.status.Status.TheVariants.{Done, Input, SourceFault, SinkFault, NoMemory}
use Rattle.pc_faults.specs.Codes.{status_code}
use Rattle.pc_faults.specs.FaultLine.{fault_line}
use Rattle.pc_source.specs.Statuses.{FailedAfterFront, Wrote}
use Rattle.pc_source.specs.Sink.{SinkChange, sink_change}
use Rattle.pc_source.specs.Task.{ForBytes, ForSomeBytes, HasBytes, Sees, Task, first_fault, reads_source}
use Rattle.pc_source.specs.Work.{Works}
use Rattle.pc_app.specs.Tasks.{task_of}
use Rattle.pc_c.specs.Call.{EndsRun, ForFloods, TellsFault, WritesCut, WritesFront, WritesOutput, holding, seen}
use Rattle.pc_c.specs.Ended.{EndedBy, LeavesErr, LeavesOut}

-- ---- what a sink over a slice holds

-- nothing was missed
unmissed : (s : SliceSink) → s.faults ≡ 0 → held_bytes (sink_view s) ≡ (sink_view s).bytes
unmissed s none = search rules

-- a byte was missed, and the slice is full
missed_one : (s : SliceSink) → 0 < s.faults → held_bytes (sink_view s) ≡ (sink_view s).bytes ++ s.missed ∷ []
missed_one s some = ap (λ b. (sink_view s).bytes ++ (if b then s.missed ∷ [] else [])) (lt-ltb 0 s.faults some)

full_slice : (s : SliceSink) → 0 < s.faults → length (sink_view s).bytes ≡ length s.buffer.now
full_slice s some = search rules

within_slice : (s : SliceSink) → length (sink_view s).bytes ≤ length s.buffer.now
within_slice s = search rules

-- a front of a text, one byte longer than the room
cut_text : (bytes text rest : List ℕ) (byte room : ℕ) → text ≡ (bytes ++ byte ∷ []) ++ rest → length bytes ≡ room
    → (room < length text) × (bytes ≡ take room text) × (bytes ++ byte ∷ [] ≡ take (room + 1) text)
cut_text bytes text rest byte room is size = search (rules, append_assoc, length-append, take_at)

-- a text that fits the room
whole_text : (text : List ℕ) (room : ℕ) → length text ≤ room → text ≡ take room text
whole_text text room fits = sym (take_all room text fits)

-- what a sink that held nothing holds now
told_now : (holds text : List ℕ) → Grows (Some []) (Some holds) text → holds ≡ text
told_now holds text grown = same_Some holds text (grows_told (Some []) (Some holds) [] text grown refl)

front_now : (holds text : List ℕ) → GrowsByFront (Some []) (Some holds) text → (rest : List ℕ) × (text ≡ holds ++ rest)
front_now holds text part = search rules

-- a text was written, or as much of it as there is room for
pub cut_or_whole : (s : SliceSink) (text : List ℕ) → GrowsByFront (Some []) (Some (held_bytes (sink_view s))) text
    → ((Rose 0 s.faults → ⊥) → Grows (Some []) (Some (held_bytes (sink_view s))) text)
    → (sink_view s).bytes ≡ take (length s.buffer.now) text
cut_or_whole s text part whole = elim (cases_Bool (nat_lt 0 s.faults)) [
  | inl some ↦ full (ltb-true 0 s.faults some)
  | inr none ↦ fits (let bound = ltb-false 0 s.faults none in omega arith)
] where
  full : 0 < s.faults → (sink_view s).bytes ≡ take (length s.buffer.now) text
  full some =
      let front = front_now (held_bytes (sink_view s)) text part in
      (cut_text (sink_view s).bytes text front.0 s.missed (length s.buffer.now)
      (front.1 ∙ ap (λ (l : List ℕ). l ++ front.0) (missed_one s some)) (full_slice s some)).1

  fits : s.faults ≡ 0 → (sink_view s).bytes ≡ take (length s.buffer.now) text
  fits none =
      let all = sym (unmissed s none) ∙ told_now (held_bytes (sink_view s)) text (whole (λ rose. omega (arith, none, rose))) in
      let size = within_slice s in
      all ∙ whole_text text (length s.buffer.now) (omega (arith, ap length all, size))

-- ---- what the command saw

sees : (task : Task) (input : List ℕ) → Sees (reads_source task) (Some input) (seen task input)
sees task input = search rules

saw : (task : Task) (input bytes : List ℕ) → HasBytes (reads_source task) (Some input) bytes → bytes ≡ seen task input
saw task input bytes has = search rules

-- ---- how the run ended

-- the clauses of a run that speak of `out`
pub record Runs (task : Task) (input : List ℕ) (out : SliceSink) (floods : ℕ) (status : Status) (sink : SinkChange)
    : Type 0 where
  pub done : status ≡ Done → ForBytes task (Some input) (λ bytes. Wrote (task.IsOutput bytes floods) sink)
  pub no_fault : status ≡ Done → ForBytes task (Some input) (λ bytes. first_fault task bytes ≡ None)
  pub front : ForBytes task (Some input) (λ bytes. (output : List ℕ) → task.IsOutput bytes floods output → GrowsByFront sink.held sink.holds output)
  pub faulty : (fault : Fault) → status ≡ Input fault → ForBytes task (Some input) (λ bytes. first_fault task bytes ≡ Some fault)
  pub quiet : ForBytes task (Some input) (λ bytes. (fault : Fault) → first_fault task bytes ≡ Some fault → (sink_view out).bytes ≡ [])
  pub input_quiet : (fault : Fault) → status ≡ Input fault → (sink_view out).bytes ≡ []
  pub source_fault : status ≡ SourceFault → Rose 0 0
  pub sink_fault : status ≡ SinkFault → ForBytes task (Some input) (λ bytes. FailedAfterFront (first_fault task bytes) (task.IsOutput bytes floods) sink)
  pub sink_rose : status ≡ SinkFault → Rose sink.before sink.now
  pub no_memory : task.memory_first ≡ true → status ≡ NoMemory → (sink_view out).bytes ≡ []
  pub sink_kept : status ≢ SinkFault → sink.now ≡ sink.before
  pub work : ForSomeBytes task (Some input) (λ bytes. Works task (first_fault task bytes) bytes sink floods status)

-- the change of a sink over a slice that held nothing
abbrev pub change_of : SliceSink → SinkChange
change_of out = holding (held_bytes (sink_view out)) out.faults

pub held_nothing : (old new : SliceSink) → (sink_view old).bytes ≡ [] → (sink_view old).missed ≡ [] → old.faults ≡ 0
    → sink_change true (Some (held_bytes (sink_view old))) (Some (held_bytes (sink_view new))) old.faults new.faults ≡ change_of new
held_nothing old new empty unmissed faults = search rules

module _ (task : Task) (input : List ℕ) (out : SliceSink) (floods : ℕ) where
  works : (status : Status) (bytes : List ℕ) (failed : ℕ) → held_bytes (sink_view out) ≡ bytes → out.faults ≡ failed
      → ForSomeBytes task (Some input) (λ bytes. Works task (first_fault task bytes) bytes (change_of out) floods status)
      → Works task (first_fault task (seen task input)) (seen task input) (holding bytes failed) floods status
  works status bytes failed held faults made =
      subst (λ (sink : SinkChange). Works task (first_fault task (seen task input)) (seen task input) sink floods status)
      (ap (λ (l : List ℕ). holding l out.faults) held ∙ ap (holding bytes) faults)
      (subst (λ (l : List ℕ). Works task (first_fault task l) l (change_of out) floods status) (saw task input made.bytes made.seen) made.holds)

  left_done : Runs task input out floods Done (change_of out)
      → WritesOutput task (seen task input) (sink_view out).bytes floods
  left_done run =
      let wrote = run.done refl (seen task input) (sees task input) in
      let none = run.sink_kept (λ e. cc) in
      let all = sym (unmissed out none) ∙ told_now (held_bytes (sink_view out)) wrote.output wrote.grown in
      record {
        none = run.no_fault refl (seen task input) (sees task input);
        is_output = subst (task.IsOutput (seen task input) floods) (sym all) wrote.is_output;
        work = works Done (sink_view out).bytes 0 (unmissed out none) none run.work;
      }

  left_cut : Runs task input out floods SinkFault (change_of out)
      → WritesCut task (seen task input) (sink_view out).bytes (length out.buffer.now) floods
  left_cut run =
      let failed = run.sink_fault refl (seen task input) (sees task input) in
      let rose = run.sink_rose refl in
      let some : 0 < out.faults = omega (arith, rose) in
      let front = front_now (held_bytes (sink_view out)) failed.front.output failed.front.grown in
      let cut = cut_text (sink_view out).bytes failed.front.output front.0 out.missed (length out.buffer.now)
      (front.1 ∙ ap (λ (l : List ℕ). l ++ front.0) (missed_one out some)) (full_slice out some) in
      record {
        none = failed.none;
        output = failed.front.output;
        is_output = failed.front.is_output;
        longer = cut.0;
        front = cut.1;
        failed = out.faults;
        work = works SinkFault (take (length out.buffer.now + 1) failed.front.output) out.faults
            (missed_one out some ∙ cut.2) refl run.work;
      }

  left_front : Runs task input out floods NoMemory (change_of out)
      → WritesFront task (seen task input) (sink_view out).bytes floods
  left_front run = record {
    front = λ output is.
        let none = run.sink_kept (λ e. cc) in
        let part = front_now (held_bytes (sink_view out)) output (run.front (seen task input) (sees task input) output is) in
        (part.0, part.1 ∙ ap (λ (l : List ℕ). l ++ part.0) (unmissed out none));
    first = λ first. run.no_memory first refl;
    faulty = λ fault is. run.quiet (seen task input) (sees task input) fault is;
    work = let none = run.sink_kept (λ e. cc) in works NoMemory (sink_view out).bytes 0 (unmissed out none) none run.work;
  }

  -- what a run leaves in the slice of `out`
  pub leaves_out : (status : Status) → Runs task input out floods status (change_of out)
      → LeavesOut task (seen task input) (sink_view out).bytes (length out.buffer.now) floods status
  leaves_out Done run = left_done run
  leaves_out (Input fault) run = (
    run.faulty fault refl (seen task input) (sees task input),
    run.input_quiet fault refl,
    works (Input fault) (held_bytes (sink_view out)) out.faults refl refl run.work,
  )
  leaves_out SourceFault run = let rose = run.source_fault refl in omega (arith, rose)
  leaves_out SinkFault run = left_cut run
  leaves_out NoMemory run = left_front run

  -- where the room and the input are the same as these
  pub leaves_there : (room : ℕ) (given : List ℕ) (status : Status) → length out.buffer.now ≡ room → input ≡ given
      → Runs task input out floods status (change_of out) → LeavesOut task (seen task given) (sink_view out).bytes room floods status
  leaves_there room given status is same run =
      subst (λ n. LeavesOut task (seen task given) (sink_view out).bytes n floods status) is
      (subst (λ (l : List ℕ). LeavesOut task (seen task l) (sink_view out).bytes (length out.buffer.now) floods status) same
      (leaves_out status run))

-- what a run leaves in the slice of `err`
pub leaves_err : (err : SliceSink) (status : Status)
    → ((fault : Fault) → status ≡ Input fault → GrowsByFront (Some []) (Some (held_bytes (sink_view err))) (fault_line fault))
    → ((fault : Fault) → status ≡ Input fault → (Rose 0 err.faults → ⊥) → Grows (Some []) (Some (held_bytes (sink_view err))) (fault_line fault))
    → (((fault : Fault) → status ≢ Input fault) → (sink_view err).bytes ≡ []) → LeavesErr (sink_view err).bytes (length err.buffer.now) status
leaves_err err status front whole none = search (rules, cut_or_whole)

-- the bytes that were written and those behind them are the slice
pub whole_slice : (s : SliceSink) → length (sink_view s).bytes + length (sink_view s).rest ≡ length s.buffer.now
whole_slice s = search (rules, length-take, length-drop)

-- a front that is empty has no bytes
pub none_told : (count : ℕ) (bytes : List ℕ) → count ≤ length bytes → take count bytes ≡ [] → count ≡ 0
none_told count bytes within none = search rules

-- what is equal has equal parts
pub via : {A B : Type 0} {x y : A} → x ≡ y → (f : A → B) → f x ≡ f y
via same f = ap f same

-- ---- what the number of a status says

module _ (task : Task) (bytes written : List ℕ) (room floods : ℕ) (told : List ℕ) (err_room code : ℕ) where
  done_by : (status : Status) → code ≡ status_code status → code ≡ 0 → LeavesOut task bytes written room floods status
      → WritesOutput task bytes written floods
  done_by Done is code out = out
  done_by (Input fault) is code out = absurd (omega (arith, is, code))
  done_by SourceFault is code out = absurd out
  done_by SinkFault is code out = absurd (omega (arith, is, code))
  done_by NoMemory is code out = absurd (omega (arith, is, code))

  fault_by : (status : Status) → code ≡ status_code status → code ≡ 2 → LeavesOut task bytes written room floods status
      → LeavesErr told err_room status → TellsFault task bytes told err_room
  fault_by Done is code out err = absurd (omega (arith, is, code))
  fault_by (Input fault) is code out err = record { fault = fault; first = out.0; line = err }
  fault_by SourceFault is code out err = absurd out
  fault_by SinkFault is code out err = absurd (omega (arith, is, code))
  fault_by NoMemory is code out err = absurd (omega (arith, is, code))

  idle_by : (status : Status) → code ≡ status_code status → (code ≡ 2) ⊎ (code ≡ 6)
      → LeavesOut task bytes written room floods status → floods ≡ 0
  idle_by Done is (inl two) out = absurd (omega (arith, is, two))
  idle_by Done is (inr six) out = absurd (omega (arith, is, six))
  idle_by (Input fault) is either out = out.2
  idle_by SourceFault is either out = absurd out
  idle_by SinkFault is (inl two) out = absurd (omega (arith, is, two))
  idle_by SinkFault is (inr six) out = absurd (omega (arith, is, six))
  idle_by NoMemory is (inl two) out = absurd (omega (arith, is, two))
  idle_by NoMemory is (inr six) out = absurd (omega (arith, is, six))

  cut_by : (status : Status) → code ≡ status_code status → code ≡ 4 → LeavesOut task bytes written room floods status
      → WritesCut task bytes written room floods
  cut_by Done is code out = absurd (omega (arith, is, code))
  cut_by (Input fault) is code out = absurd (omega (arith, is, code))
  cut_by SourceFault is code out = absurd out
  cut_by SinkFault is code out = out
  cut_by NoMemory is code out = absurd (omega (arith, is, code))

  front_by : (status : Status) → code ≡ status_code status → code ≡ 5 → LeavesOut task bytes written room floods status
      → WritesFront task bytes written floods
  front_by Done is code out = absurd (omega (arith, is, code))
  front_by (Input fault) is code out = absurd (omega (arith, is, code))
  front_by SourceFault is code out = absurd out
  front_by SinkFault is code out = absurd (omega (arith, is, code))
  front_by NoMemory is code out = out

  silent_by : (status : Status) → code ≡ status_code status → code ≢ 2 → LeavesErr told err_room status → told ≡ []
  silent_by Done is other err = err
  silent_by (Input fault) is other err = absurd (other is)
  silent_by SourceFault is other err = err
  silent_by SinkFault is other err = err
  silent_by NoMemory is other err = err

-- what holds of the number of floods, of which that holds
pub with_floods : {count : ℕ} {Holds Gives : ℕ → Type 0} → ForFloods count Holds
    → ((floods : ℕ) → Holds floods → Gives floods) → ForFloods count Gives
with_floods made gives = record { floods = made.floods; counted = made.counted; holds = gives made.floods made.holds }

module _ (task : Task) (bytes written : List ℕ) (room count : ℕ) (told : List ℕ) (err_room code : ℕ)
    (ended : EndedBy task bytes written room count told err_room code) where
  pub at_done : code ≡ 0 → ForFloods count (WritesOutput task bytes written)
  at_done is = with_floods ended.out (λ floods out. done_by task bytes written room floods told err_room code ended.status ended.is is out)

  pub at_fault : code ≡ 2 → TellsFault task bytes told err_room
  at_fault is = fault_by task bytes written room ended.out.floods told err_room code ended.status ended.is is ended.out.holds ended.err

  pub at_idle : (code ≡ 2) ⊎ (code ≡ 6) → count ≡ 0
  at_idle is =
      let none = idle_by task bytes written room ended.out.floods told err_room code ended.status ended.is is ended.out.holds in
      ended.out.counted ∙ ap (λ n. min n (2 ^ 64 - 1)) none

  pub at_silent : code ≢ 2 → told ≡ []
  at_silent other = silent_by task bytes written room ended.out.floods told err_room code ended.status ended.is other ended.err

  pub at_cut : code ≡ 4 → ForFloods count (WritesCut task bytes written room)
  at_cut is = with_floods ended.out (λ floods out. cut_by task bytes written room floods told err_room code ended.status ended.is is out)

  pub at_no_memory : code ≡ 5 → ForFloods count (WritesFront task bytes written)
  at_no_memory is = with_floods ended.out (λ floods out. front_by task bytes written room floods told err_room code ended.status ended.is is out)

-- what holds of the floods since the counter was at 0, of which it tells so many
pub from_zero : {Holds : ℕ → Type 0} (count before now : ℕ) → before ≡ 0 → count ≡ min now (2 ^ 64 - 1)
    → Holds (now - before) → ForFloods count Holds
from_zero {Holds} count before now none told holds = search rules

-- no flood was made
pub none_made : {Holds : ℕ → Type 0} → Holds 0 → ForFloods 0 Holds
none_made holds = record { floods = 0; counted = refl; holds = holds }

-- before the words are had, nothing is written, and no flood is made
pub nothing_written : (task : Task) (bytes : List ℕ) → ForFloods 0 (WritesFront task bytes [])
nothing_written task bytes = search rules

pub ends_wanting : (words : List (List ℕ)) (input : List ℕ) (room err_room status : ℕ) → status ≡ 5
    → EndsRun words input [] room [] err_room 0 status
ends_wanting words input room err_room status five = record {
  done = λ is. absurd (omega (arith, five, is));
  faulty = λ is. absurd (omega (arith, five, is));
  cut = λ is. absurd (omega (arith, five, is));
  no_memory = λ _. nothing_written (task_of words) (seen (task_of words) input);
}

-- what the status says of the words that were run
pub ends_run : (words : List (List ℕ)) (input written : List ℕ) (room count : ℕ) (told : List ℕ) (err_room code : ℕ)
    → EndedBy (task_of words) (seen (task_of words) input) written room count told err_room code
    → EndsRun words input written room told err_room count code
ends_run words input written room count told err_room code ended = record {
  done = at_done _ _ _ _ _ _ _ _ ended;
  faulty = at_fault _ _ _ _ _ _ _ _ ended;
  cut = at_cut _ _ _ _ _ _ _ _ ended;
  no_memory = at_no_memory _ _ _ _ _ _ _ _ ended;
}
