-- What crates above cite: faults of texts and problems, and what calls answer and add to the counter of floods.
use Rattle.std.proofs.Common.{◌≡◌, ◌≢◌, ℕ, ◌-◌, ◌<◌, ◌≤◌, length, List, false, Option, Some, None, Result, Ok, Err, refl, sym, subst, arith, inl, inr}
use Rattle.std.proofs.lemmas.Bool.{lt-ltb, le-ltb}
use Rattle.fumen_digits.specs.Framing.{digits_in}
use Rattle.fumen_pages.specs.declared.page.Page.{Page}
use Rattle.line_writing.specs.declared.write_fault.WriteFault.{WriteFault}
use Rattle.line_writing.specs.declared.write_fault.WriteFault.TheVariants as line
use Rattle.line_writing.specs.WriteCause.{HasWriteCause}
use Rattle.pc_outside.specs.Counts.{HasCause}
use Rattle.pc_outside.specs.Writes.{WritesAll}
use Rattle.pc_outside.specs.declared.answers.Refused.{Refused}
use Rattle.pc_outside.specs.declared.answers.Refused.TheVariants as refused
use Rattle.pc_faults.specs.declared.fault.Fault.{Fault}
use Rattle.pc_faults.specs.declared.status.Status.{Status}
use Rattle.pc_faults.specs.declared.status.Status.TheVariants.{Done, Input, SourceFault, SinkFault, NoMemory}
use Rattle.pc_faults.specs.declared.fault.Fault.TheVariants.{SourceTooLong}
use Rattle.pc_faults.proofs.CallerLemmas.{second_left}
use Rattle.pc_faults.specs.Codes.{line_status, refused_status, written_status}
use Rattle.pc_source.specs.Statuses.{IsAnswered}
use Rattle.pc_source.specs.Had.{HasText, IsRefusedInput}
use Rattle.pc_source.specs.Sink.{SinkChange}
use Rattle.pc_source.specs.Task.{Needs, Task, first_fault, memory, most_bytes, nothing, source_bytes, source_fault}
use Rattle.pc_source.specs.Work.{Works}
pub use Rattle.pc_source.proofs.InnerFaults.{inner_full_row, inner_pattern, inner_problem, inner_text}
pub use Rattle.pc_source.proofs.SameProblems.{same_elements, same_table}
pub use Rattle.pc_source.proofs.TextFaults.{text_faulty, text_page, text_reads, text_refused}

refusal_answers : (task : Task) (bytes : List ℕ) (sink : SinkChange) (Kept : Type 0) (floods : ℕ) (r : Refused Fault) → Kept → (r ≡ refused.NoMemory → task.needs ≢ nothing)
    → IsRefusedInput (task.fault bytes) r → IsAnswered task bytes sink Kept floods (refused_status r)
refusal_answers task bytes sink Kept floods (refused.Fault f) kept needed is = (is, kept)
refusal_answers task bytes sink Kept floods refused.NoMemory kept needed is = record { known = λ needs. absurd (needed refl needs); first = λ _. kept; ended = inl kept }

-- a call was refused, and nothing was written
pub refused_answers : (task : Task) (bytes : List ℕ) (sink : SinkChange) (Kept : Type 0) (floods : ℕ) (r : Refused Fault) (status : Status) → status ≡ refused_status r → Kept
    → (r ≡ refused.NoMemory → task.needs ≢ nothing) → IsRefusedInput (task.fault bytes) r → IsAnswered task bytes sink Kept floods status
refused_answers task bytes sink Kept floods r status same kept needed is =
    subst (IsAnswered task bytes sink Kept floods) (sym same) (refusal_answers task bytes sink Kept floods r kept needed is)

-- a refusal for want of memory
pub wants_memory : (r : Refused Fault) (status : Status) → status ≡ refused_status r → status ≡ NoMemory → r ≡ refused.NoMemory
wants_memory (refused.Fault f) status same none = absurd cc
wants_memory refused.NoMemory status same none = refl

-- a text that reads as pages has a prefix
pub has_prefix : (text : List ℕ) (pages : List Page) → HasText text pages → digits_in text ≢ None
has_prefix text pages has none = let framed = has.reads.framed in cc

writing_answers : {T E : Type 0} (task : Task) (bytes output : List ℕ) (sink : SinkChange) (Kept : Type 0) (floods : ℕ) (result : Result T E) → task.fault bytes ≡ None → task.IsOutput bytes floods output
    → WritesAll sink.held sink.holds result output → HasCause sink.alone sink.before sink.now result → IsAnswered task bytes sink Kept floods (written_status result)
writing_answers task bytes output sink Kept floods (Ok all) none is written cause =
    record { none = none; wrote = record { output = output; is_output = is; grown = written.done }; kept = cause.kept }
writing_answers task bytes output sink Kept floods (Err failed) none is written cause =
    record { none = none; front = record { output = output; is_output = is; grown = written.failed }; rose = cause.failed }

-- the last writes were made, or one of them failed
pub written_answers : {T E : Type 0} (task : Task) (bytes output : List ℕ) (sink : SinkChange) (Kept : Type 0) (floods : ℕ) (result : Result T E) (status : Status) → status ≡ written_status result
    → task.fault bytes ≡ None → task.IsOutput bytes floods output → WritesAll sink.held sink.holds result output → HasCause sink.alone sink.before sink.now result → IsAnswered task bytes sink Kept floods status
written_answers task bytes output sink Kept floods result status same none is written cause =
    subst (IsAnswered task bytes sink Kept floods) (sym same) (writing_answers task bytes output sink Kept floods result none is written cause)

line_answers : {T : Type 0} (task : Task) (bytes output : List ℕ) (sink : SinkChange) (Kept : Type 0) (floods : ℕ) (result : Result T WriteFault) → task.fault bytes ≡ None → task.IsOutput bytes floods output
    → WritesAll sink.held sink.holds result output → HasWriteCause sink.alone sink.before sink.now result → (result ≡ Err line.NoMemory → task.memory_first ≡ false)
    → IsAnswered task bytes sink Kept floods (line_status result)
line_answers task bytes output sink Kept floods (Ok all) none is written cause later =
    record { none = none; wrote = record { output = output; is_output = is; grown = written.done }; kept = λ alone. cause.kept alone (λ e. cc) }
line_answers task bytes output sink Kept floods (Err line.Failed) none is written cause later =
    record { none = none; front = record { output = output; is_output = is; grown = written.failed }; rose = cause.failed refl }
line_answers task bytes output sink Kept floods (Err line.NoMemory) none is written cause later =
    record {
      known = λ _. none;
      first = λ first. let other = later refl in absurd cc;
      ended = inr (record { none = none; front = record { output = output; is_output = is; grown = written.failed }; kept = λ alone. cause.kept alone (λ e. cc) });
    }

-- the last line was written, a write failed, or memory was wanting for it
pub last_line_answers : {T : Type 0} (task : Task) (bytes output : List ℕ) (sink : SinkChange) (Kept : Type 0) (floods : ℕ) (result : Result T WriteFault) (status : Status) → status ≡ line_status result
    → task.fault bytes ≡ None → task.IsOutput bytes floods output → WritesAll sink.held sink.holds result output → HasWriteCause sink.alone sink.before sink.now result
    → (result ≡ Err line.NoMemory → task.memory_first ≡ false) → IsAnswered task bytes sink Kept floods status
last_line_answers task bytes output sink Kept floods result status same none is written cause later =
    subst (IsAnswered task bytes sink Kept floods) (sym same) (line_answers task bytes output sink Kept floods result none is written cause later)

-- no flood was made, by a command whose work may be none
pub idle_works : (task : Task) (fault : Option Fault) (bytes : List ℕ) (sink : SinkChange) (floods : ℕ) → ((status : Status) → task.IsWork bytes sink status 0) → floods ≡ 0 → (status : Status)
    → Works task fault bytes sink floods status
idle_works task fault bytes sink floods idle none Done = subst (task.IsWork bytes sink Done) (sym none) (idle Done)
idle_works task fault bytes sink floods idle none (Input f) = none
idle_works task fault bytes sink floods idle none SourceFault = none
idle_works task fault bytes sink floods idle none SinkFault = subst (task.IsWork bytes sink SinkFault) (sym none) (idle SinkFault)
idle_works task fault bytes sink floods idle none NoMemory = inl none

-- the counter stays where it was
pub none_added : (before now : ℕ) → now ≡ before → now - before ≡ 0
none_added before now same = omega (arith, same)

pub stays : (before now : ℕ) → before ≤ now → now - before ≡ 0 → now ≡ before
stays before now rose none = omega (arith, rose, none)

-- what refuses a first call refuses the whole
pub refusal_before : (one whole : Option Fault) (r : Refused Fault) → ((f : Fault) → one ≡ Some f → whole ≡ Some f) → IsRefusedInput one r → IsRefusedInput whole r
refusal_before one whole (refused.Fault f) first is = first f is
refusal_before one whole refused.NoMemory first is = tt

-- more bytes than are read, and not as many
pub too_long : (task : Task) (bytes : List ℕ) → task.needs ≡ source_bytes → most_bytes < length bytes → first_fault task bytes ≡ Some SourceTooLong
unfolding first_fault
too_long task bytes reads more = rw (reads, lt-ltb most_bytes (length bytes) more) refl

fits : (needs : Needs) (bytes : List ℕ) → length bytes ≤ most_bytes → source_fault needs bytes ≡ None
fits nothing bytes within = refl
fits memory bytes within = refl
fits source_bytes bytes within = rw (le-ltb most_bytes (length bytes) within) refl

pub not_too_long : (task : Task) (bytes : List ℕ) → length bytes ≤ most_bytes → first_fault task bytes ≡ task.fault bytes
unfolding first_fault
not_too_long task bytes within = second_left (source_fault task.needs bytes) (task.fault bytes) (fits task.needs bytes within)
