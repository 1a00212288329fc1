-- What the last line of a report answers, and how the run ends by it.
use Rattle.std.proofs.Common.{◌≡◌, ℕ, List, [], Bool, Option, None, Result, Ok, Err, refl, sym, ap, subst, inr, rules}
use Rattle.std.specs.Prelude.{IsErrAnd, MatchResult}
use Rattle.lane_board.specs.Field.{Field}
use Rattle.pc_outside.specs.declared.answers.Failed.{Failed}
use Rattle.pc_outside.specs.Counts.{HasCause}
use Rattle.pc_outside.specs.CountLaws.{NoneFailed}
use Rattle.pc_outside.specs.Writes.{WritesAll}
use Rattle.pc_settings.specs.declared.format.Format.TheVariants.{Fumen}
use Rattle.pc_settings.specs.Request.{PathRequest}
use Rattle.pc_faults.specs.declared.status.Status.{Status}
use Rattle.pc_faults.specs.declared.status.Status.TheVariants.{Done, SinkFault, NoMemory}
use Rattle.pc_faults.specs.Codes.{line_status}
use Rattle.pc_source.proofs.CallerLemmas.{last_line_answers}
use Rattle.pc_source.specs.Statuses.{IsAnswered}
use Rattle.pc_source.specs.Sink.{SinkChange}
use Rattle.pc_source.specs.Work.{Works}
use Rattle.line_writing.specs.declared.write_fault.WriteFault.{WriteFault}
use Rattle.line_writing.specs.declared.write_fault.WriteFault.TheVariants as fault
use Rattle.line_writing.specs.WriteCause.{HasWriteCause}
use Rattle.pc_path.specs.Faults.{listing_fault}
use Rattle.pc_path.specs.Formats.{takes_memory_first}
use Rattle.pc_path.specs.PathTask.{listing_task}
use Rattle.pc_path.specs.Output.{IsReportOf}
use Rattle.pc_path.specs.Work.{IsListingWork}

-- a line that answers as a write does, whose failure is its own
abbrev IsLine : {T : Type 0} → Result T Failed → Result T WriteFault → Type 0
IsLine r line = MatchResult r (λ x. line ≡ Ok x) (λ _. IsErrAnd line (λ other. other ≡ fault.Failed))

-- a failed write is a line that is not written
pub line_writes : {T : Type 0} {old new : Option (List ℕ)} {bytes : List ℕ} (r : Result T Failed) (line : Result T WriteFault) → IsLine r line → WritesAll old new r bytes → WritesAll old new line bytes
line_writes (Ok x) (Ok y) same written = record { done = written.done; failed = written.failed }
line_writes (Ok x) (Err e) same written = absurd cc
line_writes (Err e) (Ok y) same written = absurd same
line_writes (Err e) (Err f) same written = record { done = written.done; failed = written.failed }

pub line_cause : {T : Type 0} {alone : Bool} {before now : ℕ} (r : Result T Failed) (line : Result T WriteFault) → IsLine r line → HasCause alone before now r → HasWriteCause alone before now line
line_cause (Ok x) (Ok y) same cause = record { later = cause.later; kept = λ alone _. cause.kept alone; failed = λ is. absurd cc }
line_cause (Ok x) (Err e) same cause = absurd cc
line_cause (Err e) (Ok y) same cause = absurd same
line_cause (Err e) (Err f) same cause = record { later = cause.later; kept = λ alone other. absurd (other (ap (λ g. Err g) same)); failed = λ _. cause.failed }

-- it wants no memory
pub line_memory : {T : Type 0} {P : Type 0} (r : Result T Failed) (line : Result T WriteFault) → IsLine r line → line ≡ Err fault.NoMemory → P
line_memory (Ok x) line same none = absurd cc
line_memory (Err e) (Ok y) same none = absurd same
line_memory (Err e) (Err f) same none = absurd cc

-- how the cause of a line goes on over lines before it
pub cause_after : {T : Type 0} {alone : Bool} {before mid now : ℕ} {line : Result T WriteFault} → NoneFailed alone before mid → HasWriteCause alone mid now line → HasWriteCause alone before now line
cause_after so_far cause = search rules

-- one more line was written
pub none_more_lines : {T : Type 0} {alone : Bool} {before mid now : ℕ} {x : T} → NoneFailed alone before mid → HasWriteCause {T = T} alone mid now (Ok x) → NoneFailed alone before now
none_more_lines so_far cause = search rules

module _ (request : PathRequest) (F : Field) (sink : SinkChange) (floods : ℕ) (none : listing_fault request F ≡ None) where
  -- the report was written, or a part of it
  pub report_answers : {T : Type 0} (Kept : Type 0) (output : List ℕ) → IsReportOf request F floods output → (line : Result T WriteFault) (status : Status) → status ≡ line_status line
      → WritesAll sink.held sink.holds line output → HasWriteCause sink.alone sink.before sink.now line → (line ≡ Err fault.NoMemory → request.format ≡ Fumen) → IsAnswered (listing_task request F) [] sink Kept floods status
  report_answers Kept output is line status same written cause memory =
      last_line_answers (listing_task request F) [] output sink Kept floods line status same none is written cause (λ late. ap takes_memory_first (memory late))

  worked : {T : Type 0} (line : Result T WriteFault) → ((all : T) → line ≡ Ok all → IsListingWork request F sink Done floods) → (line ≡ Err fault.Failed → IsListingWork request F sink SinkFault floods)
      → (line ≡ Err fault.NoMemory → IsListingWork request F sink NoMemory floods) → Works (listing_task request F) (listing_fault request F) [] sink floods (line_status line)
  worked (Ok x) done failed late = done x refl
  worked (Err fault.Failed) done failed late = failed refl
  worked (Err fault.NoMemory) done failed late = inr (none, late refl)

  pub report_works : {T : Type 0} (line : Result T WriteFault) (status : Status) → status ≡ line_status line → ((all : T) → line ≡ Ok all → IsListingWork request F sink Done floods)
      → (line ≡ Err fault.Failed → IsListingWork request F sink SinkFault floods) → (line ≡ Err fault.NoMemory → IsListingWork request F sink NoMemory floods)
      → Works (listing_task request F) (listing_fault request F) [] sink floods status
  report_works line status same done failed late = subst (Works (listing_task request F) (listing_fault request F) [] sink floods) (sym same) (worked line done failed late)
