-- What a run answers, by what its command answers for the bytes that were read.
use Rattle.std.proofs.Common.{◌≡◌, ◌+◌, ◌-◌, ◌≤◌, ℕ, List, [], Bool, true, false, length, append-nil, Option, Some, None, Result, Ok, Err, refl, sym, subst, inl, inr, arith, rules}
use Rattle.std.specs.Option.{ForSome}
use Rattle.std.proofs.lemmas.Option.{same_Some}
use Rattle.pc_outside.specs.Reads.{TakesAtMost, TakesFirst}
use Rattle.pc_outside.specs.Writes.{Grows, GrowsByFront}
use Rattle.pc_outside.specs.WriteLaws.{begins, is_front}
use Rattle.pc_faults.specs.declared.fault.Fault.{Fault}
use Rattle.pc_faults.specs.declared.fault.Fault.TheVariants.{SourceTooLong, Words}
use Rattle.pc_faults.specs.declared.status.Status.{Status}
use Rattle.pc_faults.specs.declared.status.Status.TheVariants.{Done, Input, SourceFault, SinkFault, NoMemory}
use Rattle.pc_faults.specs.declared.words_fault.WordsFault.{WordsFault}
use Rattle.pc_faults.specs.Inner.{IsInner, is_outer}
use Rattle.pc_source.specs.Statuses.{IsAnswered, WroteFront}
use Rattle.pc_source.specs.Ends.{CommandEnds}
use Rattle.pc_source.specs.Had.{IsUnread}
use Rattle.pc_source.specs.Sink.{SinkChange}
use Rattle.pc_source.specs.Source.{LeavesSource}
use Rattle.pc_source.specs.Task.{ForBytes, ForSomeBytes, HasBytes, Needs, Sees, Task, first_fault, is_source, most_bytes, nothing, reads_source, source_bytes}
use Rattle.pc_source.specs.Work.{Works}
use Rattle.pc_source.proofs.CallerLemmas.{idle_works, none_added, not_too_long, stays, too_long}
use Rattle.pc_words.specs.Request.{Request}
use Rattle.pc_app.specs.Ran.{LeavesSink, Ran}
use Rattle.pc_words.specs.Words.{asked_in}
use Rattle.pc_app.specs.Tasks.{refused_task, task_for, task_in}
use Rattle.pc_app.proofs.Commands.{inner_for}

-- the task of one request is that of the same one
module _ (one other : Request) (same : other ≡ one) (bytes : List ℕ) (sink : SinkChange) (Kept : Type 0) (before now : ℕ) (status : Status) where
  pub ends_for : CommandEnds (task_for one) bytes sink Kept before now status → CommandEnds (task_for other) bytes sink Kept before now status
  ends_for = subst (λ request. CommandEnds (task_for request) bytes sink Kept before now status) (sym same)

  -- a command that makes no floods, and leaves the counter where it was
  pub idle_ends_for : now ≡ before → ((status : Status) → (task_for one).IsWork bytes sink status 0) → IsAnswered (task_for one) bytes sink Kept 0 status → CommandEnds (task_for other) bytes sink Kept before now status
  idle_ends_for kept idle a = ends_for (record {
    answers = subst (λ n. IsAnswered (task_for one) bytes sink Kept n status) (sym (none_added before now kept)) a;
    works = idle_works (task_for one) ((task_for one).fault bytes) bytes sink (now - before) idle (none_added before now kept) status;
    counted = omega (arith, kept);
  })

-- the bytes that were read are those that the task sees
seen_is : (reads : Bool) (left : Option (List ℕ)) (seen bytes : List ℕ) → HasBytes reads left seen → Sees reads left bytes → seen ≡ bytes
seen_is reads left seen bytes has told = search rules

ran_of : (task : Task) (bytes : List ℕ) (sink : SinkChange) (Kept : Type 0) (floods : ℕ) → first_fault task bytes ≡ task.fault bytes → (status : Status)
    → IsAnswered task bytes sink Kept floods status → Ran task bytes sink Kept floods status
ran_of task bytes sink Kept floods same status a = search rules

reading_needs : (needs : Needs) → is_source needs ≡ true → needs ≡ source_bytes
reading_needs needs reads = search rules

no_needs : (needs : Needs) → is_source needs ≡ true → needs ≡ nothing → ⊥
no_needs needs reads none = search rules

-- the words ask for this, and its bytes were read
module _ (asked : Result Request Fault) (request : Request) (same : Ok request ≡ asked) (left : Option (List ℕ)) (sink : SinkChange) (floods : ℕ) (status : Status) (seen : List ℕ)
    (has : HasBytes (reads_source (task_for request)) left seen) (within : length seen ≤ most_bytes) where
  pub ran_read : (Kept : Type 0) → IsAnswered (task_for request) seen sink Kept floods status → ForBytes (task_in asked) left (λ bytes. Ran (task_in asked) bytes sink Kept floods status)
  ran_read Kept a =
      subst (λ asked. ForBytes (task_in asked) left (λ bytes. Ran (task_in asked) bytes sink Kept floods status)) same
      (λ bytes told. subst (λ bytes. Ran (task_for request) bytes sink Kept floods status) (seen_is (reads_source (task_for request)) left seen bytes has told)
      (ran_of (task_for request) seen sink Kept floods (not_too_long (task_for request) seen within) status a))

  pub works_read : Works (task_for request) ((task_for request).fault seen) seen sink floods status
      → ForSomeBytes (task_in asked) left (λ bytes. Works (task_in asked) (first_fault (task_in asked) bytes) bytes sink floods status)
  works_read w =
      subst (λ asked. ForSomeBytes (task_in asked) left (λ bytes. Works (task_in asked) (first_fault (task_in asked) bytes) bytes sink floods status)) same (record {
        bytes = seen;
        seen = has;
        holds = subst (λ f. Works (task_for request) f seen sink floods status) (sym (not_too_long (task_for request) seen within)) w;
      })

-- the words, or the table that they give, have a fault
refused_fault : (fault : Fault) (bytes : List ℕ) → first_fault (refused_task fault) bytes ≡ Some fault
unfolding first_fault
refused_fault fault bytes = refl

pub refused_words : (asked : Result Request Fault) (fault : Fault) → Err fault ≡ asked → (bytes : List ℕ) → first_fault (task_in asked) bytes ≡ Some fault
refused_words asked fault same bytes = subst (λ asked. first_fault (task_in asked) bytes ≡ Some fault) same (refused_fault fault bytes)

pub refused_work : (asked : Result Request Fault) (fault : Fault) → Err fault ≡ asked → (left : Option (List ℕ)) (sink : SinkChange) (floods : ℕ) (found : Fault) → floods ≡ 0
    → ForSomeBytes (task_in asked) left (λ bytes. Works (task_in asked) (first_fault (task_in asked) bytes) bytes sink floods (Input found))
refused_work asked fault same left sink floods found none = search rules

pub words_found : (read : Result Request WordsFault) (found : Fault) (fault : WordsFault) → Err found ≡ asked_in read → found ≡ Words fault → read ≡ Err fault
words_found read found fault is same = search rules

-- or they could not be read
unread_ran : (task : Task) (bytes : List ℕ) (sink : SinkChange) (Kept : Type 0) (floods : ℕ) (status : Status) → Kept → reads_source task ≡ true → IsUnread status
    → (status ≡ Input SourceTooLong → most_bytes + 1 ≤ length bytes) → Ran task bytes sink Kept floods status
unread_ran task bytes sink Kept floods status kept reads unread long = search (rules, too_long, reading_needs, no_needs)

some_bytes : (left : Option (List ℕ)) → (bytes : List ℕ) × HasBytes true left bytes
some_bytes (Some all) = (all, λ told is. same_Some all told is)
some_bytes None = ([], λ all is. cc)

unread_works : (task : Task) (fault : Option Fault) (bytes : List ℕ) (sink : SinkChange) (floods : ℕ) (status : Status) → IsUnread status → floods ≡ 0 → Works task fault bytes sink floods status
unread_works task fault bytes sink floods status unread none = search rules

module _ (asked : Result Request Fault) (request : Request) (same : Ok request ≡ asked) (left : Option (List ℕ)) (sink : SinkChange) (floods : ℕ) (status : Status)
    (reads : reads_source (task_for request) ≡ true) (unread : IsUnread status) where
  pub ran_unread : (new : Option (List ℕ)) (Kept : Type 0) → Kept → (status ≡ Input SourceTooLong → TakesFirst left new (most_bytes + 1))
      → ForBytes (task_in asked) left (λ bytes. Ran (task_in asked) bytes sink Kept floods status)
  ran_unread new Kept kept long =
      subst (λ asked. ForBytes (task_in asked) left (λ bytes. Ran (task_in asked) bytes sink Kept floods status)) same
      (λ bytes told. unread_ran (task_for request) bytes sink Kept floods status kept reads unread (λ is. (long is).enough bytes (subst (λ reads. Sees reads left bytes) reads told)))

  pub works_unread : floods ≡ 0 → ForSomeBytes (task_in asked) left (λ bytes. Works (task_in asked) (first_fault (task_in asked) bytes) bytes sink floods status)
  works_unread none =
      let some = some_bytes left in
      subst (λ asked. ForSomeBytes (task_in asked) left (λ bytes. Works (task_in asked) (first_fault (task_in asked) bytes) bytes sink floods status)) same (record {
        bytes = some.0;
        seen = subst (λ reads. HasBytes reads left some.0) (sym reads) some.1;
        holds = unread_works (task_for request) (first_fault (task_for request) some.0) some.0 sink floods status unread none;
      })

-- where the input has a fault, no flood is made
pub input_idle : (task : Task) (fault : Option Fault) (bytes : List ℕ) (sink : SinkChange) (before now : ℕ) (status : Status) (f : Fault) → before ≤ now → status ≡ Input f
    → Works task fault bytes sink (now - before) status → now ≡ before
input_idle task fault bytes sink before now status f rose is w = stays before now rose (subst (Works task fault bytes sink (now - before)) is w)

pub fault_idle : (task : Task) (left : Option (List ℕ)) (sink : SinkChange) (Kept : Type 0) (before now : ℕ) (status : Status) → before ≤ now
    → ForBytes task left (λ bytes. Ran task bytes sink Kept (now - before) status)
    → ForSomeBytes task left (λ bytes. Works task (first_fault task bytes) bytes sink (now - before) status)
    → ForBytes task left (λ bytes. (f : Fault) → first_fault task bytes ≡ Some f → now ≡ before)
fault_idle task left sink Kept before now status rose ran some = search rules

-- no command ends by a fault of the words, or by the length of the source, or by a failed read
inner_found : (found : Option Fault) (f : Fault) → IsInner found → found ≡ Some f → is_outer f ≡ false
inner_found found f inner is = subst IsInner is inner

pub never_outer : (request : Request) (bytes : List ℕ) (sink : SinkChange) (Kept : Type 0) (floods : ℕ) (status : Status) (f : Fault) → is_outer f ≡ true
    → IsAnswered (task_for request) bytes sink Kept floods status → status ≡ Input f → ⊥
never_outer request bytes sink Kept floods status f outer a is = search (rules, inner_found, inner_for)

pub never_unread : (request : Request) (bytes : List ℕ) (sink : SinkChange) (Kept : Type 0) (floods : ℕ) (status : Status) → IsAnswered (task_for request) bytes sink Kept floods status → status ≡ SourceFault → ⊥
never_unread request bytes sink Kept floods status a is = subst (IsAnswered (task_for request) bytes sink Kept floods) is a

-- what is left of the source
leaves : (reads : Bool) (old new : Option (List ℕ)) (Kept : Type 0) (status : Status) → (reads ≡ true → ForSome old (λ _. new ≡ Some [])) → (reads ≡ true → TakesAtMost old new (most_bytes + 1))
    → (reads ≡ false → Kept) → (status ≡ Input SourceTooLong → ⊥) → (status ≡ SourceFault → ⊥) → LeavesSource reads old new Kept status
leaves reads old new Kept status ended most kept short had = search rules

pub leaves_read : (asked : Result Request Fault) (request : Request) → Ok request ≡ asked → (reads : Bool) → reads ≡ reads_source (task_for request) → (old new : Option (List ℕ)) (Kept : Type 0) (status : Status)
    → (reads ≡ true → ForSome old (λ _. new ≡ Some [])) → (reads ≡ true → TakesAtMost old new (most_bytes + 1)) → (reads ≡ false → Kept) → (status ≡ Input SourceTooLong → ⊥) → (status ≡ SourceFault → ⊥)
    → LeavesSource (reads_source (task_in asked)) old new Kept status
leaves_read asked request same reads is old new Kept status ended most kept short had = search rules

pub leaves_unread : (asked : Result Request Fault) (request : Request) → Ok request ≡ asked → reads_source (task_for request) ≡ true → (old new : Option (List ℕ)) (Kept : Type 0) (status : Status)
    → IsUnread status → (status ≡ Input SourceTooLong → TakesFirst old new (most_bytes + 1)) → TakesAtMost old new (most_bytes + 1) → LeavesSource (reads_source (task_in asked)) old new Kept status
leaves_unread asked request same reads old new Kept status unread long most = search rules

pub leaves_sink : (asked : Result Request Fault) (request : Request) → Ok request ≡ asked → (bytes : List ℕ) (sink : SinkChange) (Kept : Type 0) (floods : ℕ) (status : Status)
    → (Kept → sink.now ≡ sink.before) → IsAnswered (task_for request) bytes sink Kept floods status → LeavesSink (task_in asked) sink Kept status
leaves_sink asked request same bytes sink Kept floods status kept a = search rules

-- a source that could not be read leaves the sink as it was
pub leaves_idle : (task : Task) (sink : SinkChange) (Kept : Type 0) (status : Status) → IsUnread status → Kept → sink.now ≡ sink.before → LeavesSink task sink Kept status
leaves_idle task sink Kept Done unread kept same = absurd unread
leaves_idle task sink Kept (Input f) unread kept same = kept
leaves_idle task sink Kept SourceFault unread kept same = kept
leaves_idle task sink Kept SinkFault unread kept same = absurd unread
leaves_idle task sink Kept NoMemory unread kept same = (λ first. kept, λ alone. same)

-- the whole is a front of itself, and nothing is a front of anything
whole_is_front : {old new : Option (List ℕ)} {bytes : List ℕ} → Grows old new bytes → GrowsByFront old new bytes
whole_is_front {bytes = bytes} grown = record { rest = []; up_to = record { front = bytes; divided = sym (append-nil bytes); grown = grown } }

nothing_is_front : (old new : Option (List ℕ)) (bytes : List ℕ) → new ≡ old → GrowsByFront old new bytes
nothing_is_front old new bytes same = subst (λ o. GrowsByFront old o bytes) (sym same) (is_front (begins old bytes))

-- on every status a front of each output was appended
module _ (task : Task) (bytes : List ℕ) (sink : SinkChange) (Kept : Type 0) (floods : ℕ) (one : (a b : List ℕ) → task.IsOutput bytes floods a → task.IsOutput bytes floods b → a ≡ b)
    (same : Kept → sink.holds ≡ sink.held) where
  front_is : WroteFront (task.IsOutput bytes floods) sink → (output : List ℕ) → task.IsOutput bytes floods output → GrowsByFront sink.held sink.holds output
  front_is wrote output is = subst (GrowsByFront sink.held sink.holds) (one wrote.output output wrote.is_output is) wrote.grown

  pub front_of_each : (status : Status) → Ran task bytes sink Kept floods status → (output : List ℕ) → task.IsOutput bytes floods output → GrowsByFront sink.held sink.holds output
  front_of_each Done ran output is = subst (GrowsByFront sink.held sink.holds) (one ran.wrote.output output ran.wrote.is_output is) (whole_is_front ran.wrote.grown)
  front_of_each (Input f) ran output is = nothing_is_front sink.held sink.holds output (same ran.1)
  front_of_each SourceFault ran output is = nothing_is_front sink.held sink.holds output (same ran.1)
  front_of_each SinkFault ran output is = front_is ran.front output is
  front_of_each NoMemory ran output is = elim ran.ended [
    | inl kept ↦ nothing_is_front sink.held sink.holds output (same kept)
    | inr ended ↦ front_is ended.front output is
  ]
