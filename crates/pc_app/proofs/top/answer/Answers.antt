-- The words are read, and then the source, and then the command answers.
use Rattle.std.proofs.Common.{◌≡◌, ◌∙◌, ◌-◌, ◌≤◌, length, Err, refl, ap, sym, subst, arith}
use Rattle.pc_faults.specs.declared.fault.Fault.{Fault}
use Rattle.pc_faults.specs.declared.fault.Fault.TheVariants.{Kicks, SourceTooLong, Words}
use Rattle.pc_faults.specs.declared.status.Status.TheVariants.{Input}
use Rattle.pc_source.specs.Sink.{sink_change}
use Rattle.pc_source.specs.Task.{HasBytes, most_bytes}
use Rattle.pc_source.proofs.CallerLemmas.{none_added}
use Rattle.pc_words.specs.Views.{settings_view}
use Rattle.pc_words.specs.Words.{asked_in, request_in, texts}
use Rattle.pc_app.specs.Tasks.{task_for, task_of}
use Rattle.pc_app.proofs.Answering.{fault_idle, input_idle, leaves_idle, leaves_read, leaves_sink, leaves_unread, never_outer, never_unread, ran_read, ran_unread, refused_work, refused_words, words_found, works_read, works_unread}
use Rattle.pc_app.proofs.top.answer.Goals as goal

input_same : (one other : Fault) → Input one ≡ Input other → one ≡ other
input_same one other e = cc

pub returns-in-Err-clause-ran : goal.returns-in-Err-clause-ran
returns-in-Err-clause-ran g c =
    let asked = asked_in (request_in (texts c.args.words.now)) in
    let sink = sink_change g.O.Sink.counts_failures_alone (g.O.Sink.written c.args.out.now) (g.O.Sink.written c.args.out.now) (g.O.Sink.faults c.args.out.now) (g.O.Sink.faults c.args.out.now) in
    record {
      ran = λ bytes told. (refused_words asked c.in-Err.fault c.in-Err.ensures.value bytes, refl);
      leaves = refl;
      work = refused_work asked c.in-Err.fault c.in-Err.ensures.value _ sink (c.args.steps.now - c.args.steps.now) c.in-Err.fault (none_added c.args.steps.now c.args.steps.now refl);
      fault_idle = λ bytes told fault is. refl;
    }

pub returns-in-Err-clause-words_fault : goal.returns-in-Err-clause-words_fault
returns-in-Err-clause-words_fault g c = λ fault is. words_found (request_in (texts c.args.words.now)) c.in-Err.fault fault c.in-Err.ensures.value (input_same c.in-Err.fault (Words fault) is)

pub returns-in-Err-clause-kicks_fault : goal.returns-in-Err-clause-kicks_fault
returns-in-Err-clause-kicks_fault g c = λ fault is. sym c.in-Err.ensures.value ∙ ap (λ f. Err f) (input_same c.in-Err.fault (Kicks fault) is)

pub returns-in-Ok-source_bytes-clause-kicks_fault : goal.returns-in-Ok-source_bytes-clause-kicks_fault
returns-in-Ok-source_bytes-clause-kicks_fault g c = λ fault is.
    absurd (never_outer (settings_view c.in-Ok.settings) c.deref.result.now _ _ _ c.perform.result (Kicks fault) refl c.perform.ensures.answers is)

pub perform-requires-clause-short : goal.perform-requires-clause-short
perform-requires-clause-short g c = omega (arith, c.in-Ok-source_bytes.ensures.within, c.deref.ensures.len)

pub returns-in-Ok-source_bytes-clause-ran : goal.returns-in-Ok-source_bytes-clause-ran
returns-in-Ok-source_bytes-clause-ran g c =
    let request = settings_view c.in-Ok.settings in
    let within = c.in-Ok-source_bytes.ensures.within in
    let count = c.deref.ensures.len in
    let short : length c.deref.result.now ≤ most_bytes = omega (arith, within, count) in
    let left = g.S.Source.left c.args.source.now in
    let asked = asked_in (request_in (texts c.args.words.now)) in
    let has = subst (λ reads. HasBytes reads left c.deref.result.now) c.reads_source.ensures (subst (HasBytes c.reads_source.result left) (sym c.deref.ensures.value) c.in-Ok-source_bytes.ensures.bytes) in
    let ran = ran_read asked request c.in-Ok.ensures.value left _ _ c.perform.result c.deref.result.now has short _ c.perform.ensures.answers in
    let work = works_read asked request c.in-Ok.ensures.value left _ _ c.perform.result c.deref.result.now has short c.perform.ensures.works in
    record {
      ran = ran;
      leaves = leaves_sink asked request c.in-Ok.ensures.value c.deref.result.now _ _ _ c.perform.result (λ kept. ap g.O.Sink.faults kept) c.perform.ensures.answers;
      work = work;
      fault_idle = fault_idle (task_of (texts c.args.words.now)) left _ _ _ _ c.perform.result c.perform.ensures.counted ran work;
    }

pub returns-in-Ok-source_bytes-clause-input_idle : goal.returns-in-Ok-source_bytes-clause-input_idle
returns-in-Ok-source_bytes-clause-input_idle g c = λ fault is.
    input_idle (task_for (settings_view c.in-Ok.settings)) _ c.deref.result.now _ _ _ c.perform.result fault c.perform.ensures.counted is c.perform.ensures.works

pub returns-in-Ok-source_bytes-clause-unread_idle : goal.returns-in-Ok-source_bytes-clause-unread_idle
returns-in-Ok-source_bytes-clause-unread_idle g c = λ is.
    absurd (never_unread (settings_view c.in-Ok.settings) c.deref.result.now _ _ _ c.perform.result c.perform.ensures.answers is)

pub returns-in-Ok-source_bytes-clause-words_fault : goal.returns-in-Ok-source_bytes-clause-words_fault
returns-in-Ok-source_bytes-clause-words_fault g c = λ fault is.
    absurd (never_outer (settings_view c.in-Ok.settings) c.deref.result.now _ _ _ c.perform.result (Words fault) refl c.perform.ensures.answers is)

pub returns-in-Ok-source_bytes-clause-source : goal.returns-in-Ok-source_bytes-clause-source
returns-in-Ok-source_bytes-clause-source g c =
    let request = settings_view c.in-Ok.settings in
    let read = c.in-Ok-source_bytes.ensures in
    leaves_read (asked_in (request_in (texts c.args.words.now))) request c.in-Ok.ensures.value c.reads_source.result c.reads_source.ensures _ _ _ c.perform.result read.ended read.most read.untouched
    (never_outer request c.deref.result.now _ _ _ c.perform.result SourceTooLong refl c.perform.ensures.answers)
    (never_unread request c.deref.result.now _ _ _ c.perform.result c.perform.ensures.answers)

pub returns-in-Err-source_bytes-clause-ran : goal.returns-in-Err-source_bytes-clause-ran
returns-in-Err-source_bytes-clause-ran g c =
    let request = settings_view c.in-Ok.settings in
    let read = c.in-Err-source_bytes.ensures in
    let asked = asked_in (request_in (texts c.args.words.now)) in
    let reads = sym c.reads_source.ensures ∙ read.unread.0 in
    let sink = sink_change g.O.Sink.counts_failures_alone (g.O.Sink.written c.args.out.now) (g.O.Sink.written c.args.out.now) (g.O.Sink.faults c.args.out.now) (g.O.Sink.faults c.args.out.now) in
    record {
      ran = ran_unread asked request c.in-Ok.ensures.value _ _ _ c.in-Err-source_bytes.status reads read.unread.1 (g.S.Source.left c.source_bytes.new.source) _ refl (λ is. read.too_long (ap (λ s. Err s) is));
      leaves = leaves_idle (task_of (texts c.args.words.now)) sink _ c.in-Err-source_bytes.status read.unread.1 refl refl;
      work = works_unread asked request c.in-Ok.ensures.value _ sink (c.args.steps.now - c.args.steps.now) c.in-Err-source_bytes.status reads read.unread.1 (none_added c.args.steps.now c.args.steps.now refl);
      fault_idle = λ bytes told fault is. refl;
    }

pub returns-in-Err-source_bytes-clause-source : goal.returns-in-Err-source_bytes-clause-source
returns-in-Err-source_bytes-clause-source g c =
    let read = c.in-Err-source_bytes.ensures in
    leaves_unread (asked_in (request_in (texts c.args.words.now))) (settings_view c.in-Ok.settings) c.in-Ok.ensures.value (sym c.reads_source.ensures ∙ read.unread.0) _ _ _ c.in-Err-source_bytes.status
    read.unread.1 (λ is. read.too_long (ap (λ s. Err s) is)) (read.most read.unread.0)
