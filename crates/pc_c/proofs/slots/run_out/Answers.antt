-- What the clauses of the run say of a sink that held nothing.
use Rattle.std.proofs.Common.{◌≡◌, [], length, ap, subst, ◌∙◌, refl, arith}
use Rattle.pc_outside.specs.SliceSinkView.{sink_view}
use Rattle.pc_words.specs.Words.{texts}
use Rattle.pc_app.specs.Tasks.{task_of}
use Rattle.pc_c.proofs.CallLemmas.{Runs, held_nothing, leaves_there, via, whole_slice}
use Rattle.pc_c.proofs.slots.run_out.Goals as goal

pub returns-clause-out : goal.returns-clause-out
returns-clause-out g c =
    let task = task_of (texts c.args.words.now) in
    let old = c.replace-taken.result in
    let new = c.run-status.new.out.sink in
    let run = c.run-status.ensures in
    let replaced = c.replace-taken.ensures.value in
    let empty : (sink_view old).bytes ≡ [] = via replaced (λ s. (sink_view s).bytes) ∙ c.requires.fresh.empty in
    let unmissed : (sink_view old).missed ≡ [] = via replaced (λ s. (sink_view s).missed) ∙ c.requires.fresh.unmissed in
    let faults : old.faults ≡ 0 = via replaced (λ s. s.faults) ∙ c.requires.fresh.faults in
    let before = ap length c.requires.fresh.rest in
    let size = c.run-status.new.out.size in
    let whole = whole_slice new in
    let room : length new.buffer.now ≡ length (sink_view c.args.out.now).rest = omega (arith, size, whole, before) in
    let same = held_nothing old new empty unmissed faults in
    let runs = subst (Runs task c.new-source.result new _ c.run-status.result) same (record {
      done = run.done;
      no_fault = run.no_fault;
      front = run.front;
      faulty = run.input;
      quiet = λ bytes told fault is. via (run.quiet bytes told fault is).0 (λ s. (sink_view s.sink).bytes) ∙ empty;
      input_quiet = λ fault is. via (run.input_quiet fault is).0 (λ s. (sink_view s.sink).bytes) ∙ empty;
      source_fault = λ is. (run.source_fault is).0;
      sink_fault = run.sink_fault;
      sink_rose = run.sink_rose;
      no_memory = λ first is. via (run.no_memory first is) (λ s. (sink_view s.sink).bytes) ∙ empty;
      sink_kept = run.sink_kept refl;
      work = run.work;
    }) in
    leaves_there task c.new-source.result new _ (length (sink_view c.args.out.now).rest) c.args.input.now c.run-status.result
    room c.new-source.ensures runs
