-- As much of the line as there is room for was written.
use Rattle.std.proofs.Common.{◌≡◌, ◌++◌, List, ℕ, [], length, take, Some, ap, subst, ◌∙◌, arith}
use Rattle.pc_outside.specs.declared.answers.Failed.{Failed}
use Rattle.pc_outside.specs.SliceSink.{held_bytes}
use Rattle.pc_outside.specs.SliceSinkView.{sink_view}
use Rattle.pc_outside.specs.Writes.{WritesAll}
use Rattle.pc_faults.specs.FaultLine.{fault_line}
use Rattle.pc_c.proofs.CallLemmas.{via, whole_slice}
use Rattle.pc_c.proofs.LineLemmas.{cut_line}
use Rattle.pc_c.proofs.slots.tell_fault.Goals as goal

pub returns-clause-line : goal.returns-clause-line
returns-clause-line g c =
    let old = c.replace-taken.result in
    let new = c.write_fault.new.err.sink in
    let line = fault_line c.args.fault in
    let replaced = c.replace-taken.ensures.value in
    let empty : (sink_view old).bytes ≡ [] = via replaced (λ s. (sink_view s).bytes) ∙ c.requires.empty in
    let unmissed : (sink_view old).missed ≡ [] = via replaced (λ s. (sink_view s).missed) ∙ c.requires.unmissed in
    let faults : old.faults ≡ 0 = via replaced (λ s. s.faults) ∙ c.requires.faults in
    let held : held_bytes (sink_view old) ≡ [] = ap (λ (l : List ℕ). l ++ (sink_view old).missed) empty ∙ unmissed in
    let before = ap length c.requires.rest in
    let size = c.write_fault.new.err.size in
    let whole = whole_slice new in
    let room : length new.buffer.now ≡ length (sink_view c.args.err.now).rest = omega (arith, size, whole, before) in
    let written = subst (λ (l : List ℕ). WritesAll {T = Unit {0}} {E = Failed} (Some l) (Some (held_bytes (sink_view new))) c.write_fault.result line) held
    c.write_fault.ensures.written in
    subst (λ n. (sink_view new).bytes ≡ take n line) room (cut_line new line c.write_fault.result old.faults faults written c.write_fault.ensures.cause.failed)
