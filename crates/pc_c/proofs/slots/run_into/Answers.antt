-- What the clauses of the run say of the floods and of the line of a fault.
use Rattle.std.proofs.Common.{◌≡◌, ◌++◌, ℕ, List, [], length, ap, subst, ◌∙◌, Some, arith}
use Rattle.pc_outside.specs.Counts.{Rose}
use Rattle.pc_outside.specs.SliceSink.{held_bytes}
use Rattle.pc_outside.specs.SliceSinkView.{sink_view}
use Rattle.pc_outside.specs.Writes.{Grows, GrowsByFront}
use Rattle.pc_faults.specs.FaultLine.{fault_line}
use Rattle.pc_c.specs.Ended.{LeavesErr}
use Rattle.pc_c.proofs.CallLemmas.{from_zero, leaves_err, via, whole_slice}
use Rattle.pc_c.proofs.slots.run_into.Goals as goal

pub returns-clause-out : goal.returns-clause-out
returns-clause-out g c = from_zero _ _ _ c.new-steps.ensures c.count.ensures c.run_out-status.ensures.out

pub returns-clause-err : goal.returns-clause-err
returns-clause-err g c =
    let old = c.replace-taken.result in
    let new = c.run_out-status.new.err.sink in
    let run = c.run_out-status.ensures in
    let replaced = c.replace-taken.ensures.value in
    let empty : (sink_view old).bytes ≡ [] = via replaced (λ s. (sink_view s).bytes) ∙ c.requires.err.empty in
    let unmissed : (sink_view old).missed ≡ [] = via replaced (λ s. (sink_view s).missed) ∙ c.requires.err.unmissed in
    let faults : old.faults ≡ 0 = via replaced (λ s. s.faults) ∙ c.requires.err.faults in
    let held : held_bytes (sink_view old) ≡ [] = ap (λ (l : List ℕ). l ++ (sink_view old).missed) empty ∙ unmissed in
    let before = ap length c.requires.err.rest in
    let size = c.run_out-status.new.err.size in
    let whole = whole_slice new in
    let room : length new.buffer.now ≡ length (sink_view c.args.err.now).rest = omega (arith, size, whole, before) in
    subst (λ n. LeavesErr (sink_view new).bytes n c.run_out-status.result) room
    (leaves_err new c.run_out-status.result
    (λ fault is. subst (λ (l : List ℕ). GrowsByFront (Some l) (Some (held_bytes (sink_view new))) (fault_line fault)) held (run.fault_line fault is))
    (λ fault is none. subst (λ (l : List ℕ). Grows (Some l) (Some (held_bytes (sink_view new))) (fault_line fault)) held
    (run.whole_line fault is (λ rose. none (subst (λ n. Rose n new.faults) faults rose))))
    (λ other. via (run.no_line other) (λ s. (sink_view s.sink).bytes) ∙ empty))
