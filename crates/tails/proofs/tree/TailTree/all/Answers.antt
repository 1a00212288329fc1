-- The tails are a run, or those behind each letter.
use Rattle.std.proofs.Common.{◌≡◌, ◌∙◌, ap, length, sym, arith}
use Rattle.std.proofs.lemmas.Result.{IfOk-weaker}
use Rattle.srs.specs.Piece.{piece_code}
use Rattle.srs.proofs.CallerLemmas.{piece_code-small}
use Rattle.queue_pattern.specs.Pattern.{elements_of}
use Rattle.queue_pattern.specs.Queues.{queues}
use Rattle.queue_pattern.proofs.CallerLemmas.{pattern-some}
use Rattle.tails.specs.declared.states.State.{State}
use Rattle.tails.specs.Numbers.{tail_number}
use Rattle.tails.specs.TailSets.{has}
use Rattle.tails.proofs.AllSteps.{first-small, run-begins, run-fits, run-is, run-starts}
use Rattle.tails.proofs.StartLemmas.{first-state, first-within, start-avoided, start-end, start-held}
use Rattle.tails.proofs.tree.TailTree.all.Goals as goal
use Rattle.tails.proofs.tree.TailTree.all.Goals.{in_default-hold-via-in-Allowed+else-state-gt0, in_default-hold-via-in_default-hold}

pub run-requires-clause-begins : goal.run-requires-clause-begins
run-requires-clause-begins c = run-begins c.tail_number-first.result c.args.self.now.first (piece_code c.in-Some.piece) (c.tail_number-first.ensures ∙ ap (λ n. tail_number c.args.self.now.first n 0) c.code.ensures)

pub run-requires-clause-fits : goal.run-requires-clause-fits
run-requires-clause-fits c =
    run-fits c.tail_number-first.result c.args.self.now.first (piece_code c.in-Some.piece) (c.tail_number-first.ensures ∙ ap (λ n. tail_number c.args.self.now.first n 0) c.code.ensures) (first-small c.args.self.now) (omega (arith, piece_code-small c.in-Some.piece))

pub returns-in-Some-clause-tails : goal.returns-in-Some-clause-tails
returns-in-Some-clause-tails c =
    IfOk-weaker c.run.result _ _ (λ found are.
    (run-starts c.args.self.now c.args.held (has found) c.args.self.now.first (piece_code c.in-Some.piece) c.count.result
    (run-is (has found) c.tail_number-first.result c.count.result c.args.self.now.first (piece_code c.in-Some.piece) (c.tail_number-first.ensures ∙ ap (λ n. tail_number c.args.self.now.first n 0) c.code.ensures) are) c.count.ensures.number
    (λ number result within is. start-held c.args.self.now c.args.held c.in-Some.piece number result (sym c.playable.ensures ∙ c.in-Some.is) within c.requires.room is)).tails)
    c.run.ensures

pub returns-in-Some-clause-all : goal.returns-in-Some-clause-all
returns-in-Some-clause-all c =
    IfOk-weaker c.run.result _ _ (λ found are.
    (run-starts c.args.self.now c.args.held (has found) c.args.self.now.first (piece_code c.in-Some.piece) c.count.result
    (run-is (has found) c.tail_number-first.result c.count.result c.args.self.now.first (piece_code c.in-Some.piece) (c.tail_number-first.ensures ∙ ap (λ n. tail_number c.args.self.now.first n 0) c.code.ensures) are) c.count.ensures.number
    (λ number result within is. start-held c.args.self.now c.args.held c.in-Some.piece number result (sym c.playable.ensures ∙ c.in-Some.is) within c.requires.room is)).all)
    c.run.ensures

pub returns-in-Some-clause-only : goal.returns-in-Some-clause-only
returns-in-Some-clause-only c =
    IfOk-weaker c.run.result _ _ (λ found are.
    (run-starts c.args.self.now c.args.held (has found) c.args.self.now.first (piece_code c.in-Some.piece) c.count.result
    (run-is (has found) c.tail_number-first.result c.count.result c.args.self.now.first (piece_code c.in-Some.piece) (c.tail_number-first.ensures ∙ ap (λ n. tail_number c.args.self.now.first n 0) c.code.ensures) are) c.count.ensures.number
    (λ number result within is. start-held c.args.self.now c.args.held c.in-Some.piece number result (sym c.playable.ensures ∙ c.in-Some.is) within c.requires.room is)).only)
    c.run.ensures

pub index-state-requires : goal.index-state-requires
index-state-requires c = let within = first-within c.args.self.now 0 (pattern-some c.args.self.now.pattern) in omega (arith, within, c.from.ensures)

pub all_behind_letters-requires-clause-state : goal.all_behind_letters-requires-clause-state
all_behind_letters-requires-clause-state c =
    let state_is = first-state c.args.self.now 0 c.from.result c.index-state.result.now (pattern-some c.args.self.now.pattern) c.from.ensures c.index-state.ensures in
    state_is

pub run-requires-in_default-hold-clause-begins : goal.run-requires-in_default-hold-clause-begins
run-requires-in_default-hold-clause-begins c = run-begins c.tail_number.result c.args.self.now.first 0 c.tail_number.ensures

pub run-requires-in_default-hold-clause-fits : goal.run-requires-in_default-hold-clause-fits
run-requires-in_default-hold-clause-fits c = run-fits c.tail_number.result c.args.self.now.first 0 c.tail_number.ensures (first-small c.args.self.now) (omega arith)

pub returns-in_default-hold-clause-tails : goal.returns-in_default-hold-clause-tails
returns-in_default-hold-clause-tails c =
    let state_is = first-state c.args.self.now 0 c.from.result c.index-state.result.now (pattern-some c.args.self.now.pattern) c.from.ensures c.index-state.ensures in
    let count_is : c.index-state.result.now.count ≡ length (queues (elements_of c.args.self.now.pattern)) = ap (λ (s : State). s.count) state_is ∙ c.args.self.now.first_count in
    IfOk-weaker c.run-in_default-hold.result _ _ (λ found are.
    (run-starts c.args.self.now c.args.held (has found) c.args.self.now.first 0 c.index-state.result.now.count
    (run-is (has found) c.tail_number.result c.index-state.result.now.count c.args.self.now.first 0 c.tail_number.ensures are) count_is
    (λ number result within is. elim c.in_default-hold.branch [
      | in_default-hold-via-in-Allowed+else-state-gt0 w ↦
          start-end c.args.self.now c.args.held number result w.in-Allowed.is (sym c.playable.ensures ∙ c.in_default.is) within
          (ap (λ (s : State). s.draws) (sym state_is) ∙ omega (arith, w.if-state-gt0.false)) is
      | in_default-hold-via-in_default-hold w ↦ start-avoided c.args.self.now c.args.held number result w.in_default-hold.is within is
    ])).tails)
    c.run-in_default-hold.ensures

pub returns-in_default-hold-clause-all : goal.returns-in_default-hold-clause-all
returns-in_default-hold-clause-all c =
    let state_is = first-state c.args.self.now 0 c.from.result c.index-state.result.now (pattern-some c.args.self.now.pattern) c.from.ensures c.index-state.ensures in
    let count_is : c.index-state.result.now.count ≡ length (queues (elements_of c.args.self.now.pattern)) = ap (λ (s : State). s.count) state_is ∙ c.args.self.now.first_count in
    IfOk-weaker c.run-in_default-hold.result _ _ (λ found are.
    (run-starts c.args.self.now c.args.held (has found) c.args.self.now.first 0 c.index-state.result.now.count
    (run-is (has found) c.tail_number.result c.index-state.result.now.count c.args.self.now.first 0 c.tail_number.ensures are) count_is
    (λ number result within is. elim c.in_default-hold.branch [
      | in_default-hold-via-in-Allowed+else-state-gt0 w ↦
          start-end c.args.self.now c.args.held number result w.in-Allowed.is (sym c.playable.ensures ∙ c.in_default.is) within
          (ap (λ (s : State). s.draws) (sym state_is) ∙ omega (arith, w.if-state-gt0.false)) is
      | in_default-hold-via-in_default-hold w ↦ start-avoided c.args.self.now c.args.held number result w.in_default-hold.is within is
    ])).all)
    c.run-in_default-hold.ensures

pub returns-in_default-hold-clause-only : goal.returns-in_default-hold-clause-only
returns-in_default-hold-clause-only c =
    let state_is = first-state c.args.self.now 0 c.from.result c.index-state.result.now (pattern-some c.args.self.now.pattern) c.from.ensures c.index-state.ensures in
    let count_is : c.index-state.result.now.count ≡ length (queues (elements_of c.args.self.now.pattern)) = ap (λ (s : State). s.count) state_is ∙ c.args.self.now.first_count in
    IfOk-weaker c.run-in_default-hold.result _ _ (λ found are.
    (run-starts c.args.self.now c.args.held (has found) c.args.self.now.first 0 c.index-state.result.now.count
    (run-is (has found) c.tail_number.result c.index-state.result.now.count c.args.self.now.first 0 c.tail_number.ensures are) count_is
    (λ number result within is. elim c.in_default-hold.branch [
      | in_default-hold-via-in-Allowed+else-state-gt0 w ↦
          start-end c.args.self.now c.args.held number result w.in-Allowed.is (sym c.playable.ensures ∙ c.in_default.is) within
          (ap (λ (s : State). s.draws) (sym state_is) ∙ omega (arith, w.if-state-gt0.false)) is
      | in_default-hold-via-in_default-hold w ↦ start-avoided c.args.self.now c.args.held number result w.in_default-hold.is within is
    ])).only)
    c.run-in_default-hold.ensures
