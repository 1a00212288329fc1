use Rattle.std.proofs.Common.{◌≡◌, [], ◌∷◌, ◌++◌, sym, ap, ◌∙◌, arith}
use Rattle.srs.specs.Piece.{piece_code}
use Rattle.queue_pattern.specs.Queues.{pieces_in}
use Rattle.tails.specs.States.{state_at}
use Rattle.tails.proofs.LetterSteps.{taken-done, taken-fits, taken-more, taken-passed, taken-room, taken-starts}
use Rattle.tails.proofs.StateTakings.{end_run, few-each, next-size, no-state, no-tails, state-read, takings-drawn, takings-held, takings-none, takings-other}
use Rattle.tails.proofs.TakenLetters.{taken_from}
use Rattle.tails.proofs.tree.TailTree.takings.Goals as goal
use Rattle.tails.proofs.tree.TailTree.takings.Goals.{After-index, then-is_in, else-is_in}

-- the state with the number
read : (c : After-index) → state_at c.args.self.now.states.items c.args.state_number ≡ c.index.result.now
read c =
    state-read c.args.self.now.states.items c.args.state_number c.from-index.result c.index.result.now c.from-index.ensures (omega arith) c.index.ensures

pub loop-letter-init : goal.loop-letter-init
loop-letter-init c = taken-starts c.index.result.now c.args.held c.code-code.result c.new-takings.result.items c.new-takings.ensures

pub loop-letter-preserved : goal.loop-letter-preserved
loop-letter-preserved c = elim c.if-is_in.branch [
  | then-is_in w ↦
      rw (w.first-is, w.takings-is)
      (taken-more c.index.result.now c.args.held c.code-code.result c.loop-letter.letter-index c.loop-letter.first c.loop-letter.takings.items w.push_letter.new.takings.items
      c.loop-letter-test.true (sym c.is_in.ensures ∙ w.if-is_in.true) w.push_letter.ensures c.loop-letter.invariant)
  | else-is_in w ↦
      rw (w.first-is, w.takings-is)
      (taken-passed c.index.result.now c.args.held c.code-code.result c.loop-letter.letter-index c.loop-letter.first c.loop-letter.takings.items
      c.loop-letter-test.true (sym c.is_in.ensures ∙ w.if-is_in.false) c.loop-letter.invariant)
]

pub push_letter-requires-clause-next : goal.push_letter-requires-clause-next
push_letter-requires-clause-next c =
    next-size c.args.self.now c.args.state_number c.index.result.now (read (goal.at.push_letter-requires-clause-next c).After-index) (omega arith)

pub push_letter-requires-clause-room : goal.push_letter-requires-clause-room
push_letter-requires-clause-room c =
    taken-room c.index.result.now c.args.held c.code-code.result c.loop-letter.letter-index c.loop-letter.first c.loop-letter.takings.items c.loop-letter-test.true c.loop-letter.invariant

pub overflow_add-first : goal.overflow_add-first
overflow_add-first c =
    let fits = taken-fits c.index.result.now c.args.held c.code-code.result c.loop-letter.letter-index c.loop-letter.first c.loop-letter.takings.items c.loop-letter-test.true
    (sym c.is_in.ensures ∙ c.if-is_in.true) c.loop-letter.invariant in
    let few = few-each c.args.self.now c.args.state_number c.index.result.now (read (goal.at.overflow_add-first c).After-index) (omega arith) (omega arith) (omega arith) in
    omega arith

pub returns-then-len-index : goal.returns-then-len-index
returns-then-len-index c =
    takings-none c.args.self.now c.args.state_number c.args.held (piece_code c.args.piece) c.new-takings.result.items c.new-takings.ensures
    (no-state c.args.self.now c.args.state_number (omega arith))

pub returns-then-state-eq0 : goal.returns-then-state-eq0
returns-then-state-eq0 c =
    takings-none c.args.self.now c.args.state_number c.args.held (piece_code c.args.piece) c.new-takings.result.items c.new-takings.ensures
    (no-tails c.args.self.now c.args.state_number c.index.result.now (read (goal.at.returns-then-state-eq0 c).After-index) c.if-state-eq0.true)

pub returns-then-held-code : goal.returns-then-held-code
returns-then-held-code c =
    takings-held c.args.self.now c.args.state_number c.args.held c.tail_number.result c.args.piece c.index.result.now c.push.new.self.items
    (read (goal.at.returns-then-held-code c).After-index) c.ranges.state_number.fits c.if-state-eq0-2.true (c.if-held-code.true ∙ c.code-code.ensures) c.tail_number.ensures
    (c.push.ensures.items ∙ ap (λ l. l ++ end_run c.tail_number.result ∷ []) c.new-takings.ensures)

pub returns-else-held-code : goal.returns-else-held-code
returns-else-held-code c =
    takings-other c.args.self.now c.args.state_number c.args.held c.args.piece c.index.result.now c.new-takings.result.items
    (read (goal.at.returns-else-held-code c).After-index) c.if-state-eq0-2.true (λ same. c.if-held-code.false (same ∙ sym c.code-code.ensures)) c.new-takings.ensures

pub returns : goal.returns
returns c =
    takings-drawn c.args.self.now c.args.state_number c.args.held (piece_code c.args.piece) c.index.result.now c.loop-letter.takings.items
    (read (goal.at.returns c).After-index) (omega arith) c.requires (omega arith) (omega arith)
    (taken-done c.index.result.now c.args.held c.code-code.result c.loop-letter.letter-index c.loop-letter.first c.loop-letter.takings.items c.loop-letter-test.false c.loop-letter.invariant
    ∙ ap (λ code. taken_from c.index.result.now 0 c.args.held code (pieces_in c.index.result.now.set)) c.code-code.ensures)
