-- The tail follows the first state, or the one behind the queue's first piece.
use Rattle.std.proofs.Common.{◌%◌, ◌∙◌, ap, slice_index, sym, arith}
use Rattle.tails.specs.declared.states.State.{State}
use Rattle.tails.specs.Numbers.{tail_number}
use Rattle.tails.proofs.StartLemmas.{first-state, first-within, letter-there, start-avoided, start-end, start-held, start-read}
use Rattle.tails.proofs.tree.TailTree.start.Goals as goal
use Rattle.tails.proofs.tree.TailTree.start.Goals.{in_default-hold-via-in-Allowed+else-state-gt0, in_default-hold-via-in_default-hold}

pub returns-in-Some-clause-value : goal.returns-in-Some-clause-value
returns-in-Some-clause-value c =
    (start-held c.args.self.now c.args.held c.in-Some.piece c.args.number c.tail_number.result (sym c.playable.ensures ∙ c.in-Some.is) c.requires.within c.requires.room
    (c.tail_number.ensures ∙ ap (λ n. tail_number c.args.self.now.first n c.args.number) c.code.ensures)).value

pub returns-in-Some-clause-tail : goal.returns-in-Some-clause-tail
returns-in-Some-clause-tail c =
    (start-held c.args.self.now c.args.held c.in-Some.piece c.args.number c.tail_number.result (sym c.playable.ensures ∙ c.in-Some.is) c.requires.within c.requires.room
    (c.tail_number.ensures ∙ ap (λ n. tail_number c.args.self.now.first n c.args.number) c.code.ensures)).tail

pub returns-in-Some-clause-hand : goal.returns-in-Some-clause-hand
returns-in-Some-clause-hand c =
    (start-held c.args.self.now c.args.held c.in-Some.piece c.args.number c.tail_number.result (sym c.playable.ensures ∙ c.in-Some.is) c.requires.within c.requires.room
    (c.tail_number.ensures ∙ ap (λ n. tail_number c.args.self.now.first n c.args.number) c.code.ensures)).hand

pub index-requires : goal.index-requires
index-requires c = let within = first-within c.args.self.now c.args.number c.requires.within in omega (arith, within, c.from.ensures)

pub nonzero_div-number : goal.nonzero_div-number
nonzero_div-number c =
    let state_is = first-state c.args.self.now c.args.number c.from.result c.index.result.now c.requires.within c.from.ensures c.index.ensures in
    (letter-there c.args.self.now c.args.number c.index.result.now c.requires.within state_is c.if-state-gt0.true).0

pub nth-letter-requires : goal.nth-letter-requires
nth-letter-requires c =
    let state_is = first-state c.args.self.now c.args.number c.from.result c.index.result.now c.requires.within c.from.ensures c.index.ensures in
    (letter-there c.args.self.now c.args.number c.index.result.now c.requires.within state_is c.if-state-gt0.true).1

pub nonzero_rem-number : goal.nonzero_rem-number
nonzero_rem-number c =
    let state_is = first-state c.args.self.now c.args.number c.from.result c.index.result.now c.requires.within c.from.ensures c.index.ensures in
    (letter-there c.args.self.now c.args.number c.index.result.now c.requires.within state_is c.if-state-gt0.true).0

pub returns-in-Allowed-clause-value : goal.returns-in-Allowed-clause-value
returns-in-Allowed-clause-value c =
    let state_is = first-state c.args.self.now c.args.number c.from.result c.index.result.now c.requires.within c.from.ensures c.index.ensures in
    (start-read c.args.self.now c.args.held c.nth-letter.result c.args.number c.tail_number-in-Allowed.result c.index.result.now c.in-Allowed.is (sym c.playable.ensures ∙ c.in_default.is)
    c.requires.within state_is c.if-state-gt0.true c.nth-letter.ensures
    (c.tail_number-in-Allowed.ensures ∙ (λ i. tail_number (slice_index c.index.result.now.next ((c.from-in-Allowed.ensures ∙ c.code-in-Allowed.ensures) i)) (c.code-in-Allowed-2.ensures i) (c.args.number % c.index.result.now.each)))).value

pub returns-in-Allowed-clause-tail : goal.returns-in-Allowed-clause-tail
returns-in-Allowed-clause-tail c =
    let state_is = first-state c.args.self.now c.args.number c.from.result c.index.result.now c.requires.within c.from.ensures c.index.ensures in
    (start-read c.args.self.now c.args.held c.nth-letter.result c.args.number c.tail_number-in-Allowed.result c.index.result.now c.in-Allowed.is (sym c.playable.ensures ∙ c.in_default.is)
    c.requires.within state_is c.if-state-gt0.true c.nth-letter.ensures
    (c.tail_number-in-Allowed.ensures ∙ (λ i. tail_number (slice_index c.index.result.now.next ((c.from-in-Allowed.ensures ∙ c.code-in-Allowed.ensures) i)) (c.code-in-Allowed-2.ensures i) (c.args.number % c.index.result.now.each)))).tail

pub returns-in-Allowed-clause-hand : goal.returns-in-Allowed-clause-hand
returns-in-Allowed-clause-hand c =
    let state_is = first-state c.args.self.now c.args.number c.from.result c.index.result.now c.requires.within c.from.ensures c.index.ensures in
    (start-read c.args.self.now c.args.held c.nth-letter.result c.args.number c.tail_number-in-Allowed.result c.index.result.now c.in-Allowed.is (sym c.playable.ensures ∙ c.in_default.is)
    c.requires.within state_is c.if-state-gt0.true c.nth-letter.ensures
    (c.tail_number-in-Allowed.ensures ∙ (λ i. tail_number (slice_index c.index.result.now.next ((c.from-in-Allowed.ensures ∙ c.code-in-Allowed.ensures) i)) (c.code-in-Allowed-2.ensures i) (c.args.number % c.index.result.now.each)))).hand

pub returns-in_default-hold-clause-value : goal.returns-in_default-hold-clause-value
returns-in_default-hold-clause-value c =
    let state_is = first-state c.args.self.now c.args.number c.from.result c.index.result.now c.requires.within c.from.ensures c.index.ensures in
    elim c.in_default-hold.branch [
      | in_default-hold-via-in-Allowed+else-state-gt0 w ↦
          (start-end c.args.self.now c.args.held c.args.number c.tail_number-in_default-hold.result w.in-Allowed.is (sym c.playable.ensures ∙ c.in_default.is) c.requires.within
          (ap (λ (s : State). s.draws) (sym state_is) ∙ omega (arith, w.if-state-gt0.false)) c.tail_number-in_default-hold.ensures).value
      | in_default-hold-via-in_default-hold w ↦
          (start-avoided c.args.self.now c.args.held c.args.number c.tail_number-in_default-hold.result w.in_default-hold.is c.requires.within c.tail_number-in_default-hold.ensures).value
    ]

pub returns-in_default-hold-clause-tail : goal.returns-in_default-hold-clause-tail
returns-in_default-hold-clause-tail c =
    let state_is = first-state c.args.self.now c.args.number c.from.result c.index.result.now c.requires.within c.from.ensures c.index.ensures in
    elim c.in_default-hold.branch [
      | in_default-hold-via-in-Allowed+else-state-gt0 w ↦
          (start-end c.args.self.now c.args.held c.args.number c.tail_number-in_default-hold.result w.in-Allowed.is (sym c.playable.ensures ∙ c.in_default.is) c.requires.within
          (ap (λ (s : State). s.draws) (sym state_is) ∙ omega (arith, w.if-state-gt0.false)) c.tail_number-in_default-hold.ensures).tail
      | in_default-hold-via-in_default-hold w ↦
          (start-avoided c.args.self.now c.args.held c.args.number c.tail_number-in_default-hold.result w.in_default-hold.is c.requires.within c.tail_number-in_default-hold.ensures).tail
    ]

pub returns-in_default-hold-clause-hand : goal.returns-in_default-hold-clause-hand
returns-in_default-hold-clause-hand c =
    let state_is = first-state c.args.self.now c.args.number c.from.result c.index.result.now c.requires.within c.from.ensures c.index.ensures in
    elim c.in_default-hold.branch [
      | in_default-hold-via-in-Allowed+else-state-gt0 w ↦
          (start-end c.args.self.now c.args.held c.args.number c.tail_number-in_default-hold.result w.in-Allowed.is (sym c.playable.ensures ∙ c.in_default.is) c.requires.within
          (ap (λ (s : State). s.draws) (sym state_is) ∙ omega (arith, w.if-state-gt0.false)) c.tail_number-in_default-hold.ensures).hand
      | in_default-hold-via-in_default-hold w ↦
          (start-avoided c.args.self.now c.args.held c.args.number c.tail_number-in_default-hold.result w.in_default-hold.is c.requires.within c.tail_number-in_default-hold.ensures).hand
    ]
