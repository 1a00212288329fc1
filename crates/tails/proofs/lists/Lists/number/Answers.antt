-- Piece after piece is read, as far as what is listed.
use Rattle.std.proofs.Common.{◌<◌, ◌∙◌, ap, sym, subst, arith}
use Rattle.tails.specs.declared.states.State.{State}
use Rattle.tails.specs.Lists.{number_at}
use Rattle.tails.specs.States.{state_at}
use Rattle.tails.proofs.ListLemmas.{drawn-ends, listed-ends, reading-starts, start-is, state-read, turn-each, turn-index, turn-is, turn-more, turn-next}
use Rattle.tails.proofs.lists.Lists.number.Goals as goal

pub loop-init : goal.loop-init
loop-init c = λ elements listing.
    reading-starts elements c.args.states.now _ c.from-state_number.result c.args.place listing.are (omega (arith, c.from-state_number.ensures, c.requires.within))
    (subst (λ n. c.args.place < (state_at c.args.states.now n).count) (sym c.from-state_number.ensures) c.requires.there)
    (ap (λ n. number_at elements (state_at c.args.states.now n) c.args.place) (sym c.from-state_number.ensures))

pub overflow_add-start : goal.overflow_add-start
overflow_add-start c =
    let elements = c.requires.listing.0 in
    let listing = c.requires.listing.1 in
    let reading = c.loop.invariant elements listing in
    let starts = start-is elements c.args.states.now c.args.self.now c.loop.state_number c.in-Some.start c.index.result.now listing reading.within c.index.ensures c.in-Some.is in
    let within = listing.listed.each c.loop.state_number c.in-Some.start c.loop.place starts reading.there in
    omega (arith, within, c.args.self.now.numbers.small)

pub index-requires-in-Some : goal.index-requires-in-Some
index-requires-in-Some c =
    let elements = c.requires.listing.0 in
    let listing = c.requires.listing.1 in
    let reading = c.loop.invariant elements listing in
    let starts = start-is elements c.args.states.now c.args.self.now c.loop.state_number c.in-Some.start c.index.result.now listing reading.within c.index.ensures c.in-Some.is in
    let within = listing.listed.each c.loop.state_number c.in-Some.start c.loop.place starts reading.there in
    omega (arith, within)

pub overflow_mul-result : goal.overflow_mul-result
overflow_mul-result c =
    let elements = c.requires.listing.0 in
    let listing = c.requires.listing.1 in
    let reading = c.loop.invariant elements listing in
    let starts = start-is elements c.args.states.now c.args.self.now c.loop.state_number c.in-Some.start c.index.result.now listing reading.within c.index.ensures c.in-Some.is in
    let is = listed-ends elements c.args.states.now c.args.self.now _ c.loop.state_number c.loop.place c.loop.counter c.loop.unit c.loop.sum c.in-Some.start c.index-in-Some.result.now listing reading starts c.index-in-Some.ensures in
    omega (arith, is, reading.small)

pub overflow_add-result : goal.overflow_add-result
overflow_add-result c =
    let elements = c.requires.listing.0 in
    let listing = c.requires.listing.1 in
    let reading = c.loop.invariant elements listing in
    let starts = start-is elements c.args.states.now c.args.self.now c.loop.state_number c.in-Some.start c.index.result.now listing reading.within c.index.ensures c.in-Some.is in
    let is = listed-ends elements c.args.states.now c.args.self.now _ c.loop.state_number c.loop.place c.loop.counter c.loop.unit c.loop.sum c.in-Some.start c.index-in-Some.result.now listing reading starts c.index-in-Some.ensures in
    omega (arith, is, reading.small)

pub returns-in-Some : goal.returns-in-Some
returns-in-Some c = λ elements listing.
    let reading = c.loop.invariant elements listing in
    let starts = start-is elements c.args.states.now c.args.self.now c.loop.state_number c.in-Some.start c.index.result.now listing reading.within c.index.ensures c.in-Some.is in
    let is = listed-ends elements c.args.states.now c.args.self.now _ c.loop.state_number c.loop.place c.loop.counter c.loop.unit c.loop.sum c.in-Some.start c.index-in-Some.result.now listing reading starts c.index-in-Some.ensures in
    is

pub returns-then-state-eq0 : goal.returns-then-state-eq0
returns-then-state-eq0 c = λ elements listing.
    let reading = c.loop.invariant elements listing in
    drawn-ends elements c.args.states.now _ c.loop.state_number c.loop.place c.loop.counter c.loop.unit c.loop.sum listing.are reading
    (ap (λ (s : State). s.draws) (sym (state-read c.args.states.now c.loop.state_number _ reading.within)) ∙ c.if-state-eq0.true)

pub nonzero_div-place : goal.nonzero_div-place
nonzero_div-place c =
    let elements = c.requires.listing.0 in
    let listing = c.requires.listing.1 in
    let reading = c.loop.invariant elements listing in
    let turn = turn-is elements c.args.states.now c.args.self.now _ c.loop.state_number c.loop.place c.loop.counter c.loop.unit c.loop.sum _ listing reading c.if-state-eq0.false in
    turn-each elements c.args.states.now _ c.loop.state_number c.loop.place c.loop.counter c.loop.unit c.loop.sum _ turn

pub nonzero_rem-place : goal.nonzero_rem-place
nonzero_rem-place c =
    let elements = c.requires.listing.0 in
    let listing = c.requires.listing.1 in
    let reading = c.loop.invariant elements listing in
    let turn = turn-is elements c.args.states.now c.args.self.now _ c.loop.state_number c.loop.place c.loop.counter c.loop.unit c.loop.sum _ listing reading c.if-state-eq0.false in
    turn-each elements c.args.states.now _ c.loop.state_number c.loop.place c.loop.counter c.loop.unit c.loop.sum _ turn

pub nth-piece-requires : goal.nth-piece-requires
nth-piece-requires c =
    let elements = c.requires.listing.0 in
    let listing = c.requires.listing.1 in
    let reading = c.loop.invariant elements listing in
    let turn = turn-is elements c.args.states.now c.args.self.now _ c.loop.state_number c.loop.place c.loop.counter c.loop.unit c.loop.sum _ listing reading c.if-state-eq0.false in
    turn-index elements c.args.states.now _ c.loop.state_number c.loop.place c.loop.counter c.loop.unit c.loop.sum _ turn

pub overflow_mul-sum : goal.overflow_mul-sum
overflow_mul-sum c =
    let elements = c.requires.listing.0 in
    let listing = c.requires.listing.1 in
    let reading = c.loop.invariant elements listing in
    let turn = turn-is elements c.args.states.now c.args.self.now _ c.loop.state_number c.loop.place c.loop.counter c.loop.unit c.loop.sum _ listing reading c.if-state-eq0.false in
    let next = turn-next elements c.args.states.now _ c.loop.state_number c.loop.place c.loop.counter c.loop.unit c.loop.sum _ turn c.nth-piece.result c.from.result c.nth-piece.ensures (c.from.ensures ∙ c.code.ensures) in
    omega (arith, next.upto, reading.small)

pub overflow_add-sum : goal.overflow_add-sum
overflow_add-sum c =
    let elements = c.requires.listing.0 in
    let listing = c.requires.listing.1 in
    let reading = c.loop.invariant elements listing in
    let turn = turn-is elements c.args.states.now c.args.self.now _ c.loop.state_number c.loop.place c.loop.counter c.loop.unit c.loop.sum _ listing reading c.if-state-eq0.false in
    let next = turn-next elements c.args.states.now _ c.loop.state_number c.loop.place c.loop.counter c.loop.unit c.loop.sum _ turn c.nth-piece.result c.from.result c.nth-piece.ensures (c.from.ensures ∙ c.code.ensures) in
    omega (arith, next.upto, reading.small)

pub overflow_mul-unit : goal.overflow_mul-unit
overflow_mul-unit c =
    let elements = c.requires.listing.0 in
    let listing = c.requires.listing.1 in
    let reading = c.loop.invariant elements listing in
    let turn = turn-is elements c.args.states.now c.args.self.now _ c.loop.state_number c.loop.place c.loop.counter c.loop.unit c.loop.sum _ listing reading c.if-state-eq0.false in
    let next = turn-next elements c.args.states.now _ c.loop.state_number c.loop.place c.loop.counter c.loop.unit c.loop.sum _ turn c.nth-piece.result c.from.result c.nth-piece.ensures (c.from.ensures ∙ c.code.ensures) in
    omega (arith, next.unit_small)

pub loop-preserved : goal.loop-preserved
loop-preserved c = λ elements listing.
    let reading = c.loop.invariant elements listing in
    let turn = turn-is elements c.args.states.now c.args.self.now _ c.loop.state_number c.loop.place c.loop.counter c.loop.unit c.loop.sum _ listing reading c.if-state-eq0.false in
    turn-more elements c.args.states.now _ c.loop.state_number c.loop.place c.loop.counter c.loop.unit c.loop.sum _ turn c.nth-piece.result c.from.result c.from-state_number-in-loop.result c.from-in-loop.result
    c.nth-piece.ensures (c.from.ensures ∙ c.code.ensures) (c.from-in-loop.ensures ∙ c.code-in-loop.ensures) c.from-state_number-in-loop.ensures
