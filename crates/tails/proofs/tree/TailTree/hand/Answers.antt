-- The held piece stands in front of those that are drawn.
use Rattle.std.proofs.Common.{◌<◌, ◌≢◌, ◌∙◌, sym, arith}
use Rattle.tails.specs.Numbers.{held_of}
use Rattle.tails.proofs.StartLemmas.{hand-held, hand-none, number-few, state-there, tail-fits, value-read}
use Rattle.tails.proofs.NumberLemmas.{held_of-small}
use Rattle.tails.proofs.tree.TailTree.hand.Goals as goal

pub parts_of-state-requires : goal.parts_of-state-requires
parts_of-state-requires c = tail-fits c.args.self.now c.args.tail c.requires

pub number-number-requires-clause-there : goal.number-number-requires-clause-there
number-number-requires-clause-there c =
    state-there c.args.self.now c.args.tail c.parts_of-state.result.0 c.parts_of-state.result.2 c.as_slice.result.now c.requires
    c.as_slice.ensures.value c.parts_of-state.ensures.state c.parts_of-state.ensures.place

pub returns-then-held-eq0 : goal.returns-then-held-eq0
returns-then-held-eq0 c =
    let read =
    value-read c.args.self.now c.args.tail c.as_slice.result.now c.parts_of-state.result.0 c.parts_of-state.result.2 c.number-number.result
    c.as_slice.ensures.value c.parts_of-state.ensures.state c.parts_of-state.ensures.place c.number-number.ensures in
    hand-none c.args.self.now c.args.tail c.number-number.result read (sym c.parts_of-state.ensures.held ∙ c.if-held-eq0.true)

pub overflow_mul-result : goal.overflow_mul-result
overflow_mul-result c =
    let read =
    value-read c.args.self.now c.args.tail c.as_slice.result.now c.parts_of-state.result.0 c.parts_of-state.result.2 c.number-number.result
    c.as_slice.ensures.value c.parts_of-state.ensures.state c.parts_of-state.ensures.place c.number-number.ensures in
    let some : 0 < held_of c.args.tail = let other : c.parts_of-state.result.1 ≢ 0 = c.if-held-eq0.false in omega (arith, other, c.parts_of-state.ensures.held) in
    let few = number-few c.args.self.now c.args.tail c.number-number.result c.requires some read in
    omega (arith, few)

pub overflow_add-result : goal.overflow_add-result
overflow_add-result c =
    let read =
    value-read c.args.self.now c.args.tail c.as_slice.result.now c.parts_of-state.result.0 c.parts_of-state.result.2 c.number-number.result
    c.as_slice.ensures.value c.parts_of-state.ensures.state c.parts_of-state.ensures.place c.number-number.ensures in
    let some : 0 < held_of c.args.tail = let other : c.parts_of-state.result.1 ≢ 0 = c.if-held-eq0.false in omega (arith, other, c.parts_of-state.ensures.held) in
    let few = number-few c.args.self.now c.args.tail c.number-number.result c.requires some read in
    omega (arith, few, c.from.ensures, c.parts_of-state.ensures.held, held_of-small c.args.tail)

pub returns : goal.returns
returns c =
    let read =
    value-read c.args.self.now c.args.tail c.as_slice.result.now c.parts_of-state.result.0 c.parts_of-state.result.2 c.number-number.result
    c.as_slice.ensures.value c.parts_of-state.ensures.state c.parts_of-state.ensures.place c.number-number.ensures in
    let some : 0 < held_of c.args.tail = let other : c.parts_of-state.result.1 ≢ 0 = c.if-held-eq0.false in omega (arith, other, c.parts_of-state.ensures.held) in
    hand-held c.args.self.now c.args.tail c.from.result c.number-number.result read (sym (c.from.ensures ∙ c.parts_of-state.ensures.held)) (omega (arith, some, c.from.ensures, c.parts_of-state.ensures.held))
