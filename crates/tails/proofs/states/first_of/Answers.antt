-- The number is made of the index and the element's set.
use Rattle.std.proofs.Common.{arith}
use Rattle.queue_pattern.specs.Pattern.{elements_of}
use Rattle.tails.proofs.MadeLemmas.{first-number, last-number}
use Rattle.tails.proofs.states.first_of.Goals as goal
use Rattle.tails.proofs.states.first_of.Goals.{then-index-elements, else-index-elements}

pub returns : goal.returns
returns c =
    let elements = elements_of c.args.pattern.now in
    elim c.if-index-elements.branch [
      | then-index-elements w ↦ omega (arith, c.from.ensures, c.from-2.ensures, w.set-is, first-number elements c.args.index w.element-set.result w.element-set.ensures)
      | else-index-elements w ↦ omega (arith, c.from.ensures, c.from-2.ensures, w.set-is, last-number elements c.args.index (omega arith))
    ]
