-- Each tail of the set has its place in the list, and each place has a tail of the set.
use Rattle.std.proofs.Common.{sym, ◌∙◌}
use Rattle.std.proofs.lemmas.Result.{IfOk-weaker}
use Rattle.percent.proofs.ListedTails.{listed-hand, listed-same, listed-tail}
use Rattle.percent.proofs.kept.Kept.hands_of.Goals as goal

pub hands-requires : goal.hands-requires
hands-requires c = λ tail there. c.requires tail (sym (listed-same c.args.tails.now c.in_ok-numbers.numbers.items c.as_slice.result.now c.as_slice.ensures.value c.in_ok-numbers.ensures tail) ∙ there)

pub returns-clause-all : goal.returns-clause-all
returns-clause-all c =
    let listed = listed-same c.args.tails.now c.in_ok-numbers.numbers.items c.as_slice.result.now c.as_slice.ensures.value c.in_ok-numbers.ensures in
    IfOk-weaker c.hands.result _ _ (λ hands are tail there. listed-hand c.args.self.now.tree c.as_slice.result.now hands.items are tail (listed tail ∙ there)) c.hands.ensures

pub returns-clause-only : goal.returns-clause-only
returns-clause-only c =
    let listed = listed-same c.args.tails.now c.in_ok-numbers.numbers.items c.as_slice.result.now c.as_slice.ensures.value c.in_ok-numbers.ensures in
    IfOk-weaker c.hands.result _ _ (λ hands are hand there.
    let found = listed-tail c.args.self.now.tree c.as_slice.result.now hands.items are hand there in (found.0, sym (listed found.0) ∙ found.1, found.2)) c.hands.ensures
