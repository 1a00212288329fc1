-- Where a row is left no tail is good.
use Rattle.std.proofs.Common.{◌≡◌, true, false, ◌&&◌, ◌==◌, ap, sym, ◌∙◌, arith}
use Rattle.std.proofs.lemmas.Bool.{and_right}
use Rattle.std.proofs.lemmas.Bool.Decides.{nat_tests}
use Rattle.std.proofs.lemmas.Result.{IfOk-weaker}
use Rattle.std.proofs.Math.Bool.{and-true}
use Rattle.tails.specs.TailSets.{has}
use Rattle.percent.proofs.answered.answered_at_end.Goals as goal

pub returns : goal.returns
returns c = λ tail.
    let some = c.if-position-eq0.false in
    let left : (c.args.position.now.rows == 0) ≡ false = grind (arith, nat_tests) in
    c.none.ensures.none tail ∙ sym (and_right (has c.args.tails.now tail) _ left)

pub returns-then-position-eq0 : goal.returns-then-position-eq0
returns-then-position-eq0 c =
    let none : (c.args.position.now.rows == 0) ≡ true = grind (arith, nat_tests, c.if-position-eq0.true) in
    IfOk-weaker c.copied.result _ _ (λ v h tail. h tail ∙ sym (and-true (has c.args.tails.now tail)) ∙ ap (λ b. has c.args.tails.now tail && b) (sym none)) c.copied.ensures
