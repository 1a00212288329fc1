-- One key back after another.
use Rattle.std.proofs.Common.{◌++◌, length, reverse, sym, ap, ◌∙◌, arith, rules}
use Rattle.key_path.proofs.MarkLemmas.{one_back, one_passed, passed_few, passed_all, refilled}
use Rattle.key_path.proofs.marks.Marks.word_to.Goals as goal

pub loop-from-init : goal.loop-from-init
loop-from-init c = (c.requires.pivot, λ traced. record { rest = traced.keys; traces = traced.traces; is = ap (λ w. w ++ traced.keys) (sym c.new-word.ensures) })

pub push-requires : goal.push-requires
push-requires c =
    let few = passed_few c.args.self.now.marks c.loop-from.reached c.in-From.from c.in-From.key c.loop-from.word.items c.requires.traced.keys (sym c.at.ensures ∙ c.in-From.is) (c.loop-from.invariant.1 c.requires.traced) in
    (omega arith, omega (arith, few, c.requires.traced.few))

pub loop-from-smaller : goal.loop-from-smaller
loop-from-smaller c =
    search (rules, (passed_few c.args.self.now.marks c.loop-from.reached c.in-From.from c.in-From.key c.loop-from.word.items c.requires.traced.keys (sym c.at.ensures ∙ c.in-From.is) (c.loop-from.invariant.1 c.requires.traced)))

pub loop-from-preserved : goal.loop-from-preserved
loop-from-preserved c =
    search (rules, (one_back c.args.self.now.marks c.loop-from.reached c.in-From.from c.in-From.key (c.loop-from.invariant.1 c.requires.traced).rest (sym c.at.ensures ∙ c.in-From.is) (c.loop-from.invariant.1 c.requires.traced).traces), (one_passed c.args.self.now.marks c.loop-from.reached c.in-From.from c.in-From.key c.loop-from.word.items c.push.new.self.items), c.loop-from.invariant.1)

pub returns : goal.returns
returns c = λ traced.
    let all = passed_all c.args.self.now.marks c.loop-from.reached c.loop-from.word.items traced.keys (λ from key is. c.in_default.not-From from key (c.at.ensures ∙ is)) (c.loop-from.invariant.1 traced) in
    refilled c.loop-from.word.items c.reverse.new.self (c.reverse.ensures.len ∙ ap (λ xs. length xs) c.as_mut_slice.ensures.value)
    ∙ c.reverse.ensures.after ∙ ap reverse (c.as_mut_slice.ensures.value ∙ sym all)
