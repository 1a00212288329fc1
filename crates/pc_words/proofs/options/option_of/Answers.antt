-- Each turn looks at one option.
use Rattle.std.proofs.Common.{◌∙◌, ap, sym, arith}
use Rattle.std.specs.Str.{bytes_eq}
use Rattle.pc_words.specs.Options.{named_in}
use Rattle.pc_words.proofs.Pairs.{named_first, named_next, named_none}
use Rattle.pc_words.proofs.options.option_of.Goals as goal

pub returns-then-eq : goal.returns-then-eq
returns-then-eq c =
    sym (named_first c.args.name.now c.options_of-option-items.result.now c.loop-option.option-index _ c.loop-option-test.true (ap (λ n. bytes_eq n c.args.name.now) (sym c.name.ensures) ∙ sym c.eq.ensures ∙ c.if-eq.true))
    ∙ c.loop-option.invariant ∙ ap (named_in c.args.name.now) c.options_of-option-items.ensures

pub loop-option-preserved : goal.loop-option-preserved
loop-option-preserved c =
    named_next c.args.name.now c.options_of-option-items.result.now c.loop-option.option-index _ c.loop-option-test.true (ap (λ n. bytes_eq n c.args.name.now) (sym c.name.ensures) ∙ sym c.eq.ensures ∙ c.if-eq.false)
    ∙ c.loop-option.invariant

pub returns : goal.returns
returns c =
    sym (named_none c.args.name.now c.options_of-option-items.result.now c.loop-option.option-index (omega (arith, c.loop-option-test.false)))
    ∙ c.loop-option.invariant ∙ ap (named_in c.args.name.now) c.options_of-option-items.ensures
