-- Each turn looks at one pair.
use Rattle.std.proofs.Common.{◌<◌, ◌∙◌, length, ap, sym, arith, string_bytes}
use Rattle.std.proofs.lemmas.List.{length-map}
use Rattle.std.specs.Str.{bytes_eq}
use Rattle.pc_words.specs.Words.{texts}
use Rattle.pc_words.proofs.Pairs.{text_at, value_first, value_next, value_none}
use Rattle.pc_words.proofs.words.value_of.Goals as goal

pub returns-then-eq : goal.returns-then-eq
returns-then-eq c =
    let pairs = c.args.pairs.now in
    let within : c.loop-index.index < length (texts pairs) = omega (arith, length-map pairs (λ word. string_bytes word), c.loop-index-test.true) in
    let named = c.as_str.ensures.value ∙ text_at (λ word. string_bytes word) pairs c.loop-index.index _ c.loop-index-test.true c.index-pairs-index.is in
    value_first c.args.option (texts pairs) c.loop-index.index c.as_str.result.now _ within named c.word_at.ensures
    (ap (bytes_eq c.as_str.result.now) (sym c.name.ensures) ∙ sym c.eq.ensures ∙ c.if-eq.true)
    ∙ c.loop-index.invariant

pub loop-index-preserved : goal.loop-index-preserved
loop-index-preserved c =
    let pairs = c.args.pairs.now in
    let within : c.loop-index.index < length (texts pairs) = omega (arith, length-map pairs (λ word. string_bytes word), c.loop-index-test.true) in
    let named = c.as_str.ensures.value ∙ text_at (λ word. string_bytes word) pairs c.loop-index.index _ c.loop-index-test.true c.index-pairs-index.is in
    value_next c.args.option (texts pairs) c.loop-index.index c.as_str.result.now within named
    (ap (bytes_eq c.as_str.result.now) (sym c.name.ensures) ∙ sym c.eq.ensures ∙ c.if-eq.false)
    ∙ c.loop-index.invariant

pub returns : goal.returns
returns c =
    let pairs = c.args.pairs.now in
    sym (value_none c.args.option (texts pairs) c.loop-index.index (omega (arith, length-map pairs (λ word. string_bytes word), c.loop-index-test.false)))
    ∙ c.loop-index.invariant
