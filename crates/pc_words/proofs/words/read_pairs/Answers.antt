-- Each turn takes one pair.
use Rattle.std.proofs.Common.{◌<◌, ◌∙◌, length, take, ap, refl, sym, arith, string_bytes, Some, None}
use Rattle.std.specs.Prelude.{option_copied}
use Rattle.std.proofs.lemmas.List.{length-map}
use Rattle.std.proofs.lemmas.Result.{err_from_is_err_and}
use Rattle.pc_words.specs.Words.{texts, values_in}
use Rattle.pc_words.proofs.OneMore.{no_pairs}
use Rattle.pc_words.proofs.Pairs.{fault_first, fault_next, fault_none, first_texts, pair_within, text_at, values_next}
use Rattle.pc_words.proofs.words.read_pairs.Goals as goal

pub loop-index-init : goal.loop-index-init
loop-index-init c = (refl, c.none-values.ensures ∙ no_pairs, refl, omega arith)

pub with_pair-requires-clause-values : goal.with_pair-requires-clause-values
with_pair-requires-clause-values c = c.loop-index.invariant.1 ∙ ap values_in (sym (first_texts (λ word. string_bytes word) c.args.pairs.now c.loop-index.index))

pub returns-in_err-values-clause-fault : goal.returns-in_err-values-clause-fault
returns-in_err-values-clause-fault c =
    let pairs = c.args.pairs.now in
    let index = c.loop-index.index in
    let within : index < length (texts pairs) = omega (arith, length-map pairs (λ word. string_bytes word), c.loop-index-test.true) in
    let named = c.as_str.ensures.value ∙ text_at (λ word. string_bytes word) pairs index _ c.loop-index-test.true c.index-pairs-index.is in
    let p = err_from_is_err_and c.from_residual.result c.from_residual.ensures.1 in
    rw (p.1, p.2) (sym (fault_first c.args.command (texts pairs) (texts (take index pairs)) index c.as_str.result.now (option_copied c.word_at-value.result) (Some c.in_err-values.field-0.0) within
    (first_texts (λ word. string_bytes word) pairs index) named c.word_at-value.ensures (sym c.in_err-values.ensures.fault) refl
    ∙ c.loop-index.invariant.0))

pub loop-index-preserved : goal.loop-index-preserved
loop-index-preserved c =
    let pairs = c.args.pairs.now in
    let index = c.loop-index.index in
    let value = option_copied c.word_at-value.result in
    let same = length-map pairs (λ word. string_bytes word) in
    let within : index < length (texts pairs) = omega (arith, same, c.loop-index-test.true) in
    let named = c.as_str.ensures.value ∙ text_at (λ word. string_bytes word) pairs index _ c.loop-index-test.true c.index-pairs-index.is in
    let before = first_texts (λ word. string_bytes word) pairs index in
    let there = pair_within (texts pairs) index value c.word_at-value.ensures (c.in_ok-values.ensures.whole refl) in (
      fault_next c.args.command (texts pairs) (texts (take index pairs)) index c.as_str.result.now value None within before named c.word_at-value.ensures (sym c.in_ok-values.ensures.none) refl ∙ c.loop-index.invariant.0,
      values_next (texts pairs) (texts (take index pairs)) index c.as_str.result.now value c.in_ok-values.values within before named c.word_at-value.ensures c.in_ok-values.ensures.values (c.in_ok-values.ensures.whole refl),
      omega (arith, c.loop-index.invariant.2),
      omega (arith, same, there),
    )

pub returns-clause-none : goal.returns-clause-none
returns-clause-none c =
    let pairs = c.args.pairs.now in
    sym c.loop-index.invariant.0
    ∙ fault_none c.args.command (texts pairs) c.loop-index.index (omega (arith, length-map pairs (λ word. string_bytes word), c.loop-index-test.false))
