-- The goals of `listed_set` that need lemmas.
use Rattle.std.proofs.Common.{◌≡◌, ◌≢◌, ◌+◌, ◌<◌, ◌∙◌, ◌⊎◌, sym, ap, inl, inr, arith, subst, None, Some, bit_or, get_or, length, rules}
use Rattle.queue_pattern.specs.Grammar.{read_at, listing}
use Rattle.queue_pattern.proofs.ReadStep.{read_end}
use Rattle.queue_pattern.proofs.ReadBrackets.{read_close, read_listed, repeated, joined, with_one-within}
use Rattle.queue_pattern.proofs.text.listed_set.Goals as goal

pub returns-then-listed-ne0 : goal.returns-then-listed-ne0
returns-then-listed-ne0 c = search (rules, read_close)

pub returns-in_default : goal.returns-in_default
returns-in_default c =
    let other = elim c.else-text-place-eq93.either as (λ _. (get_or c.args.text.now c.loop-place.place 0 ≢ 93) ⊎ (c.loop-place.listed ≡ 0)) [ inl bracket ↦ inr bracket.1 | inr letter ↦ inl letter ] in
    c.loop-place.invariant.1
    ∙ read_listed c.args.text.now c.args.start c.args.except c.loop-place.listed c.loop-place.place None c.loop-place-test.true other c.in_default.ensures

pub returns-then-is_in : goal.returns-then-is_in
returns-then-is_in c =
    let other = elim c.else-text-place-eq93.either as (λ _. (get_or c.args.text.now c.loop-place.place 0 ≢ 93) ⊎ (c.loop-place.listed ≡ 0)) [ inl bracket ↦ inr bracket.1 | inr letter ↦ inl letter ] in
    c.loop-place.invariant.1
    ∙ read_listed c.args.text.now c.args.start c.args.except c.loop-place.listed c.loop-place.place (Some c.in-Some.piece) c.loop-place-test.true other c.in-Some.ensures
    ∙ repeated c.args.start c.args.except c.loop-place.listed c.loop-place.place c.in-Some.piece (λ next. read_at c.args.text.now next (c.loop-place.place + 1)) c.if-is_in.ensures

pub loop-place-preserved : goal.loop-place-preserved
loop-place-preserved c =
    let other = elim c.else-text-place-eq93.either as (λ _. (get_or c.args.text.now c.loop-place.place 0 ≢ 93) ⊎ (c.loop-place.listed ≡ 0)) [ inl bracket ↦ inr bracket.1 | inr letter ↦ inl letter ] in
    let same = ap (bit_or c.loop-place.listed) c.set_of_one-listed.ensures in (
      subst (λ n. n < 128) (sym same) (with_one-within c.loop-place.listed c.in-Some.piece c.loop-place.invariant.0),
      c.loop-place.invariant.1
          ∙ read_listed c.args.text.now c.args.start c.args.except c.loop-place.listed c.loop-place.place (Some c.in-Some.piece) c.loop-place-test.true other c.in-Some.ensures
          ∙ joined c.args.start c.args.except c.loop-place.listed c.loop-place.place c.in-Some.piece (λ next. read_at c.args.text.now next (c.loop-place.place + 1)) c.if-is_in.ensures
          ∙ ap (λ n. read_at c.args.text.now (listing c.args.start c.args.except n) (c.loop-place.place + 1)) (sym same),
    )

pub returns : goal.returns
returns c =
    let at_end : c.loop-place.place ≡ length c.args.text.now = omega arith in
    search (rules, listing, read_end)
