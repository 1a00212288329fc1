-- The goals of `chosen_after` that need lemmas.
use Rattle.std.proofs.Common.{◌≡◌, ◌+◌, ◌-◌, ◌∙◌, ◌⊎◌, sym, ap, inl, inr, arith, rules}
use Rattle.queue_pattern.specs.Grammar.{read_at, outside, before, choice}
use Rattle.queue_pattern.proofs.ReadStep.{closed_bang, closed_choosing, choosing_digit, choosing_other, closed_other, within_text}
use Rattle.queue_pattern.proofs.text.chosen_after.Goals as goal

pub returns-then-mark-eq33-clause-chosen : goal.returns-then-mark-eq33-clause-chosen
returns-then-mark-eq33-clause-chosen c =
    let byte = sym c.byte_at-mark.ensures ∙ c.if-mark-eq33.true in (
      (λ start. closed_bang c.args.text.now start c.args.set c.args.place byte
          ∙ ap (λ n. before (choice start c.args.set n) (read_at c.args.text.now outside (c.args.place + 1))) (sym c.size.ensures.number)),
      omega arith,
      omega (arith, within_text c.args.text.now c.args.place 33 byte (omega arith)),
    )

pub returns-then-mark-ne80-clause-chosen : goal.returns-then-mark-ne80-clause-chosen
returns-then-mark-ne80-clause-chosen c = search (rules, closed_other)

pub returns-then-digit-lt49-clause-chosen : goal.returns-then-digit-lt49-clause-chosen
returns-then-digit-lt49-clause-chosen c = λ start.
    let place_in = within_text c.args.text.now c.args.place c.byte_at-mark.result (sym c.byte_at-mark.ensures) (omega arith) in
    search (rules, closed_choosing, choosing_other)

pub returns-clause-chosen : goal.returns-clause-chosen
returns-clause-chosen c =
    let mark : (c.byte_at-mark.result ≡ 112) ⊎ (c.byte_at-mark.result ≡ 80) = elim c.else-mark-ne112.either [ inl capital ↦ inr capital.1 | inr small ↦ inl small ] in
    let digit_in = within_text c.args.text.now (c.args.place + 1) c.byte_at-digit.result (sym c.byte_at-digit.ensures) (omega arith) in (
      (λ start. closed_choosing c.args.text.now start c.args.set c.args.place c.byte_at-mark.result (sym c.byte_at-mark.ensures) mark
          ∙ choosing_digit c.args.text.now start c.args.set (c.args.place + 1) c.byte_at-digit.result (sym c.byte_at-digit.ensures) (omega arith) (omega arith)
          ∙ ap (λ k. before (choice start c.args.set (c.byte_at-digit.result - 48)) (read_at c.args.text.now outside k)) (omega arith)),
      omega arith,
      omega arith,
    )
