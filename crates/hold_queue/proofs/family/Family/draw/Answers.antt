-- The goals of `Family::draw` that need lemmas.
use Rattle.std.proofs.Common.{refl, sym}
use Rattle.std.proofs.lemmas.Bool.{not-true, not-false}
use Rattle.hold_queue.proofs.DrawLemmas.{drawn_from_none, drawn_from_empty, drawn_outside, drawn_within, drawn_last, begins_none, begins_some}
use Rattle.hold_queue.proofs.family.Family.draw.Goals as goal

pub returns-then-is_empty : goal.returns-then-is_empty
returns-then-is_empty c = drawn_from_empty c.args.draw c.args.piece c.args.self (c.if-is_empty.ensures.0 refl)

pub returns-in_default : goal.returns-in_default
returns-in_default c = drawn_from_none c.args.draw c.args.piece c.args.self c.in_default.is

pub returns-then-not-has : goal.returns-then-not-has
returns-then-not-has c = drawn_outside c.args.draw c.in-Some.draw c.args.piece c.args.self c.in-Some.is (sym c.if-not-has.ensures)

pub returns-then-not-draw : goal.returns-then-not-draw
returns-then-not-draw c = drawn_within c.args.draw c.in-Some.draw c.args.piece c.args.self _ c.in-Some.is (sym c.if-not-has.ensures) (not-true _ c.if-not-draw.true) c.with-drawn.ensures

pub returns-then-is_empty-2 : goal.returns-then-is_empty-2
returns-then-is_empty-2 c = drawn_last c.args.draw c.in-Some.draw c.args.piece c.args.self c.with-drawn.result _ c.in-Some.is (sym c.if-not-has.ensures) (not-false _ c.if-not-draw.false) c.with-drawn.ensures
    (begins_none c.with-drawn.result (c.if-is_empty-2.ensures.0 refl))

pub returns : goal.returns
returns c = drawn_last c.args.draw c.in-Some.draw c.args.piece c.args.self c.with-drawn.result _ c.in-Some.is (sym c.if-not-has.ensures) (not-false _ c.if-not-draw.false) c.with-drawn.ensures
    (begins_some c.with-drawn.result (λ none. let wrong = c.if-is_empty-2.ensures.1 none in cc))
