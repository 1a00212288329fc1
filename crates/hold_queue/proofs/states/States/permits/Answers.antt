-- The goals of `States::permits` that need lemmas.
use Rattle.std.proofs.Common.{◌≡◌, Bool, true, false, not, ◌∷◌, [], refl, sym, ap, ◌∙◌, rules}
use Rattle.hold_queue.specs.States.{WhereverTheyStand, states_permit}
use Rattle.hold_queue.proofs.HoldingLemmas.{comes-plain, comes-second, comes-held, comes-none, permitted-comes, refused-none}
use Rattle.hold_queue.proofs.StepLemmas.{drawn_at, drawn_by_draw}
use Rattle.hold_queue.proofs.states.States.permits.Goals as goal

pub returns-then-not-is_empty : goal.returns-then-not-is_empty
returns-then-not-is_empty c = search (rules, permitted-comes, comes-plain, drawn_at)

pub returns-then-may_exchange : goal.returns-then-may_exchange
returns-then-may_exchange c = search (rules, permitted-comes, comes-held)

pub returns : goal.returns
returns c = go c.is_empty-2.result refl
  where
    go : (b : Bool) → c.is_empty-2.result ≡ b → WhereverTheyStand c.args.self.now (λ elements start played.
        not c.is_empty-2.result ≡ states_permit elements c.args.self.now.hold start c.args.self.now.words played (c.args.piece ∷ []))
    go true is = λ elements start played stands due.
        let set = c.args.self.now in
        ap not is ∙ sym (refused-none elements set.hold start set.words played c.args.piece
        (comes-none elements set.hold start set.words played stands c.args.piece c.draw-plain.result c.args.holding c.draw.result
        (drawn_at c.draw-plain.ensures due.empty_handed c.family_of.ensures) (c.requires elements start played stands due)
        (drawn_by_draw c.draw.ensures (due.holding c.args.piece))
        (c.if-not-is_empty.ensures.0 refl) (c.is_empty-2.ensures.0 is) (c.may_exchange.ensures.none c.if-may_exchange.false)))
    go false is = λ elements start played stands due.
        let set = c.args.self.now in
        ap not is ∙ sym (permitted-comes elements set.hold start set.words played c.args.piece
        (comes-second elements set.hold start set.words played stands c.args.piece c.args.holding c.draw.result (c.requires elements start played stands due)
        (drawn_by_draw c.draw.ensures (due.holding c.args.piece)) (λ none. let wrong = c.is_empty-2.ensures.1 none in cc)))
