-- The places come in order, and each that lies below the rows left is entered, or no rest is good after it.
use Rattle.std.proofs.Common.{All, ◌≡◌, ℕ, true, ap, subst, sym, ◌∙◌}
use Rattle.std.specs.Prelude.{IfSome}
use Rattle.hands.specs.Numbers.{has_number}
use Rattle.std.proofs.lemmas.List.Elements.{All-nil, All-push}
use Rattle.std.proofs.lemmas.List.Sorted.{All-permutation}
use Rattle.well.specs.Well.{filled}
use Rattle.srs.specs.Rules.{table_of}
use Rattle.moves.specs.Place.{IsPlace}
use Rattle.percent.specs.declared.game.Game.{Game}
use Rattle.percent.specs.Children.{IsChild}
use Rattle.percent.specs.ListedHands.{AreRestsAt}
use Rattle.percent.specs.Marks.{IsStanding}
use Rattle.percent.specs.Wanted.{IsWanted}
use Rattle.percent.proofs.PlaceLemmas.{Entering, is_good_with, enter-ends, enter-more, enter-skip, enter-starts, in-any-order, low-free, taken, taken-fewer}
use Rattle.percent.proofs.marks.Marks.children.Goals as goal

pub loop-placement-init : goal.loop-placement-init
loop-placement-init g c =
    let p = c.args.self.now.position in (
      enter-starts c.args.kept.now.game _ (filled p.well) p.rows c.args.asked.now.piece c.args.asked.now.left (has_number c.args.asked.now.hands.items) c.new-children.result.items c.places_below-places.result c.args.kept.now.floods c.new-children.ensures.items c.places_below-places.ensures.held,
      subst (All (IsChild c.args.self.now.game p c.args.asked.now.piece)) (sym c.new-children.ensures.items) (All-nil (IsChild c.args.self.now.game p c.args.asked.now.piece)),
      subst (All (λ child. IsStanding c.args.self.now.known.items c.args.self.now.rows child.placement child.standing)) (sym c.new-children.ensures.items) (All-nil (λ child. IsStanding c.args.self.now.known.items c.args.self.now.rows child.placement child.standing)),
    )

pub is_worth-requires-clause-place : goal.is_worth-requires-clause-place
is_worth-requires-clause-place g c =
    let p = c.args.self.now.position in
    subst (λ (game : Game). IsPlace (table_of game.rules) (filled p.well) game.drop_mode c.in-Some.placement) c.requires.game
    (taken c.args.kept.now.game (filled p.well) p.rows c.args.asked.now.piece c.args.asked.now.left (has_number c.args.asked.now.hands.items) c.loop-placement.children.items c.loop-placement.places c.take_least.new.self c.in-Some.placement c.loop-placement.invariant.0 c.in-Some.ensures.least c.in-Some.ensures.rest).place

pub is_worth-requires-clause-rests : goal.is_worth-requires-clause-rests
is_worth-requires-clause-rests g c =
    let p = c.args.self.now.position in
    let low = taken c.args.kept.now.game (filled p.well) p.rows c.args.asked.now.piece c.args.asked.now.left (has_number c.args.asked.now.hands.items) c.loop-placement.children.items c.loop-placement.places c.take_least.new.self c.in-Some.placement c.loop-placement.invariant.0 c.in-Some.ensures.least c.in-Some.ensures.rest in
    subst (λ piece. AreRestsAt c.args.self.now piece c.args.asked.now.left (has_number c.args.asked.now.hands.items)) (sym low.kind) c.requires.asked.rests

pub is_worth-requires-clause-below : goal.is_worth-requires-clause-below
is_worth-requires-clause-below g c =
    let p = c.args.self.now.position in
    (taken c.args.kept.now.game (filled p.well) p.rows c.args.asked.now.piece c.args.asked.now.left (has_number c.args.asked.now.hands.items) c.loop-placement.children.items c.loop-placement.places c.take_least.new.self c.in-Some.placement c.loop-placement.invariant.0 c.in-Some.ensures.least c.in-Some.ensures.rest).below

pub is_worth-requires-clause-wanted : goal.is_worth-requires-clause-wanted
is_worth-requires-clause-wanted g c =
    let p = c.args.self.now.position in
    let low = taken c.args.kept.now.game (filled p.well) p.rows c.args.asked.now.piece c.args.asked.now.left (has_number c.args.asked.now.hands.items) c.loop-placement.children.items c.loop-placement.places c.take_least.new.self c.in-Some.placement c.loop-placement.invariant.0 c.in-Some.ensures.least c.in-Some.ensures.rest in
    subst (λ piece. IfSome c.wanted-wanted.result (λ wanted. (rest : ℕ) → has_number c.args.asked.now.hands.items rest ≡ true → IsWanted c.args.self.now.known.items piece c.args.asked.now.left rest wanted)) (sym low.kind) c.wanted-wanted.ensures

pub after-requires-clause-free : goal.after-requires-clause-free
after-requires-clause-free g c =
    let p = c.args.self.now.position in
    low-free c.args.kept.now.game (filled p.well) p.rows c.args.asked.now.piece c.in-Some.placement
    (taken c.args.kept.now.game (filled p.well) p.rows c.args.asked.now.piece c.args.asked.now.left (has_number c.args.asked.now.hands.items) c.loop-placement.children.items c.loop-placement.places c.take_least.new.self c.in-Some.placement c.loop-placement.invariant.0 c.in-Some.ensures.least c.in-Some.ensures.rest)

pub after-requires-clause-below : goal.after-requires-clause-below
after-requires-clause-below g c =
    let p = c.args.self.now.position in
    (taken c.args.kept.now.game (filled p.well) p.rows c.args.asked.now.piece c.args.asked.now.left (has_number c.args.asked.now.hands.items) c.loop-placement.children.items c.loop-placement.places c.take_least.new.self c.in-Some.placement c.loop-placement.invariant.0 c.in-Some.ensures.least c.in-Some.ensures.rest).below

pub loop-placement-smaller : goal.loop-placement-smaller
loop-placement-smaller g c =
    let p = c.args.self.now.position in
    taken-fewer c.args.kept.now.game (filled p.well) p.rows c.args.asked.now.piece c.args.asked.now.left (has_number c.args.asked.now.hands.items) c.loop-placement.children.items c.loop-placement.places c.take_least.new.self c.in-Some.placement c.loop-placement.invariant.0 c.in-Some.ensures.least c.in-Some.ensures.rest

pub loop-placement-smaller-in-Continue-1 : goal.loop-placement-smaller-in-Continue-1
loop-placement-smaller-in-Continue-1 g c =
    let p = c.args.self.now.position in
    taken-fewer c.args.kept.now.game (filled p.well) p.rows c.args.asked.now.piece c.args.asked.now.left (has_number c.args.asked.now.hands.items) c.loop-placement.children.items c.loop-placement.places c.take_least.new.self c.in-Some.placement c.loop-placement.invariant.0 c.in-Some.ensures.least c.in-Some.ensures.rest

pub loop-placement-preserved-in-Continue-1 : goal.loop-placement-preserved-in-Continue-1
loop-placement-preserved-in-Continue-1 g c =
    let p = c.args.self.now.position in
    let low = taken c.args.kept.now.game (filled p.well) p.rows c.args.asked.now.piece c.args.asked.now.left (has_number c.args.asked.now.hands.items) c.loop-placement.children.items c.loop-placement.places c.take_least.new.self c.in-Some.placement c.loop-placement.invariant.0 c.in-Some.ensures.least c.in-Some.ensures.rest in (
      subst (λ l. Entering c.args.kept.now.game (filled p.well) p.rows c.args.asked.now.piece c.args.asked.now.left (has_number c.args.asked.now.hands.items) l c.take_least.new.self) (sym c.in_ok-push.ensures.items)
          (enter-more c.args.kept.now.game (filled p.well) p.rows c.args.asked.now.piece c.args.asked.now.left (has_number c.args.asked.now.hands.items) c.loop-placement.children.items c.loop-placement.places c.take_least.new.self c.in-Some.placement c.loop-placement.invariant.0 c.in-Some.ensures.least c.in-Some.ensures.rest
          (record { placement = c.in-Some.placement; position = c.after.result; standing = c.standing-standing.result })
          c.after.ensures.field c.after.ensures.rows),
      subst (All (IsChild c.args.self.now.game p c.args.asked.now.piece)) (sym c.in_ok-push.ensures.items)
          (All-push (IsChild c.args.self.now.game p c.args.asked.now.piece) c.loop-placement.children.items (record { placement = c.in-Some.placement; position = c.after.result; standing = c.standing-standing.result }) c.loop-placement.invariant.1
          (record {
            kind = low.kind;
            place = subst (λ (game : Game). IsPlace (table_of game.rules) (filled p.well) game.drop_mode c.in-Some.placement) c.requires.game low.place;
            below = low.below;
            field = c.after.ensures.field;
            left = c.after.ensures.rows;
          })),
      subst (All (λ child. IsStanding c.args.self.now.known.items c.args.self.now.rows child.placement child.standing)) (sym c.in_ok-push.ensures.items)
          (All-push (λ child. IsStanding c.args.self.now.known.items c.args.self.now.rows child.placement child.standing) c.loop-placement.children.items _ c.loop-placement.invariant.2 c.standing-standing.ensures),
    )

pub loop-placement-preserved : goal.loop-placement-preserved
loop-placement-preserved g c =
    let p = c.args.self.now.position in (
      enter-skip c.args.kept.now.game (filled p.well) p.rows c.args.asked.now.piece c.args.asked.now.left (has_number c.args.asked.now.hands.items) c.loop-placement.children.items c.loop-placement.places c.take_least.new.self c.in-Some.placement c.loop-placement.invariant.0 c.in-Some.ensures.least c.in-Some.ensures.rest
          (λ rest here. ap (λ (game : Game). is_good_with game (filled p.well) p.rows c.args.asked.now.left rest c.in-Some.placement) c.requires.game ∙ c.is_worth.ensures c.if-is_worth.false rest here),
      c.loop-placement.invariant.1,
      c.loop-placement.invariant.2,
    )

pub returns-clause-good : goal.returns-clause-good
returns-clause-good g c = λ rest here.
    let p = c.args.self.now.position in
    in-any-order c.args.kept.now.game c.loop-placement.children.items c.sort_unstable_by_key.new.self.items c.args.asked.now.left rest c.sort_unstable_by_key.ensures.permutation
    ∙ enter-ends c.args.kept.now.game (filled p.well) p.rows c.args.asked.now.piece c.args.asked.now.left (has_number c.args.asked.now.hands.items) c.loop-placement.children.items c.loop-placement.places c.loop-placement.invariant.0 c.in_default.ensures.least rest here

pub returns-clause-after : goal.returns-clause-after
returns-clause-after g c =
    let p = c.args.self.now.position in
    All-permutation (IsChild c.args.self.now.game p c.args.asked.now.piece) c.loop-placement.children.items c.sort_unstable_by_key.new.self.items c.sort_unstable_by_key.ensures.permutation c.loop-placement.invariant.1

pub returns-clause-standing : goal.returns-clause-standing
returns-clause-standing g c =
    All-permutation (λ child. IsStanding c.args.self.now.known.items c.args.self.now.rows child.placement child.standing) c.loop-placement.children.items c.sort_unstable_by_key.new.self.items c.sort_unstable_by_key.ensures.permutation c.loop-placement.invariant.2

pub taken-taken-requires-clause-free : goal.taken-taken-requires-clause-free
taken-taken-requires-clause-free g c =
    let p = c.args.self.now.position in
    low-free c.args.kept.now.game (filled p.well) p.rows c.args.asked.now.piece c.in-Some.placement
    (taken c.args.kept.now.game (filled p.well) p.rows c.args.asked.now.piece c.args.asked.now.left (has_number c.args.asked.now.hands.items) c.loop-placement.children.items c.loop-placement.places c.take_least.new.self c.in-Some.placement c.loop-placement.invariant.0 c.in-Some.ensures.least c.in-Some.ensures.rest)

pub taken-taken-requires-clause-below : goal.taken-taken-requires-clause-below
taken-taken-requires-clause-below g c =
    let p = c.args.self.now.position in
    (taken c.args.kept.now.game (filled p.well) p.rows c.args.asked.now.piece c.args.asked.now.left (has_number c.args.asked.now.hands.items) c.loop-placement.children.items c.loop-placement.places c.take_least.new.self c.in-Some.placement c.loop-placement.invariant.0 c.in-Some.ensures.least c.in-Some.ensures.rest).below
