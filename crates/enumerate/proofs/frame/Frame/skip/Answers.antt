-- What comes before the placement is passed by, and what comes first at the placement itself is its frame or nothing.
use Rattle.std.proofs.Common.{◌≡◌, refl, sym, subst, ◌∙◌, true, arith, rules}
use Rattle.reach.specs.FloodRules.{flood_table}
use Rattle.srs.proofs.CallerLemmas.{some_same}
use Rattle.well.specs.Well.{filled}
use Rattle.well.specs.LockLaws.{is_below}
use Rattle.moves.specs.PlaceTest.{is_place}
use Rattle.hold_queue.specs.QueueSet.{queues_in_play}
use Rattle.moves.proofs.CallerLemmas.{is_place-decides}
use Rattle.enumerate.specs.Frames.{places_left}
use Rattle.enumerate.specs.Setups.{state_of}
use Rattle.enumerate.specs.declared.setup.Setup.{Setup}
use Rattle.enumerate.proofs.PlaceLaws.{place-lockable}
use Rattle.enumerate.proofs.SkipLemmas.{dead-result, dead-untiled, held-below, held-place, left-above, passes-kind, skips-dead, skips-entered, skips-same, skips-unplaced, unheld-place}
use Rattle.enumerate.proofs.TryLemmas.{may_play-answer}
use Rattle.enumerate.proofs.Counting.{counts-none}
use Rattle.enumerate.proofs.frame.Frame.skip.Goals as goal

pub returns-then-not-may_play-clause-skips : goal.returns-then-not-may_play-clause-skips
unfolding places_left
returns-then-not-may_play-clause-skips g c = λ prefix given.
    skips-same _ _ c.args.steps.now
    (passes-kind (flood_table c.args.rules.now) c.args.drop_mode c.args.self.now _ refl c.args.target.now c.requires.fresh.live c.code-self.ensures
    (may_play-answer (queues_in_play c.args.self.now.setup.line.queues) c.args.target.now.piece c.may_play.result c.may_play.ensures.permitted ∙ c.if-not-may_play.true) refl prefix given)

pub flood-requires-clause-permitted : goal.flood-requires-clause-permitted
flood-requires-clause-permitted g c = may_play-answer (queues_in_play c.args.self.now.setup.line.queues) c.args.target.now.piece c.may_play.result c.may_play.ensures.permitted ∙ c.if-not-may_play.false

pub invariant_of-self-2 : goal.invariant_of-self-2
invariant_of-self-2 g c = grind (arith, some_same)

pub returns-then-not-reached-clause-skips : goal.returns-then-not-reached-clause-skips
unfolding state_of
returns-then-not-reached-clause-skips g c =
    let played = may_play-answer (queues_in_play c.args.self.now.setup.line.queues) c.args.target.now.piece c.may_play.result c.may_play.ensures.permitted ∙ c.if-not-may_play.false in
    skips-unplaced (flood_table c.args.rules.now) c.args.drop_mode c.args.self.now _
    c.flood.ensures.same c.args.target.now c.requires.fresh.live
    (c.flood.ensures.tried ∙ c.code-self.ensures) played
    (left-above (state_of (flood_table c.args.rules.now) c.args.drop_mode c.args.self.now.setup) c.flood.new.self.places c.flood.new.self.entered c.flood.ensures.entered c.args.target.now c.flood.ensures.places)
    c.args.steps.now c.flood.new.steps c.flood.ensures.counted
    (unheld-place (state_of (flood_table c.args.rules.now) c.args.drop_mode c.args.self.now.setup) c.args.target.now _ c.flood.ensures.places c.reaches-reached.result c.reaches-reached.ensures c.if-not-reached.true)

pub enter-requires-clause-lockable : goal.enter-requires-clause-lockable
unfolding state_of
enter-requires-clause-lockable g c =
    let placed = held-place (state_of (flood_table c.args.rules.now) c.args.drop_mode c.args.self.now.setup) c.args.target.now _ c.flood.ensures.places c.reaches-reached.result c.reaches-reached.ensures c.if-not-reached.false in
    place-lockable (flood_table c.args.rules.now) (filled c.flood.new.self.setup.well) c.args.drop_mode c.args.target.now.piece c.args.target.now refl
    ((is_place-decides (flood_table c.args.rules.now) (filled c.flood.new.self.setup.well) c.args.drop_mode c.args.target.now).0
    (subst (λ (s : Setup). is_place (flood_table c.args.rules.now) (filled s.well) c.args.drop_mode c.args.target.now ≡ true) (sym c.flood.ensures.same) placed))

pub enter-requires-clause-below : goal.enter-requires-clause-below
unfolding state_of
enter-requires-clause-below g c =
    subst (λ (s : Setup). is_below s.rows c.args.target.now ≡ true) (sym c.flood.ensures.same)
    (held-below (state_of (flood_table c.args.rules.now) c.args.drop_mode c.args.self.now.setup) c.args.target.now _ c.flood.ensures.places c.reaches-reached.result c.reaches-reached.ensures c.if-not-reached.false)

pub enter-requires-clause-permitted : goal.enter-requires-clause-permitted
enter-requires-clause-permitted g c =
    search (rules, (may_play-answer (queues_in_play c.args.self.now.setup.line.queues) c.args.target.now.piece c.may_play.result c.may_play.ensures.permitted))

pub returns-in-Entered-clause-skips : goal.returns-in-Entered-clause-skips
unfolding state_of
returns-in-Entered-clause-skips g c =
    let played = may_play-answer (queues_in_play c.args.self.now.setup.line.queues) c.args.target.now.piece c.may_play.result c.may_play.ensures.permitted ∙ c.if-not-may_play.false in
    let placed = held-place (state_of (flood_table c.args.rules.now) c.args.drop_mode c.args.self.now.setup) c.args.target.now _ c.flood.ensures.places c.reaches-reached.result c.reaches-reached.ensures c.if-not-reached.false in (
      skips-entered (flood_table c.args.rules.now) c.args.drop_mode c.args.self.now _
          c.flood.ensures.same c.args.target.now c.requires.fresh.live
          (c.flood.ensures.tried ∙ c.code-self.ensures) played
          (left-above (state_of (flood_table c.args.rules.now) c.args.drop_mode c.args.self.now.setup) c.flood.new.self.places c.flood.new.self.entered c.flood.ensures.entered c.args.target.now c.flood.ensures.places)
          c.args.steps.now c.flood.new.steps c.flood.ensures.counted placed refl _ c.in-Entered.ensures.enters.1,
      record { tried = c.in-Entered.ensures.enters.1.tried; places = c.in-Entered.ensures.enters.1.places; live = c.in-Entered.ensures.enters.1.live (flood_table c.args.rules.now) c.args.drop_mode },
      c.in-Entered.ensures.enters.1.left ∙ (λ i. (c.flood.ensures.same i).left),
    )

pub returns-in_default : goal.returns-in_default
unfolding state_of
returns-in_default g c =
    let played = may_play-answer (queues_in_play c.args.self.now.setup.line.queues) c.args.target.now.piece c.may_play.result c.may_play.ensures.permitted ∙ c.if-not-may_play.false in
    record {
      skips = skips-dead (flood_table c.args.rules.now) c.args.drop_mode c.args.self.now _
          c.flood.ensures.same c.args.target.now c.requires.fresh.live
          (c.flood.ensures.tried ∙ c.code-self.ensures) played
          (left-above (state_of (flood_table c.args.rules.now) c.args.drop_mode c.args.self.now.setup) c.flood.new.self.places c.flood.new.self.entered c.flood.ensures.entered c.args.target.now c.flood.ensures.places)
          c.args.steps.now c.flood.new.steps c.flood.ensures.counted
          (dead-result (flood_table c.args.rules.now) c.args.drop_mode c.args.self.now.setup _
          c.flood.ensures.same c.args.target.now _ c.enter.result c.enter.ensures.enters c.in_default.not-Entered
          (is_place (flood_table c.args.rules.now) (filled c.args.self.now.setup.well) c.args.drop_mode c.args.target.now));
      size = c.enter.ensures.size;
      same = c.flood.ensures.same;
      noted = c.flood.ensures.noted;
    }

pub is_worth-requires-clause-lockable : goal.is_worth-requires-clause-lockable
unfolding state_of
is_worth-requires-clause-lockable g c =
    let placed = held-place (state_of (flood_table c.args.rules.now) c.args.drop_mode c.args.self.now.setup) c.args.target.now _ c.flood.ensures.places c.reaches-reached.result c.reaches-reached.ensures c.if-not-reached.false in
    place-lockable (flood_table c.args.rules.now) (filled c.flood.new.self.setup.well) c.args.drop_mode c.args.target.now.piece c.args.target.now refl
    ((is_place-decides (flood_table c.args.rules.now) (filled c.flood.new.self.setup.well) c.args.drop_mode c.args.target.now).0
    (subst (λ (s : Setup). is_place (flood_table c.args.rules.now) (filled s.well) c.args.drop_mode c.args.target.now ≡ true) (sym c.flood.ensures.same) placed))

pub is_worth-requires-clause-below : goal.is_worth-requires-clause-below
unfolding state_of
is_worth-requires-clause-below g c =
    subst (λ (s : Setup). is_below s.rows c.args.target.now ≡ true) (sym c.flood.ensures.same)
    (held-below (state_of (flood_table c.args.rules.now) c.args.drop_mode c.args.self.now.setup) c.args.target.now _ c.flood.ensures.places c.reaches-reached.result c.reaches-reached.ensures c.if-not-reached.false)

pub enter-requires-clause-live : goal.enter-requires-clause-live
enter-requires-clause-live g c = c.is_worth.ensures.live c.if-not-is_worth.false

pub returns-then-not-is_worth-clause-skips : goal.returns-then-not-is_worth-clause-skips
unfolding state_of
returns-then-not-is_worth-clause-skips g c =
    let played = may_play-answer (queues_in_play c.args.self.now.setup.line.queues) c.args.target.now.piece c.may_play.result c.may_play.ensures.permitted ∙ c.if-not-may_play.false in
    skips-dead (flood_table c.args.rules.now) c.args.drop_mode c.args.self.now _ c.flood.ensures.same c.args.target.now c.requires.fresh.live
    (c.flood.ensures.tried ∙ c.code-self.ensures) played
    (left-above (state_of (flood_table c.args.rules.now) c.args.drop_mode c.args.self.now.setup) c.flood.new.self.places c.flood.new.self.entered c.flood.ensures.entered c.args.target.now c.flood.ensures.places)
    c.args.steps.now c.flood.new.steps c.flood.ensures.counted
    (dead-untiled (flood_table c.args.rules.now) c.args.drop_mode c.args.self.now.setup _ c.flood.ensures.same c.args.target.now
    (is_place (flood_table c.args.rules.now) (filled c.args.self.now.setup.well) c.args.drop_mode c.args.target.now) (c.is_worth.ensures.dead c.if-not-is_worth.true))

pub returns-then-not-may_play-clause-noted : goal.returns-then-not-may_play-clause-noted
returns-then-not-may_play-clause-noted g c = counts-none c.args.notes.now.floods c.args.steps.now
