-- One round more; it ends where all rests are held, or where a round changes nothing.
use Rattle.std.proofs.Common.{inl, arith}
use Rattle.srs.specs.declared.rotation.Rotation.{Rotation}
use Rattle.place_sets.specs.States.{states_of}
use Rattle.low_flood.proofs.SoftLemmas.{begins, goes_on, ends, ends_at_once, still_round, round_grows, missing_less}
use Rattle.place_sets.proofs.CallerLemmas.{states_within}
use Rattle.low_flood.proofs.soft.flood.Goals as goal

pub rounds-init : goal.rounds-init
rounds-init g c = begins c.args.piece g.row.N (states_of c.args.free.now) (states_of c.skies-sky.result) (states_of c.spread_all-reached.result) c.skies-sky.ensures c.spread_all-reached.ensures

pub rounds-preserved : goal.rounds-preserved
rounds-preserved g c = goes_on c.args.piece g.row.N (states_of c.args.free.now) (states_of c.rounds.reached) (states_of c.round-next.result) c.rounds.invariant c.round-next.ensures

pub rounds-smaller : goal.rounds-smaller
rounds-smaller g c =
    missing_less g.row.N (states_of c.rounds.reached) (states_of c.round-next.result) c.in-Some.field-0
    (round_grows c.args.piece g.row.N (states_of c.args.free.now) (states_of c.rounds.reached) (states_of c.round-next.result) c.round-next.ensures)
    (λ (r : Rotation). states_within c.round-next.result r) c.in-Some.ensures

pub returns-then-has_all_rests : goal.returns-then-has_all_rests
returns-then-has_all_rests g c = ends_at_once c.args.piece g.row.N (states_of c.args.free.now) (states_of c.skies-sky.result) c.skies-sky.ensures (c.has_all_rests.ensures c.if-has_all_rests.true)

pub returns-then-has_all_rests-2 : goal.returns-then-has_all_rests-2
returns-then-has_all_rests-2 g c = ends c.args.piece g.row.N (states_of c.args.free.now) (states_of c.rounds.reached) c.rounds.invariant (inl (c.has_all_rests-in-rounds.ensures c.if-has_all_rests-2.true))

pub returns-in-None : goal.returns-in-None
returns-in-None g c = grind (arith, ends, still_round)
