-- The next kind, if there is one, is passed or flooded.
use Rattle.std.proofs.Common.{◌∷◌, sym, ap, ◌∙◌, rules}
use Rattle.std.specs.Prelude.{drop}
use Rattle.srs.specs.Piece.{all_pieces}
use Rattle.reach.specs.FloodRules.{flood_table}
use Rattle.enumerate.specs.Setups.{state_of}
use Rattle.enumerate.proofs.TryLemmas.{goes-over, goes-flooded}
use Rattle.enumerate.proofs.Counting.{counts-none}
use Rattle.enumerate.proofs.frame.Frame.try_kind.Goals as goal

pub returns-in-None-clause-tries : goal.returns-in-None-clause-tries
returns-in-None-clause-tries g c =
    search (rules, (goes-over (flood_table c.args.rules.now) c.args.drop_mode c.next_kind.new.self c.in-None.ensures.none c.in-None.ensures.next), (c.in-None.ensures.goes (flood_table c.args.rules.now) c.args.drop_mode))

pub flood-requires-clause-permitted : goal.flood-requires-clause-permitted
flood-requires-clause-permitted g c = c.in-Some.ensures.next.1

pub leave_out_dead-requires : goal.leave_out_dead-requires
leave_out_dead-requires g c = c.flood.ensures.piece

pub returns-clause-tries : goal.returns-clause-tries
unfolding state_of
returns-clause-tries g c =
    search (rules, (goes-flooded (flood_table c.args.rules.now) c.args.drop_mode c.next_kind.new.self c.flood.new.self c.flood.ensures.same c.in-Some.piece c.in-Some.ensures.none (c.in-Some.ensures.next.0 ∙ ap (λ k. c.in-Some.piece ∷ drop k all_pieces) (sym c.flood.ensures.tried)) c.in-Some.ensures.next.1 c.flood.ensures.places))

pub returns-clause-same : goal.returns-clause-same
returns-clause-same g c = c.leave_out_dead.ensures.same ∙ c.flood.ensures.same ∙ c.in-Some.ensures.same

pub returns-in-None-clause-noted : goal.returns-in-None-clause-noted
returns-in-None-clause-noted g c = counts-none c.args.notes.now.floods c.args.steps.now
