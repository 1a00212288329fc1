-- One word more of each rotation; all words have all rows.
use Rattle.std.proofs.Common.{arith, rules}
use Rattle.srs.proofs.CallerLemmas.{rotation_index-small}
use Rattle.srs.specs.declared.rotation.Rotation.{Rotation}
use Rattle.place_sets.specs.States.{states_of}
use Rattle.place_sets.proofs.NumberLemmas.{states_by, four_more, four_set-length, rows_here}
use Rattle.place_sets.proofs.StateSets.{states_within}
use Rattle.place_sets.proofs.numbers.Numbers.of_states.Goals as goal

pub loop-at-preserved : goal.loop-at-preserved
unfolding states_of
loop-at-preserved c = search (rules, four_set-length, four_more, rows_here)

pub returns : goal.returns
returns c = states_by _ (states_of c.args.states.now) (λ (r : Rotation). states_within c.args.states.now r) (λ w below. c.loop-at.invariant.1 w below (omega arith)) rotation_index-small
