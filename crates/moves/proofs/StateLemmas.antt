-- States of one piece are told apart by their numbers.
use Rattle.std.proofs.Common.{◌≡◌, ◌<◌, arith, rules}
use Rattle.srs.specs.declared.placement.Placement.{Placement}
use Rattle.srs.proofs.CallerLemmas.{rotation_index-injective, rotation_index-small, same_placement}
use Rattle.srs.specs.Cells.{HasPivotInWell}
use Rattle.moves.specs.States.{state_code}

pub code_below : (s : Placement) → HasPivotInWell s → state_code s < 920
unfolding state_code
code_below s pivot = omega (arith, pivot.in_columns, pivot.in_rows, rotation_index-small s.rotation)

-- states of one piece with one number are one
pub one_state : (s t : Placement) → s.piece ≡ t.piece → HasPivotInWell s → HasPivotInWell t → state_code s ≡ state_code t → s ≡ t
unfolding state_code
one_state s t kind here there e = search (rules, same_placement, rotation_index-injective)
