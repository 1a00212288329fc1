-- The longest run is determined.
use Rattle.std.proofs.Common.{◌≡◌, ◌∙◌, List, length, ap, arith, refl, Option}
use Rattle.std.specs.Ordering.{ordering_reverse}
use Rattle.std.specs.declared.cmp.Ordering.{Ordering}
use Rattle.std.specs.declared.cmp.Ordering.TheVariants.{Less, Equal, Greater}
use Rattle.std.specs.FinMap.{slice_cmp-IsAntisymmetric}
use Rattle.lane_board.specs.Field.{Field}
use Rattle.srs.specs.declared.piece.Piece.{Piece}
use Rattle.srs.specs.declared.placement.Placement.{Placement}
use Rattle.srs.specs.Kick.{Table}
use Rattle.srs.specs.Order.{sequence_cmp}
use Rattle.srs.proofs.CallerLemmas.{placement_cmp-antisymmetric, sequence_cmp-total}
use Rattle.moves.specs.declared.key.DropMode.{DropMode}
use Rattle.hold_queue.specs.declared.hold.Hold.{Hold}
use Rattle.combo.specs.Longest.{IsLongest}

pub one_longest : (table : Table) (mode : DropMode) (F : Field) (hold : Hold) (queue : List Piece) (held : Option Piece) (one other : List Placement)
    → IsLongest table mode F hold queue held one → IsLongest table mode F hold queue held other → one ≡ other
one_longest table mode F hold queue held one other first second = by (sequence_cmp one other) refl
  where
    same : length one ≡ length other
    same = omega (arith, first.longest other second.permitted, second.longest one first.permitted)

    back : length other ≡ length one
    back = omega (arith, same)

    by : (o : Ordering) → sequence_cmp one other ≡ o → one ≡ other
    by Less is = absurd (second.least one first.permitted same is)
    by Equal is = slice_cmp-IsAntisymmetric placement_cmp-antisymmetric one other is
    by Greater is = absurd (first.least other second.permitted back (sequence_cmp-total.antisymm other one ∙ ap ordering_reverse is))
