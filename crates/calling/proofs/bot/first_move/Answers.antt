-- The least solution has a first placement, which is a place.
use Rattle.std.proofs.Common.{sym, subst}
use Rattle.std.specs.Prelude.{None}
use Rattle.srs.specs.declared.placement.Placement.{Placement}
use Rattle.srs.specs.declared.piece.Piece.TheVariants.{I}
use Rattle.srs.specs.declared.rotation.Rotation.TheVariants.{Spawn}
use Rattle.srs.specs.Order.{sequence_cmp}
use Rattle.srs.specs.Rising.{IsLeastAbove, IsNextAbove}
use Rattle.enumerate.specs.Items.{items_of}
use Rattle.problem.specs.Solution.{IsSolution}
use Rattle.calling.proofs.FirstPlacement.{first_begins, first_place}
use Rattle.calling.proofs.bot.first_move.Goals as goal

-- what an index past the end would read
abbrev default : Placement
default = record { piece = I; rotation = Spawn; x = 0; y = 0 }

pub with_keys-requires : goal.with_keys-requires
with_keys-requires c =
    let problem = c.args.problem in
    let least : IsLeastAbove sequence_cmp (IsSolution problem None) None c.in-Some.solution.items =
    subst (λ found. IsNextAbove sequence_cmp (IsSolution problem None) None (items_of found)) c.in-Some.is c.in_ok-solution.ensures in
    first_place problem c.requires c.as_slice.result.now default (subst (IsSolution problem None) (sym c.as_slice.ensures.value) least.member)

pub returns : goal.returns
returns c =
    let problem = c.args.problem in
    let least : IsLeastAbove sequence_cmp (IsSolution problem None) None c.in-Some.solution.items =
    subst (λ found. IsNextAbove sequence_cmp (IsSolution problem None) None (items_of found)) c.in-Some.is c.in_ok-solution.ensures in
    first_begins problem c.requires c.as_slice.result.now default c.with_keys.result.placement c.with_keys.result.keys.items c.with_keys.ensures.placement
    (subst (IsLeastAbove sequence_cmp (IsSolution problem None) None) (sym c.as_slice.ensures.value) least) c.with_keys.ensures.keys
