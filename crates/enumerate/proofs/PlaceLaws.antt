-- A place may lock, and what may lock is canonical, lies inside the well and is free.
use Rattle.std.proofs.Common.{◌≡◌, true, ◌&&◌, ap, eq-eqb, rules}
use Rattle.std.specs.Prelude.{◌==◌}
use Rattle.lane_board.specs.Field.{Field}
use Rattle.srs.specs.declared.piece.Piece.{Piece}
use Rattle.srs.specs.declared.placement.Placement.{Placement}
use Rattle.srs.specs.Piece.{piece_code}
use Rattle.srs.specs.Kick.{Table}
use Rattle.srs.specs.Cells.{is_inside_of}
use Rattle.srs.specs.Canonical.{is_canonical}
use Rattle.srs.specs.Placements.{IsCanonicalInside, is_canonical_inside}
use Rattle.srs.proofs.CallerLemmas.{is_canonical-from, IsCanonical-from_test, piece_code-injective, and_first, and_second}
use Rattle.std.proofs.lemmas.Bool.{eqb-true, and_from}
use Rattle.well.specs.Free.{is_free}
use Rattle.well.proofs.CallerLemmas.{free_inside}
use Rattle.moves.specs.declared.key.DropMode.{DropMode}
use Rattle.moves.specs.Place.{IsPlace}
use Rattle.moves.proofs.CallerLemmas.{place-free}
use Rattle.enumerate.specs.Standing.{may_lock}

pub place-lockable : (table : Table) (F : Field) (mode : DropMode) (piece : Piece) (q : Placement) → q.piece ≡ piece → IsPlace table F mode q → may_lock F piece q ≡ true
unfolding may_lock
place-lockable table F mode piece q kind place =
    search (rules, (and_from (piece_code q.piece == piece_code piece) (is_canonical_inside q && is_free F q) (eq-eqb (piece_code q.piece) (piece_code piece) (ap piece_code kind)) (and_from (is_canonical_inside q) (is_free F q) (and_from (is_canonical q) (is_inside_of q) (is_canonical-from q place.canonical) (free_inside F q (place-free table F mode q place))) (place-free table F mode q place))))

-- what may lock
module _ (F : Field) (piece : Piece) (q : Placement) (lockable : may_lock F piece q ≡ true) where
  pub lockable-piece : q.piece ≡ piece
  unfolding may_lock
  lockable-piece = piece_code-injective q.piece piece (eqb-true (piece_code q.piece) (piece_code piece) (and_first (piece_code q.piece == piece_code piece) _ lockable))

  pub lockable_free : is_free F q ≡ true
  unfolding may_lock
  lockable_free = and_second (is_canonical_inside q) _ (and_second (piece_code q.piece == piece_code piece) _ lockable)

  pub lockable-listed : IsCanonicalInside piece q
  unfolding may_lock
  lockable-listed = search (rules, IsCanonical-from_test, and_first, and_second)
