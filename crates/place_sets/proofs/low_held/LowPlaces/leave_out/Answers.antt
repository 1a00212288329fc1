-- Each word loses these bits.
use Rattle.std.proofs.Common.{◌≡◌, ℕ, not, ◌&&◌, ◌==◌, get_or, refl, ap, ◌∙◌, sym}
use Rattle.std.proofs.Math.Bool.{and_assoc}
use Rattle.srs.proofs.CallerLemmas.{rotation_index-small}
use Rattle.srs.specs.Piece.{piece_code}
use Rattle.srs.specs.Rotation.{rotation_index}
use Rattle.lane_board.specs.Lanes.{has_bit}
use Rattle.place_sets.specs.LowPlaces.{holds, piece_of}
use Rattle.place_sets.proofs.LowPlaceLemmas.{cells-lost, each_word}
use Rattle.place_sets.proofs.low_held.LowPlaces.leave_out.Goals as goal

pub returns-clause-piece : goal.returns-clause-piece
unfolding piece_of
returns-clause-piece c = refl

pub returns-clause-held : goal.returns-clause-held
unfolding holds piece_of
returns-clause-held c = λ q.
    ap (λ b. (piece_code q.piece == piece_code (piece_of c.args.self.now)) && b)
    (cells-lost c.args.self.now.words _ c.args.pivots.now
    (each_word (λ w. (k : ℕ) → _ ≡ (has_bit (get_or c.args.self.now.words w 0) k && not (has_bit (get_or c.args.pivots.now w 0) k)))
    c.bits_without.ensures.bits c.bits_without-2.ensures.bits c.bits_without-3.ensures.bits c.bits_without-4.ensures.bits
    c.bits_without-5.ensures.bits c.bits_without-6.ensures.bits c.bits_without-7.ensures.bits c.bits_without-8.ensures.bits)
    (rotation_index q.rotation) q.x q.y (rotation_index-small q.rotation))
    ∙ sym (and_assoc (piece_code q.piece == piece_code (piece_of c.args.self.now)) _ _)
