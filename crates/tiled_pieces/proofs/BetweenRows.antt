-- The rows between those of a set, tried for each set.
use Rattle.std.proofs.Common.{◌≡◌, ℕ, ◌*◌, ◌/◌, ◌%◌, ◌<◌, Bool, true, bit_and, bit_or, bit_xor, refl}
use Rattle.std.proofs.lemmas.Bool.{agree_below, agree_below_at}
use Rattle.lane_board.specs.Lanes.{has_bit}
use Rattle.tiled_pieces.specs.Words.{is_between}

abbrev spread_down : ℕ → ℕ
spread_down rows =
    let two = bit_or rows (rows / 2) in
    let four = bit_or two (two / 4) in
    bit_or four (four / 16)

abbrev spread_up : ℕ → ℕ
spread_up rows =
    let two = bit_or rows (rows * 2 % 256) in
    let four = bit_or two (two * 4 % 256) in
    bit_or four (four * 16 % 256)

abbrev pub between_rows : ℕ → ℕ
between_rows rows =
    let both = bit_and (spread_down rows) (spread_up rows) in
    bit_xor both (bit_and both rows)

pub between_bit : (rows z : ℕ) → rows < 256 → z < 8 → has_bit (between_rows rows) z ≡ is_between (has_bit rows) z
unfolding has_bit is_between
between_bit rows z small low =
    agree_below_at (has_bit (between_rows rows)) (is_between (has_bit rows)) 8 z
    (agree_below_at agrees (λ rows. true) 256 rows refl small) low
  where
    agrees : ℕ → Bool
    agrees rows = agree_below (has_bit (between_rows rows)) (is_between (has_bit rows)) 8
