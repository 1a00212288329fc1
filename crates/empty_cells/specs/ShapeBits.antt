-- The cells of a piece as bits of a number: those that the pivot has where it lies in column 2 and row 2.
use Rattle.std.specs.Prelude.{ℕ, ◌+◌, ◌*◌, ◌==◌, Bool, pos, ◌+ℤ◌, nat_abs, List}
use Rattle.std.specs.List.{list_any}
use Rattle.srs.specs.Cells.{Cell}

-- the index of the bit of the cell that lies by an offset from that pivot
abbrev pub bit_index : Cell → ℕ
bit_index offset = 8 * nat_abs (pos 2 +ℤ offset.0) + nat_abs (pos 2 +ℤ offset.1)

-- whether it is the bit of one of the cells at these offsets
abbrev pub has_shape_bit : List Cell → ℕ → Bool
has_shape_bit offsets index = list_any (λ offset. bit_index offset == index) offsets
