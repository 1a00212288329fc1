-- Shifted bits, taken together.
use Rattle.std.proofs.Common.{◌+◌, ◌*◌, ◌/◌, bit_and, ap₂, ◌&&◌, ◌∙◌, sym}
use Rattle.std.proofs.Math.Bool.{and-true}
use Rattle.lane_board.specs.Lanes.{has_bit}
use Rattle.lane_board.proofs.CallerLemmas.{has_bit-and, has_bit-shifted_right}
use Rattle.empty_cells.proofs.SpanBits.{and_two, and_three, and_four, bit_here}
use Rattle.empty_cells.proofs.span.Span.starts.Goals as goal

pub returns-in-Second : goal.returns-in-Second
returns-in-Second c = rw c.in-Second.is (λ k. has_bit-shifted_right c.args.cells 8 k ∙ sym (and-true _))

pub returns-in-Third : goal.returns-in-Third
returns-in-Third c = rw c.in-Third.is (λ k. has_bit-shifted_right c.args.cells 16 k ∙ sym (and-true _))

pub returns-in-FirstTwo : goal.returns-in-FirstTwo
returns-in-FirstTwo c = rw c.in-FirstTwo.is (λ k. let n = c.args.cells in
    has_bit-and n (n / 256) k
    ∙ ap₂ ◌&&◌ (bit_here n k) (has_bit-shifted_right n 8 k)
    ∙ and_two _ _)

pub returns-in-SecondTwo : goal.returns-in-SecondTwo
returns-in-SecondTwo c = rw c.in-SecondTwo.is (λ k. let n = c.args.cells in
    has_bit-and (n / 256) (n / 65536) k
    ∙ ap₂ ◌&&◌ (has_bit-shifted_right n 8 k) (has_bit-shifted_right n 16 k)
    ∙ and_two _ _)

pub returns-in-FirstThree : goal.returns-in-FirstThree
returns-in-FirstThree c = rw c.in-FirstThree.is (λ k. let n = c.args.cells in
    has_bit-and (bit_and n (n / 256)) (n / 65536) k
    ∙ ap₂ ◌&&◌ (has_bit-and n (n / 256) k ∙ ap₂ ◌&&◌ (bit_here n k) (has_bit-shifted_right n 8 k)) (has_bit-shifted_right n 16 k)
    ∙ and_three (has_bit n (8 * 0 + k)) (has_bit n (8 + k)) (has_bit n (16 + k)))

pub returns-in-AllFour : goal.returns-in-AllFour
returns-in-AllFour c = rw c.in-AllFour.is (λ k. let n = c.args.cells in
    has_bit-and (bit_and (bit_and n (n / 256)) (n / 65536)) (n / 16777216) k
    ∙ ap₂ ◌&&◌
    (has_bit-and (bit_and n (n / 256)) (n / 65536) k ∙ ap₂ ◌&&◌ (has_bit-and n (n / 256) k ∙ ap₂ ◌&&◌ (bit_here n k) (has_bit-shifted_right n 8 k)) (has_bit-shifted_right n 16 k))
    (has_bit-shifted_right n 24 k)
    ∙ and_four (has_bit n (8 * 0 + k)) (has_bit n (8 + k)) (has_bit n (16 + k)) (has_bit n (24 + k)))
