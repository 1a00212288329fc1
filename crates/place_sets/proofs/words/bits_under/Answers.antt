-- The mask has the bits of the rows.
use Rattle.std.proofs.Common.{◌≡◌, ℕ, ◌∷◌, [], List, ◌*◌, ◌+◌, ◌-◌, ◌/◌, ◌%◌, ◌^◌, ◌<◌, ◌≤◌, ◌&&◌, bit_and, nat_lt, min, get_or, ap, ◌∙◌, arith, rules}
use Rattle.std.proofs.lemmas.Bool.{lt-ltb, ltb-true}
use Rattle.lane_board.specs.Lanes.{has_bit}
use Rattle.lane_board.proofs.CallerLemmas.{same_from_both}
use Rattle.place_sets.proofs.WordLemmas.{has_bit-ones}
use Rattle.place_sets.proofs.words.bits_under.Goals as goal

abbrev all_rows : ℕ
all_rows = 18446744073709551615

abbrev masks : List ℕ
masks = 0 ∷ 0 ∷ 65535 ∷ 0 ∷ 4294967295 ∷ 0 ∷ 281474976710655 ∷ 0 ∷ all_rows ∷ 0 ∷ all_rows ∷ 65535 ∷ all_rows ∷ 4294967295 ∷ all_rows ∷ 281474976710655 ∷ all_rows ∷ all_rows ∷ []

ones : (at : ℕ) → at ≤ 17 → get_or masks at 0 ≡ 2 ^ (16 * min (at / 2 - 4 * (at % 2)) 4) - 1
ones at few = search rules

kept : (word four rows at k : ℕ) → at ≡ 2 * rows + four → four ≤ 1 → rows ≤ 8 → k < 64 →
    has_bit (bit_and word (get_or masks at 0)) k ≡ (has_bit word k && nat_lt k (16 * (rows - 4 * four)))
kept word four rows at k is small eight within =
    let half : at / 2 ≡ rows = omega (arith, is) in
    let rest : at % 2 ≡ four = omega (arith, is) in
    ap (λ m. has_bit (bit_and word m) k) (ones at (omega (arith, is)))
    ∙ has_bit-ones word (16 * min (at / 2 - 4 * (at % 2)) 4) k
    ∙ ap (λ b. has_bit word k && b) (same_from_both (nat_lt k (16 * min (at / 2 - 4 * (at % 2)) 4)) (nat_lt k (16 * (rows - 4 * four)))
    (λ low. lt-ltb k (16 * (rows - 4 * four)) (omega (arith, ltb-true k (16 * min (at / 2 - 4 * (at % 2)) 4) low, half, rest)))
    (λ low. lt-ltb k (16 * min (at / 2 - 4 * (at % 2)) 4) (omega (arith, ltb-true k (16 * (rows - 4 * four)) low, half, rest, within))))

pub returns : goal.returns
returns c = λ k within. kept c.args.word c.args.four c.args.rows c.from.result k c.from.ensures c.requires.four c.requires.eight within
