-- A word that isn't 0 has a lowest bit.
use Rattle.std.proofs.Common.{◌≡◌, ℕ, ◌<◌, ◌^◌, w64, false, ◌==◌, ◌↔◌, arith, rules}
use Rattle.std.specs.Prelude.{IsTrue}
use Rattle.std.proofs.lemmas.Nat.Bits.{bit_at-trailing_zeros}
use Rattle.std.proofs.lemmas.Bool.{both_ways, eq-eqb, eqb-true}
use Rattle.std.proofs.Math.Nat.{eq-zero-or-pos}
use Rattle.lane_board.specs.Lanes.{has_bit}
use Rattle.lane_board.proofs.RowBits.{has_bit-zero}
use Rattle.lane_board.proofs.LowestBits.{lowest-is}
use Rattle.lane_board.proofs.words.has_none.Goals as goal

no_bit : (word : ℕ) → word < 2 ^ 64 → IsTrue (word == 0) ↔ ((k : ℕ) → k < 64 → has_bit word k ≡ false)
no_bit word fits = search (rules, (eqb-true word 0), has_bit-zero, (eq-eqb word 0), (eq-zero-or-pos word), both_ways, (bit_at-trailing_zeros w64 word), (lowest-is word))

pub returns : goal.returns
returns c = no_bit c.args.word (omega arith)
