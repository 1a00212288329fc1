-- The front has the upper bits, and the place the lower.
use Rattle.std.proofs.Common.{◌≡◌, ℕ, ◌+◌, ◌*◌, ◌^◌, ◌%◌, ◌<◌, bit_or, ◌∙◌, arith}
use Rattle.std.proofs.lemmas.Nat.{or_shifted}
use Rattle.tails.specs.Numbers.{tail_number}
use Rattle.tails.proofs.numbers.tail_number.Goals as goal

joined : (state held place s h p : ℕ) → s ≡ state → h ≡ held → p ≡ place → state < 2 ^ 16 → held < 8 → place < 2 ^ 32
    → bit_or ((s * 8 + h) * 2 ^ 32 % 2 ^ 64) p ≡ tail_number state held place
unfolding tail_number
joined state held place s h p s_is h_is p_is within small few =
    let same : (s * 8 + h) * 2 ^ 32 % 2 ^ 64 ≡ (state * 8 + held) * 2 ^ 32 = omega (arith, s_is, h_is, within, small) in
    (λ i. bit_or (same i) (p_is i)) ∙ or_shifted (state * 8 + held) 32 place few

pub returns : goal.returns
returns c =
    joined c.args.state c.args.held c.args.place c.from.result c.from-2.result c.from-3.result
    c.from.ensures c.from-2.ensures c.from-3.ensures c.ranges.state.fits c.requires c.ranges.place.fits
