-- Each entry is at most the greatest.
use Rattle.std.proofs.Common.{ap, arith}
use Rattle.srs.specs.declared.piece.Piece.TheVariants.{I, L, O, Z, T, J, S}
use Rattle.prune.specs.Tiling.{Supply, supply_in}
use Rattle.enumerate.proofs.start.most_of.Goals as goal

pub returns : goal.returns
unfolding supply_in
returns c I = omega (arith, ap (λ (s : Supply). s I) c.entries.ensures, c.max.ensures, c.max-2.ensures, c.max-3.ensures, c.max-4.ensures, c.max-5.ensures, c.max-6.ensures)
returns c L = omega (arith, ap (λ (s : Supply). s L) c.entries.ensures, c.max.ensures, c.max-2.ensures, c.max-3.ensures, c.max-4.ensures, c.max-5.ensures, c.max-6.ensures)
returns c O = omega (arith, ap (λ (s : Supply). s O) c.entries.ensures, c.max.ensures, c.max-2.ensures, c.max-3.ensures, c.max-4.ensures, c.max-5.ensures, c.max-6.ensures)
returns c Z = omega (arith, ap (λ (s : Supply). s Z) c.entries.ensures, c.max.ensures, c.max-2.ensures, c.max-3.ensures, c.max-4.ensures, c.max-5.ensures, c.max-6.ensures)
returns c T = omega (arith, ap (λ (s : Supply). s T) c.entries.ensures, c.max.ensures, c.max-2.ensures, c.max-3.ensures, c.max-4.ensures, c.max-5.ensures, c.max-6.ensures)
returns c J = omega (arith, ap (λ (s : Supply). s J) c.entries.ensures, c.max.ensures, c.max-2.ensures, c.max-3.ensures, c.max-4.ensures, c.max-5.ensures, c.max-6.ensures)
returns c S = omega (arith, ap (λ (s : Supply). s S) c.entries.ensures, c.max.ensures, c.max-2.ensures, c.max-3.ensures, c.max-4.ensures, c.max-5.ensures, c.max-6.ensures)
