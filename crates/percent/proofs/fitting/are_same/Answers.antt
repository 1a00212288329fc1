-- The word gives the counts back.
use Rattle.std.proofs.Common.{sym, ap, ◌∙◌}
use Rattle.std.specs.Int.{from_le_bytes, to_le_bytes, w64}
use Rattle.std.proofs.lemmas.Bool.{eq-eqb, eqb-true}
use Rattle.std.proofs.lemmas.Nat.{le_bytes_8}
use Rattle.percent.proofs.fitting.are_same.Goals as goal

pub returns : goal.returns
returns c =
    let a = c.args.a.now in
    let b = c.args.b.now in
    let m = c.from_le_bytes.result in
    let n = c.from_le_bytes-2.result in (
      λ same.
          sym (le_bytes_8 a m c.told-a c.fits-a c.from_le_bytes.ensures)
          ∙ ap (to_le_bytes w64) (eqb-true m n same)
          ∙ le_bytes_8 b n c.told-b c.fits-b c.from_le_bytes-2.ensures,
      λ same. eq-eqb m n (c.from_le_bytes.ensures ∙ ap (from_le_bytes w64) same ∙ sym c.from_le_bytes-2.ensures),
    )
