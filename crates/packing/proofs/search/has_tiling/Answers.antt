-- Where a part is uneven there is no tiling.
use Rattle.std.proofs.Common.{refl}
use Rattle.std.proofs.lemmas.Bool.{false≢true}
use Rattle.packing.proofs.search.has_tiling.Goals as goal

pub returns-then-has_uneven_part : goal.returns-then-has_uneven_part
returns-then-has_uneven_part c = (λ e. absurd (false≢true e), λ tiling. absurd (c.if-has_uneven_part.ensures.none refl _ tiling))
