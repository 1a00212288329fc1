-- The words are those of the set.
use Rattle.std.proofs.Common.{refl}
use Rattle.empty_cells.specs.PivotWords.{has_placement}
use Rattle.empty_cells.proofs.pivot_words.PivotWords.words.Goals as goal

pub returns : goal.returns
unfolding has_placement
returns c = λ q. refl
