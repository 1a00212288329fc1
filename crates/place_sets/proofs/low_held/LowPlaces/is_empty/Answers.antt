-- The words have no bit exactly where no placement is held.
use Rattle.std.proofs.Common.{rules}
use Rattle.std.proofs.lemmas.Bool.{or_parts}
use Rattle.place_sets.proofs.LowPlaceLemmas.{each_word, held_none, no_bits}
use Rattle.place_sets.proofs.low_held.LowPlaces.is_empty.Goals as goal

pub returns : goal.returns
returns c = search (rules, held_none, or_parts, each_word, no_bits)
