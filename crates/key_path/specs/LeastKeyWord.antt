-- The least key word of a placement.
use Rattle.std.specs.Prelude.{Option, None, List, find}
use Rattle.lane_board.specs.Field.{Field}
use Rattle.srs.specs.declared.placement.Placement.{Placement}
use Rattle.srs.specs.Kick.{Table}
use Rattle.srs.specs.Rising.{IsNextAbove}
use Rattle.moves.specs.declared.key.Key.{Key}
use Rattle.moves.specs.declared.key.DropMode.{DropMode}
use Rattle.moves.specs.Place.{LeadsToRest}
use Rattle.moves.specs.PlaceTest.{most_states, leads_to_rest}
use Rattle.key_path.specs.KeyWords.{key_word_cmp, key_words_below}

-- the least of the key words of allowed keys that lead to a state whose rest has the target's cells, or nothing where
-- none leads there
abbrev pub IsLeastKeyWord : Table → Field → DropMode → Placement → Option (List Key) → Type 0
IsLeastKeyWord table F mode target = IsNextAbove key_word_cmp (λ word. LeadsToRest table F mode word target) None

-- The least key word as a function: the first that leads there of all key words with fewer keys than a piece has
-- states. A key word that passes no state twice has no more.
unfoldable pub least_key_word : Table → Field → DropMode → Placement → Option (List Key)
least_key_word table F mode target = find (leads_to_rest table F mode target) (key_words_below most_states)
