-- Lemmas that the crates above cite.
use Rattle.std.proofs.Common.{◌≡◌, ◌<◌, Some, List, length, subst}
use Rattle.lane_board.specs.Field.{Field}
use Rattle.srs.specs.declared.placement.Placement.{Placement}
use Rattle.srs.specs.Kick.{Table}
use Rattle.moves.specs.declared.key.Key.{Key}
use Rattle.moves.specs.declared.key.DropMode.{DropMode}
use Rattle.key_path.specs.LeastKeyWord.{IsLeastKeyWord, least_key_word}
use Rattle.key_path.proofs.KeyWordLemmas.{key_word-is, least_is_short}

-- the key word that is named has fewer keys than a piece has states
pub named_is_short : (table : Table) (F : Field) (mode : DropMode) (target : Placement) (word : List Key) → least_key_word table F mode target ≡ Some word → length word < 920
named_is_short table F mode target word is =
    least_is_short table F mode target word (subst (IsLeastKeyWord table F mode target) is (key_word-is table F mode target))
