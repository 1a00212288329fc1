-- The bytes of a report's lines.
use Rattle.std.specs.Prelude.{ℕ, Bool, true, false, Option, None, List, [], ◌∷◌, ◌++◌, codes, take, length, min, nat_le, if◌then◌else◌}
use Rattle.std.specs.List.{flat_map}
use Rattle.line_writing.specs.Count.{count_form}
use Rattle.lane_board.specs.Field.{Field}
use Rattle.srs.specs.declared.placement.Placement.{Placement}
use Rattle.srs.specs.Kick.{Table}
use Rattle.well.specs.Lock.{locked}
use Rattle.moves.specs.declared.key.DropMode.{DropMode}
use Rattle.moves.specs.declared.key.Key.{Key}
use Rattle.sequence_text.specs.Written.{Keyed, sequence_form}
use Rattle.key_path.specs.LeastKeyWord.{least_key_word}
use Rattle.report.specs.declared.tail.Tail.{Tail}
use Rattle.report.specs.declared.tail.Tail.TheVariants.{End, Limit}

-- which keys are written behind a placement in the field before it, where some are
abbrev pub KeysOf : Type 0
KeysOf = Field → Placement → Option (List Key)

-- with keys, the key word of the placement in the field before it; else none
abbrev pub key_part : Bool → Table → DropMode → KeysOf
key_part true table mode F placement = least_key_word table F mode placement
key_part false table mode F placement = None

-- placements that are played from a field on, each with its keys in the field before it
unfoldable pub keyed : KeysOf → Field → List Placement → List Keyed
keyed keys F [] = []
keyed keys F (placement ∷ rest) = (placement, keys F placement) ∷ keyed keys (locked F placement) rest

-- the line of a sequence that is played from a field
unfoldable pub line_form : KeysOf → Field → List Placement → List ℕ
line_form keys F sequence = sequence_form (keyed keys F sequence) ++ 10 ∷ []

-- the line of a run that is played from a field; none where the run has no placement
abbrev pub run_form : KeysOf → Field → List Placement → List ℕ
run_form keys F [] = []
run_form keys F (placement ∷ rest) = line_form keys F (placement ∷ rest)

-- the word of a tail
abbrev pub tail_word : Tail → List ℕ
tail_word End = codes "end "
tail_word Limit = codes "limit "

-- the line that ends a report, as `end 12`
abbrev pub tail_form : Tail → ℕ → List ℕ
tail_form tail count = count_form (tail_word tail) count

-- the line of a number of floods, as `floods 3`
abbrev pub floods_form : ℕ → List ℕ
floods_form floods = count_form (codes "floods ") floods

-- the report of a list of sequences, each in this form, of which at most so many are written
unfoldable pub report_form : (List Placement → List ℕ) → ℕ → List (List Placement) → List ℕ
report_form form limit sequences =
    flat_map form (take limit sequences)
    ++ tail_form (if nat_le limit (length sequences) then Limit else End) (min limit (length sequences))
