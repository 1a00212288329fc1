-- How the text of a sequence is read, byte by byte. The law `texts_are_read_as_they_spell` ties it to `Form`.
use Rattle.std.specs.Prelude.{ℕ, zero, suc, ◌+◌, ◌-◌, Bool, true, false, ◌&&◌, ◌==◌, nat_lt, if◌then◌else◌, List, [], ◌∷◌, ◌++◌, Option, Some, None, option_map, Result, Ok, Err}
use Rattle.std.specs.List.{list_any}
use Rattle.std.specs.Option.{option_map_or}
use Rattle.arrayvec.specs.ArrayVec.{ArrayVec}
use Rattle.srs.specs.declared.piece.Piece.TheVariants.{I}
use Rattle.srs.specs.declared.rotation.Rotation.TheVariants.{Spawn}
use Rattle.srs.specs.declared.placement.Placement.{Placement}
use Rattle.srs.specs.Rotation.{rotation_with_letter}
use Rattle.moves.specs.Keys.{all_keys, key_letter}
use Rattle.placement_form.specs.Reading.{capital_piece, digit_in, two_digit_row}
use Rattle.sequence_text.specs.declared.reading.Due.{Due}
use Rattle.sequence_text.specs.declared.reading.Due.TheVariants as due
use Rattle.sequence_text.specs.declared.reading.Reading.{Reading}

-- no byte of a placement was read yet
abbrev pub unread : Reading
unread = record { due = due.PieceLetter; placement = record { piece = I; rotation = Spawn; x = 0; y = 0 } }

abbrev pub reading : Due → Placement → Reading
reading due placement = record { due = due; placement = placement }

abbrev pub when : Bool → Reading → Option Reading
when holds next = if holds then Some next else None

-- a colon after a placement: keys follow
abbrev pub keys_step : Placement → ℕ → Option Reading
keys_step placement byte = when (byte == 58) (reading due.Key placement)

-- a second digit of the row, or the colon before keys; after a 0, or after two digits, no digit makes a row up to 22
abbrev pub after_row_step : Placement → ℕ → Option Reading
after_row_step placement byte =
    option_map_or (λ ones. option_map (λ row. reading due.AfterRow (record placement { y = row }))
    (two_digit_row placement.y ones)) (digit_in byte) (keys_step placement byte)

abbrev pub is_key_letter : ℕ → Bool
is_key_letter byte = list_any (λ key. key_letter key == byte) all_keys

-- letters of keys, and the hard drop that ends them
abbrev pub key_step : Placement → ℕ → Option Reading
key_step placement byte =
    if is_key_letter byte then Some (reading due.Key placement) else when (byte == 72) (reading due.AfterKeys placement)

abbrev pub step_at : Due → Placement → ℕ → Option Reading
step_at due.PieceLetter placement byte = option_map (λ piece. reading due.RotationLetter
    (record placement { piece = piece })) (capital_piece byte)
step_at due.RotationLetter placement byte = option_map (λ rotation. reading due.Colon
    (record placement { rotation = rotation })) (rotation_with_letter byte)
step_at due.Colon placement byte = when (byte == 58) (reading due.Column placement)
step_at due.Column placement byte = option_map (λ column. reading due.Comma (record placement { x = column }))
    (digit_in byte)
step_at due.Comma placement byte = when (byte == 44) (reading due.Row placement)
step_at due.Row placement byte = option_map (λ row. reading due.AfterRow (record placement { y = row })) (digit_in byte)
step_at due.AfterRow placement byte = after_row_step placement byte
step_at due.Key placement byte = key_step placement byte
step_at due.AfterKeys placement byte = None

-- a placement with one more byte, where the byte may stand there
unfoldable pub step : Reading → ℕ → Option Reading
step now byte = step_at now.due now.placement byte

-- the placement may end here
abbrev pub may_end : Due → Bool
may_end due.AfterRow = true
may_end due.AfterKeys = true
may_end _ = false

-- how the reading of a sequence goes on with the placement that is read now, where so many placements follow it
abbrev pub continue_with : Option Reading → ℕ → (Reading → Result (List Placement) ℕ) → Result (List Placement) ℕ
continue_with None place rest = Err place
continue_with (Some next) place rest = rest next

-- The placements that a text spells after those that were read: one is being read and so many follow it, each after a
-- blank. Or the place of the first byte that may not stand there.
unfoldable pub read_from : List Placement → ℕ → Reading → ℕ → List ℕ → Result (List Placement) ℕ
read_from read left now place [] = if may_end now.due && left == 0 then Ok (read ++ now.placement ∷ []) else Err place
read_from read left now place (byte ∷ bytes) =
    if byte == 32 then
    (if may_end now.due && nat_lt 0 left then read_from (read ++ now.placement ∷ []) (left - 1) unread
    (place + 1) bytes else Err place)
    else continue_with (step now byte) place (λ next. read_from read left next (place + 1) bytes)

-- the sequence of so many placements that a text spells, or how many bytes its longest front has that begins some
-- such text
abbrev pub sequence_in : ℕ → List ℕ → Result (List Placement) ℕ
sequence_in zero [] = Ok []
sequence_in zero (byte ∷ bytes) = Err 0
sequence_in (suc left) text = read_from [] left unread 0 text

-- the placements of a sequence, or the place of its fault
abbrev pub sequence_reading : Result (ArrayVec Placement) ℕ → Result (List Placement) ℕ
sequence_reading (Ok sequence) = Ok sequence.items
sequence_reading (Err place) = Err place
