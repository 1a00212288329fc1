-- How a text is read, byte by byte. The law `texts_are_read_as_they_spell` ties it to the form.
use Rattle.std.specs.Prelude.{◌≡◌, ℕ, ◌+◌, Bool, true, false, not, ◌&&◌, ◌==◌, nat_lt, nat_le, int_le, if◌then◌else◌, ℤ, pos, negsuc, List, [], ◌∷◌, ◌++◌, Option, Some, None, Result, Ok, Err, find}
use Rattle.std.specs.Option.{option_map}
use Rattle.srs.specs.declared.rules.Rules.{Rules}
use Rattle.srs.specs.Cells.{minus}
use Rattle.srs.specs.Kick.{Table, srs_table, table_with, is_small, is_small_move, pair_of}
use Rattle.srs.specs.Rules.{table_of}
use Rattle.srs.specs.Piece.{piece_with_letter}
use Rattle.srs.specs.Rotation.{rotation_with_letter}
use Rattle.kick_file.specs.declared.fault.KickFault.{KickFault}
use Rattle.kick_file.specs.declared.fault.KickFault.TheVariants.{Unexpected, RepeatedEntry}
use Rattle.kick_file.specs.declared.turned.TurnedPiece.{TurnedPiece}
use Rattle.kick_file.specs.declared.parser_state.ParserState.{ParserState}
use Rattle.kick_file.specs.declared.parser_state.ParserState.TheVariants.{Beginning, Division, Letter, Letters, Columns, Comma, Rows, Whole}
use Rattle.kick_file.specs.Form.{is_repeated}

-- the numbers that a digit may spell, after `-` or without
abbrev pub numbers : Bool → List ℤ
numbers false = pos 0 ∷ pos 1 ∷ pos 2 ∷ pos 3 ∷ []
numbers true = minus 1 ∷ minus 2 ∷ minus 3 ∷ []

-- from -3 to 3
abbrev pub is_small_number : ℤ → Bool
is_small_number z = int_le (minus 3) z && int_le z (pos 3)

-- the digit of a number
abbrev pub digit_of : ℤ → ℕ
digit_of (pos n) = 48 + n
digit_of (negsuc n) = 49 + n

-- the number with this digit, if there is one
abbrev pub number_with_digit : Bool → ℕ → Option ℤ
number_with_digit is_negative byte = find (λ n. digit_of n == byte) (numbers is_negative)

-- where the text stands after a byte, if it may stand there
abbrev pub next_state : ParserState → ℕ → ℕ → Option ParserState
next_state Beginning place byte = option_map (λ piece. Letter piece place) (piece_with_letter byte)
next_state Division place byte = option_map (λ piece. Letter piece place) (piece_with_letter byte)
next_state (Letter piece start) place byte =
    option_map (λ rotation. Letters (record { piece = piece; rotation = rotation }) start) (rotation_with_letter byte)
next_state (Letters turned start) place byte = if byte == 58 then Some (Columns turned 1 false) else None
next_state (Columns turned test is_negative) place byte =
    if byte == 45 && not is_negative then Some (Columns turned test true)
    else option_map (λ dx. Comma turned test dx) (number_with_digit is_negative byte)
next_state (Comma turned test dx) place byte = if byte == 44 then Some (Rows turned test dx false) else None
next_state (Rows turned test dx is_negative) place byte =
    if byte == 45 && not is_negative then Some (Rows turned test dx true)
    else option_map (λ dy. Whole turned test (record { dx = dx; dy = dy })) (number_with_digit is_negative byte)
next_state (Whole turned test offset) place byte =
    if nat_lt test 5 then (if byte == 47 then Some (Columns turned (test + 1) false) else None)
    else (if byte == 59 then Some Division else None)

-- whether the test is one from 1 to 5, and the offset is small
abbrev pub is_within : ℕ → Bool
is_within test = nat_le 1 test && nat_le test 5

abbrev pub is_sound_state : ParserState → Bool
is_sound_state (Columns turned test is_negative) = is_within test
is_sound_state (Comma turned test dx) = is_within test && is_small_move (dx, pos 0)
is_sound_state (Rows turned test dx is_negative) = is_within test && is_small_move (dx, pos 0)
is_sound_state (Whole turned test offset) = is_within test && is_small offset
is_sound_state other = true

-- what was read so far: the pieces and rotations of entries, the table, and where the text stands
pub record Reading : Type 0 where
  pub given : List TurnedPiece
  pub table : Table
  pub state : ParserState

-- before the first byte
abbrev pub beginning : Reading
beginning = record { given = []; table = srs_table; state = Beginning }

-- what was read after one more byte, if it may stand there
abbrev pub reading_at : Reading → ℕ → Option ParserState → Result Reading KickFault
reading_at reading place None = Err (Unexpected place)
reading_at reading place (Some (Letters turned start)) =
    if is_repeated reading.given turned then Err (RepeatedEntry start)
    else Ok (record { given = reading.given ++ turned ∷ []; table = reading.table; state = Letters turned start })
reading_at reading place (Some (Whole turned test offset)) =
    Ok (record {
      given = reading.given;
      table = table_with reading.table turned.piece turned.rotation test (pair_of offset);
      state = Whole turned test offset;
    })
reading_at reading place (Some state) =
    Ok (record { given = reading.given; table = reading.table; state = state })

unfoldable pub after_byte : Reading → ℕ → ℕ → Result Reading KickFault
after_byte reading place byte = reading_at reading place (next_state reading.state place byte)

-- the text ends
abbrev pub ended : Table → ℕ → ParserState → Result Table KickFault
ended table place Beginning = Ok table
ended table place (Whole turned test offset) = if nat_lt test 5 then Err (Unexpected place) else Ok table
ended table place other = Err (Unexpected place)

-- a step, and what follows it unless it fails
abbrev pub read_after : Result Reading KickFault → (Reading → Result Table KickFault) → Result Table KickFault
read_after (Ok now) rest = rest now
read_after (Err fault) rest = Err fault

-- what a text is read as, of which so much was read, and these bytes follow from this place on
unfoldable pub read_on : Reading → ℕ → List ℕ → Result Table KickFault
read_on reading place [] = ended reading.table place reading.state
read_on reading place (byte ∷ bytes) = read_after (after_byte reading place byte) (λ now. read_on now (place + 1) bytes)

-- what a text is read as
abbrev pub kick_text : List ℕ → Result Table KickFault
kick_text text = read_on beginning 0 text

-- rules of this table, or this fault
abbrev pub AnswersTable : Result Rules KickFault → Result Table KickFault → Type 0
AnswersTable (Ok rules) read = read ≡ Ok (table_of rules)
AnswersTable (Err fault) read = read ≡ Err fault

-- what a call that takes more of a text answers, and what it leaves
abbrev pub MovesOn : Result Unit KickFault → Result Reading KickFault → Reading → Type 0
MovesOn (Ok done) read now = read ≡ Ok now
MovesOn (Err fault) read now = read ≡ Err fault
