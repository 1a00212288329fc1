-- Numbers and offsets are read as they are written.
use Rattle.std.proofs.Common.{◌≡◌, ℕ, ◌≤◌, Bool, true, false, ◌&&◌, nat_le, leb-true, ℤ, pos, List, [], ◌∷◌, refl, Ok, rules}
use Rattle.std.specs.Prelude.{int_le}
use Rattle.std.proofs.lemmas.Bool.{false≢true}
use Rattle.srs.specs.Cells.{Cell, minus}
use Rattle.srs.specs.Kick.{Table, table_with, is_small_move}
use Rattle.srs.proofs.CallerLemmas.{and_first, and_second}
use Rattle.kick_file.specs.declared.turned.TurnedPiece.{TurnedPiece}
use Rattle.kick_file.specs.declared.parser_state.ParserState.{ParserState}
use Rattle.kick_file.specs.declared.parser_state.ParserState.TheVariants.{Columns, Comma, Rows, Whole}
use Rattle.kick_file.specs.Form.{signed_digit, offset_form}
use Rattle.kick_file.specs.Reading.{is_small_number, after_byte, Reading}
use Rattle.kick_file.proofs.Steps.{at, Passes, one_byte, both}

below_three : (P : ℕ → Type 0) → P 0 → P 1 → P 2 → (n : ℕ) → n ≤ 2 → P n
below_three P a b c n within = search rules

-- a fact of each small number
pub each_small : (P : ℤ → Type 0) → P (pos 0) → P (pos 1) → P (pos 2) → P (pos 3) → P (minus 1) → P (minus 2) → P (minus 3)
    → (z : ℤ) → is_small_number z ≡ true → P z
each_small P a b c d x y z value small = search (rules, leb-true, and_second, nat_le, below_three, and_first)

-- the columns of an offset
pub columns_pass : (given : List TurnedPiece) (table : Table) (turned : TurnedPiece) (test : ℕ) (z : ℤ) → is_small_number z ≡ true
    → Passes (at given table (Columns turned test false)) (signed_digit z) (at given table (Comma turned test z))
unfolding after_byte
columns_pass given table turned test = each_small P (plain 48 (pos 0) (λ place. refl)) (plain 49 (pos 1) (λ place. refl)) (plain 50 (pos 2) (λ place. refl))
    (plain 51 (pos 3) (λ place. refl)) (below 49 (minus 1) (λ place. refl)) (below 50 (minus 2) (λ place. refl)) (below 51 (minus 3) (λ place. refl))
  where
    P : ℤ → Type 0
    P z = Passes (at given table (Columns turned test false)) (signed_digit z) (at given table (Comma turned test z))

    plain : (byte : ℕ) (z : ℤ) → ((place : ℕ) → after_byte (at given table (Columns turned test false)) place byte ≡ Ok (at given table (Comma turned test z)))
        → Passes (at given table (Columns turned test false)) (byte ∷ []) (at given table (Comma turned test z))
    plain byte z is = one_byte _ byte _ is

    below : (byte : ℕ) (z : ℤ) → ((place : ℕ) → after_byte (at given table (Columns turned test true)) place byte ≡ Ok (at given table (Comma turned test z)))
        → Passes (at given table (Columns turned test false)) (45 ∷ byte ∷ []) (at given table (Comma turned test z))
    below byte z is = both _ (45 ∷ []) (at given table (Columns turned test true)) (byte ∷ []) _ (one_byte _ 45 _ (λ place. refl)) (one_byte _ byte _ is)

-- the state after a whole offset
abbrev pub whole : TurnedPiece → ℕ → Cell → ParserState
whole turned test cell = Whole turned test (record { dx = cell.0; dy = cell.1 })

-- the rows of an offset
pub rows_pass : (given : List TurnedPiece) (table : Table) (turned : TurnedPiece) (test : ℕ) (dx z : ℤ) → is_small_number z ≡ true
    → Passes (at given table (Rows turned test dx false)) (signed_digit z)
    (at given (table_with table turned.piece turned.rotation test (dx, z)) (whole turned test (dx, z)))
unfolding after_byte
rows_pass given table turned test dx = each_small P (plain 48 (pos 0) (λ place. refl)) (plain 49 (pos 1) (λ place. refl)) (plain 50 (pos 2) (λ place. refl))
    (plain 51 (pos 3) (λ place. refl)) (below 49 (minus 1) (λ place. refl)) (below 50 (minus 2) (λ place. refl)) (below 51 (minus 3) (λ place. refl))
  where
    to : ℤ → Reading
    to z = at given (table_with table turned.piece turned.rotation test (dx, z)) (whole turned test (dx, z))

    P : ℤ → Type 0
    P z = Passes (at given table (Rows turned test dx false)) (signed_digit z) (at given (table_with table turned.piece turned.rotation test (dx, z)) (whole turned test (dx, z)))

    plain : (byte : ℕ) (z : ℤ) → ((place : ℕ) → after_byte (at given table (Rows turned test dx false)) place byte ≡ Ok (to z))
        → Passes (at given table (Rows turned test dx false)) (byte ∷ []) (to z)
    plain byte z is = one_byte _ byte _ is

    below : (byte : ℕ) (z : ℤ) → ((place : ℕ) → after_byte (at given table (Rows turned test dx true)) place byte ≡ Ok (to z))
        → Passes (at given table (Rows turned test dx false)) (45 ∷ byte ∷ []) (to z)
    below byte z is = both _ (45 ∷ []) (at given table (Rows turned test dx true)) (byte ∷ []) _ (one_byte _ 45 _ (λ place. refl)) (one_byte _ byte _ is)

-- columns and rows are small
pub small_parts : (a b c d : Bool) → (a && b && c && d) ≡ true → ((a && b) ≡ true) × ((c && d) ≡ true)
small_parts a b c d small = search (rules, and_first, false≢true, and_second)

-- a whole offset
pub offset_passes : (given : List TurnedPiece) (table : Table) (turned : TurnedPiece) (test : ℕ) (cell : Cell) → is_small_move cell ≡ true
    → Passes (at given table (Columns turned test false)) (offset_form cell)
    (at given (table_with table turned.piece turned.rotation test cell) (whole turned test cell))
unfolding after_byte
offset_passes given table turned test cell small =
    let parts = small_parts (int_le (minus 3) cell.0) (int_le cell.0 (pos 3)) (int_le (minus 3) cell.1) (int_le cell.1 (pos 3)) small in
    let comma : Passes (at given table (Comma turned test cell.0)) (44 ∷ []) (at given table (Rows turned test cell.0 false)) = one_byte _ 44 _ (λ place. refl) in
    both _ (signed_digit cell.0) _ (44 ∷ signed_digit cell.1) _ (columns_pass given table turned test cell.0 parts.0)
    (both _ (44 ∷ []) _ (signed_digit cell.1) _ comma (rows_pass given table turned test cell.0 cell.1 parts.1))
