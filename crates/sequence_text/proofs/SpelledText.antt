-- The form of a sequence's text and the function that reads it agree: what is spelled is read.
use Rattle.std.proofs.Common.{◌≡◌, ℕ, zero, suc, ◌+◌, ◌-◌, ◌*◌, ◌/◌, ◌%◌, ◌<◌, ◌≤◌, true, false, ◌==◌, nat_lt, List, [], ◌∷◌, ◌++◌, length, map, append_assoc, append-nil, Some, Ok, refl, ap, sym, subst, ◌∙◌, arith, inl, inr, rules}
use Rattle.std.specs.Prelude.{decimal}
use Rattle.std.proofs.lemmas.Bool.{cases_lt, lt-ltb}
use Rattle.std.proofs.lemmas.Bool.Decides.{nat_tests}
use Rattle.std.proofs.lemmas.Fmt.{decimal_digit}
use Rattle.srs.specs.declared.piece.Piece.{Piece}
use Rattle.srs.specs.declared.rotation.Rotation.{Rotation}
use Rattle.srs.specs.declared.placement.Placement.{Placement}
use Rattle.srs.specs.Piece.{piece_letter}
use Rattle.srs.specs.Rotation.{rotation_letter}
use Rattle.moves.specs.declared.key.Key.{Key}
use Rattle.moves.specs.declared.key.Key.TheVariants as keys
use Rattle.moves.specs.Keys.{key_letter, word_letters}
use Rattle.placement_form.specs.Form.{placement_form, IsPlacementText}
use Rattle.placement_form.proofs.CallerLemmas.{two_digits, digit_read, two_read, piece_read}
use Rattle.sequence_text.specs.declared.reading.Due.{Due}
use Rattle.sequence_text.specs.declared.reading.Due.TheVariants as due
use Rattle.sequence_text.specs.declared.reading.Reading.{Reading}
use Rattle.sequence_text.specs.Reading.{read_from, reading, step, may_end, unread, sequence_in}
use Rattle.sequence_text.specs.Form.{alone, with_keys, none, SpellsPlacement, SpellsSequence, last, more, Spells}
use Rattle.srs.proofs.CallerLemmas.{rotation_with_letter-letter}

-- the bytes from here on are read as this sequence, wherever they stand
pub record Reads (read : List Placement) (left : ℕ) (now : Reading) (bytes : List ℕ) (sequence : List Placement) : Type 0 where
  pub from : (place : ℕ) → read_from read left now place bytes ≡ Ok sequence

one_byte : {read : List Placement} {left : ℕ} {now next : Reading} {bytes : List ℕ} {sequence : List Placement} (byte : ℕ) → (byte == 32) ≡ false → step now byte ≡ Some next
    → Reads read left next bytes sequence → Reads read left now (byte ∷ bytes) sequence
unfolding read_from
one_byte byte no_blank stepped later = record { from = λ place. rw (no_blank, stepped) (later.from (place + 1)) }

-- the keys behind a placement
key_stays : (placement : Placement) (key : Key) → step (reading due.Key placement) (key_letter key) ≡ Some (reading due.Key placement)
unfolding step
key_stays placement key = search rules

key_no_blank : (key : Key) → (key_letter key == 32) ≡ false
key_no_blank key = search rules

-- the digits of a row
digit_no_blank : (n : ℕ) → (48 + n == 32) ≡ false
digit_no_blank n = grind (arith, nat_tests)

row_step : (placement : Placement) (n : ℕ) → n ≤ 9 → step (reading due.Row placement) (48 + n) ≡ Some (reading due.AfterRow (record placement { y = n }))
unfolding step
row_step placement n small = rw (digit_read n small) refl

second_step : (placement : Placement) (n : ℕ) → n ≤ 9 → 0 < placement.y → 10 * placement.y + n ≤ 22
    → step (reading due.AfterRow placement) (48 + n) ≡ Some (reading due.AfterRow (record placement { y = 10 * placement.y + n }))
unfolding step
second_step placement n small some within = rw (digit_read n small, two_read placement.y n some within) refl

-- the letters of a placement
piece_step : (placement : Placement) (piece : Piece) → step (reading due.PieceLetter placement) (piece_letter piece) ≡ Some (reading due.RotationLetter (record placement { piece = piece }))
unfolding step
piece_step placement piece = rw (piece_read piece) refl

piece_no_blank : (piece : Piece) → (piece_letter piece == 32) ≡ false
piece_no_blank piece = search rules

rotation_step : (placement : Placement) (rotation : Rotation)
    → step (reading due.RotationLetter placement) (rotation_letter rotation) ≡ Some (reading due.Colon (record placement { rotation = rotation }))
unfolding step
rotation_step placement rotation = rw (rotation_with_letter-letter rotation) refl

rotation_no_blank : (rotation : Rotation) → (rotation_letter rotation == 32) ≡ false
rotation_no_blank rotation = search rules

column_step : (placement : Placement) (n : ℕ) → n ≤ 9 → step (reading due.Column placement) (48 + n) ≡ Some (reading due.Comma (record placement { x = n }))
unfolding step
column_step placement n small = rw (digit_read n small) refl

module _ (read : List Placement) (left : ℕ) (sequence : List Placement) where
  letters : (placement : Placement) (pressed : List Key) (rest : List ℕ) → Reads read left (reading due.AfterKeys placement) rest sequence
      → Reads read left (reading due.Key placement) (map key_letter pressed ++ 72 ∷ rest) sequence
  unfolding step
  letters placement [] rest done = one_byte 72 refl refl done
  letters placement (key ∷ pressed) rest done = one_byte (key_letter key) (key_no_blank key) (key_stays placement key) (letters placement pressed rest done)

  -- what may follow a whole placement
  record Ends (placement : Placement) (rest : List ℕ) : Type 0 where
    at : (kind : Due) → may_end kind ≡ true → Reads read left (reading kind placement) rest sequence

  row_read : (placement : Placement) (y : ℕ) (rest : List ℕ) → y ≤ 22 → Reads read left (reading due.AfterRow (record placement { y = y })) rest sequence
      → Reads read left (reading due.Row placement) (decimal y ++ rest) sequence
  row_read placement y rest within later = elim (cases_lt y 10) [
    | inl small ↦ rw (decimal_digit y small) (one_byte (48 + y) (digit_no_blank y) (row_step placement y (omega arith)) later)
    | inr large ↦
        let e : 10 * (y / 10) + y % 10 ≡ y = omega arith in
        rw (two_digits y large within)
        (one_byte (48 + y / 10) (digit_no_blank (y / 10)) (row_step placement (y / 10) (omega arith))
        (one_byte (48 + y % 10) (digit_no_blank (y % 10)) (second_step (record placement { y = y / 10 }) (y % 10) (omega arith) (omega arith) (omega (arith, e)))
        (rw e later)))
  ]

  text_read : (text rest : List ℕ) (placement : Placement) → IsPlacementText text placement → Reads read left (reading due.AfterRow placement) rest sequence → Reads read left unread (text ++ rest) sequence
  unfolding step placement_form
  text_read text rest placement is later =
      let column : decimal placement.x ≡ (48 + placement.x) ∷ [] = decimal_digit placement.x (omega (arith, is.pivot.in_columns)) in
      let parts : text ++ rest ≡ piece_letter placement.piece ∷ rotation_letter placement.rotation ∷ 58 ∷ (48 + placement.x) ∷ 44 ∷ (decimal placement.y ++ rest) =
      ap (λ t. t ++ rest) is.written ∙ rw column refl in
      subst (λ t. Reads read left unread t sequence) (sym parts)
      (one_byte (piece_letter placement.piece) (piece_no_blank placement.piece) (piece_step unread.placement placement.piece)
      (one_byte (rotation_letter placement.rotation) (rotation_no_blank placement.rotation) (rotation_step (record unread.placement { piece = placement.piece }) placement.rotation)
      (one_byte 58 refl refl
      (one_byte (48 + placement.x) (digit_no_blank placement.x) (column_step (record unread.placement { piece = placement.piece; rotation = placement.rotation }) placement.x is.pivot.in_columns)
      (one_byte 44 refl refl
      (row_read (record placement { y = 0 }) placement.y rest is.pivot.in_rows later))))))

  placement_read : (text rest : List ℕ) (placement : Placement) → SpellsPlacement text placement → Ends placement rest → Reads read left unread (text ++ rest) sequence
  unfolding step
  placement_read text rest placement (alone is) ends = text_read text rest placement is (ends.at due.AfterRow refl)
  placement_read text rest placement (with_keys {text = front} is pressed) ends =
      let keys = 58 ∷ map key_letter pressed in
      let parts : front ++ (keys ++ 72 ∷ rest) ≡ (front ++ 58 ∷ word_letters pressed) ++ rest = ap (λ t. front ++ t) (sym (append_assoc keys (72 ∷ []) rest)) ∙ sym (append_assoc front (keys ++ 72 ∷ []) rest) in
      subst (λ t. Reads read left unread t sequence) parts
      (text_read front (keys ++ 72 ∷ rest) placement is (one_byte 58 refl refl (letters placement pressed rest (ends.at due.AfterKeys refl))))

-- placements are read after those that were read
sequence_read : (text : List ℕ) (sequence : List Placement) → SpellsSequence text sequence → (read : List Placement) (left : ℕ) → length sequence ≡ suc left
    → Reads read left unread text (read ++ sequence)
unfolding read_from
sequence_read text sequence none read left count = absurd (omega (arith, count))
sequence_read text sequence (last {placement = placement} spelled) read left count =
    let none_left : left ≡ 0 = omega (arith, count) in
    let ends : Ends read left (read ++ placement ∷ []) placement [] = record { at = λ kind may. record { from = λ place. rw (none_left, may) refl } } in
    subst (λ t. Reads read left unread t (read ++ placement ∷ [])) (append-nil text) (placement_read read left (read ++ placement ∷ []) text [] placement spelled ends)
sequence_read text sequence (more {front = front} {back = back} {first = first} {second = second} {rest = rest} spelled later) read left count =
    let some : nat_lt 0 left ≡ true = lt-ltb 0 left (omega (arith, count)) in
    let others = sequence_read back (second ∷ rest) later (read ++ first ∷ []) (left - 1) (omega (arith, count)) in
    let same : (read ++ first ∷ []) ++ second ∷ rest ≡ read ++ first ∷ second ∷ rest = append_assoc read (first ∷ []) (second ∷ rest) in
    let ends : Ends read left (read ++ first ∷ second ∷ rest) first (32 ∷ back) = record { at = λ kind may. record { from = λ place. rw (may, some) (others.from (place + 1) ∙ ap (λ l. Ok l) same) } } in
    placement_read read left (read ++ first ∷ second ∷ rest) front (32 ∷ back) first spelled ends

-- what a text spells, it is read as
pub spelled_is_read : (needed : ℕ) (text : List ℕ) (sequence : List Placement) → Spells needed text sequence → sequence_in needed text ≡ Ok sequence
spelled_is_read needed text sequence spelled = by_count needed text sequence spelled.spelled spelled.count
  where
    by_count : (needed : ℕ) (text : List ℕ) (sequence : List Placement) → SpellsSequence text sequence → length sequence ≡ needed → sequence_in needed text ≡ Ok sequence
    by_count zero text sequence none count = refl
    by_count zero text sequence (last spelled) count = absurd (omega (arith, count))
    by_count zero text sequence (more spelled later) count = absurd (omega (arith, count))
    by_count (suc left) text sequence spelled count = (sequence_read text sequence spelled [] left count).from 0
