-- The form of a sequence's text and the function that reads it agree: what is read is spelled.
use Rattle.std.proofs.Common.{◌≡◌, ℕ, zero, suc, ◌+◌, ◌-◌, ◌<◌, ◌≤◌, Bool, true, ◌&&◌, ◌==◌, nat_lt, eqb-true, ltb-true, List, [], ◌∷◌, ◌++◌, length, map, append_assoc, append-nil, Option, Some, None, Result, Ok, Err, refl, ap, sym, subst, ◌∙◌, arith, inl, inr, rules}
use Rattle.std.specs.Prelude.{decimal, option_map}
use Rattle.std.proofs.lemmas.Bool.{cases_Bool, and_parts}
use Rattle.std.proofs.lemmas.Fmt.{decimal_digit}
use Rattle.std.proofs.lemmas.List.{map-append}
use Rattle.std.proofs.lemmas.Option.{same_Some}
use Rattle.srs.specs.declared.placement.Placement.{Placement}
use Rattle.srs.specs.Piece.{piece_letter}
use Rattle.srs.specs.Rotation.{rotation_letter}
use Rattle.moves.specs.declared.key.Key.{Key}
use Rattle.moves.specs.declared.key.Key.TheVariants as keys
use Rattle.moves.specs.Keys.{key_letter}
use Rattle.placement_form.specs.Form.{placement_form, IsPlacementText}
use Rattle.placement_form.specs.Reading.{digit_in, two_digit_row}
use Rattle.placement_form.proofs.CallerLemmas.{IsDigit, digit_only, IsRowOf, two_only, both_digits}
use Rattle.sequence_text.specs.declared.reading.Due.{Due}
use Rattle.sequence_text.specs.declared.reading.Due.TheVariants as due
use Rattle.sequence_text.specs.declared.reading.Reading.{Reading}
use Rattle.sequence_text.specs.Reading.{read_from, continue_with, reading, when, step, is_key_letter, keys_step, after_row_step, may_end, unread, sequence_in}
use Rattle.sequence_text.specs.Form.{alone, with_keys, none, SpellsPlacement, SpellsSequence, last, more, Spells}

-- the text of a placement before its column
head : Placement → List ℕ
head placement = piece_letter placement.piece ∷ rotation_letter placement.rotation ∷ 58 ∷ []

-- a column was read
record Column (placement : Placement) (front : List ℕ) (text : List ℕ) : Type 0 where
  column : placement.x ≤ 9
  whole : front ≡ text

-- a placement was read, and then keys
record Pressed (placement : Placement) (front : List ℕ) : Type 0 where
  text : List ℕ
  written : IsPlacementText text placement
  pressed : List Key
  whole : front ≡ text ++ 58 ∷ map key_letter pressed

-- the bytes of a placement that were read, by what is due next
abbrev IsRead : Due → Placement → List ℕ → Type 0
IsRead due.PieceLetter placement front = front ≡ []
IsRead due.RotationLetter placement front = front ≡ piece_letter placement.piece ∷ []
IsRead due.Colon placement front = front ≡ piece_letter placement.piece ∷ rotation_letter placement.rotation ∷ []
IsRead due.Column placement front = front ≡ head placement
IsRead due.Comma placement front = Column placement front (head placement ++ decimal placement.x)
IsRead due.Row placement front = Column placement front (head placement ++ decimal placement.x ++ 44 ∷ [])
IsRead due.AfterRow placement front = IsPlacementText front placement
IsRead due.Key placement front = Pressed placement front
IsRead due.AfterKeys placement front = SpellsPlacement front placement

-- a step that is taken
when-some : (test : Bool) (next taken : Reading) → when test next ≡ Some taken → (test ≡ true) × (next ≡ taken)
when-some test next taken e = search rules

record Found {A B : Type 0} (f : A → B) (found : Option A) (taken : B) : Type 0 where
  item : A
  is : found ≡ Some item
  made : f item ≡ taken

map-some : {A B : Type 0} (f : A → B) (found : Option A) (taken : B) → option_map f found ≡ Some taken → Found f found taken
map-some f found taken e = search rules

-- a letter of a key
pressed_key : (byte : ℕ) → is_key_letter byte ≡ true → (key : Key) × (key_letter key ≡ byte)
pressed_key byte is = search rules

-- one more byte of a placement was read
abbrev Grown : List ℕ → ℕ → Reading → Type 0
Grown front byte next = IsRead next.due next.placement (front ++ byte ∷ [])

at_piece : (placement : Placement) (front : List ℕ) (byte : ℕ) (next : Reading) → front ≡ [] → step (reading due.PieceLetter placement) byte ≡ Some next → Grown front byte next
unfolding step
at_piece placement front byte next so_far stepped = search rules

at_rotation : (placement : Placement) (front : List ℕ) (byte : ℕ) (next : Reading) → front ≡ piece_letter placement.piece ∷ [] → step (reading due.RotationLetter placement) byte ≡ Some next → Grown front byte next
unfolding step
at_rotation placement front byte next so_far stepped = search rules

at_colon : (placement : Placement) (front : List ℕ) (byte : ℕ) (next : Reading) → front ≡ piece_letter placement.piece ∷ rotation_letter placement.rotation ∷ [] → step (reading due.Colon placement) byte ≡ Some next
    → Grown front byte next
unfolding step head
at_colon placement front byte next so_far stepped = search rules

at_column : (placement : Placement) (front : List ℕ) (byte : ℕ) (next : Reading) → front ≡ head placement → step (reading due.Column placement) byte ≡ Some next → Grown front byte next
unfolding step head
at_column placement front byte next so_far stepped = search (rules, map-some, digit_only, decimal_digit)

at_comma : (placement : Placement) (front : List ℕ) (byte : ℕ) (next : Reading) → Column placement front (head placement ++ decimal placement.x) → step (reading due.Comma placement) byte ≡ Some next → Grown front byte next
unfolding step
at_comma placement front byte next so_far stepped = search rules

at_row : (placement : Placement) (front : List ℕ) (byte : ℕ) (next : Reading) → Column placement front (head placement ++ decimal placement.x ++ 44 ∷ []) → step (reading due.Row placement) byte ≡ Some next
    → Grown front byte next
unfolding step head placement_form
at_row placement front byte next so_far stepped = search (rules, map-some, digit_only, decimal_digit)

-- keys
at_keys : (placement : Placement) (front : List ℕ) (byte : ℕ) (next : Reading) → IsPlacementText front placement → keys_step placement byte ≡ Some next → Grown front byte next
at_keys placement front byte next so_far stepped = search rules

at_key : (placement : Placement) (front : List ℕ) (byte : ℕ) (next : Reading) → Pressed placement front → step (reading due.Key placement) byte ≡ Some next → Grown front byte next
unfolding step
at_key placement front byte next so_far stepped = elim (cases_Bool (is_key_letter byte)) [
  | inl is ↦
      let key = pressed_key byte is in
      let same : reading due.Key placement ≡ next = same_Some _ _ (rw is at stepped) in
      subst (Grown front byte) same (record {
        text = so_far.text;
        written = so_far.written;
        pressed = so_far.pressed ++ key.0 ∷ [];
        whole = ap (λ t. t ++ byte ∷ []) so_far.whole ∙ append_assoc so_far.text (58 ∷ map key_letter so_far.pressed) (byte ∷ [])
            ∙ ap (λ t. so_far.text ++ 58 ∷ t) (letters so_far.pressed key.0 byte key.1);
      })
  | inr is ↦
      let taken = when-some (byte == 72) (reading due.AfterKeys placement) next (rw is at stepped) in
      let whole = ap (λ t. t ++ byte ∷ []) so_far.whole ∙ append_assoc so_far.text (58 ∷ map key_letter so_far.pressed) (byte ∷ [])
      ∙ ap (λ b. so_far.text ++ 58 ∷ (map key_letter so_far.pressed ++ b ∷ [])) (eqb-true byte 72 taken.0) in
      subst (Grown front byte) taken.1 (subst (λ t. SpellsPlacement t placement) (sym whole) (with_keys so_far.written so_far.pressed))
] where
  letters : (pressed : List Key) (key : Key) (byte : ℕ) → key_letter key ≡ byte → map key_letter pressed ++ byte ∷ [] ≡ map key_letter (pressed ++ key ∷ [])
  letters pressed key byte is = ap (λ b. map key_letter pressed ++ b ∷ []) (sym is) ∙ sym (map-append key_letter pressed (key ∷ []))

-- a second digit of the row, or keys
at_after_row : (placement : Placement) (front : List ℕ) (byte : ℕ) (next : Reading) → IsPlacementText front placement → after_row_step placement byte ≡ Some next → Grown front byte next
unfolding head placement_form
at_after_row placement front byte next so_far stepped = by (digit_in byte) refl
  where
    second : (ones row : ℕ) → IsDigit byte ones → IsRowOf placement.y ones row → IsPlacementText (front ++ byte ∷ []) (record placement { y = row })
    second ones row digit made =
        let small : placement.y ≤ 9 = omega (arith, made.is, made.within) in
        let first : decimal placement.y ≡ (48 + placement.y) ∷ [] = decimal_digit placement.y (omega (arith, small)) in
        let both = both_digits (48 + placement.y) byte placement.y ones row (record { small = small; is = refl }) digit made in
        record {
          pivot = record { in_columns = so_far.pivot.in_columns; in_rows = both.within };
          written = ap (λ t. t ++ byte ∷ []) so_far.written ∙ rw (first, sym both.is) (append_assoc (head placement ++ decimal placement.x ++ 44 ∷ []) ((48 + placement.y) ∷ []) (byte ∷ []));
        }

    by : (digit : Option ℕ) → digit_in byte ≡ digit → Grown front byte next
    by None is = at_keys placement front byte next so_far (rw is at stepped)
    by (Some ones) is =
        let found = map-some (λ row. reading due.AfterRow (record placement { y = row })) (two_digit_row placement.y ones) next (rw is at stepped) in
        subst (Grown front byte) found.made (second ones found.item (digit_only byte ones is) (two_only placement.y ones found.item found.is))

-- whatever is due
grown : (kind : Due) (placement : Placement) (front : List ℕ) (byte : ℕ) (next : Reading) → IsRead kind placement front → step (reading kind placement) byte ≡ Some next → Grown front byte next
unfolding step
grown kind placement front byte next so_far stepped =
    search (rules, at_piece, at_rotation, at_colon, at_column, at_comma, at_row, at_after_row, at_key)

-- where a placement may end, its text was read
ended : (kind : Due) (placement : Placement) (front : List ℕ) → IsRead kind placement front → may_end kind ≡ true → SpellsPlacement front placement
ended kind placement front so_far may = search (rules, alone)

-- what was read after the placements before
record Spelled (read : List Placement) (left : ℕ) (text : List ℕ) (sequence : List Placement) : Type 0 where
  later : List Placement
  whole : sequence ≡ read ++ later
  spelled : SpellsSequence text later
  count : length later ≡ suc left

ok_is : (one other : List Placement) → ◌≡◌ {A = Result (List Placement) ℕ} (Ok one) (Ok other) → one ≡ other
ok_is one other e = cc

no_answer : (place : ℕ) (sequence : List Placement) → ◌≡◌ {A = Result (List Placement) ℕ} (Err place) (Ok sequence) → ⊥
no_answer place sequence e = cc

-- the last placement
at_end : (read : List Placement) (left : ℕ) (now : Reading) (front : List ℕ) (place : ℕ) (sequence : List Placement) → IsRead now.due now.placement front
    → read_from read left now place [] ≡ Ok sequence → Spelled read left (front ++ []) sequence
unfolding read_from
at_end read left now front place sequence so_far gives =
    search (rules, cases_Bool, eqb-true, ok_is, append-nil, last, ended, no_answer)

-- a placement before others
before_others : (read : List Placement) (left : ℕ) (placement : Placement) (front bytes : List ℕ) (sequence : List Placement) → 0 < left → SpellsPlacement front placement
    → Spelled (read ++ placement ∷ []) (left - 1) bytes sequence → Spelled read left (front ++ 32 ∷ bytes) sequence
before_others read left placement front bytes sequence some first others = search (rules, append_assoc, more)

-- a byte that is taken
record Taken (step : Option Reading) (rest : Reading → Result (List Placement) ℕ) (sequence : List Placement) : Type 0 where
  next : Reading
  is : step ≡ Some next
  gives : rest next ≡ Ok sequence

step_taken : (step : Option Reading) (place : ℕ) (rest : Reading → Result (List Placement) ℕ) (sequence : List Placement) → continue_with step place rest ≡ Ok sequence → Taken step rest sequence
step_taken step place rest sequence gives = search rules

spelled_from : (bytes : List ℕ) (read : List Placement) (left : ℕ) (now : Reading) (front : List ℕ) (place : ℕ) (sequence : List Placement) → IsRead now.due now.placement front
    → read_from read left now place bytes ≡ Ok sequence → Spelled read left (front ++ bytes) sequence
unfolding read_from
spelled_from [] read left now front place sequence so_far gives = at_end read left now front place sequence so_far gives
spelled_from (byte ∷ bytes) read left now front place sequence so_far gives = elim (cases_Bool (byte == 32)) [
  | inl blank ↦ elim (cases_Bool (may_end now.due && nat_lt 0 left)) [
    | inl on ↦
        let parts = and_parts _ _ on in
        subst (λ b. Spelled read left (front ++ b ∷ bytes) sequence) (sym (eqb-true byte 32 blank))
        (before_others read left now.placement front bytes sequence (ltb-true 0 left parts.1) (ended now.due now.placement front so_far parts.0)
        (spelled_from bytes (read ++ now.placement ∷ []) (left - 1) unread [] (place + 1) sequence refl (rw (blank, on) at gives)))
    | inr on ↦ absurd (no_answer place sequence (rw (blank, on) at gives))
  ]
  | inr no_blank ↦
      let goes : continue_with (step now byte) place (λ next. read_from read left next (place + 1) bytes) ≡ Ok sequence = rw no_blank at gives in
      let taken = step_taken (step now byte) place (λ next. read_from read left next (place + 1) bytes) sequence goes in
      subst (λ t. Spelled read left t sequence) (append_assoc front (byte ∷ []) bytes)
      (spelled_from bytes read left taken.next (front ++ byte ∷ []) (place + 1) sequence (grown now.due now.placement front byte taken.next so_far taken.is) taken.gives)
]

-- what a text is read as, it spells
pub read_is_spelled : (needed : ℕ) (text : List ℕ) (sequence : List Placement) → sequence_in needed text ≡ Ok sequence → Spells needed text sequence
read_is_spelled zero [] sequence gives = let same = ok_is [] sequence gives in subst (Spells zero []) same (record { spelled = none; count = refl })
read_is_spelled zero (byte ∷ bytes) sequence gives = absurd (no_answer 0 sequence gives)
read_is_spelled (suc left) text sequence gives =
    let all = spelled_from text [] left unread [] 0 sequence refl gives in
    record { spelled = subst (SpellsSequence text) (sym all.whole) all.spelled; count = ap length all.whole ∙ all.count }
