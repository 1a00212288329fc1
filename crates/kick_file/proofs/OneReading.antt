-- A text is read as it spells, and as nothing else.
use Rattle.std.proofs.Common.{◌≡◌, ℕ, ◌+◌, ◌<◌, true, cond, nat_lt, List, [], ◌∷◌, ◌++◌, length, drop, refl, ap, sym, subst, ◌∙◌, ◌↔◌, arith, Option, Some, None, Result, Ok, Err, append_assoc, inl, inr, rules}
use Rattle.std.proofs.lemmas.Bool.{cases_Bool, cases_lt}
use Rattle.std.proofs.lemmas.List.{append-nil, length_push, same_from_push}
use Rattle.srs.specs.declared.offset.Offset.{Offset}
use Rattle.srs.specs.Kick.{Table, srs_table, pair_of}
use Rattle.kick_file.specs.declared.fault.KickFault.{KickFault}
use Rattle.kick_file.specs.declared.fault.KickFault.TheVariants.{Unexpected, RepeatedEntry}
use Rattle.kick_file.specs.declared.turned.TurnedPiece.{TurnedPiece}
use Rattle.kick_file.specs.declared.parser_state.ParserState.{ParserState}
use Rattle.kick_file.specs.declared.parser_state.ParserState.TheVariants.{Beginning, Division, Letter, Letters, Columns, Comma, Rows, Whole}
use Rattle.kick_file.specs.Form.{Entry, SpellsEntries, is_repeated, are_distinct, turned_of}
use Rattle.srs.specs.Rotation.{rotation_letter}
use Rattle.srs.specs.Forms.{IsFront, IsStopped, LeavesForm}
use Rattle.kick_file.specs.Faults.{Repeats, SpellsSome, IsUnexpected, IsReadAs}
use Rattle.kick_file.specs.Reading.{Reading, kick_text, reading_at, after_byte, ended, next_state, read_on, read_after}
use Rattle.kick_file.proofs.GivenLemmas.{distinct_more}
use Rattle.kick_file.proofs.Steps.{at}
use Rattle.kick_file.proofs.SpelledIsRead.{IsFine, table_read, repeat_read, spelled_fine}
use Rattle.kick_file.proofs.ReadIsSpelled.{one_more}
use Rattle.kick_file.proofs.Standing.{Here, finished, front_here}
use Rattle.kick_file.proofs.Moving.{given_then, table_then, moved}

-- where reading stands after a text
record At (text : List ℕ) (reading : Reading) : Type 0 where
  entries : List Entry
  distinct : are_distinct reading.given ≡ true
  here : Here text entries reading.given reading.table reading.state
  passes : (rest : List ℕ) → kick_text (text ++ rest) ≡ read_on reading (length text) rest

-- what follows a byte that may stand
data Enters (given : List TurnedPiece) (table : Table) (state to : ParserState) : Result Reading KickFault → Type 0 where
  on : are_distinct (given_then given to) ≡ true → Enters given table state to (Ok (at (given_then given to) (table_then table to) to))
  stood : (turned : TurnedPiece) (start : ℕ) → to ≡ Letters turned start → is_repeated given turned ≡ true → Enters given table state to (Err (RepeatedEntry start))

enters : (given : List TurnedPiece) (table : Table) (state to : ParserState) (place : ℕ) → are_distinct given ≡ true
    → Enters given table state to (reading_at (at given table state) place (Some to))
unfolding given_then table_then
enters given table state Beginning place distinct = on distinct
enters given table state Division place distinct = on distinct
enters given table state (Letter piece start) place distinct = on distinct
enters given table state (Letters turned start) place distinct = elim (cases_Bool (is_repeated given turned)) [
  | inl among ↦ subst (λ b. Enters given table state (Letters turned start) (cond b (Err (RepeatedEntry start)) (Ok (at (given ++ turned ∷ []) table (Letters turned start))))) (sym among)
      (stood turned start refl among)
  | inr fresh ↦ subst (λ b. Enters given table state (Letters turned start) (cond b (Err (RepeatedEntry start)) (Ok (at (given ++ turned ∷ []) table (Letters turned start))))) (sym fresh)
      (on (distinct_more given turned distinct fresh))
]
enters given table state (Columns turned test is_negative) place distinct = on distinct
enters given table state (Comma turned test dx) place distinct = on distinct
enters given table state (Rows turned test dx is_negative) place distinct = on distinct
enters given table state (Whole turned test offset) place distinct = on distinct

-- a text with an unexpected byte repeats nothing, and nothing goes on with that byte
not_fine : (place : ℕ) (read : Result Table KickFault) → read ≡ Err (Unexpected place) → IsFine read → ⊥
unfolding IsFine
not_fine place read is fine = subst IsFine is fine

unexpected : (text rest : List ℕ) (reading : Reading) → At text reading → kick_text (text ++ rest) ≡ Err (Unexpected (length text)) → IsStopped SpellsSome text rest
    → IsUnexpected (text ++ rest) (length text)
unexpected text rest reading stands is stops = record {
  leaves = search (rules, front_here);
  first = λ other repeats. let no : Err (Unexpected (length text)) ≡ Err (RepeatedEntry other) = sym is ∙ repeat_read (text ++ rest) other repeats in cc;
}

-- the text ends
end_unexpected : (text : List ℕ) (reading : Reading) → At text reading → ended reading.table (length text) reading.state ≡ Err (Unexpected (length text))
    → IsReadAs (text ++ []) (Err (Unexpected (length text)))
unfolding read_on
end_unexpected text reading stands is =
    search (rules, (unexpected text [] reading stands), (not_fine (length text) (kick_text text)), (append-nil text), (spelled_fine text))

whole_end : (text : List ℕ) (given : List TurnedPiece) (table : Table) (turned : TurnedPiece) (test : ℕ) (offset : Offset) → At text (at given table (Whole turned test offset))
    → IsReadAs (text ++ []) (ended table (length text) (Whole turned test offset))
whole_end text given table turned test offset stands = elim (cases_Bool (nat_lt test 5)) [
  | inl more ↦
      let is : ended table (length text) (Whole turned test offset) ≡ Err (Unexpected (length text)) = ap (λ b. cond b (Err (Unexpected (length text))) (Ok table)) more in
      subst (IsReadAs (text ++ [])) (sym is) (end_unexpected text (at given table (Whole turned test offset)) stands is)
  | inr done ↦
      let is : ended table (length text) (Whole turned test offset) ≡ Ok table = ap (λ b. cond b (Err (Unexpected (length text))) (Ok table)) done in
      let end = finished text stands.entries given table turned test (pair_of offset) stands.here done in
      search (rules, append-nil, one_more)
]

at_the_end : (text : List ℕ) (given : List TurnedPiece) (table : Table) (state : ParserState) → At text (at given table state)
    → IsReadAs (text ++ []) (ended table (length text) state)
at_the_end text given table Beginning stands = search (rules, append-nil)
at_the_end text given table Division stands = end_unexpected text _ stands refl
at_the_end text given table (Letter piece start) stands = end_unexpected text _ stands refl
at_the_end text given table (Letters turned start) stands = end_unexpected text _ stands refl
at_the_end text given table (Columns turned test is_negative) stands = end_unexpected text _ stands refl
at_the_end text given table (Comma turned test dx) stands = end_unexpected text _ stands refl
at_the_end text given table (Rows turned test dx is_negative) stands = end_unexpected text _ stands refl
at_the_end text given table (Whole turned test offset) stands = whole_end text given table turned test offset stands

-- an entry that stood before
repeats : (text rest : List ℕ) (byte start : ℕ) (turned : TurnedPiece) (given : List TurnedPiece) (table : Table) (state : ParserState) (entries fresh : List Entry) → are_distinct given ≡ true
    → Here text entries given table state → Here (text ++ byte ∷ []) fresh (given ++ turned ∷ []) table (Letters turned start) → is_repeated given turned ≡ true
    → Repeats (text ++ byte ∷ rest) start
repeats text rest byte start turned given table state entries fresh distinct here now among = search (
  rules,
  (same_from_push given (turned_of fresh) turned turned now.1),
  (append_assoc text (byte ∷ []) rest),
  (append_assoc now.0.before (now.0.letter ∷ rotation_letter turned.rotation ∷ []) rest),
)

-- reading on with these bytes, from wherever a text stands
abbrev ReadsOn : List ℕ → Type 0
ReadsOn bytes = (text : List ℕ) (given : List TurnedPiece) (table : Table) (state : ParserState) → At text (at given table state)
    → IsReadAs (text ++ bytes) (read_on (at given table state) (length text) bytes)

by_result : (bytes text : List ℕ) (byte : ℕ) (given : List TurnedPiece) (table : Table) (state to : ParserState) → At text (at given table state) → ReadsOn bytes
    → next_state state (length text) byte ≡ Some to → (r : Result Reading KickFault) → Enters given table state to r → after_byte (at given table state) (length text) byte ≡ r
    → IsReadAs (text ++ byte ∷ bytes) (read_after r (λ now. read_on now (length text + 1) bytes))
unfolding read_on given_then table_then
by_result bytes text byte given table state to stands later is (Ok now) (on distinct) step_to = search (
  rules,
  (moved text byte (length text) stands.entries given table state to stands.here refl is),
  (length_push text byte),
  (append_assoc text (byte ∷ []) bytes),
  (append_assoc text (byte ∷ [])),
)
by_result bytes text byte given table state to stands later is (Err fault) (stood turned start same among) step_to =
    let there = moved text byte (length text) stands.entries given table state (Letters turned start) stands.here refl (is ∙ ap Some same) in
    repeats text bytes byte start turned given table state stands.entries there.entries stands.distinct stands.here there.here among

by_next : (bytes text : List ℕ) (byte : ℕ) (given : List TurnedPiece) (table : Table) (state : ParserState) → At text (at given table state) → ReadsOn bytes
    → (o : Option ParserState) → next_state state (length text) byte ≡ o
    → IsReadAs (text ++ byte ∷ bytes) (read_after (after_byte (at given table state) (length text) byte) (λ now. read_on now (length text + 1) bytes))
unfolding read_on after_byte
by_next bytes text byte given table state stands later None is =
    search (rules, (unexpected text (byte ∷ bytes) (at given table state) stands), (not_fine (length text)), (append_assoc text (byte ∷ [])), spelled_fine)
by_next bytes text byte given table state stands later (Some to) is =
    let step_to : after_byte (at given table state) (length text) byte ≡ reading_at (at given table state) (length text) (Some to) = ap (reading_at (at given table state) (length text)) is in
    subst (λ r. IsReadAs (text ++ byte ∷ bytes) (read_after r (λ now. read_on now (length text + 1) bytes))) (sym step_to)
    (by_result bytes text byte given table state to stands later is (reading_at (at given table state) (length text) (Some to)) (enters given table state to (length text) stands.distinct) step_to)

reads_on : (bytes : List ℕ) → ReadsOn bytes
unfolding read_on
reads_on [] text given table state stands = at_the_end text given table state stands
reads_on (byte ∷ bytes) text given table state stands = by_next bytes text byte given table state stands (reads_on bytes) (next_state state (length text) byte) refl

-- what is read of a text is what it spells, or its fault
pub read_as : (text : List ℕ) → IsReadAs text (kick_text text)
read_as text = search (rules, (reads_on text [] [] srs_table Beginning))

-- of two fronts of a text the longer one goes on from the shorter one
record GoesFurther (front rest longer : List ℕ) : Type 0 where
  byte : ℕ
  more : List ℕ
  after : List ℕ
  rest_is : rest ≡ byte ∷ after
  longer_is : longer ≡ (front ++ byte ∷ []) ++ more

goes_on_from : (front rest longer later : List ℕ) → front ++ rest ≡ longer ++ later → length front < length longer → GoesFurther front rest longer
goes_on_from [] rest [] later same short = absurd (omega (arith, short))
goes_on_from [] rest (byte ∷ longer) later same short = record { byte = byte; more = longer; after = longer ++ later; rest_is = same; longer_is = refl }
goes_on_from (first ∷ front) rest [] later same short = absurd (omega (arith, short))
goes_on_from (first ∷ front) rest (byte ∷ longer) later same short =
    search (rules, goes_on_from front rest longer later (ap (drop 1) same) (omega (arith, short)))

-- a text that can go on beyond a front isn't stopped there
beyond : (front rest longer later : List ℕ) → front ++ rest ≡ longer ++ later → length front < length longer → IsFront SpellsSome longer → IsStopped SpellsSome front rest → ⊥
beyond front rest longer later same short begins stops =
    search (rules, (goes_on_from front rest longer later same short), append_assoc)

-- a text with an unexpected byte spells no entries
unexpected_unspelled : (text : List ℕ) (place : ℕ) (entries : List Entry) → IsUnexpected text place → SpellsEntries text entries → ⊥
unexpected_unspelled text place entries is spelled = by left.rest (subst SpellsSome left.whole (entries, spelled)) left.stops
  where
    left : LeavesForm SpellsSome text place
    left = is.leaves

    by : (rest : List ℕ) → SpellsSome (left.front ++ rest) → IsStopped SpellsSome left.front rest → ⊥
    by [] whole stops = stops (subst SpellsSome (append-nil left.front) whole)
    by (byte ∷ rest) whole stops = stops (record { rest = rest; form = subst SpellsSome (sym (append_assoc left.front (byte ∷ []) rest)) whole })

one_place : (text : List ℕ) (place other : ℕ) → LeavesForm SpellsSome text place → LeavesForm SpellsSome text other → place ≡ other
one_place text place other one two = search (rules, cases_lt, beyond)

unexpected_read : (text : List ℕ) (place : ℕ) (read : Result Table KickFault) → IsReadAs text read → IsUnexpected text place → read ≡ Err (Unexpected place)
unexpected_read text place (Ok table) spells is = absurd (unexpected_unspelled text place spells.entries is spells.spelled)
unexpected_read text place (Err (Unexpected other)) unexpected is = ap (λ n. Err (Unexpected n)) (one_place text other place unexpected.leaves is.leaves)
unexpected_read text place (Err (RepeatedEntry other)) repeated is = absurd (is.first other repeated)

only_read : (text : List ℕ) (read : Result Table KickFault) → IsReadAs text read → kick_text text ≡ read
only_read text (Ok table) spells = table_read text table spells
only_read text (Err (Unexpected place)) is = unexpected_read text place (kick_text text) (read_as text) is
only_read text (Err (RepeatedEntry place)) repeated = repeat_read text place repeated

pub read_as_spelled : (text : List ℕ) (read : Result Table KickFault) → (kick_text text ≡ read) ↔ IsReadAs text read
read_as_spelled text read = (λ is. subst (IsReadAs text) is (read_as text), only_read text read)
