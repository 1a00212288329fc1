-- What a text spells is what is read of it.
use Rattle.std.proofs.Common.{◌≡◌, ℕ, ◌+◌, ℤ, true, false, ◌==◌, eqb-true, List, [], ◌∷◌, ◌++◌, length, refl, ap, sym, subst, ◌∙◌, arith, Result, Ok, Err, append_assoc, inl, inr, rules}
use Rattle.std.specs.List.{fold}
use Rattle.std.proofs.lemmas.Bool.{and_parts, cases_Bool, or_parts, not-true}
use Rattle.std.proofs.lemmas.List.{length-append, append-nil}
use Rattle.std.proofs.lemmas.List.Folds.{list_any-append}
use Rattle.srs.specs.Kick.{Table, srs_table}
use Rattle.srs.specs.Rotation.{rotation_letter}
use Rattle.srs.proofs.CallerLemmas.{each_state}
use Rattle.kick_file.specs.declared.fault.KickFault.{KickFault}
use Rattle.kick_file.specs.declared.fault.KickFault.TheVariants.{Unexpected, RepeatedEntry}
use Rattle.kick_file.specs.declared.turned.TurnedPiece.{TurnedPiece}
use Rattle.kick_file.specs.declared.parser_state.ParserState.TheVariants.{Division}
use Rattle.kick_file.specs.Form.{Entry, SpellsEntry, SpellsEntries, is_repeated, are_distinct, turned_of, table_with_entry, table_of_entries}
use Rattle.kick_file.specs.Faults.{SpellsBefore, SpellsTable, Repeats}
use Rattle.kick_file.specs.Reading.{beginning, kick_text, read_on, after_byte}
use Rattle.kick_file.proofs.Steps.{at}
use Rattle.kick_file.proofs.Numbers.{whole}
use Rattle.kick_file.proofs.GivenLemmas.{is_same-symmetric}
use Rattle.kick_file.proofs.Entries.{HasFive, with_entry-five, repeated_entry, reads_entry}

-- the table of the Super Rotation System has five offsets for each
pub srs_five : HasFive srs_table
srs_five piece rotation = eqb-true _ 5 (each_state (λ p r. length (srs_table p r) == 5) refl piece rotation)

-- what stands among distinct ones differs from those before it
distinct_middle : (given : List TurnedPiece) (turned : TurnedPiece) (later : List TurnedPiece) → are_distinct (given ++ turned ∷ later) ≡ true → is_repeated given turned ≡ false
distinct_middle [] turned later distinct = refl
distinct_middle (other ∷ given) turned later distinct =
    search (rules, and_parts, or_parts, list_any-append, not-true, is_same-symmetric, (distinct_middle given turned later))

joined : (given : List TurnedPiece) (turned : TurnedPiece) (later : List TurnedPiece) → are_distinct (given ++ turned ∷ later) ≡ true
    → are_distinct ((given ++ turned ∷ []) ++ later) ≡ true
joined given turned later distinct = ap are_distinct (append_assoc given (turned ∷ []) later) ∙ distinct

-- the `;` after an entry
semicolon : (given : List TurnedPiece) (table : Table) (turned : TurnedPiece) (last : ℤ × ℤ) (place : ℕ) (rest : List ℕ)
    → read_on (at given table (whole turned 5 last)) place (59 ∷ rest) ≡ read_on (at given table Division) (place + 1) rest
unfolding read_on after_byte
semicolon given table turned last place rest = refl

at_end : (given : List TurnedPiece) (table : Table) (turned : TurnedPiece) (last : ℤ × ℤ) (place : ℕ) → read_on (at given table (whole turned 5 last)) place [] ≡ Ok table
unfolding read_on
at_end given table turned last place = refl

-- entries of different pieces and rotations make their table
entries_read : (given : List TurnedPiece) (table : Table) (place : ℕ) (text : List ℕ) (entry : Entry) (entries : List Entry) → HasFive table
    → are_distinct (given ++ turned_of (entry ∷ entries)) ≡ true → SpellsEntries text (entry ∷ entries)
    → read_on (at given table Division) place text ≡ Ok (fold table_with_entry table (entry ∷ entries))
entries_read given table place text entry [] five distinct spelled =
    let reads = reads_entry given table text entry five spelled (distinct_middle given entry.turned [] distinct) in
    ap (read_on (at given table Division) place) (sym (append-nil text)) ∙ reads.on place []
    ∙ at_end (given ++ entry.turned ∷ []) (table_with_entry table entry) entry.turned reads.last (place + length text)
entries_read given table place text entry (next ∷ entries) five distinct spelled =
    let front = spelled.0 in
    let rest = spelled.1 in
    let reads = reads_entry given table front entry five spelled.3 (distinct_middle given entry.turned (turned_of (next ∷ entries)) distinct) in
    search (rules, semicolon, with_entry-five, joined, (entries_read (given ++ entry.turned ∷ []) (table_with_entry table entry) ((place + length front) + 1) rest next entries))

-- the same of entries with a `;` after each, before other text
pub before_read : (given : List TurnedPiece) (table : Table) (place : ℕ) (front rest : List ℕ) (entries : List Entry) → HasFive table
    → are_distinct (given ++ turned_of entries) ≡ true → SpellsBefore front entries
    → read_on (at given table Division) place (front ++ rest)
    ≡ read_on (at (given ++ turned_of entries) (fold table_with_entry table entries) Division) (place + length front) rest
before_read given table place front rest [] five distinct spelled = search (rules, append-nil)
before_read given table place front rest (entry ∷ entries) five distinct spelled =
    let first = spelled.0 in
    let later = spelled.1 in
    let reads = reads_entry given table first entry five spelled.3 (distinct_middle given entry.turned (turned_of entries) distinct) in
    search (rules, append_assoc, length-append, semicolon, with_entry-five, joined, (before_read (given ++ entry.turned ∷ []) (table_with_entry table entry) ((place + length first) + 1) later rest entries))

-- any other fault than an unexpected byte
unfoldable pub IsFine : Result Table KickFault → Type 0
IsFine (Ok table) = Unit {0}
IsFine (Err (Unexpected place)) = ⊥
IsFine (Err (RepeatedEntry place)) = Unit {0}

stood_fine : (given : List TurnedPiece) (table : Table) (place : ℕ) (front rest : List ℕ) (entry : Entry) → SpellsEntry front entry → is_repeated given entry.turned ≡ true
    → IsFine (read_on (at given table Division) place (front ++ rest))
unfolding IsFine
stood_fine given table place front rest entry spelled stood = search (rules, repeated_entry)

-- a text that spells entries, equal ones among them or not, has no unexpected byte
pub entries_fine : (given : List TurnedPiece) (table : Table) (place : ℕ) (text : List ℕ) (entry : Entry) (entries : List Entry) → HasFive table
    → SpellsEntries text (entry ∷ entries) → IsFine (read_on (at given table Division) place text)
unfolding IsFine
entries_fine given table place text entry [] five spelled = elim (cases_Bool (is_repeated given entry.turned)) [
  | inl stood ↦ subst (λ t. IsFine (read_on (at given table Division) place t)) (append-nil text) (stood_fine given table place text [] entry spelled stood)
  | inr fresh ↦
      let reads = reads_entry given table text entry five spelled fresh in
      subst IsFine (sym (ap (read_on (at given table Division) place) (sym (append-nil text)) ∙ reads.on place []
      ∙ at_end (given ++ entry.turned ∷ []) (table_with_entry table entry) entry.turned reads.last (place + length text))) tt
]
entries_fine given table place text entry (next ∷ entries) five spelled = elim (cases_Bool (is_repeated given entry.turned)) [
  | inl stood ↦ subst (λ t. IsFine (read_on (at given table Division) place t)) (sym spelled.2) (stood_fine given table place spelled.0 (59 ∷ spelled.1) entry spelled.3 stood)
  | inr fresh ↦
      let reads = reads_entry given table spelled.0 entry five spelled.3 fresh in
      search (rules, semicolon, with_entry-five, (entries_fine (given ++ entry.turned ∷ []) (table_with_entry table entry) ((place + length spelled.0) + 1) spelled.1 next entries (with_entry-five table entry spelled.3.five five) spelled.4))
]

-- a text of entries has a first byte
record HasFirst (text : List ℕ) : Type 0 where
  byte : ℕ
  bytes : List ℕ
  is : text ≡ byte ∷ bytes

entries_first : (text : List ℕ) (entry : Entry) (entries : List Entry) → SpellsEntries text (entry ∷ entries) → HasFirst text
entries_first text entry entries spelled = search rules

front_first : (front : List ℕ) (letter : ℕ) (rest : List ℕ) → HasFirst (front ++ letter ∷ rest)
front_first [] letter rest = record { byte = letter; bytes = rest; is = refl }
front_first (byte ∷ front) letter rest = record { byte = byte; bytes = front ++ letter ∷ rest; is = refl }

-- the first entry needs no `;` before it
begins : (text : List ℕ) → HasFirst text → kick_text text ≡ read_on (at [] srs_table Division) 0 text
unfolding read_on after_byte
begins text first = ap (read_on beginning 0) first.is ∙ sym (ap (read_on (at [] srs_table Division) 0) first.is)

pub table_read : (text : List ℕ) (table : Table) → SpellsTable text table → kick_text text ≡ Ok table
unfolding read_on
table_read text table is = by is.entries is.spelled is.distinct ∙ ap Ok (sym is.is)
  where
    by : (entries : List Entry) → SpellsEntries text entries → are_distinct (turned_of entries) ≡ true → kick_text text ≡ Ok (table_of_entries entries)
    by [] spelled distinct = ap kick_text spelled
    by (entry ∷ entries) spelled distinct = begins text (entries_first text entry entries spelled) ∙ entries_read [] srs_table 0 text entry entries srs_five distinct spelled

pub repeat_read : (text : List ℕ) (place : ℕ) → Repeats text place → kick_text text ≡ Err (RepeatedEntry place)
repeat_read text place is =
    let tail = rotation_letter is.turned.rotation ∷ is.rest in
    ap kick_text is.whole ∙ begins (is.front ++ is.letter ∷ tail) (front_first is.front is.letter tail)
    ∙ before_read [] srs_table 0 is.front (is.letter ∷ tail) is.entries srs_five is.distinct is.before
    ∙ repeated_entry (turned_of is.entries) (table_of_entries is.entries) (0 + length is.front) is.letter is.turned is.rest is.named is.repeated
    ∙ ap (λ n. Err (RepeatedEntry n)) (omega (arith, is.starts))

pub spelled_fine : (text : List ℕ) (entries : List Entry) → SpellsEntries text entries → IsFine (kick_text text)
unfolding read_on IsFine
spelled_fine text [] spelled = subst (λ t. IsFine (kick_text t)) (sym spelled) tt
spelled_fine text (entry ∷ entries) spelled = search (rules, begins, entries_first, entries_fine, srs_five)
