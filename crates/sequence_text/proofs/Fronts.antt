-- The place at which a sequence's text is refused is the length of the longest front that begins such a text.
use Rattle.std.proofs.Common.{◌≡◌, ℕ, zero, suc, ◌+◌, ◌-◌, ◌<◌, ◌≤◌, ◌==◌, ◌&&◌, Bool, true, false, nat_lt, List, [], ◌∷◌, ◌++◌, length, take, Option, Some, None, Result, Ok, Err, refl, sym, ap, subst, ◌∙◌, arith, inl, inr, ◌⊎◌, ◌↔◌, rules}
use Rattle.srs.specs.declared.placement.Placement.{Placement}
use Rattle.srs.specs.declared.piece.Piece.TheVariants.{I}
use Rattle.srs.specs.declared.rotation.Rotation.TheVariants.{Spawn}
use Rattle.std.proofs.lemmas.Bool.{lt-ltb}
use Rattle.sequence_text.specs.declared.reading.Due.{Due}
use Rattle.sequence_text.specs.declared.reading.Due.TheVariants as due
use Rattle.sequence_text.specs.declared.reading.Reading.{Reading}
use Rattle.sequence_text.specs.Reading.{read_from, reading, step, may_end, unread, sequence_in}
use Rattle.sequence_text.specs.Form.{Spells, IsLongestFront, IsRefusedAt}
use Rattle.sequence_text.proofs.SpelledText.{spelled_is_read}
use Rattle.sequence_text.proofs.ReadText.{read_is_spelled}

abbrev pub Answer : Type 0
Answer = Result (List Placement) ℕ

-- some bytes make a whole sequence of what was read
record Completes (read : List Placement) (left : ℕ) (now : Reading) (place : ℕ) : Type 0 where
  rest : List ℕ
  sequence : List Placement
  whole : read_from read left now place rest ≡ Ok sequence

corner : Placement
corner = record { piece = I; rotation = Spawn; x = 0; y = 0 }

-- after a placement
after_placement : (left : ℕ) (read : List Placement) (kind : Due) (placement : Placement) (place : ℕ) → may_end kind ≡ true → Completes read left (reading kind placement) place
unfolding read_from step corner
after_placement zero read kind placement place may = record { rest = []; sequence = read ++ placement ∷ []; whole = rw may refl }
after_placement (suc left) read kind placement place may =
    let more = after_placement left (read ++ placement ∷ []) due.AfterRow corner (place + 1 + 1 + 1 + 1 + 1 + 1 + 1) refl in
    let on : (may_end kind && nat_lt 0 (suc left)) ≡ true = rw may (lt-ltb 0 (suc left) (omega arith)) in
    let fewer : suc left - 1 ≡ left = omega arith in
    record { rest = 32 ∷ 73 ∷ 48 ∷ 58 ∷ 48 ∷ 44 ∷ 48 ∷ more.rest; sequence = more.sequence; whole = rw (on, fewer) more.whole }

-- whatever is due next, some bytes make a whole sequence
one_byte : {read : List Placement} {left : ℕ} {now next : Reading} {place : ℕ} (byte : ℕ) → (byte == 32) ≡ false → step now byte ≡ Some next → Completes read left next (place + 1) → Completes read left now place
unfolding read_from
one_byte byte no_blank stepped more = record { rest = byte ∷ more.rest; sequence = more.sequence; whole = rw (no_blank, stepped) more.whole }

from_row : (read : List Placement) (left : ℕ) (placement : Placement) (place : ℕ) → Completes read left (reading due.Row placement) place
unfolding step
from_row read left placement place = one_byte 48 refl refl (after_placement left read due.AfterRow (record placement { y = 0 }) (place + 1) refl)

from_column : (read : List Placement) (left : ℕ) (placement : Placement) (place : ℕ) → Completes read left (reading due.Column placement) place
unfolding step
from_column read left placement place =
    one_byte 48 refl refl (one_byte 44 refl refl (from_row read left (record placement { x = 0 }) (place + 1 + 1)))

from_rotation : (read : List Placement) (left : ℕ) (placement : Placement) (place : ℕ) → Completes read left (reading due.RotationLetter placement) place
unfolding step
from_rotation read left placement place =
    one_byte 48 refl refl (one_byte 58 refl refl (from_column read left (record placement { rotation = Spawn }) (place + 1 + 1)))

completes : (kind : Due) (read : List Placement) (left : ℕ) (placement : Placement) (place : ℕ) → Completes read left (reading kind placement) place
unfolding step
completes due.PieceLetter read left placement place = one_byte 73 refl refl (from_rotation read left (record placement { piece = I }) (place + 1))
completes due.RotationLetter read left placement place = from_rotation read left placement place
completes due.Colon read left placement place = one_byte 58 refl refl (from_column read left placement (place + 1))
completes due.Column read left placement place = from_column read left placement place
completes due.Comma read left placement place = one_byte 44 refl refl (from_row read left placement (place + 1))
completes due.Row read left placement place = from_row read left placement place
completes due.AfterRow read left placement place = after_placement left read due.AfterRow placement place refl
completes due.Key read left placement place = one_byte 72 refl refl (after_placement left read due.AfterKeys placement (place + 1) refl)
completes due.AfterKeys read left placement place = after_placement left read due.AfterKeys placement place refl

-- a byte stops the reading, or the reading goes on with those after it
record Stops (read : List Placement) (left : ℕ) (now : Reading) (place byte : ℕ) : Type 0 where
  stops : (bytes : List ℕ) → read_from read left now place (byte ∷ bytes) ≡ Err place

record ReadsFurther (read : List Placement) (left : ℕ) (now : Reading) (place byte : ℕ) : Type 0 where
  more : List Placement
  fewer : ℕ
  next : Reading
  goes : (bytes : List ℕ) → read_from read left now place (byte ∷ bytes) ≡ read_from more fewer next (place + 1) bytes

at_other : (read : List Placement) (left : ℕ) (now : Reading) (place byte : ℕ) (next : Option Reading) → (byte == 32) ≡ false → step now byte ≡ next
    → Stops read left now place byte ⊎ ReadsFurther read left now place byte
unfolding read_from
at_other read left now place byte None no_blank stepped = inl (record { stops = λ bytes. rw (no_blank, stepped) refl })
at_other read left now place byte (Some next) no_blank stepped =
    inr (record { more = read; fewer = left; next = next; goes = λ bytes. rw (no_blank, stepped) refl })

at_blank : (read : List Placement) (left : ℕ) (now : Reading) (place byte : ℕ) (on : Bool) → (byte == 32) ≡ true → (may_end now.due && nat_lt 0 left) ≡ on
    → Stops read left now place byte ⊎ ReadsFurther read left now place byte
unfolding read_from
at_blank read left now place byte true blank on =
    inr (record { more = read ++ now.placement ∷ []; fewer = left - 1; next = unread; goes = λ bytes. rw (blank, on) refl })
at_blank read left now place byte false blank on = inl (record { stops = λ bytes. rw (blank, on) refl })

at_byte : (read : List Placement) (left : ℕ) (now : Reading) (place byte : ℕ) (blank : Bool) → (byte == 32) ≡ blank → Stops read left now place byte ⊎ ReadsFurther read left now place byte
at_byte read left now place byte blank is = search (rules, at_blank, at_other)

-- a reading is refused at a place: what stands before it may go on to a whole sequence, and nothing longer may
record Fails (read : List Placement) (left : ℕ) (now : Reading) (start : ℕ) (bytes : List ℕ) (place : ℕ) : Type 0 where
  low : start ≤ place
  high : place ≤ start + length bytes
  rest : List ℕ
  sequence : List Placement
  whole : read_from read left now start (take (place - start) bytes ++ rest) ≡ Ok sequence
  longer : (k : ℕ) → place < start + k → k ≤ length bytes → (more : List ℕ) → read_from read left now start (take k bytes ++ more) ≡ Err place

same_place : (a b : ℕ) → ◌≡◌ {A = Answer} (Err a) (Err b) → a ≡ b
same_place a b e = cc

fails_here : (read : List Placement) (left : ℕ) (now : Reading) (start : ℕ) (bytes : List ℕ) (place : ℕ) → start ≡ place
    → ((k : ℕ) → place < start + k → k ≤ length bytes → (more : List ℕ) → read_from read left now start (take k bytes ++ more) ≡ Err place) → Fails read left now start bytes place
fails_here read left now start bytes place same longer =
    let all = completes now.due read left now.placement start in
    let none : place - start ≡ 0 = omega arith in
    record { low = omega arith; high = omega arith; rest = all.rest; sequence = all.sequence; whole = rw none all.whole; longer = longer }

at_end : (read : List Placement) (left : ℕ) (now : Reading) (start place : ℕ) (whole : Bool) → (may_end now.due && left == 0) ≡ whole
    → read_from read left now start [] ≡ Err place → start ≡ place
unfolding read_from
at_end read left now start place whole is refused = search rules

fails : (bytes : List ℕ) (read : List Placement) (left : ℕ) (now : Reading) (start place : ℕ) → read_from read left now start bytes ≡ Err place → Fails read left now start bytes place
fails [] read left now start place refused =
    let same = at_end read left now start place (may_end now.due && left == 0) refl refused in
    fails_here read left now start [] place same (λ k above within more. absurd (omega arith))
fails (byte ∷ bytes) read left now start place refused = elim (at_byte read left now start byte (byte == 32) refl) [
  | inl s ↦
      let same : start ≡ place = same_place start place (sym (s.stops bytes) ∙ refused) in
      fails_here read left now start (byte ∷ bytes) place same (stopped s same)
  | inr g ↦
      let rest_fails = fails bytes g.more g.fewer g.next (start + 1) place (sym (g.goes bytes) ∙ refused) in
      let low = rest_fails.low in
      let high = rest_fails.high in
      let later : place - start ≡ suc (place - (start + 1)) = omega arith in
      record {
        low = omega arith;
        high = omega arith;
        rest = rest_fails.rest;
        sequence = rest_fails.sequence;
        whole = rw later (g.goes (take (place - (start + 1)) bytes ++ rest_fails.rest) ∙ rest_fails.whole);
        longer = gone_on g rest_fails;
      }
] where
  stopped : Stops read left now start byte → start ≡ place → (k : ℕ) → place < start + k → k ≤ length (byte ∷ bytes) → (more : List ℕ)
      → read_from read left now start (take k (byte ∷ bytes) ++ more) ≡ Err place
  stopped s same zero above within more = absurd (omega arith)
  stopped s same (suc k) above within more = s.stops (take k bytes ++ more) ∙ ap (λ p. Err p) same

  gone_on : (g : ReadsFurther read left now start byte) → Fails g.more g.fewer g.next (start + 1) bytes place → (k : ℕ) → place < start + k → k ≤ length (byte ∷ bytes) → (more : List ℕ)
      → read_from read left now start (take k (byte ∷ bytes) ++ more) ≡ Err place
  gone_on g f zero above within more = let low = f.low in absurd (omega arith)
  gone_on g f (suc k) above within more = g.goes (take k bytes ++ more) ∙ f.longer k (omega arith) (omega arith) more

both_ways : {place : ℕ} {sequence : List Placement} {answer : Answer} → answer ≡ Err place → answer ≡ Ok sequence → ⊥
both_ways e f = cc

-- a text is refused at the end of its longest front that begins the text of a sequence
longest_front : (needed : ℕ) (text : List ℕ) (place : ℕ) → sequence_in needed text ≡ Err place → IsLongestFront needed text place
longest_front zero [] place refused = absurd (both_ways {sequence = []} refused refl)
longest_front zero (byte ∷ bytes) place refused =
    let same : 0 ≡ place = same_place 0 place refused in
    subst (IsLongestFront zero (byte ∷ bytes)) same (record {
      within = omega arith;
      begins = record { rest = []; sequence = []; whole = read_is_spelled zero [] [] refl };
      longest = λ longer above within front. no_longer longer above front.rest front.sequence (spelled_is_read zero _ front.sequence front.whole);
    })
  where
    no_longer : (longer : ℕ) → 0 < longer → (rest : List ℕ) (sequence : List Placement) → sequence_in zero (take longer (byte ∷ bytes) ++ rest) ≡ Ok sequence → ⊥
    no_longer zero above rest sequence whole = absurd (omega arith)
    no_longer (suc k) above rest sequence whole = both_ways {place = 0} {sequence = sequence} refl whole
longest_front (suc left) text place refused =
    let f = fails text [] left unread 0 place refused in
    let high = f.high in
    let all : place - 0 ≡ place = omega arith in
    record {
      within = omega arith;
      begins = record { rest = f.rest; sequence = f.sequence; whole = read_is_spelled (suc left) (take place text ++ f.rest) f.sequence (rw all at f.whole) };
      longest = λ longer above within front. both_ways (f.longer longer (omega arith) within front.rest) (spelled_is_read (suc left) _ front.sequence front.whole);
    }

bad-from_refused : (needed : ℕ) (text : List ℕ) (place : ℕ) → sequence_in needed text ≡ Err place → IsRefusedAt needed text place
bad-from_refused needed text place refused = record {
  unspelled = λ sequence spelled. both_ways refused (spelled_is_read needed text sequence spelled);
  longest_front = longest_front needed text place refused;
}

one_longest : (needed : ℕ) (text : List ℕ) (one other : ℕ) → IsLongestFront needed text one → IsLongestFront needed text other → one ≡ other
one_longest needed text one other first second = search rules

refused-from_bad : (needed : ℕ) (text : List ℕ) (place : ℕ) → IsRefusedAt needed text place → sequence_in needed text ≡ Err place
refused-from_bad needed text place bad = by (sequence_in needed text) refl
  where
    by : (answer : Answer) → sequence_in needed text ≡ answer → sequence_in needed text ≡ Err place
    by (Ok sequence) is = absurd (bad.unspelled sequence (read_is_spelled needed text sequence is))
    by (Err refused) is = is ∙ ap (λ p. Err p) (one_longest needed text refused place (longest_front needed text refused is) bad.longest_front)

-- what a text is read as, it spells; where it is refused, it spells nothing
pub read_as_spelled : (needed : ℕ) (text : List ℕ) (sequence : List Placement) → (sequence_in needed text ≡ Ok sequence) ↔ Spells needed text sequence
read_as_spelled needed text sequence = (read_is_spelled needed text sequence, spelled_is_read needed text sequence)

pub refused_where_bad : (needed : ℕ) (text : List ℕ) (place : ℕ) → (sequence_in needed text ≡ Err place) ↔ IsRefusedAt needed text place
refused_where_bad needed text place = (bad-from_refused needed text place, refused-from_bad needed text place)

pub one_sequence : (needed : ℕ) (text : List ℕ) (one other : List Placement) → Spells needed text one → Spells needed text other → one ≡ other
one_sequence needed text one other first second =
    let a = spelled_is_read needed text one first in
    let b = spelled_is_read needed text other second in
    cc
