-- One byte of a text at a time.
use Rattle.std.proofs.Common.{◌≡◌, ℕ, ◌+◌, ◌<◌, List, [], ◌∷◌, ◌++◌, length, drop, get_or, ap, Result, Ok, Err, append_assoc, rules}
use Rattle.std.proofs.lemmas.List.{drop_more, drop_all, length-append}
use Rattle.srs.specs.declared.rules.Rules.{Rules}
use Rattle.srs.specs.Kick.{Table}
use Rattle.kick_file.specs.declared.fault.KickFault.{KickFault}
use Rattle.kick_file.specs.declared.turned.TurnedPiece.{TurnedPiece}
use Rattle.kick_file.specs.declared.parser_state.ParserState.{ParserState}
use Rattle.kick_file.specs.Reading.{Reading, AnswersTable, kick_text, after_byte, ended, read_on, read_after}

-- the loop of `parse`: the byte at a place is taken, or refused, or there is none
pub goes_on : (bytes text : List ℕ) (place : ℕ) (reading now : Reading) → bytes ≡ text → place < length bytes
    → kick_text text ≡ read_on reading place (drop place text) → after_byte reading place (get_or bytes place 0) ≡ Ok now
    → kick_text text ≡ read_on now (place + 1) (drop (place + 1) text)
unfolding read_on
goes_on bytes text place reading now same within so_far is = search (rules, drop_more)

pub stops : (bytes text : List ℕ) (place : ℕ) (reading : Reading) (fault : KickFault) → bytes ≡ text → place < length bytes
    → kick_text text ≡ read_on reading place (drop place text) → after_byte reading place (get_or bytes place 0) ≡ Err fault
    → kick_text text ≡ Err fault
unfolding read_on
stops bytes text place reading fault same within so_far is = search (rules, drop_more)

pub ends : (bytes text : List ℕ) (place : ℕ) (reading : Reading) (result : Result Rules KickFault) → bytes ≡ text → place ≡ length bytes
    → kick_text text ≡ read_on reading place (drop place text) → AnswersTable result (ended reading.table (length bytes) reading.state)
    → AnswersTable result (kick_text text)
unfolding read_on
ends bytes text place reading result same at_end so_far gives = search (rules, drop_all)

-- what is read of a text and where it stands
abbrev pub at : List TurnedPiece → Table → ParserState → Reading
at given table state = record { given = given; table = table; state = state }

-- whatever follows, reading this text leads from one to the other
pub record Passes («from» : Reading) (front : List ℕ) (to : Reading) : Type 0 where
  pub on : (place : ℕ) (rest : List ℕ) → read_on «from» place (front ++ rest) ≡ read_on to (place + length front) rest

pub one_byte : («from» : Reading) (byte : ℕ) (to : Reading) → ((place : ℕ) → after_byte «from» place byte ≡ Ok to) → Passes «from» (byte ∷ []) to
unfolding read_on
one_byte «from» byte to is = record { on = λ place rest. ap (λ r. read_after r (λ next. read_on next (place + 1) rest)) (is place) }

pub both : (a : Reading) (f : List ℕ) (b : Reading) (g : List ℕ) (c : Reading) → Passes a f b → Passes b g c → Passes a (f ++ g) c
both a f b g c first second = search (rules, length-append, append_assoc)
