-- How the lines of the source are read. The law `lines_are_read_as_they_spell` says that what is read is what they
-- spell, and that the fault is that of the first line that spells nothing.
use Rattle.std.specs.Prelude.{ℕ, ◌+◌, Bool, ◌&&◌, ◌||◌, nat_le, nat_lt, if◌then◌else◌, List, [], ◌∷◌, codes, drop, length, take, Result, Ok, Err}
use Rattle.std.specs.Char.{is_ascii_digit}
use Rattle.std.specs.List.{list_all}
use Rattle.std.specs.Str.{bytes_eq}
use Rattle.srs.specs.declared.placement.Placement.{Placement}
use Rattle.fumen_digits.specs.Reading.{◌>>=◌}
use Rattle.page_list.specs.ListReading.{lines_of}
use Rattle.sequence_text.specs.Reading.{sequence_in}
use Rattle.pc_faults.specs.declared.cover_fault.CoverFault.{CoverFault}
use Rattle.pc_faults.specs.declared.cover_fault.CoverKind.{CoverKind}
use Rattle.pc_faults.specs.declared.cover_fault.CoverKind.TheVariants.{BadSequence, TooManySequences}

-- one to twenty decimal digits
unfoldable pub is_count : List ℕ → Bool
is_count text = nat_lt 0 (length text) && (nat_le (length text) 20 && list_all is_ascii_digit text)

-- a name with its blank, and a count
unfoldable pub is_counted : List ℕ → List ℕ → Bool
is_counted name line = bytes_eq (take (length name) line) name && is_count (drop (length name) line)

-- a line that `path` writes behind its sequences
unfoldable pub is_tail : List ℕ → Bool
is_tail line = is_counted (codes "end ") line || (is_counted (codes "limit ") line || is_counted (codes "floods ") line)

abbrev pub fault_in_line : ℕ → CoverKind → CoverFault
fault_in_line number kind = record { line = number; kind = kind }

abbrev pub read_in_line : ℕ → Result (List Placement) ℕ → Result (List Placement) CoverFault
read_in_line number (Ok sequence) = Ok sequence
read_in_line number (Err place) = Err (fault_in_line number BadSequence)

-- the sequence of the line of this number, counted from 1, behind so many sequences
unfoldable pub numbered_sequence : ℕ → ℕ → ℕ → List ℕ → Result (List Placement) CoverFault
numbered_sequence needed number count line =
    if nat_lt count 100000 then read_in_line number (sequence_in needed line)
    else Err (fault_in_line number TooManySequences)

abbrev pub Given : Type 0
Given = Result (List (List Placement)) CoverFault

-- the sequences of lines of which the first has this number, behind so many sequences, or the first fault
unfoldable pub given_from : ℕ → ℕ → ℕ → List (List ℕ) → Given
given_from needed number count [] = Ok []
given_from needed number count (line ∷ lines) =
    if is_tail line then given_from needed (number + 1) count lines
    else (numbered_sequence needed number count line >>= (λ sequence.
    given_from needed (number + 1) (count + 1) lines >>= (λ sequences. Ok (sequence ∷ sequences))))

-- the sequences of a text, or its first fault
unfoldable pub given_in : ℕ → List ℕ → Given
given_in needed text = given_from needed 1 0 (lines_of text)
