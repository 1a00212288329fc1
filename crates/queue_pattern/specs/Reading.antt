-- What the functions that read one element give.
use Rattle.std.specs.Prelude.{◌≡◌, ℕ, ◌<◌, ◌≤◌, List, [], length, Option, Some, None, Result, Ok, Err}
use Rattle.queue_pattern.specs.declared.element.Element.{Element}
use Rattle.queue_pattern.specs.declared.fault.PatternFault.{PatternFault}
use Rattle.queue_pattern.specs.Grammar.{TextPosition, outside, closed, choice, before, read_at}

-- from a position the text spells this element, and then what it spells from outside at a later place
abbrev pub IsNextElement : List ℕ → TextPosition → ℕ → Result (Element × ℕ) PatternFault → Type 0
IsNextElement text position place (Ok found) =
    (read_at text position place ≡ before (Ok found.0) (read_at text outside found.1)) × (place ≤ found.1)
    × (found.1 ≤ length text)
IsNextElement text position place (Err fault) = read_at text position place ≡ Err fault

-- from a position the text goes on with a set, whose element began at start
abbrev pub IsNextSet : List ℕ → TextPosition → ℕ → ℕ → Result (ℕ × ℕ) PatternFault → Type 0
IsNextSet text position start place (Ok found) =
    (read_at text position place ≡ read_at text (closed start found.0) found.1) × (found.0 < 128) × (place ≤ found.1)
    × (found.1 ≤ length text)
IsNextSet text position start place (Err fault) = read_at text position place ≡ Err fault

-- after a set the text says that so many of its pieces are chosen, and goes on from outside at a later place
abbrev pub IsChosen : List ℕ → ℕ → ℕ → Result (ℕ × ℕ) PatternFault → Type 0
IsChosen text set place (Ok found) =
    ((start : ℕ) → read_at text (closed start set) place
    ≡ before (choice start set found.0) (read_at text outside found.1))
    × (place ≤ found.1) × (found.1 ≤ length text)
IsChosen text set place (Err fault) = (start : ℕ) → read_at text (closed start set) place ≡ Err fault

-- from outside the text spells an element before what it spells at a later place, or nothing more
abbrev pub IsNext : List ℕ → ℕ → Result (Option (Element × ℕ)) PatternFault → Type 0
IsNext text place (Ok None) = read_at text outside place ≡ Ok []
IsNext text place (Ok (Some found)) =
    (read_at text outside place ≡ before (Ok found.0) (read_at text outside found.1)) × (place < found.1)
    × (found.1 ≤ length text)
IsNext text place (Err fault) = read_at text outside place ≡ Err fault
