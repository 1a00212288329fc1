-- What the loop of `parse` keeps.
use Rattle.std.proofs.Common.{◌≡◌, drop}
use Rattle.kick_file.specs.Reader.{reading_of}
use Rattle.kick_file.specs.Reading.{kick_text, read_on}
use Rattle.kick_file.proofs.reading.parse.Given as goal

abbrev pub invariant-loop-place : goal.invariant-loop-place
invariant-loop-place l =
    (l.bytes ≡ l.text) × (kick_text l.text ≡ read_on (reading_of l.reader) l.place (drop l.place l.text))
