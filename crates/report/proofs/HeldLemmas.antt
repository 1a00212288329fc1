-- Bytes that are held back: what is written and what is held are together what was to be written.
use Rattle.std.proofs.Common.{◌≡◌, ℕ, Option, List, ◌++◌, append_assoc, rules}
use Rattle.pc_outside.specs.Writes.{GrowsUpTo}
use Rattle.pc_outside.specs.WriteLaws.{goes_on}
use Rattle.report.specs.HandsOn.{HandsOn}

-- one more piece is held or written
pub goes_held : {old mid new : Option (List ℕ)} {whole held bytes left more : List ℕ} (rest : List ℕ) → GrowsUpTo old mid whole (held ++ more) → more ≡ bytes ++ rest → HandsOn mid new held bytes left → GrowsUpTo old new whole (left ++ rest)
goes_held {held = held} {bytes = bytes} {left = left} rest so_far divided on = search (rules, goes_on, append_assoc)
