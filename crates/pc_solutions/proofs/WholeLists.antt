-- All of a list that has ended was written.
use Rattle.std.proofs.Common.{◌≡◌, ℕ, ◌<◌, min, true, ltb-true, List, length, take, arith, rules}
use Rattle.std.specs.List.{flat_map}
use Rattle.std.proofs.lemmas.List.{take_all}
use Rattle.srs.specs.declared.placement.Placement.{Placement}
use Rattle.placement_numbers.specs.Numbers.{sequence_numbers}
use Rattle.pc_settings.specs.Request.{PathRequest}
use Rattle.pc_solutions.specs.Written.{WritesSolutions}

taken_whole : (sequences : List (List Placement)) (most count : ℕ) → count ≡ min most (length sequences) → length sequences < most → take count sequences ≡ sequences
taken_whole sequences most count counted fewer = take_all count sequences (omega (arith, counted, fewer))

pub written_whole : (request : PathRequest) (bytes numbers : List ℕ) (room : ℕ) (written : List ℕ) (count floods : ℕ)
    → (writes : WritesSolutions request bytes numbers room written count true floods) → written ≡ flat_map sequence_numbers writes.sequences
written_whole request bytes numbers room written count floods writes = search (rules, taken_whole, ltb-true)
