-- Rows and a garbage row that are written over zeros.
use Rattle.std.proofs.Common.{◌≡◌, ℕ, ◌+◌, ◌-◌, ◌≤◌, List, ◌++◌, length, take, drop, append-nil, rules}
use Rattle.std.specs.Prelude.{replicate}
use Rattle.std.proofs.lemmas.List.{take-append-le, drop-append-le, take-replicate, drop-replicate, length-replicate}

-- the garbage row comes last
last_written : (most all : ℕ) (garbage first : List ℕ) → all ≡ most + length garbage
    → first ≡ take most (replicate all 0) ++ (garbage ++ drop (most + length garbage) (replicate all 0)) → first ≡ replicate most 0 ++ garbage
last_written most all garbage first size is = search (rules, drop-replicate, take-replicate, append-nil)

-- the rows stand before it, and zeros above them
pub both_written : (most all : ℕ) (rows garbage first cells : List ℕ) → length rows ≤ most → all ≡ most + length garbage
    → first ≡ take most (replicate all 0) ++ (garbage ++ drop (most + length garbage) (replicate all 0))
    → cells ≡ take (most - length rows) first ++ (rows ++ drop (most - length rows + length rows) first) → cells ≡ replicate (most - length rows) 0 ++ (rows ++ garbage)
both_written most all rows garbage first cells room size is then =
    search (rules, length-replicate, last_written, take-append-le, take-replicate, drop-append-le, drop-replicate)
