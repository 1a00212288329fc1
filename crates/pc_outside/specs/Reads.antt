-- What reads do to the bytes that a source has left.
use Rattle.std.specs.Prelude.{◌≡◌, ℕ, ◌<◌, ◌≤◌, ◌↔◌, Option, Some, List, [], take, drop, length}
use Rattle.std.specs.Option.{ForSome}
use Rattle.std.specs.Io.KnownBytes.{Consumes}

-- these bytes were taken from the front of what was left; of a source that doesn't tell its bytes this says nothing
pub record TakesBytes (old new : Option (List ℕ)) (bytes : List ℕ) : Type 0 where
  pub consumed : Consumes old new bytes

-- n bytes moved from the front of what was left into the front of the buffer; into a buffer that has room none move
-- only at the end
pub record Moves (old new : Option (List ℕ)) (before after : List ℕ) (n : ℕ) : Type 0 where
  pub within : n ≤ length before
  pub taken : TakesBytes old new (take n after)
  pub ended : 0 < length before → ForSome old (λ left. (n ≡ 0) ↔ (left ≡ []))

-- these bytes are all that was left, and the source is at its end
pub record TakesAll (old new : Option (List ℕ)) (bytes : List ℕ) : Type 0 where
  pub whole : ForSome old (λ left. bytes ≡ left)
  pub ended : ForSome old (λ _. new ≡ Some [])

-- the first n bytes of what was left were taken, and there were as many
pub record TakesFirst (old new : Option (List ℕ)) (n : ℕ) : Type 0 where
  pub enough : ForSome old (λ left. n ≤ length left)
  pub gone : ForSome old (λ left. new ≡ Some (drop n left))

-- at most so many bytes were taken
pub record TakesAtMost (old new : Option (List ℕ)) (most : ℕ) : Type 0 where
  pub count : ℕ
  pub bounded : count ≤ most
  pub taken : TakesFirst old new count
