-- A count of floods goes up with the steps.
use Rattle.std.proofs.Common.{◌≡◌, ℕ, ◌+◌, ◌-◌, arith}
use Rattle.enumerate.specs.Counted.{as_count, CountsUp}

pub counts-none : (count steps : ℕ) → CountsUp count count steps steps
counts-none count steps = record { rose = omega arith; counts = λ n is. omega arith }

pub counts-one : (old new before now : ℕ) → new ≡ as_count (old + 1) → now ≡ before + 1 → CountsUp old new before now
counts-one old new before now saturates stepped = record { rose = omega arith; counts = λ n is. omega arith }

pub counts-then : (old between new before middle now : ℕ) → CountsUp old between before middle → CountsUp between new middle now → CountsUp old new before now
counts-then old between new before middle now first second = record {
  rose = omega (arith, first.rose, second.rose);
  counts = λ n is. let one = first.counts n is in let two = second.counts (n + (middle - before)) one in omega (arith, two, first.rose, second.rose);
}
