-- Worked cases of the definitions.
use Rattle.std.proofs.Common.{◌≡◌, ◌-◌, ◌^◌, [], ◌∷◌, Some, refl, arith, lit≤}
use Rattle.pc_outside.specs.Counts.{next_count, Rose}
use Rattle.pc_outside.specs.MemorySink.{MemorySinkState, front_with_room}
use Rattle.pc_outside.specs.Reads.{TakesBytes}
use Rattle.pc_outside.specs.WriteLaws.{front_taken}
use Rattle.pc_outside.specs.Writes.{Grows, GrowsByFront}

one_more : next_count 7 ≡ 8
one_more = refl

none_more : next_count (2 ^ 64 - 1) ≡ 2 ^ 64 - 1
none_more = refl

rose : Rose 7 8
rose = lit≤ tt

stood : Rose 7 7 → ⊥
stood rose = omega arith

at_last : Rose (2 ^ 64 - 1) (2 ^ 64 - 1)
at_last = lit≤ tt

two_taken : TakesBytes (Some (1 ∷ 2 ∷ 3 ∷ [])) (Some (3 ∷ [])) (1 ∷ 2 ∷ [])
two_taken = record { consumed = refl }

two_written : Grows (Some (1 ∷ [])) (Some (1 ∷ 2 ∷ 3 ∷ [])) (2 ∷ 3 ∷ [])
two_written = record { appended = refl }

half_written : GrowsByFront (Some (1 ∷ [])) (Some (1 ∷ 2 ∷ [])) (2 ∷ 3 ∷ [])
half_written = front_taken 1 refl

sink : MemorySinkState
sink = record { bytes = 1 ∷ 2 ∷ []; room = 3; failing = []; calls = 0; faults = 0 }

-- of the first two bytes one fits
one_fits : front_with_room sink 2 (5 ∷ 6 ∷ 7 ∷ []) ≡ 5 ∷ []
unfolding sink
one_fits = refl
