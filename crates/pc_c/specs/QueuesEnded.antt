-- How a call for good queues is answered, before its status and its numbers are told.
use Rattle.std.specs.Prelude.{◌≡◌, ℕ, List, take, drop, length, ◌⊎◌}
use Rattle.pc_good_queues.specs.Bits.{bytes_for}
use Rattle.pc_good_queues.specs.declared.answer.NoBits.{NoBits}
use Rattle.pc_good_queues.specs.declared.answer.NoBits.TheVariants.{Fault, NoRoom, NoMemory}
use Rattle.pc_good_queues.specs.declared.answer.QueueCounts.{QueueCounts}
use Rattle.pc_c.specs.declared.answer.Answer.{Answer}
use Rattle.pc_c.specs.Answered.{HasAskedFault, IsAnswer}
use Rattle.pc_c.specs.GoodQueues.{HasBitRoom, LacksBitRoom, WritesBits}
use Rattle.pc_c.specs.OtherCommand.{is_percent}

-- why there are no bits, with so much room and after so many floods
abbrev pub IsPercentRefusal : (words : List (List ℕ)) (input : List ℕ) (room floods : ℕ) → NoBits → Type 0
IsPercentRefusal words input room floods (Fault fault) = HasAskedFault is_percent words input fault × (floods ≡ 0)
IsPercentRefusal words input room floods (NoRoom count) = LacksBitRoom words input room count × (floods ≡ 0)
IsPercentRefusal words input room floods NoMemory = (floods ≡ 0) ⊎ HasBitRoom words input room

-- an answer, what it left of a slice that held these bytes, and its floods
abbrev pub IsPercentAnswer : (words : List (List ℕ)) (input old new : List ℕ) (floods : ℕ) → Answer QueueCounts NoBits
    → Type 0
IsPercentAnswer words input old new floods = IsAnswer is_percent words
    (λ counts. WritesBits words input (take (bytes_for counts.queues) new) counts.queues counts.good
    × (drop (bytes_for counts.queues) new ≡ drop (bytes_for counts.queues) old))
    (λ why. IsPercentRefusal words input (length old) floods why) (new ≡ old) floods
