-- What a call for good queues wrote, by its status.
use Rattle.std.specs.Prelude.{◌≡◌, ◌≢◌, ℕ, List, true, ◌⊎◌}
use Rattle.pc_words.specs.Request.{percent}
use Rattle.pc_good_queues.specs.GoodQueues.{AreGoodQueues}
use Rattle.pc_good_queues.specs.Refusals as refusals
use Rattle.pc_c.specs.Asked.{ForAsked, TellsAskedFault}
use Rattle.pc_c.specs.Call.{IsStatus}
use Rattle.pc_c.specs.OtherCommand.{asks_other, is_percent}

-- one of the statuses of a command line, or that it has another command
abbrev pub IsQueuesStatus : ℕ → Type 0
IsQueuesStatus status = IsStatus status ⊎ (status ≡ 7)

-- Done: the bits of all queues are written.
abbrev pub WritesBits : (words : List (List ℕ)) (input written : List ℕ) (count good : ℕ) → Type 0
WritesBits words input written count good =
    ForAsked percent words input (λ request bytes. AreGoodQueues request.common bytes written count good)

-- the bits of so many queues take more bytes than there is room for
abbrev pub LacksBitRoom : (words : List (List ℕ)) (input : List ℕ) (room count : ℕ) → Type 0
LacksBitRoom words input room count =
    ForAsked percent words input (λ request bytes. refusals.LacksBitRoom request.common room count)

-- there is room for the bits of all queues
abbrev pub HasBitRoom : (words : List (List ℕ)) (input : List ℕ) (room : ℕ) → Type 0
HasBitRoom words input room =
    ForAsked percent words input (λ request bytes. refusals.HasBitRoom request.common room)

-- What the status of a call says of these words and this input. There was so much room for what was written and for the
-- line that was told, and the call tells so many queues, good ones and floods.
pub record EndsQueues (words : List (List ℕ)) (input written : List ℕ) (room count good : ℕ) (told : List ℕ)
    (err_room floods status : ℕ) : Type 0 where
  pub done : status ≡ 0 → WritesBits words input written count good
  pub faulty : status ≡ 2 → TellsAskedFault is_percent words input told err_room
  pub no_room : status ≡ 4 → LacksBitRoom words input room count
  pub no_memory : status ≡ 5 → (floods ≡ 0) ⊎ HasBitRoom words input room
  pub other : status ≡ 7 → asks_other is_percent words ≡ true
  pub other_ends : asks_other is_percent words ≡ true → (status ≡ 5) ⊎ (status ≡ 7)

-- what is neither written nor told at this status
pub record IsSilentQueues (written count good told floods status : ℕ) : Type 0 where
  pub quiet : status ≢ 0 → (written ≡ 0) × (good ≡ 0)
  pub uncounted : status ≢ 0 → status ≢ 4 → count ≡ 0
  pub no_line : status ≢ 2 → told ≡ 0
  pub idle : status ≢ 0 → status ≢ 5 → floods ≡ 0
