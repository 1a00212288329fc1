-- Why no bits are written.
use Rattle.std.specs.Prelude.{◌≡◌, ◌≢◌, ℕ, ◌<◌, ◌≤◌, List, length, Some, None, Ok, ◌⊎◌}
use Rattle.queue_pattern.specs.declared.element.Element.{Element}
use Rattle.queue_pattern.specs.Queues.{queues}
use Rattle.pc_settings.specs.Request.{FieldRequest, PercentRequest}
use Rattle.pc_source.specs.FieldText.{field_needs}
use Rattle.pc_source.specs.Task.{nothing}
use Rattle.pc_source.specs.ProblemFaults.{elements_asked}
use Rattle.pc_percent.specs.PercentTask.{percent_fault}
use Rattle.pc_good_queues.specs.declared.answer.NoBits.{NoBits}
use Rattle.pc_good_queues.specs.declared.answer.NoBits.TheVariants.{Fault, NoRoom, NoMemory}
use Rattle.pc_good_queues.specs.Bits.{bytes_for}

-- the pattern that is asked for stands for so many queues
pub record AsksQueues (request : FieldRequest) (count : ℕ) : Type 0 where
  pub elements : List Element
  pub spelled : elements_asked request ≡ Ok elements
  pub all : count ≡ length (queues elements)

-- the bits of so many queues take more bytes than there is room for
pub record LacksBitRoom (request : FieldRequest) (room count : ℕ) : Type 0 where
  pub asked : AsksQueues request count
  pub short : room < bytes_for count

-- there is room for the bits of all queues
pub record HasBitRoom (request : FieldRequest) (room : ℕ) : Type 0 where
  pub count : ℕ
  pub asked : AsksQueues request count
  pub enough : bytes_for count ≤ room

-- A refusal with its cause, where the source has these bytes, there is so much room, and so many floods were made.
-- Memory runs out before the first flood if the text of the field takes some, or later, if no fault stands and there is
-- room.
abbrev pub Refuses : PercentRequest → (bytes : List ℕ) → (room floods : ℕ) → NoBits → Type 0
Refuses request bytes room floods (Fault fault) = (percent_fault request bytes ≡ Some fault) × (floods ≡ 0)
Refuses request bytes room floods (NoRoom count) =
    (percent_fault request bytes ≡ None) × LacksBitRoom request.common room count × (floods ≡ 0)
Refuses request bytes room floods NoMemory =
    ((field_needs request.common.field ≢ nothing) × (floods ≡ 0))
    ⊎ ((percent_fault request bytes ≡ None) × HasBitRoom request.common room)
