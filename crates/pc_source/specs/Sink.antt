-- What a call does to a sink.
use Rattle.std.specs.Prelude.{ℕ, List, Bool, Option}

-- a sink before and after a call: whether it counts failed writes alone, the bytes that it held and holds, where it
-- tells them, and its counts of faults
pub record SinkChange : Type 0 where
  pub alone : Bool
  pub held : Option (List ℕ)
  pub holds : Option (List ℕ)
  pub before : ℕ
  pub now : ℕ

abbrev pub sink_change : Bool → Option (List ℕ) → Option (List ℕ) → ℕ → ℕ → SinkChange
sink_change alone held holds before now =
    record { alone = alone; held = held; holds = holds; before = before; now = now }
