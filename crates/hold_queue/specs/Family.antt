-- Families of sets of drawn pieces: the sets that a family has, and how they change when one more piece is drawn.
use Rattle.std.specs.Prelude.{◌≡◌, ℕ, zero, suc, ◌-◌, ◌<◌, Bool, false, ◌&&◌, ◌||◌, ◌==◌, nat_lt, if◌then◌else◌, Option, Some, None}
use Rattle.std.specs.Int.{bit_at}
use Rattle.srs.specs.declared.piece.Piece.{Piece}
use Rattle.queue_pattern.specs.Grammar.{set_of}
use Rattle.queue_pattern.specs.Queues.{is_in}
use Rattle.hold_queue.specs.declared.family.Family.{Family}
use Rattle.hold_queue.specs.declared.family.Draw.{Draw}

-- whether a family has this set
unfoldable pub has_set : Family → ℕ → Bool
has_set family set = if nat_lt set 64 then bit_at family.low set == 1 else bit_at family.high (set - 64) == 1

-- whether some number below n passes a test
unfoldable pub any_below : (ℕ → Bool) → ℕ → Bool
any_below test zero = false
any_below test (suc n) = test n || any_below test n

-- the sets of a family that lack this piece, with it
unfoldable pub with_piece : Piece → (ℕ → Bool) → ℕ → Bool
with_piece piece family set = is_in piece set && family (set - set_of piece)

-- the sets of drawn pieces after this piece is drawn: at the end of an element they begin anew
unfoldable pub after_draw : Option Draw → Piece → (ℕ → Bool) → ℕ → Bool
after_draw None piece family set = false
after_draw (Some draw) piece family set =
    if is_in piece draw.element.set
    then (if draw.is_last then set == 0 && any_below (with_piece piece family) 128 else with_piece piece family set)
    else false

-- the sets after a draw from those before it
pub record IsDrawn (draw : Option Draw) (piece : Piece) (before after : Family) : Type 0 where
  pub each : (set : ℕ) → set < 128 → has_set after set ≡ after_draw draw piece (has_set before) set
