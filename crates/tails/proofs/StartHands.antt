-- The tail of each queue, and the pieces at hand there, without a call that makes it.
use Rattle.std.proofs.Common.{◌≡◌, ℕ, ◌+◌, ◌<◌, ◌≤◌, Option, Some, None, [], get_or, length, refl, ap, sym, ◌∙◌, inl, inr, arith, ◌%◌}
use Rattle.std.proofs.lemmas.Bool.{cases_lt}
use Rattle.srs.specs.declared.piece.Piece.{Piece}
use Rattle.srs.specs.Piece.{piece_code}
use Rattle.queue_pattern.specs.Pattern.{elements_of}
use Rattle.queue_pattern.specs.Queues.{queue_len, queues}
use Rattle.hold_queue.specs.AtHand.{at_hand, count_held, playable}
use Rattle.hold_queue.specs.declared.hold.Hold.{Hold}
use Rattle.hold_queue.specs.declared.hold.Hold.TheVariants.{Allowed, Avoided}
use Rattle.hands.specs.Hands.{number_of}
use Rattle.tails.specs.declared.tree.TailTree.{TailTree}
use Rattle.tails.specs.Numbers.{tail_number}
use Rattle.tails.specs.States.{state_at}
use Rattle.tails.specs.Tails.{hand_at, start_tail}
use Rattle.tails.proofs.LetterLemmas.{letter-found, next_of}
use Rattle.tails.proofs.StartLemmas.{IsStart, first-there, first-within, start-avoided, start-end, start-held, start-letter}

-- with room for a held piece
abbrev HasRoom : TailTree → Option Piece → Type 0
HasRoom tree held = count_held (playable tree.hold held) + queue_len (elements_of tree.pattern) ≤ 21

-- each queue has a start
start-none : (tree : TailTree) (held : Option Piece) (number : ℕ) → tree.hold ≡ Allowed → playable tree.hold held ≡ None
    → number < length (queues (elements_of tree.pattern)) → (result : ℕ) × IsStart tree held number result
start-none tree held number hold_is none within =
    let state = state_at tree.states.items tree.first in
    elim (cases_lt 0 state.draws) [
      | inl draws ↦
          let found = letter-found (elements_of tree.pattern) tree.states.items tree.first number tree.are_states (first-within tree number within) (first-there tree number within) draws in (
            tail_number (next_of state found.0) (piece_code found.0) (number % state.each),
            start-letter tree held found.0 number (tail_number (next_of state found.0) (piece_code found.0) (number % state.each)) hold_is none within draws found.1.there refl,
          )
      | inr no_draws ↦ (tail_number tree.first 0 number, start-end tree held number (tail_number tree.first 0 number) hold_is none within (omega (arith, no_draws)) refl)
    ]

start-by-hold : (tree : TailTree) (hold : Hold) (held : Option Piece) (number : ℕ) → tree.hold ≡ hold
    → number < length (queues (elements_of tree.pattern)) → HasRoom tree held → (result : ℕ) × IsStart tree held number result
start-by-hold tree Avoided held number is within room = (tail_number tree.first 0 number, start-avoided tree held number (tail_number tree.first 0 number) is within refl)
start-by-hold tree Allowed None number is within room = start-none tree None number is (ap (λ hold. playable hold None) is) within
start-by-hold tree Allowed (Some piece) number is within room = (
  tail_number tree.first (piece_code piece) number,
  start-held tree (Some piece) piece number (tail_number tree.first (piece_code piece) number) (ap (λ hold. playable hold (Some piece)) is) within room refl,
)

-- the start of a queue has the queue's pieces at hand
pub start-hand : (tree : TailTree) (held : Option Piece) (number : ℕ) → number < length (queues (elements_of tree.pattern)) → HasRoom tree held
    → hand_at tree (start_tail tree held number) ≡ number_of (at_hand tree.hold held (get_or (queues (elements_of tree.pattern)) number []))
start-hand tree held number within room =
    let start = start-by-hold tree tree.hold held number refl within room in ap (hand_at tree) (sym start.1.value) ∙ start.1.hand
