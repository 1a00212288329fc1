-- What holds of each queue set.
use Rattle.std.proofs.Common.{◌≡◌, ℕ, ◌<◌, ◌+◌, length, length-append, take, List, [], ◌∷◌, ◌++◌, sym, ap, arith, ◌∙◌, Bool, map, Option, add-one, set as list_set, rules}
use Rattle.std.proofs.Math.Path.{fun_ext}
use Rattle.std.proofs.Math.Seq.{take-suc-set}
use Rattle.std.proofs.lemmas.List.{length-take}
use Rattle.srs.specs.declared.piece.Piece.{Piece}
use Rattle.srs.specs.Piece.{all_pieces}
use Rattle.queue_pattern.specs.declared.element.Element.{Element}
use Rattle.queue_pattern.specs.Pattern.{elements_of}
use Rattle.queue_pattern.proofs.CallerLemmas.{pattern-short}
use Rattle.hold_queue.specs.declared.memory.Following.{Following}
use Rattle.hold_queue.specs.declared.set.QueueSet.{QueueSet}
use Rattle.hold_queue.specs.QueueSet.{queues_in_play, QueuesPermit, queues_permit}
use Rattle.hold_queue.specs.States.{AreStatesAfter, LeadsTo, Stands, WhereverTheyStand, states_permit}
use Rattle.hold_queue.proofs.FollowLemmas.{follows-next}
use Rattle.hold_queue.proofs.LengthLemmas.{permits-length, queue-length}
use Rattle.hold_queue.proofs.StepLemmas.{count_held-small}

pub played-length : (set : QueueSet) → length (take set.number set.played) ≡ set.number
played-length set = omega (arith, length-take set.number set.played, set.room, set.within)

pub set-stands : (set : QueueSet) → Stands (elements_of set.pattern) set.held set.states.words set.number
set-stands set = search (rules, played-length)

-- the states say which piece may come next
pub set-permits : (set : QueueSet) (piece : Piece)
    → queues_permit (queues_in_play set) ((queues_in_play set).played ++ piece ∷ []) ≡ states_permit (elements_of set.pattern) set.states.hold set.held set.states.words set.number (piece ∷ [])
unfolding queues_in_play
set-permits set piece = search (rules, played-length)

-- there is room for one more piece where it is permitted
pub set-room : (set : QueueSet) (piece : Piece) → QueuesPermit (queues_in_play set) ((queues_in_play set).played ++ piece ∷ []) → set.number < 23
unfolding queues_in_play
set-room set piece permitted =
    omega (
      arith,
      permits-length set.states.hold (take set.number set.played ++ piece ∷ []) permitted.0 set.held permitted.2,
      length-append (take set.number set.played) (piece ∷ []),
      played-length set,
      queue-length (elements_of set.pattern) permitted.0 permitted.1,
      pattern-short set.pattern,
      count_held-small set.held,
    )

pub played-more : (set : QueueSet) (piece : Piece) → set.number < 23 → take (set.number + 1) (list_set set.played set.number piece) ≡ take set.number set.played ++ piece ∷ []
played-more set piece room = ap (λ n. take n (list_set set.played set.number piece)) (add-one set.number) ∙ take-suc-set set.played set.number piece (omega (arith, set.room))

-- the states after one more piece stand for the longer list
pub set-follows : (set : QueueSet) (piece : Piece) (next : List ℕ) → set.number < 23
    → LeadsTo (elements_of set.pattern) set.states.hold set.held set.states.words set.number piece next
    → AreStatesAfter (elements_of set.pattern) set.states.hold set.held next (take (set.number + 1) (list_set set.played set.number piece))
set-follows set piece next room leads = search (rules, played-more, follows-next, played-length)

pub step-leads : (set : QueueSet) (step : Following) → step.before ≡ set.states
    → LeadsTo (elements_of set.pattern) set.states.hold set.held set.states.words set.number step.piece step.after.words
step-leads set step same = search (rules, set-stands)

-- what is said of states wherever they stand holds of a set with them
pub set-each : (set : QueueSet) (Holds : List Element → Option Piece → ℕ → Type 0) → WhereverTheyStand set.states Holds → Holds (elements_of set.pattern) set.held set.number
set-each set Holds each = each (elements_of set.pattern) set.held set.number (set-stands set) set.due

-- the list of which pieces may come next
pub set-permitted : (set : QueueSet) (may : List Bool)
    → may ≡ map (λ piece. states_permit (elements_of set.pattern) set.states.hold set.held set.states.words set.number (piece ∷ [])) all_pieces
    → may ≡ map (λ piece. queues_permit (queues_in_play set) ((queues_in_play set).played ++ piece ∷ [])) all_pieces
set-permitted set may is = is ∙ ap (λ test. map test all_pieces) (fun_ext (λ piece. sym (set-permits set piece)))

pub set-coming : (set : QueueSet) (step : Following) → set.states ≡ step.after
    → step.may_come ≡ map (λ piece. queues_permit (queues_in_play set) ((queues_in_play set).played ++ piece ∷ [])) all_pieces
set-coming set step same = search (rules, set-permitted, set-each)
