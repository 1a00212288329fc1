-- What is taken from a hand, also where the queue is another one that begins with the same pieces.
use Rattle.std.proofs.Common.{◌≡◌, ◌⊎◌, ℕ, zero, suc, ◌+◌, ◌-◌, ◌<◌, ◌≤◌, List, [], ◌∷◌, ◌++◌, length, take, drop, Option, Some, None, slice_get, refl, ap, ◌∙◌, arith, rules}
use Rattle.std.specs.Option.{option_to_list}
use Rattle.std.proofs.Math.ListN.{drop_of_length-le}
use Rattle.std.proofs.lemmas.List.{length-drop}
use Rattle.srs.specs.declared.piece.Piece.{Piece}
use Rattle.srs.specs.Piece.{piece_code}
use Rattle.srs.proofs.CallerLemmas.{piece_code-injective}
use Rattle.hold_queue.specs.declared.hand.Hand.{Hand}
use Rattle.hold_queue.specs.declared.hand.Taken.{Taken}
use Rattle.hold_queue.specs.declared.hold.Hold.{Hold}
use Rattle.hold_queue.specs.declared.hold.Hold.TheVariants.{Allowed, Avoided}
use Rattle.hold_queue.specs.AtHand.{at_hand, playable, Take}
use Rattle.hold_queue.specs.Hand.{AreAllTakes, HasSameFront, TakesFirst, IsFirstAtHand, TakesSecond, IsSecondAtHand, IsTakenBy, Leaves, pieces_at}
use Rattle.hold_queue.proofs.AtHandLemmas.{take-cases, take-nothing, take-of_first, take-of_second}

-- ---- queues that begin with the same pieces

front-shorter : (m n : ℕ) (xs ys : List Piece) → m ≤ n → take n ys ≡ take n xs → take m ys ≡ take m xs
front-shorter zero n xs ys within same = refl
front-shorter (suc m) zero xs ys within same = absurd (omega arith)
front-shorter (suc m) (suc n) [] [] within same = refl
front-shorter (suc m) (suc n) [] (y ∷ ys) within same = cc
front-shorter (suc m) (suc n) (x ∷ xs) [] within same = cc
front-shorter (suc m) (suc n) (x ∷ xs) (y ∷ ys) within same = search (rules, (front-shorter m n xs ys))

pub same-shorter : (m n : ℕ) (queue other : List Piece) → m ≤ n → HasSameFront n queue other → HasSameFront m queue other
same-shorter m n queue other within same = record { same = front-shorter m n queue other within same.same }

pub same-itself : (n : ℕ) (queue : List Piece) → HasSameFront n queue queue
same-itself n queue = record { same = refl }

-- the piece after a front
next-piece : (drawn : ℕ) (queue other : List Piece) (piece : Piece) → take (suc drawn) other ≡ take (suc drawn) queue
    → slice_get queue drawn ≡ Some piece → drop drawn other ≡ piece ∷ drop (suc drawn) other
next-piece drawn [] other piece same there = cc
next-piece zero (x ∷ queue) [] piece same there = cc
next-piece zero (x ∷ queue) (y ∷ other) piece same there = search rules
next-piece (suc drawn) (x ∷ queue) [] piece same there = cc
next-piece (suc drawn) (x ∷ queue) (y ∷ other) piece same there = search (rules, (next-piece drawn queue other piece))

-- ---- a hand

pub start-playable : (hold : Hold) (held : Option Piece) (queue : List Piece) → pieces_at queue (record { held = playable hold held; drawn = 0 }) ≡ at_hand hold held queue
unfolding pieces_at
start-playable Avoided held queue = refl
start-playable Allowed None queue = refl
start-playable Allowed (Some piece) queue = refl

pub count-none : (queue : List Piece) (hand : Hand) → hand.held ≡ None → length (pieces_at queue hand) ≡ length queue - hand.drawn
unfolding pieces_at
count-none queue hand none = ap (λ k. length (option_to_list k ++ drop hand.drawn queue)) none ∙ length-drop hand.drawn queue

pub count-some : (queue : List Piece) (hand : Hand) (piece : Piece) → hand.held ≡ Some piece → length (pieces_at queue hand) ≡ length queue - hand.drawn + 1
unfolding pieces_at
count-some queue hand piece held = ap (λ k. length (option_to_list k ++ drop hand.drawn queue)) held ∙ omega (arith, length-drop hand.drawn queue)

abbrev left : Piece → Option Piece → ℕ → Taken
left piece held drawn = record { piece = piece; rest = record { held = held; drawn = drawn } }

pub held-first : (queue : List Piece) (hand : Hand) (piece : Piece) → hand.held ≡ Some piece → IsTakenBy TakesFirst queue hand (left piece None hand.drawn)
unfolding pieces_at
held-first queue hand piece held = search rules

pub drawn-first : (queue : List Piece) (hand : Hand) (piece : Piece) → hand.held ≡ None → hand.drawn < length queue → slice_get queue hand.drawn ≡ Some piece → IsTakenBy TakesFirst queue hand (left piece None (hand.drawn + 1))
unfolding pieces_at
drawn-first queue hand piece none within there = search (rules, next-piece)

pub none-first : (queue : List Piece) (hand : Hand) → hand.held ≡ None → length queue ≤ hand.drawn → pieces_at queue hand ≡ []
unfolding pieces_at
none-first queue hand none used_up = ap (λ k. option_to_list k ++ drop hand.drawn queue) none ∙ drop_of_length-le queue used_up

pub then-second : (queue : List Piece) (hand : Hand) (first second : Taken) → IsTakenBy TakesFirst queue hand first → IsTakenBy TakesFirst queue first.rest second → second.rest.held ≡ None
    → IsTakenBy TakesSecond queue hand (left second.piece (Some first.piece) second.rest.drawn)
unfolding pieces_at
then-second queue hand first second one two none = search (rules, same-shorter)

pub first-held : (queue : List Piece) (hand : Hand) (first : Taken) → IsTakenBy TakesFirst queue hand first → first.rest.held ≡ None
    → pieces_at queue (record { held = Some first.piece; drawn = first.rest.drawn }) ≡ pieces_at queue hand
unfolding pieces_at
first-held queue hand first is none = search (rules, same-itself)

-- ---- all ways to take a piece

leaves-first : (queue pieces : List Piece) (taken : Taken) (piece : Piece) (rest : List Piece) → TakesFirst pieces taken.piece (pieces_at queue taken.rest) → TakesFirst pieces piece rest → Leaves queue (Some taken) piece rest
leaves-first queue pieces taken piece rest is found = search rules

first-leaves : (hold : Hold) (queue pieces : List Piece) (taken : Taken) (piece : Piece) (rest : List Piece) → TakesFirst pieces taken.piece (pieces_at queue taken.rest) → Leaves queue (Some taken) piece rest
    → Take hold pieces piece rest
first-leaves hold queue pieces taken piece rest is leaves = search (rules, take-of_first)

leaves-second : (queue pieces : List Piece) (taken : Taken) (piece : Piece) (rest : List Piece) → TakesSecond pieces taken.piece (pieces_at queue taken.rest) → TakesSecond pieces piece rest → Leaves queue (Some taken) piece rest
leaves-second queue pieces taken piece rest is found = search rules

second-leaves : (hold : Hold) (queue pieces : List Piece) (taken : Taken) (piece : Piece) (rest : List Piece) → hold ≡ Allowed → TakesSecond pieces taken.piece (pieces_at queue taken.rest)
    → Leaves queue (Some taken) piece rest → Take hold pieces piece rest
second-leaves hold queue pieces taken piece rest allowed is leaves = search (rules, take-of_second)

-- the first piece alone
pub one-way : (hold : Hold) (queue : List Piece) (hand : Hand) (first : Option Taken) → IsFirstAtHand queue hand first → (hold ≡ Avoided) ⊎ (length (pieces_at queue hand) ≤ 1)
    → AreAllTakes hold queue hand first None
one-way hold queue hand first none alone =
    search (rules, take-nothing, same-itself, first-leaves, take-cases, leaves-first)

-- the first and the second, where the hand that the first one leaves may be another with the same pieces
module _ (hold : Hold) (queue : List Piece) (hand : Hand) (first second : Option Taken) (one other : Taken) (rest : Hand) (allowed : hold ≡ Allowed)
    (is_first : IsFirstAtHand queue hand first) (is_second : IsSecondAtHand queue hand second) (one_is : first ≡ Some one) (other_is : second ≡ Some other)
    (same : pieces_at queue rest ≡ pieces_at queue one.rest) where
  abbrev moved : Taken
  moved = record { piece = one.piece; rest = rest }

  here : TakesFirst (pieces_at queue hand) one.piece (pieces_at queue rest)
  here = search (rules, same-itself)

  next : TakesSecond (pieces_at queue hand) other.piece (pieces_at queue other.rest)
  next = search (rules, same-itself)

  either : (piece : Piece) (after : List Piece) → Leaves queue (Some moved) piece after ⊎ Leaves queue (Some other) piece after → Take hold (pieces_at queue hand) piece after
  either piece after h2 = search (rules, first-leaves, second-leaves)

  by : (piece : Piece) (after : List Piece) → Take hold (pieces_at queue hand) piece after → Leaves queue (Some moved) piece after ⊎ Leaves queue (Some other) piece after
  by piece after taken = search (rules, take-cases, leaves-first, moved, here, leaves-second, next)

  pub two-ways : AreAllTakes hold queue hand (Some moved) (Some other)
  two-ways = record { each = λ piece after. (either piece after, by piece after) }

  pub in-other-order : AreAllTakes hold queue hand (Some other) (Some moved)
  in-other-order = search (rules, either, by)

  -- two that are the same piece are one
  pub same-way : (code other_code : ℕ) → code ≡ piece_code one.piece → other_code ≡ piece_code other.piece → code ≡ other_code → AreAllTakes hold queue hand (Some moved) None
  same-way code other_code code_is other_code_is alike =
      search (rules, piece_code-injective, moved, first-leaves, here, by, next, left)
