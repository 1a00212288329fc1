-- A queue permits a kept list exactly where one of the tree's can be taken from its pieces at hand.
use Rattle.std.proofs.Common.{◌≡◌, ℕ, ◌<◌, ◌≤◌, Some, List, length, slice_get, sym, subst, ◌∙◌, inl, inr, arith, rules}
use Rattle.std.proofs.lemmas.Bool.{cases_lt}
use Rattle.std.proofs.lemmas.Option.{slice_get_within}
use Rattle.srs.specs.declared.piece.Piece.{Piece}
use Rattle.queue_pattern.specs.Pattern.{elements_of}
use Rattle.queue_pattern.specs.Queues.{queues}
use Rattle.hold_queue.specs.declared.hand.Hand.{Hand}
use Rattle.hold_queue.specs.AtHand.{at_hand, Takes}
use Rattle.hold_queue.specs.Hand.{pieces_at}
use Rattle.hold_queue.proofs.CallerLemmas.{permits-of_takes, takes-of_permits}
use Rattle.problem.specs.declared.problem.Problem.{Problem}
use Rattle.cover.specs.declared.node.Node.{Node}
use Rattle.cover.specs.Covered.{IsLeastFrom, IsPermitted}
use Rattle.cover.specs.Fronts.{ShareFront}
use Rattle.cover.specs.Lists.{has_kinds}
use Rattle.cover.specs.Look.{Misses, TakesOne}
use Rattle.cover.specs.Nodes.{spells}
use Rattle.cover.proofs.KindLemmas.{has_kinds-contained, has_kinds-from}

-- no queue from a number to before another one permits a list
pub record NoneBetween (problem : Problem) (lists : List (List Piece)) (from to : ℕ) : Type 0 where
  pub later : from ≤ to
  pub within : to ≤ length (queues (elements_of problem.pattern))
  pub none : (number : ℕ) → IsPermitted problem lists number → from ≤ number → number < to → ⊥

module _ (problem : Problem) (lists : List (List Piece)) (nodes : List Node) (hand : Hand)
    (listed : (kinds : List Piece) → spells nodes 0 kinds ≡ has_kinds lists kinds)
    (at_start : (queue : List Piece) → pieces_at queue hand ≡ at_hand problem.hold problem.held queue) where
  taken-permitted : (number : ℕ) (queue : List Piece) → slice_get (queues (elements_of problem.pattern)) number ≡ Some queue
      → TakesOne nodes problem.hold 0 (pieces_at queue hand) → IsPermitted problem lists number
  taken-permitted number queue there one = search (rules, has_kinds-contained, permits-of_takes)

  permitted-taken : (number : ℕ) → (permitted : IsPermitted problem lists number) → TakesOne nodes problem.hold 0 (pieces_at permitted.queue hand)
  permitted-taken number permitted = record {
    kinds = permitted.kinds;
    spelled = listed permitted.kinds ∙ has_kinds-from lists permitted.kinds permitted.listed;
    taken = subst (λ l. Takes problem.hold l permitted.kinds) (sym (at_start permitted.queue))
        (takes-of_permits problem.hold permitted.queue problem.held permitted.kinds permitted.permitted);
  }

  pub next-found : (from number : ℕ) (queue : List Piece) → NoneBetween problem lists from number → slice_get (queues (elements_of problem.pattern)) number ≡ Some queue
      → TakesOne nodes problem.hold 0 (pieces_at queue hand) → IsLeastFrom (IsPermitted problem lists) from number
  next-found from number queue so_far there one = record {
    member = taken-permitted number queue there one;
    above = so_far.later;
    least = λ other member above. elim (cases_lt other number) [
      | inl before ↦ absurd (so_far.none other member above before)
      | inr after ↦ after
    ];
  }

  pub next-passed : (from number end seen : ℕ) (queue : List Piece) → NoneBetween problem lists from number → Misses nodes problem.hold 0 queue hand seen
      → ShareFront (queues (elements_of problem.pattern)) seen queue number end → number < end → end ≤ length (queues (elements_of problem.pattern)) → NoneBetween problem lists from end
  next-passed from number end seen queue so_far missed front after within = record {
    later = omega (arith, so_far.later, after);
    within = within;
    none = λ other member above before. elim (cases_lt other number) [
      | inl old ↦ so_far.none other member above old
      | inr new ↦
          missed.none member.queue (front.each other member.queue new before member.there) (permitted-taken other member)
    ];
  }

pub none-at-all : (problem : Problem) (lists : List (List Piece)) (from to : ℕ) → NoneBetween problem lists from to → length (queues (elements_of problem.pattern)) ≤ to → (other : ℕ) → IsPermitted problem lists other → from ≤ other → ⊥
none-at-all problem lists from to so_far all other member above = search (rules, slice_get_within)
