-- A list is taken by its first piece, which is the first or the second at hand.
use Rattle.std.proofs.lemmas.Grind.{common_steps}
use Rattle.std.proofs.Common.{◌≡◌, ◌⊎◌, ℕ, ◌+◌, ◌<◌, ◌≤◌, true, false, List, [], ◌∷◌, inl, inr, arith, length, max, take, rules}
use Rattle.std.proofs.lemmas.Bool.{and_from, lt-ltb}
use Rattle.srs.specs.declared.piece.Piece.{Piece}
use Rattle.hold_queue.specs.declared.hand.Hand.{Hand}
use Rattle.hold_queue.specs.declared.hand.Taken.{Taken}
use Rattle.hold_queue.specs.declared.hold.Hold.{Hold}
use Rattle.hold_queue.specs.declared.hold.Hold.TheVariants.{Allowed, Avoided}
use Rattle.hold_queue.specs.AtHand.{Take, Takes}
use Rattle.hold_queue.specs.Hand.{HasSameFront, TakesFirst, TakesSecond, IsTakenBy, pieces_at}
use Rattle.hold_queue.proofs.CallerLemmas.{same-itself, same-shorter, take-cases, take-of_first, take-of_second}
use Rattle.cover.specs.declared.node.Node.{Node}
use Rattle.cover.specs.Nodes.{child, has_end, spells}
use Rattle.cover.specs.Look.{Misses, MissesBelow, TakesBelow, TakesOne}

pub takes-here : (nodes : List Node) (hold : Hold) (at : ℕ) (pieces : List Piece) → has_end nodes at ≡ true → TakesOne nodes hold at pieces
unfolding spells
takes-here nodes hold at pieces ends = record { kinds = []; spelled = ends; taken = tt }

spells-below : (nodes : List Node) (at : ℕ) (piece : Piece) (kinds : List Piece) → 0 < child nodes at piece → spells nodes (child nodes at piece) kinds ≡ true → spells nodes at (piece ∷ kinds) ≡ true
unfolding spells
spells-below nodes at piece kinds some spelled = and_from _ _ (lt-ltb 0 (child nodes at piece) some) spelled

below-spells : (nodes : List Node) (at : ℕ) (piece : Piece) (kinds : List Piece) → spells nodes at (piece ∷ kinds) ≡ true → (0 < child nodes at piece) × (spells nodes (child nodes at piece) kinds ≡ true)
unfolding spells
below-spells nodes at piece kinds spelled = search rules

here-spells : (nodes : List Node) (at : ℕ) → spells nodes at [] ≡ true → has_end nodes at ≡ true
unfolding spells
here-spells nodes at spelled = spelled

takes-one : (nodes : List Node) (hold : Hold) (at : ℕ) (piece : Piece) (pieces rest : List Piece) → Take hold pieces piece rest → TakesBelow nodes hold at piece rest → TakesOne nodes hold at pieces
takes-one nodes hold at piece pieces rest taken below = search (rules, (spells-below nodes))

-- how a list is taken, by its first piece
abbrev Begins : List Node → Hold → ℕ → List Piece → Type 0
Begins nodes hold at pieces =
    ((piece : Piece) × (rest : List Piece) × TakesFirst pieces piece rest × TakesBelow nodes hold at piece rest)
    ⊎ ((piece : Piece) × (rest : List Piece) × (hold ≡ Allowed) × TakesSecond pieces piece rest × TakesBelow nodes hold at piece rest)

taken-begins : (nodes : List Node) (hold : Hold) (at : ℕ) (pieces kinds : List Piece) → has_end nodes at ≡ false → spells nodes at kinds ≡ true → Takes hold pieces kinds → Begins nodes hold at pieces
taken-begins nodes hold at pieces [] open_end spelled taken = let ended = here-spells nodes at spelled in cc
taken-begins nodes hold at pieces (kind ∷ kinds) open_end spelled taken =
    let split = below-spells nodes at kind kinds spelled in
    let below : TakesBelow nodes hold at kind taken.0 = record { some = split.0; below = record { kinds = kinds; spelled = split.1; taken = taken.2 } } in
    elim (take-cases hold pieces kind taken.0 taken.1) [
      | inl first ↦ inl (kind, taken.0, first, below)
      | inr second ↦ inr (kind, taken.0, second.0, second.1, below)
    ]

-- ---- where the queue is another one that begins with the same pieces

-- a queue of which all is seen, and more, is the same
whole-front : (n : ℕ) (queue other : List Piece) → length queue < n → take n other ≡ take n queue → queue ≡ other
whole-front n queue other within same = grind (arith, common_steps)

module _ (nodes : List Node) (hold : Hold) (at : ℕ) (queue : List Piece) (hand : Hand) (within : hand.drawn ≤ length queue) (open_end : has_end nodes at ≡ false) where
  -- all of the queue is seen
  misses-whole : (seen : ℕ) → seen ≡ length queue + 1 → (TakesOne nodes hold at (pieces_at queue hand) → ⊥) → Misses nodes hold at queue hand seen
  misses-whole seen all none = search (rules, (whole-front seen queue))

  pub misses-none : (seen : ℕ) → seen ≡ length queue + 1 → pieces_at queue hand ≡ [] → Misses nodes hold at queue hand seen
  misses-none seen all none = search (rules, (misses-whole seen all), (taken-begins nodes hold))

  module _ (first : Taken) (is : IsTakenBy TakesFirst queue hand first) where
    pub found-first : TakesBelow nodes hold at first.piece (pieces_at queue first.rest) → TakesOne nodes hold at (pieces_at queue hand)
    found-first below =
        search (rules, (takes-one nodes hold), (take-of_first hold (pieces_at queue hand) first.piece (pieces_at queue first.rest) (is.each queue (same-itself first.rest.drawn queue))))

    -- not by the first piece
    not-first : (other : List Piece) (piece : Piece) (rest : List Piece) → HasSameFront first.rest.drawn queue other → (TakesBelow nodes hold at first.piece (pieces_at other first.rest) → ⊥)
        → TakesFirst (pieces_at other hand) piece rest → TakesBelow nodes hold at piece rest → ⊥
    not-first other piece rest front none found below = search rules

    module _ (seen : ℕ) (missed : MissesBelow nodes hold at first.piece queue first.rest seen) where
      pub misses-avoided : hold ≡ Avoided → Misses nodes hold at queue hand seen
      misses-avoided avoided = search (rules, (taken-begins nodes hold), not-first, (same-shorter first.rest.drawn seen queue))

      pub misses-one : (all : ℕ) → all ≡ length queue + 1 → length (pieces_at queue hand) ≤ 1 → Misses nodes hold at queue hand all
      misses-one all whole few =
          search (rules, (misses-whole all whole), (taken-begins nodes hold), (not-first queue), (same-itself first.rest.drawn queue), (same-itself seen queue))

      module _ (second : Taken) (next : IsTakenBy TakesSecond queue hand second) where
        pub found-second : hold ≡ Allowed → TakesBelow nodes hold at second.piece (pieces_at queue second.rest) → TakesOne nodes hold at (pieces_at queue hand)
        found-second allowed below =
            search (rules, (takes-one nodes hold), (take-of_second hold (pieces_at queue hand) second.piece (pieces_at queue second.rest) allowed (next.each queue (same-itself second.rest.drawn queue))))

        -- not by the second piece
        not-second : (other : List Piece) (piece : Piece) (rest : List Piece) → HasSameFront second.rest.drawn queue other → (TakesBelow nodes hold at second.piece (pieces_at other second.rest) → ⊥)
            → TakesSecond (pieces_at other hand) piece rest → TakesBelow nodes hold at piece rest → ⊥
        not-second other piece rest front none found below = search rules

        pub misses-two : (also all : ℕ) → MissesBelow nodes hold at second.piece queue second.rest also → all ≡ max seen also → Misses nodes hold at queue hand all
        misses-two also all missed_too most = record {
          later = omega (arith, is.later, missed.later, most);
          few = omega (arith, missed.few, missed_too.few, most);
          none = λ other front one. elim (taken-begins nodes hold at (pieces_at other hand) one.kinds open_end one.spelled one.taken) [
            | inl found ↦
                not-first other found.0 found.1 (same-shorter first.rest.drawn all queue other (omega (arith, missed.later, most)) front)
                (missed.none other (same-shorter seen all queue other (omega (arith, most)) front)) found.2 found.3
            | inr found ↦
                not-second other found.0 found.1 (same-shorter second.rest.drawn all queue other (omega (arith, missed_too.later, most)) front)
                (missed_too.none other (same-shorter also all queue other (omega (arith, most)) front)) found.3 found.4
          ];
        }
