-- The definitions, tried on a straight piece that clears the field and on two queues: the one that can hold back its first
-- piece is covered, and the other one isn't.
use Rattle.std.proofs.Common.{◌≡◌, ℕ, zero, suc, List, [], ◌∷◌, Option, Some, None, refl, sym, ap, subst, arith, rules}
use Rattle.std.specs.Prelude.{Contains, slice_get}
use Rattle.srs.specs.declared.piece.Piece.{Piece}
use Rattle.srs.specs.declared.piece.Piece.TheVariants.{I, T}
use Rattle.srs.specs.declared.placement.Placement.{Placement}
use Rattle.queue_pattern.specs.Pattern.{elements_of}
use Rattle.queue_pattern.specs.Queues.{queues}
use Rattle.hold_queue.specs.declared.hold.Hold.{Hold}
use Rattle.hold_queue.specs.declared.hold.Hold.TheVariants.{Allowed}
use Rattle.hold_queue.specs.Permits.{Permits, Way, plain, exchange, first_hold, last}
use Rattle.problem.specs.declared.problem.Problem.{Problem}
use Rattle.problem.specs.Solution.{PlaysIn, pieces_of}
use Rattle.cover.specs.Covered.{IsCovered, IsNextFrom, Keeps}

abbrev two_queues : List (List Piece)
two_queues = (T ∷ I ∷ []) ∷ (T ∷ T ∷ []) ∷ []

second_with_hold : Permits Allowed (T ∷ I ∷ []) None (I ∷ [])
second_with_hold = ([], Some T, first_hold, tt)

no_way : {hold : Hold} {queue : List Piece} {held : Option Piece} {piece : Piece} {rest : List Piece} {after : Option Piece}
    → Way hold queue held piece rest after → queue ≡ T ∷ T ∷ [] → held ≡ None → piece ≡ I → ⊥
no_way plain q h p = cc
no_way exchange q h p = cc
no_way first_hold q h p = cc
no_way last q h p = cc

-- a problem with these queues, and a straight piece that clears its field
module _ (problem : Problem) (straight : Placement) (kind : straight.piece ≡ I) (plays : PlaysIn problem (straight ∷ []))
    (hold : problem.hold ≡ Allowed) (held : problem.held ≡ None) (all : queues (elements_of problem.pattern) ≡ two_queues)
  where
    abbrev sequences : List (List Placement)
    sequences = (straight ∷ []) ∷ []

    first_is_covered : IsCovered problem sequences 0
    first_is_covered = record {
      queue = T ∷ I ∷ [];
      there = ap (λ qs. slice_get qs 0) all;
      sequence = straight ∷ [];
      given = (0, omega arith, refl);
      plays = plays;
      permitted =
          subst (λ h. Permits h (T ∷ I ∷ []) problem.held (pieces_of (straight ∷ []))) (sym hold)
          (subst (λ p. Permits Allowed (T ∷ I ∷ []) p (pieces_of (straight ∷ []))) (sym held)
          (subst (λ p. Permits Allowed (T ∷ I ∷ []) None (p ∷ [])) (sym kind) second_with_hold));
    }

    only_one : (sequence : List Placement) → Contains sequences sequence → sequence ≡ straight ∷ []
    only_one sequence (zero, within, is) = sym is
    only_one sequence (suc k, within, is) = absurd (omega (arith, within))

    second_is_not : IsCovered problem sequences 1 → ⊥
    second_is_not covered = search (rules, (only_one covered.sequence covered.given), no_way)

    there_are_two : (number : ℕ) → IsCovered problem sequences (suc (suc number)) → ⊥
    there_are_two number covered = search rules

    none_after_the_first : IsNextFrom (IsCovered problem sequences) 1 None
    none_after_the_first zero covered above = omega (arith, above)
    none_after_the_first (suc zero) covered above = second_is_not covered
    none_after_the_first (suc (suc number)) covered above = there_are_two number covered

kept_once : (old new : List ℕ) → Keeps old new 7 → old ≡ 7 ∷ [] → new ≡ 7 ∷ []
kept_once old new h2 is = search rules
