-- The queues between two that begin alike begin so too.
use Rattle.std.proofs.Common.{◌≡◌, ℕ, zero, suc, ◌+◌, ◌<◌, ◌≤◌, List, [], ◌∷◌, length, take, Some, slice_get, refl, sym, ap, ◌∙◌, inl, inr, arith, rules}
use Rattle.std.specs.List.Sorted.{IsStrictlySortedBy}
use Rattle.std.specs.declared.cmp.Ordering.TheVariants.{Less}
use Rattle.std.proofs.lemmas.Bool.{cases_eq, cases_lt}
use Rattle.std.proofs.lemmas.Map.Keys.{Less-from_sorted}
use Rattle.std.proofs.lemmas.Option.{get_or_from_slice_get, slice_get_within}
use Rattle.srs.specs.declared.piece.Piece.{Piece}
use Rattle.srs.specs.Piece.{piece_code}
use Rattle.srs.proofs.CallerLemmas.{piece_code-injective, then_less}
use Rattle.queue_pattern.specs.Order.{queue_cmp}
use Rattle.hold_queue.specs.Hand.{HasSameFront}
use Rattle.cover.specs.Fronts.{ShareFront}

between : (count : ℕ) (first middle last : List Piece) → queue_cmp first middle ≡ Less → queue_cmp middle last ≡ Less → take count last ≡ take count first → take count middle ≡ take count first
between zero first middle last one two same = refl
between (suc count) [] [] [] one two same = refl
between (suc count) [] (y ∷ middle) [] one two same = cc
between (suc count) [] middle (z ∷ last) one two same = cc
between (suc count) (x ∷ first) middle [] one two same = cc
between (suc count) (x ∷ first) [] (z ∷ last) one two same = cc
between (suc count) (x ∷ first) (y ∷ middle) (z ∷ last) one two same =
    search (rules, (then_less (piece_code x) (piece_code y) (queue_cmp first middle) one), (then_less (piece_code y) (piece_code z) (queue_cmp middle last) two), (piece_code-injective x y), (between count first middle last))

rises : (queues : List (List Piece)) (i j : ℕ) (a b : List Piece) → IsStrictlySortedBy queue_cmp queues → i < j → slice_get queues i ≡ Some a → slice_get queues j ≡ Some b → queue_cmp a b ≡ Less
rises queues i j a b rising before at there =
    search (rules, (get_or_from_slice_get queues i a []), (get_or_from_slice_get queues j b [] there), (Less-from_sorted queue_cmp queues i j [] rising before (slice_get_within queues j b there)))

-- all up to one that begins alike, and no further
pub record BeginAlike (queues : List (List Piece)) (count : ℕ) (queue : List Piece) (number last end step : ℕ) : Type 0 where
  pub after : number ≤ last
  pub before : last < end
  pub within : end ≤ length queues
  pub some : 1 ≤ step
  pub same : ShareFront queues count queue number (last + 1)

module _ (queues : List (List Piece)) (count : ℕ) (queue : List Piece) (number : ℕ) (rising : IsStrictlySortedBy queue_cmp queues) (there : slice_get queues number ≡ Some queue) where
  -- one more that begins alike
  pub alike-goes_on : (last end step next more : ℕ) (last_queue : List Piece) → BeginAlike queues count queue number last end step → last < next → next < end → 1 ≤ more
      → slice_get queues next ≡ Some last_queue → HasSameFront count queue last_queue → BeginAlike queues count queue number next end more
  alike-goes_on last end step next more last_queue so_far later before positive at same = record {
    after = omega (arith, so_far.after, later);
    before = before;
    within = so_far.within;
    some = positive;
    same = record {
      each = λ k other from to found. elim (cases_lt k (last + 1)) [
        | inl old ↦ so_far.same.each k other from old found
        | inr new ↦ elim (cases_eq k next) [
          | inl is ↦
              let same_queue : Some other ≡ Some last_queue = sym found ∙ ap (slice_get queues) is ∙ at in
              let alike : other ≡ last_queue = cc in
              record { same = ap (take count) alike ∙ same.same }
          | inr earlier ↦
              record {
                same = between count queue other last_queue
                    (rises queues number k queue other rising (omega (arith, new, so_far.after)) there found)
                    (rises queues k next other last_queue rising (omega (arith, to, earlier)) found at)
                    same.same;
              }
        ]
      ];
    };
  }
