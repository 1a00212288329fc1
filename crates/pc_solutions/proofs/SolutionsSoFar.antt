-- So many solutions are written, and the search lists those behind them.
use Rattle.std.proofs.Common.{◌≡◌, ◌∙◌, ℕ, ◌+◌, ◌-◌, ◌*◌, ◌<◌, ◌≤◌, min, true, nat_lt, lt-ltb, List, [], ◌∷◌, ◌++◌, length, length-drop, take, drop, sym, ap, append-nil, arith, rules}
use Rattle.std.specs.List.{flat_map}
use Rattle.std.proofs.lemmas.List.{drop-drop}
use Rattle.std.proofs.lemmas.List.Concat.{flat_map-append}
use Rattle.srs.specs.declared.placement.Placement.{Placement}
use Rattle.placement_numbers.specs.Numbers.{sequence_numbers}
use Rattle.problem.specs.declared.problem.Problem.{Problem}
use Rattle.problem.specs.Problem.{IsFit, needed_of}
use Rattle.problem.specs.SolutionList.{IsList, View}
use Rattle.problem.proofs.CallerLemmas.{long-needed}
use Rattle.pc_path.proofs.CallerLemmas.{next_plays, take_next}

-- a solution has as many placements as are needed
pub next_needed : (problem : Problem) (needed : ℕ) (view : View) (sequence : List Placement) (rest all : List (List Placement)) → IsFit problem → needed ≡ needed_of problem
    → view.problem ≡ problem → IsList view all → all ≡ sequence ∷ rest → length sequence ≡ needed
next_needed problem needed view sequence rest all fit is same list first = search (rules, long-needed, next_plays)

-- there is room for one more
pub room_for_next : (count most width room : ℕ) → count < most → most * width ≤ room → count * width + width ≤ room
room_for_next count most width room more enough = search rules

-- one more takes as many bytes again
pub size_next : (count width size next length : ℕ) → size ≡ count * width → next ≡ size + 4 * length → 4 * length ≡ width → next ≡ (count + 1) * width
size_next count width size next length before is one = search rules

module _ (all : List (List Placement)) (count : ℕ) where
  -- the numbers of one more
  pub numbers_next : (sequence : List Placement) (rest : List (List Placement)) → drop count all ≡ sequence ∷ rest
      → flat_map sequence_numbers (take count all) ++ sequence_numbers sequence ≡ flat_map sequence_numbers (take (count + 1) all)
  numbers_next sequence rest next =
      ap (λ l. flat_map sequence_numbers (take count all) ++ l) (sym (append-nil (sequence_numbers sequence)))
      ∙ sym (flat_map-append sequence_numbers (take count all) (sequence ∷ []))
      ∙ ap (flat_map sequence_numbers) (sym (take_next all count sequence rest next))

  -- none is left
  pub counted_all : (most : ℕ) → drop count all ≡ [] → count ≤ length all → count < most → count ≡ min most (length all)
  counted_all most none within more =
      let left = length-drop count all in
      let zero = ap length none in
      omega (arith, left, zero, within, more)

  pub ended_there : (most : ℕ) → drop count all ≡ [] → count ≤ length all → count < most → true ≡ nat_lt (length all) most
  ended_there most none within more =
      let left = length-drop count all in
      let zero = ap length none in
      sym (lt-ltb (length all) most (omega (arith, left, zero, within, more)))

-- what is behind is as it was
pub rest_next : (old mid new : List ℕ) (size next : ℕ) → size ≤ next → drop size mid ≡ drop size old → drop next new ≡ drop next mid → drop next new ≡ drop next old
rest_next old mid new size next within before here =
    let same : next ≡ size + (next - size) = omega (arith, within) in
    here ∙ ap (λ n. drop n mid) same ∙ sym (drop-drop (next - size) size mid) ∙ ap (drop (next - size)) before
    ∙ drop-drop (next - size) size old ∙ ap (λ n. drop n old) (sym same)
