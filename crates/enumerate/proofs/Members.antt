-- The list from a state on has exactly the solutions from there.
use Rattle.std.proofs.Common.{◌≡◌, ℕ, zero, suc, true, List, [], ◌∷◌, ◌++◌, length, refl, sym, subst, inl, inr, arith, append_assoc, eq-eqb, rules}
use Rattle.std.specs.Prelude.{Contains, ◌==◌, if◌then◌else◌}
use Rattle.std.specs.List.{flat_map}
use Rattle.std.proofs.lemmas.Bool.{eqb-true, cond_both}
use Rattle.std.proofs.lemmas.List.{append-nil}
use Rattle.srs.specs.declared.piece.Piece.{Piece}
use Rattle.srs.specs.declared.placement.Placement.{Placement}
use Rattle.srs.specs.Piece.{all_pieces}
use Rattle.srs.proofs.CallerLemmas.{Contains-cases, Contains-flat_map, Contains-from_flat_map, Contains-here, Contains-none}
use Rattle.moves.specs.Place.{IsPlace}
use Rattle.hold_queue.specs.QueueSet.{QueuesPermit}
use Rattle.problem.specs.Plays.{Plays}
use Rattle.well.specs.LockLaws.{is_below}
use Rattle.problem.specs.Solution.{pieces_of}
use Rattle.hold_queue.proofs.CallerLemmas.{Contains-piece, queues_permit-decides}
use Rattle.enumerate.specs.SearchState.{SearchState, after_of, can_be_tiled, may_play, is_live}
use Rattle.problem.proofs.CallerLemmas.{IsLow, locked-low}
use Rattle.enumerate.proofs.PermitLaws.{line_permits-front}
use Rattle.enumerate.proofs.PlaceLaws.{lockable-listed, place-lockable}
use Rattle.moves.proofs.CallerLemmas.{is_place-decides, place-free}
use Rattle.enumerate.proofs.Solutions.{in_kind, of_kind, sols, to_kind, to_place}
use Rattle.enumerate.proofs.TilingLaws.{played-tiled}

-- with so many placements, a sequence plays to the end, and some queue permits its pieces after those that were played
pub record IsSolved (left : ℕ) (n : SearchState) (s : List Placement) : Type 0 where
  pub long : length s ≡ left
  pub plays : Plays n.table n.mode n.field n.rows s
  pub permitted : QueuesPermit n.line (n.line.played ++ pieces_of s)

pub may_play-permits : (n : SearchState) (piece : Piece) → may_play n.line piece ≡ true → QueuesPermit n.line (n.line.played ++ piece ∷ [])
unfolding may_play
may_play-permits n piece played = (queues_permit-decides n.line (n.line.played ++ piece ∷ [])).0 played

pub permits-may_play : (n : SearchState) (piece : Piece) → QueuesPermit n.line (n.line.played ++ piece ∷ []) → may_play n.line piece ≡ true
unfolding may_play
permits-may_play n piece permitted = (queues_permit-decides n.line (n.line.played ++ piece ∷ [])).1 permitted

-- a state without a tiling has no solution
live-where_solved : (left : ℕ) (n : SearchState) (s : List Placement) → IsLow n.field n.rows → IsSolved (suc left) n s → is_live left n ≡ true
unfolding is_live
live-where_solved left n s low solved = subst (λ k. can_be_tiled k n ≡ true) solved.long (played-tiled n s low solved.plays solved.permitted)

pub low-after : (n : SearchState) (q : Placement) → IsLow n.field n.rows → is_below n.rows q ≡ true → IsPlace n.table n.field n.mode q → IsLow (after_of n q).field (after_of n q).rows
unfolding after_of
low-after n q low below place = locked-low n.field n.rows q low below (place-free n.table n.field n.mode q place)

solved-nil : (n : SearchState) → IsLow n.field n.rows → (n.rows ≡ 0 → QueuesPermit n.line n.line.played) → n.rows ≡ 0 → IsSolved 0 n []
solved-nil n low permitted none = search (rules, append-nil)

solved-cons : (left : ℕ) (n : SearchState) (q : Placement) (s : List Placement) → IsPlace n.table n.field n.mode q → is_below n.rows q ≡ true → IsSolved left (after_of n q) s → IsSolved (suc left) n (q ∷ s)
unfolding after_of
solved-cons left n q s place below solved = search (rules, (append_assoc n.line.played (q.piece ∷ []) (pieces_of s)))

permitted-after : (n : SearchState) (piece : Piece) (q : Placement) → q.piece ≡ piece → may_play n.line piece ≡ true → QueuesPermit (after_of n q).line (after_of n q).line.played
unfolding after_of
permitted-after n piece q kind played = subst (λ p. QueuesPermit n.line (n.line.played ++ p ∷ [])) (sym kind) (may_play-permits n piece played)

pub sound : (left : ℕ) (n : SearchState) → IsLow n.field n.rows → (n.rows ≡ 0 → QueuesPermit n.line n.line.played) → (s : List Placement) → Contains (sols left n) s → IsSolved left n s
unfolding sols
sound zero n low permitted s =
    cond_both (n.rows == 0) ([] ∷ []) [] (λ l. Contains l s → IsSolved 0 n s)
    (λ none among. elim (Contains-cases [] [] s among) [
      | inl here ↦ subst (IsSolved 0 n) here (solved-nil n low permitted (eqb-true n.rows 0 none))
      | inr there ↦ absurd (Contains-none s there)
    ])
    (λ _ among. absurd (Contains-none s among))
sound (suc left) n low permitted s =
    cond_both (is_live left n) (flat_map (of_kind (sols left) n) all_pieces) [] (λ l. Contains l s → IsSolved (suc left) n s)
    (λ _ among.
    let found = Contains-from_flat_map (of_kind (sols left) n) all_pieces s among in
    let first = in_kind (sols left) n found.0 s found.2 in
    let place = (is_place-decides n.table n.field n.mode first.first).0 first.is_one in
    let rest = first.in_place in
    subst (IsSolved (suc left) n) rest.is
    (solved-cons left n first.first rest.rest place rest.below
    (sound left (after_of n first.first) (low-after n first.first low rest.below place)
    (λ _. permitted-after n found.0 first.first first.listed.kind first.played) rest.rest rest.among)))
    (λ _ among. absurd (Contains-none s among))

pub complete : (left : ℕ) (n : SearchState) (s : List Placement) → IsLow n.field n.rows → IsSolved left n s → Contains (sols left n) s
unfolding sols after_of
complete zero n [] low solved = search (rules, (eq-eqb n.rows 0 solved.plays.0), Contains-here)
complete zero n (q ∷ s) low solved = absurd (omega (arith, solved.long))
complete (suc left) n [] low solved = absurd (omega (arith, solved.long))
complete (suc left) n (q ∷ s) low solved =
    let place : IsPlace n.table n.field n.mode q = solved.plays.0 in
    let permitted : QueuesPermit n.line ((n.line.played ++ q.piece ∷ []) ++ pieces_of s) = subst (QueuesPermit n.line) (sym (append_assoc n.line.played (q.piece ∷ []) (pieces_of s))) solved.permitted in
    let rest : IsSolved left (after_of n q) s = record { long = omega (arith, solved.long); plays = solved.plays.2; permitted = permitted } in
    subst (λ b. Contains (if b then flat_map (of_kind (sols left) n) all_pieces else []) (q ∷ s)) (sym (live-where_solved left n (q ∷ s) low solved))
    (Contains-flat_map (of_kind (sols left) n) all_pieces q.piece (q ∷ s) (Contains-piece q.piece)
    (to_kind (sols left) n q (q ∷ s)
    (permits-may_play n q.piece (line_permits-front n.line (n.line.played ++ q.piece ∷ []) (pieces_of s) permitted))
    (lockable-listed n.field q.piece q (place-lockable n.table n.field n.mode q.piece q refl place))
    ((is_place-decides n.table n.field n.mode q).1 place)
    (to_place (sols left) n q s solved.plays.1 (complete left (after_of n q) s (low-after n q low solved.plays.1 place) rest))))
