-- What plays to the end leaves a tiling, and the supply of a queue set is that of its line.
use Rattle.std.proofs.Common.{◌≡◌, ◌↔◌, ℕ, ◌+◌, ◌-◌, ◌≤◌, Bool, true, cond, List, [], ◌∷◌, ◌++◌, length, refl, sym, ap, subst, ◌∙◌, arith, rules}
use Rattle.std.specs.Prelude.{count_by, min, ◌==◌}
use Rattle.std.specs.Bool.{one_answer}
use Rattle.std.proofs.lemmas.Bool.{cases_Bool, cond-false, cond-true}
use Rattle.std.proofs.Math.Path.{fun_ext}
use Rattle.std.proofs.lemmas.List.{length-map}
use Rattle.std.proofs.lemmas.List.Sums.{sum_by-append, sum_by-cons}
use Rattle.srs.specs.declared.piece.Piece.{Piece}
use Rattle.srs.specs.declared.piece.Piece.TheVariants.{I, L, O, Z, T, J, S}
use Rattle.srs.specs.declared.placement.Placement.{Placement}
use Rattle.srs.specs.Piece.{piece_code}
use Rattle.srs.specs.Kick.{Table}
use Rattle.lane_board.specs.Field.{Field, difference, rows_below}
use Rattle.well.specs.Free.{is_free}
use Rattle.well.specs.declared.well.Well.{Well}
use Rattle.well.specs.Well.{filled}
use Rattle.well.specs.Lock.{locked, rows_removed, together}
use Rattle.well.specs.LockLaws.{LiesBelow, is_below}
use Rattle.moves.specs.declared.key.DropMode.{DropMode}
use Rattle.hold_queue.specs.QueueSet.{QueuesInPlay, QueuesPermit, queues_in_play}
use Rattle.hold_queue.specs.Supply.{supplies, supply_in_play}
use Rattle.hold_queue.proofs.CallerLemmas.{supply-enough}
use Rattle.prune.specs.Tiling.{Supply, Tiling, supply_in}
use Rattle.prune.specs.OnePart.{less_one}
use Rattle.prune.specs.Laws.{ClearsRows, kinds_placed}
use Rattle.prune.proofs.CallerLemmas.{cleared_is_tiled, full_rows_may_stand, more_pieces}
use Rattle.empty_cells.specs.Empties.{all_but, without_placement}
use Rattle.empty_cells.specs.HasTiling.{has_tiling}
use Rattle.empty_cells.proofs.CallerLemmas.{left_by_placement, tiling_below, tiling_decided}
use Rattle.problem.specs.Plays.{Plays}
use Rattle.problem.specs.Solution.{pieces_of}
use Rattle.enumerate.specs.declared.setup.Setup.{Setup}
use Rattle.enumerate.specs.Setups.{state_of}
use Rattle.enumerate.specs.SearchState.{SearchState, after_of, can_be_tiled, is_live}
use Rattle.problem.proofs.CallerLemmas.{IsLow, locked-low}
use Rattle.moves.proofs.CallerLemmas.{place-free}
use Rattle.empty_cells.specs.SupplyWords.{supply_of}

-- what plays clears all rows
pub plays-clears : (table : Table) (mode : DropMode) (F : Field) (rows : ℕ) (s : List Placement) → Plays table mode F rows s → ClearsRows F rows s
plays-clears table mode F rows [] plays = plays.0
plays-clears table mode F rows (q ∷ s) plays = (place-free table F mode q plays.0, plays.1, plays-clears table mode (locked F q) (rows - rows_removed F q) s plays.2)

pieces-counted : (s : List Placement) (piece : Piece) → kinds_placed s piece ≡ count_by (λ other. piece_code other == piece_code piece) (pieces_of s)
unfolding kinds_placed
pieces-counted s piece = sym (counted s)
  where
    counted : (s : List Placement) → count_by (λ other. piece_code other == piece_code piece) (pieces_of s) ≡ count_by (λ q. piece_code q.piece == piece_code piece) s
    counted [] = refl
    counted (q ∷ s) = omega (arith, sum_by-cons (λ other. cond (piece_code other == piece_code piece) 1 0) q.piece (pieces_of s), sum_by-cons (λ (q : Placement). cond (piece_code q.piece == piece_code piece) 1 0) q s, counted s)

-- so where a sequence plays to the end and some queue permits its pieces, what may still be played has a tiling
pub played-tiled : (n : SearchState) (s : List Placement) → IsLow n.field n.rows → Plays n.table n.mode n.field n.rows s → QueuesPermit n.line (n.line.played ++ pieces_of s) → can_be_tiled (length s) n ≡ true
unfolding can_be_tiled
played-tiled n s low plays permitted =
    (tiling_decided n.field n.rows (supply_in_play n.line (length s))).1
    (more_pieces n.field n.rows (kinds_placed s) (supply_in_play n.line (length s)) enough
    (cleared_is_tiled n.field n.rows s low.within (record { none = low.none }) (plays-clears n.table n.mode n.field n.rows s plays)))
  where
    enough : (piece : Piece) → kinds_placed s piece ≤ supply_in_play n.line (length s) piece
    enough piece =
        let most = subst (λ k. count_by (λ other. piece_code other == piece_code piece) (pieces_of s) ≤ supply_in_play n.line k piece) (length-map s (λ q. q.piece)) (supply-enough n.line (pieces_of s) piece permitted) in
        omega (arith, pieces-counted s piece)

-- what a placement leaves has a tiling, before its full rows go, exactly where it has one after
pub left-tiled : (F E : Field) (rows : ℕ) (q : Placement) (supply : Supply) (answer : Bool) → rows ≤ 8 → LiesBelow F rows → is_free F q ≡ true → is_below rows q ≡ true →
    E ≡ without_placement (difference (rows_below rows) F) q → ((answer ≡ true) ↔ Tiling (all_but E) 8 supply) → answer ≡ has_tiling (locked F q) (rows - rows_removed F q) supply
left-tiled F E rows q supply answer few below free placed is answers =
    one_answer {P = Tiling (locked F q) (rows - rows_removed F q) supply} answer (has_tiling (locked F q) (rows - rows_removed F q) supply) (
      λ yes. locking.0 (standing.0 (subst (λ E. Tiling (all_but E) 8 supply) left (answers.0 yes))),
      λ tiling. answers.1 (subst (λ E. Tiling (all_but E) 8 supply) (sym left) (standing.1 (locking.1 tiling))),
    )
    (tiling_decided (locked F q) (rows - rows_removed F q) supply)
  where
    left : E ≡ difference (rows_below rows) (together F q)
    left = is ∙ left_by_placement F rows q

    standing : Tiling (all_but (difference (rows_below rows) (together F q))) 8 supply ↔ Tiling (together F q) rows supply
    standing = tiling_below (together F q) rows 8 supply few

    locking : Tiling (together F q) rows supply ↔ Tiling (locked F q) (rows - rows_removed F q) supply
    locking = full_rows_may_stand F q rows supply (omega arith) below free placed

-- ---- what may be played after one more piece

fewer : (left a c : ℕ) → min left (min (left + 1) (a - c) - 1) ≡ min left (a - (c + 1))
fewer left a c = omega arith

as_many : (left a c : ℕ) → min left (min (left + 1) (a - c)) ≡ min left (a - c)
as_many left a c = omega arith

supply-next : (line : QueuesInPlay) (piece : Piece) (left : ℕ) (other : Piece) →
    min left (less_one (supply_in_play line (left + 1)) piece other) ≡ supply_in_play (record line { played = line.played ++ piece ∷ [] }) left other
unfolding less_one
supply-next line piece left other =
    grind (arith, cases_Bool, cond-true, fewer, cond-false, as_many, sum_by-append, sum_by-cons)

-- the supply of a setup, after one more piece
pub supply-moves : (line : QueuesInPlay) (piece : Piece) (left : ℕ) (before after : Supply) → before ≡ supply_in_play line (left + 1) →
    ((other : Piece) → after other ≡ min left (less_one before piece other)) → after ≡ supply_in_play (record line { played = line.played ++ piece ∷ [] }) left
supply-moves line piece left before after is moves = fun_ext (λ other. moves other ∙ ap (λ (s : Supply). min left (less_one s piece other)) is ∙ supply-next line piece left other)

-- so whether a placement leads to a live state is told by what it leaves
pub live-after : (table : Table) (mode : DropMode) (setup : Setup) (q : Placement) (supply : Supply) → ((other : Piece) → supply other ≡ min setup.left (less_one (supply_of setup.supply) q.piece other)) →
    (left : ℕ) → left + 1 ≡ setup.left → is_live left (after_of (state_of table mode setup) q) ≡ has_tiling (locked (filled setup.well) q) (setup.rows - rows_removed (filled setup.well) q) supply
unfolding is_live can_be_tiled after_of state_of
live-after table mode setup q supply moves left less = search (rules, (supply-moves (queues_in_play setup.line.queues) q.piece setup.left))

-- what is left lies below the rows left
pub locked-below : (setup : Setup) (q : Placement) (well : Well) (rows : ℕ) → is_below setup.rows q ≡ true → is_free (filled setup.well) q ≡ true →
    filled well ≡ locked (filled setup.well) q → rows ≡ setup.rows - rows_removed (filled setup.well) q → LiesBelow (filled well) rows
locked-below setup q well rows below free field is =
    let low = locked-low (filled setup.well) setup.rows q (record { none = setup.bounded.none; within = omega (arith, setup.low) }) below free in
    record { none = λ x y above. ap (λ (F : Field). F x y) field ∙ low.none x y (omega (arith, is)) }

-- the entries of a supply, read again
pub supplies-read : (line : QueuesInPlay) (left : ℕ) → supply_in (supplies line left) ≡ supply_in_play line left
unfolding supply_in
supplies-read line left = fun_ext read
  where
    read : (piece : Piece) → supply_in (supplies line left) piece ≡ supply_in_play line left piece
    read I = refl
    read L = refl
    read O = refl
    read Z = refl
    read T = refl
    read J = refl
    read S = refl
