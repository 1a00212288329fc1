-- The pieces of a good hand fill what is empty.
use Rattle.std.proofs.Common.{ℕ, zero, suc, ◌≡◌, ◌+◌, ◌-◌, ◌*◌, ◌/◌, ◌%◌, ◌≤◌, Bool, true, false, ◌&&◌, ◌==◌, cond, [], refl, sym, ap, subst, ◌∙◌, inl, inr, arith, rules}
use Rattle.std.specs.List.{list_any}
use Rattle.std.proofs.lemmas.Bool.{and_from, and_parts, eqb-true, or_left, or_right}
use Rattle.srs.proofs.CallerLemmas.{Contains-from_filter, placements_of-list, some_passes}
use Rattle.lane_board.specs.Field.{Field}
use Rattle.srs.specs.declared.piece.Piece.{Piece}
use Rattle.srs.specs.declared.placement.Placement.{Placement}
use Rattle.srs.specs.Piece.{all_pieces, piece_code}
use Rattle.srs.specs.Placements.{placements_of}
use Rattle.srs.specs.Rules.{table_of}
use Rattle.well.specs.Lock.{locked, rows_removed}
use Rattle.well.specs.LockLaws.{is_below}
use Rattle.moves.specs.PlaceTest.{is_place, places_in}
use Rattle.hold_queue.specs.declared.hold.Hold.{Hold}
use Rattle.prune.specs.Tiling.{Supply, Tiling}
use Rattle.prune.specs.Laws.{kinds_placed, with_one}
use Rattle.prune.proofs.CallerLemmas.{cleared_is_tiled, more_pieces, one_placement}
use Rattle.problem.proofs.CallerLemmas.{IsLow, locked-low}
use Rattle.moves.proofs.CallerLemmas.{is_place-decides as place-decides, place-free}
use Rattle.percent.specs.declared.game.Game.{Game}
use Rattle.hands.specs.Hands.{allows_hold, takes, without_first, without_second}
use Rattle.percent.specs.Fitting.{codes_in, supply_at}
use Rattle.percent.specs.GoodHands.{is_good, reached_places}
use Rattle.std.proofs.lemmas.Bool.{or_cases}

-- no more pieces have a code than there are pieces
pub codes-few : (count hand code : ℕ) → codes_in count hand code ≤ count
unfolding codes_in
codes-few zero hand code = omega arith
codes-few (suc count) hand code = let rest = codes-few count (hand / 8) code in let one = at_most_one (hand % 8 == code) in omega (arith, rest, one)
  where
    at_most_one : (b : Bool) → cond b 1 0 ≤ 1
    at_most_one true = omega arith
    at_most_one false = omega arith

-- what is left of a hand with a piece of this code fewer
pub record IsRest (count hand code rest : ℕ) : Type 0 where
  pub fewer : (other : ℕ) → cond (code == other) 1 0 + codes_in count rest other ≡ codes_in (suc count) hand other

first-rest : (count hand code : ℕ) → hand % 8 ≡ code → IsRest count hand code (hand / 8)
unfolding codes_in
first-rest count hand code is = record { fewer = λ other. ap (λ c. cond (c == other) 1 0 + codes_in count (hand / 8) other) (sym is) }

second-rest : (count hand code : ℕ) → hand / 8 % 8 ≡ code → IsRest (suc count) hand code (hand / 64 * 8 + hand % 8)
unfolding codes_in
second-rest count hand code is = record {
  fewer = λ other.
      let low : (hand / 64 * 8 + hand % 8) % 8 ≡ hand % 8 = omega arith in
      let high : (hand / 64 * 8 + hand % 8) / 8 ≡ hand / 8 / 8 = omega arith in
      ap (λ c. cond (c == other) 1 0 + (cond ((hand / 64 * 8 + hand % 8) % 8 == other) 1 0 + codes_in count ((hand / 64 * 8 + hand % 8) / 8) other)) (sym is)
      ∙ ap (λ r. cond (hand / 8 % 8 == other) 1 0 + (cond (r == other) 1 0 + codes_in count ((hand / 64 * 8 + hand % 8) / 8) other)) low
      ∙ ap (λ r. cond (hand / 8 % 8 == other) 1 0 + (cond (hand % 8 == other) 1 0 + codes_in count r other)) high
      ∙ exchanged (cond (hand / 8 % 8 == other) 1 0) (cond (hand % 8 == other) 1 0) (codes_in count (hand / 8 / 8) other);
}
  where
    exchanged : (a b c : ℕ) → a + (b + c) ≡ b + (a + c)
    exchanged a b c = omega arith

-- a way to take a piece so that a test passes of what is left; any other test that passes of it does as well
abbrev pub TakesRest : Hold → ℕ → ℕ → ℕ → (ℕ → Bool) → Type 0
TakesRest hold count hand code goes_on = (rest : ℕ) × (goes_on rest ≡ true) × IsRest count hand code rest
    × ((other : ℕ → Bool) → other rest ≡ true → takes hold code other hand ≡ true)

pub taken-rest : (hold : Hold) (count code hand : ℕ) (goes_on : ℕ → Bool) → takes hold code goes_on hand ≡ true → TakesRest hold (suc count) hand code goes_on
unfolding takes without_first without_second
taken-rest hold count code hand goes_on passes = elim (or_cases (hand % 8 == code && goes_on (hand / 8)) _ passes) [
  | inl first ↦
      let parts = and_parts (hand % 8 == code) (goes_on (hand / 8)) first in
      (hand / 8, parts.1, first-rest (suc count) hand code (eqb-true (hand % 8) code parts.0), λ other goes. or_left _ _ (and_from _ _ parts.0 goes))
  | inr second ↦
      let later = and_parts (allows_hold hold) (hand / 8 % 8 == code && goes_on (hand / 64 * 8 + hand % 8)) second in
      let parts = and_parts (hand / 8 % 8 == code) (goes_on (hand / 64 * 8 + hand % 8)) later.1 in
      (hand / 64 * 8 + hand % 8, parts.1, second-rest count hand code (eqb-true (hand / 8 % 8) code parts.0), λ other goes. or_right _ _ (and_from _ _ later.0 (and_from _ _ parts.0 goes)))
]

one_more : (same : Bool) (count : ℕ) → cond same (suc count) count ≡ cond same 1 0 + count
one_more same count = search rules

-- the supply of a hand has that of its rest and the piece
pub rest-supplied : (count hand rest : ℕ) (piece : Piece) → IsRest count hand (piece_code piece) rest → (other : Piece) → with_one (supply_at count rest) piece other ≤ supply_at (suc count) hand other
unfolding supply_at with_one
rest-supplied count hand rest piece is other = search (rules, one_more)

nothing-tiled : (F : Field) (supply : Supply) → IsLow F 0 → Tiling F 0 supply
unfolding kinds_placed
nothing-tiled F supply low = more_pieces F 0 (kinds_placed []) supply (λ piece. omega arith) (cleared_is_tiled F 0 [] low.within (record { none = low.none }) refl)

pub good-tiled : (game : Game) (F : Field) (rows left hand count : ℕ) → IsLow F rows → suc left ≤ count → is_good game F rows left hand ≡ true → Tiling F rows (supply_at count hand)
unfolding is_good places_in
good-tiled game F rows zero hand count low enough good =
    let none : rows ≡ 0 = eqb-true rows 0 good in
    subst (λ r. Tiling F r (supply_at count hand)) (sym none) (nothing-tiled F (supply_at count hand) (subst (λ r. IsLow F r) none low))
good-tiled game F rows (suc left) hand zero low enough good = absurd (omega arith)
good-tiled game F rows (suc left) hand (suc zero) low enough good = absurd (omega arith)
good-tiled game F rows (suc left) hand (suc (suc count)) low enough good =
    let kind = some_passes (λ piece. takes game.hold (piece_code piece)
    (λ rest. list_any (λ q. is_below rows q && is_good game (locked F q) (rows - rows_removed F q) left rest) (reached_places game F piece)) hand) all_pieces good in
    let way = taken-rest game.hold count (piece_code kind.0) hand (λ rest. list_any (λ q. is_below rows q && is_good game (locked F q) (rows - rows_removed F q) left rest) (reached_places game F kind.0)) kind.2 in
    let found = some_passes (λ q. is_below rows q && is_good game (locked F q) (rows - rows_removed F q) left way.0) (reached_places game F kind.0) way.1 in
    let q : Placement = found.0 in
    let parts = and_parts (is_below rows q) (is_good game (locked F q) (rows - rows_removed F q) left way.0) found.2 in
    let kept = Contains-from_filter (is_place (table_of game.rules) F game.drop_mode) (placements_of kind.0) q found.1 in
    let of_kind : q.piece ≡ kind.0 = (((placements_of-list kind.0).members q).0 kept.0).kind in
    let place = (place-decides (table_of game.rules) F game.drop_mode q).0 kept.1 in
    let free = place-free (table_of game.rules) F game.drop_mode q place in
    let later = good-tiled game (locked F q) (rows - rows_removed F q) left way.0 (suc count) (locked-low F rows q low parts.0 free) (omega arith) parts.1 in
    more_pieces F rows (with_one (supply_at (suc count) way.0) q.piece) (supply_at (suc (suc count)) hand)
    (subst (λ p. (other : Piece) → with_one (supply_at (suc count) way.0) p other ≤ supply_at (suc (suc count)) hand other) (sym of_kind) (rest-supplied (suc count) hand way.0 kind.0 way.2))
    (one_placement F q rows (supply_at (suc count) way.0) low.within (record { none = low.none }) free parts.0 later)
