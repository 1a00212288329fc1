-- A queue is good just where the test by its pieces at hand says so.
use Rattle.std.proofs.Common.{◌≡◌, ◌↔◌, ℕ, zero, suc, ◌-◌, ◌/◌, ◌%◌, ◌≤◌, Bool, true, false, ◌&&◌, ◌==◌, inl, inr, List, [], ◌∷◌, length, take, IsTrue, refl, sym, ap, subst, arith}
use Rattle.std.specs.Prelude.{Contains}
use Rattle.std.specs.List.{list_any}
use Rattle.std.proofs.lemmas.List.{length-map}
use Rattle.std.proofs.lemmas.Bool.{and_parts, and_from, eqb-true, eq-eqb, false_from_ne_true}
use Rattle.lane_board.specs.Field.{Field}
use Rattle.srs.specs.declared.piece.Piece.{Piece}
use Rattle.srs.specs.declared.placement.Placement.{Placement}
use Rattle.srs.specs.Piece.{all_pieces, piece_code}
use Rattle.srs.specs.Placements.{IsCanonicalInside, placements_of}
use Rattle.srs.specs.Rules.{table_of}
use Rattle.srs.proofs.CallerLemmas.{placements_of-list, Contains-filter, Contains-from_filter, some_passes, any_passes}
use Rattle.well.specs.Well.{filled}
use Rattle.well.specs.Lock.{locked, rows_removed}
use Rattle.well.specs.LockLaws.{is_below}
use Rattle.moves.specs.PlaceTest.{is_place, places_in}
use Rattle.hold_queue.specs.declared.hold.Hold.{Hold}
use Rattle.hold_queue.specs.declared.hold.Hold.TheVariants.{Allowed, Avoided}
use Rattle.hold_queue.specs.AtHand.{at_hand, Take, Takes, taken_from}
use Rattle.hold_queue.proofs.CallerLemmas.{Contains-piece, permits-of_takes, takes-of_permits, takes-is_cut}
use Rattle.problem.specs.declared.problem.Problem.{Problem}
use Rattle.problem.specs.Plays.{Plays}
use Rattle.problem.specs.Problem.{IsFit, empties_of, needed_of}
use Rattle.problem.specs.Solution.{pieces_of}
use Rattle.problem.proofs.CallerLemmas.{IsLow, filled-low, locked-low, long-needed, needed-exact}
use Rattle.well.proofs.CallerLemmas.{free_inside}
use Rattle.moves.proofs.CallerLemmas.{is_place-decides as place-decides, place-free}
use Rattle.percent.specs.declared.game.Game.{Game}
use Rattle.hands.specs.Hands.{number_of, hand_of, allows_hold, takes, without_first, without_second}
use Rattle.percent.specs.GoodHands.{reached_places, is_good, is_good_after, game_of, is_good_queue}
use Rattle.percent.specs.Good.{Good}
use Rattle.std.proofs.lemmas.Bool.{or_cases}
use Rattle.hands.proofs.CallerLemmas.{takes-from, takes-to}

pub good-step : (game : Game) (F : Field) (rows left hand : ℕ)
    → is_good game F rows (suc left) hand ≡ list_any (λ piece. takes game.hold (piece_code piece) (is_good_after game F rows piece left) hand) all_pieces
unfolding is_good is_good_after
good-step game F rows left hand = refl

-- a sequence that plays, with pieces that are taken from these
abbrev Played : Game → Field → ℕ → ℕ → List Piece → Type 0
Played game F rows left hand =
    (sequence : List Placement) × (length sequence ≡ left) × Plays (table_of game.rules) game.drop_mode F rows sequence × Takes game.hold hand (pieces_of sequence)

place-listed : (game : Game) (F : Field) (q : Placement) → is_place (table_of game.rules) F game.drop_mode q ≡ true → Contains (reached_places game F q.piece) q
unfolding places_in
place-listed game F q place =
    let is = (place-decides (table_of game.rules) F game.drop_mode q).0 place in
    let listed : IsCanonicalInside q.piece q = record { kind = refl; canonical = is.canonical; inside = free_inside F q (place-free (table_of game.rules) F game.drop_mode q is) } in
    Contains-filter (is_place (table_of game.rules) F game.drop_mode) (placements_of q.piece) q (((placements_of-list q.piece).members q).1 listed) place

pub good-played : (game : Game) (F : Field) (rows : ℕ) (hand : List Piece) (s : List Placement)
    → Plays (table_of game.rules) game.drop_mode F rows s → Takes game.hold hand (pieces_of s) → is_good game F rows (length s) (number_of hand) ≡ true
unfolding is_good
good-played game F rows hand [] plays taken = eq-eqb rows 0 plays.0
good-played game F rows hand (q ∷ s) plays taken =
    let rest = good-played game (locked F q) (rows - rows_removed F q) taken.0 s plays.2 taken.2 in
    let place = (place-decides (table_of game.rules) F game.drop_mode q).1 plays.0 in
    let after : list_any (λ q. is_below rows q && is_good game (locked F q) (rows - rows_removed F q) (length s) (number_of taken.0)) (reached_places game F q.piece) ≡ true =
    any_passes (λ q. is_below rows q && is_good game (locked F q) (rows - rows_removed F q) (length s) (number_of taken.0)) (reached_places game F q.piece) q
    (place-listed game F q place) (and_from _ _ plays.1 rest) in
    any_passes (λ piece. takes game.hold (piece_code piece)
    (λ rest. list_any (λ q. is_below rows q && is_good game (locked F q) (rows - rows_removed F q) (length s) rest) (reached_places game F piece)) (number_of hand))
    all_pieces q.piece (Contains-piece q.piece)
    (takes-from game.hold hand q.piece taken.0 (λ rest. list_any (λ q. is_below rows q && is_good game (locked F q) (rows - rows_removed F q) (length s) rest) (reached_places game F q.piece)) taken.1 after)

pub played-good : (game : Game) (F : Field) (rows left : ℕ) (hand : List Piece) → IsLow F rows → is_good game F rows left (number_of hand) ≡ true → Played game F rows left hand
unfolding is_good places_in
played-good game F rows zero hand low good =
    let none : rows ≡ 0 = eqb-true rows 0 good in
    ([], refl, (none, λ x y. low.none x y (omega (arith, none))), tt)
played-good game F rows (suc left) hand low good =
    let kind = some_passes (λ piece. takes game.hold (piece_code piece)
    (λ rest. list_any (λ q. is_below rows q && is_good game (locked F q) (rows - rows_removed F q) left rest) (reached_places game F piece)) (number_of hand)) all_pieces good in
    let way = takes-to game.hold hand kind.0 (λ rest. list_any (λ q. is_below rows q && is_good game (locked F q) (rows - rows_removed F q) left rest) (reached_places game F kind.0)) kind.2 in
    let found = some_passes (λ q. is_below rows q && is_good game (locked F q) (rows - rows_removed F q) left (number_of way.0)) (reached_places game F kind.0) way.2 in
    let q : Placement = found.0 in
    let parts = and_parts (is_below rows q) (is_good game (locked F q) (rows - rows_removed F q) left (number_of way.0)) found.2 in
    let kept = Contains-from_filter (is_place (table_of game.rules) F game.drop_mode) (placements_of kind.0) q found.1 in
    let of_kind : q.piece ≡ kind.0 = (((placements_of-list kind.0).members q).0 kept.0).kind in
    let place = (place-decides (table_of game.rules) F game.drop_mode q).0 kept.1 in
    let later = played-good game (locked F q) (rows - rows_removed F q) left way.0 (locked-low F rows q low parts.0 (place-free (table_of game.rules) F game.drop_mode q place)) parts.1 in
    (q ∷ later.0, ap suc later.1, (place, parts.0, later.2), (way.0, subst (λ p. Take game.hold hand p way.0) (sym of_kind) way.1, later.3))

enough : (hold : Hold) (s : List Placement) (n : ℕ) → length s ≡ n → taken_from hold (length (pieces_of s)) ≤ taken_from hold n
enough Allowed s n long = omega (arith, length-map s (λ (q : Placement). q.piece))
enough Avoided s n long = omega (arith, length-map s (λ (q : Placement). q.piece))

pub good-decides : (problem : Problem) (queue : List Piece) → IsFit problem → IsTrue (is_good_queue problem queue) ↔ Good problem queue
unfolding is_good_queue hand_of
good-decides problem queue fit = (there, back)
  where
    there : is_good_queue problem queue ≡ true → Good problem queue
    there good =
        let low = filled-low problem.well problem.height (omega (arith, fit.field.fit.low)) fit.field.below in
        let played = played-good (game_of problem) (filled problem.well) problem.height (needed_of problem) (take (taken_from problem.hold (needed_of problem)) (at_hand problem.hold problem.held queue)) low good in
        let cut = takes-is_cut problem.hold (taken_from problem.hold (needed_of problem)) (at_hand problem.hold problem.held queue) (pieces_of played.0) (enough problem.hold played.0 (needed_of problem) played.1) in
        record {
          sequence = played.0;
          plays = played.2;
          permitted = permits-of_takes problem.hold queue problem.held (pieces_of played.0) (cut.1 played.3);
        }

    back : Good problem queue → is_good_queue problem queue ≡ true
    back good =
        let long : length good.sequence ≡ needed_of problem = long-needed problem fit good.sequence good.plays in
        let cut = takes-is_cut problem.hold (taken_from problem.hold (needed_of problem)) (at_hand problem.hold problem.held queue) (pieces_of good.sequence) (enough problem.hold good.sequence (needed_of problem) long) in
        subst (λ n. is_good (game_of problem) (filled problem.well) problem.height n (number_of (take (taken_from problem.hold (needed_of problem)) (at_hand problem.hold problem.held queue))) ≡ true) long
        (good-played (game_of problem) (filled problem.well) problem.height (take (taken_from problem.hold (needed_of problem)) (at_hand problem.hold problem.held queue)) good.sequence good.plays
        (cut.0 (takes-of_permits problem.hold queue problem.held (pieces_of good.sequence) good.permitted)))

-- ---- where the empty cells are no multiple of four

abbrev TakesSome : (ℕ → Bool) → Type 0
TakesSome goes_on = (rest : ℕ) × (goes_on rest ≡ true)

some_rest : (hold : Hold) (code hand : ℕ) (goes_on : ℕ → Bool) → takes hold code goes_on hand ≡ true → TakesSome goes_on
unfolding takes
some_rest hold code hand goes_on passes = elim (or_cases (hand % 8 == code && goes_on (without_first hand)) _ passes) [
  | inl first ↦ (without_first hand, (and_parts (hand % 8 == code) (goes_on (without_first hand)) first).1)
  | inr second ↦ (without_second hand, (and_parts (hand / 8 % 8 == code) (goes_on (without_second hand)) (and_parts (allows_hold hold) (hand / 8 % 8 == code && goes_on (without_second hand)) second).1).1)
]

abbrev PlaysSome : Game → Field → ℕ → Type 0
PlaysSome game F rows = (sequence : List Placement) × Plays (table_of game.rules) game.drop_mode F rows sequence

-- whatever the hand is, some sequence plays
good-plays : (game : Game) (F : Field) (rows left hand : ℕ) → IsLow F rows → is_good game F rows left hand ≡ true → PlaysSome game F rows
unfolding is_good places_in
good-plays game F rows zero hand low good =
    let none : rows ≡ 0 = eqb-true rows 0 good in
    ([], (none, λ x y. low.none x y (omega (arith, none))))
good-plays game F rows (suc left) hand low good =
    let kind = some_passes (λ piece. takes game.hold (piece_code piece)
    (λ rest. list_any (λ q. is_below rows q && is_good game (locked F q) (rows - rows_removed F q) left rest) (reached_places game F piece)) hand) all_pieces good in
    let way = some_rest game.hold (piece_code kind.0) hand (λ rest. list_any (λ q. is_below rows q && is_good game (locked F q) (rows - rows_removed F q) left rest) (reached_places game F kind.0)) kind.2 in
    let found = some_passes (λ q. is_below rows q && is_good game (locked F q) (rows - rows_removed F q) left way.0) (reached_places game F kind.0) way.1 in
    let q : Placement = found.0 in
    let parts = and_parts (is_below rows q) (is_good game (locked F q) (rows - rows_removed F q) left way.0) found.2 in
    let kept = Contains-from_filter (is_place (table_of game.rules) F game.drop_mode) (placements_of kind.0) q found.1 in
    let place = (place-decides (table_of game.rules) F game.drop_mode q).0 kept.1 in
    let later = good-plays game (locked F q) (rows - rows_removed F q) left way.0 (locked-low F rows q low parts.0 (place-free (table_of game.rules) F game.drop_mode q place)) parts.1 in
    (q ∷ later.0, (place, parts.0, later.1))

pub uneven-none : (problem : Problem) → IsFit problem → (empties_of problem % 4 ≡ 0 → ⊥) → (left hand : ℕ) → is_good (game_of problem) (filled problem.well) problem.height left hand ≡ false
uneven-none problem fit uneven left hand = false_from_ne_true _ (λ good.
    let low = filled-low problem.well problem.height (omega (arith, fit.field.fit.low)) fit.field.below in
    let played = good-plays (game_of problem) (filled problem.well) problem.height left hand low good in
    uneven (needed-exact problem fit played.0 played.1))
