-- A field of few rows lies whole on a board of few lanes.
use Rattle.std.proofs.Common.{◌≡◌, ◌↔◌, ℕ, ◌+◌, ◌<◌, ◌≤◌, true, sym, subst, ◌∙◌, arith, rules}
use Rattle.std.proofs.lemmas.Bool.{and_parts, and_from, cases_lt, both_ways}
use Rattle.lane_board.specs.Field.{Field, intersection, rows_below}
use Rattle.lane_board.proofs.CallerLemmas.{same_from_both}
use Rattle.srs.specs.declared.piece.Piece.{Piece}
use Rattle.srs.specs.declared.placement.Placement.{Placement}
use Rattle.srs.specs.Kick.{srs_table}
use Rattle.well.specs.LockLaws.{LiesBelow}
use Rattle.moves.specs.declared.key.DropMode.{DropMode}
use Rattle.moves.specs.declared.key.DropMode.TheVariants.{Soft, Hard}
use Rattle.moves.specs.Place.{IsPlace}
use Rattle.moves.specs.RestingStates.{IsRestWhere}
use Rattle.moves.proofs.CallerLemmas.{hard_places, rest_lane, soft_places}
use Rattle.low_flood.proofs.ClassLemmas.{rests_same}
use Rattle.low_flood.specs.LanePlaces.{IsCut, hard_board}
use Rattle.place_sets.specs.States.{HasExactly, IsUnder, States, has_state}
use Rattle.place_sets.proofs.CallerLemmas.{LiesWithin, same_fields}
use Rattle.low_flood.proofs.LaneMaps.{in_rows}
use Rattle.low_flood.proofs.LanePlaceLemmas.{cut_exact, hard_held, hard_within}

pub low_field : (F : Field) (r N : ℕ) → LiesBelow F r → r ≤ N → LiesWithin F 24 → intersection F (rows_below N) ≡ F
unfolding intersection
low_field F r N clear few lies =
    search (rules, same_fields, same_from_both, and_parts, and_from, in_rows, cases_lt, both_ways)

pub low_within : (F : Field) (r N : ℕ) → LiesBelow F r → r ≤ N → LiesWithin F 24 → LiesWithin F N
low_within F r N clear few lies = search (rules, cases_lt, both_ways)

pub hard_by : (r N M : ℕ) (F B : Field) (piece : Piece) (S : States) → LiesBelow F r → r + 2 ≤ N → N ≤ 16 → LiesWithin F 24 → B ≡ intersection F (rows_below N) → IsCut M (hard_board piece N B) S → HasExactly (IsUnder M (IsPlace srs_table F Hard)) piece S
unfolding has_state
hard_by r N M F B piece S clear over few lies is_board cut = search (rules, cut_exact, hard_within, each)
  where
    same : B ≡ F
    same = is_board ∙ low_field F r N clear (omega arith) lies

    each : (q : Placement) → q.piece ≡ piece → (has_state (hard_board piece N B) q ≡ true) ↔ IsPlace srs_table F Hard q
    each q kind = search (rules, hard_held, low_within, same)

-- on the lanes it is the same field
pub lanes_clear : (r top N : ℕ) (F B : Field) → LiesBelow F r → r ≤ top → r ≤ N → LiesWithin F 24 → B ≡ intersection F (rows_below N) → LiesBelow B top
lanes_clear r top N F B clear low few lies is_board =
    subst (λ (B : Field). LiesBelow B top) (sym (is_board ∙ low_field F r N clear few lies)) (record { none = λ x y high. clear.none x y (omega arith) })

pub soft_places_by : (r N M : ℕ) (F B : Field) (piece : Piece) (S : States) → LiesBelow F r → r ≤ N → LiesWithin F 24 → B ≡ intersection F (rows_below N) → HasExactly (IsUnder M (IsPlace srs_table B Soft)) piece S → HasExactly (IsUnder M (IsPlace srs_table F Soft)) piece S
soft_places_by r N M F B piece S clear few lies is_board are = subst (λ (F : Field). HasExactly (IsUnder M (IsPlace srs_table F Soft)) piece S) (is_board ∙ low_field F r N clear few lies) are

-- a placement rests low in a low field
rest_low : (F : Field) (P : Placement → Type 0) (q : Placement) → LiesBelow F 8 → IsRestWhere F P q → q.y < 24
rest_low F P q clear found =
    let low = rest_lane F 8 clear q (rests_same F found.state q found.same_cells found.rests) in
    search rules

pub place_low : (F : Field) (mode : DropMode) (q : Placement) → LiesBelow F 8 → IsPlace srs_table F mode q → q.y < 24
place_low F Soft q clear place = rest_low F _ q clear ((soft_places srs_table F q).0 place)
place_low F Hard q clear place = rest_low F _ q clear ((hard_places F 8 q clear (omega arith)).0 place)

-- so all places have the pivot below row 24
pub places_under : (F : Field) (mode : DropMode) (piece : Piece) (S : States) → LiesBelow F 8 → HasExactly (IsUnder 24 (IsPlace srs_table F mode)) piece S → HasExactly (IsPlace srs_table F mode) piece S
places_under F mode piece S clear are = search (rules, place_low)
