-- With hard drop the places are the resting states under the sky.
use Rattle.std.proofs.Common.{◌≡◌, ◌↔◌, ℕ, ◌+◌, ◌-◌, ◌<◌, ◌≤◌, pos, Some, sym, ap, ◌∙◌, arith}
use Rattle.std.proofs.lemmas.Int.{ints}
use Rattle.well.proofs.CallerLemmas.{free_pivot_inside}
use Rattle.lane_board.specs.Field.{Field}
use Rattle.srs.specs.declared.piece.Piece.{Piece}
use Rattle.srs.specs.declared.placement.Placement.{Placement}
use Rattle.srs.specs.Kick.{srs_table}
use Rattle.srs.proofs.CallerLemmas.{same_cells-piece, list_all_each}
use Rattle.well.specs.LockLaws.{LiesBelow}
use Rattle.moves.specs.declared.key.DropMode.TheVariants.{Hard}
use Rattle.moves.specs.Keys.{allows}
use Rattle.moves.specs.Leads.{state_after}
use Rattle.moves.specs.Place.{IsPlace}
use Rattle.moves.specs.OpenKeys.{path}
use Rattle.moves.specs.Sky.{IsUnderSky}
use Rattle.moves.specs.RestingStates.{IsRestWhere}
use Rattle.moves.proofs.OpenLemmas.{free_fits}
use Rattle.moves.proofs.SkyLemmas.{high, sky_free}
use Rattle.moves.proofs.AboveRest.{stands_above, comes_to_rest}
use Rattle.moves.proofs.HardLemmas.{path_allowed, leads_level, under_sky}
use Rattle.moves.proofs.LaneFacts.{near, rest_lane}

pub hard_places : (F : Field) (r : ℕ) (q : Placement) → LiesBelow F r → r ≤ 18 → IsPlace srs_table F Hard q ↔ IsRestWhere F (IsUnderSky F) q
hard_places F r q clear low = (there, back)
  where
    there : IsPlace srs_table F Hard q → IsRestWhere F (IsUnderSky F) q
    there place =
        let way = place.led_to in
        let level = leads_level F r clear low q.piece place.keys way.state way.allowed way.reached in
        let above = stands_above F way.state way.rest way.rests in
        record { canonical = place.canonical; state = way.rest; rests = above.rests; holds = under_sky F r clear low way.state way.rest level.height above; same_cells = way.same_cells }

    back : IsRestWhere F (IsUnderSky F) q → IsPlace srs_table F Hard q
    back found =
        let s = found.state in
        let kind = same_cells-piece s q found.same_cells in
        let by = near s in
        let small = rest_lane F r clear s found.rests in
        let fits = free_fits F s.piece s.rotation (pos s.x, pos s.y) found.rests.free in
        let pivot = free_pivot_inside F s found.rests.free in
        let within : s.x < 10 = omega (arith, pivot.in_columns) in
        let top = high F r clear low s.piece s.rotation s.x within fits in
        let height = top.height in
        let rows = top.row - s.y in
        let row : top.row ≡ s.y + rows = omega (arith, ints, by.low) in
        record {
          canonical = found.canonical;
          keys = path s.piece s.rotation s.x;
          led_to = record {
            allowed = λ k d inside. list_all_each (allows Hard) (path s.piece s.rotation s.x) k d (path_allowed s.piece s.rotation s.x within) inside;
            state = record { piece = s.piece; rotation = s.rotation; x = s.x; y = s.y + rows };
            reached = ap (λ (p : Piece). state_after srs_table F p (path s.piece s.rotation s.x)) (sym kind) ∙ top.leads_there ∙ (λ i. Some (record { piece = s.piece; rotation = s.rotation; x = s.x; y = row i }));
            rest = s;
            rests = comes_to_rest F s rows (λ j inside. sky_free F s found.holds j (omega (arith, ints, by.low))) found.rests;
            same_cells = found.same_cells;
          };
        }
