-- With soft drop the places are the resting states to which keys lead; so where keys lead to all, they are the places.
use Rattle.std.proofs.Common.{get_or, ◌≡◌, ◌↔◌, Option, List, ◌++◌, ap, ◌∙◌, rules}
use Rattle.std.specs.Prelude.{option_and_then}
use Rattle.std.proofs.lemmas.List.Sums.{fold-append}
use Rattle.lane_board.specs.Field.{Field}
use Rattle.srs.specs.declared.piece.Piece.{Piece}
use Rattle.srs.specs.declared.placement.Placement.{Placement}
use Rattle.srs.specs.Kick.{Table}
use Rattle.srs.proofs.CallerLemmas.{same_cells-piece}
use Rattle.moves.specs.declared.key.Key.{Key}
use Rattle.moves.specs.declared.key.Key.TheVariants.{Down}
use Rattle.moves.specs.declared.key.DropMode.TheVariants.{Soft}
use Rattle.moves.specs.Leads.{spawned, state_after}
use Rattle.moves.specs.Place.{IsPlace}
use Rattle.moves.specs.Step.{step_of}
use Rattle.moves.specs.Rest.{IsRest}
use Rattle.moves.specs.Walk.{led}
use Rattle.moves.proofs.RestTest.{leads-free}
use Rattle.moves.specs.OpenKeys.{repeated}
use Rattle.moves.specs.RestingStates.{IsResting, IsKeyed, IsRestWhere, AllRestsAreKeyed, Any}
use Rattle.moves.proofs.AboveRest.{StandsAbove, stands_above, comes_to_rest}
use Rattle.moves.proofs.SkyLemmas.{falls, soft_allows}

pub leads-append : (table : Table) (F : Field) (piece : Piece) (keys more : List Key) → state_after table F piece (keys ++ more) ≡ led (step_of table F) (state_after table F piece keys) more
unfolding state_after
leads-append table F piece keys more = fold-append (λ (reached : Option Placement) (key : Key). option_and_then (λ s. step_of table F s key) reached) (spawned F piece) keys more

-- a state with no free one below is its own rest
pub own_rest : (F : Field) (t : Placement) → IsResting F t → IsRest F t t
own_rest F t rests = search (rules, comes_to_rest)

-- where keys lead to a state they lead to its rest
rest_keyed : (table : Table) (F : Field) (s t : Placement) → StandsAbove F s t → IsKeyed table F Soft s → IsKeyed table F Soft t
rest_keyed table F s t above keyed = record {
  keys = keyed.keys ++ repeated Down above.rows;
  allowed = λ k d within. soft_allows (get_or (keyed.keys ++ repeated Down above.rows) k d);
  leads_there = search (rules, leads-append, falls);
}

pub soft_places : (table : Table) (F : Field) (q : Placement) → IsPlace table F Soft q ↔ IsRestWhere F (IsKeyed table F Soft) q
soft_places table F q = (there, back)
  where
    there : IsPlace table F Soft q → IsRestWhere F (IsKeyed table F Soft) q
    there place =
        let way = place.led_to in
        let free = leads-free table F q.piece place.keys way.state way.reached in
        let above = stands_above F way.state way.rest way.rests in
        let keyed : IsKeyed table F Soft way.state = record { keys = place.keys; allowed = way.allowed; leads_there = ap (λ (p : Piece). state_after table F p place.keys) free.kind ∙ way.reached } in
        record { canonical = place.canonical; state = way.rest; rests = above.rests; holds = rest_keyed table F way.state way.rest above keyed; same_cells = way.same_cells }

    back : IsRestWhere F (IsKeyed table F Soft) q → IsPlace table F Soft q
    back where_keyed = search (rules, same_cells-piece, own_rest)

pub early_end : (table : Table) (F : Field) (q : Placement) → AllRestsAreKeyed table F Soft q → IsPlace table F Soft q ↔ IsRestWhere F Any q
early_end table F q all = search (rules, soft_places, same_cells-piece)
