-- What is reached from a start set, and that a set which each key leads back into has all of it.
use Rattle.std.proofs.Common.{◌≡◌, ℕ, suc, true, Option, Some, List, [], ◌∷◌, ◌++◌, refl, sym, ap, subst, ◌∙◌, arith, rules}
use Rattle.std.specs.Prelude.{IsTrue}
use Rattle.std.specs.List.{All}
use Rattle.std.proofs.lemmas.Bool.{cases_Bool, cond-true, cond-false}
use Rattle.std.proofs.lemmas.List.Sums.{fold-append}
use Rattle.std.proofs.lemmas.List.Elements.{All-append}
use Rattle.lane_board.specs.Field.{Field}
use Rattle.srs.specs.declared.piece.Piece.{Piece}
use Rattle.srs.specs.declared.rotation.Rotation.{Rotation}
use Rattle.srs.specs.declared.placement.Placement.{Placement}
use Rattle.srs.specs.Cells.{Cell}
use Rattle.srs.specs.Kick.{Table}
use Rattle.moves.specs.declared.key.Key.{Key}
use Rattle.moves.specs.declared.key.Key.TheVariants.{Left, Right, Down, Clockwise, Anti}
use Rattle.moves.specs.Keys.{allows}
use Rattle.moves.specs.Step.{state_at}
use Rattle.moves.specs.Walk.{led}
use Rattle.moves.proofs.CallerLemmas.{not_some, led_none}
use Rattle.place_sets.specs.States.{States, has_state, has_pivot, states_with}
use Rattle.whole_flood.specs.Flood.{Ground, IsReached, AreReached, IsLeftWithin, first_in, shifted_in, turned_in, step_in}
use Rattle.place_sets.proofs.CallerLemmas.{state_of, ChangedIn, with_cases, pivot_at, PivotAt}
use Rattle.srs.proofs.CallerLemmas.{some_same}

-- one more key
pub one_more : (ground : Ground) (start : States) (s : Placement) (key : Key) (t : Placement) → IsReached ground start s → IsTrue (allows ground.mode key) → step_in ground.table ground.free s key ≡ Some t → IsReached ground start t
one_more ground start s key t way allowed step = record {
  from = way.from;
  kind = way.kind;
  starts = way.starts;
  keys = way.keys ++ key ∷ [];
  allowed = All-append (λ key. IsTrue (allows ground.mode key)) way.keys (key ∷ []) way.allowed one;
  leads = search (rules, fold-append);
}
  where
    one : All (λ key. IsTrue (allows ground.mode key)) (key ∷ [])
    one h0 d within = search rules

-- the start itself
pub none_more : (ground : Ground) (start : States) (s : Placement) → s.piece ≡ ground.piece → has_state start s ≡ true → IsReached ground start s
none_more ground start s kind starts = record { from = s; kind = kind; starts = starts; keys = []; allowed = λ k d within. absurd (omega arith); leads = refl }

-- all pivots of one rotation are reached
pub record FieldReached (ground : Ground) (start : States) (rotation : Rotation) (F : Field) : Type 0 where
  pub reached : (x y : ℕ) → F x y ≡ true → IsReached ground start (state_of ground.piece rotation x y)

pub field_of_reached : (ground : Ground) (start S : States) (rotation : Rotation) → AreReached ground start S → FieldReached ground start rotation (S rotation)
unfolding has_state
field_of_reached ground start S rotation all = record { reached = λ x y filled. all.reached (state_of ground.piece rotation x y) refl filled }

same_state : (s : Placement) (piece : Piece) (rotation : Rotation) → s.piece ≡ piece → s.rotation ≡ rotation → state_of piece rotation s.x s.y ≡ s
same_state s piece rotation p r = λ i. record { piece = sym p i; rotation = sym r i; x = s.x; y = s.y }

-- a set stays reached where the new pivots of one rotation are reached
pub with_reached : (ground : Ground) (start S : States) (rotation : Rotation) (F : Field) → AreReached ground start S → FieldReached ground start rotation F → AreReached ground start (states_with S rotation F)
with_reached ground start S rotation F all new = search (rules, with_cases, ChangedIn, same_state)

-- where the pivots that a key tries lead to
pub record LandsAt (free : States) (piece : Piece) (rotation : Rotation) (t : Placement) : Type 0 where
  pub kind : t.piece ≡ piece
  pub turn : t.rotation ≡ rotation
  pub is_free : free rotation t.x t.y ≡ true

state_at-lands : (free : States) (piece : Piece) (rotation : Rotation) (pivot : Cell) (t : Placement) → PivotAt (free rotation) pivot → state_at piece rotation pivot ≡ Some t → LandsAt free piece rotation t
state_at-lands free piece rotation pivot t at e = search (rules, some_same)

pub first_in-lands : (free : States) (piece : Piece) (rotation : Rotation) (pivots : List Cell) (t : Placement) → first_in free piece rotation pivots ≡ Some t → LandsAt free piece rotation t
unfolding first_in
first_in-lands free piece rotation [] t e = absurd (not_some e)
first_in-lands free piece rotation (pivot ∷ pivots) t e =
    search (rules, (cases_Bool (has_pivot free rotation pivot)), (state_at-lands free piece rotation pivot t), (pivot_at free rotation pivot), cond-true, (first_in-lands free piece rotation pivots t), cond-false)

pub step_in-kind : (table : Table) (free : States) (s : Placement) (key : Key) (t : Placement) → step_in table free s key ≡ Some t → t.piece ≡ s.piece
unfolding shifted_in turned_in
step_in-kind table free s Left t e = (first_in-lands free s.piece _ _ t e).kind
step_in-kind table free s Right t e = (first_in-lands free s.piece _ _ t e).kind
step_in-kind table free s Down t e = (first_in-lands free s.piece _ _ t e).kind
step_in-kind table free s Clockwise t e = (first_in-lands free s.piece _ _ t e).kind
step_in-kind table free s Anti t e = (first_in-lands free s.piece _ _ t e).kind

-- each state of the set leads into the set
pub record IsClosed (ground : Ground) (S : States) : Type 0 where
  pub closed : (s : Placement) → s.piece ≡ ground.piece → has_state S s ≡ true → IsLeftWithin ground S s

-- keys lead from a closed set nowhere else
pub stays_in : (ground : Ground) (S : States) → IsClosed ground S → (keys : List Key) (s t : Placement) → s.piece ≡ ground.piece → has_state S s ≡ true → All (λ key. IsTrue (allows ground.mode key)) keys → led (step_in ground.table ground.free) (Some s) keys ≡ Some t → has_state S t ≡ true
stays_in ground S is [] s t kind held allowed e = subst (λ t. has_state S t ≡ true) (some_same e) held
stays_in ground S is (key ∷ keys) s t kind held allowed e = next_in (step_in ground.table ground.free s key) refl
    (λ u f. stays_in ground S is keys u t (step_in-kind ground.table ground.free s key u f ∙ kind) ((is.closed s kind held).covered key u (allowed 0 key (omega arith)) f)
    (λ k d within. allowed (suc k) d (omega arith)) (ap (λ (o : Option Placement). led (step_in ground.table ground.free) o keys) (sym f) ∙ e))
  where
    next_in : (next : Option Placement) → step_in ground.table ground.free s key ≡ next → ((u : Placement) → step_in ground.table ground.free s key ≡ Some u → has_state S t ≡ true) → has_state S t ≡ true
    next_in next f later = search (rules, not_some, led_none)

-- so a closed set with the start states has all that is reached
pub closed_has : (ground : Ground) (start S : States) → IsClosed ground S → ((s : Placement) → has_state start s ≡ true → has_state S s ≡ true) → (s : Placement) → IsReached ground start s → has_state S s ≡ true
closed_has ground start S is has s way = stays_in ground S is way.keys way.from s way.kind (has way.from way.starts) way.allowed way.leads
