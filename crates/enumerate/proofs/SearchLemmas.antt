-- What a search holds: its first frame, and the list of what is still to come.
use Rattle.std.proofs.Common.{◌≡◌, ◌⊎◌, lt-ltb, ℕ, zero, suc, ◌+◌, ◌-◌, ◌<◌, ◌≤◌, Bool, true, false, ◌&&◌, List, [], ◌∷◌, length, get_or, set, take, refl, sym, ap, subst, ◌∙◌, arith, rules}
use Rattle.std.specs.Prelude.{Option, Some, None, nat_le, nat_lt}
use Rattle.std.proofs.lemmas.Bool.{le-leb, cond-false, and_from}
use Rattle.std.proofs.lemmas.List.{get_or-set_same, take_more_set}
use Rattle.srs.specs.declared.piece.Piece.{Piece}
use Rattle.srs.specs.declared.placement.Placement.{Placement}
use Rattle.srs.specs.Kick.{Table}
use Rattle.srs.specs.Rules.{table_of}
use Rattle.srs.proofs.CallerLemmas.{and_second}
use Rattle.well.specs.Well.{filled}
use Rattle.moves.specs.declared.key.DropMode.{DropMode}
use Rattle.hold_queue.specs.declared.set.QueueSet.{QueueSet}
use Rattle.hold_queue.specs.QueueSet.{queues_in_play}
use Rattle.problem.specs.declared.problem.Problem.{Problem}
use Rattle.enumerate.specs.declared.frame.Frame.{Frame}
use Rattle.problem.specs.Problem.{needed_of}
use Rattle.enumerate.specs.SearchState.{SearchState, is_live, line_at, root_of}
use Rattle.enumerate.specs.Events.{Event, begun, sought}
use Rattle.enumerate.specs.Frames.{has_room, stacked}
use Rattle.enumerate.specs.Setups.{state_of}
use Rattle.enumerate.specs.Rest.{events_from, whole_from}
use Rattle.enumerate.specs.Seeks.{IsFresh, SkipsTo}
use Rattle.enumerate.specs.Walks.{Finds}
use Rattle.enumerate.proofs.SeekLemmas.{fresh-events}
use Rattle.enumerate.proofs.SkipLemmas.{skips-same}

pub first-state : (problem : Problem) (queue : Option (List Piece)) (queues : QueueSet) → queues_in_play queues ≡ line_at problem queue →
    ◌≡◌ {A = SearchState} (record { table = table_of problem.rules; mode = problem.drop_mode; field = filled problem.well; rows = problem.height; line = queues_in_play queues }) (root_of problem queue)
unfolding root_of
first-state problem queue queues e = λ i. record { table = table_of problem.rules; mode = problem.drop_mode; field = filled problem.well; rows = problem.height; line = e i }

-- ---- the whole search from its first frame

live-part : (k : ℕ) (b : Bool) → (nat_lt 0 k && b) ≡ true → (k ≡ suc (k - 1)) × (b ≡ true)
live-part k b e = search (rules, and_second)

dead-part : (k : ℕ) (b : Bool) → (nat_lt 0 k && b) ≡ false → (k ≡ 0) ⊎ ((k ≡ suc (k - 1)) × (b ≡ false))
dead-part k b e = search (rules, lt-ltb)

begun-zero : (n : SearchState) → begun zero n ≡ []
unfolding begun
begun-zero n = refl

begun-dead : (left : ℕ) (n : SearchState) → is_live left n ≡ false → begun (suc left) n ≡ []
unfolding begun
begun-dead left n dead = cond-false (is_live left n) _ [] dead

begun-sought : (left : ℕ) (n : SearchState) → begun (suc left) n ≡ sought (suc left) [] n []
unfolding begun sought
begun-sought left n = refl

sought-zero : (n : SearchState) (given : List Placement) → sought zero [] n given ≡ []
unfolding sought
sought-zero n given = refl

sought-dead : (left : ℕ) (n : SearchState) (given : List Placement) → is_live left n ≡ false → sought (suc left) [] n given ≡ []
unfolding sought
sought-dead left n given dead = search (rules, cond-false)

module _ (problem : Problem) (queue : Option (List Piece)) (f : Frame) (state : state_of (table_of problem.rules) problem.drop_mode f.setup ≡ root_of problem queue) (left : f.setup.left ≡ needed_of problem - 1) where
  abbrev here : SearchState
  here = state_of (table_of problem.rules) problem.drop_mode f.setup

  pub whole-nothing : (nat_lt 0 (needed_of problem) && is_live f.setup.left here) ≡ false → (after : Option (List Placement)) → whole_from problem queue after ≡ []
  unfolding whole_from
  whole-nothing dead None =
      search (rules, (dead-part (needed_of problem) (is_live f.setup.left here) dead), (begun-zero (root_of problem queue)), (begun-dead (needed_of problem - 1) (root_of problem queue)))
  whole-nothing dead (Some given) =
      search (rules, (dead-part (needed_of problem) (is_live f.setup.left here) dead), (sought-zero (root_of problem queue) given), (sought-dead (needed_of problem - 1) (root_of problem queue) given))

  module _ (live : (nat_lt 0 (needed_of problem) && is_live f.setup.left here) ≡ true) where
    depth : needed_of problem ≡ suc f.setup.left
    depth = (live-part (needed_of problem) (is_live f.setup.left here) live).0 ∙ ap suc (sym left)

    pub whole-sought : (given : List Placement) → whole_from problem queue (Some given) ≡ sought (suc f.setup.left) [] here given
    unfolding whole_from
    whole-sought given = λ i. sought (depth i) [] (sym state i) given

    pub first-fresh : f.tried ≡ 0 → f.places ≡ None → IsFresh (table_of problem.rules) problem.drop_mode f
    first-fresh tried places = record { tried = tried; places = places; live = (live-part (needed_of problem) (is_live f.setup.left here) live).1 }

    pub whole-first : f.tried ≡ 0 → f.places ≡ None → whole_from problem queue None ≡ stacked (table_of problem.rules) problem.drop_mode [] (f ∷ [])
    unfolding whole_from stacked
    whole-first tried places =
        (λ i. begun (depth i) (sym state i))
        ∙ begun-sought f.setup.left here
        ∙ fresh-events (table_of problem.rules) problem.drop_mode [] f (first-fresh tried places)

-- ---- the first frame in the array

take-first : (frames : List Frame) (f : Frame) → 0 < length frames → take 1 (set frames 0 f) ≡ f ∷ []
take-first frames f some = take_more_set frames 0 f some

pub first-room : (frames : List Frame) (f : Frame) → 0 < length frames → f.setup.left ≤ 19 → has_room 0 (take 1 (set frames 0 f)) ≡ true
unfolding has_room
first-room frames f some few = subst (λ l. has_room 0 l ≡ true) (sym (take-first frames f some)) (and_from (nat_le (f.setup.left + 0) 19) true (le-leb (f.setup.left + 0) 19 (omega arith)) refl)

pub nothing-room : has_room 0 [] ≡ true
unfolding has_room
nothing-room = refl

stacked-nil : (table : Table) (mode : DropMode) → stacked table mode [] [] ≡ []
unfolding stacked
stacked-nil table mode = refl

pub nothing-skips : (table : Table) (mode : DropMode) (whole : List Event) (before : ℕ) → whole ≡ [] → SkipsTo whole (stacked table mode [] []) before before
nothing-skips table mode whole before e = skips-same whole (stacked table mode [] []) before (e ∙ sym (stacked-nil table mode))

pub first-skips : (table : Table) (mode : DropMode) (frames : List Frame) (f : Frame) (whole : List Event) (before : ℕ) → 0 < length frames → whole ≡ stacked table mode [] (f ∷ []) → SkipsTo whole (stacked table mode [] (take 1 (set frames 0 f))) before before
first-skips table mode frames f whole before some e = skips-same whole (stacked table mode [] (take 1 (set frames 0 f))) before (e ∙ ap (stacked table mode []) (sym (take-first frames f some)))

pub first-read : (frames : List Frame) (f d : Frame) → 0 < length frames → get_or (set frames 0 f) 0 d ≡ f
first-read frames f d some = get_or-set_same frames 0 f d some

pub sought-skips : (table : Table) (mode : DropMode) (frames : List Frame) (f : Frame) (given given' : List Placement) (whole rest : List Event) (before now : ℕ) → 0 < length frames → given' ≡ given →
    whole ≡ sought (suc f.setup.left) [] (state_of table mode f.setup) given →
    ((d : Frame) → SkipsTo (sought (suc (get_or (set frames 0 f) 0 d).setup.left) [] (state_of table mode (get_or (set frames 0 f) 0 d).setup) given') rest before now) → SkipsTo whole rest before now
sought-skips table mode frames f given given' whole rest before now some same e skips = search (rules, (first-read frames f f some))

-- by equal tables the same is passed
pub skips-by : (mode : DropMode) (frames : List Frame) (given : List Placement) (depth : ℕ) (used : List Frame) (before now : ℕ) (table other : Table) → table ≡ other →
    ((d : Frame) → SkipsTo (sought (suc (get_or frames 0 d).setup.left) [] (state_of table mode (get_or frames 0 d).setup) given) (stacked table mode [] (take depth used)) before now) →
    (d : Frame) → SkipsTo (sought (suc (get_or frames 0 d).setup.left) [] (state_of other mode (get_or frames 0 d).setup) given) (stacked other mode [] (take depth used)) before now
skips-by mode frames given depth used before now table other same skips d = search rules

-- ---- going on

pub pending-skips : (problem : Problem) (queue : Option (List Piece)) (after : Option (List Placement)) (pending : Bool) (used : List Frame) (rest : List Event) (before now : ℕ) → pending ≡ true →
    SkipsTo (whole_from problem queue after) rest before now → SkipsTo (events_from problem queue after pending used) rest before now
unfolding events_from
pending-skips problem queue after pending used rest before now e skips = search rules

pub standing-skips : (problem : Problem) (queue : Option (List Piece)) (after : Option (List Placement)) (pending : Bool) (used : List Frame) (before : ℕ) → pending ≡ false →
    SkipsTo (events_from problem queue after pending used) (stacked (table_of problem.rules) problem.drop_mode [] used) before before
unfolding events_from
standing-skips problem queue after pending used before e = search (rules, skips-same)

pub moved-skips : (table : Table) (mode : DropMode) (whole : List Event) (frames frames' : List Frame) (depth depth' before steps steps' : ℕ) → frames' ≡ frames → depth' ≡ depth → steps' ≡ steps →
    SkipsTo whole (stacked table mode [] (take depth frames)) before steps → SkipsTo whole (stacked table mode [] (take depth' frames')) before steps'
moved-skips table mode whole frames frames' depth depth' before steps steps' f d s skips = search rules

pub finds-same : (first old new : List (List Placement)) (path : List Placement) (solved : Bool) → first ≡ old → Finds old new path solved → Finds first new path solved
finds-same first old new path solved same finds = search rules

pub none-found : (old new : List (List Placement)) (path : List Placement) (depth : ℕ) → depth ≡ 0 → Finds old new path (nat_lt 0 depth) → old ≡ new
none-found old new path depth none finds = subst (λ d. Finds old new path (nat_lt 0 d)) none finds

pub one-found : (old new : List (List Placement)) (path : List Placement) (depth : ℕ) → (depth ≡ 0 → ⊥) → Finds old new path (nat_lt 0 depth) → old ≡ path ∷ new
one-found old new path depth some finds = subst (Finds old new path) (lt-ltb 0 depth (omega arith)) finds

pub none-used : (table : Table) (mode : DropMode) (frames : List Frame) (depth : ℕ) → depth ≡ 0 → stacked table mode [] (take depth frames) ≡ []
none-used table mode frames depth none = ap (λ d. stacked table mode [] (take d frames)) none ∙ stacked-nil table mode
