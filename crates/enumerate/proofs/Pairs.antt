-- The floods of a whole walk are the pairs of a live prefix and a kind that may come next.
use Rattle.std.proofs.Common.{◌≡◌, ℕ, zero, suc, ◌+◌, Bool, true, false, ◌&&◌, List, [], ◌∷◌, ◌++◌, length, refl, sym, ap, subst, ◌∙◌, inl, inr, arith, append_assoc, rules}
use Rattle.std.specs.Prelude.{Contains, filter, ◌==◌, if◌then◌else◌, sum_by}
use Rattle.std.specs.List.{flat_map}
use Rattle.std.specs.Bool.{one_answer}
use Rattle.std.proofs.lemmas.Bool.{cases_Bool, cond-true, cond-false, and_from, and_left, and_right}
use Rattle.std.proofs.lemmas.List.{append-nil, map-append}
use Rattle.std.proofs.lemmas.List.Sums.{sum_by-cons}
use Rattle.std.proofs.Math.Bool.{and-true}
use Rattle.srs.specs.declared.piece.Piece.{Piece}
use Rattle.srs.specs.declared.placement.Placement.{Placement}
use Rattle.srs.specs.Piece.{all_pieces}
use Rattle.srs.specs.Placements.{placements_of}
use Rattle.srs.proofs.CallerLemmas.{Contains-here, Contains-there, filter-false, filter-true, placements_of-list}
use Rattle.moves.specs.PlaceTest.{is_place, places_in}
use Rattle.hold_queue.specs.QueueSet.{QueuesInPlay, queues_permit}
use Rattle.well.specs.LockLaws.{is_below}
use Rattle.problem.specs.Solution.{pieces_of}
use Rattle.hold_queue.proofs.CallerLemmas.{queues_permit-decides}
use Rattle.enumerate.specs.SearchState.{SearchState, after_of, can_be_tiled, may_play, places_at, is_live}
use Rattle.enumerate.specs.Events.{Tick, Flood, Found, floods, entered, tried, tried_in_turn, enter, begun}
use Rattle.enumerate.specs.Work.{can_stand, can_be_played, stays_tiled, is_live_prefix, work_from}
use Rattle.enumerate.proofs.FloodCounts.{floods-flat_map, floods-tried_in_turn}
use Rattle.enumerate.proofs.Walks.{floods-tick}
use Rattle.enumerate.proofs.PermitLaws.{line_permits-front}

-- the played pieces of a line have no part in what it permits
line_permits-played : (line : QueuesInPlay) (played pieces : List Piece) → queues_permit (record line { played = played }) pieces ≡ queues_permit line pieces
line_permits-played line played pieces = search (rules, one_answer, queues_permit-decides)

-- the state after a prefix, with so many placements to come and tilings before each placement of the prefix
pub record IsAt (left : ℕ) (root : SearchState) (prefix : List Placement) (n : SearchState) : Type 0 where
  pub stands : (s : List Placement) → can_stand root.table root.mode root.field root.rows (prefix ++ s) ≡ can_stand n.table n.mode n.field n.rows s
  pub permits : (pieces : List Piece) → queues_permit root.line (pieces_of prefix ++ pieces) ≡ queues_permit n.line (n.line.played ++ pieces)
  pub tiled : (k : ℕ) (s : List Placement) → k + length s ≡ left → stays_tiled k root (prefix ++ s) ≡ stays_tiled k n s

IsAt-next : (left : ℕ) (root : SearchState) (prefix : List Placement) (n : SearchState) → IsAt (suc left) root prefix n → can_be_tiled (suc left) n ≡ true →
    (q : Placement) → is_place n.table n.field n.mode q ≡ true → is_below n.rows q ≡ true → IsAt left root (prefix ++ q ∷ []) (after_of n q)
unfolding after_of can_stand stays_tiled
IsAt-next left root prefix n at alive q placed below = record {
  stands = λ s.
      ap (can_stand root.table root.mode root.field root.rows) (append_assoc prefix (q ∷ []) s)
      ∙ at.stands (q ∷ s)
      ∙ ap (λ b. b && can_stand n.table n.mode (after_of n q).field (after_of n q).rows s) (and_from (is_place n.table n.field n.mode q) (is_below n.rows q) placed below);
  permits = λ pieces.
      ap (λ l. queues_permit root.line (l ++ pieces)) (map-append (λ p. p.piece) prefix (q ∷ []))
      ∙ ap (queues_permit root.line) (append_assoc (pieces_of prefix) (q.piece ∷ []) pieces)
      ∙ at.permits (q.piece ∷ pieces)
      ∙ ap (queues_permit n.line) (sym (append_assoc n.line.played (q.piece ∷ []) pieces))
      ∙ sym (line_permits-played n.line (n.line.played ++ q.piece ∷ []) ((n.line.played ++ q.piece ∷ []) ++ pieces));
  tiled = λ k s all.
      let whole : k + length (q ∷ s) ≡ suc left = omega (arith, all) in
      ap (stays_tiled k root) (append_assoc prefix (q ∷ []) s) ∙ at.tiled k (q ∷ s) whole
      ∙ ap (λ b. b && stays_tiled k (after_of n q) s) (ap (λ k. can_be_tiled k n) whole ∙ alive);
}

module _ (left : ℕ) (root : SearchState) (prefix : List Placement) (n : SearchState) (at : IsAt left root prefix n) where
  -- one more placement can be played where it may be played, is a place and lies below
  played-next : (q : Placement) → can_be_played root (prefix ++ q ∷ []) ≡ (may_play n.line q.piece && (is_place n.table n.field n.mode q && is_below n.rows q))
  unfolding can_be_played can_stand may_play
  played-next q = search (rules, map-append, and-true)

work-unplayed : (left : ℕ) (root : SearchState) (prefix : List Placement) → can_be_played root prefix ≡ false → work_from left root prefix ≡ 0
unfolding work_from is_live_prefix
work-unplayed left root prefix unplayed = search (rules, cond-false, and_left)

sum_by-same : {A : Type 0} (f g : A → ℕ) (xs : List A) → ((x : A) → Contains xs x → f x ≡ g x) → sum_by f xs ≡ sum_by g xs
sum_by-same f g [] each = refl
sum_by-same f g (x ∷ xs) each =
    let rest = sum_by-same f g xs (λ y among. each y (Contains-there x xs y among)) in
    search (rules, sum_by-cons, Contains-here, Contains-there, rest)

sum_by-filtered : {A : Type 0} (test : A → Bool) (f g : A → ℕ) (xs : List A) → ((x : A) → Contains xs x → test x ≡ true → f x ≡ g x) → ((x : A) → Contains xs x → test x ≡ false → g x ≡ 0) → sum_by f (filter test xs) ≡ sum_by g xs
sum_by-filtered test f g [] kept dropped = refl
sum_by-filtered test f g (x ∷ xs) kept dropped =
    search (rules, (sum_by-filtered test f g xs (λ y among. kept y (Contains-there x xs y among)) (λ y among. dropped y (Contains-there x xs y among))), Contains-there, cases_Bool, filter-true, sum_by-cons, Contains-here, filter-false)

leaf-floods : (b : Bool) (prefix : List Placement) → floods ((if b then Found prefix else Tick) ∷ []) ≡ 0
unfolding floods
leaf-floods b prefix = search rules

-- what a place adds, and what a kind adds
place-floods : (left : ℕ) (root : SearchState) (prefix : List Placement) (n : SearchState) (at : IsAt (suc left) root prefix n) (alive : can_be_tiled (suc left) n ≡ true)
    (below : (prefix : List Placement) (n : SearchState) → IsAt left root prefix n → can_be_played root prefix ≡ true → floods (enter left prefix n) ≡ work_from left root prefix)
    (q : Placement) → may_play n.line q.piece ≡ true → is_place n.table n.field n.mode q ≡ true → floods (entered (enter left) prefix n q) ≡ work_from left root (prefix ++ q ∷ [])
unfolding entered floods
place-floods left root prefix n at alive below q played placed = elim (cases_Bool (is_below n.rows q)) [
  | inl e ↦
      ap floods (cond-true (is_below n.rows q) (enter left (prefix ++ q ∷ []) (after_of n q)) [] e)
      ∙ below (prefix ++ q ∷ []) (after_of n q) (IsAt-next left root prefix n at alive q placed e)
      (played-next (suc left) root prefix n at q ∙ and_from (may_play n.line q.piece) (is_place n.table n.field n.mode q && is_below n.rows q) played (and_from (is_place n.table n.field n.mode q) (is_below n.rows q) placed e))
  | inr e ↦
      ap floods (cond-false (is_below n.rows q) (enter left (prefix ++ q ∷ []) (after_of n q)) [] e)
      ∙ sym (work-unplayed left root (prefix ++ q ∷ []) (played-next (suc left) root prefix n at q ∙ and_right (may_play n.line q.piece) _ (and_right (is_place n.table n.field n.mode q) (is_below n.rows q) e)))
]

kind-floods : (left : ℕ) (root : SearchState) (prefix : List Placement) (n : SearchState) (at : IsAt (suc left) root prefix n) (alive : can_be_tiled (suc left) n ≡ true)
    (below : (prefix : List Placement) (n : SearchState) → IsAt left root prefix n → can_be_played root prefix ≡ true → floods (enter left prefix n) ≡ work_from left root prefix)
    (c : Piece) → floods (tried (enter left) prefix n c) ≡ (if queues_permit root.line (pieces_of prefix ++ c ∷ []) then 1 + sum_by (λ q. work_from left root (prefix ++ q ∷ [])) (placements_of c) else 0)
unfolding tried floods may_play places_in
kind-floods left root prefix n at alive below c = elim (cases_Bool (may_play n.line c)) [
  | inl e ↦
      ap floods (cond-true (may_play n.line c) (Flood ∷ flat_map (entered (enter left) prefix n) (places_at n c)) [] e)
      ∙ ap (λ k. k + 1) (floods-flat_map (entered (enter left) prefix n) (places_at n c)
      ∙ sum_by-filtered (is_place n.table n.field n.mode) (λ q. floods (entered (enter left) prefix n q)) (λ q. work_from left root (prefix ++ q ∷ [])) (placements_of c)
      (λ q among placed. place-floods left root prefix n at alive below q (subst (λ p. may_play n.line p ≡ true) (sym (((placements_of-list c).members q).0 among).kind) e) placed)
      (λ q among not_placed. work-unplayed left root (prefix ++ q ∷ []) (played-next (suc left) root prefix n at q ∙ and_right (may_play n.line q.piece) _ (and_left (is_place n.table n.field n.mode q) (is_below n.rows q) not_placed))))
      ∙ one_more (sum_by (λ q. work_from left root (prefix ++ q ∷ [])) (placements_of c))
      ∙ sym (cond-true (queues_permit root.line (pieces_of prefix ++ c ∷ [])) _ 0 (at.permits (c ∷ []) ∙ e))
  | inr e ↦
      ap floods (cond-false (may_play n.line c) (Flood ∷ flat_map (entered (enter left) prefix n) (places_at n c)) [] e)
      ∙ sym (cond-false (queues_permit root.line (pieces_of prefix ++ c ∷ [])) _ 0 (at.permits (c ∷ []) ∙ e))
]
  where
    one_more : (k : ℕ) → k + 1 ≡ 1 + k
    one_more k = omega arith

-- a prefix that can be played is live where the state after it has a tiling
live-prefix : (left : ℕ) (root : SearchState) (prefix : List Placement) (n : SearchState) → IsAt left root prefix n → can_be_played root prefix ≡ true → is_live_prefix left root prefix ≡ can_be_tiled left n
unfolding is_live_prefix stays_tiled
live-prefix left root prefix n at played = search (rules, (append-nil prefix), (at.tiled left []))

pub floods-enter : (left : ℕ) (root : SearchState) (prefix : List Placement) (n : SearchState) → IsAt left root prefix n → can_be_played root prefix ≡ true → floods (enter left prefix n) ≡ work_from left root prefix
unfolding enter work_from floods is_live
floods-enter zero root prefix n at played = leaf-floods (n.rows == 0) prefix
floods-enter (suc left) root prefix n at played = elim (cases_Bool (can_be_tiled (suc left) n)) [
  | inl alive ↦
      ap floods (cond-true (can_be_tiled (suc left) n) (Tick ∷ tried_in_turn (enter left) prefix n all_pieces) [] alive)
      ∙ floods-tried_in_turn (enter left) prefix n all_pieces
      ∙ sum_by-same (λ c. floods (tried (enter left) prefix n c)) (λ c. if queues_permit root.line (pieces_of prefix ++ c ∷ []) then 1 + sum_by (λ q. work_from left root (prefix ++ q ∷ [])) (placements_of c) else 0) all_pieces
      (λ c _. kind-floods left root prefix n at alive (floods-enter left root) c)
      ∙ sym (cond-true (is_live_prefix (suc left) root prefix) _ 0 (live-prefix (suc left) root prefix n at played ∙ alive))
  | inr dead ↦
      ap floods (cond-false (can_be_tiled (suc left) n) (Tick ∷ tried_in_turn (enter left) prefix n all_pieces) [] dead)
      ∙ sym (cond-false (is_live_prefix (suc left) root prefix) _ 0 (live-prefix (suc left) root prefix n at played ∙ dead))
]

-- at the start
root-at : (left : ℕ) (root : SearchState) → root.line.played ≡ [] → IsAt left root [] root
root-at left root none = search rules

root-dead : (root : SearchState) → root.line.played ≡ [] → can_be_played root [] ≡ false → (c : Piece) → may_play root.line c ≡ false
unfolding can_be_played can_stand may_play
root-dead root none dead c = search (rules, cases_Bool, queues_permit-decides, line_permits-front, and_from)

none_tried : (left : ℕ) (root : SearchState) (c : Piece) → may_play root.line c ≡ false → floods (tried (enter left) [] root c) ≡ 0
unfolding tried floods
none_tried left root c e = ap floods (cond-false (may_play root.line c) _ [] e)

pub floods-begun : (left : ℕ) (root : SearchState) → root.line.played ≡ [] → floods (begun left root) ≡ work_from left root []
unfolding begun enter floods is_live
floods-begun zero root none = unfold work_from in refl
floods-begun (suc left) root none =
    search (rules, (cases_Bool (can_be_played root [])), (floods-tick (is_live left root) (tried_in_turn (enter left) [] root all_pieces)), (floods-enter (suc left) root [] root (root-at (suc left) root none)), (floods-tried_in_turn (enter left) [] root all_pieces), (sum_by-same (λ c. floods (tried (enter left) [] root c)) (λ c. 0) all_pieces), (none_tried left root), (root-dead root none), (work-unplayed (suc left) root []))
