-- Which placements resting states are folded into.
use Rattle.std.proofs.Common.{◌≡◌, ℕ, ◌<◌, true, pos, inl, inr, ◌⊎◌, rules}
use Rattle.std.proofs.lemmas.Bool.{or_cases, or_left, or_right, false≢true}
use Rattle.lane_board.specs.Field.{empty_field, union}
use Rattle.srs.specs.declared.piece.Piece.{Piece}
use Rattle.srs.specs.declared.rotation.Rotation.{Rotation}
use Rattle.srs.specs.declared.rotation.Rotation.TheVariants.{Spawn, Right, Reverse, Left}
use Rattle.srs.specs.declared.placement.Placement.{Placement}
use Rattle.srs.specs.Cells.{moved, pivot_of}
use Rattle.srs.specs.Canonical.{canonical_rotation, canonical_move}
use Rattle.place_sets.specs.States.{States, has_state, no_states}
use Rattle.whole_flood.specs.Folded.{folded_with, folded}
use Rattle.place_sets.proofs.CallerLemmas.{moved_from, moved_to, with_here, with_cases, includes_with}

-- a resting state that is folded into the placement
pub record FoldsTo (piece : Piece) (resting : States) (r : Rotation) (q : Placement) : Type 0 where
  pub x : ℕ
  pub y : ℕ
  pub rests : resting r x y ≡ true
  pub turn : q.rotation ≡ canonical_rotation piece r
  pub pivot : moved (pos x, pos y) (canonical_move piece r) ≡ pivot_of q

module _ (piece : Piece) (N : ℕ) (resting : States) where
  folded-cases : (r : Rotation) (S : States) (q : Placement) → has_state (folded_with piece N resting r S) q ≡ true → (has_state S q ≡ true) ⊎ FoldsTo piece resting r q
  unfolding folded_with union has_state
  folded-cases r S q held = search (rules, with_cases, or_cases, moved_from)

  folded-keeps : (r : Rotation) (S : States) (q : Placement) → has_state S q ≡ true → has_state (folded_with piece N resting r S) q ≡ true
  unfolding folded_with union
  folded-keeps r S q held = (includes_with S (canonical_rotation piece r) _ (record { has = λ x y filled. or_left _ _ filled })).has q held

  folded-adds : (r : Rotation) (S : States) (q : Placement) → q.x < 10 → q.y < N → FoldsTo piece resting r q → has_state (folded_with piece N resting r S) q ≡ true
  unfolding folded_with union has_state
  folded-adds r S q column row way =
      search (rules, (with_here S), or_right, (moved_to (resting r) N (canonical_move piece r) way.x way.y q.x q.y way.rests way.pivot column row))

  nothing : (q : Placement) → has_state no_states q ≡ true → ⊥
  unfolding has_state empty_field
  nothing q held = false≢true held

  abbrev one : States
  one = folded_with piece N resting Spawn no_states

  abbrev two : States
  two = folded_with piece N resting Right one

  abbrev three : States
  three = folded_with piece N resting Reverse two

  pub folded-from : (q : Placement) → has_state (folded piece N resting) q ≡ true → (r : Rotation) × FoldsTo piece resting r q
  unfolding folded empty_field
  folded-from q held = elim (folded-cases Left three q held) [
    | inr here ↦ (Left, here)
    | inl held ↦ elim (folded-cases Reverse two q held) [
      | inr here ↦ (Reverse, here)
      | inl held ↦ elim (folded-cases Right one q held) [
        | inr here ↦ (Right, here)
        | inl held ↦ elim (folded-cases Spawn no_states q held) [
          | inr here ↦ (Spawn, here)
          | inl none ↦ absurd (nothing q none)
        ]
      ]
    ]
  ]

  pub folded-has : (r : Rotation) (q : Placement) → q.x < 10 → q.y < N → FoldsTo piece resting r q → has_state (folded piece N resting) q ≡ true
  unfolding folded
  folded-has Spawn q column row way = folded-keeps Left three q (folded-keeps Reverse two q (folded-keeps Right one q (folded-adds Spawn no_states q column row way)))
  folded-has Right q column row way = folded-keeps Left three q (folded-keeps Reverse two q (folded-adds Right one q column row way))
  folded-has Reverse q column row way = folded-keeps Left three q (folded-adds Reverse two q column row way)
  folded-has Left q column row way = folded-adds Left three q column row way
