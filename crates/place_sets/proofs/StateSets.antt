-- Sets of states: their boards, and one board changed.
use Rattle.std.proofs.Common.{◌≡◌, ℕ, ◌+◌, ◌-◌, ◌*◌, true, false, ◌==◌, pos, sym, subst, ◌⊎◌, rules}
use Rattle.std.proofs.Math.Path.{fun_ext}
use Rattle.std.proofs.lemmas.Bool.{cond-true, cond-false, cases_Bool, eqb-true, false≢true}
use Rattle.lane_board.specs.Field.{Field, has_cell}
use Rattle.lane_board.specs.CellCount.{cell_count}
use Rattle.lane_board.proofs.CallerLemmas.{field_of-within}
use Rattle.srs.specs.declared.piece.Piece.{Piece}
use Rattle.srs.specs.declared.rotation.Rotation.{Rotation}
use Rattle.srs.specs.declared.rotation.Rotation.TheVariants.{Spawn, Right, Reverse, Left}
use Rattle.srs.specs.declared.placement.Placement.{Placement}
use Rattle.srs.specs.Cells.{Cell}
use Rattle.srs.specs.Rotation.{rotation_index}
use Rattle.srs.proofs.CallerLemmas.{rotation_index-injective}
use Rattle.place_sets.specs.declared.pivots.Pivots.{Pivots}
use Rattle.place_sets.specs.States.{States, has_state, has_pivot, states_with, states_of, Includes}
use Rattle.place_sets.proofs.FieldLemmas.{LiesWithin, IsWithin}

abbrev pub state_of : Piece → Rotation → ℕ → ℕ → Placement
state_of piece rotation x y = record { piece = piece; rotation = rotation; x = x; y = y }

-- sets with the same pivots in each rotation are the same
pub same_states : (S T : States) → S Spawn ≡ T Spawn → S Right ≡ T Right → S Reverse ≡ T Reverse → S Left ≡ T Left → S ≡ T
same_states S T a b c d = search (rules, fun_ext)

pub with_here : (S : States) (r : Rotation) (F : Field) → states_with S r F r ≡ F
unfolding states_with
with_here S r F = search rules

pub with_other : (S : States) (r s : Rotation) (F : Field) → (rotation_index s == rotation_index r) ≡ false → states_with S r F s ≡ S s
unfolding states_with
with_other S r s F other = cond-false _ F (S s) other

pub states_within : {N : ℕ} (pivots : Pivots N) (r : Rotation) → LiesWithin (states_of pivots r) N
unfolding states_of
states_within pivots Spawn = record { inside = field_of-within pivots.spawn }
states_within pivots Right = record { inside = field_of-within pivots.right }
states_within pivots Reverse = record { inside = field_of-within pivots.reverse }
states_within pivots Left = record { inside = field_of-within pivots.left }

-- a pivot of the set is a cell with numbers
pub record PivotAt (F : Field) (pivot : Cell) : Type 0 where
  pub x : ℕ
  pub y : ℕ
  pub is : pivot ≡ (pos x, pos y)
  pub filled : F x y ≡ true

pub pivot_at : (S : States) (r : Rotation) (pivot : Cell) → has_pivot S r pivot ≡ true → PivotAt (S r) pivot
unfolding has_pivot has_cell
pivot_at S r pivot has = search (rules, false≢true)

pub has_pivot-at : (S : States) (r : Rotation) (pivot : Cell) (x y : ℕ) → pivot ≡ (pos x, pos y) → S r x y ≡ true → has_pivot S r pivot ≡ true
unfolding has_pivot has_cell
has_pivot-at S r pivot x y e filled = subst (λ c. has_pivot S r c ≡ true) (sym e) filled

-- the set with more pivots in one rotation includes the set before
pub includes_with : (S : States) (r : Rotation) (F : Field) → IsWithin (S r) F → Includes (states_with S r F) S
unfolding states_with has_state
includes_with S r F within = search (rules, cases_Bool, rotation_index-injective, eqb-true, cond-true, cond-false)

pub includes_trans : (S T U : States) → Includes T S → Includes U T → Includes U S
includes_trans S T U one two = record { has = λ s held. two.has s (one.has s held) }

-- what holds of a set with one rotation changed holds there, or in the set before
pub record ChangedIn (S : States) (r : Rotation) (F : Field) (s : Placement) : Type 0 where
  pub here : s.rotation ≡ r
  pub filled : F s.x s.y ≡ true

pub with_cases : (S : States) (r : Rotation) (F : Field) (s : Placement) → has_state (states_with S r F) s ≡ true → ChangedIn S r F s ⊎ (has_state S s ≡ true)
unfolding states_with has_state
with_cases S r F s held = search (rules, cases_Bool, rotation_index-injective, eqb-true, cond-true, cond-false)

pub with_at : (T S : States) (r q : Rotation) (F : Field) → r ≡ q → T ≡ states_with S q F → T ≡ states_with S r F
with_at T S r q F is e = subst (λ q. T ≡ states_with S q F) (sym is) e

-- how many cells of N rows are missing in the four fields
abbrev pub missing : ℕ → States → ℕ
missing N S = (10 * N - cell_count (S Spawn) N) + ((10 * N - cell_count (S Right) N) + ((10 * N - cell_count (S Reverse) N) + (10 * N - cell_count (S Left) N)))
