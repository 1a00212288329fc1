-- A line placement by placement: without keys the fields do not matter, and with keys each placement is free in its field.
use Rattle.std.proofs.Common.{None, arith, false, ◌≡◌, ℕ, ◌+◌, ◌-◌, ◌<◌, ◌≤◌, true, List, [], ◌∷◌, ◌++◌, length, drop, get_or, refl, sym, ap, subst, append-nil, append_assoc, Option, rules}
use Rattle.std.proofs.lemmas.List.{drop_more, drop_all}
use Rattle.lane_board.specs.Field.{Field}
use Rattle.srs.specs.declared.placement.Placement.{Placement}
use Rattle.srs.specs.Cells.{is_inside_of, HasPivotInWell}
use Rattle.srs.specs.Kick.{Table}
use Rattle.srs.proofs.CallerLemmas.{pivot_inside}
use Rattle.well.specs.Free.{is_free}
use Rattle.well.specs.Lock.{locked, rows_removed}
use Rattle.moves.specs.declared.key.DropMode.{DropMode}
use Rattle.moves.specs.declared.key.Key.{Key}
use Rattle.lane_board.proofs.CallerLemmas.{cell_count-le}
use Rattle.problem.proofs.CallerLemmas.{runs_take_cells}
use Rattle.problem.specs.Plays.{Plays}
use Rattle.well.proofs.CallerLemmas.{free_inside}
use Rattle.moves.proofs.CallerLemmas.{place-free}
use Rattle.sequence_text.specs.Written.{keyed_form, sequence_form, without_keys}
use Rattle.problem.specs.Runs.{Runs}
use Rattle.report.specs.Played.{AreFree}
use Rattle.report.specs.Forms.{KeysOf, key_part, keyed, line_form}

-- without keys the fields do not matter
no_keys : (table : Table) (mode : DropMode) (F : Field) (s : List Placement) → keyed (key_part false table mode) F s ≡ without_keys s
unfolding keyed
no_keys table mode F [] = refl
no_keys table mode F (q ∷ s) = ap (λ l. (q, None) ∷ l) (no_keys table mode (locked F q) s)

pub plain_line : (table : Table) (mode : DropMode) (F : Field) (s : List Placement) → line_form (key_part false table mode) F s ≡ sequence_form (without_keys s) ++ 10 ∷ []
unfolding line_form
plain_line table mode F s = ap (λ items. sequence_form items ++ 10 ∷ []) (no_keys table mode F s)

-- placements from a field on, the first one after a divider, and the others after blanks
unfoldable pub divided : KeysOf → List ℕ → Field → List Placement → List ℕ
divided keys divider F [] = []
divided keys divider F (q ∷ s) = (divider ++ keyed_form (q, keys F q)) ++ divided keys (32 ∷ []) (locked F q) s

-- what is left of a line from a placement on
unfoldable pub line_from : KeysOf → List ℕ → Field → List Placement → List ℕ
line_from keys divider F s = divided keys divider F s ++ 10 ∷ []

rest_divided : (keys : KeysOf) (F : Field) (q : Placement) (s : List Placement) → sequence_form (keyed keys F (q ∷ s)) ≡ keyed_form (q, keys F q) ++ divided keys (32 ∷ []) (locked F q) s
unfolding keyed divided sequence_form
rest_divided keys F q [] = sym (append-nil (keyed_form (q, keys F q)))
rest_divided keys F q (r ∷ s) = ap (λ l. keyed_form (q, keys F q) ++ 32 ∷ l) (rest_divided keys (locked F q) r s)

all_divided : (keys : KeysOf) (F : Field) (s : List Placement) → sequence_form (keyed keys F s) ≡ divided keys [] F s
unfolding keyed divided sequence_form
all_divided keys F [] = refl
all_divided keys F (q ∷ s) = rest_divided keys F q s

pub whole_line : (keys : KeysOf) (F : Field) (s : List Placement) → line_form keys F s ≡ line_from keys [] F s
unfolding line_form line_from
whole_line keys F s = ap (λ l. l ++ 10 ∷ []) (all_divided keys F s)

-- the next placement, and what is left after it
pub one_placement : (keys : KeysOf) (divider : List ℕ) (F : Field) (s : List Placement) (i : ℕ) (d : Placement) → i < length s →
    line_from keys divider F (drop i s) ≡ (divider ++ keyed_form (get_or s i d, keys F (get_or s i d))) ++ line_from keys (32 ∷ []) (locked F (get_or s i d)) (drop (i + 1) s)
unfolding line_from divided
one_placement keys divider F s i d within = search (rules, drop_more, append_assoc, locked)

-- and at the end a newline
pub no_placement : (keys : KeysOf) (divider : List ℕ) (F : Field) (s : List Placement) (i : ℕ) → length s ≤ i → line_from keys divider F (drop i s) ≡ 10 ∷ []
unfolding line_from divided
no_placement keys divider F s i past = ap (λ l. divided keys divider F l ++ 10 ∷ []) (drop_all i s past)

-- the placements from an index on play in their field
pub record PlaysOn (table : Table) (mode : DropMode) (F : Field) (s : List Placement) (i : ℕ) : Type 0 where
  pub rows : ℕ
  pub plays : Plays table mode F rows (drop i s)

plays_first : (table : Table) (mode : DropMode) (F : Field) (s : List Placement) (i : ℕ) (d : Placement) → i < length s → (on : PlaysOn table mode F s i) → Plays table mode F on.rows (get_or s i d ∷ drop (i + 1) s)
plays_first table mode F s i d within on = subst (Plays table mode F on.rows) (drop_more s i d within) on.plays

pub plays_free : (table : Table) (mode : DropMode) (F : Field) (s : List Placement) (i : ℕ) (d : Placement) → i < length s → PlaysOn table mode F s i → is_free F (get_or s i d) ≡ true
plays_free table mode F s i d within on = place-free table F mode (get_or s i d) (plays_first table mode F s i d within on).0

pub plays_inside : (table : Table) (mode : DropMode) (F : Field) (s : List Placement) (i : ℕ) (d : Placement) → i < length s → PlaysOn table mode F s i → is_inside_of (get_or s i d) ≡ true
plays_inside table mode F s i d within on = free_inside F (get_or s i d) (plays_free table mode F s i d within on)

pub plays_pivot : (table : Table) (mode : DropMode) (F : Field) (s : List Placement) (i : ℕ) (d : Placement) → i < length s → PlaysOn table mode F s i → HasPivotInWell (get_or s i d)
plays_pivot table mode F s i d within on = pivot_inside (get_or s i d) (plays_inside table mode F s i d within on)

pub plays_next : (table : Table) (mode : DropMode) (F : Field) (s : List Placement) (i : ℕ) (d : Placement) → i < length s → PlaysOn table mode F s i → PlaysOn table mode (locked F (get_or s i d)) s (i + 1)
plays_next table mode F s i d within on = record { rows = on.rows - rows_removed F (get_or s i d); plays = (plays_first table mode F s i d within on).2 }

-- placements that play are free
pub played_free : (table : Table) (mode : DropMode) (F : Field) (rows : ℕ) (s : List Placement) → Plays table mode F rows s → AreFree F s
played_free table mode F rows [] plays = tt
played_free table mode F rows (q ∷ s) plays = (place-free table F mode q plays.0, played_free table mode (locked F q) (rows - rows_removed F q) s plays.2)

-- and so are those of a run, of which there are few
pub runs_free : (table : Table) (mode : DropMode) (F : Field) (s : List Placement) → Runs table mode F s → AreFree F s
runs_free table mode F [] runs = tt
runs_free table mode F (q ∷ s) runs = (place-free table F mode q runs.0, runs_free table mode (locked F q) s runs.2)

pub runs_few : (table : Table) (mode : DropMode) (F : Field) (s : List Placement) → Runs table mode F s → length s ≤ 38
runs_few table mode F s runs = omega (arith, runs_take_cells table mode F s runs, cell_count-le F 23)

-- the placements from an index on are free
free_from : (F : Field) (s : List Placement) (i : ℕ) (d : Placement) → i < length s → AreFree F (drop i s) → AreFree F (get_or s i d ∷ drop (i + 1) s)
free_from F s i d within free = subst (AreFree F) (drop_more s i d within) free

pub first_free : (F : Field) (s : List Placement) (i : ℕ) (d : Placement) → i < length s → AreFree F (drop i s) → is_free F (get_or s i d) ≡ true
first_free F s i d within free = (free_from F s i d within free).0

pub first_inside : (F : Field) (s : List Placement) (i : ℕ) (d : Placement) → i < length s → AreFree F (drop i s) → is_inside_of (get_or s i d) ≡ true
first_inside F s i d within free = free_inside F (get_or s i d) (first_free F s i d within free)

pub next_free : (F : Field) (s : List Placement) (i : ℕ) (d : Placement) → i < length s → AreFree F (drop i s) → AreFree (locked F (get_or s i d)) (drop (i + 1) s)
next_free F s i d within free = (free_from F s i d within free).1

-- a text of the next placement with its keys is the next piece of the line
pub next_piece : (keys : KeysOf) (divider : List ℕ) (F after : Field) (s : List Placement) (i : ℕ) (d : Placement) (piece : List ℕ) (word : Option (List Key)) → i < length s →
    piece ≡ divider ++ keyed_form (get_or s i d, word) → word ≡ keys F (get_or s i d) → after ≡ locked F (get_or s i d) →
    line_from keys divider F (drop i s) ≡ piece ++ line_from keys (32 ∷ []) after (drop (i + 1) s)
next_piece keys divider F after s i d piece word within text named left = search (rules, one_placement)
