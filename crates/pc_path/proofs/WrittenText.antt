-- What a report writes for a solution spells it.
use Rattle.std.proofs.Common.{◌≡◌, ℕ, ◌-◌, List, [], ◌∷◌, ◌++◌, length, map, Bool, None, All, refl, ap, subst, ◌∙◌, sym}
use Rattle.std.proofs.lemmas.List.{append_cancel_right, length-map}
use Rattle.std.proofs.lemmas.List.Elements.{All-cons, All-nil}
use Rattle.srs.specs.declared.placement.Placement.{Placement}
use Rattle.srs.specs.Kick.{Table}
use Rattle.srs.specs.Rules.{table_of}
use Rattle.srs.specs.Cells.{HasPivotInWell}
use Rattle.lane_board.specs.Field.{Field}
use Rattle.well.specs.Well.{filled}
use Rattle.well.specs.Lock.{locked, rows_removed}
use Rattle.moves.specs.declared.key.DropMode.{DropMode}
use Rattle.problem.specs.declared.problem.Problem.{Problem}
use Rattle.problem.specs.Plays.{Plays}
use Rattle.problem.specs.Problem.{IsFit, needed_of}
use Rattle.problem.specs.Solution.{IsSolution}
use Rattle.problem.proofs.CallerLemmas.{long-needed}
use Rattle.well.proofs.CallerLemmas.{free_pivot_inside}
use Rattle.moves.proofs.CallerLemmas.{place-free}
use Rattle.report.specs.Forms.{KeysOf, key_part, keyed, line_form}
use Rattle.sequence_text.specs.Form.{Spells}
use Rattle.sequence_text.specs.Written.{sequence_form}
use Rattle.sequence_text.proofs.CallerLemmas.{written_is_spelled}

-- the placements of a sequence with keys
placements_of : (keys : KeysOf) (F : Field) (s : List Placement) → map (λ item. item.0) (keyed keys F s) ≡ s
unfolding keyed
placements_of keys F [] = refl
placements_of keys F (q ∷ s) = ap (λ l. q ∷ l) (placements_of keys (locked F q) s)

played_inside : (table : Table) (mode : DropMode) (keys : KeysOf) (s : List Placement) (F : Field) (rows : ℕ) → Plays table mode F rows s → All (λ item. HasPivotInWell item.0) (keyed keys F s)
unfolding keyed
played_inside table mode keys [] F rows plays = All-nil (λ item. HasPivotInWell item.0)
played_inside table mode keys (q ∷ s) F rows plays =
    All-cons (λ item. HasPivotInWell item.0) (q, keys F q) (keyed keys (locked F q) s) (free_pivot_inside F q (place-free table F mode q plays.0))
    (played_inside table mode keys s (locked F q) (rows - rows_removed F q) plays.2)

solution_spelled : (problem : Problem) (sequence : List Placement) (keys : Bool) → IsFit problem → IsSolution problem None sequence
    → Spells (needed_of problem) (sequence_form (keyed (key_part keys (table_of problem.rules) problem.drop_mode) (filled problem.well) sequence)) sequence
solution_spelled problem sequence keys fit solution =
    let part = key_part keys (table_of problem.rules) problem.drop_mode in
    let F = filled problem.well in
    let items = keyed part F sequence in
    let same = placements_of part F sequence in
    let count : length items ≡ needed_of problem = sym (length-map items (λ item. item.0)) ∙ ap length same ∙ long-needed problem fit sequence solution.plays in
    let written = written_is_spelled items (played_inside (table_of problem.rules) problem.drop_mode part sequence F problem.height solution.plays) in
    subst (λ n. Spells n (sequence_form items) sequence) count (subst (Spells (length items) (sequence_form items)) same written)

-- its line without the newline
pub line_spelled : (problem : Problem) (sequence : List Placement) (keys : Bool) (text : List ℕ) → IsFit problem → IsSolution problem None sequence
    → line_form (key_part keys (table_of problem.rules) problem.drop_mode) (filled problem.well) sequence ≡ text ++ 10 ∷ [] → Spells (needed_of problem) text sequence
unfolding line_form
line_spelled problem sequence keys text fit solution is =
    subst (λ t. Spells (needed_of problem) t sequence)
    (append_cancel_right (sequence_form (keyed (key_part keys (table_of problem.rules) problem.drop_mode) (filled problem.well) sequence)) text (10 ∷ []) is)
    (solution_spelled problem sequence keys fit solution)
