-- Keys are the same exactly where their questions are, and what a question has no tiling means for its field.
use Rattle.std.proofs.Common.{◌≡◌, ℕ, Bool, true, ◌&&◌, ◌==◌, eqb, Decides, List, ap}
use Rattle.std.specs.Cmp.{unsigned_Decides}
use Rattle.std.specs.Cmp.Lexicographic.{pointwise, pointwise_decides}
use Rattle.std.proofs.lemmas.Bool.{and_parts, and_from}
use Rattle.lane_board.specs.Field.{Field}
use Rattle.well.specs.CellBits.{cells_in_bits}
use Rattle.well.proofs.CallerLemmas.{same_from_cells}
use Rattle.prune.specs.Tiling.{Tiling, supply_in}
use Rattle.prune.proofs.CallerLemmas.{tiling-intersection}
use Rattle.dead_memo.specs.Question.{Question, question, HasNoTiling}
use Rattle.dead_memo.specs.Keys.{question_of}
use Rattle.dead_memo.specs.declared.key.Key.{Key}

-- the derived test of equality
abbrev pub same_key : Key → Key → Bool
same_key a b = a.cells == b.cells && (a.rows_left == b.rows_left && pointwise eqb a.supply b.supply)

pub same_key-decides : (a b : Key) → Decides (same_key a b) (question_of a ≡ question_of b)
unfolding question_of
same_key-decides a b = (there, back)
  where
    there : same_key a b ≡ true → question_of a ≡ question_of b
    there same =
        let parts = and_parts (a.cells == b.cells) (a.rows_left == b.rows_left && pointwise eqb a.supply b.supply) same in
        let others = and_parts (a.rows_left == b.rows_left) (pointwise eqb a.supply b.supply) parts.1 in
        let cells = ap cells_in_bits ((unsigned_Decides a.cells b.cells).0 parts.0) in
        let rows = (unsigned_Decides a.rows_left b.rows_left).0 others.0 in
        let supply = (pointwise_decides unsigned_Decides a.supply b.supply).0 others.1 in
        λ i. record { field = cells i; rows = rows i; supply = supply i }

    back : question_of a ≡ question_of b → same_key a b ≡ true
    back same =
        and_from _ _ ((unsigned_Decides a.cells b.cells).1 (same_from_cells a.cells b.cells (ap (λ (q : Question). q.field) same)))
        (and_from _ _ ((unsigned_Decides a.rows_left b.rows_left).1 (ap (λ (q : Question). q.rows) same)) ((pointwise_decides unsigned_Decides a.supply b.supply).1 (ap (λ (q : Question). q.supply) same)))

-- a question stands for its field: only the cells below the rows count
pub question_dead : (F : Field) (rows : ℕ) (supply : List ℕ) → (Tiling F rows (supply_in supply) → ⊥) → HasNoTiling (question F rows supply)
unfolding question
question_dead F rows supply none t = none ((tiling-intersection F rows (supply_in supply)).1 t)

pub dead_question : (F : Field) (rows : ℕ) (supply : List ℕ) → HasNoTiling (question F rows supply) → Tiling F rows (supply_in supply) → ⊥
unfolding question
dead_question F rows supply none t = none ((tiling-intersection F rows (supply_in supply)).0 t)
