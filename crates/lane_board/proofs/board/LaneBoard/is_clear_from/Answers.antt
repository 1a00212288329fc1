-- What lies at or above a row is what the board has beyond the rows below it.
use Rattle.std.proofs.Common.{◌≡◌, ◌↔◌, ℕ, ◌<◌, ◌≤◌, true, false, sym, ap, ◌∙◌, inl, inr, rules}
use Rattle.std.proofs.Math.Path.{fun_ext}
use Rattle.std.proofs.lemmas.Bool.{and_from, and_left, and_right, both_ways, cases_Bool, cases_lt, false_from_ne_true, le-ltb, lt-ltb, not_from_false, not_from_true}
use Rattle.lane_board.specs.Board.{field_of}
use Rattle.lane_board.specs.Field.{Field, difference, empty_field, rows_below}
use Rattle.lane_board.proofs.BoardFields.{field_of-within}
use Rattle.lane_board.proofs.board.LaneBoard.is_clear_from.Goals as goal

clear_by : (F rest : Field) (row : ℕ) → ((x y : ℕ) → F x y ≡ true → x < 10) → rest ≡ difference F (rows_below row) →
    (rest ≡ empty_field) ↔ ((x y : ℕ) → row ≤ y → F x y ≡ false)
unfolding difference empty_field rows_below
clear_by F rest row columns is_rest = (
  λ none x y high. false_from_ne_true _ (λ filled.
      both_ways _ (ap (λ (G : Field). G x y) (sym is_rest ∙ none)) (and_from _ _ filled (not_from_false _ (and_right _ _ (le-ltb y row high))))),
  λ clear. is_rest ∙ fun_ext (λ x. fun_ext (λ y. elim (cases_Bool (F x y)) [
    | inl filled ↦ search (rules, cases_lt, and_right, not_from_true, and_from, lt-ltb, and_left)
    | inr none ↦ and_left _ _ none
  ])),
)

pub returns : goal.returns
returns g c =
    let F = field_of c.args.self.now in
    let law = clear_by F (field_of c.minus.result) c.args.row (λ x y filled. (field_of-within c.args.self.now x y filled).0) (c.minus.ensures ∙ ap (difference F) c.rows_below.ensures) in
    (λ yes. law.0 (c.is_empty.ensures.0 yes), λ clear. c.is_empty.ensures.1 (law.1 clear))
