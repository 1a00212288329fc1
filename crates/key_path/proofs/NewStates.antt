-- The state to which a key leads, by whether the key is allowed, makes a move, and leads to an unseen state.
use Rattle.std.proofs.Common.{◌≡◌, Bool, true, false, Option, Some, None, List, refl, sym, ap, ◌∙◌, inl, inr, rules}
use Rattle.std.specs.Bool.{then_some}
use Rattle.std.specs.Prelude.{option_and_then}
use Rattle.std.proofs.lemmas.Bool.{cases_Bool, cond-true, cond-false}
use Rattle.lane_board.specs.Field.{Field}
use Rattle.srs.specs.declared.placement.Placement.{Placement}
use Rattle.srs.specs.Kick.{Table}
use Rattle.moves.specs.declared.key.Key.{Key}
use Rattle.moves.specs.declared.key.DropMode.{DropMode}
use Rattle.moves.specs.Keys.{allows}
use Rattle.moves.specs.Step.{step_of}
use Rattle.moves.proofs.CallerLemmas.{not_some}
use Rattle.key_path.specs.declared.marks.Mark.{Mark}
use Rattle.key_path.specs.Marks.{mark_at, is_unseen, new_state}
use Rattle.srs.proofs.CallerLemmas.{some_same}

module _ (table : Table) (F : Field) (mode : DropMode) (marks : List Mark) (s : Placement) (key : Key) where
  where_unseen : Placement → Option Placement
  where_unseen t = then_some (is_unseen (mark_at marks t)) t

  pub new_not_allowed : allows mode key ≡ false → None ≡ new_state table F mode marks s key
  unfolding new_state
  new_not_allowed never = sym (cond-false (allows mode key) _ None never)

  where_allowed : allows mode key ≡ true → new_state table F mode marks s key ≡ option_and_then where_unseen (step_of table F s key)
  unfolding new_state where_unseen
  where_allowed may = cond-true (allows mode key) _ None may

  pub new_no_move : allows mode key ≡ true → step_of table F s key ≡ None → None ≡ new_state table F mode marks s key
  new_no_move may none = sym (where_allowed may ∙ ap (option_and_then where_unseen) none)

  pub new_move : (t : Placement) → allows mode key ≡ true → step_of table F s key ≡ Some t → then_some (is_unseen (mark_at marks t)) t ≡ new_state table F mode marks s key
  unfolding where_unseen
  new_move t may moves = sym (where_allowed may ∙ ap (option_and_then where_unseen) moves)

  -- a new state is one that an allowed key leads to, and is unseen
  pub record IsNew (t : Placement) : Type 0 where
    pub may : allows mode key ≡ true
    pub moves : step_of table F s key ≡ Some t
    pub unseen : is_unseen (mark_at marks t) ≡ true

  some_from : (b : Bool) (x y : Placement) → then_some b x ≡ Some y → (b ≡ true) × (x ≡ y)
  some_from true x y e = (refl, some_same e)
  some_from false x y e = absurd (not_some e)

  pub new_is : (t : Placement) → new_state table F mode marks s key ≡ Some t → IsNew t
  unfolding where_unseen
  new_is t e = elim (cases_Bool (allows mode key)) [
    | inr never ↦ absurd (not_some (new_not_allowed never ∙ e))
    | inl may ↦ by_step may (step_of table F s key) refl (sym (where_allowed may) ∙ e)
  ]
    where
      by_step : allows mode key ≡ true → (o : Option Placement) → step_of table F s key ≡ o → option_and_then where_unseen o ≡ Some t → IsNew t
      by_step may None moves e = absurd (not_some e)
      by_step may (Some u) moves e = search (rules, some_from)

  -- where there is none, a state that an allowed key leads to was seen
  pub none_new : new_state table F mode marks s key ≡ None → (t : Placement) → allows mode key ≡ true → step_of table F s key ≡ Some t → is_unseen (mark_at marks t) ≡ false
  none_new none t may moves = search (rules, (cases_Bool (is_unseen (mark_at marks t))), not_some, (new_move t may moves))
