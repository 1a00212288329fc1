-- A list of one.
use Rattle.std.proofs.Common.{◌≡◌, List, [], ◌∷◌, length, ap, arith, Some}
use Rattle.std.specs.Prelude.{slice_get}
use Rattle.std.proofs.lemmas.Option.{same_Some}
use Rattle.srs.specs.declared.piece.Piece.{Piece}

pub only_one : (xs : List (List Piece)) (x : List Piece) → length xs ≡ 1 → slice_get xs 0 ≡ Some x → xs ≡ x ∷ []
only_one [] x one first = absurd (omega (arith, one))
only_one (y ∷ []) x one first = ap (λ z. z ∷ []) (same_Some y x first)
only_one (y ∷ z ∷ ys) x one first = absurd (omega (arith, one))
