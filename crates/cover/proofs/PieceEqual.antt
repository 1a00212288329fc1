-- Equal pieces are the same.
use Rattle.std.proofs.Common.{◌≡◌, true, subst, rules}
use Rattle.srs.specs.declared.piece.Piece.{Piece}
use Rattle.srs.specs.contracts.piece.PiecePartialEq.TheImpl.{eq-value}

pub equal-same : (x y : Piece) → eq-value.it x y ≡ true → x ≡ y
equal-same x y equal = search rules

pub equal-itself : (x : Piece) → eq-value.it x x ≡ true
equal-itself x = search rules

pub equal-decides : (x y : Piece) → (eq-value.it x y ≡ true → x ≡ y) × (x ≡ y → eq-value.it x y ≡ true)
equal-decides x y = (equal-same x y, λ same. subst (λ z. eq-value.it x z ≡ true) same (equal-itself x))
