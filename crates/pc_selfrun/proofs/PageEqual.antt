-- Equal pages are the same.
use Rattle.std.proofs.Common.{◌≡◌, ℕ, Bool, true, List, [], ◌∷◌, Option, refl, rules}
use Rattle.std.specs.Cmp.Lexicographic.{pointwise}
use Rattle.std.specs.Option.{option_eq}
use Rattle.std.specs.Str.{bytes_eq}
use Rattle.std.specs.Cmp.{booleans_Decides}
use Rattle.std.proofs.lemmas.Bool.{and_parts}
use Rattle.std.proofs.lemmas.Slice.Eq.{bytes_eq-Decides}
use Rattle.fumen_pages.specs.declared.page.Page.{Page}
use Rattle.fumen_pages.specs.contracts.page.PagePartialEq.TheImpl.{eq-value}
use Rattle.srs.specs.contracts.piece.Piece as piece_type
use Rattle.srs.specs.contracts.piece.PiecePartialEq.TheImpl as piece
use Rattle.srs.specs.contracts.rotation.Rotation as rotation_type
use Rattle.srs.specs.contracts.rotation.RotationPartialEq.TheImpl as rotation
use Rattle.srs.specs.declared.placement.Placement.{Placement}
use Rattle.srs.specs.contracts.placement.PlacementPartialEq.TheImpl as placement

placement-same : (x y : Placement) → placement.eq-value.it x y ≡ true → x ≡ y
placement-same x y equal = search rules

option-same : {A : Type 0} (E : A → A → Bool) → ((x y : A) → E x y ≡ true → x ≡ y) → (x y : Option A) → option_eq E x y ≡ true → x ≡ y
option-same E same x y equal = search rules

-- the parts of a page that are compared, in this order
pub page-same : (x y : Page) → eq-value.it x y ≡ true → x ≡ y
page-same x y equal =
    let one = and_parts (bytes_eq x.cells y.cells) _ equal in
    let two = and_parts (option_eq placement.eq-value.it x.operation y.operation) _ one.1 in
    let three = and_parts _ _ two.1 in
    let four = and_parts _ _ three.1 in
    let five = and_parts _ _ four.1 in
    let six = and_parts _ _ five.1 in
    made ((bytes_eq-Decides x.cells y.cells).0 one.0) (option-same placement.eq-value.it placement-same x.operation y.operation two.0)
    ((booleans_Decides x.rise y.rise).0 three.0) ((booleans_Decides x.mirror y.mirror).0 four.0) ((booleans_Decides x.colour y.colour).0 five.0)
    ((booleans_Decides x.lock y.lock).0 six.0) (option-same bytes_eq (λ (a b : List ℕ). (bytes_eq-Decides a b).0) x.comment y.comment six.1)
  where
    made : x.cells ≡ y.cells → x.operation ≡ y.operation → x.rise ≡ y.rise → x.mirror ≡ y.mirror → x.colour ≡ y.colour → x.lock ≡ y.lock → x.comment ≡ y.comment → x ≡ y
    made a b c d e f g = λ i. record { cells = a i; operation = b i; rise = c i; mirror = d i; colour = e i; lock = f i; comment = g i }

pub pages-same : (xs ys : List Page) → pointwise eq-value.it xs ys ≡ true → xs ≡ ys
pages-same [] [] equal = refl
pages-same [] (y ∷ ys) equal = cc
pages-same (x ∷ xs) [] equal = cc
pages-same (x ∷ xs) (y ∷ ys) equal =
    let both = and_parts (eq-value.it x y) (pointwise eq-value.it xs ys) equal in
    λ i. page-same x y both.0 i ∷ pages-same xs ys both.1 i
