-- The orders of placements and of sequences: both are total, and equal only of equal things.
use Rattle.std.proofs.Common.{◌≡◌, ◌↔◌, ◌<◌, List, [], ◌∷◌, ◌++◌, refl, sym, ap, ◌∙◌, ℕ, ◌⊎◌, rules}
use Rattle.std.specs.Ordering.{ordering_then, nat_cmp}
use Rattle.std.specs.Cmp.{IsTotalOrder, nat_cmp_total, on_total, then_total, tied_itself, nat_cmp_is}
use Rattle.std.specs.Cmp.Lexicographic.{lists_total}
use Rattle.std.specs.FinMap.{IsAntisymmetric, nat_cmp-IsAntisymmetric, slice_cmp-IsAntisymmetric}
use Rattle.std.specs.declared.cmp.Ordering.{Ordering}
use Rattle.std.specs.declared.cmp.Ordering.TheVariants.{Less, Equal}
use Rattle.srs.proofs.RisingLemmas.{below_is_less}
use Rattle.srs.specs.declared.placement.Placement.{Placement}
use Rattle.srs.specs.Piece.{piece_code}
use Rattle.srs.specs.Rotation.{rotation_index}
use Rattle.srs.specs.Order.{placement_cmp, sequence_cmp}
use Rattle.srs.proofs.CodeLemmas.{piece_code-injective, rotation_index-injective, same_placement}
use Rattle.std.proofs.lemmas.Bool.{cases_order}

pub then_assoc : (a b c : Ordering) → ordering_then (ordering_then a b) c ≡ ordering_then a (ordering_then b c)
then_assoc a b c = search rules

then_first : (a b : Ordering) → ordering_then a b ≡ Equal → a ≡ Equal
then_first a b e = search rules

pub then_second : (a b : Ordering) → ordering_then a b ≡ Equal → b ≡ Equal
then_second a b e = search rules

pub first_less : (a b : Ordering) → a ≡ Less → ordering_then a b ≡ Less
first_less a b e = ap (λ r. ordering_then r b) e

-- a comparison of numbers decides, or else the next
pub then_less : (m n : ℕ) (rest : Ordering) → ordering_then (nat_cmp m n) rest ≡ Less → (m < n) ⊎ ((m ≡ n) × (rest ≡ Less))
then_less m n rest less = search (rules, cases_order, nat_cmp_is)

pub less_is_below : (m n : ℕ) → nat_cmp m n ≡ Less → m < n
less_is_below m n less = search (rules, then_less)

pub placement_cmp-total : IsTotalOrder placement_cmp
placement_cmp-total =
    then_total (on_total (λ (s : Placement). piece_code s.piece) nat_cmp_total)
    (then_total (on_total (λ (s : Placement). rotation_index s.rotation) nat_cmp_total)
    (then_total (on_total (λ (s : Placement). s.y) nat_cmp_total) (on_total (λ (s : Placement). s.x) nat_cmp_total)))

pub placement_cmp-antisymmetric : IsAntisymmetric placement_cmp
placement_cmp-antisymmetric s t e =
    search (rules, then_second, same_placement, piece_code-injective, nat_cmp-IsAntisymmetric, then_first, rotation_index-injective)

pub placement_cmp-equal : (s t : Placement) → (placement_cmp s t ≡ Equal) ↔ (s ≡ t)
placement_cmp-equal s t = (placement_cmp-antisymmetric s t, λ e. ap (placement_cmp s) (sym e) ∙ tied_itself placement_cmp-total s)

pub sequence_cmp-total : IsTotalOrder sequence_cmp
sequence_cmp-total = lists_total placement_cmp-total

pub sequence_cmp-antisymmetric : IsAntisymmetric sequence_cmp
sequence_cmp-antisymmetric = slice_cmp-IsAntisymmetric placement_cmp-antisymmetric

pub sequence_cmp-equal : (s t : List Placement) → (sequence_cmp s t ≡ Equal) ↔ (s ≡ t)
sequence_cmp-equal s t = (sequence_cmp-antisymmetric s t, λ e. ap (sequence_cmp s) (sym e) ∙ tied_itself sequence_cmp-total s)

-- the piece is what is compared first
pub placement_cmp-piece : (s t : Placement) → piece_code s.piece < piece_code t.piece → placement_cmp s t ≡ Less
placement_cmp-piece s t below = first_less _ _ (below_is_less (piece_code s.piece) (piece_code t.piece) below)

-- the first placements of two sequences decide where they differ
pub sequence_cmp-first : (x y : Placement) (xs ys : List Placement) → placement_cmp x y ≡ Less → sequence_cmp (x ∷ xs) (y ∷ ys) ≡ Less
sequence_cmp-first x y xs ys e = ap (λ r. ordering_then r (sequence_cmp xs ys)) e

-- what two sequences begin with alike decides nothing
pub sequence_cmp-append : (front xs ys : List Placement) → sequence_cmp (front ++ xs) (front ++ ys) ≡ sequence_cmp xs ys
sequence_cmp-append [] xs ys = refl
sequence_cmp-append (x ∷ front) xs ys = ap (λ r. ordering_then r (sequence_cmp (front ++ xs) (front ++ ys))) (tied_itself placement_cmp-total x) ∙ sequence_cmp-append front xs ys
