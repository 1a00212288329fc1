-- The list of the canonical placements of a piece inside the well: it rises, and has each of them.
use Rattle.std.proofs.Common.{◌≡◌, ℕ, ◌≤◌, List, map, filter, refl, sym, ap, subst, arith, rules}
use Rattle.std.specs.Prelude.{Contains}
use Rattle.std.specs.List.{flat_map, range_with_len}
use Rattle.std.specs.List.Sorted.{IsStrictlySortedBy}
use Rattle.std.specs.Ordering.{nat_cmp, ordering_then}
use Rattle.std.specs.Cmp.{nat_cmp_total, tied_itself}
use Rattle.std.specs.declared.cmp.Ordering.{Ordering}
use Rattle.std.specs.declared.cmp.Ordering.TheVariants.{Less, Equal}
use Rattle.std.proofs.lemmas.List.Kept.{IsStrictlySortedBy-filter}
use Rattle.srs.specs.declared.piece.Piece.{Piece}
use Rattle.srs.specs.declared.rotation.Rotation.{Rotation}
use Rattle.srs.specs.declared.rotation.Rotation.TheVariants.{Spawn, Right, Reverse, Left}
use Rattle.srs.specs.declared.placement.Placement.{Placement}
use Rattle.srs.specs.Piece.{piece_code}
use Rattle.srs.specs.Rotation.{all_rotations, rotation_index}
use Rattle.srs.specs.Cells.{is_inside_of}
use Rattle.srs.specs.Canonical.{is_canonical}
use Rattle.srs.specs.Order.{placement_cmp}
use Rattle.srs.specs.Placements.{IsCanonicalInside, is_canonical_inside, placements_by_pivot, placements_of}
use Rattle.srs.specs.Rising.{IsRisingListOf}
use Rattle.srs.proofs.CanonicalLemmas.{is_canonical-from, IsCanonical-from_test, pivot_inside}
use Rattle.srs.proofs.BooleanLemmas.{and_first, and_second}
use Rattle.srs.proofs.MemberLemmas.{Contains-filter, Contains-flat_map, Contains-from_filter, Contains-from_flat_map, Contains-from_map, Contains-map, Contains-range}
use Rattle.srs.proofs.RisingLemmas.{rising-flat_map, rising-map, rising-range}
use Rattle.std.proofs.lemmas.Bool.{and_from}

abbrev state : Piece → Rotation → ℕ → ℕ → Placement
state p r y x = record { piece = p; rotation = r; x = x; y = y }

abbrev row_of : Piece → Rotation → ℕ → List Placement
row_of p r y = map (state p r y) (range_with_len 0 10)

abbrev rows_of : Piece → Rotation → List Placement
rows_of p r = flat_map (row_of p r) (range_with_len 0 23)

abbrev by_index : Rotation → Rotation → Ordering
by_index r s = nat_cmp (rotation_index r) (rotation_index s)

tied : (n : ℕ) → nat_cmp n n ≡ Equal
tied n = tied_itself nat_cmp_total n

earlier_column : (p : Piece) (r : Rotation) (y j k : ℕ) → nat_cmp j k ≡ Less → placement_cmp (state p r y j) (state p r y k) ≡ Less
earlier_column p r y j k e = λ i. ordering_then (tied (piece_code p) i) (ordering_then (tied (rotation_index r) i) (ordering_then (tied y i) (e i)))

earlier_row : (p : Piece) (r : Rotation) (j k : ℕ) → nat_cmp j k ≡ Less → (s t : Placement) → Contains (row_of p r j) s → Contains (row_of p r k) t → placement_cmp s t ≡ Less
earlier_row p r j k e s t in_j in_k =
    search (rules, (Contains-from_map (state p r j) (range_with_len 0 10) s in_j), (Contains-from_map (state p r k) (range_with_len 0 10) t in_k), (tied (piece_code p)), (tied (rotation_index r)))

earlier_rotation : (p : Piece) (q r : Rotation) → by_index q r ≡ Less → (s t : Placement) → Contains (rows_of p q) s → Contains (rows_of p r) t → placement_cmp s t ≡ Less
earlier_rotation p q r e s t in_q in_r =
    let v = Contains-from_flat_map (row_of p q) (range_with_len 0 23) s in_q in
    let w = Contains-from_flat_map (row_of p r) (range_with_len 0 23) t in_r in
    let x = Contains-from_map (state p q v.0) (range_with_len 0 10) s v.2 in
    let y = Contains-from_map (state p r w.0) (range_with_len 0 10) t w.2 in
    let less : placement_cmp (state p q v.0 x.0) (state p r w.0 y.0) ≡ Less =
    λ i. ordering_then (tied (piece_code p) i) (ordering_then (e i) (ordering_then (nat_cmp v.0 w.0) (nat_cmp x.0 y.0))) in
    subst (λ s. placement_cmp s t ≡ Less) x.2 (subst (λ t. placement_cmp (state p q v.0 x.0) t ≡ Less) y.2 less)

rotations_rise : IsStrictlySortedBy by_index all_rotations
unfolding IsStrictlySortedBy
rotations_rise = ((refl, (refl, (refl, tt))), ((refl, (refl, tt)), ((refl, tt), (tt, tt))))

pub placements_by_pivot-rising : (p : Piece) → IsStrictlySortedBy placement_cmp (placements_by_pivot p)
placements_by_pivot-rising p =
    search (rules, (rising-flat_map by_index placement_cmp (rows_of p) all_rotations rotations_rise), (earlier_rotation p), (rising-map nat_cmp placement_cmp), (rising-range 0 10), (earlier_column p), (rising-flat_map nat_cmp placement_cmp), (rising-range 0 23), (earlier_row p))

-- each rotation is among all
in_all_rotations : (r : Rotation) → Contains all_rotations r
in_all_rotations Spawn = (0, omega arith, refl)
in_all_rotations Right = (1, omega arith, refl)
in_all_rotations Reverse = (2, omega arith, refl)
in_all_rotations Left = (3, omega arith, refl)

-- the placements with a pivot in the well are all there
pub placements_by_pivot-has : (s : Placement) → s.x ≤ 9 → s.y ≤ 22 → Contains (placements_by_pivot s.piece) s
placements_by_pivot-has s column row =
    Contains-flat_map (rows_of s.piece) all_rotations s.rotation s (in_all_rotations s.rotation)
    (Contains-flat_map (row_of s.piece s.rotation) (range_with_len 0 23) s.y s (Contains-range 0 23 s.y (omega arith) (omega arith))
    (Contains-map (state s.piece s.rotation s.y) (range_with_len 0 10) s.x (Contains-range 0 10 s.x (omega arith) (omega arith))))

-- and they are of the piece
pub placements_by_pivot-piece : (p : Piece) (s : Placement) → Contains (placements_by_pivot p) s → s.piece ≡ p
placements_by_pivot-piece p s among =
    let r = Contains-from_flat_map (rows_of p) all_rotations s among in
    let y = Contains-from_flat_map (row_of p r.0) (range_with_len 0 23) s r.2 in
    let x = Contains-from_map (state p r.0 y.0) (range_with_len 0 10) s y.2 in
    sym (ap (λ (s : Placement). s.piece) x.2)

pub placements_of-list : (p : Piece) → IsRisingListOf placement_cmp (IsCanonicalInside p) (placements_of p)
unfolding placements_of
placements_of-list p = search (rules, IsStrictlySortedBy-filter, placements_by_pivot-rising, is_one, is_there)
  where
    is_one : (s : Placement) → Contains (filter is_canonical_inside (placements_by_pivot p)) s → IsCanonicalInside p s
    is_one s among =
        let found = Contains-from_filter is_canonical_inside (placements_by_pivot p) s among in
        record {
          kind = placements_by_pivot-piece p s found.0;
          canonical = IsCanonical-from_test s (and_first (is_canonical s) (is_inside_of s) found.1);
          inside = and_second (is_canonical s) (is_inside_of s) found.1;
        }

    is_there : (s : Placement) → IsCanonicalInside p s → Contains (filter is_canonical_inside (placements_by_pivot p)) s
    is_there s one =
        let pivot = pivot_inside s one.inside in
        Contains-filter is_canonical_inside (placements_by_pivot p) s
        (subst (λ q. Contains (placements_by_pivot q) s) one.kind (placements_by_pivot-has s pivot.in_columns pivot.in_rows))
        (and_from (is_canonical s) (is_inside_of s) (is_canonical-from s one.canonical) one.inside)
