-- The pieces of a tiling that lie in a set, one slot after the other.
use Rattle.std.proofs.Common.{◌≡◌, ℕ, ◌+◌, ◌*◌, ◌/◌, ◌%◌, ◌^◌, ◌<◌, Bool, true, false, not, ◌&&◌, nat_lt, List, [], ◌∷◌, ◌++◌, length, map, slice_index, refl, sym, ap, subst, ◌∙◌, inl, inr, arith, rules}
use Rattle.std.proofs.lemmas.Bool.{and_parts, both_ways, cases_eq}
use Rattle.std.proofs.lemmas.List.{get_or_append_left, get_or-append-add, length-append, length-map, map-append}
use Rattle.lane_board.specs.Field.{Field}
use Rattle.lane_board.specs.Lanes.{has_bit}
use Rattle.srs.specs.Piece.{piece_code}
use Rattle.empty_cells.specs.Empties.{cells_by_column}
use Rattle.tiled_pieces.specs.declared.listed.ListedTiling.{ListedTiling}
use Rattle.tiled_pieces.specs.TilingLists.{LaidPiece, laid_at, most_pieces}
use Rattle.tiled_pieces.specs.declared.laid.Laid.{Laid}
use Rattle.tiled_pieces.specs.Orders.{HasLaid, HasThose, IsAt, LiesIn, cells_at, weight_at}
use Rattle.tiled_pieces.proofs.RowTests.{cell_from, cell_of}
use Rattle.tiled_pieces.proofs.FitTests.{cell_at, none_set, some_bit, unset}

without_none : (b d : Bool) → (b && not d) ≡ false → b ≡ true → d ≡ true
without_none b d e is = search rules

without_both : (b d : Bool) → (b && not d) ≡ true → d ≡ true → ⊥
without_both true true e is = both_ways false refl e
without_both false d e is = both_ways false refl e
without_both true false e is = both_ways false refl is

pub lies_none : (p : ℕ) (E : Field) → p < 2 ^ 80 → p ≡ 0 → LiesIn (cells_by_column p) E → ⊥
lies_none p E small none lies = both_ways _ (unset p (8 * lies.x + lies.y) none) (cell_of p lies.x lies.y small lies.there).bit

module _ (p e w : ℕ) (small : p < 2 ^ 80) (bits : (k : ℕ) → has_bit w k ≡ (has_bit p k && not (has_bit e k))) where
  pub lies_from : (p ≡ 0 → ⊥) → w ≡ 0 → LiesIn (cells_by_column p) (cells_by_column e)
  lies_from some none =
      let has = some_bit p (omega (arith, small)) some in
      record {
        x = has.0 / 8;
        y = has.0 % 8;
        there = cell_at p has.0 has.1;
        inside = λ a b here.
            let cell = cell_of p a b small here in
            cell_from e a b cell.row (without_none (has_bit p (8 * a + b)) _ (sym (bits (8 * a + b)) ∙ unset w (8 * a + b) none) cell.bit);
      }

  same_bit : (k : ℕ) → cells_by_column e (k / 8) (k % 8) ≡ true → has_bit e k ≡ true
  unfolding cells_by_column
  same_bit k here = ap (has_bit e) {x = k} {y = 8 * (k / 8) + k % 8} (omega arith) ∙ (and_parts (nat_lt (k % 8) 8) _ here).1

  pub lies_back : LiesIn (cells_by_column p) (cells_by_column e) → w ≡ 0
  lies_back lies = none_set w (λ k bit.
      let both = and_parts (has_bit p k) (not (has_bit e k)) (sym (bits k) ∙ bit) in
      without_both (has_bit p k) (has_bit e k) (sym (bits k) ∙ bit) (same_bit k (lies.inside (k / 8) (k % 8) (cell_at p k both.0))))

-- a piece more at the end of a list
at_left : (f : Laid → ℕ) (pieces : List Laid) (x : Laid) (j : ℕ) → j < length pieces → slice_index (map f (pieces ++ x ∷ [])) j ≡ slice_index (map f pieces) j
at_left f pieces x j known = ap (λ l. slice_index l j) (map-append f pieces (x ∷ [])) ∙ get_or_append_left (map f pieces) (f x ∷ []) 0 j (omega (arith, known, length-map pieces f))

at_last : (f : Laid → ℕ) (pieces : List Laid) (x : Laid) → slice_index (map f (pieces ++ x ∷ [])) (length pieces) ≡ f x
at_last f pieces x = ap (λ l. slice_index l (length pieces)) (map-append f pieces (x ∷ []))
    ∙ ap (slice_index (map f pieces ++ f x ∷ [])) {x = length pieces} {y = length (map f pieces) + 0} (omega (arith, length-map pieces f)) ∙ get_or-append-add (map f pieces) (f x ∷ []) 0 0

longer : (pieces : List Laid) (x : Laid) → length (pieces ++ x ∷ []) ≡ length pieces + 1
longer pieces x = length-append pieces (x ∷ [])

stays : (weights : List ℕ) (pieces : List Laid) (x : Laid) (laid : LaidPiece) (j : ℕ) → IsAt weights pieces laid j → IsAt weights (pieces ++ x ∷ []) laid j
unfolding cells_at weight_at
stays weights pieces x laid j here = record {
  known = omega (arith, here.known, longer pieces x);
  cells = ap cells_by_column (at_left (λ (piece : Laid). piece.cells) pieces x j here.known) ∙ here.cells;
  weight = at_left (λ (piece : Laid). piece.weight) pieces x j here.known ∙ here.weight;
}

module _ (tiling : ListedTiling) (E : Field) (weights : List ℕ) (pieces : List Laid) (n : ℕ) (those : HasThose tiling E weights pieces n) where
  pub those_passed : (LiesIn (laid_at tiling n).cells E → ⊥) → HasThose tiling E weights pieces (n + 1)
  those_passed none = record {
    only = those.only;
    all = λ slot below lies. elim (cases_eq slot n) [
      | inl same ↦ absurd (none (subst (λ slot. LiesIn (laid_at tiling slot).cells E) same lies))
      | inr other ↦ those.all slot (omega (arith, below, other)) lies
    ];
  }

  is_last : (x : Laid) → cells_by_column x.cells ≡ (laid_at tiling n).cells → x.weight ≡ slice_index weights (piece_code (laid_at tiling n).piece) → IsAt weights (pieces ++ x ∷ []) (laid_at tiling n) (length pieces)
  unfolding cells_at weight_at
  is_last x cells weight = record {
    known = omega (arith, longer pieces x);
    cells = ap cells_by_column (at_last (λ (piece : Laid). piece.cells) pieces x) ∙ cells;
    weight = at_last (λ (piece : Laid). piece.weight) pieces x ∙ weight;
  }

  pub those_added : (x : Laid) → n < most_pieces → cells_by_column x.cells ≡ (laid_at tiling n).cells → x.weight ≡ slice_index weights (piece_code (laid_at tiling n).piece) → HasThose tiling E weights (pieces ++ x ∷ []) (n + 1)
  those_added x low cells weight = record {
    only = λ j known. elim (cases_eq j (length pieces)) [
      | inl same ↦ record { slot = n; low = low; here = subst (IsAt weights (pieces ++ x ∷ []) (laid_at tiling n)) (sym same) last }
      | inr other ↦
          let of = those.only j (omega (arith, known, other, longer pieces x)) in
          record { slot = of.slot; low = of.low; here = stays weights pieces x (laid_at tiling of.slot) j of.here }
    ];
    all = λ slot below lies. elim (cases_eq slot n) [
      | inl same ↦ subst (λ slot. HasLaid weights (pieces ++ x ∷ []) (laid_at tiling slot)) (sym same) (record { index = length pieces; here = last })
      | inr other ↦
          let has = those.all slot (omega (arith, below, other)) lies in
          record { index = has.index; here = stays weights pieces x (laid_at tiling slot) has.index has.here }
    ];
  }
    where
      last : IsAt weights (pieces ++ x ∷ []) (laid_at tiling n) (length pieces)
      last = is_last x cells weight

pub those_start : (tiling : ListedTiling) (E : Field) (weights : List ℕ) → HasThose tiling E weights [] 0
those_start tiling E weights = record { only = λ j known. absurd (omega (arith, known)); all = λ slot below lies. absurd (omega (arith, below)) }
