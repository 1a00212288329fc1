-- What comes to a list, one step after the other.
use Rattle.std.proofs.Common.{◌≡◌, ◌⊎◌, ℕ, ◌+◌, ◌<◌, bit_and, Bool, true, false, not, ◌&&◌, ◌==◌, nat_le, List, [], ◌∷◌, ◌++◌, sym, ap, subst, ◌∙◌, inl, inr, rules}
use Rattle.std.specs.List.{Contains}
use Rattle.std.proofs.lemmas.Bool.{and_parts, both_ways, cases_eq, ne_eqb, eq-eqb, false_from_ne_true}
use Rattle.std.proofs.lemmas.List.{append-nil, append_assoc}
use Rattle.std.proofs.lemmas.List.Elements.{Contains-append_left, Contains-append_right, Contains-append_cases}
use Rattle.std.proofs.Math.Bool.{and-false}
use Rattle.lane_board.specs.Field.{Field}
use Rattle.lane_board.specs.Lanes.{has_bit}
use Rattle.lane_board.proofs.CallerLemmas.{has_bit-zero}
use Rattle.empty_cells.specs.declared.span.Span.{Span}
use Rattle.empty_cells.specs.Spans.{has_span, without_span}
use Rattle.empty_cells.specs.Stacks.{MayTake, Stacks, is_allowed}
use Rattle.empty_cells.proofs.CallerLemmas.{IsSmall, bit_from_may, may_from_bit, some_in_span, was_unset}
use Rattle.tiled_pieces.specs.declared.listed.ListedTiling.{ListedTiling}
use Rattle.tiled_pieces.specs.declared.listing.Listing.{Listing}
use Rattle.tiled_pieces.specs.TilingLists.{LaidPiece}
use Rattle.tiled_pieces.specs.RowBits.{GoesFrom}
use Rattle.tiled_pieces.specs.Listings.{Adds, Lies, Lists, path_of}
use Rattle.tiled_pieces.proofs.ListedLemmas.{none_listed}

-- what holds of a path and of the pieces that are found
abbrev pub Fact : Type 1
Fact = List LaidPiece → List LaidPiece → Type 0

not_full : (x y : Bool) → (x ≡ true → y ≡ true) → y ≡ false → x ≡ false
not_full x y implied room = false_from_ne_true x (λ is. both_ways y room (implied is))

-- nothing is added where there is nothing to add
pub adds_none : (list : Listing) (Least Most : Fact) → ((path found : List LaidPiece) → Least path found → ⊥) → Adds list list Least Most
adds_none list Least Most none = search (rules, append-nil, none_listed)

-- or where what could be found cannot follow
pub adds_none_here : (list : Listing) (Least Most : Fact) → ((found : List LaidPiece) → GoesFrom list.order (path_of list.path) found → Least (path_of list.path) found → ⊥) → Adds list list Least Most
adds_none_here list Least Most none = search (rules, append-nil, none_listed)

-- or where the list is full
pub adds_full : (old new : Listing) (Least Most : Fact) → new.tilings.items ≡ old.tilings.items → path_of new.path ≡ path_of old.path → new.order ≡ old.order → new.is_full ≡ true → Adds old new Least Most
adds_full old new Least Most same path order full = search (rules, append-nil, both_ways, none_listed)

-- one step and then another one
pub adds_then : (a b c : Listing) (Least More Most : Fact) → Adds a b Least Most → Adds b c More Most → Adds a c (λ path found. Least path found ⊎ More path found) Most
adds_then a b c Least More Most first second = record {
  more = first.more ++ second.more;
  longer = second.longer ∙ ap (λ l. l ++ second.more) first.longer ∙ append_assoc a.tilings.items first.more second.more;
  path = second.path ∙ first.path;
  order = second.order ∙ first.order;
  full = λ full. second.full (first.full full);
  gained = gained;
  only = only;
}
  where
    from : (found : List LaidPiece) → GoesFrom a.order (path_of a.path) found → GoesFrom b.order (path_of b.path) found
    from found goes = subst (λ order. GoesFrom order (path_of b.path) found) (sym first.order) (subst (λ path. GoesFrom a.order path found) (sym first.path) goes)

    gained : c.is_full ≡ false → (found : List LaidPiece) → GoesFrom a.order (path_of a.path) found → Least (path_of a.path) found ⊎ More (path_of a.path) found → Lists (first.more ++ second.more) found
    gained room found goes (inl least) =
        let l = first.gained (not_full b.is_full c.is_full second.full room) found goes least in
        record { tiling = l.tiling; listed = Contains-append_left first.more second.more l.tiling l.listed; spells = l.spells }
    gained room found goes (inr more) =
        let l = second.gained room found (from found goes) (subst (λ path. More path found) (sym first.path) more) in
        record { tiling = l.tiling; listed = Contains-append_right first.more second.more l.tiling l.listed; spells = l.spells }

    only : (tiling : ListedTiling) → Contains (first.more ++ second.more) tiling → Lies (Most (path_of a.path)) tiling
    only tiling listed = elim (Contains-append_cases first.more second.more tiling listed) [
      | inl here ↦ first.only tiling here
      | inr later ↦ subst (λ path. Lies (Most path) tiling) first.path (second.only tiling later)
    ]

pub adds_as : (old new : Listing) (Least Most Less More : Fact) → ((path found : List LaidPiece) → Less path found → Least path found) → ((path found : List LaidPiece) → Most path found → More path found) → Adds old new Least Most → Adds old new Less More
adds_as old new Least Most Less More least most adds = record {
  more = adds.more;
  longer = adds.longer;
  path = adds.path;
  order = adds.order;
  full = adds.full;
  gained = λ room found goes less. adds.gained room found goes (least _ found less);
  only = λ tiling listed. let l = adds.only tiling listed in record { found = l.found; spells = l.spells; most = most _ l.found l.most };
}

-- the lowest span takes a row that is gone through: one that isn't left
pub record StacksGone (By : List LaidPiece → List LaidPiece → Field → Type 0) (E : Field) (x y floor : ℕ) (span : Span) (spans : List Span) (rows : ℕ) (path found : List LaidPiece) : Type 0 where
  pub row : ℕ
  pub may : MayTake (is_allowed y) E x floor span row
  pub gone : has_bit rows row ≡ false
  pub stacks : Stacks (is_allowed y) (By path found) (without_span E x span row) x (row + 1) spans

abbrev StacksAll : (List LaidPiece → List LaidPiece → Field → Type 0) → Field → ℕ → ℕ → ℕ → List Span → Fact
StacksAll By E x y floor spans path found = Stacks (is_allowed y) (By path found) E x floor spans

-- The rows that are left are some that the lowest span may take; all is added that is found with the others.
pub record RowsGone (By All : List LaidPiece → List LaidPiece → Field → Type 0) (E : Field) (x y floor : ℕ) (span : Span) (spans : List Span) (rows : ℕ) (old new : Listing) : Type 0 where
  pub may : (row : ℕ) → row < 8 → has_bit rows row ≡ true → MayTake (is_allowed y) E x floor span row
  pub adds : Adds old new (StacksGone By E x y floor span spans rows) (StacksGone All E x y floor span spans rows)

pub rows-start : (By All : List LaidPiece → List LaidPiece → Field → Type 0) (E : Field) (x y floor : ℕ) (span : Span) (spans : List Span) (rows permitted : ℕ) (old : Listing) → IsSmall 8 E →
    ((row : ℕ) → row < 8 → has_bit rows row ≡ has_span E x span row) → ((row : ℕ) → row < 8 → has_bit permitted row ≡ (nat_le floor row && is_allowed y floor span row)) →
    RowsGone By All E x y floor span spans (bit_and rows permitted) old old
rows-start By All E x y floor span spans rows permitted old small has allowed =
    search (rules, may_from_bit, adds_none, some_in_span, both_ways, bit_from_may)

module _ (E rest : Field) (x y floor : ℕ) (span : Span) (spans : List Span) (rows less row : ℕ) (small : IsSmall 8 E) (low : row < 8) (here : has_bit rows row ≡ true)
    (may : MayTake (is_allowed y) E x floor span row) (left : rest ≡ without_span E x span row) (others : (k : ℕ) → k < 8 → has_bit less k ≡ (has_bit rows k && not (k == row))) where
  before : (By : List LaidPiece → List LaidPiece → Field → Type 0) (path found : List LaidPiece) → StacksGone By E x y floor span spans rows path found → StacksGone By E x y floor span spans less path found
  before By path found f = search (rules, some_in_span)

  at_row : (By : List LaidPiece → List LaidPiece → Field → Type 0) (path found : List LaidPiece) → StacksAll By rest x y (row + 1) spans path found → StacksGone By E x y floor span spans less path found
  at_row By path found stacks = search (rules, eq-eqb, and-false)

  split : (By : List LaidPiece → List LaidPiece → Field → Type 0) (path found : List LaidPiece) → StacksGone By E x y floor span spans less path found →
      StacksGone By E x y floor span spans rows path found ⊎ StacksAll By rest x y (row + 1) spans path found
  split By path found g = search (rules, cases_eq, some_in_span, was_unset, ne_eqb)

pub rows-next : (By All : List LaidPiece → List LaidPiece → Field → Type 0) (E rest : Field) (x column y floor : ℕ) (span : Span) (spans : List Span) (rows less row : ℕ) (a b c : Listing) → IsSmall 8 E → row < 8 → has_bit rows row ≡ true →
    rest ≡ without_span E x span row → column ≡ x → ((k : ℕ) → k < 8 → has_bit less k ≡ (has_bit rows k && not (k == row))) → RowsGone By All E x y floor span spans rows a b →
    Adds b c (StacksAll By rest column y (row + 1) spans) (StacksAll All rest column y (row + 1) spans) → RowsGone By All E x y floor span spans less a c
rows-next By All E rest x column y floor span spans rows less row a b c small low here left same_column others gone more_there = record {
  may = λ k k_low bit. gone.may k k_low (and_parts _ _ (sym (others k k_low) ∙ bit)).0;
  adds = adds_as a c _ (StacksGone All E x y floor span spans less) (StacksGone By E x y floor span spans less) (StacksGone All E x y floor span spans less)
      (split E rest x y floor span spans rows less row small low here may left others By) (λ path found is. is)
      (adds_then a b c (StacksGone By E x y floor span spans rows) (StacksAll By rest x y (row + 1) spans) (StacksGone All E x y floor span spans less)
      (adds_as a b _ (StacksGone All E x y floor span spans rows) _ _ (λ path found is. is) (before E rest x y floor span spans rows less row small low here may left others All) gone.adds)
      (adds_as b c _ (StacksAll All rest x y (row + 1) spans) _ _ (λ path found is. is) (at_row E rest x y floor span spans rows less row small low here may left others All) more));
}
  where
    may : MayTake (is_allowed y) E x floor span row
    may = gone.may row low here

    more : Adds b c (StacksAll By rest x y (row + 1) spans) (StacksAll All rest x y (row + 1) spans)
    more = subst (λ k. Adds b c (StacksAll By rest k y (row + 1) spans) (StacksAll All rest k y (row + 1) spans)) same_column more_there

-- where no row is left, all is added that is found with the spans stacked
pub rows-all : (By All : List LaidPiece → List LaidPiece → Field → Type 0) (E : Field) (x y floor : ℕ) (span : Span) (spans all : List Span) (rows : ℕ) (old new : Listing) → all ≡ span ∷ spans → rows ≡ 0 →
    RowsGone By All E x y floor span spans rows old new → Adds old new (StacksAll By E x y floor all) (StacksAll All E x y floor all)
unfolding Stacks
rows-all By All E x y floor span spans all rows old new is none gone = search (rules, adds_as, has_bit-zero)

-- with no span left, it is what the search finds
pub rows-none : (By All : List LaidPiece → List LaidPiece → Field → Type 0) (E : Field) (x y floor : ℕ) (spans : List Span) (old new : Listing) → spans ≡ [] → Adds old new (λ path found. By path found E) (λ path found. All path found E) →
    Adds old new (StacksAll By E x y floor spans) (StacksAll All E x y floor spans)
unfolding Stacks
rows-none By All E x y floor spans old new is adds = subst (λ spans. Adds old new (StacksAll By E x y floor spans) (StacksAll All E x y floor spans)) (sym is) adds
