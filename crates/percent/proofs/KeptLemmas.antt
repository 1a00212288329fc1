-- A slot stands for a position, and what is kept is true of it.
use Rattle.std.proofs.Common.{◌≡◌, ℕ, nat_lt, Bool, true, false, ◌&&◌, ◌||◌, List, ◌+◌, ◌≤◌, All, Some, length, refl, sym, ap, subst, ◌∙◌, inl, inr, arith, rules}
use Rattle.std.specs.Prelude.{IfSome, slice_get}
use Rattle.std.proofs.lemmas.List.Sums.{get_or-le-sum_by, sum_by-le, sum_by-set}
use Rattle.std.proofs.Math.Path.{fun_ext}
use Rattle.std.proofs.lemmas.Bool.{both_ways, cases_Bool, cases_lt, and_from, lt-ltb}
use Rattle.std.proofs.lemmas.Option.{get_or_from_slice_get, slice_get_within}
use Rattle.fact_table.specs.Entries.{slot_in, with_entry}
use Rattle.fact_table.proofs.CallerLemmas.{facts-entry, facts-none}
use Rattle.lane_board.specs.Field.{intersection, rows_below}
use Rattle.well.specs.Well.{filled}
use Rattle.well.proofs.CallerLemmas.{filled-within}
use Rattle.tails.specs.declared.tail_set.TailSet.{TailSet}
use Rattle.tails.specs.declared.tree.TailTree.{TailTree}
use Rattle.tails.specs.TailSets.{has}
use Rattle.tails.proofs.CallerLemmas.{none-counted}
use Rattle.well.specs.CellBits.{cells_in_bits}
use Rattle.percent.specs.declared.game.Game.{Game}
use Rattle.percent.specs.declared.position.Position.{Position}
use Rattle.percent.specs.declared.kept.Slot.{Slot}
use Rattle.percent.specs.GoodTails.{is_good_tail}
use Rattle.percent.specs.Kept.{blocks_in, blocks_of, IsTrueSlot}

-- the cells below the rows left are all
all_below : (p : Position) → intersection (filled p.well) (rows_below p.rows) ≡ filled p.well
unfolding intersection rows_below
all_below p = fun_ext (λ x. fun_ext (at x))
  where
    at : (x y : ℕ) → (filled p.well x y && (nat_lt x 10 && nat_lt y p.rows)) ≡ filled p.well x y
    at x y = elim (cases_Bool (filled p.well x y)) [
      | inl has ↦
          elim (cases_lt y p.rows) [
            | inl low ↦ and_from _ _ has (and_from _ _ (lt-ltb x 10 (filled-within p.well x y has).0) (lt-ltb y p.rows low)) ∙ sym has
            | inr high ↦ let none : filled p.well x y ≡ false = p.below.none x y high in cc
          ]
      | inr none ↦ rw none refl
    ]

pub bits-filled : (p : Position) (cells : ℕ) → cells_in_bits cells ≡ intersection (filled p.well) (rows_below p.rows) → cells_in_bits cells ≡ filled p.well
bits-filled p cells is = is ∙ all_below p

-- a slot without blocks says nothing that is false
empty-slot : (tree : TailTree) (game : Game) (slot : Slot) → blocks_of slot ≡ 0 → IsTrueSlot tree game slot
unfolding blocks_of
empty-slot tree game slot none = record {
  found_true = λ tail there. absurd (both_ways _ (none-counted slot.found (omega (arith, none)) tail) there);
  missed_true = λ tail there. absurd (both_ways _ (none-counted slot.missed (omega (arith, none)) tail) there);
}

-- a slot with the cells and rows of a position is true of it
pub slot-found : (tree : TailTree) (game : Game) (slot : Slot) (p : Position) (left : ℕ) → IsTrueSlot tree game slot → cells_in_bits slot.cells ≡ filled p.well → slot.rows ≡ p.rows → slot.left ≡ left
    → (tail : ℕ) → has slot.found tail ≡ true → is_good_tail tree game (filled p.well) p.rows left tail ≡ true
slot-found tree game slot p left is cells rows same tail there = (λ i. is_good_tail tree game (sym cells i) (sym rows i) (sym same i) tail) ∙ is.found_true tail there

pub slot-missed : (tree : TailTree) (game : Game) (slot : Slot) (p : Position) (left : ℕ) → IsTrueSlot tree game slot → cells_in_bits slot.cells ≡ filled p.well → slot.rows ≡ p.rows → slot.left ≡ left
    → (tail : ℕ) → has slot.missed tail ≡ true → is_good_tail tree game (filled p.well) p.rows left tail ≡ false
slot-missed tree game slot p left is cells rows same tail there = (λ i. is_good_tail tree game (sym cells i) (sym rows i) (sym same i) tail) ∙ is.missed_true tail there

-- sets that have given answers, and of a position only true ones
pub record AreTrueOf (tree : TailTree) (game : Game) (p : Position) (left : ℕ) (found missed : TailSet) (both : TailSet × TailSet) : Type 0 where
  pub found_true : (tail : ℕ) → has both.0 tail ≡ true → is_good_tail tree game (filled p.well) p.rows left tail ≡ true
  pub missed_true : (tail : ℕ) → has both.1 tail ≡ true → is_good_tail tree game (filled p.well) p.rows left tail ≡ false
  pub found_in : (tail : ℕ) → has found tail ≡ true → has both.0 tail ≡ true
  pub missed_in : (tail : ℕ) → has missed tail ≡ true → has both.1 tail ≡ true

-- the given ones alone
pub true-alone : (tree : TailTree) (game : Game) (p : Position) (left : ℕ) (found missed found_alone missed_alone : TailSet)
    → ((tail : ℕ) → has found_alone tail ≡ has found tail) → ((tail : ℕ) → has missed_alone tail ≡ has missed tail)
    → ((tail : ℕ) → has found tail ≡ true → is_good_tail tree game (filled p.well) p.rows left tail ≡ true)
    → ((tail : ℕ) → has missed tail ≡ true → is_good_tail tree game (filled p.well) p.rows left tail ≡ false)
    → AreTrueOf tree game p left found missed (found_alone, missed_alone)
true-alone tree game p left found missed found_alone missed_alone found_is missed_is g n = record {
  found_true = λ tail there. g tail (sym (found_is tail) ∙ there);
  missed_true = λ tail there. n tail (sym (missed_is tail) ∙ there);
  found_in = λ tail there. found_is tail ∙ there;
  missed_in = λ tail there. missed_is tail ∙ there;
}

either : (a b c g want : Bool) → c ≡ (a || b) → (a ≡ true → g ≡ want) → (b ≡ true → g ≡ want) → c ≡ true → g ≡ want
either a b c g want is first second there = search rules

in_either : (a b c : Bool) → c ≡ (a || b) → b ≡ true → c ≡ true
in_either a b c is there = search rules

-- what was known and what is new
pub true-merged : (tree : TailTree) (game : Game) (p : Position) (left : ℕ) (found missed found_before missed_before found_all missed_all : TailSet)
    → ((tail : ℕ) → has found_all tail ≡ (has found_before tail || has found tail)) → ((tail : ℕ) → has missed_all tail ≡ (has missed_before tail || has missed tail))
    → ((tail : ℕ) → has found_before tail ≡ true → is_good_tail tree game (filled p.well) p.rows left tail ≡ true)
    → ((tail : ℕ) → has missed_before tail ≡ true → is_good_tail tree game (filled p.well) p.rows left tail ≡ false)
    → ((tail : ℕ) → has found tail ≡ true → is_good_tail tree game (filled p.well) p.rows left tail ≡ true)
    → ((tail : ℕ) → has missed tail ≡ true → is_good_tail tree game (filled p.well) p.rows left tail ≡ false)
    → AreTrueOf tree game p left found missed (found_all, missed_all)
true-merged tree game p left found missed found_before missed_before found_all missed_all found_is missed_is f m g n = record {
  found_true = λ tail. either (has found_before tail) (has found tail) (has found_all tail) (is_good_tail tree game (filled p.well) p.rows left tail) true (found_is tail) (f tail) (g tail);
  missed_true = λ tail. either (has missed_before tail) (has missed tail) (has missed_all tail) (is_good_tail tree game (filled p.well) p.rows left tail) false (missed_is tail) (m tail) (n tail);
  found_in = λ tail. in_either (has found_before tail) (has found tail) (has found_all tail) (found_is tail);
  missed_in = λ tail. in_either (has missed_before tail) (has missed tail) (has missed_all tail) (missed_is tail);
}

-- a slot of such sets is true
pub new-slot : (tree : TailTree) (game : Game) (slot : Slot) (p : Position) (left : ℕ) (found missed : TailSet) (both : TailSet × TailSet)
    → cells_in_bits slot.cells ≡ filled p.well → slot.rows ≡ p.rows → slot.left ≡ left → slot.found ≡ both.0 → slot.missed ≡ both.1
    → AreTrueOf tree game p left found missed both → IsTrueSlot tree game slot
new-slot tree game slot p left found missed both cells rows same found_is missed_is are = record {
  found_true = λ tail there. (λ i. is_good_tail tree game (cells i) (rows i) (same i) tail) ∙ are.found_true tail (ap (λ (s : TailSet). has s tail) (sym found_is) ∙ there);
  missed_true = λ tail there. (λ i. is_good_tail tree game (cells i) (rows i) (same i) tail) ∙ are.missed_true tail (ap (λ (s : TailSet). has s tail) (sym missed_is) ∙ there);
}

-- ---- the table of slots

-- what a slot without blocks says
abbrev pub IsBlank : Slot → Type 0
IsBlank slot = blocks_of slot ≡ 0

pub blank-true : (tree : TailTree) (game : Game) (slots : List Slot) → All IsBlank slots → All (IsTrueSlot tree game) slots
blank-true tree game slots blank = facts-none IsBlank (IsTrueSlot tree game) slots (empty-slot tree game) blank

-- a slot that is read is true
pub slot-true : (tree : TailTree) (game : Game) (slots : List Slot) (hash : ℕ) (slot : Slot) → All (IsTrueSlot tree game) slots → Some slot ≡ slice_get slots (slot_in (length slots) hash) → IsTrueSlot tree game slot
slot-true tree game slots hash slot all is = subst (λ o. IfSome o (IsTrueSlot tree game)) (sym is) (facts-entry (IsTrueSlot tree game) slots hash all)

-- ---- how many answers there are

blank-none : (slot : Slot) → IsBlank slot → blocks_of slot ≤ 0
unfolding blocks_of
blank-none slot none = omega (arith, none)

pub blank-counted : (slots : List Slot) → All IsBlank slots → blocks_in slots ≡ 0
unfolding blocks_in
blank-counted slots blank = let few = sum_by-le blocks_of 0 slots (facts-none IsBlank (λ slot. blocks_of slot ≤ 0) slots blank-none blank) in omega (arith, few)

-- the answers of the slot before go, and those of the new one come
pub replaced : (slots : List Slot) (hash : ℕ) (slot before : Slot) → Some before ≡ slice_get slots (slot_in (length slots) hash)
    → blocks_in (with_entry slots hash slot) + blocks_of before ≡ blocks_in slots + blocks_of slot
unfolding blocks_in
replaced slots hash slot before is =
    let index : ℕ = slot_in (length slots) hash in
    let within = slice_get_within slots index before (sym is) in
    let there = ap blocks_of (get_or_from_slice_get slots index before before (sym is)) in
    let change = sum_by-set blocks_of slots index slot before within in omega (arith, there, change)

-- a slot has no more answers than there are
pub one-of-all : (slots : List Slot) (hash : ℕ) (before : Slot) → Some before ≡ slice_get slots (slot_in (length slots) hash) → blocks_of before ≤ blocks_in slots
unfolding blocks_in
one-of-all slots hash before is =
    let index : ℕ = slot_in (length slots) hash in
    let within = slice_get_within slots index before (sym is) in
    let there = ap blocks_of (get_or_from_slice_get slots index before before (sym is)) in
    let few = get_or-le-sum_by blocks_of slots index before within in omega (arith, there, few)
