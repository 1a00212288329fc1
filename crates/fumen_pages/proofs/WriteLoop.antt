-- Writing the longest runs one after the other, and counting the cells of one, as loops do.
use Rattle.std.proofs.Common.{◌≡◌, ℕ, suc, ◌+◌, ◌-◌, ◌*◌, ◌<◌, ◌≤◌, Bool, true, false, cond, eqb, List, ◌++◌, length, get_or, take, drop, sym, ◌∙◌, append_assoc, arith, rules}
use Rattle.std.specs.List.{flat_map}
use Rattle.std.proofs.lemmas.Bool.{eq-eqb, ne_eqb}
use Rattle.std.proofs.lemmas.List.{append-nil, drop_more, drop_all, drop-drop, take_all, take-append-le, length-drop, length-take, length-take-le}
use Rattle.fumen_digits.specs.declared.dialect.Dialect.{Dialect}
use Rattle.fumen_digits.specs.Dialect.{page_cell_count}
use Rattle.fumen_digits.specs.Number.{digits}
use Rattle.fumen_pages.specs.Cells.{missing_count}
use Rattle.fumen_pages.specs.Record.{run_digits}
use Rattle.fumen_pages.specs.Written.{colour_difference, longest, same_count, written_record}
use Rattle.fumen_pages.proofs.WrittenRecordIsSpelled.{longest_first, same_count_cons, same_count_none}

-- ---- the cells of one run

-- so many cells have the difference, and what is left completes them
pub AreCounted : ℕ → List ℕ → List ℕ → ℕ → Type 0
AreCounted shift old new i = same_count shift old new ≡ i + same_count shift (drop i old) (drop i new)

pub counted_starts : (shift : ℕ) (old new : List ℕ) → AreCounted shift old new 0
unfolding AreCounted
counted_starts shift old new = omega arith

-- the next cell
at_next : (shift : ℕ) (old new : List ℕ) (i : ℕ) (b : Bool) → length old ≡ length new → i < length old → eqb (colour_difference (get_or old i 0) (get_or new i 0)) shift ≡ b
    → same_count shift (drop i old) (drop i new) ≡ cond b (suc (same_count shift (drop (i + 1) old) (drop (i + 1) new))) 0
at_next shift old new i b same lt e = search (rules, drop_more, same_count_cons)

pub counted_more : (shift : ℕ) (old new : List ℕ) (i value : ℕ) → length old ≡ length new → i < length old → value ≡ colour_difference (get_or old i 0) (get_or new i 0) → value ≡ shift → AreCounted shift old new i → AreCounted shift old new (i + 1)
unfolding AreCounted
counted_more shift old new i value same lt is equal s =
    let next = at_next shift old new i true same lt (eq-eqb (colour_difference (get_or old i 0) (get_or new i 0)) shift (sym is ∙ equal)) in
    omega arith

pub counted_stops : (shift : ℕ) (old new : List ℕ) (i value : ℕ) → length old ≡ length new → i < length old → value ≡ colour_difference (get_or old i 0) (get_or new i 0) → (value ≡ shift → ⊥) → AreCounted shift old new i → i ≡ same_count shift old new
unfolding AreCounted
counted_stops shift old new i value same lt is other s =
    let next = at_next shift old new i false same lt (ne_eqb (colour_difference (get_or old i 0) (get_or new i 0)) shift (λ e. other (is ∙ e))) in
    omega arith

pub counted_all : (shift : ℕ) (old new : List ℕ) (i : ℕ) → length old ≤ i → AreCounted shift old new i → i ≡ same_count shift old new
unfolding AreCounted
counted_all shift old new i le s = search (rules, drop_all, same_count_none)

-- ---- runs

-- the digits of the runs from a cell on
abbrev rest_digits : Dialect → List ℕ → List ℕ → ℕ → List ℕ
rest_digits dialect old new start = flat_map (run_digits (page_cell_count dialect)) (longest (drop start old) (drop start new))

-- what is appended so far and the runs of what is left are the whole record, and what stood before still stands
pub record AreWrittenSoFar (dialect : Dialect) (old new before out : List ℕ) (start : ℕ) : Type 0 where
  pub from : missing_count dialect ≤ start
  pub upto : start ≤ 240
  pub kept : take (length before) out ≡ before
  pub completes : out ++ rest_digits dialect old new start ≡ before ++ written_record dialect old new

pub write_starts : (dialect : Dialect) (old new before : List ℕ) (start : ℕ) → start ≡ missing_count dialect → AreWrittenSoFar dialect old new before before start
unfolding written_record
write_starts dialect old new before start at = search (rules, take_all)

-- the first cell that is left, its difference, and how many have it
pub record IsNextRun (old new : List ℕ) (start shift count : ℕ) : Type 0 where
  pub shift_is : shift ≡ colour_difference (get_or old start 0) (get_or new start 0)
  pub count_is : count ≡ same_count shift (drop start old) (drop start new)
  pub some : 1 ≤ count
  pub most : count ≤ 240 - start

-- the cells of the call are those from the start on
pub next_run : (old new : List ℕ) (start shift count : ℕ) → length old ≡ 240 → length new ≡ 240 → start < 240 → shift ≡ colour_difference (get_or old start 0) (get_or new start 0)
    → count ≡ same_count shift (take (240 - start) (drop start old)) (take (240 - start) (drop start new)) → count ≤ length (take (240 - start) (drop start old)) → IsNextRun old new start shift count
next_run old new start shift count size new_size lt is counted most =
    search (rules, length-drop, take_all, drop_more, same_count_cons, eq-eqb)

runs_from : (dialect : Dialect) (old new : List ℕ) (start shift count : ℕ) → length old ≡ 240 → length new ≡ 240 → start < 240 → IsNextRun old new start shift count
    → rest_digits dialect old new start ≡ digits 2 (shift * page_cell_count dialect + (count - 1)) ++ rest_digits dialect old new (start + count)
runs_from dialect old new start shift count size new_size lt run =
    search (rules, length-drop, longest_first, drop_more, length-take-le, drop-drop)

pub write_more : (dialect : Dialect) (old new before out written : List ℕ) (start shift count : ℕ) → length old ≡ 240 → length new ≡ 240 → start < 240 → IsNextRun old new start shift count
    → written ≡ out ++ digits 2 (shift * page_cell_count dialect + (count - 1)) → AreWrittenSoFar dialect old new before out start → AreWrittenSoFar dialect old new before written (start + count)
write_more dialect old new before out written start shift count size new_size lt run is s =
    search (rules, length-take, take-append-le, append_assoc, runs_from)

pub write_ends : (dialect : Dialect) (old new before out : List ℕ) (start : ℕ) → length old ≡ 240 → 240 ≤ start → AreWrittenSoFar dialect old new before out start → out ≡ before ++ written_record dialect old new
unfolding longest
write_ends dialect old new before out start size end s = search (rules, drop_all, append-nil)
