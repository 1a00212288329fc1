-- The longest runs cut the cells, and are read again.
use Rattle.std.proofs.Common.{◌≡◌, ℕ, zero, suc, ◌+◌, ◌-◌, ◌≤◌, Bool, true, false, cond, eqb, List, [], ◌∷◌, ◌++◌, length, take, drop, All, Ok, refl, sym, ap, subst, ◌∙◌, arith, rules}
use Rattle.std.specs.Prelude.{replicate}
use Rattle.std.specs.List.{AllByRecursion}
use Rattle.std.proofs.lemmas.Bool.{eqb-true, eqb-false, eq-eqb, le-leb, and_from}
use Rattle.std.proofs.lemmas.List.{append-nil, drop_all}
use Rattle.std.proofs.lemmas.List.Elements.{All-head, All-tail, All-drop}
use Rattle.fumen_digits.specs.declared.dialect.Dialect.{Dialect}
use Rattle.fumen_digits.specs.Dialect.{page_cell_count}
use Rattle.fumen_digits.specs.Digit.{AreDigits}
use Rattle.fumen_digits.specs.Number.{Stands}
use Rattle.fumen_digits.proofs.CallerLemmas.{AreDigits-digits, AreDigits-flat_map}
use Rattle.fumen_pages.specs.Cells.{IsColour, missing_count, shown, AreCells}
use Rattle.fumen_pages.specs.Record.{Run, IsCellRun, stays_colour, Cuts, unchanged, CutsOther}
use Rattle.fumen_pages.specs.Reading.{runs_at, record_at}
use Rattle.fumen_pages.specs.Written.{colour_difference, extended, longest, same_count, AreApart, written_record}
use Rattle.fumen_pages.proofs.RunsReadAsSpelled.{old_cells, new_cells, read_from_runs}
use Rattle.fumen_pages.proofs.RecordReadAsSpelled.{cell_count-most, shown-length, whole_cells, read_new, read_unchanged, whole_run, whole_run-digits, is_unchanged, done_pair}

-- ---- one more cell

-- a run with one more cell, and a run of one cell
abbrev longer : ℕ → ℕ → Run → Run
longer cell shift run = record { old = cell ∷ run.old; shift = shift }

abbrev single : ℕ → ℕ → Run
single cell shift = record { old = cell ∷ []; shift = shift }

extended_same : (cell shift : ℕ) (run : Run) (runs : List Run) → eqb run.shift shift ≡ true → extended cell shift (run ∷ runs) ≡ longer cell shift run ∷ runs
unfolding extended
extended_same cell shift run runs e = ap (λ (b : Bool). cond b (longer cell shift run ∷ runs) (single cell shift ∷ run ∷ runs)) e

extended_other : (cell shift : ℕ) (run : Run) (runs : List Run) → eqb run.shift shift ≡ false → extended cell shift (run ∷ runs) ≡ single cell shift ∷ run ∷ runs
unfolding extended
extended_other cell shift run runs e = ap (λ (b : Bool). cond b (longer cell shift run ∷ runs) (single cell shift ∷ run ∷ runs)) e

extended_none : (cell shift : ℕ) → extended cell shift [] ≡ single cell shift ∷ []
unfolding extended
extended_none cell shift = refl

-- what the runs with one more cell are
record IsExtended (n cell shift : ℕ) (runs made : List Run) : Type 0 where
  old_is : old_cells made ≡ cell ∷ old_cells runs
  new_is : new_cells made ≡ (cell + shift - 8) ∷ new_cells runs
  each : AllByRecursion (IsCellRun n) runs → AllByRecursion (IsCellRun (suc n)) made
  apart : AreApart runs → AreApart made

run_longer : (n : ℕ) (run : Run) → IsCellRun n run → IsCellRun (suc n) run
run_longer n run r = let most = r.most in record { some = r.some; most = omega arith; colours = r.colours }

runs_longer : (n : ℕ) (runs : List Run) → AllByRecursion (IsCellRun n) runs → AllByRecursion (IsCellRun (suc n)) runs
runs_longer n [] each = tt
runs_longer n (run ∷ runs) each = (run_longer n run each.0, runs_longer n runs each.1)

single_run : (n cell shift : ℕ) → stays_colour shift cell ≡ true → IsCellRun (suc n) (single cell shift)
single_run n cell shift good = record { some = omega arith; most = omega arith; colours = and_from (stays_colour shift cell) true good refl }

longer_run : (n cell shift : ℕ) (run : Run) → run.shift ≡ shift → stays_colour shift cell ≡ true → IsCellRun n run → IsCellRun (suc n) (longer cell shift run)
longer_run n cell shift run same good r = search (rules, and_from)

apart_longer : (cell shift : ℕ) (run : Run) (runs : List Run) → run.shift ≡ shift → AreApart (run ∷ runs) → AreApart (longer cell shift run ∷ runs)
apart_longer cell shift run runs same apart = search rules

is_single : (n cell shift : ℕ) (runs : List Run) → stays_colour shift cell ≡ true → (AreApart runs → AreApart (single cell shift ∷ runs)) → IsExtended n cell shift runs (single cell shift ∷ runs)
is_single n cell shift runs good apart = search (rules, single_run, runs_longer)

is_longer : (n cell shift : ℕ) (run : Run) (runs : List Run) → stays_colour shift cell ≡ true → run.shift ≡ shift → IsExtended n cell shift (run ∷ runs) (longer cell shift run ∷ runs)
is_longer n cell shift run runs good same = search (rules, longer_run, runs_longer, apart_longer)

is_extended : (n cell shift : ℕ) (runs : List Run) → stays_colour shift cell ≡ true → IsExtended n cell shift runs (extended cell shift runs)
is_extended n cell shift [] good = search (rules, extended_none, is_single)
is_extended n cell shift (run ∷ runs) good = go (eqb run.shift shift) refl
  where
    go : (b : Bool) → eqb run.shift shift ≡ b → IsExtended n cell shift (run ∷ runs) (extended cell shift (run ∷ runs))
    go true e = search (rules, extended_same, is_longer, eqb-true)
    go false e =
        subst (λ (made : List Run). IsExtended n cell shift (run ∷ runs) made) (sym (extended_other cell shift run runs e)) (is_single n cell shift (run ∷ runs) good (λ apart. (λ same. eqb-false run.shift shift e (sym same), apart)))

-- ---- the longest runs

-- runs that cut these cells, and none of them could be longer
pub record AreLongest (n : ℕ) (old new : List ℕ) (runs : List Run) : Type 0 where
  pub old_is : old_cells runs ≡ old
  pub new_is : new_cells runs ≡ new
  pub each : AllByRecursion (IsCellRun n) runs
  pub apart : AreApart runs

longest_cons : (cell value : ℕ) (old new : List ℕ) → longest (cell ∷ old) (value ∷ new) ≡ extended cell (colour_difference cell value) (longest old new)
unfolding longest
longest_cons cell value old new = refl

stays : (cell value : ℕ) → cell ≤ 8 → value ≤ 8 → stays_colour (colour_difference cell value) cell ≡ true
stays cell value low high = search (rules, and_from, le-leb)

pub are_longest : (n : ℕ) (old new : List ℕ) → length old ≡ length new → length old ≤ n → All IsColour old → All IsColour new → AreLongest n old new (longest old new)
unfolding longest
are_longest n [] [] same room colours values = record { old_is = refl; new_is = refl; each = tt; apart = tt }
are_longest n [] (value ∷ new) same room colours values = absurd (omega arith)
are_longest n (cell ∷ old) [] same room colours values = absurd (omega arith)
are_longest zero (cell ∷ old) (value ∷ new) same room colours values = absurd (omega arith)
are_longest (suc n) (cell ∷ old) (value ∷ new) same room colours values =
    let low = All-head IsColour cell old colours in
    let high = All-head IsColour value new values in
    let rest = are_longest n old new (omega arith) (omega arith) (All-tail IsColour cell old colours) (All-tail IsColour value new values) in
    let more = is_extended n cell (colour_difference cell value) (longest old new) (stays cell value low high) in
    let back : cell + colour_difference cell value - 8 ≡ value = omega arith in
    record {
      old_is = more.old_is ∙ ap (λ (xs : List ℕ). cell ∷ xs) rest.old_is;
      new_is = more.new_is ∙ (ap (λ (k : ℕ). k ∷ new_cells (longest old new)) back ∙ ap (λ (xs : List ℕ). value ∷ xs) rest.new_is);
      each = more.each rest.each;
      apart = more.apart rest.apart;
    }

-- cells that don't change are one run
longest_same : (cell : ℕ) (old : List ℕ) → longest (cell ∷ old) (cell ∷ old) ≡ record { old = cell ∷ old; shift = 8 } ∷ []
unfolding longest
longest_same cell [] = search (rules, extended_none)
longest_same cell (next ∷ old) = search (rules, extended_same, longest_same next old)

-- ---- the first run

pub same_count_cons : (shift cell value : ℕ) (old new : List ℕ) (b : Bool) → eqb (colour_difference cell value) shift ≡ b → same_count shift (cell ∷ old) (value ∷ new) ≡ cond b (suc (same_count shift old new)) 0
unfolding same_count
same_count_cons shift cell value old new b e = ap (λ (c : Bool). cond c (suc (same_count shift old new)) 0) e

pub same_count_none : (shift : ℕ) (new : List ℕ) → same_count shift [] new ≡ 0
unfolding same_count
same_count_none shift new = refl

-- the first run, and the runs behind it
abbrev pub from_first : ℕ → ℕ → List ℕ → List ℕ → List Run
from_first count shift old new = record { old = take count old; shift = shift } ∷ longest (drop count old) (drop count new)

alone : (cell value shift : ℕ) → extended cell shift (longest [] []) ≡ from_first 1 shift (cell ∷ []) (value ∷ [])
unfolding longest
alone cell value shift = extended_none cell shift

pub longest_first : (cell value : ℕ) (old new : List ℕ) → length old ≡ length new
    → longest (cell ∷ old) (value ∷ new) ≡ from_first (same_count (colour_difference cell value) (cell ∷ old) (value ∷ new)) (colour_difference cell value) (cell ∷ old) (value ∷ new)
longest_first cell value [] (next ∷ new) same = absurd (omega arith)
longest_first cell value (next ∷ old) [] same = absurd (omega arith)
longest_first cell value [] [] same =
    search (rules, same_count_cons, eq-eqb, same_count_none, (longest_cons cell value [] []), (alone cell value))
longest_first cell value (next ∷ old) (new_next ∷ new) same =
    search (rules, same_count_cons, eq-eqb, longest_cons, eqb-true, extended_same, extended_other, single, (longest_first next new_next old new))

-- ---- the record that is written

written_runs : (dialect : Dialect) (old new : List ℕ) → AreCells dialect old → AreCells dialect new → AreLongest (page_cell_count dialect) (shown dialect old) (shown dialect new) (longest (shown dialect old) (shown dialect new))
written_runs dialect old new sound made = search (rules, shown-length, are_longest, All-drop)

pub written_cuts : (dialect : Dialect) (old new : List ℕ) → AreCells dialect old → AreCells dialect new → Cuts dialect old new (written_record dialect old new)
unfolding written_record
written_cuts dialect old new sound made = search (rules, (written_runs dialect old new sound made))

pub written_apart : (dialect : Dialect) (old new : List ℕ) → AreCells dialect old → AreCells dialect new → AreApart (longest (shown dialect old) (shown dialect new))
written_apart dialect old new sound made = (written_runs dialect old new sound made).apart

some_longest : (cells : List ℕ) → 1 ≤ length cells → longest cells cells ≡ record { old = cells; shift = 8 } ∷ []
some_longest [] some = absurd (omega arith)
some_longest (cell ∷ cells) some = longest_same cell cells

-- cells that don't change are written as the run that changes none
pub written_same : (dialect : Dialect) (old : List ℕ) → AreCells dialect old → written_record dialect old old ≡ unchanged dialect
unfolding written_record whole_run
written_same dialect old sound = search (rules, shown-length, cell_count-most, some_longest, whole_run-digits)

-- where it stands, it is read
read_written : (dialect : Dialect) (ds : List ℕ) (place end : ℕ) (old new : List ℕ) → AreCells dialect old → AreCells dialect new → Stands ds place (written_record dialect old new) end
    → runs_at (page_cell_count dialect) ds place (page_cell_count dialect) (shown dialect old) ≡ Ok (shown dialect new, end)
unfolding written_record
read_written dialect ds place end old new sound made stands =
    search (rules, (written_runs dialect old new sound made), (cell_count-most dialect), (shown-length dialect old sound), read_from_runs)

pub written_read : (dialect : Dialect) (ds : List ℕ) (place end : ℕ) (old new : List ℕ) → AreCells dialect old → AreCells dialect new → Stands ds place (written_record dialect old new) end
    → record_at dialect ds place old ≡ Ok (record { cells = new; place = end; unchanged = is_unchanged dialect ds place })
written_read dialect ds place end old new sound made stands = search (rules, read_new, read_written, whole_cells)

-- a text stands in itself
stands_in_itself : (ds : List ℕ) → Stands ds 0 ds (length ds)
stands_in_itself ds = search (rules, append-nil, drop_all)

-- cells that change are not written as the run that changes none
pub written_other : (dialect : Dialect) (old new : List ℕ) → AreCells dialect old → AreCells dialect new → (new ≡ old → ⊥) → CutsOther dialect old new (written_record dialect old new)
written_other dialect old new sound made differ =
    record {
      cuts = written_cuts dialect old new sound made;
      other = λ (text : written_record dialect old new ≡ unchanged dialect).
          let ds = unchanged dialect in
          let there = stands_in_itself ds in
          let written = read_written dialect ds 0 (length ds) old new sound made (subst (λ (xs : List ℕ). Stands ds 0 xs (length ds)) (sym text) there) in
          let kept = read_unchanged dialect ds 0 (length ds) old sound there in
          let same = done_pair (shown dialect new, length ds) (shown dialect old, length ds) (sym written ∙ kept) in
          let cells : shown dialect new ≡ shown dialect old = ap (λ (x : List ℕ × ℕ). x.0) same in
          differ (sym (whole_cells dialect new made) ∙ (ap (λ (xs : List ℕ). replicate (missing_count dialect) 0 ++ xs) cells ∙ whole_cells dialect old sound));
    }

pub written_digits : (dialect : Dialect) (old new : List ℕ) → AreDigits (written_record dialect old new)
unfolding written_record
written_digits dialect old new = search (rules, AreDigits-flat_map, AreDigits-digits)
