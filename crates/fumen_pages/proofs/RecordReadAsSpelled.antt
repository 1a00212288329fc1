-- A record that is read stands there, and what stands there is read; a fault is the first one there.
use Rattle.std.proofs.Common.{◌≡◌, ℕ, ◌+◌, ◌-◌, ◌*◌, ◌≤◌, Bool, true, false, List, [], ◌∷◌, ◌++◌, length, take, drop, All, Result, Ok, Err, refl, sym, ap, subst, ◌∙◌, inl, inr, arith, rules}
use Rattle.std.specs.Prelude.{replicate, nat_eq}
use Rattle.std.specs.List.{list_all, flat_map, starts_with, AllByRecursion}
use Rattle.std.specs.Cmp.Lexicographic.{pointwise_decides}
use Rattle.std.proofs.lemmas.Bool.{eqb-true, eq-eqb, le-leb, and_from, and_parts, leb-true, cases_Bool, both_ways}
use Rattle.std.proofs.lemmas.List.{append-nil, take_at, drop_at, drop-drop, take-append-drop, length-append, length-drop, length-map, length-replicate, length-take}
use Rattle.std.proofs.lemmas.List.Elements.{All-nil, All-cons, All-head, All-tail, All-append, All-replicate, All-drop}
use Rattle.std.proofs.lemmas.Grind.{common_steps}
use Rattle.fumen_digits.specs.declared.dialect.Dialect.{Dialect}
use Rattle.fumen_digits.specs.Dialect.{page_cell_count}
use Rattle.fumen_digits.specs.Number.{Stands}
use Rattle.fumen_digits.specs.declared.fault.FumenFault.{FumenFault}
use Rattle.fumen_digits.proofs.CallerLemmas.{bind_ok, bind_err, ok_bind, err_bind, length-digits, Stands-is, Stands-same}
use Rattle.fumen_pages.specs.declared.record.CellsRead.{CellsRead}
use Rattle.fumen_pages.specs.Cells.{IsColour, missing_count, shown, AreCells}
use Rattle.fumen_pages.specs.Record.{Run, IsCellRun, moved_by, stays_colour, run_digits, unchanged, IsRecord}
use Rattle.fumen_pages.specs.Reading.{runs_at, record_at}
use Rattle.fumen_pages.specs.Faults.{RecordStands, IsRecordFault}
use Rattle.fumen_pages.proofs.RunsReadAsSpelled.{RunsStand, old_cells, new_cells, runs_from_read, read_from_runs, runs_fault_from_read, read_from_runs_fault}

-- ---- how many cells

pub cell_count-most : (dialect : Dialect) → (1 ≤ page_cell_count dialect) × (page_cell_count dialect ≤ 240) × (missing_count dialect + page_cell_count dialect ≡ 240)
cell_count-most dialect = search rules

pub shown-length : (dialect : Dialect) (cells : List ℕ) → AreCells dialect cells → length (shown dialect cells) ≡ page_cell_count dialect
shown-length dialect cells sound = search (rules, cell_count-most, length-drop)

-- cells are the empty ones of missing rows, and those that are shown
pub whole_cells : (dialect : Dialect) (cells : List ℕ) → AreCells dialect cells → replicate (missing_count dialect) 0 ++ shown dialect cells ≡ cells
whole_cells dialect cells sound = search (rules, take-append-drop)

-- ---- moved cells

moved-colours : (shift : ℕ) (cells : List ℕ) → list_all (stays_colour shift) cells ≡ true → All IsColour (moved_by shift cells)
moved-colours shift [] good = All-nil IsColour
moved-colours shift (cell ∷ cells) good = search (rules, and_parts, leb-true, All-cons, (moved-colours shift cells))

-- what runs make are as many cells, and colours
record AreMade (old new : List ℕ) : Type 0 where
  size : length new ≡ length old
  colours : All IsColour new

runs_make : (n : ℕ) (runs : List Run) → AllByRecursion (IsCellRun n) runs → AreMade (old_cells runs) (new_cells runs)
runs_make n [] each = record { size = refl; colours = All-nil IsColour }
runs_make n (run ∷ runs) each =
    let rest = runs_make n runs each.1 in
    let moved = moved_by run.shift run.old in
    record {
      size = length-append moved (new_cells runs) ∙ (ap (λ (k : ℕ). k + length (new_cells runs)) (length-map run.old _) ∙ (ap (λ (k : ℕ). length run.old + k) rest.size ∙ sym (length-append run.old (old_cells runs))));
      colours = All-append IsColour moved (new_cells runs) (moved-colours run.shift run.old each.0.colours) rest.colours;
    }

-- cells that are not moved
moved-none : (cells : List ℕ) → moved_by 8 cells ≡ cells
moved-none [] = refl
moved-none (cell ∷ cells) = search (rules, moved-none cells)

none-colours : (cells : List ℕ) → All IsColour cells → list_all (stays_colour 8) cells ≡ true
none-colours [] all = refl
none-colours (cell ∷ cells) all =
    search (rules, All-head, and_from, le-leb, All-tail, none-colours cells (All-tail IsColour cell cells all))

-- ---- the run that changes no cell

unfoldable pub whole_run : Dialect → List ℕ → Run
whole_run dialect old = record { old = shown dialect old; shift = 8 }

whole_run-is : (dialect : Dialect) (old : List ℕ) → AreCells dialect old → IsCellRun (page_cell_count dialect) (whole_run dialect old)
unfolding whole_run
whole_run-is dialect old sound = search (rules, shown-length, cell_count-most, none-colours, All-drop)

pub whole_run-digits : (dialect : Dialect) (old : List ℕ) → AreCells dialect old → flat_map (run_digits (page_cell_count dialect)) (whole_run dialect old ∷ []) ≡ unchanged dialect
unfolding whole_run
whole_run-digits dialect old sound = search (rules, append-nil, shown-length)

-- where it stands, it is read
pub read_unchanged : (dialect : Dialect) (ds : List ℕ) (place end : ℕ) (old : List ℕ) → AreCells dialect old → Stands ds place (unchanged dialect) end → runs_at (page_cell_count dialect) ds place (page_cell_count dialect) (shown dialect old) ≡ Ok (shown dialect old, end)
unfolding whole_run
read_unchanged dialect ds place end old sound stands =
    let n = page_cell_count dialect in
    let run = whole_run dialect old in
    let cells = shown dialect old in
    let most = cell_count-most dialect in
    let len = shown-length dialect old sound in
    let one : old_cells (run ∷ []) ≡ cells = append-nil cells in
    let new : new_cells (run ∷ []) ≡ cells = append-nil (moved_by 8 cells) ∙ moved-none cells in
    let room : length (old_cells (run ∷ [])) ≤ n = omega (arith, ap length one) in
    let there = subst (λ (x : List ℕ). Stands ds place x end) (sym (whole_run-digits dialect old sound)) stands in
    ap (λ (xs : List ℕ). runs_at n ds place n xs) (sym one) ∙ (read_from_runs n ds (run ∷ []) place end n most.1 (whole_run-is dialect old sound, tt) room there ∙ ap (λ (xs : List ℕ). Ok (xs, end)) new)

-- ---- whether it stands there

unchanged-length : (dialect : Dialect) → length (unchanged dialect) ≡ 2
unchanged-length dialect = length-digits 2 (8 * page_cell_count dialect + (page_cell_count dialect - 1))

abbrev pub is_unchanged : Dialect → List ℕ → ℕ → Bool
is_unchanged dialect ds place = starts_with nat_eq (drop place ds) (unchanged dialect)

abbrev front_decides : (xs needle : List ℕ) → (starts_with nat_eq xs needle ≡ true → needle ≡ take (length needle) xs) × (needle ≡ take (length needle) xs → starts_with nat_eq xs needle ≡ true)
front_decides xs needle = pointwise_decides (λ a b. (eqb-true a b, eq-eqb a b)) needle (take (length needle) xs)

stands_from_front : (dialect : Dialect) (ds : List ℕ) (place : ℕ) → place ≤ length ds → is_unchanged dialect ds place ≡ true → Stands ds place (unchanged dialect) (place + 2)
stands_from_front dialect ds place le e = search (
  rules,
  (unchanged-length dialect),
  (front_decides (drop place ds)),
  (length-take 2 (drop place ds)),
  (length-drop place ds),
  (take-append-drop 2 (drop place ds)),
  (drop-drop 2 place ds),
)

front_from_stands : (dialect : Dialect) (ds : List ℕ) (place end : ℕ) → Stands ds place (unchanged dialect) end → is_unchanged dialect ds place ≡ true
front_from_stands dialect ds place end stands = (front_decides (drop place ds) (unchanged dialect)).1 (Stands-is ds place (unchanged dialect) end stands)

-- ---- the record

made : Dialect → List ℕ → ℕ → List ℕ × ℕ → CellsRead
made dialect ds place new =
    record { cells = replicate (missing_count dialect) 0 ++ new.0; place = new.1; unchanged = is_unchanged dialect ds place }

same_read : (x y : CellsRead) → x.cells ≡ y.cells → x.place ≡ y.place → x.unchanged ≡ y.unchanged → x ≡ y
same_read x y a b c = λ i. record { cells = a i; place = b i; unchanged = c i }

done_read : (x y : CellsRead) → ◌≡◌ {A = Result CellsRead FumenFault} (Ok x) (Ok y) → x ≡ y
done_read x y e = cc

pub done_pair : (x y : List ℕ × ℕ) → ◌≡◌ {A = Result (List ℕ × ℕ) FumenFault} (Ok x) (Ok y) → x ≡ y
done_pair x y e = cc

-- new cells of the dialect
made-sound : (dialect : Dialect) (old : List ℕ) (new : List ℕ) → AreCells dialect old → length new ≡ length (shown dialect old) → All IsColour new → AreCells dialect (replicate (missing_count dialect) 0 ++ new)
made-sound dialect old new sound size colours =
    grind (arith, common_steps, length-replicate, cell_count-most, shown-length, length-append, All-append, All-replicate, take_at)

shown-made : (dialect : Dialect) (new : List ℕ) → shown dialect (replicate (missing_count dialect) 0 ++ new) ≡ new
shown-made dialect new = drop_at (replicate (missing_count dialect) 0) new (missing_count dialect) (length-replicate (missing_count dialect) 0)

-- what is read are new cells of the dialect, by a record that stands there
pub record RecordRead (dialect : Dialect) (ds : List ℕ) (place : ℕ) (old : List ℕ) (read : CellsRead) : Type 0 where
  pub stands : RecordStands dialect ds place old read
  pub sound : AreCells dialect read.cells

read_of_runs : (dialect : Dialect) (ds : List ℕ) (place : ℕ) (old : List ℕ) (new : List ℕ × ℕ) → place ≤ length ds → AreCells dialect old → runs_at (page_cell_count dialect) ds place (page_cell_count dialect) (shown dialect old) ≡ Ok new → RecordRead dialect ds place old (made dialect ds place new)
unfolding made
read_of_runs dialect ds place old new le sound e = go (is_unchanged dialect ds place) refl
  where
    n : ℕ
    n = page_cell_count dialect

    runs : RunsStand n ds place (shown dialect old) new.0 new.1
    runs = let most = cell_count-most dialect in let len = shown-length dialect old sound in runs_from_read n ds place n (shown dialect old) new (omega arith) le (omega arith) e

    same : AreMade (shown dialect old) new.0
    same = subst (λ (xs : List ℕ). AreMade xs new.0) (sym runs.cut.from) (subst (λ (xs : List ℕ). AreMade (old_cells runs.runs) xs) (sym runs.cut.to) (runs_make n runs.runs runs.cut.each))

    cells : List ℕ
    cells = replicate (missing_count dialect) 0 ++ new.0

    new_sound : AreCells dialect cells
    new_sound = made-sound dialect old new.0 sound same.size same.colours

    whole : (b : Bool) → is_unchanged dialect ds place ≡ b → (text : List ℕ) → Stands ds place text new.1 → IsRecord dialect old cells b text → RecordRead dialect ds place old (record { cells = cells; place = new.1; unchanged = is_unchanged dialect ds place })
    whole b is text stands spells = record { stands = record { text = text; stands = stands; spells = subst (λ (c : Bool). IsRecord dialect old cells c text) (sym is) spells }; sound = new_sound }

    go : (b : Bool) → is_unchanged dialect ds place ≡ b → RecordRead dialect ds place old (record { cells = cells; place = new.1; unchanged = is_unchanged dialect ds place })
    go true is =
        let there = stands_from_front dialect ds place le is in
        let pair = done_pair new (shown dialect old, place + 2) (sym e ∙ read_unchanged dialect ds place (place + 2) old sound there) in
        let end : place + 2 ≡ new.1 = sym (ap (λ (x : List ℕ × ℕ). x.1) pair) in
        let kept : cells ≡ old = ap (λ (x : List ℕ × ℕ). replicate (missing_count dialect) 0 ++ x.0) pair ∙ whole_cells dialect old sound in
        whole true is (unchanged dialect) (subst (λ (k : ℕ). Stands ds place (unchanged dialect) k) end there) (kept, refl)
    go false is = search (rules, whole, runs, new_sound, shown-made, both_ways, front_from_stands)

pub read_from_ok : (dialect : Dialect) (ds : List ℕ) (place : ℕ) (old : List ℕ) (read : CellsRead) → place ≤ length ds → AreCells dialect old → record_at dialect ds place old ≡ Ok read → RecordRead dialect ds place old read
unfolding record_at made
read_from_ok dialect ds place old read le sound e =
    let new = bind_ok (runs_at (page_cell_count dialect) ds place (page_cell_count dialect) (shown dialect old)) (λ x. Ok (made dialect ds place x)) read e in
    subst (λ (x : CellsRead). RecordRead dialect ds place old x) (done_read (made dialect ds place new.0) read new.2) (read_of_runs dialect ds place old new.0 le sound new.1)

pub record_from_read : (dialect : Dialect) (ds : List ℕ) (place : ℕ) (old : List ℕ) (read : CellsRead) → place ≤ length ds → AreCells dialect old → record_at dialect ds place old ≡ Ok read → RecordStands dialect ds place old read
record_from_read dialect ds place old read le sound e = (read_from_ok dialect ds place old read le sound e).stands

-- the runs of a record are read
pub read_new : (dialect : Dialect) (ds : List ℕ) (place : ℕ) (old : List ℕ) (new : List ℕ) (end : ℕ) (read : CellsRead) → runs_at (page_cell_count dialect) ds place (page_cell_count dialect) (shown dialect old) ≡ Ok (new, end) → replicate (missing_count dialect) 0 ++ new ≡ read.cells → end ≡ read.place → is_unchanged dialect ds place ≡ read.unchanged → record_at dialect ds place old ≡ Ok read
unfolding record_at made
read_new dialect ds place old new end read e cells place_is same = search (rules, ok_bind, made, same_read)

read_from_spelled : (dialect : Dialect) (ds : List ℕ) (place : ℕ) (old : List ℕ) (read : CellsRead) (text : List ℕ) (b : Bool) → AreCells dialect old → Stands ds place text read.place → read.unchanged ≡ b → IsRecord dialect old read.cells b text → record_at dialect ds place old ≡ Ok read
read_from_spelled dialect ds place old read text true sound stands flag spells =
    let there = subst (λ (xs : List ℕ). Stands ds place xs read.place) spells.1 stands in
    read_new dialect ds place old (shown dialect old) read.place read (read_unchanged dialect ds place read.place old sound there) (whole_cells dialect old sound ∙ sym spells.0) refl (front_from_stands dialect ds place read.place there ∙ sym flag)
read_from_spelled dialect ds place old read text false sound stands flag spells =
    let n = page_cell_count dialect in
    let cuts = spells.cuts in
    let cut = cuts.cut in
    let most = cell_count-most dialect in
    let len = shown-length dialect old sound in
    let room : length (old_cells cuts.runs) ≤ n = omega (arith, ap length cut.from) in
    let there = subst (λ (xs : List ℕ). Stands ds place xs read.place) cut.spelled stands in
    let runs : runs_at n ds place n (shown dialect old) ≡ Ok (shown dialect read.cells, read.place) = ap (λ (xs : List ℕ). runs_at n ds place n xs) cut.from ∙ (read_from_runs n ds cuts.runs place read.place n most.1 cut.each room there ∙ ap (λ (xs : List ℕ). Ok (xs, read.place)) (sym cut.to)) in
    let within : place ≤ length ds = omega (arith, stands.upto, stands.within) in
    let other : is_unchanged dialect ds place ≡ false = elim (cases_Bool (is_unchanged dialect ds place)) [
      | inl begins ↦
          let same = stands_from_front dialect ds place within begins in
          let pair = done_pair (shown dialect read.cells, read.place) (shown dialect old, place + 2) (sym runs ∙ read_unchanged dialect ds place (place + 2) old sound same) in
          let end : read.place ≡ place + 2 = ap (λ (x : List ℕ × ℕ). x.1) pair in
          let two : length text ≡ length (unchanged dialect) = omega (arith, stands.upto, unchanged-length dialect) in
          absurd (spells.other (Stands-same ds place text (unchanged dialect) read.place (place + 2) stands same two))
      | inr differs ↦ differs
    ] in
    read_new dialect ds place old (shown dialect read.cells) read.place read runs (whole_cells dialect read.cells cuts.new_cells) refl (other ∙ sym flag)

pub read_from_record : (dialect : Dialect) (ds : List ℕ) (place : ℕ) (old : List ℕ) (read : CellsRead) → AreCells dialect old → RecordStands dialect ds place old read → record_at dialect ds place old ≡ Ok read
read_from_record dialect ds place old read sound s = read_from_spelled dialect ds place old read s.text read.unchanged sound s.stands refl s.spells

-- ---- faults

pub record_fault_from_read : (dialect : Dialect) (ds : List ℕ) (place : ℕ) (old : List ℕ) (f : FumenFault) → place ≤ length ds → AreCells dialect old → record_at dialect ds place old ≡ Err f → IsRecordFault dialect ds place old f
unfolding record_at made
record_fault_from_read dialect ds place old f le sound e =
    search (rules, cell_count-most, shown-length, bind_err, made, runs_fault_from_read)

pub read_from_record_fault : (dialect : Dialect) (ds : List ℕ) (place : ℕ) (old : List ℕ) (f : FumenFault) → AreCells dialect old → IsRecordFault dialect ds place old f → record_at dialect ds place old ≡ Err f
unfolding record_at made
read_from_record_fault dialect ds place old f sound bad =
    search (rules, (cell_count-most dialect), (shown-length dialect old sound), err_bind, (made dialect ds place), read_from_runs_fault)
