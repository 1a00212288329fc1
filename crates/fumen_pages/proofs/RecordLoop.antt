-- Reading a record run by run, and moving the cells of a run, as loops do.
use Rattle.std.proofs.Common.{◌≡◌, ℕ, zero, suc, ◌+◌, ◌-◌, ◌<◌, ◌≤◌, Bool, true, List, ◌++◌, length, get_or, set, take, drop, All, Result, Ok, Err, refl, sym, ap, subst, ◌∙◌, append_assoc, arith, rules}
use Rattle.std.specs.Prelude.{replicate, nat_eq}
use Rattle.std.specs.List.{list_all, starts_with}
use Rattle.std.proofs.lemmas.Bool.{and_parts, leb-true}
use Rattle.std.proofs.lemmas.List.{append-nil, take_rest, take_all, drop_more, drop_all, drop_at, drop-append-le, take_at, take-append-drop, take-append-le, take-take, length-append, length-drop, length-map, length-take-le, get_or_at, get_or_default}
use Rattle.std.proofs.lemmas.List.Edits.{map_over_more}
use Rattle.std.proofs.lemmas.List.Elements.{All-drop}
use Rattle.std.proofs.lemmas.Grind.{common_steps}
use borrow.Rule.Slice.PartMut.{put_mid, mid_of}
use Rattle.srs.proofs.CallerLemmas.{list_all_each}
use Rattle.fumen_digits.specs.declared.dialect.Dialect.{Dialect}
use Rattle.fumen_digits.specs.Dialect.{page_cell_count}
use Rattle.fumen_digits.specs.declared.fault.FumenFault.{FumenFault}
use Rattle.fumen_digits.specs.Reading.{◌>>=◌}
use Rattle.fumen_digits.proofs.CallerLemmas.{ok_bind, err_bind}
use Rattle.fumen_comment.proofs.CallerLemmas.{with_front, from_nothing, regroup}
use Rattle.fumen_pages.specs.Cells.{IsColour, missing_count, shown, AreCells}
use Rattle.fumen_pages.specs.Record.{moved_by, stays_colour, unchanged}
use Rattle.fumen_pages.specs.Reading.{run_at, runs_at, record_at}
use Rattle.fumen_pages.proofs.RunsReadAsSpelled.{rest_of, runs_more, runs_none}
use Rattle.fumen_pages.proofs.RecordReadAsSpelled.{shown-length, cell_count-most}

-- ---- cells that are moved one after another

-- the first cells are moved, and the others stand as before
abbrev pub AreMoved : ℕ → List ℕ → ℕ → List ℕ → Type 0
AreMoved shift old i cells = cells ≡ moved_by shift (take i old) ++ drop i old

-- the next one still stands
pub moved_next : (shift : ℕ) (old : List ℕ) (i : ℕ) (cells : List ℕ) → i < length old → AreMoved shift old i cells → get_or cells i 0 ≡ get_or old i 0
moved_next shift old i cells lt is = search (rules, length-map, length-take-le, drop_more, get_or_at)

-- with its difference it is a colour
pub moved_fits : (shift : ℕ) (old : List ℕ) (i : ℕ) (cells : List ℕ) → i < length old → list_all (stays_colour shift) old ≡ true → AreMoved shift old i cells → (8 ≤ get_or cells i 0 + shift) × (get_or cells i 0 + shift ≤ 16)
moved_fits shift old i cells lt all is =
    search (rules, and_parts, (list_all_each (stays_colour shift) old i 0 all lt), (leb-true 8), (moved_next shift old i cells lt is))

pub moved_more : (shift : ℕ) (old : List ℕ) (i : ℕ) (cells : List ℕ) → i < length old → length cells ≡ length old → AreMoved shift old i cells → AreMoved shift old (i + 1) (set cells i (get_or cells i 0 + shift - 8))
moved_more shift old i cells lt len is =
    let inside : i < length cells = omega arith in
    map_over_more (λ (cell : ℕ). cell + shift - 8) old cells i (get_or cells i 0) lt is (get_or_default cells i 0 (get_or cells i 0) inside)

-- ---- runs that are read one after another

-- the cells before start are new, and what is left of the old ones completes them
pub record AreReadSoFar (dialect : Dialect) (ds : List ℕ) (place : ℕ) (old cells : List ℕ) (start behind : ℕ) : Type 0 where
  pub most : ℕ
  pub size : length cells ≡ 240
  pub from : missing_count dialect ≤ start
  pub room : length (drop start cells) ≤ most
  pub upto : start ≤ 240
  pub within : behind ≤ length ds
  pub colours : All IsColour (drop start cells)
  pub missing : take (missing_count dialect) cells ≡ replicate (missing_count dialect) 0
  pub completes : with_front (drop (missing_count dialect) (take start cells)) (runs_at (page_cell_count dialect) ds behind most (drop start cells)) ≡ runs_at (page_cell_count dialect) ds place (page_cell_count dialect) (shown dialect old)

pub read_starts : (dialect : Dialect) (ds : List ℕ) (place : ℕ) (old : List ℕ) (start : ℕ) → AreCells dialect old → place ≤ length ds → start ≡ missing_count dialect → AreReadSoFar dialect ds place old old start place
read_starts dialect ds place old start sound le at =
    search (rules, (shown-length dialect old sound), (cell_count-most dialect), length-take-le, drop_all, (All-drop IsColour start old sound.colours), from_nothing)

-- one more run, if there is room for it
record IsMore (most : ℕ) (left : List ℕ) : Type 0 where
  less : ℕ
  is : most ≡ suc less
  some : 1 ≤ length left

one_more : (most start : ℕ) (cells : List ℕ) → length cells ≡ 240 → start < 240 → length (drop start cells) ≤ most → IsMore most (drop start cells)
one_more zero start cells size lt room = absurd (omega (arith, length-drop start cells))
one_more (suc less) start cells size lt room = record { less = less; is = refl; some = omega (arith, length-drop start cells) }

-- the cells that the run is over
abbrev rest_cells : List ℕ → ℕ → List ℕ
rest_cells cells start = take (240 - start) (drop start cells)

rest_cells-all : (cells : List ℕ) (start : ℕ) → length cells ≡ 240 → rest_cells cells start ≡ drop start cells
rest_cells-all cells start size = take_all (240 - start) (drop start cells) (omega (arith, length-drop start cells))

pub read_more : (dialect : Dialect) (ds : List ℕ) (place : ℕ) (old cells : List ℕ) (start behind count shift : ℕ) (moved : List ℕ) (k : ℕ) → start < 240 → behind + 2 ≤ length ds → 1 ≤ count → count ≤ length (rest_cells cells start) → k ≡ count
    → run_at (page_cell_count dialect) ds behind (rest_cells cells start) ≡ Ok (count, shift) → moved ≡ moved_by shift (mid_of start k cells) → AreReadSoFar dialect ds place old cells start behind
    → AreReadSoFar dialect ds place old (put_mid start k cells moved) (start + count) (behind + 2)
read_more dialect ds place old cells start behind count shift moved k lt behind_run least among at made_run is s =
    let m = missing_count dialect in
    let n = page_cell_count dialect in
    let left = drop start cells in
    let more = one_more s.most start cells s.size lt s.room in
    let total = length-drop start cells in
    let whole_rest = rest_cells-all cells start s.size in
    let fits : count ≤ length left = omega (arith, ap length whole_rest) in
    let read : run_at n ds behind left ≡ Ok (count, shift) = ap (λ (xs : List ℕ). run_at n ds behind xs) (sym whole_rest) ∙ made_run in
    let moved_is : moved ≡ moved_by shift (take count left) = is ∙ ap (λ (j : ℕ). moved_by shift (take j left)) at in
    let len : length moved ≡ count = ap length moved_is ∙ (length-map (take count left) _ ∙ length-take-le count left fits) in
    let front = take start cells in
    let front_len : length front ≡ start = length-take-le start cells (omega (arith, s.size)) in
    let written : put_mid start k cells moved ≡ (front ++ moved) ++ drop count left = ap (λ (j : ℕ). put_mid start j cells moved) at ∙ sym (append_assoc front moved (drop count left)) in
    let both : length (front ++ moved) ≡ start + count = length-append front moved ∙ omega arith in
    let first : take (start + count) (put_mid start k cells moved) ≡ front ++ moved = ap (λ (xs : List ℕ). take (start + count) xs) written ∙ take_at (front ++ moved) (drop count left) (start + count) both in
    let last : drop (start + count) (put_mid start k cells moved) ≡ drop count left = ap (λ (xs : List ℕ). drop (start + count) xs) written ∙ drop_at (front ++ moved) (drop count left) (start + count) both in
    let rest = length-drop count left in
    let whole : length (put_mid start k cells moved) ≡ 240 = ap length written ∙ (length-append (front ++ moved) (drop count left) ∙ omega (arith, s.size)) in
    let reach : m ≤ length front = omega (arith, s.from) in
    let kept : take m (put_mid start k cells moved) ≡ take m cells = ap (λ (xs : List ℕ). take m xs) (written ∙ append_assoc front moved (drop count left)) ∙ (take-append-le m front (moved ++ drop count left) reach ∙ take-take m start cells s.from) in
    let shown_front : drop m (take (start + count) (put_mid start k cells moved)) ≡ drop m front ++ moved_by shift (take count left) = ap (λ (xs : List ℕ). drop m xs) first ∙ (drop-append-le m front moved reach ∙ ap (λ (xs : List ℕ). drop m front ++ xs) moved_is) in
    let after = runs_at n ds (behind + 2) more.less (drop count left) in
    let step : runs_at n ds behind s.most left ≡ (after >>= λ x. Ok (moved_by shift (take count left) ++ x.0, x.1)) = ap (λ (j : ℕ). runs_at n ds behind j left) more.is ∙ (runs_more n ds behind more.less left more.some ∙ ok_bind (run_at n ds behind left) (λ run. rest_of n ds behind more.less left run) (count, shift) read) in
    record {
      most = more.less;
      size = whole;
      from = omega (arith, s.from);
      room = omega (arith, ap length last, s.room, more.is);
      upto = omega (arith, s.size);
      within = behind_run;
      colours = subst (λ (xs : List ℕ). All IsColour xs) (sym last) (All-drop IsColour count left s.colours);
      missing = kept ∙ s.missing;
      completes = ap (λ (xs : List ℕ). with_front xs (runs_at n ds (behind + 2) more.less (drop (start + count) (put_mid start k cells moved)))) shown_front
          ∙ (ap (λ (xs : List ℕ). with_front (drop m front ++ moved_by shift (take count left)) (runs_at n ds (behind + 2) more.less xs)) last
          ∙ (sym (regroup (drop m front) (moved_by shift (take count left)) after) ∙ (ap (λ (r : Result (List ℕ × ℕ) FumenFault). with_front (drop m front) r) (sym step) ∙ s.completes)));
    }

-- whether the record begins with the run that changes no cell
pub same_front : (dialect : Dialect) (ds : List ℕ) (place : ℕ) (text : List ℕ) → text ≡ unchanged dialect → starts_with nat_eq (take (length ds - place) (drop place ds)) text ≡ starts_with nat_eq (drop place ds) (unchanged dialect)
same_front dialect ds place text is = search (rules, take_rest)

pub read_stops : (dialect : Dialect) (ds : List ℕ) (place : ℕ) (old cells : List ℕ) (start behind : ℕ) (f : FumenFault) → start < 240 → run_at (page_cell_count dialect) ds behind (rest_cells cells start) ≡ Err f → AreReadSoFar dialect ds place old cells start behind
    → record_at dialect ds place old ≡ Err f
unfolding record_at with_front
read_stops dialect ds place old cells start behind f lt failed_run s =
    search (rules, (one_more s.most start cells s.size lt s.room), (rest_cells-all cells start s.size), runs_more, err_bind)

pub read_ends : (dialect : Dialect) (ds : List ℕ) (place : ℕ) (old cells : List ℕ) (start behind : ℕ) (same : Bool) → 240 ≤ start → same ≡ starts_with nat_eq (drop place ds) (unchanged dialect) → AreReadSoFar dialect ds place old cells start behind
    → record_at dialect ds place old ≡ Ok (record { cells = cells; place = behind; unchanged = same })
unfolding record_at with_front
read_ends dialect ds place old cells start behind same end is s =
    grind (arith, common_steps, length-drop, append-nil, drop_all, take-append-drop, with_front, runs_none, ok_bind)
