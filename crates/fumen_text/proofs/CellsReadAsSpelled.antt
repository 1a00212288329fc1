-- The cells of a page, promised or not: what is read stands there, and what stands there is read; a fault is the first one there.
use Rattle.std.proofs.Common.{◌≡◌, ℕ, zero, suc, ◌+◌, ◌<◌, ◌≤◌, Bool, true, false, cond, List, ◌++◌, length, Result, Ok, Err, refl, sym, ap, subst, ◌∙◌, inl, inr, arith, rules}
use Rattle.fumen_digits.specs.declared.dialect.Dialect.{Dialect}
use Rattle.fumen_digits.specs.Number.{digits, Stands}
use Rattle.fumen_digits.specs.declared.fault.FumenFault.{FumenFault}
use Rattle.fumen_digits.specs.Reading.{◌>>=◌, number_at}
use Rattle.fumen_digits.proofs.CallerLemmas.{bind_ok, bind_err, ok_bind, err_bind, length-digits, Stands-nil, Stands-then, Stands-parts, stands_from_read, read_from_stands, number_fault_from_read, read_from_number_fault}
use Rattle.fumen_pages.specs.declared.record.CellsRead.{CellsRead}
use Rattle.fumen_pages.specs.Cells.{AreCells}
use Rattle.fumen_pages.specs.Record.{unchanged, IsRecord}
use Rattle.fumen_pages.specs.Reading.{record_at}
use Rattle.fumen_pages.specs.Faults.{RecordStands}
use Rattle.fumen_pages.proofs.CallerLemmas.{record_from_read, read_from_record, record_fault_from_read, read_from_record_fault}
use Rattle.fumen_text.specs.declared.page_reader.PageReader.{PageReader}
use Rattle.fumen_text.specs.Spells.{SpellsCells}
use Rattle.fumen_text.specs.Faults.{CellsStand, IsCellsFault}
use Rattle.fumen_text.specs.Reading.{reader, promise_at, page_cells_at}

done_reader : (x y : PageReader) → ◌≡◌ {A = Result PageReader FumenFault} (Ok x) (Ok y) → x ≡ y
done_reader x y e = cc

-- the place behind a record, by whether it is the unchanged run
abbrev promise_by : List ℕ → CellsRead → Bool → Result PageReader FumenFault
promise_by ds read unchanged =
    cond unchanged (number_at ds read.place 1 >>= λ after. Ok (reader (read.place + 1) read.cells after)) (Ok (reader read.place read.cells 0))

-- a record of this kind stands at a place
record KindStands (d : Dialect) (ds : List ℕ) (place : ℕ) (before : List ℕ) (read : CellsRead) (kind : Bool) : Type 0 where
  text : List ℕ
  stands : Stands ds place text read.place
  spells : IsRecord d before read.cells kind text

kind_stands : (d : Dialect) (ds : List ℕ) (place : ℕ) (before : List ℕ) (read : CellsRead) (kind : Bool) → read.unchanged ≡ kind → RecordStands d ds place before read → KindStands d ds place before read kind
kind_stands d ds place before read kind e s = search rules

-- ---- what is read stands there

promise_from_read : (d : Dialect) (ds : List ℕ) (place : ℕ) (before : List ℕ) (read : CellsRead) (at : PageReader) (kind : Bool) → KindStands d ds place before read kind → promise_by ds read kind ≡ Ok at
    → CellsStand d ds place before 0 at.place at.cells at.promised
promise_from_read d ds place before read at true s e =
    let n = bind_ok (number_at ds read.place 1) (λ after. Ok (reader (read.place + 1) read.cells after)) at e in
    let number = stands_from_read ds read.place read.place 1 n.0 s.stands.within n.1 in
    subst (λ (x : PageReader). CellsStand d ds place before 0 x.place x.cells x.promised) (done_reader (reader (read.place + 1) read.cells n.0) at n.2) (record {
      text = s.text ++ digits 1 n.0;
      stands = Stands-then ds place s.text read.place (digits 1 n.0) (read.place + 1) s.stands number.stands;
      spells = inr (record { same = s.spells.0; few = omega (arith, number.below); spelled = ap (λ (x : List ℕ). x ++ digits 1 n.0) s.spells.1 });
    })
promise_from_read d ds place before read at false s e = search (rules, done_reader)

pub cells_from_read : (d : Dialect) (ds : List ℕ) (place : ℕ) (before : List ℕ) (promised : ℕ) (at : PageReader) → place ≤ length ds → AreCells d before → page_cells_at d ds place before promised ≡ Ok at
    → CellsStand d ds place before promised at.place at.cells at.promised
unfolding page_cells_at
cells_from_read d ds place before zero at le cells e =
    let r = bind_ok (record_at d ds place before) (λ read. promise_at ds read) at e in
    promise_from_read d ds place before r.0 at r.0.unchanged (kind_stands d ds place before r.0 r.0.unchanged refl (record_from_read d ds place before r.0 le cells r.1)) r.2
cells_from_read d ds place before (suc left) at le cells e = search (rules, done_reader, Stands-nil)

-- they may be a page's
pub sound_cells : (d : Dialect) (before : List ℕ) (promised : ℕ) (cells : List ℕ) (after : ℕ) (text : List ℕ) → AreCells d before → SpellsCells d before promised cells after text → AreCells d cells
sound_cells d before promised cells after text sound spelled = search rules

-- ---- what stands there is read

read_number : (ds : List ℕ) (m n j : ℕ) → n < 64 → Stands ds m (digits 1 n) j → (number_at ds m 1 ≡ Ok n) × (m + 1 ≡ j)
read_number ds m n j few s = search (rules, length-digits, read_from_stands)

cells_spelled : (d : Dialect) (ds : List ℕ) (place : ℕ) (before : List ℕ) (promised j : ℕ) (cells : List ℕ) (after : ℕ) (text : List ℕ) → AreCells d before → Stands ds place text j → SpellsCells d before promised cells after text
    → page_cells_at d ds place before promised ≡ Ok (reader j cells after)
unfolding page_cells_at
cells_spelled d ds place before zero j cells after text sound stands (inl recorded) =
    let read : CellsRead = record { cells = cells; place = j; unchanged = false } in
    ok_bind (record_at d ds place before) (λ r. promise_at ds r) read (read_from_record d ds place before read sound (record { text = text; stands = stands; spells = recorded.cuts }))
    ∙ ap (λ (k : ℕ). Ok (reader j cells k)) (sym recorded.none)
cells_spelled d ds place before zero j cells after text sound stands (inr same) =
    let whole = subst (λ (x : List ℕ). Stands ds place x j) same.spelled stands in
    let parts = Stands-parts ds place (unchanged d) (digits 1 after) j whole in
    let m = place + length (unchanged d) in
    let read : CellsRead = record { cells = cells; place = m; unchanged = true } in
    let number = read_number ds m after j same.few parts.1 in
    ok_bind (record_at d ds place before) (λ r. promise_at ds r) read (read_from_record d ds place before read sound (record { text = unchanged d; stands = parts.0; spells = (same.same, refl) }))
    ∙ (ok_bind (number_at ds m 1) (λ n. Ok (reader (m + 1) cells n)) after number.0 ∙ ap (λ (k : ℕ). Ok (reader k cells after)) number.1)
cells_spelled d ds place before (suc left) j cells after text sound stands promised = search rules

pub read_from_cells : (d : Dialect) (ds : List ℕ) (place : ℕ) (before : List ℕ) (promised j : ℕ) (cells : List ℕ) (after : ℕ) → AreCells d before → CellsStand d ds place before promised j cells after
    → page_cells_at d ds place before promised ≡ Ok (reader j cells after)
read_from_cells d ds place before promised j cells after sound s = search (rules, cells_spelled)

-- ---- faults

promise_fault_from_read : (d : Dialect) (ds : List ℕ) (place : ℕ) (before : List ℕ) (read : CellsRead) (f : FumenFault) (kind : Bool) → KindStands d ds place before read kind → promise_by ds read kind ≡ Err f
    → IsCellsFault d ds place before 0 f
promise_fault_from_read d ds place before read f kind s e = search (rules, bind_err, number_fault_from_read)

pub cells_fault_from_read : (d : Dialect) (ds : List ℕ) (place : ℕ) (before : List ℕ) (promised : ℕ) (f : FumenFault) → place ≤ length ds → AreCells d before → page_cells_at d ds place before promised ≡ Err f
    → IsCellsFault d ds place before promised f
unfolding page_cells_at
cells_fault_from_read d ds place before zero f le cells e =
    elim (bind_err (record_at d ds place before) (λ read. promise_at ds read) f e) [
      | inl bad ↦ inl (record_fault_from_read d ds place before f le cells bad)
      | inr r ↦
          promise_fault_from_read d ds place before r.0 f r.0.unchanged (kind_stands d ds place before r.0 r.0.unchanged refl (record_from_read d ds place before r.0 le cells r.1)) r.2
    ]
cells_fault_from_read d ds place before (suc left) f le cells e = absurd cc

pub read_from_cells_fault : (d : Dialect) (ds : List ℕ) (place : ℕ) (before : List ℕ) (promised : ℕ) (f : FumenFault) → AreCells d before → IsCellsFault d ds place before promised f
    → page_cells_at d ds place before promised ≡ Err f
unfolding page_cells_at
read_from_cells_fault d ds place before zero f sound (inl bad) = search (rules, err_bind, read_from_record_fault)
read_from_cells_fault d ds place before zero f sound (inr digit) =
    let read : CellsRead = record { cells = before; place = digit.0; unchanged = true } in
    ok_bind (record_at d ds place before) (λ r. promise_at ds r) read (read_from_record d ds place before read sound (record { text = unchanged d; stands = digit.1; spells = (refl, refl) }))
    ∙ err_bind (number_at ds digit.0 1) (λ n. Ok (reader (digit.0 + 1) before n)) f (read_from_number_fault ds digit.0 1 f digit.2)
read_from_cells_fault d ds place before (suc left) f sound fault = absurd fault
