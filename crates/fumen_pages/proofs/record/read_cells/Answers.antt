-- The record that stands there and the first fault there, from what reading gives.
use Rattle.std.proofs.Common.{◌≡◌, ◌≤◌, length, Ok, Err, ap, ◌∙◌, rules}
use Rattle.std.specs.Prelude.{IfOk}
use Rattle.std.proofs.lemmas.Result.{IfOk-weaker}
use Rattle.fumen_digits.proofs.CallerLemmas.{reads_ok, reads_err, ok_from_read, err_from_read}
use Rattle.fumen_pages.specs.declared.record.CellsRead.{CellsRead}
use Rattle.fumen_pages.specs.declared.record.CellsFault.{CellsFault}
use Rattle.fumen_pages.specs.Cells.{AreCells}
use Rattle.fumen_pages.specs.Reading.{record_at}
use Rattle.fumen_pages.specs.Faults.{cells_fault}
use Rattle.fumen_pages.proofs.RecordReadAsSpelled.{RecordRead, read_from_ok, record_from_read, read_from_record, record_fault_from_read, read_from_record_fault}
use Rattle.fumen_pages.proofs.record.read_cells.Goals as goal

abbrev view : CellsRead → CellsRead
view read = read

stands : (c : goal.After-read_record) → IfOk c.read_record.result (λ read. RecordRead c.args.dialect c.args.digits.now c.args.place c.args.old.now read)
stands c = search (rules, view, read_from_ok)

pub returns-clause-within : goal.returns-clause-within
returns-clause-within c =
    IfOk-weaker c.read_record.result (λ read. RecordRead c.args.dialect c.args.digits.now c.args.place c.args.old.now read) (λ read. read.place ≤ length c.args.digits.now) (λ read s. s.stands.stands.within) (stands c)

pub returns-clause-sound : goal.returns-clause-sound
returns-clause-sound c =
    IfOk-weaker c.read_record.result (λ read. RecordRead c.args.dialect c.args.digits.now c.args.place c.args.old.now read) (λ read. AreCells c.args.dialect read.cells) (λ read s. s.sound) (stands c)

pub returns-clause-found : goal.returns-clause-found
returns-clause-found c = λ read.
    let ds = c.args.digits.now in
    let place = c.args.place in
    let old = c.args.old.now in
    let all = record_at c.args.dialect ds place old in (
      λ e. record_from_read c.args.dialect ds place old read c.requires.place c.requires.old (reads_ok view cells_fault c.read_record.result all read c.read_record.ensures e),
      λ s.
          let x = ok_from_read view cells_fault c.read_record.result all read c.read_record.ensures (read_from_record c.args.dialect ds place old read c.requires.old s) in
          x.1 ∙ ap (λ (k : CellsRead). Ok k) x.2,
    )

same_fault : (a b : CellsFault) → cells_fault a ≡ cells_fault b → a ≡ b
same_fault a b e = search rules

pub returns-clause-fault : goal.returns-clause-fault
returns-clause-fault c = λ f.
    let ds = c.args.digits.now in
    let place = c.args.place in
    let old = c.args.old.now in
    let all = record_at c.args.dialect ds place old in (
      λ e. record_fault_from_read c.args.dialect ds place old (cells_fault f) c.requires.place c.requires.old (reads_err view cells_fault c.read_record.result all f c.read_record.ensures e),
      λ s.
          let x = err_from_read view cells_fault c.read_record.result all (cells_fault f) c.read_record.ensures (read_from_record_fault c.args.dialect ds place old (cells_fault f) c.requires.old s) in
          x.1 ∙ ap (λ d. Err d) (same_fault x.0 f x.2),
    )
