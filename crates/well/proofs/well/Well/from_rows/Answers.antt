-- The reader's progress through the text.
use Rattle.std.proofs.Common.{◌≡◌, length, sym, ap, ◌∙◌, arith, rules, refl, Some, None}
use Rattle.std.specs.Prelude.{Result, IfOk, IfErr}
use Rattle.std.proofs.lemmas.Bool.{eqb-true, eqb-false}
use Rattle.well.specs.Rows.{rows_fault, fault_at_end, written_cells}
use Rattle.well.specs.Well.{filled}
use Rattle.well.proofs.RowsLemmas.{starts, goes_on, faults, due_at_end, cells_at_end, nothing_written, nothing_at_fault}
use Rattle.well.proofs.well.Well.from_rows.Goals as goal

if_ok : {A E : Type 0} (r : Result A E) (P Q : A → Type 0) → ((a : A) → P a → Q a) → IfOk r P → IfOk r Q
if_ok r P Q more p = search rules

if_err : {A E : Type 0} (r : Result A E) (P Q : E → Type 0) → ((e : E) → P e → Q e) → IfErr r P → IfErr r Q
if_err r P Q more p = search rules

pub returns-then-is_empty-clause-cells : goal.returns-then-is_empty-clause-cells
returns-then-is_empty-clause-cells c = c.empty.ensures ∙ sym (nothing_written c.args.text.now (eqb-true _ _ (sym c.is_empty.ensures ∙ c.if-is_empty.true)))

pub returns-then-is_empty-clause-form : goal.returns-then-is_empty-clause-form
returns-then-is_empty-clause-form c = nothing_at_fault c.args.text.now (eqb-true _ _ (sym c.is_empty.ensures ∙ c.if-is_empty.true))

pub loop-place-init : goal.loop-place-init
loop-place-init c =
    let none : length c.args.text.now ≡ 0 → ⊥ = eqb-false _ _ (sym c.is_empty.ensures ∙ c.if-is_empty.false) in
    starts c.args.text.now _ _ _ (omega arith) c.start-reader.ensures.cells c.start-reader.ensures.row c.start-reader.ensures.characters

pub loop-place-preserved : goal.loop-place-preserved
loop-place-preserved c =
    goes_on c.args.text.now c.loop-place.place _ _ _ _ _ _ _ c.loop-place-test.true refl c.loop-place.invariant c.in_ok-reader.ensures.form c.in_ok-reader.ensures.next.row c.in_ok-reader.ensures.next.characters c.in_ok-reader.ensures.next.cells

pub returns-in_err-reader-clause-fault : goal.returns-in_err-reader-clause-fault
returns-in_err-reader-clause-fault c =
    let fault : rows_fault c.args.text.now ≡ Some c.in_err-reader.field-0.0 = faults c.args.text.now c.loop-place.place _ _ _ _ _ c.loop-place-test.true refl c.loop-place.invariant c.in_err-reader.ensures.fault in
    search rules

pub returns-clause-cells : goal.returns-clause-cells
returns-clause-cells c = if_ok c.finish.result (λ well. well ≡ c.loop-place.reader.well) (λ well. filled well ≡ written_cells c.args.text.now) (λ well e. ap filled e ∙ cells_at_end c.args.text.now c.loop-place.place _ _ _ c.loop-place-test.false c.loop-place.invariant) c.finish.ensures.well

pub returns-clause-form : goal.returns-clause-form
returns-clause-form c = if_ok c.finish.result (λ _. fault_at_end c.loop-place.reader.row c.loop-place.reader.characters ≡ None) (λ _. rows_fault c.args.text.now ≡ None) (λ _ e. due_at_end c.args.text.now c.loop-place.place _ _ _ c.loop-place-test.false c.loop-place.invariant ∙ e) c.finish.ensures.form

pub returns-clause-fault : goal.returns-clause-fault
returns-clause-fault c = if_err c.finish.result (λ fault. fault_at_end c.loop-place.reader.row c.loop-place.reader.characters ≡ Some fault) (λ fault. rows_fault c.args.text.now ≡ Some fault) (λ _ e. due_at_end c.args.text.now c.loop-place.place _ _ _ c.loop-place-test.false c.loop-place.invariant ∙ e) c.finish.ensures.fault
