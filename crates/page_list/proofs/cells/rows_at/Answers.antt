-- A letter or a `/` is read, or is missing, or the text ends.
use Rattle.std.proofs.Common.{◌≡◌, ◌∙◌, sym, ap, arith, length, length-append, [], ◌∷◌, eq-eqb, ne_eqb, rules}
use Rattle.page_list.specs.CellsReading.{rows_at}
use Rattle.page_list.proofs.ReadLemmas.{slash_read, slash_missing, letter_read, letter_missing, end_read, end_missing}
use Rattle.page_list.proofs.cells.rows_at.Goals.{then-column-eq10+else-text-place-ne47, else-column-eq10+in_ok-colour_in}
use Rattle.page_list.proofs.cells.rows_at.Goals as goal

pub returns-then-text-place-ne47-clause-value : goal.returns-then-text-place-ne47-clause-value
returns-then-text-place-ne47-clause-value c = search (rules, slash_missing, eq-eqb, ne_eqb)

pub returns-in_err-colour_in-clause-value : goal.returns-in_err-colour_in-clause-value
returns-in_err-colour_in-clause-value c =
    rw (c.from_residual.ensures) (letter_missing c.loop-place.colours.items c.args.text.now c.loop-place.place c.loop-place.column (rows_at 0 c.args.text.now) c.loop-place-test.true
    (ne_eqb c.loop-place.column 10 c.if-column-eq10.false) (sym c.colour_in.ensures.value ∙ c.in_err-colour_in.was) c.loop-place.invariant.0)

pub loop-place-preserved : goal.loop-place-preserved
loop-place-preserved c = elim c.if-column-eq10.branch [
  | then-column-eq10+else-text-place-ne47 w ↦
      let is : c.if-column-eq10.column ≡ 0 = w.column-is in
      let number = c.loop-place.invariant.2 in
      let ten = w.if-column-eq10.true in
      let same = ap (λ v. v.items) w.colours-is in
      rw (w.colours-is, is) (
        slash_read c.loop-place.colours.items c.args.text.now c.loop-place.place c.loop-place.column (rows_at 0 c.args.text.now) c.loop-place-test.true
            (eq-eqb c.loop-place.column 10 w.if-column-eq10.true) (eq-eqb _ 47 w.if-text-place-ne47.false) c.loop-place.invariant.0,
        omega arith,
        omega arith,
      )
  | else-column-eq10+in_ok-colour_in w ↦
      let number = c.loop-place.invariant.2 in
      let most = c.loop-place.invariant.1 in
      let other = w.if-column-eq10.false in
      let longer = ap (λ l. length l) w.push.ensures.items in
      rw (w.colours-is, w.column-is, w.push.ensures.items) (
        letter_read c.loop-place.colours.items c.args.text.now c.loop-place.place c.loop-place.column w.in_ok-colour_in.field-0 (rows_at 0 c.args.text.now) c.loop-place-test.true
            (ne_eqb c.loop-place.column 10 other) (sym w.colour_in.ensures.value ∙ w.in_ok-colour_in.was) c.loop-place.invariant.0,
        omega arith,
        omega (arith, length-append c.loop-place.colours.items (w.in_ok-colour_in.field-0 ∷ [])),
      )
]

pub returns-then-column-eq10-2-clause-value : goal.returns-then-column-eq10-2-clause-value
returns-then-column-eq10-2-clause-value c = search (rules, end_read, eq-eqb)

pub returns-else-column-eq10-2-clause-value : goal.returns-else-column-eq10-2-clause-value
returns-else-column-eq10-2-clause-value c = search (rules, end_missing, ne_eqb)
