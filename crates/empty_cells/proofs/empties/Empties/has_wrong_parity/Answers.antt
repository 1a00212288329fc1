-- The cells in even and odd columns, and the pieces of the supply, are counted.
use Rattle.std.proofs.Common.{arith}
use Rattle.std.proofs.lemmas.Bool.{eq-eqb, eqb-true, false≢true}
use Rattle.empty_cells.specs.Empties.{all_but, empty_cells}
use Rattle.empty_cells.proofs.RefusalLemmas.{evens, halves, parity_untiled}
use Rattle.empty_cells.proofs.empties.Empties.has_wrong_parity.Goals as goal

pub returns-then-even_columns-odd_kinds-eq0-clause-exact : goal.returns-then-even_columns-odd_kinds-eq0-clause-exact
returns-then-even_columns-odd_kinds-eq0-clause-exact c = (
  λ e. absurd (false≢true e),
  λ wrong. absurd (wrong.odd (omega (
    arith,
    c.if-even_columns-odd_kinds-eq0.true,
    c.in_five_columns-even_columns.ensures.number,
    evens (all_but (empty_cells c.args.self.now)),
    c.count_of-2.ensures,
    c.count_of-3.ensures,
  ))),
)

pub returns-clause-exact : goal.returns-clause-exact
returns-clause-exact c = let F = all_but (empty_cells c.args.self.now) in (
  λ e. record {
    without_t = omega (arith, c.count_of.ensures, c.if-count_of-gt0.false);
    used_up = omega (arith, eqb-true _ _ e, c.from.ensures, halves F, c.in_five_columns-even_columns.ensures.number, c.in_five_columns.ensures.number, c.pieces.ensures.number);
    odd = λ same. c.if-even_columns-odd_kinds-eq0.false (omega (
      arith,
      same,
      c.in_five_columns-even_columns.ensures.number,
      evens F,
      c.count_of-2.ensures,
      c.count_of-3.ensures,
    ));
  },
  λ wrong. eq-eqb _ _ (omega (arith, wrong.used_up, c.from.ensures, halves F, c.in_five_columns-even_columns.ensures.number, c.in_five_columns.ensures.number, c.pieces.ensures.number)),
)

pub returns-clause-none : goal.returns-clause-none
returns-clause-none c = λ e. parity_untiled _ _ ((returns-clause-exact c).0 e)
