-- The pivot is moved by few columns and rows, so that no sum leaves a byte.
use Rattle.std.proofs.Common.{arith, rules}
use Rattle.std.proofs.lemmas.Int.{ints}
use Rattle.srs.specs.Cells.{moved}
use Rattle.key_path.proofs.FreeLemmas.{first_is}
use Rattle.key_path.proofs.free.FreeStates.moved.Goals as goal

pub overflow_cast-x : goal.overflow_cast-x
overflow_cast-x c = omega (arith, ints, c.requires.pivot.in_columns)

pub overflow_add-x : goal.overflow_add-x
overflow_add-x c = omega (arith, ints, c.requires.pivot.in_columns)

pub overflow_cast-y : goal.overflow_cast-y
overflow_cast-y c = omega (arith, ints, c.requires.pivot.in_rows)

pub overflow_add-y : goal.overflow_add-y
overflow_add-y c = omega (arith, ints, c.requires.pivot.in_rows)

pub returns-then-has : goal.returns-then-has
unfolding moved
returns-then-has c = search (rules, first_is)
