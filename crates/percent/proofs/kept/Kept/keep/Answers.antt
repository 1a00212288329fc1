-- The entry that is kept has what was known and what is new.
use Rattle.percent.proofs.kept.Kept.keep.Goals as goal

pub returns-in-Ok-clause-kept : goal.returns-in-Ok-clause-kept
returns-in-Ok-clause-kept c = λ told. record {
  slot = c.in-Ok.entry;
  among = c.note.ensures.kept told;
  field = c.in-Ok.ensures.cells;
  height = c.in-Ok.ensures.rows;
  to_come = c.in-Ok.ensures.left;
  good = c.in-Ok.ensures.found;
  bad = c.in-Ok.ensures.missed;
}
