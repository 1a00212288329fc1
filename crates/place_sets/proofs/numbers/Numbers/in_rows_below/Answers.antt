-- One word more of each rotation; all words keep these rows.
use Rattle.std.proofs.Common.{rules}
use Rattle.std.proofs.lemmas.Bool.{cases_lt}
use Rattle.place_sets.proofs.NumberLemmas.{keeps_rows, keeps_here, keeps_none, four_later, four_more, four_set-length}
use Rattle.place_sets.proofs.numbers.Numbers.in_rows_below.Goals as goal

pub loop-at-preserved : goal.loop-at-preserved
loop-at-preserved c = search (rules, four_set-length, four_more, keeps_here, four_later)

pub returns : goal.returns
returns c = search (rules, keeps_rows, cases_lt, keeps_none)
