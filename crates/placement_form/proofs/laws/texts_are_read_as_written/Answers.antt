-- The form and the reading agree.
use Rattle.placement_form.proofs.ReadAsWritten.{read_as_written, none_where_unwritten, one_written}
use Rattle.placement_form.proofs.laws.texts_are_read_as_written.Goals as goal

pub returns-clause-read : goal.returns-clause-read
returns-clause-read c = read_as_written

pub returns-clause-none : goal.returns-clause-none
returns-clause-none c = none_where_unwritten

pub returns-clause-one : goal.returns-clause-one
returns-clause-one c = one_written
