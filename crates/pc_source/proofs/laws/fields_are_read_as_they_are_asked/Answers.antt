-- A text with no fault gives a field, and one alone.
use Rattle.pc_source.proofs.FieldLaws.{field_cells, field_there}
use Rattle.pc_source.proofs.laws.fields_are_read_as_they_are_asked.Goals as goal

pub returns : goal.returns
returns c = record { there = field_there; only = field_cells }
