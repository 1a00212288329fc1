-- The form and the reading agree.
use Rattle.sequence_text.proofs.Fronts.{read_as_spelled, refused_where_bad}
use Rattle.sequence_text.proofs.laws.texts_are_read_as_they_spell.Goals as goal

pub returns : goal.returns
returns c = record { sequence = read_as_spelled; place = refused_where_bad }
