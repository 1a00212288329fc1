-- Both come from reading, which gives one answer.
use Rattle.std.proofs.Common.{refl}
use Rattle.fumen_text.specs.Reading.{text_pages}
use Rattle.fumen_text.proofs.TextReadAsSpelled.{text_is_read, one_list, one_fault, never_both}
use Rattle.fumen_text.proofs.laws.one_reading.Goals as goal

pub returns-clause-some : goal.returns-clause-some
returns-clause-some c = λ text. text_is_read text (text_pages text) refl

pub returns-clause-one_list : goal.returns-clause-one_list
returns-clause-one_list c = λ text dialect other pages others. one_list text dialect pages other others

pub returns-clause-one_fault : goal.returns-clause-one_fault
returns-clause-one_fault c = one_fault

pub returns-clause-never_both : goal.returns-clause-never_both
returns-clause-never_both c = never_both
