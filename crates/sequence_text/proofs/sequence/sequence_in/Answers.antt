-- Each turn takes one byte of the text.
use Rattle.std.proofs.Common.{eq-eqb, rules}
use Rattle.std.proofs.lemmas.Bool.{ne_eqb}
use Rattle.sequence_text.proofs.Bytes.{starts, next_blank, stops_blank, next_other, stops_other, ends_whole, ends_short, room_blank, room_other}
use Rattle.sequence_text.proofs.sequence.sequence_in.Goals as goal
use Rattle.sequence_text.proofs.sequence.sequence_in.Goals.{then-byte-eq32+else-not-goes_on, else-byte-eq32+in-Some}

pub returns-then-not-goes_on-clause-value : goal.returns-then-not-goes_on-clause-value
returns-then-not-goes_on-clause-value c = search (rules, stops_blank, eq-eqb, starts)

pub returns-in-None-clause-value : goal.returns-in-None-clause-value
returns-in-None-clause-value c = search (rules, stops_other, ne_eqb, starts)

pub loop-place-preserved : goal.loop-place-preserved
loop-place-preserved c =
    search (
      rules,
      then-byte-eq32+else-not-goes_on,
      next_blank,
      eq-eqb,
      room_blank,
      else-byte-eq32+in-Some,
      next_other,
      ne_eqb,
      room_other,
    )

pub returns-then-not-is_whole-clause-value : goal.returns-then-not-is_whole-clause-value
returns-then-not-is_whole-clause-value c = search (rules, ends_short, starts)

pub returns-clause-value : goal.returns-clause-value
returns-clause-value c = search (rules, ends_whole, starts)
