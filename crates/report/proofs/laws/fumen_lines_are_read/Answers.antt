-- The pages have no fault, so that their text reads as them.
use Rattle.fumen_digits.specs.declared.dialect.Dialect.TheVariants.{V115}
use Rattle.report.specs.Forms.{key_part}
use Rattle.report.specs.FumenLine.{sequence_pages}
use Rattle.report.proofs.FumenLemmas.{keys_are_short, pages_are_written, plays_end}
use Rattle.report.proofs.LineFields.{line_pages}
use Rattle.report.proofs.laws.fumen_lines_are_read.Goals as goal

pub returns : goal.returns
returns c = record {
  reads = λ keys table mode F rows s plays few.
      c.encode_undone.ensures V115 (sequence_pages (key_part keys table mode) F s) (line_pages (key_part keys table mode) (keys_are_short keys table mode) F s (plays_end table mode s F rows plays)).types
      (pages_are_written keys table mode F rows s plays few);
  ends = λ keys table mode F rows s plays. (line_pages (key_part keys table mode) (keys_are_short keys table mode) F s (plays_end table mode s F rows plays)).left;
}
