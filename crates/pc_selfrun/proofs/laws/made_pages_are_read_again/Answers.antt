-- The pages have no fault, so that their text reads as them.
use Rattle.fumen_digits.specs.declared.dialect.Dialect.TheVariants.{V115}
use Rattle.sample_pages.specs.Pages.{sample_pages}
use Rattle.pc_selfrun.proofs.MadePages.{made_count, made_none, made_types}
use Rattle.pc_selfrun.proofs.laws.made_pages_are_read_again.Goals as goal

pub returns : goal.returns
returns c = record {
  count = made_count;
  fault = made_none;
  reads = λ number pages few. c.encode_undone.ensures V115 (sample_pages number pages) (made_types number pages) (made_none number pages few);
}
