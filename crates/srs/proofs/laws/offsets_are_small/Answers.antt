-- What the rules keep.
use Rattle.srs.proofs.TableLemmas.{table_of-small}
use Rattle.srs.proofs.laws.offsets_are_small.Goals as goal

pub returns : goal.returns
returns c = table_of-small c.args.rules.now
