-- Five tests, five offsets.
use Rattle.srs.specs.Rules.{table_of}
use Rattle.srs.proofs.CallerLemmas.{table_of-small}
use Rattle.kick_file.proofs.PrintLemmas.{tests_of}
use Rattle.kick_file.proofs.printing.offsets_of.Goals as goal

pub returns : goal.returns
returns c =
    tests_of (table_of c.args.rules.now) c.args.piece c.args.rotation _ _ _ _ _ (table_of-small c.args.rules.now)
    c.offset.ensures.offset c.offset-2.ensures.offset c.offset-3.ensures.offset c.offset-4.ensures.offset c.offset-5.ensures.offset
