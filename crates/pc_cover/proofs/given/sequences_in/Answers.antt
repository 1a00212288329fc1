-- One more line is read, or has a fault, or the text ends.
use Rattle.std.proofs.Common.{map, arith, rules}
use Rattle.std.proofs.lemmas.List.{nil_from_length}
use Rattle.std.proofs.lemmas.Result.{err_from_is_err_and}
use Rattle.page_list.proofs.CallerLemmas.{behind_shorter}
use Rattle.pc_cover.specs.Sequences.{listed_placements}
use Rattle.pc_cover.proofs.GivenLemmas.{reading-starts, reading-goes_on, reading-refused, reading-ends}
use Rattle.pc_cover.proofs.given.sequences_in.Goals as goal

pub loop-rest-init : goal.loop-rest-init
loop-rest-init c = search (rules, (reading-starts c.args.needed c.args.text.now))

pub loop-rest-smaller : goal.loop-rest-smaller
loop-rest-smaller c = search (rules, (behind_shorter c.loop-rest.rest.now c.first_line.result.0.now c.first_line.result.1.now))

pub returns : goal.returns
returns c =
    reading-ends c.args.needed c.args.text.now (map listed_placements c.loop-rest.sequences.items) c.loop-rest.number c.loop-rest.rest.now c.loop-rest.invariant
    (nil_from_length c.loop-rest.rest.now (grind (arith, c.is_empty.ensures, c.loop-rest-test.false)))

pub loop-rest-preserved : goal.loop-rest-preserved
loop-rest-preserved c =
    search (rules, (reading-goes_on c.args.needed c.args.text.now (map listed_placements c.loop-rest.sequences.items) c.loop-rest.number c.loop-rest.rest.now c.first_line.result.0.now c.first_line.result.1.now c.loop-rest.invariant), (behind_shorter c.loop-rest.rest.now c.first_line.result.0.now c.first_line.result.1.now))

pub returns-in_err-read_line : goal.returns-in_err-read_line
returns-in_err-read_line c =
    search (rules, (err_from_is_err_and c.from_residual.result c.from_residual.ensures.1), (reading-refused c.args.needed c.args.text.now (map listed_placements c.loop-rest.sequences.items) c.loop-rest.number c.loop-rest.rest.now c.first_line.result.0.now c.first_line.result.1.now c.loop-rest.invariant))
