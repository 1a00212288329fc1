-- A key word leads nowhere, or none is needed, or the search tells.
use Rattle.std.proofs.Common.{Some, sym, ap, ◌∙◌, rules}
use Rattle.srs.specs.Rules.{table_of}
use Rattle.well.specs.Free.{is_free}
use Rattle.well.specs.Well.{filled}
use Rattle.key_path.proofs.FindLemmas.{no_spawn, spawn_word, one_word}
use Rattle.key_path.proofs.finder.Finder.least_word.Goals as goal

pub returns-then-not-is_free : goal.returns-then-not-is_free
returns-then-not-is_free c =
    no_spawn (table_of c.args.rules.now) (filled c.args.well.now) c.args.drop_mode c.args.target.now
    (ap (is_free (filled c.args.well.now)) (sym c.spawn-start.ensures) ∙ sym c.is_free.ensures ∙ c.if-not-is_free.true)

pub returns-then-rests_on : goal.returns-then-rests_on
returns-then-rests_on c =
    search (rules, (one_word (table_of c.args.rules.now) (filled c.args.well.now) c.args.drop_mode c.canonical-aim.result c.args.target.now c.canonical-aim.ensures.cells (Some c.new.result.items)), (spawn_word (table_of c.args.rules.now) (filled c.args.well.now) c.args.drop_mode c.canonical-aim.result))

pub returns : goal.returns
returns c =
    search (rules, (one_word (table_of c.args.rules.now) (filled c.args.well.now) c.args.drop_mode c.canonical-aim.result c.args.target.now c.canonical-aim.ensures.cells))
