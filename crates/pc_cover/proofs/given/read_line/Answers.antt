-- The line is passed over, or its sequence is the last one.
use Rattle.std.proofs.Common.{◌∙◌, ◌∷◌, [], map, sym, ap}
use Rattle.std.proofs.lemmas.List.{length-map, map-append}
use Rattle.pc_cover.specs.Sequences.{listed_placements}
use Rattle.pc_cover.proofs.GivenLemmas.{line-passed, line-taken, line-refused}
use Rattle.pc_cover.proofs.given.read_line.Goals as goal

pub returns-then-is_tail : goal.returns-then-is_tail
returns-then-is_tail c =
    record { goes_on = line-passed c.args.needed c.args.number c.args.line.now (map listed_placements c.args.sequences.now.items) (sym c.is_tail.ensures ∙ c.if-is_tail.true); stops = tt }

pub returns-in_ok-push-in-Ok-clause-goes_on : goal.returns-in_ok-push-in-Ok-clause-goes_on
returns-in_ok-push-in-Ok-clause-goes_on c =
    let old = c.args.sequences.now.items in
    line-taken c.args.needed c.args.number c.len.result c.args.line.now (map listed_placements old) (map listed_placements c.push.new.self.items) (listed_placements c.in-Ok.sequence) (sym c.is_tail.ensures ∙ c.if-is_tail.false)
    (c.len.ensures ∙ c.args.sequences.now.ok.0 ∙ sym (length-map old listed_placements)) c.in-Ok.ensures
    (ap (map listed_placements) c.in_ok-push-in-Ok.ensures.items ∙ map-append listed_placements old (c.in-Ok.sequence ∷ []))

pub returns-in-Err-clause-stops : goal.returns-in-Err-clause-stops
returns-in-Err-clause-stops c =
    let old = c.args.sequences.now.items in
    line-refused c.args.needed c.args.number c.len.result c.args.line.now (map listed_placements old) c.in-Err.fault (sym c.is_tail.ensures ∙ c.if-is_tail.false)
    (c.len.ensures ∙ c.args.sequences.now.ok.0 ∙ sym (length-map old listed_placements)) c.in-Err.ensures
