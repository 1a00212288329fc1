-- The covered queues are those of the problem that is asked for.
use Rattle.std.proofs.Common.{◌/◌, ◌∙◌, refl, sym, ap, subst, map, inr}
use Rattle.well.specs.Counts.{empties_below}
use Rattle.well.specs.Well.{filled}
use Rattle.queue_pattern.specs.Pattern.{elements_of}
use Rattle.queue_pattern.specs.Queues.{queues}
use Rattle.cover.specs.Covered.{IsCoveredList}
use Rattle.cover.specs.Kept.{lists_of}
use Rattle.pc_faults.specs.declared.status.Status.TheVariants.{NoMemory}
use Rattle.pc_settings.specs.Views.{field_view}
use Rattle.pc_source.proofs.CommandEnds.{ends_unwritten, ends_written}
use Rattle.pc_cover.specs.CoverTask.{covering_task}
use Rattle.pc_cover.specs.Covering.{numbers_from}
use Rattle.pc_cover.specs.Given.{given_in}
use Rattle.pc_cover.specs.Lines.{cover_form}
use Rattle.pc_cover.specs.Sequences.{listed_placements}
use Rattle.pc_cover.proofs.CoverAnswers.{at_most, cover_ends, few_floods, lines_refused, lines_read, problem_refused}
use Rattle.pc_cover.proofs.command.run_cover.Goals as goal

pub returns-in-Err : goal.returns-in-Err
returns-in-Err g c =
    problem_refused (field_view c.args.settings.now) c.args.bytes.now _ _ c.args.steps.now c.args.steps.now c.in-Err.refused c.from.result c.from.ensures refl refl c.in-Err.ensures.refused

pub returns-in-Err-sequences_in : goal.returns-in-Err-sequences_in
returns-in-Err-sequences_in g c =
    let request = field_view c.args.settings.now in
    let has = c.in-Ok.ensures.problem in
    let F = filled c.in-Ok.problem.well in
    let is = c.needed.ensures ∙ ap (λ height. empties_below F height / 4) has.named.height in
    cover_ends request c.args.bytes.now _ _ c.args.steps.now c.args.steps.now c.in-Ok.problem has c.refused_by.result
    (lines_refused request F c.args.bytes.now c.needed.result _ _ c.args.steps.now c.args.steps.now c.in-Err-sequences_in.refused c.refused_by.result c.refused_by.ensures has.none is c.in-Err-sequences_in.ensures refl refl)

pub returns-in-Err-covering : goal.returns-in-Err-covering
returns-in-Err-covering g c =
    let request = field_view c.args.settings.now in
    let has = c.in-Ok.ensures.problem in
    let F = filled c.in-Ok.problem.well in
    let sequences = map listed_placements c.in-Ok-sequences_in.sequences.items in
    let is = c.needed.ensures ∙ ap (λ height. empties_below F height / 4) has.named.height in
    cover_ends request c.args.bytes.now _ _ c.args.steps.now c.covering.new.steps c.in-Ok.problem has NoMemory
    (ends_unwritten (covering_task request F) c.args.bytes.now _ _ c.args.steps.now c.covering.new.steps (lines_read request F c.args.bytes.now c.needed.result sequences has.none is c.in-Ok-sequences_in.ensures) refl c.covering.ensures.counted
    (inr (few_floods request F c.args.bytes.now c.needed.result sequences _ is c.in-Ok-sequences_in.ensures (at_most c.args.steps.now c.covering.new.steps _ _ c.as_slice.ensures.value c.covering.ensures.few))))

pub returns : goal.returns
returns g c =
    let request = field_view c.args.settings.now in
    let problem = c.in-Ok.problem in
    let has = c.in-Ok.ensures.problem in
    let F = filled problem.well in
    let numbers = numbers_from problem (lists_of c.in-Ok-covering.set) 0 in
    let sequences = map listed_placements c.in-Ok-sequences_in.sequences.items in
    let is = c.needed.ensures ∙ ap (λ height. empties_below F height / 4) has.named.height in
    let covered = subst (λ l. IsCoveredList problem (map listed_placements l) numbers) c.as_slice.ensures.value c.in-Ok-covering.ensures.covered in
    let few = few_floods request F c.args.bytes.now c.needed.result sequences _ is c.in-Ok-sequences_in.ensures (at_most c.args.steps.now c.covering.new.steps _ _ c.as_slice.ensures.value c.covering.ensures.few) in
    cover_ends request c.args.bytes.now _ _ c.args.steps.now c.covering.new.steps problem has c.after_writes.result
    (ends_written (covering_task request F) c.args.bytes.now _ _ c.args.steps.now c.covering.new.steps (cover_form (queues (elements_of problem.pattern)) numbers) c.write_answers.result c.after_writes.result c.after_writes.ensures
    (lines_read request F c.args.bytes.now c.needed.result sequences has.none is c.in-Ok-sequences_in.ensures)
    (record {
      sequences = sequences;
      given = ap (λ n. given_in n c.args.bytes.now) (sym is) ∙ c.in-Ok-sequences_in.ensures;
      covered = record { problem = problem; named = has.named; numbers = numbers; covered = covered; lines = refl };
    })
    c.write_answers.ensures.written c.write_answers.ensures.cause c.covering.ensures.counted few few)
