-- The words or the input have a fault, or the words ask for another command, or `path` answers.
use Rattle.std.proofs.Common.{◌∙◌, ◌-◌, Ok, refl, sym, subst, ap}
use Rattle.pc_settings.specs.Views.{path_view}
use Rattle.pc_words.specs.Views.{settings_view}
use Rattle.pc_words.specs.Request.{path}
use Rattle.pc_words.specs.Words.{texts}
use Rattle.pc_solutions.specs.declared.list.Written.{Written}
use Rattle.pc_solutions.specs.declared.solutions.Refusal.{Refusal}
use Rattle.pc_c.specs.declared.answer.Answered.{Answered}
use Rattle.pc_c.specs.Answered.{HasAskedFault}
use Rattle.pc_c.specs.Call.{ForFloods}
use Rattle.pc_c.specs.OtherCommand.{is_path}
use Rattle.pc_c.specs.SolutionsEnded.{IsPathAnswer}
use Rattle.pc_c.proofs.CallLemmas.{from_zero, none_made}
use Rattle.pc_c.proofs.InputLemmas.{long_asked, words_refused}
use Rattle.pc_c.proofs.SolutionLemmas.{path_answered}
use Rattle.pc_c.proofs.solutions.answer_words.Goals as goal

pub returns-in-Err : goal.returns-in-Err
returns-in-Err g c =
    subst (λ (r : Answered Written Refusal). ForFloods r.floods (λ floods. IsPathAnswer (texts c.args.words.now) c.args.input.now c.args.after.now c.args.placements.now c.args.placements.now floods r.answer))
    (sym c.idle.ensures)
    (none_made ((words_refused is_path (texts c.args.words.now) c.args.input.now c.in-Err.fault c.in-Err.ensures.value, refl), refl))

pub returns-in-Err-seen_bytes : goal.returns-in-Err-seen_bytes
returns-in-Err-seen_bytes g c =
    let request = path_view c.in-Some.settings in
    let same = ap (λ s. Ok (settings_view s)) (sym c.in-Some.ensures) ∙ c.in-Ok.ensures.value in
    let refused = c.in-Err-seen_bytes.ensures in
    let long = long_asked path is_path request refl (texts c.args.words.now) c.args.input.now same c.is_of_source.result c.is_of_source.ensures refused.reads refused.more in
    subst (λ (r : Answered Written Refusal). ForFloods r.floods (λ floods. IsPathAnswer (texts c.args.words.now) c.args.input.now c.args.after.now c.args.placements.now c.args.placements.now floods r.answer))
    (sym c.idle-in-Err-seen_bytes.ensures)
    (none_made ((subst (HasAskedFault is_path (texts c.args.words.now) c.args.input.now) (sym refused.too_long) long, refl), refl))

pub returns : goal.returns
returns g c =
    let request = path_view c.in-Some.settings in
    let same = ap (λ s. Ok (settings_view s)) (sym c.in-Some.ensures) ∙ c.in-Ok.ensures.value in
    let written = c.write_solutions-written.ensures in
    let old = c.new-steps.result in
    let new = c.write_solutions-written.new.steps in
    from_zero _ old new c.new-steps.ensures c.count.ensures
    (subst (IsPathAnswer (texts c.args.words.now) c.args.input.now c.args.after.now c.args.placements.now c.write_solutions-written.new.placements (new - old)) (sym c.answer_of.ensures)
    (path_answered (texts c.args.words.now) c.args.input.now request same c.is_of_source.result c.in-Ok-seen_bytes.bytes.now c.is_of_source.ensures c.in-Ok-seen_bytes.ensures.bytes c.in-Ok-seen_bytes.ensures.within
    c.args.after.now c.args.placements.now c.write_solutions-written.new.placements old new c.write_solutions-written.result
    written.written written.within written.rest written.fault written.no_sequence written.no_room written.quiet written.idle))
