-- The words or the input have a fault, or the words ask for another command, or `percent` answers.
use Rattle.std.proofs.Common.{◌∙◌, Ok, refl, sym, subst, ap}
use Rattle.pc_settings.specs.Views.{percent_view}
use Rattle.pc_words.specs.Views.{settings_view}
use Rattle.pc_words.specs.Request.{percent}
use Rattle.pc_words.specs.Words.{texts}
use Rattle.pc_good_queues.specs.declared.answer.NoBits.{NoBits}
use Rattle.pc_good_queues.specs.declared.answer.QueueCounts.{QueueCounts}
use Rattle.pc_c.specs.declared.answer.Answered.{Answered}
use Rattle.pc_c.specs.Answered.{HasAskedFault}
use Rattle.pc_c.specs.OtherCommand.{is_percent}
use Rattle.pc_c.specs.QueuesEnded.{IsPercentAnswer}
use Rattle.pc_c.proofs.InputLemmas.{long_asked, words_refused}
use Rattle.pc_c.proofs.QueueLemmas.{percent_answered, told_answer}
use Rattle.pc_c.proofs.good_queues.answer_words.Goals as goal

pub returns-in-Err : goal.returns-in-Err
returns-in-Err g c =
    subst (λ (r : Answered QueueCounts NoBits). IsPercentAnswer (texts c.args.words.now) c.args.input.now c.args.bits.now c.args.bits.now r.floods r.answer) (sym c.idle.ensures)
    ((words_refused is_percent (texts c.args.words.now) c.args.input.now c.in-Err.fault c.in-Err.ensures.value, refl), refl)

pub returns-in-Err-seen_bytes : goal.returns-in-Err-seen_bytes
returns-in-Err-seen_bytes g c =
    let request = percent_view c.in-Some.settings in
    let same = ap (λ s. Ok (settings_view s)) (sym c.in-Some.ensures) ∙ c.in-Ok.ensures.value in
    let refused = c.in-Err-seen_bytes.ensures in
    let long = long_asked percent is_percent request refl (texts c.args.words.now) c.args.input.now same c.is_of_source.result c.is_of_source.ensures refused.reads refused.more in
    subst (λ (r : Answered QueueCounts NoBits). IsPercentAnswer (texts c.args.words.now) c.args.input.now c.args.bits.now c.args.bits.now r.floods r.answer) (sym c.idle-in-Err-seen_bytes.ensures)
    ((subst (HasAskedFault is_percent (texts c.args.words.now) c.args.input.now) (sym refused.too_long) long, refl), refl)

pub returns : goal.returns
returns g c =
    let request = percent_view c.in-Some.settings in
    let same = ap (λ s. Ok (settings_view s)) (sym c.in-Some.ensures) ∙ c.in-Ok.ensures.value in
    let written = c.write_good_queues-written.ensures in
    subst (IsPercentAnswer (texts c.args.words.now) c.args.input.now c.args.bits.now c.write_good_queues-written.new.bits c.count.result) (sym c.answer_of.ensures)
    (told_answer (texts c.args.words.now) c.args.input.now c.args.bits.now c.write_good_queues-written.new.bits _ _ _ c.new-steps.ensures c.count.ensures _
    (percent_answered (texts c.args.words.now) c.args.input.now request same c.is_of_source.result c.in-Ok-seen_bytes.bytes.now c.is_of_source.ensures c.in-Ok-seen_bytes.ensures.bytes c.in-Ok-seen_bytes.ensures.within
    c.args.bits.now c.write_good_queues-written.new.bits _ c.write_good_queues-written.result written.found written.none written.rest written.refused written.kept))
