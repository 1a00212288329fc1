-- The words that the text spells are those that were run.
use Rattle.std.proofs.Common.{List, ℕ, Err, length, take, ap, subst, ◌∙◌}
use Rattle.pc_words.specs.Words.{texts}
use Rattle.pc_c.specs.Call.{EndsRun, IsStatus}
use Rattle.pc_c.proofs.CallLemmas.{at_idle, at_silent, ends_run, ends_wanting, none_told}
use Rattle.pc_c.proofs.WordLemmas.{none_status, none_wanting, one_spelling, status_five, status_six}
use Rattle.pc_c.proofs.voidosier_run.Goals as goal

pub returns-in-Ok-clause-ended : goal.returns-in-Ok-clause-ended
returns-in-Ok-clause-ended c = λ words is.
    let same = ap texts c.deref.ensures.value ∙ one_spelling c.args.words.now (texts c.in-Ok.texts.items) words c.in-Ok.ensures.spelled is in
    let ended = c.run_words-ended.result in
    let new = c.run_words-ended.new in
    subst (λ (words : List (List ℕ)). EndsRun words c.args.input.now (take ended.written new.out) (length c.args.out.now) (take ended.told new.err) (length c.args.err.now) ended.floods ended.status) same
    (ends_run _ c.args.input.now _ _ _ _ _ _ c.run_words-ended.ensures.ended)

pub returns-in-Ok-clause-idle : goal.returns-in-Ok-clause-idle
returns-in-Ok-clause-idle c = at_idle _ _ _ _ _ _ _ _ c.run_words-ended.ensures.ended

pub returns-in-Ok-clause-no_line : goal.returns-in-Ok-clause-no_line
returns-in-Ok-clause-no_line c = λ other. none_told _ _ c.run_words-ended.ensures.err.within (at_silent _ _ _ _ _ _ _ _ c.run_words-ended.ensures.ended other)

pub returns-in-Err-clause-status : goal.returns-in-Err-clause-status
returns-in-Err-clause-status c =
    none_status IsStatus status_five status_six c.args.words.now c.in-Err.none c.status.result c.status.ensures.unspelled c.status.ensures.no_memory (λ is. c.in-Err.ensures.unspelled (ap (λ e. Err e) is))

pub returns-in-Err-clause-ended : goal.returns-in-Err-clause-ended
returns-in-Err-clause-ended c = λ words is.
    ends_wanting words c.args.input.now (length c.args.out.now) (length c.args.err.now) c.status.result (none_wanting c.args.words.now c.in-Err.none c.status.result c.status.ensures.no_memory (λ is. c.in-Err.ensures.unspelled (ap (λ e. Err e) is)) words is)
