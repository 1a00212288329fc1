-- The words that the text spells are those that were answered.
use Rattle.std.proofs.Common.{Err, length, ap, inl, ◌∙◌}
use Rattle.pc_words.specs.Words.{texts}
use Rattle.pc_c.specs.GoodQueues.{IsQueuesStatus}
use Rattle.pc_c.proofs.QueueLemmas.{queues_wanting, same_words}
use Rattle.pc_c.proofs.WordLemmas.{none_status, none_wanting, one_spelling, status_five, status_six, worded_status}
use Rattle.pc_c.proofs.good_queues.voidosier_good_queues.Goals as goal

pub returns-in-Ok-clause-status : goal.returns-in-Ok-clause-status
returns-in-Ok-clause-status c =
    worded_status IsQueuesStatus c.args.words.now (texts c.in-Ok.texts.items) c.run_queues-ended.result.status c.in-Ok.ensures.spelled c.run_queues-ended.ensures.status c.run_queues-ended.ensures.worded

pub returns-in-Ok-clause-ended : goal.returns-in-Ok-clause-ended
returns-in-Ok-clause-ended c = λ words is.
    let same = ap texts c.deref.ensures.value ∙ one_spelling c.args.words.now (texts c.in-Ok.texts.items) words c.in-Ok.ensures.spelled is in
    same_words same c.run_queues-ended.ensures.ended

pub returns-in-Err-clause-status : goal.returns-in-Err-clause-status
returns-in-Err-clause-status c =
    none_status IsQueuesStatus (inl status_five) (inl status_six) c.args.words.now c.in-Err.none c.status.result c.status.ensures.unspelled c.status.ensures.no_memory (λ is. c.in-Err.ensures.unspelled (ap (λ e. Err e) is))

pub returns-in-Err-clause-ended : goal.returns-in-Err-clause-ended
returns-in-Err-clause-ended c = λ words is.
    queues_wanting words c.args.input.now (length c.args.bits.now) (length c.args.err.now) c.status.result (none_wanting c.args.words.now c.in-Err.none c.status.result c.status.ensures.no_memory (λ is. c.in-Err.ensures.unspelled (ap (λ e. Err e) is)) words is)
