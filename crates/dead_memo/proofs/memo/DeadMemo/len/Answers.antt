-- Each entry is seen as one question.
use Rattle.std.proofs.Common.{sym, ◌∙◌}
use Rattle.std.proofs.lemmas.List.{length-map}
use Rattle.dead_memo.specs.Keys.{question_of, kept_in}
use Rattle.dead_memo.specs.Memo.{kept}
use Rattle.dead_memo.proofs.memo.DeadMemo.len.Goals as goal

pub returns : goal.returns
unfolding kept kept_in
returns c = c.len.ensures.len ∙ sym (length-map c.args.self.now.cache.entries (λ entry. question_of entry.0))
