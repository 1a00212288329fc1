-- The goals of `Following::new` that need lemmas.
use Rattle.std.proofs.Common.{refl}
use Rattle.hold_queue.proofs.FollowLemmas.{leads-next}
use Rattle.hold_queue.proofs.memory.Following.new.Goals as goal

pub invariant_of-result : goal.invariant_of-result
invariant_of-result c =
    let states = c.args.before.now in
    record {
      same_hold = refl;
      drawn = refl;
      leads = λ elements start played stands due.
          leads-next elements states.hold start states.words c.next-words.result played c.args.piece (λ held. c.next-words.ensures held elements start played stands due);
      coming = c.permitted.ensures;
    }
