-- Nothing is kept at the start.
use Rattle.std.proofs.Common.{sym, arith}
use Rattle.percent.proofs.KeptLemmas.{blank-counted, blank-true}
use Rattle.percent.proofs.kept.Kept.new.Goals as goal

pub invariant_of-result : goal.invariant_of-result
invariant_of-result c =
    let slots = c.within_memory.result in record {
      same_hold = c.requires;
      floods = c.new.ensures;
      are_true = blank-true c.args.tree c.args.game slots c.within_memory.ensures.nothing;
      counted = sym (blank-counted slots c.within_memory.ensures.nothing);
      bounded = omega arith;
    }
