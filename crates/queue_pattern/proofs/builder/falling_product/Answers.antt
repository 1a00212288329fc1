-- The goals of `falling_product` that need lemmas.
use Rattle.std.proofs.Common.{◌-◌, arith, rules}
use Rattle.queue_pattern.specs.Queues.{falling_factor}
use Rattle.queue_pattern.proofs.FallingLemmas.{product_step, product_bound, power_bound, all_taken}
use Rattle.queue_pattern.proofs.builder.falling_product.Goals as goal

pub overflow_mul-product : goal.overflow_mul-product
overflow_mul-product c = search (rules, product_bound, power_bound)

pub loop-taken-preserved : goal.loop-taken-preserved
loop-taken-preserved c = search (rules, product_step, product_bound)

pub returns-clause-value : goal.returns-clause-value
returns-clause-value c =
    all_taken c.loop-taken.product (c.args.pieces - c.loop-taken.taken) (c.args.chosen - c.loop-taken.taken) (falling_factor c.args.pieces c.args.chosen) (omega arith) c.loop-taken.invariant.0

pub returns-clause-small : goal.returns-clause-small
returns-clause-small c = let most = power_bound c.loop-taken.taken (omega arith) in let bound = c.loop-taken.invariant.1 in omega arith
