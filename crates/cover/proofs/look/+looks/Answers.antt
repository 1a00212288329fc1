-- A list is found by the first or the second piece at hand, or by neither.
use Rattle.std.proofs.Common.{◌∙◌, sym, arith, rules}
use Rattle.cover.specs.Tree.{nodes_of}
use Rattle.cover.proofs.TreeFacts.{branches-of}
use Rattle.cover.proofs.LookLemmas.{takes-here, misses-none, found-first, found-second, misses-avoided, misses-one, misses-two}
use Rattle.cover.proofs.look.+looks.Goals as goal

pub look_at-returns-then-ends : goal.look_at-returns-then-ends
look_at-returns-then-ends m c = search (rules, takes-here)

pub look_at-returns-in_default : goal.look_at-returns-in_default
look_at-returns-in_default m c =
    misses-none (nodes_of c.args.tree.now) c.args.hold c.args.at c.args.queue.now.items c.args.hand c.requires.drawn (sym c.ends.ensures ∙ c.if-ends.false) _ (omega (arith, c.len.ensures.value)) c.in_default.ensures.first

pub look_at-returns-in_default-look_below : goal.look_at-returns-in_default-look_below
look_at-returns-in_default-look_below m c = search (rules, found-first)

pub look_at-returns-in-Avoided : goal.look_at-returns-in-Avoided
look_at-returns-in-Avoided m c =
    misses-avoided (nodes_of c.args.tree.now) c.args.hold c.args.at c.args.queue.now.items c.args.hand c.requires.drawn (sym c.ends.ensures ∙ c.if-ends.false) c.in-Some.first c.in-Some.ensures.first c.in-Missed.seen c.in-Missed.ensures c.in-Avoided.is

pub look_at-returns-in_default-second : goal.look_at-returns-in_default-second
look_at-returns-in_default-second m c =
    misses-one (nodes_of c.args.tree.now) c.args.hold c.args.at c.args.queue.now.items c.args.hand c.requires.drawn (sym c.ends.ensures ∙ c.if-ends.false) c.in-Some.first c.in-Some.ensures.first c.in-Missed.seen c.in-Missed.ensures _ (omega (arith, c.len-in_default-second.ensures.value)) c.in_default-second.ensures

pub look_at-returns-in_default-look_below-2 : goal.look_at-returns-in_default-look_below-2
look_at-returns-in_default-look_below-2 m c =
    found-second (nodes_of c.args.tree.now) c.args.hold c.args.at c.args.queue.now.items c.args.hand c.requires.drawn (sym c.ends.ensures ∙ c.if-ends.false) c.in-Some.first c.in-Some.ensures.first c.in-Missed.seen c.in-Missed.ensures c.in-Some-second.second c.in-Some-second.ensures c.in_default-hold.is c.in_default-look_below-2.ensures

pub look_at-returns : goal.look_at-returns
look_at-returns m c =
    misses-two (nodes_of c.args.tree.now) c.args.hold c.args.at c.args.queue.now.items c.args.hand c.requires.drawn (sym c.ends.ensures ∙ c.if-ends.false) c.in-Some.first c.in-Some.ensures.first c.in-Missed.seen c.in-Missed.ensures c.in-Some-second.second c.in-Some-second.ensures c.in-Missed-look_below.other c.max.result c.in-Missed-look_below.ensures c.max.ensures

pub look_below-look_at-requires : goal.look_below-look_at-requires
look_below-look_at-requires m c = search (rules, branches-of)
