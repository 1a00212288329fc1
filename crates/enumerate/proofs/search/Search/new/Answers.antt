-- A search that has yet to go to its start has all before it.
use Rattle.std.proofs.Common.{refl, sym, ap, ◌∙◌, arith}
use Rattle.std.specs.Prelude.{None, filter}
use Rattle.srs.specs.Order.{sequence_cmp}
use Rattle.srs.specs.Rising.{is_above}
use Rattle.enumerate.specs.Events.{found}
use Rattle.enumerate.specs.Items.{items_of}
use Rattle.enumerate.specs.Rest.{events_from, whole_from}
use Rattle.enumerate.specs.ViewOf.{dead_questions, after_given, events_to_come, view_of, whole_of, work}
use Rattle.enumerate.proofs.SearchLemmas.{nothing-room}
use Rattle.enumerate.proofs.SearchLists.{listed-start}
use Rattle.enumerate.proofs.search.Search.new.Goals as goal

pub invariant_of-result : goal.invariant_of-result
unfolding events_from
invariant_of-result c = record {
  fit = c.requires.fit;
  same_rules = c.new-rules.ensures;
  within = omega arith;
  room = nothing-room;
  listed = listed-start c.args.problem (items_of c.args.queue) (items_of c.args.after)
      ∙ ap (λ b. filter (is_above sequence_cmp b) (found (whole_from c.args.problem (items_of c.args.queue) None))) (sym c.copied_if_any-bound.ensures);
  counted = omega arith;
  noted = omega (arith, c.requires.none);
}

pub returns-clause-view : goal.returns-clause-view
unfolding view_of
returns-clause-view c = λ i. record { problem = c.args.problem; queue = items_of c.args.queue; bound = c.copied_if_any-bound.ensures i }

pub returns-clause-after : goal.returns-clause-after
unfolding after_given
returns-clause-after c = refl

pub returns-clause-work : goal.returns-clause-work
unfolding work whole_of events_to_come events_from
returns-clause-work c = omega arith

pub returns-clause-dead : goal.returns-clause-dead
unfolding dead_questions
returns-clause-dead c = c.requires.alive
