-- The first frame stands for the whole search, and passes what comes before a given sequence.
use Rattle.std.proofs.Common.{set, sym, ap, ◌∙◌, arith, rules}
use Rattle.srs.specs.Rules.{table_of}
use Rattle.reach.specs.FloodRules.{flood_table}
use Rattle.enumerate.specs.Items.{items_of}
use Rattle.enumerate.specs.Rest.{whole_from}
use Rattle.problem.proofs.CallerLemmas.{needed-few}
use Rattle.enumerate.proofs.SearchLemmas.{first-fresh, first-read, first-room, first-skips, nothing-room, nothing-skips, skips-by, sought-skips, whole-first, whole-nothing, whole-sought}
use Rattle.enumerate.proofs.Counting.{counts-none}
use Rattle.enumerate.proofs.start.begin.Goals as goal

pub returns-then-not-has_frame-clause-room : goal.returns-then-not-has_frame-clause-room
returns-then-not-has_frame-clause-room g c = nothing-room

pub returns-then-not-has_frame-clause-skips : goal.returns-then-not-has_frame-clause-skips
returns-then-not-has_frame-clause-skips g c =
    nothing-skips (table_of c.args.problem.now.rules) c.args.problem.now.drop_mode _ c.args.steps.now (whole-nothing c.args.problem.now (items_of c.args.queue.now) c.first_frame-first.result c.first_frame-first.ensures.state c.first_frame-first.ensures.left (sym (c.has_frame.ensures (table_of c.args.problem.now.rules) c.args.problem.now.drop_mode) ∙ c.if-not-has_frame.true) (items_of c.args.after.now))

pub seek-requires-clause-room : goal.seek-requires-clause-room
seek-requires-clause-room g c = search (rules, first-room, needed-few)

pub seek-requires-clause-fresh : goal.seek-requires-clause-fresh
seek-requires-clause-fresh g c = search (rules, first-read, first-fresh)

pub returns-in-None-clause-room : goal.returns-in-None-clause-room
returns-in-None-clause-room g c = search (rules, first-room, needed-few)

pub returns-in-None-clause-skips : goal.returns-in-None-clause-skips
returns-in-None-clause-skips g c =
    first-skips (table_of c.args.problem.now.rules) c.args.problem.now.drop_mode c.args.frames.now c.first_frame-first.result _ c.args.steps.now (omega (arith, c.told-frames))
    (ap (λ a. whole_from c.args.problem.now (items_of c.args.queue.now) (items_of a)) c.in-None.is
    ∙ whole-first c.args.problem.now (items_of c.args.queue.now) c.first_frame-first.result c.first_frame-first.ensures.state c.first_frame-first.ensures.left (sym (c.has_frame.ensures (table_of c.args.problem.now.rules) c.args.problem.now.drop_mode) ∙ c.if-not-has_frame.false) c.first_frame-first.ensures.tried c.first_frame-first.ensures.places)

pub returns-in-Some-clause-skips : goal.returns-in-Some-clause-skips
returns-in-Some-clause-skips g c =
    sought-skips (table_of c.args.problem.now.rules) c.args.problem.now.drop_mode c.args.frames.now c.first_frame-first.result c.in-Some.given.items c.as_slice.result.now _ _ c.args.steps.now c.seek.new.steps (omega (arith, c.told-frames)) c.as_slice.ensures.value
    (search (rules, (whole-sought c.args.problem.now (items_of c.args.queue.now) c.first_frame-first.result c.first_frame-first.ensures.state c.first_frame-first.ensures.left (sym (c.has_frame.ensures (table_of c.args.problem.now.rules) c.args.problem.now.drop_mode) ∙ c.if-not-has_frame.false) c.in-Some.given.items)))
    (skips-by c.args.problem.now.drop_mode (set c.args.frames.now 0 c.first_frame-first.result) c.as_slice.result.now c.seek.result c.seek.new.frames c.args.steps.now c.seek.new.steps (flood_table c.args.rules.now) (table_of c.args.problem.now.rules) c.requires.rules c.seek.ensures.skips)

pub returns-then-not-has_frame-clause-noted : goal.returns-then-not-has_frame-clause-noted
returns-then-not-has_frame-clause-noted g c = counts-none c.args.notes.now.floods c.args.steps.now

pub returns-in-None-clause-noted : goal.returns-in-None-clause-noted
returns-in-None-clause-noted g c = counts-none c.args.notes.now.floods c.args.steps.now
