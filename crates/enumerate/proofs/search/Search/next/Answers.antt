-- What is still to come loses its first solution, which becomes the bound.
use Rattle.std.proofs.Common.{◌≡◌, [], ◌∷◌, take, refl, sym, ap, subst, ◌∙◌, arith, rules}
use Rattle.std.specs.Prelude.{None, Some, filter}
use Rattle.srs.specs.Order.{sequence_cmp}
use Rattle.srs.specs.Rising.{is_above}
use Rattle.srs.specs.Rules.{table_of}
use Rattle.enumerate.specs.Events.{found, floods}
use Rattle.enumerate.specs.Frames.{stacked}
use Rattle.enumerate.specs.Items.{items_of}
use Rattle.enumerate.specs.Rest.{events_from, whole_from}
use Rattle.dead_memo.specs.Memo.{kept}
use Rattle.enumerate.specs.ViewOf.{dead_questions, after_given, events_to_come, solutions, view_of, whole_of, work}
use Rattle.problem.specs.SolutionList.{IsList}
use Rattle.problem.proofs.CallerLemmas.{next-first, next-none}
use Rattle.enumerate.proofs.SearchFacts.{search-list}
use Rattle.enumerate.proofs.SearchLemmas.{none-found, none-used, one-found}
use Rattle.enumerate.proofs.SearchLists.{floods-within, listed-next, whole-floods}
use Rattle.enumerate.proofs.search.Search.next.Goals as goal

pub invariant_of-self : goal.invariant_of-self
unfolding events_from
invariant_of-self g c = search (rules, none-found)

pub returns-then-self-eq0-clause-list : goal.returns-then-self-eq0-clause-list
returns-then-self-eq0-clause-list g c = search-list c.args.self.now

pub returns-then-self-eq0-clause-found : goal.returns-then-self-eq0-clause-found
unfolding solutions events_to_come events_from view_of found
returns-then-self-eq0-clause-found g c = grind (arith, none-used, none-found)

pub returns-then-self-eq0-clause-after : goal.returns-then-self-eq0-clause-after
unfolding after_given
returns-then-self-eq0-clause-after g c = refl

pub returns-then-self-eq0-clause-counted : goal.returns-then-self-eq0-clause-counted
unfolding work whole_of events_to_come events_from
returns-then-self-eq0-clause-counted g c = omega (arith, c.go_on-self.ensures.counted, c.go_on-self.ensures.fewer, c.args.self.now.counted)

pub returns-then-self-eq0-clause-bounded : goal.returns-then-self-eq0-clause-bounded
unfolding work whole_of events_to_come events_from view_of
returns-then-self-eq0-clause-bounded g c = search (rules, floods-within)

pub returns-then-self-eq0-clause-whole : goal.returns-then-self-eq0-clause-whole
unfolding work whole_of events_to_come events_from view_of after_given floods
returns-then-self-eq0-clause-whole g c = grind (arith, none-used, whole-floods)

-- what is found is the path, which is given and kept as the bound
pub invariant_of-self-2 : goal.invariant_of-self-2
unfolding events_from
invariant_of-self-2 g c =
    let first = one-found _ _ _ c.go_on-self.result c.if-self-eq0.false c.go_on-self.ensures.found in
    record {
      fit = c.args.self.now.fit;
      same_rules = c.args.self.now.same_rules;
      within = c.go_on-self.ensures.within;
      room = c.go_on-self.ensures.room;
      listed =
          listed-next c.args.self.now.problem c.args.self.now.fit (items_of c.args.self.now.queue) (items_of c.args.self.now.bound) _ _ (sym first ∙ c.args.self.now.listed)
          ∙ ap (λ p. filter (is_above sequence_cmp (Some p)) (found (whole_from c.args.self.now.problem (items_of c.args.self.now.queue) None))) (sym (c.copied.ensures ∙ c.path-sequence.ensures));
      counted = omega (arith, c.go_on-self.ensures.fewer, c.args.self.now.counted);
      noted = let n = c.go_on-self.ensures.noted.counts _ c.args.self.now.noted in omega (arith, n, c.go_on-self.ensures.noted.rose, c.go_on-self.ensures.counted, c.go_on-self.ensures.fewer, c.args.self.now.counted);
    }

pub returns-clause-list : goal.returns-clause-list
returns-clause-list g c = search-list c.args.self.now

pub returns-clause-found : goal.returns-clause-found
unfolding solutions events_to_come events_from view_of
returns-clause-found g c = (
  one-found _ _ _ c.go_on-self.result c.if-self-eq0.false c.go_on-self.ensures.found
      ∙ ap (λ p. p ∷ found (stacked (table_of c.args.self.now.problem.rules) c.args.self.now.problem.drop_mode [] (take c.go_on-self.result c.go_on-self.new.frames))) (sym c.path-sequence.ensures),
  λ i. record { problem = c.args.self.now.problem; queue = items_of c.args.self.now.queue; bound = Some (c.copied.ensures i) },
)

pub returns-clause-after : goal.returns-clause-after
unfolding after_given
returns-clause-after g c = refl

pub returns-clause-counted : goal.returns-clause-counted
unfolding work whole_of events_to_come events_from
returns-clause-counted g c = omega (arith, c.go_on-self.ensures.counted, c.go_on-self.ensures.fewer, c.args.self.now.counted)

pub returns-clause-bounded : goal.returns-clause-bounded
unfolding work whole_of events_to_come events_from view_of
returns-clause-bounded g c = search (rules, floods-within)

pub returns-then-self-eq0-clause-next : goal.returns-then-self-eq0-clause-next
unfolding view_of solutions events_to_come found
returns-then-self-eq0-clause-next g c =
    search (rules, (none-used (table_of c.args.self.now.problem.rules) c.args.self.now.problem.drop_mode c.go_on-self.new.frames c.go_on-self.result c.if-self-eq0.true), none-found, (next-none c.args.self.now.problem (items_of c.args.self.now.queue) (items_of c.args.self.now.bound)), (search-list c.args.self.now))

pub returns-clause-next : goal.returns-clause-next
unfolding view_of solutions events_to_come
returns-clause-next g c =
    let first : solutions c.args.self.now ≡ c.path-sequence.result.items ∷ found (stacked (table_of c.args.self.now.problem.rules) c.args.self.now.problem.drop_mode [] (take c.go_on-self.result c.go_on-self.new.frames)) =
    one-found _ _ _ c.go_on-self.result c.if-self-eq0.false c.go_on-self.ensures.found
    ∙ ap (λ p. p ∷ found (stacked (table_of c.args.self.now.problem.rules) c.args.self.now.problem.drop_mode [] (take c.go_on-self.result c.go_on-self.new.frames))) (sym c.path-sequence.ensures) in
    next-first c.args.self.now.problem (items_of c.args.self.now.queue) (items_of c.args.self.now.bound) c.path-sequence.result.items _ (subst (IsList (view_of c.args.self.now)) first (search-list c.args.self.now))

pub returns-then-self-eq0-clause-dead : goal.returns-then-self-eq0-clause-dead
unfolding dead_questions kept
returns-then-self-eq0-clause-dead g c = c.go_on-self.new.notes.tilings.dead.dead

pub returns-clause-dead : goal.returns-clause-dead
unfolding dead_questions kept
returns-clause-dead g c = c.go_on-self.new.notes.tilings.dead.dead
