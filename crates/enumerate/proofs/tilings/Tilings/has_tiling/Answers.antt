-- The counts, the store and the search for a tiling say no exactly where none exists.
use Rattle.std.proofs.Common.{refl, sym, subst, ◌∙◌, rules}
use Rattle.std.proofs.lemmas.Bool.{false_from_ne_true, false≢true}
use Rattle.well.specs.Well.{filled}
use Rattle.prune.specs.Tiling.{supply_in, Tiling}
use Rattle.empty_cells.specs.Empties.{all_but}
use Rattle.empty_cells.proofs.CallerLemmas.{tiling_decided, tiling_below}
use Rattle.enumerate.specs.Settled.{by_counts, by_memory}
use Rattle.enumerate.proofs.Noted.{kept-used}
use Rattle.enumerate.proofs.tilings.Tilings.has_tiling.Goals as goal

pub returns-then-cheap_no-clause-answer : goal.returns-then-cheap_no-clause-answer
returns-then-cheap_no-clause-answer c = search (rules, false_from_ne_true, tiling_decided)

pub returns-then-cheap_no-clause-settled : goal.returns-then-cheap_no-clause-settled
returns-then-cheap_no-clause-settled c = λ _. by_counts (c.if-cheap_no.ensures.counts.0 refl)

pub returns-then-is_dead-clause-answer : goal.returns-then-is_dead-clause-answer
returns-then-is_dead-clause-answer c = search (rules, false_from_ne_true, tiling_decided)

pub returns-then-is_dead-clause-settled : goal.returns-then-is_dead-clause-settled
returns-then-is_dead-clause-settled c = λ _. by_memory (kept-used _ _ _ (c.if-is_dead.ensures.used refl))

pub returns-then-has_tiling-clause-answer : goal.returns-then-has_tiling-clause-answer
returns-then-has_tiling-clause-answer c = search (rules, tiling_decided, tiling_below)

pub returns-clause-answer : goal.returns-clause-answer
returns-clause-answer c = sym (false_from_ne_true _ (λ tiled.
    false≢true (sym c.if-has_tiling.false ∙ c.has_tiling.ensures.1 (subst (λ E. Tiling (all_but E) 8 (supply_in c.args.supply.now)) (sym c.below.ensures)
    ((tiling_below (filled c.args.well.now) c.args.rows_left 8 (supply_in c.args.supply.now) c.requires).1
    ((tiling_decided (filled c.args.well.now) c.args.rows_left (supply_in c.args.supply.now)).0 tiled))))))

pub note-requires-clause-dead : goal.note-requires-clause-dead
note-requires-clause-dead c = search (rules, false≢true, tiling_below)
