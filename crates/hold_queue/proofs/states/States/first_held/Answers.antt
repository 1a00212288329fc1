-- The goals of `States::first_held` that need lemmas.
use Rattle.std.proofs.Common.{◌≡◌, None, Some, refl, sym, subst, List, ℕ}
use Rattle.hold_queue.specs.declared.family.Family.{Family}
use Rattle.hold_queue.specs.States.{IsHeldFamily, family_at}
use Rattle.hold_queue.proofs.FirstHeld.{HeldAt}
use Rattle.hold_queue.proofs.StepLemmas.{each_held}
use Rattle.hold_queue.proofs.states.States.first_held.Goals as goal

empty : Family
empty = record { low = 0; high = 0 }

pub returns-clause-none : goal.returns-clause-none
unfolding family_at empty
returns-clause-none c = subst (λ (words : List ℕ). family_at words None ≡ empty) (sym c.states.ensures) refl

pub returns-clause-held : goal.returns-clause-held
returns-clause-held c = λ piece elements start played stands due.
    let set = c.args.self.now in
    subst (λ (words : List ℕ). IsHeldFamily elements set.hold start set.words played piece (family_at words (Some piece))) (sym c.states.ensures)
    (each_held (HeldAt elements set.hold start set.words played)
    (record { low = 0; high = 0 }) c.with_held.result c.with_held-2.result c.with_held-3.result c.with_held-4.result
    c.with_held-5.result c.with_held-6.result c.with_held-7.result
    tt (c.with_held.ensures elements start played stands due) (c.with_held-2.ensures elements start played stands due) (c.with_held-3.ensures elements start played stands due) (c.with_held-4.ensures elements start played stands due)
    (c.with_held-5.ensures elements start played stands due) (c.with_held-6.ensures elements start played stands due) (c.with_held-7.ensures elements start played stands due) (Some piece))
