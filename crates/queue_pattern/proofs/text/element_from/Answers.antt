-- The goals of `element_from` that need lemmas.
use Rattle.std.proofs.Common.{◌≡◌, ◌+◌, ◌∙◌, sym, ap, arith, None, Some, Ok, subst, true, rules}
use Rattle.std.proofs.lemmas.Result.{err_from_is_err_and}
use Rattle.queue_pattern.specs.Sound.{is_sound}
use Rattle.queue_pattern.proofs.SetLemmas.{single-sound}
use Rattle.queue_pattern.specs.Grammar.{read_at, outside, before}
use Rattle.queue_pattern.proofs.ReadElement.{element_from, read_star, read_open, read_letter}
use Rattle.queue_pattern.proofs.text.element_from.Goals as goal

pub returns-then-byte-eq42-clause-found : goal.returns-then-byte-eq42-clause-found
returns-then-byte-eq42-clause-found c = search (rules, element_from, read_star)

pub returns-in_err-set-clause-found : goal.returns-in_err-set-clause-found
returns-in_err-set-clause-found c = search (rules, err_from_is_err_and, read_open)

pub returns-then-byte-eq91-clause-found : goal.returns-then-byte-eq91-clause-found
returns-then-byte-eq91-clause-found c = search (rules, element_from, read_open)

pub returns-in-Some-clause-found : goal.returns-in-Some-clause-found
returns-in-Some-clause-found c = (
  read_letter c.args.text.now c.args.start (Some c.in-Some.piece) c.requires.within c.requires.no_gap c.if-byte-eq42.false c.if-byte-eq91.false c.in-Some.ensures
      ∙ ap (λ set. before (Ok (record { set = set; chosen = 1 })) (read_at c.args.text.now outside (c.args.start + 1))) (sym c.set_of_one.ensures),
  omega arith,
  omega arith,
)

pub returns-in-None-clause-found : goal.returns-in-None-clause-found
returns-in-None-clause-found c = read_letter c.args.text.now c.args.start None c.requires.within c.requires.no_gap c.if-byte-eq42.false c.if-byte-eq91.false c.in-None.ensures

pub returns-in-Some-clause-sound : goal.returns-in-Some-clause-sound
returns-in-Some-clause-sound c = subst (λ set. is_sound (record { set = set; chosen = 1 }) ≡ true) (sym c.set_of_one.ensures) (single-sound c.in-Some.piece)
