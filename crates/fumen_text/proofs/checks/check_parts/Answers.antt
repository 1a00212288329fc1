-- Only the comment is left to be measured.
use Rattle.std.proofs.Common.{◌≡◌, ℕ, ◌-◌, ◌∙◌, eqb, take, ap, sym, true, false, rules}
use Rattle.std.specs.List.{list_all}
use Rattle.fumen_text.proofs.FoundFirst.{long_or_none}
use Rattle.fumen_text.proofs.checks.check_parts.Goals as goal

never : false ≡ true → ⊥
never e = cc

pub returns-in_err-is_short-clause-memory : goal.returns-in_err-is_short-clause-memory
returns-in_err-is_short-clause-memory c =
    search (rules, never, c.in_err-is_short.ensures.few, (long_or_none c.args.dialect c.args.number c.args.page.now (sym c.are_colours.ensures ∙ c.if-not-are_colours.false) (ap (λ (n : ℕ). list_all (λ cell. eqb cell 0) (take (240 - n) c.args.page.now.cells)) (sym c.cells.ensures) ∙ (sym c.are_empty.ensures ∙ c.if-not-are_empty.false)) (sym c.is_placed.ensures ∙ c.if-not-is_placed.false)))
