-- Pages are equal exactly where they are the same.
use Rattle.std.proofs.Common.{◌≡◌, ◌∙◌, true, subst, sym, rules}
use Rattle.std.specs.Cmp.Lexicographic.{pointwise}
use Rattle.std.proofs.lemmas.Cmp.{lists_equiv}
use denote.Enum.Bare.{same_true}
use Rattle.fumen_digits.specs.contracts.dialect.Dialect.{the_type}
use Rattle.fumen_pages.specs.contracts.page.PagePartialEq.TheImpl.{eq-value}
use Rattle.fumen_pages.specs.contracts.page.PageEq.TheImpl.Laws.{laws-law}
use Rattle.pc_selfrun.proofs.PageEqual.{pages-same}
use Rattle.pc_selfrun.proofs.text.is_same.Goals as goal

pub returns-then-eq : goal.returns-then-eq
returns-then-eq c = (
  λ is. (same_true the_type (search rules) _ _ (sym c.eq.ensures ∙ c.if-eq.true), pages-same c.args.again.now c.args.pages.now (sym c.eq-then-eq.ensures ∙ is)),
  λ both. c.eq-then-eq.ensures ∙ subst (λ pages. pointwise eq-value.it c.args.again.now pages ≡ true) both.1 ((lists_equiv laws-law).refl c.args.again.now),
)
