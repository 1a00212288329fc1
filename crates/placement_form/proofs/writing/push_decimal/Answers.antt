-- A number below ten has one digit.
use Rattle.std.proofs.Common.{◌++◌, ap, sym, ◌∙◌}
use Rattle.std.proofs.lemmas.Fmt.{decimal_digit}
use Rattle.placement_form.proofs.writing.push_decimal.Goals as goal

pub returns-then-number-lt10-clause-items : goal.returns-then-number-lt10-clause-items
returns-then-number-lt10-clause-items c =
    c.push.ensures.items ∙ ap (λ digits. c.args.text.now.items ++ digits) (sym (decimal_digit c.args.number c.if-number-lt10.true))
