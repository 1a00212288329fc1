-- Escaped text is printable.
use Rattle.std.proofs.Common.{ℕ, ◌^◌, ◌<◌, List, All, subst, sym, arith}
use Rattle.std.proofs.lemmas.Result.{IfOk-weaker}
use Rattle.std.proofs.lemmas.List.Elements.{All-from_get_or}
use Rattle.fumen_comment.specs.Escape.{IsPrintable}
use Rattle.fumen_comment.proofs.EscapeLaws.{escaped_printable}
use Rattle.fumen_comment.proofs.escaping.escape.Goals as goal

pub returns-clause-printable : goal.returns-clause-printable
returns-clause-printable c =
    let units = c.args.units.now in
    let fits : All (λ u. u < 2 ^ 16) units = All-from_get_or (λ u. u < 2 ^ 16) units 0 (λ i lt. omega (arith, c.type_inv.units i)) in
    IfOk-weaker c.escape_units.result _ _ (λ text is. subst (λ (x : List ℕ). All IsPrintable x) (sym is) (escaped_printable units fits)) c.escape_units.ensures.exact
