-- The pair gives its option, which had no value.
use Rattle.std.proofs.Common.{◌≡◌, ◌∙◌, ◌++◌, ◌%◌, [], ◌∷◌, length, ap, sym, arith, string_bytes}
use Rattle.std.specs.Prelude.{is_some, option_copied}
use Rattle.std.proofs.lemmas.List.{length-map}
use Rattle.std.proofs.lemmas.Option.{same_Some}
use Rattle.pc_words.specs.Values.{with_value}
use Rattle.pc_words.specs.Words.{texts, values_in}
use Rattle.pc_words.proofs.OneMore.{no_pair_fault, read_known, values_more}
use Rattle.pc_words.proofs.words.with_pair.Goals as goal

pub returns-in-Some-with_value-clause-values : goal.returns-in-Some-with_value-clause-values
returns-in-Some-with_value-clause-values c = λ text is.
    let before = texts c.args.before.now in
    let even : length before % 2 ≡ 0 = omega (arith, length-map c.args.before.now (λ word. string_bytes word), c.requires.even) in
    let taken = sym (ap (λ v. with_value v c.in-Some.option c.in-Some-value.text.now) c.requires.values) ∙ sym c.in-Some-with_value.ensures in
    values_more c.args.command c.in-Some.option c.args.name.now c.in-Some-value.text.now before c.in-Some-with_value.values (sym c.in-Some.ensures) even (sym c.is_given.ensures ∙ c.if-is_given.false) taken
    ∙ ap (λ t. values_in (before ++ c.args.name.now ∷ t ∷ [])) (same_Some c.in-Some-value.text.now text (sym (ap option_copied c.in-Some-value.is) ∙ is))

pub returns-in-Some-with_value-clause-none : goal.returns-in-Some-with_value-clause-none
returns-in-Some-with_value-clause-none c =
    let known = sym (read_known c.args.values c.in-Some.option c.in-Some-value.text.now) ∙ ap is_some (sym c.in-Some-with_value.ensures) in
    no_pair_fault c.args.command c.in-Some.option c.args.name.now c.in-Some-value.text.now (texts c.args.before.now) (option_copied c.args.value) (sym c.in-Some.ensures)
    (sym c.is_given.ensures ∙ c.if-is_given.false) (sym c.is_other_field.ensures ∙ c.if-is_other_field.false) (ap option_copied c.in-Some-value.is) known
