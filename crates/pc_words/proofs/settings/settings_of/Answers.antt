-- What refuses a request refuses the command that asks for it.
use Rattle.std.proofs.Common.{◌∙◌, refl, ap, sym}
use Rattle.std.proofs.lemmas.Result.{err_from_is_err_and}
use Rattle.pc_settings.specs.Request.{FieldRequest}
use Rattle.pc_words.specs.Request.{combo, cover, path, percent}
use Rattle.pc_words.specs.Words.{asked_in, combo_request, field_request, path_request, percent_request, request_of, texts}
use Rattle.pc_words.proofs.Refusals.{refused}
use Rattle.pc_words.proofs.settings.settings_of.Goals as goal

pub returns-in_err-common-in-Path : goal.returns-in_err-common-in-Path
returns-in_err-common-in-Path c =
    let pairs = texts c.args.pairs.now in
    let p = err_from_is_err_and c.from_residual.result c.from_residual.ensures.1 in
    rw (p.1, p.2) (refused pairs (λ (asked : FieldRequest). asked.table) (λ common. path (path_request pairs c.args.values common)) (λ common. refl) (field_request pairs c.args.values) c.in_err-common-in-Path.field-0.0 c.in_err-common-in-Path.ensures.fault
    ∙ ap (λ command. asked_in (request_of command pairs c.args.values)) (sym c.in-Path.is))

pub returns-in_err-common-in-Percent : goal.returns-in_err-common-in-Percent
returns-in_err-common-in-Percent c =
    let pairs = texts c.args.pairs.now in
    let p = err_from_is_err_and c.from_residual-in_err-common-in-Percent.result c.from_residual-in_err-common-in-Percent.ensures.1 in
    rw (p.1, p.2) (refused pairs (λ (asked : FieldRequest). asked.table) (λ common. percent (percent_request c.args.values common)) (λ common. refl) (field_request pairs c.args.values) c.in_err-common-in-Percent.field-0.0 c.in_err-common-in-Percent.ensures.fault
    ∙ ap (λ command. asked_in (request_of command pairs c.args.values)) (sym c.in-Percent.is))

pub returns-in_err-field_settings-in-Cover : goal.returns-in_err-field_settings-in-Cover
returns-in_err-field_settings-in-Cover c =
    let pairs = texts c.args.pairs.now in
    let p = err_from_is_err_and c.from_residual-in_err-field_settings-in-Cover.result c.from_residual-in_err-field_settings-in-Cover.ensures.1 in
    rw (p.1, p.2) (refused pairs (λ (asked : FieldRequest). asked.table) (λ common. cover common) (λ common. refl) (field_request pairs c.args.values) c.in_err-field_settings-in-Cover.field-0.0 c.in_err-field_settings-in-Cover.ensures.fault
    ∙ ap (λ command. asked_in (request_of command pairs c.args.values)) (sym c.in-Cover.is))

pub returns-in_err-common-in-Combo : goal.returns-in_err-common-in-Combo
returns-in_err-common-in-Combo c =
    let pairs = texts c.args.pairs.now in
    let p = err_from_is_err_and c.from_residual-in_err-common-in-Combo.result c.from_residual-in_err-common-in-Combo.ensures.1 in
    rw (p.1, p.2) (refused pairs (λ (asked : FieldRequest). asked.table) (λ common. combo (combo_request c.args.values common)) (λ common. refl) (field_request pairs c.args.values) c.in_err-common-in-Combo.field-0.0 c.in_err-common-in-Combo.ensures.fault
    ∙ ap (λ command. asked_in (request_of command pairs c.args.values)) (sym c.in-Combo.is))
