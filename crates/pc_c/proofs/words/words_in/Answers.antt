-- Each turn reads the word before the next NUL byte.
use Rattle.std.proofs.Common.{◌≡◌, ◌<◌, ◌∙◌, List, ℕ, [], ◌∷◌, ◌++◌, length, string_bytes, ap, sym, subst, arith}
use Rattle.std.proofs.lemmas.List.{nil_from_length, map-append}
use Rattle.pc_words.specs.Words.{texts}
use Rattle.pc_c.proofs.WordLemmas.{HasRead, not_utf8, read_all, read_more, unended}
use Rattle.pc_c.proofs.words.words_in.Goals as goal

pub returns-in-None-clause-unspelled : goal.returns-in-None-clause-unspelled
returns-in-None-clause-unspelled c = λ _.
    let some : 0 < length c.loop-rest.rest.now = grind (arith, c.is_empty.ensures, c.loop-rest-test.true) in
    unended c.args.text.now (texts c.loop-rest.words.items) c.loop-rest.rest.now c.loop-rest.invariant
    (λ none. let zero : length c.loop-rest.rest.now ≡ 0 = ap length none in absurd (omega (arith, some, zero))) c.in-None.ensures

pub returns-in-Err-clause-unspelled : goal.returns-in-Err-clause-unspelled
returns-in-Err-clause-unspelled c = λ _.
    not_utf8 c.args.text.now (texts c.loop-rest.words.items) c.loop-rest.rest.now c.in-Some.cut.0.now c.in-Some.cut.1.now
    c.loop-rest.invariant c.in-Some.ensures.0 c.in-Some.ensures.1 c.in-Err.ensures.cases.0

pub loop-rest-preserved : goal.loop-rest-preserved
loop-rest-preserved c =
    let cut = c.in-Some.cut.0.now in
    let pushed = ap texts c.in_ok-push.ensures.items
    ∙ map-append (λ word. string_bytes word) c.loop-rest.words.items (c.in_ok-from_str.field-0 ∷ []) in
    let word : string_bytes c.in_ok-from_str.field-0 ≡ cut = c.in_ok-from_str.ensures.ok ∙ c.in-Ok.ensures.cases.0 in
    let words = pushed ∙ ap (λ (w : List ℕ). texts c.loop-rest.words.items ++ w ∷ []) word in
    subst (λ words. HasRead c.args.text.now words c.in-Some.cut.1.now) (sym words)
    (read_more c.args.text.now (texts c.loop-rest.words.items) c.loop-rest.rest.now cut c.in-Some.cut.1.now
    c.loop-rest.invariant c.in-Some.ensures.0 c.in-Some.ensures.1 c.in-Ok.ensures.cases.1)

pub returns-clause-spelled : goal.returns-clause-spelled
returns-clause-spelled c =
    read_all c.args.text.now (texts c.loop-rest.words.items) c.loop-rest.rest.now c.loop-rest.invariant
    (nil_from_length c.loop-rest.rest.now (grind (arith, c.is_empty.ensures, c.loop-rest-test.false)))
