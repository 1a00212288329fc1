-- Where a NUL byte stands in a text.
use Rattle.std.proofs.Common.{◌≡◌, ℕ, suc, ◌+◌, ◌<◌, false, ◌==◌, List, ◌∷◌, ◌++◌, length, take, drop, get_or, position, take-append-drop, drop-cons, length-take, get_or-take, Some, None, sym, ap, subst, ◌∙◌, eqb-true, ltb-false, arith, rules}
use Rattle.std.specs.Prelude.{All}
use Rattle.std.proofs.lemmas.Bool.{cases_Bool}
use Rattle.std.proofs.lemmas.List.Quantifiers.{position-Some}
use Rattle.std.proofs.lemmas.List.Sums.{fails_before_first}
use Rattle.std.proofs.lemmas.Grind.{get_or_default_zero}

abbrev pub IsPlain : List ℕ → Type 0
IsPlain text = All (λ byte. (byte == 0) ≡ false) text

pub nul_nowhere : (text : List ℕ) → position (λ byte. byte == 0) text ≡ None → IsPlain text
nul_nowhere text none = search (rules, cases_Bool, fails_before_first, ltb-false)

pub nul_there : (text : List ℕ) (at : ℕ) → position (λ byte. byte == 0) text ≡ Some at
    → (text ≡ take at text ++ 0 ∷ drop (at + 1) text) × IsPlain (take at text)
nul_there text at found =
    let p = position-Some (λ byte. byte == 0) text at 0 found in
    (parts p.0 (eqb-true (get_or text at 0) 0 p.1), before p.2)
  where
    parts : at < length text → get_or text at 0 ≡ 0 → text ≡ take at text ++ 0 ∷ drop (at + 1) text
    parts within here =
        let next : suc at ≡ at + 1 = omega arith in
        sym (take-append-drop at text)
        ∙ ap (λ (l : List ℕ). take at text ++ l)
        (drop-cons text at 0 within ∙ ap (λ b. b ∷ drop (suc at) text) here ∙ ap (λ n. 0 ∷ drop n text) next)

    same_default : (k d : ℕ) → k < length text → get_or text k 0 ≡ get_or text k d
    same_default k d within = sym (get_or_default_zero text k d within)

    before : ((k : ℕ) → k < at → (get_or text k 0 == 0) ≡ false) → IsPlain (take at text)
    before each k d within =
        let size = length-take at text in
        let front : k < at = omega (arith, size, within) in
        let there : k < length text = omega (arith, size, within) in
        subst (λ byte. (byte == 0) ≡ false) (same_default k d there ∙ sym (get_or-take at text k d front)) (each k front)
