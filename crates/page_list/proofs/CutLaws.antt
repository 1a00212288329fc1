-- Texts that are cut at a byte.
use Rattle.std.proofs.Common.{◌≡◌, ℕ, ◌+◌, ◌<◌, ◌==◌, true, false, List, [], ◌∷◌, ◌++◌, length, length-append, take, drop, get_or, position, take-append-drop, get_or-take, length-take, drop-cons, Option, Some, refl, sym, ap, subst, ◌∙◌, nat_lt, ltb-true, lt-ltb, eq-eqb, eqb-true, if◌then◌else◌, suc, arith, rules}
use Rattle.std.specs.Prelude.{All, not}
use Rattle.std.specs.List.{list_all, position_or_len}
use Rattle.std.proofs.lemmas.List.{take_at, drop_at}
use Rattle.std.proofs.lemmas.List.Elements.{All-head, All-tail}
use Rattle.std.proofs.lemmas.List.Quantifiers.{position-Some}
use Rattle.std.proofs.lemmas.Grind.{get_or_default_zero, common_steps}
use Rattle.std.proofs.lemmas.Option.{none-some, option_and_then_some, same_Some}
use Rattle.std.proofs.lemmas.Bool.{cases_Bool, and_parts, not-true}
use Rattle.std.proofs.lemmas.List.Sums.{AllPass-from_list_all}
use Rattle.page_list.specs.CellsReading.{cut_at}
use Rattle.page_list.specs.LineReading.{four_in, is_field}
use Rattle.page_list.specs.Divided.{Four, IsField, IsDivided}

place : (byte : ℕ) (front behind : List ℕ) → All (λ c. (c == byte) ≡ false) front → position_or_len (λ c. c == byte) (front ++ byte ∷ behind) ≡ length front
place byte [] behind lacks = ap (λ b. if not b then 1 + position_or_len (λ c. c == byte) behind else 0) (eq-eqb byte byte refl)
place byte (c ∷ front) behind lacks =
    search (rules, All-head, All-tail, place byte front behind (All-tail (λ x. (x == byte) ≡ false) c front lacks))

abbrev pair : List ℕ → List ℕ → Option (List ℕ × List ℕ)
pair a b = Some (a, b)

parts : (a b c d : List ℕ) → a ≡ b → c ≡ d → pair a c ≡ pair b d
parts a b c d f g = ap (λ (x : List ℕ). pair x c) f ∙ ap (λ (x : List ℕ). pair b x) g

again : (byte : ℕ) (f b : List ℕ) → f ++ byte ∷ b ≡ (f ++ byte ∷ []) ++ b
again byte f b = grind (arith, common_steps)

pub cut_front : (byte : ℕ) (front behind : List ℕ) → All (λ c. (c == byte) ≡ false) front → cut_at byte (front ++ byte ∷ behind) ≡ Some (front, behind)
unfolding cut_at
cut_front byte front behind lacks =
    search (rules, (length-append front (byte ∷ behind)), (place byte front behind lacks), (lt-ltb (length front) (length (front ++ byte ∷ behind))), (parts (take (length front) (front ++ byte ∷ behind)) front (drop (length front + 1) (front ++ byte ∷ behind)) behind (take_at front (byte ∷ behind) (length front) refl)), (again byte front behind), (drop_at (front ++ byte ∷ []) behind (length front + 1) (length-append front (byte ∷ []))))

-- the text before the first such byte, and the text behind it
pub record IsCut (byte : ℕ) (text : List ℕ) (cut : List ℕ × List ℕ) : Type 0 where
  pub whole : text ≡ cut.0 ++ byte ∷ cut.1
  pub lacks : All (λ c. (c == byte) ≡ false) cut.0

pub cut_is : (byte : ℕ) (text : List ℕ) (cut : List ℕ × List ℕ) → cut_at byte text ≡ Some cut → IsCut byte text cut
unfolding cut_at
cut_is byte text cut is =
    option_and_then_some (λ at. Some (take at text, drop (at + 1) text)) (position (λ c. c == byte) text) cut is (λ at found made.
    let p = position-Some (λ c. c == byte) text at 0 found in
    subst (IsCut byte text) (same_Some (take at text, drop (at + 1) text) cut made) (record { whole = parts_of at p.0 (eqb-true (get_or text at 0) byte p.1); lacks = before at p.2 }))
  where
    parts_of : (at : ℕ) → at < length text → get_or text at 0 ≡ byte → text ≡ take at text ++ byte ∷ drop (at + 1) text
    parts_of at within here =
        let next : suc at ≡ at + 1 = omega arith in
        sym (take-append-drop at text) ∙ ap (λ (l : List ℕ). take at text ++ l) (drop-cons text at 0 within ∙ ap (λ b. b ∷ drop (suc at) text) here ∙ ap (λ n. byte ∷ drop n text) next)

    same_default : (k d : ℕ) → k < length text → get_or text k 0 ≡ get_or text k d
    same_default k d within = sym (get_or_default_zero text k d within)

    before : (at : ℕ) → ((k : ℕ) → k < at → (get_or text k 0 == byte) ≡ false) → All (λ c. (c == byte) ≡ false) (take at text)
    before at each k d within =
        let size = length-take at text in
        let front : k < at = omega (arith, size, within) in
        let there : k < length text = omega (arith, size, within) in
        subst (λ c. (c == byte) ≡ false) (same_default k d there ∙ sym (get_or-take at text k d front)) (each k front)

no_blank : (text : List ℕ) → All (λ byte. (byte == 32) ≡ false) text → list_all (λ byte. not (byte == 32)) text ≡ true
no_blank [] lacks = refl
no_blank (c ∷ text) lacks =
    rw (All-head (λ byte. (byte == 32) ≡ false) c text lacks) (no_blank text (All-tail (λ byte. (byte == 32) ≡ false) c text lacks))

field : (text : List ℕ) → IsField text → is_field text ≡ true
field text is = rw (lt-ltb 0 (length text) is.some, no_blank text is.blanks) refl

field_is : (text : List ℕ) → is_field text ≡ true → IsField text
field_is text is = search (rules, and_parts, nat_lt, AllPass-from_list_all, ltb-true, not-true)

pub divided_is : (line : List ℕ) (four : Four) → four_in line ≡ Some four → IsDivided line four
unfolding four_in
divided_is line four is =
    grind (arith, common_steps, option_and_then_some, parts, cut_is, same_Some, cases_Bool, and_parts, field_is, none-some)

pub divided_read : (line : List ℕ) (four : Four) → IsDivided line four → four_in line ≡ Some four
unfolding four_in
divided_read line four is = search (rules, cut_front, field)
