-- Units that are unescaped, and those of a comment that is spelled, are below 2 ^ 16.
use Rattle.std.proofs.Common.{◌≡◌, ℕ, zero, suc, ◌+◌, ◌/◌, ◌%◌, ◌^◌, ◌<◌, List, [], ◌∷◌, All, Option, Some, position, ◌⊎◌, arith, rules}
use Rattle.std.specs.Option.{option_or, option_map_or}
use Rattle.std.specs.List.{flat_map}
use Rattle.std.proofs.lemmas.Bool.{cases_Bool}
use Rattle.std.proofs.lemmas.List.Elements.{All-nil, All-cons, All-append, All-head, All-tail, All-take}
use Rattle.std.proofs.lemmas.List.Quantifiers.{position-Some}
use Rattle.std.proofs.lemmas.Option.{none-some, option_and_then_some, same_Some}
use Rattle.std.proofs.lemmas.Grind.{common_steps}
use Rattle.fumen_comment.specs.Unescape.{hex_value, hex_byte_at, hex_unit_at, unit_of, unescaped, unescaped_behind}
use Rattle.fumen_comment.specs.Part.{unpacked, SpellsComment}

abbrev pub IsUnit : ℕ → Type 0
IsUnit unit = unit < 2 ^ 16

-- ---- hexadecimal numbers

either : (one other : Option ℕ) (value : ℕ) → option_or one other ≡ Some value → (one ≡ Some value) ⊎ (other ≡ Some value)
either one other value is = search rules

hex_value_small : (c value : ℕ) → hex_value c ≡ Some value → value < 16
unfolding hex_value
hex_value_small c value is = search (rules, either, position, position-Some)

hex_unit_small : (text : List ℕ) (value : ℕ) → hex_unit_at text ≡ Some value → IsUnit value
unfolding hex_unit_at hex_byte_at
hex_unit_small text value is = search (rules, none-some, cases_Bool, option_and_then_some, hex_value_small, same_Some)

-- ---- units

percent : (four two : Option ℕ) → ((value : ℕ) → four ≡ Some value → IsUnit value) → ((value : ℕ) → two ≡ Some value → value < 256)
    → IsUnit (option_map_or {U = ℕ × ℕ} (λ unit. (unit, 5)) four (option_map_or {U = ℕ × ℕ} (λ unit. (unit, 2)) two (37, 0))).0
percent four two long short = search rules

unit_fits : (c : ℕ) (rest : List ℕ) → IsUnit c → IsUnit (unit_of c rest).0
unfolding unit_of hex_byte_at
unit_fits c rest fits =
    search (rules, cases_Bool, percent, hex_unit_small, none-some, option_and_then_some, hex_value_small, same_Some)

fit_behind : (passed : ℕ) (text : List ℕ) → All IsUnit text → All IsUnit (unescaped_behind passed text)
unfolding unescaped_behind
fit_behind passed [] fits = All-nil IsUnit
fit_behind (suc passed) (c ∷ rest) fits = fit_behind passed rest (All-tail IsUnit c rest fits)
fit_behind zero (c ∷ rest) fits =
    All-cons IsUnit (unit_of c rest).0 (unescaped_behind (unit_of c rest).1 rest) (unit_fits c rest (All-head IsUnit c rest fits)) (fit_behind (unit_of c rest).1 rest (All-tail IsUnit c rest fits))

pub unescaped_fits : (text : List ℕ) → All IsUnit text → All IsUnit (unescaped text)
unescaped_fits text fits = fit_behind 0 text fits

-- ---- comments that are spelled

unpacked_fits : (count group : ℕ) → All IsUnit (unpacked count group)
unfolding unpacked
unpacked_fits zero group = All-nil IsUnit
unpacked_fits (suc count) group = All-cons IsUnit (group % 96 + 32) (unpacked count (group / 96)) (omega arith) (unpacked_fits count (group / 96))

groups_fit : (groups : List ℕ) → All IsUnit (flat_map (unpacked 4) groups)
groups_fit [] = All-nil IsUnit
groups_fit (group ∷ groups) = All-append IsUnit (unpacked 4 group) (flat_map (unpacked 4) groups) (unpacked_fits 4 group) (groups_fit groups)

pub comment_fits : (units ds : List ℕ) → SpellsComment units ds → All IsUnit units
comment_fits units ds s = grind (arith, common_steps, All-take, groups_fit, unescaped_fits)
