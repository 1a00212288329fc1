-- The text round the digits, one byte at a time.
use Rattle.std.proofs.Common.{◌≡◌, ℕ, ◌+◌, ◌<◌, ◌≤◌, Bool, true, false, cond, eqb, ◌||◌, List, [], ◌∷◌, ◌++◌, length, get_or, drop, Option, Some, None, refl, sym, ap, ◌∙◌, rules}
use Rattle.std.specs.List.{flat_map, enumerate_from}
use Rattle.std.specs.Option.{option_map_or}
use Rattle.std.proofs.lemmas.List.{drop_more, drop_all}
use Rattle.std.proofs.lemmas.Bool.{agree_below_at, or_parts}
use Rattle.fumen_digits.specs.declared.dialect.Dialect.{Dialect}
use Rattle.fumen_digits.specs.Digit.{digit, IsDigit, AreDigits}
use Rattle.fumen_digits.specs.Framing.{begins_line, broken_digit, broken, is_dropped, version, dialect_at, digits_behind, digits_in}

abbrev pub lines_from : ℕ → List ℕ → List ℕ
lines_from place ds = flat_map broken_digit (enumerate_from place ds)

at_none : (byte : ℕ) (rest : List ℕ) → dialect_at (byte ∷ rest) ≡ None → digits_in rest ≡ digits_in (byte ∷ rest)
unfolding digits_in
at_none byte rest e = ap (λ (o : Option Dialect). option_map_or (λ d. Some (d, digits_behind (drop 5 (byte ∷ rest)))) o (digits_in rest)) (sym e)

at_some : (byte : ℕ) (rest : List ℕ) (d : Dialect) → dialect_at (byte ∷ rest) ≡ Some d → digits_in (byte ∷ rest) ≡ Some (d, digits_behind (drop 5 (byte ∷ rest)))
unfolding digits_in
at_some byte rest d e = ap (λ (o : Option Dialect). option_map_or (λ d. Some (d, digits_behind (drop 5 (byte ∷ rest)))) o (digits_in rest)) e

-- no prefix stands at this place, from which rest is left
pub none_here : (text : List ℕ) (i : ℕ) (rest : List ℕ) → i < length text → rest ≡ drop i text → dialect_at rest ≡ None → digits_in (drop (i + 1) text) ≡ digits_in (drop i text)
none_here text i rest lt is none =
    let one = drop_more text i 0 lt in
    at_none (get_or text i 0) (drop (i + 1) text) (ap dialect_at (sym one) ∙ (ap dialect_at (sym is) ∙ none)) ∙ ap digits_in (sym one)

-- the first prefix stands at this place, from which rest is left
pub found_here : (text : List ℕ) (i : ℕ) (rest behind : List ℕ) (d : Dialect) → i < length text → rest ≡ drop i text → behind ≡ drop 5 rest → dialect_at rest ≡ Some d → digits_in (drop i text) ≡ Some (d, digits_behind behind)
found_here text i rest behind d lt is behind_is found = search (rules, drop_more, digits_in, at_some)

pub none_left : (text : List ℕ) (i : ℕ) → length text ≤ i → digits_in (drop i text) ≡ None
unfolding digits_in
none_left text i le = rw (drop_all i text le) refl

-- ---- what was broken into lines is read again

digits_behind-cons : (byte : ℕ) (rest : List ℕ) → eqb byte 38 ≡ false → digits_behind (byte ∷ rest) ≡ cond (is_dropped byte) (digits_behind rest) (byte ∷ digits_behind rest)
unfolding digits_behind
digits_behind-cons byte rest e = search rules

digit_stays : (v : ℕ) → v < 64 → (eqb (digit v) 38 || is_dropped (digit v)) ≡ false
unfolding digit
digit_stays v lt = agree_below_at (λ k. eqb (digit k) 38 || is_dropped (digit k)) (λ _. false) 64 v refl lt

digits_behind-stays : (byte : ℕ) (rest : List ℕ) → IsDigit byte → digits_behind (byte ∷ rest) ≡ byte ∷ digits_behind rest
digits_behind-stays byte rest is =
    let both = or_parts (eqb (digit is.0) 38) (is_dropped (digit is.0)) (digit_stays is.0 is.1) in
    let e : eqb byte 38 ≡ false = rw is.2 both.0 in
    let dropped : is_dropped byte ≡ false = rw is.2 both.1 in
    digits_behind-cons byte rest e ∙ ap (λ (b : Bool). cond b (digits_behind rest) (byte ∷ digits_behind rest)) dropped

digits_behind-lines : (place : ℕ) (ds : List ℕ) → AreDigits ds → digits_behind (lines_from place ds) ≡ ds
unfolding digits_behind
digits_behind-lines place [] each = refl
digits_behind-lines place (d ∷ ds) each =
    let behind = digits_behind-stays d (lines_from (place + 1) ds) each.0 ∙ ap (λ (x : List ℕ). d ∷ x) (digits_behind-lines (place + 1) ds each.1) in
    elim (begins_line place) as (λ b. digits_behind (cond b (63 ∷ d ∷ []) (d ∷ []) ++ lines_from (place + 1) ds) ≡ d ∷ ds) [
      | true ↦ digits_behind-cons 63 (d ∷ lines_from (place + 1) ds) refl ∙ behind
      | false ↦ behind
    ]

dialect_at-broken : (dialect : Dialect) (rest : List ℕ) → dialect_at ((118 ∷ version dialect) ++ rest) ≡ Some dialect
dialect_at-broken dialect rest = search rules

drop-prefix : (dialect : Dialect) (rest : List ℕ) → drop 5 ((118 ∷ version dialect) ++ rest) ≡ rest
drop-prefix dialect rest = search rules

pub digits_in-broken : (dialect : Dialect) (ds : List ℕ) → AreDigits ds → digits_in (broken dialect ds) ≡ Some (dialect, ds)
unfolding broken
digits_in-broken dialect ds each =
    search (rules, version, at_some, dialect_at-broken, drop-prefix, digits_behind-lines)
