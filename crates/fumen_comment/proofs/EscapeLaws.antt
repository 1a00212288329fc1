-- Escaped text is printable and has no blank, and unescaping gives the units back.
use Rattle.std.proofs.Common.{◌≡◌, ℕ, ◌/◌, ◌%◌, ◌^◌, ◌<◌, ◌≤◌, Bool, true, false, cond, eqb, leb, ◌&&◌, ◌||◌, not, List, [], ◌∷◌, ◌++◌, drop, All, refl, sym, ap, ◌∙◌, inl, inr, arith, rules}
use Rattle.std.specs.List.{flat_map}
use Rattle.std.proofs.lemmas.Bool.{agree_below_at, cases_lt, lt-ltb, le-ltb, leb-true, and_parts, not-true}
use Rattle.std.proofs.lemmas.List.Elements.{All-nil, All-cons, All-append, All-head, All-tail}
use Rattle.fumen_comment.specs.Escape.{IsPrintable, stays, hex_digit, hex_byte, escaped_unit, escaped}
use Rattle.fumen_comment.specs.Unescape.{hex_byte_at, hex_unit_at, unit_of, unescaped, unescaped_behind}
use Rattle.fumen_comment.proofs.Tables.{hex_value_of_digit}
use Rattle.fumen_comment.proofs.UnescapeLoop.{unescaped-passed}

-- a character from `!` to `~`
abbrev pub IsMark : ℕ → Type 0
IsMark c = (33 ≤ c) × (c ≤ 126)

in_range : (c : ℕ) → (leb 33 c && leb c 126) ≡ true → IsMark c
in_range c e = let both = and_parts (leb 33 c) (leb c 126) e in (leb-true 33 c both.0, leb-true c 126 both.1)

hex_digit_mark : (v : ℕ) → v < 16 → IsMark (hex_digit v)
unfolding hex_digit
hex_digit_mark v lt = in_range (hex_digit v) (agree_below_at (λ k. leb 33 (hex_digit k) && leb (hex_digit k) 126) (λ _. true) 16 v refl lt)

-- a character that stays is such a mark, and no `%`
abbrev is_plain : ℕ → Bool
is_plain b = (leb 33 b && leb b 126) && not (eqb b 37)

stays_or_not : (b : ℕ) → b < 256 → (not (stays b) || is_plain b) ≡ true
unfolding stays
stays_or_not b lt = agree_below_at (λ k. not (stays k) || is_plain k) (λ _. true) 256 b refl lt

stays_plain : (b : ℕ) → b < 256 → stays b ≡ true → is_plain b ≡ true
stays_plain b lt e = ap (λ (t : Bool). not t || is_plain b) (sym e) ∙ stays_or_not b lt

hex_byte_marks : (byte : ℕ) → byte < 256 → All IsMark (hex_byte byte)
hex_byte_marks byte lt = search (rules, All-cons, hex_digit_mark, All-nil)

percent : IsMark 37
percent = (omega arith, omega arith)

letter_u : IsMark 117
letter_u = (omega arith, omega arith)

low_unit_marks : (u : ℕ) (b : Bool) → u < 256 → stays u ≡ b → All IsMark (cond b (u ∷ []) (37 ∷ hex_byte u))
low_unit_marks u true lt e =
    All-cons IsMark u [] (in_range u (and_parts (leb 33 u && leb u 126) (not (eqb u 37)) (stays_plain u lt e)).0) (All-nil IsMark)
low_unit_marks u false lt e = All-cons IsMark 37 (hex_byte u) percent (hex_byte_marks u lt)

unit_marks : (u : ℕ) → u < 2 ^ 16 → All IsMark (escaped_unit u)
unit_marks u fits =
    elim (cases_lt u 256) [
      | inl low ↦ rw (lt-ltb u 256 low) (low_unit_marks u (stays u) low refl)
      | inr high ↦
          rw (le-ltb u 256 high) (All-cons IsMark 37 (117 ∷ hex_byte (u / 256) ++ hex_byte (u % 256)) percent (All-cons IsMark 117 (hex_byte (u / 256) ++ hex_byte (u % 256)) letter_u (All-append IsMark (hex_byte (u / 256)) (hex_byte (u % 256)) (hex_byte_marks (u / 256) (omega arith)) (hex_byte_marks (u % 256) (omega arith)))))
    ]

pub escaped_marks : (units : List ℕ) → All (λ u. u < 2 ^ 16) units → All IsMark (escaped units)
unfolding escaped
escaped_marks [] fits = All-nil IsMark
escaped_marks (u ∷ units) fits =
    All-append IsMark (escaped_unit u) (flat_map escaped_unit units) (unit_marks u (All-head (λ k. k < 2 ^ 16) u units fits)) (escaped_marks units (All-tail (λ k. k < 2 ^ 16) u units fits))

-- so it is printable
pub escaped_printable : (units : List ℕ) → All (λ u. u < 2 ^ 16) units → All IsPrintable (escaped units)
escaped_printable units fits = λ k d within. let mark = escaped_marks units fits k d within in (omega (arith, mark.0), mark.1)

-- ---- unescaping undoes escaping

-- the unit at the front of a text, and what is left behind it
unit_front : (c : ℕ) (rest : List ℕ) (unit passed : ℕ) → unit_of c rest ≡ (unit, passed) → unescaped (c ∷ rest) ≡ unit ∷ unescaped (drop passed rest)
unfolding unescaped_behind
unit_front c rest unit passed e = search (rules, unescaped-passed)

hex_digit_no_u : (v : ℕ) → v < 16 → eqb (hex_digit v) 117 ≡ false
unfolding hex_digit
hex_digit_no_u v lt = agree_below_at (λ k. eqb (hex_digit k) 117) (λ _. false) 16 v refl lt

stays_again : (u : ℕ) (rest : List ℕ) → u < 256 → stays u ≡ true → unit_of u rest ≡ (u, 0)
unfolding unit_of
stays_again u rest lt e =
    let no_percent = not-true (eqb u 37) (and_parts (leb 33 u && leb u 126) (not (eqb u 37)) (stays_plain u lt e)).1 in
    rw no_percent refl

short_again : (u : ℕ) (rest : List ℕ) → u < 256 → unit_of 37 (hex_byte u ++ rest) ≡ (u, 2)
unfolding unit_of hex_unit_at hex_byte_at
short_again u rest lt = search (rules, hex_digit_no_u, hex_value_of_digit)

long_again : (u : ℕ) (rest : List ℕ) → u < 2 ^ 16 → unit_of 37 (117 ∷ (hex_byte (u / 256) ++ (hex_byte (u % 256) ++ rest))) ≡ (u, 5)
unfolding unit_of hex_unit_at hex_byte_at
long_again u rest fits = search (rules, hex_value_of_digit)

low_unit_again : (u : ℕ) (b : Bool) (rest : List ℕ) → u < 256 → stays u ≡ b → unescaped (cond b (u ∷ []) (37 ∷ hex_byte u) ++ rest) ≡ u ∷ unescaped rest
low_unit_again u true rest lt e = unit_front u rest u 0 (stays_again u rest lt e)
low_unit_again u false rest lt e = unit_front 37 (hex_byte u ++ rest) u 2 (short_again u rest lt)

unit_again : (u : ℕ) (rest : List ℕ) → u < 2 ^ 16 → unescaped (escaped_unit u ++ rest) ≡ u ∷ unescaped rest
unit_again u rest fits =
    search (rules, (cases_lt u 256), (lt-ltb u 256), (low_unit_again u (stays u) rest), (le-ltb u 256), (unit_front 37 (117 ∷ (hex_byte (u / 256) ++ (hex_byte (u % 256) ++ rest))) u 5 (long_again u rest fits)))

pub unescaped-escaped : (units : List ℕ) → All (λ u. u < 2 ^ 16) units → unescaped (escaped units) ≡ units
unfolding escaped unescaped_behind
unescaped-escaped [] fits = refl
unescaped-escaped (u ∷ units) fits =
    unit_again u (flat_map escaped_unit units) (All-head (λ k. k < 2 ^ 16) u units fits) ∙ ap (λ (x : List ℕ). u ∷ x) (unescaped-escaped units (All-tail (λ k. k < 2 ^ 16) u units fits))
