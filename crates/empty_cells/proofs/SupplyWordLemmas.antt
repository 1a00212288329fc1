-- One byte of a word is one less.
use Rattle.std.proofs.Common.{◌≡◌, ℕ, zero, suc, ◌+◌, ◌-◌, ◌*◌, ◌/◌, ◌%◌, ◌^◌, ◌<◌, ◌≤◌, bit_and, List, [], ◌∷◌, get_or, sym, ap, ◌∙◌, inl, inr, arith, rules}
use Rattle.std.proofs.Math.Nat.{add-mul-div_left, div-eq-sub-div, div-eq_of_lt}
use Rattle.std.proofs.Math.Path.{fun_ext}
use Rattle.std.specs.Int.{to_le_bytes, w64}
use Rattle.std.proofs.lemmas.Bool.{cases_Bool, cases_eq, cases_lt, eq-eqb, eqb-true, ne_eqb, cond-true, cond-false}
use Rattle.std.proofs.lemmas.Nat.{and_mask, one_shl, pow-add, pow_pos, shr-shr}
use Rattle.srs.specs.declared.piece.Piece.{Piece}
use Rattle.srs.specs.Piece.{piece_code}
use Rattle.srs.proofs.CallerLemmas.{piece_code-injective, piece_code-some, piece_code-small}
use Rattle.prune.specs.Tiling.{Supply, supply_in}
use Rattle.prune.specs.Mirror.{mirrored_supply}
use Rattle.prune.specs.OnePart.{less_one}
use Rattle.empty_cells.specs.declared.supply.SupplyWord.{SupplyWord}
use Rattle.empty_cells.specs.SupplyWords.{supply_of}

-- the byte of a kind
byte_of : (n : ℕ) (piece : Piece) → n / 2 ^ (8 * (piece_code piece - 1)) % 256 ≡ supply_in (to_le_bytes w64 n) piece
unfolding supply_in
byte_of n piece = search rules

pub masked_byte : (word : SupplyWord) (piece : Piece) → bit_and (word.counts / 2 ^ (8 * (piece_code piece - 1))) 255 ≡ supply_of word piece
unfolding supply_of
masked_byte word piece = and_mask (word.counts / 2 ^ (8 * (piece_code piece - 1))) 8 ∙ byte_of word.counts piece

-- a number whose byte k isn't 0, less one there
module _ (n k : ℕ) (some : 0 < n / 2 ^ (8 * k) % 256) where
  pub holds_one : 2 ^ (8 * k) ≤ n
  holds_one = search (rules, cases_lt, div-eq_of_lt)

  quotient : n / 2 ^ (8 * k) ≡ (n - 2 ^ (8 * k)) / 2 ^ (8 * k) + 1
  quotient = div-eq-sub-div (pow_pos (8 * k)) holds_one

  at_byte : (n - 2 ^ (8 * k)) / 2 ^ (8 * k) % 256 ≡ n / 2 ^ (8 * k) % 256 - 1
  at_byte = omega (arith, quotient, some)

  above : (d : ℕ) → (n - 2 ^ (8 * k)) / 2 ^ (8 * (k + d + 1)) ≡ n / 2 ^ (8 * (k + d + 1))
  above d = split (n - 2 ^ (8 * k)) ∙ ap (λ m. m / 2 ^ (8 * d)) (omega (arith, quotient, some)) ∙ sym (split n)
    where
      split : (m : ℕ) → m / 2 ^ (8 * (k + d + 1)) ≡ m / 2 ^ (8 * k) / 256 / 2 ^ (8 * d)
      split m = search (rules, (shr-shr m (8 * k + 8) (8 * d)), (shr-shr m (8 * k) 8))

  below : (j d : ℕ) → k ≡ j + d + 1 → (n - 2 ^ (8 * k)) / 2 ^ (8 * j) % 256 ≡ n / 2 ^ (8 * j) % 256
  below j d at =
      search (rules, (add-mul-div_left (n - 2 ^ (8 * k)) (256 * 2 ^ (8 * d)) (pow_pos (8 * j))), (pow-add 2 (8 * j) (8 + 8 * d)), (pow-add 2 8 (8 * d)), holds_one)

  other_byte : (j : ℕ) → (j ≡ k → ⊥) → (n - 2 ^ (8 * k)) / 2 ^ (8 * j) % 256 ≡ n / 2 ^ (8 * j) % 256
  other_byte j other = search (rules, (cases_lt j k), (below j (k - j - 1)), (cases_eq j k), (above (j - k - 1)))

one_less_byte : (n : ℕ) (piece other : Piece) → 0 < supply_in (to_le_bytes w64 n) piece → supply_in (to_le_bytes w64 (n - 2 ^ (8 * (piece_code piece - 1)))) other ≡ less_one (supply_in (to_le_bytes w64 n)) piece other
unfolding less_one
one_less_byte n piece other some =
    let index = piece_code piece - 1 in
    let fewer = n - 2 ^ (8 * (piece_code piece - 1)) in
    let here : 0 < n / 2 ^ (8 * (piece_code piece - 1)) % 256 = omega (arith, some, byte_of n piece) in
    elim (cases_eq (piece_code other) (piece_code piece)) [
      | inl same ↦
          sym (byte_of fewer other) ∙ ap (λ code. fewer / 2 ^ (8 * (code - 1)) % 256) same ∙ at_byte n index here
          ∙ ap (λ code. n / 2 ^ (8 * (code - 1)) % 256 - 1) (sym same) ∙ ap (λ count. count - 1) (byte_of n other)
          ∙ sym (cond-true _ _ _ (eq-eqb _ _ (sym same)))
      | inr different ↦
          sym (byte_of fewer other) ∙ other_byte n index here (piece_code other - 1) (λ e. different (omega (arith, e, piece_code-some piece, piece_code-some other)))
          ∙ byte_of n other ∙ sym (cond-false _ _ _ (ne_eqb _ _ (λ e. different (sym e))))
    ]

pub holds_piece : (word : SupplyWord) (piece : Piece) → 0 < supply_of word piece → 2 ^ (8 * (piece_code piece - 1)) ≤ word.counts
unfolding supply_of
holds_piece word piece some = holds_one word.counts (piece_code piece - 1) (omega (arith, some, byte_of word.counts piece))

pub one_less_of : (word fewer : SupplyWord) (piece : Piece) → 0 < supply_of word piece → fewer.counts ≡ word.counts - 2 ^ (8 * (piece_code piece - 1)) → supply_of fewer ≡ less_one (supply_of word) piece
unfolding supply_of
one_less_of word fewer piece some is = fun_ext (λ other. ap (λ n. supply_in (to_le_bytes w64 n) other) is ∙ one_less_byte word.counts piece other some)

pub less_none : (supply : Supply) (piece : Piece) → supply piece ≡ 0 → less_one supply piece ≡ supply
unfolding less_one
less_none supply piece none = search (rules, fun_ext, cases_Bool, piece_code-injective, eqb-true, cond-true, cond-false)

-- one piece of a kind, as a word
pub counted_once : (code : ℕ) (piece : Piece) → code ≡ piece_code piece → 1 * 2 ^ (8 * (code - 1)) % 2 ^ 64 ≡ 2 ^ (8 * (piece_code piece - 1))
counted_once code piece is = ap (λ code. 1 * 2 ^ (8 * (code - 1)) % 2 ^ 64) is ∙ one_shl (8 * (piece_code piece - 1)) 64 (omega (arith, piece_code-small piece))

-- seven entries and a zero
abbrev pub word_bytes : List ℕ → List ℕ
word_bytes s = get_or s 0 0 ∷ get_or s 1 0 ∷ get_or s 2 0 ∷ get_or s 3 0 ∷ get_or s 4 0 ∷ get_or s 5 0 ∷ get_or s 6 0 ∷ 0 ∷ []

pub bytes_small : (s : List ℕ) → ((k : ℕ) → get_or s k 0 < 256) → (i : ℕ) → get_or (word_bytes s) i 0 < 256
bytes_small s small zero = small 0
bytes_small s small (suc zero) = small 1
bytes_small s small (suc (suc zero)) = small 2
bytes_small s small (suc (suc (suc zero))) = small 3
bytes_small s small (suc (suc (suc (suc zero)))) = small 4
bytes_small s small (suc (suc (suc (suc (suc zero))))) = small 5
bytes_small s small (suc (suc (suc (suc (suc (suc zero)))))) = small 6
bytes_small s small (suc (suc (suc (suc (suc (suc (suc zero))))))) = omega arith
bytes_small s small (suc (suc (suc (suc (suc (suc (suc (suc i)))))))) = omega arith

pub seven_bytes : (s : List ℕ) → supply_in (word_bytes s) ≡ supply_in s
unfolding supply_in
seven_bytes s = search (rules, fun_ext)

-- the entries of the mirror image of a supply
pub codes_changed : (s : List ℕ) (piece : Piece) →
    supply_in (get_or s 0 0 ∷ get_or s 5 0 ∷ get_or s 2 0 ∷ get_or s 6 0 ∷ get_or s 4 0 ∷ get_or s 1 0 ∷ get_or s 3 0 ∷ []) piece ≡ mirrored_supply (supply_in s) piece
unfolding supply_in
codes_changed s piece = search rules
