-- The numbers of a set, word by word.
use Rattle.std.proofs.Common.{◌≡◌, ℕ, ◌+◌, ◌-◌, ◌*◌, ◌/◌, ◌%◌, ◌<◌, ◌≤◌, true, not, ◌&&◌, ◌==◌, nat_lt, nat_le, List, length, set, get_or, Option, Some, refl, sym, ap, ◌∙◌, inl, inr, arith, ◌≢◌, rules}
use Rattle.std.proofs.Math.Path.{fun_ext}
use Rattle.std.proofs.lemmas.Bool.{cases_lt, cases_eq, and_parts, and_from, leb-true, le-leb, lt-ltb, le-ltb, ltb-true, eq-eqb, ne_eqb, both_ways}
use Rattle.std.proofs.Math.Bool.{and-true}
use Rattle.lane_board.specs.Lanes.{has_bit}
use Rattle.lane_board.proofs.CallerLemmas.{same_from_both, has_bit-zero}
use Rattle.srs.specs.declared.rotation.Rotation.{Rotation}
use Rattle.srs.specs.Rotation.{rotation_index}
use Rattle.srs.proofs.CallerLemmas.{rotation_index-injective}
use Rattle.place_sets.specs.declared.numbers.Numbers.{Numbers}
use Rattle.place_sets.specs.FourRows.{IsFourRows}
use Rattle.place_sets.specs.Numbers.{has_number, number_of_state, is_named, states_in, IsFirstNumber, NoNumber, IsNumberFrom}
use Rattle.place_sets.specs.States.{States}
use Rattle.place_sets.proofs.FieldLemmas.{LiesWithin}

-- the number of a word's bit
pub has_number-at : (numbers : Numbers) (w k : ℕ) → k < 64 → has_number numbers (64 * w + k) ≡ has_bit (get_or numbers.words w 0) k
unfolding has_number
has_number-at numbers w k within = search rules

pub has_number-in : (numbers : Numbers) (n : ℕ) → has_number numbers n ≡ has_bit (get_or numbers.words (n / 64) 0) (n % 64)
unfolding has_number
has_number-in numbers n = refl

-- the bits of one word from a number on
pub record IsWordFrom (numbers : Numbers) (from at word : ℕ) : Type 0 where
  pub bits : (k : ℕ) → k < 64 → has_bit word k ≡ (nat_le (from - 64 * at) k && has_bit (get_or numbers.words at 0) k)

module _ (numbers : Numbers) (from at word : ℕ) (is : IsWordFrom numbers from at word) (before : (m : ℕ) → from ≤ m → m < 64 * at → has_number numbers m ≡ true → ⊥) where
  in_word : (m : ℕ) → from ≤ m → m / 64 ≡ at → has_number numbers m ≡ true → has_bit word (m % 64) ≡ true
  in_word m after here has = search (rules, and_from, le-leb, has_number-in)

  pub none_more : word ≡ 0 → (m : ℕ) → from ≤ m → m < 64 * (at + 1) → has_number numbers m ≡ true → ⊥
  none_more none m after within has = search (rules, (cases_lt m (64 * at)), both_ways, (has_bit-zero (m % 64)), (in_word m after))

  pub first_in : (bit : ℕ) → at < 24 → bit < 64 → has_bit word bit ≡ true → ((k : ℕ) → k < 64 → has_bit word k ≡ true → bit ≤ k) → IsFirstNumber numbers from (64 * at + bit)
  first_in bit small within has least =
      let parts = and_parts (nat_le (from - 64 * at) bit) (has_bit (get_or numbers.words at 0) bit) (sym (is.bits bit within) ∙ has) in
      let after = leb-true (from - 64 * at) bit parts.0 in
      record {
        has = has_number-at numbers at bit within ∙ parts.1;
        small = omega arith;
        after = omega (arith, after);
        first = λ m few from_there has_m. elim (cases_lt m (64 * at)) [
          | inl old ↦ absurd (before m from_there old has_m)
          | inr new ↦ elim (cases_lt m (64 * (at + 1))) [
            | inl here ↦ omega (arith, least (m % 64) (omega arith) (in_word m from_there (omega arith) has_m))
            | inr later ↦ omega arith
          ]
        ];
      }

-- all bits of a word, from that of an earlier one on
pub word_whole : (numbers : Numbers) (start at : ℕ) → start ≤ at → IsWordFrom numbers (64 * start) at (get_or numbers.words at 0)
word_whole numbers start at after = record { bits = λ k within. ap (λ b. b && has_bit (get_or numbers.words at 0) k) {x = true} (sym (le-leb (64 * start - 64 * at) k (omega arith))) }

-- the bits of the word of a number
pub word_at : (numbers : Numbers) (from at word : ℕ) → at ≡ from / 64 → ((k : ℕ) → k < 64 → has_bit word k ≡ (nat_le (from % 64) k && has_bit (get_or numbers.words at 0) k)) → IsWordFrom numbers from at word
word_at numbers from at word is bits = search rules

pub none_before : (numbers : Numbers) (from at : ℕ) → at ≡ from / 64 → (m : ℕ) → from ≤ m → m < 64 * at → has_number numbers m ≡ true → ⊥
none_before numbers from at is m after within has = absurd (omega (arith, is, after, within))

-- where none lies before a later number, the least one from there on is the least one
pub number_later : (numbers : Numbers) (from later : ℕ) (n : Option ℕ) → ((m : ℕ) → from ≤ m → m < later → has_number numbers m ≡ true → ⊥) → from ≤ later → IsNumberFrom numbers later n → IsNumberFrom numbers from n
number_later numbers from later n none after is = search (rules, cases_lt)

-- the least number of all is in the first word that has a bit
module _ (numbers : Numbers) (at : ℕ) (before : (w : ℕ) → w < at → get_or numbers.words w 0 ≡ 0) where
  none_before_word : (m : ℕ) → 0 ≤ m → m < 64 * at → has_number numbers m ≡ true → ⊥
  none_before_word m after within has = search (rules, both_ways, has_bit-zero, has_number-in)

  whole_word : IsWordFrom numbers 0 at (get_or numbers.words at 0)
  whole_word = record { bits = λ k within. ap (λ b. b && has_bit (get_or numbers.words at 0) k) {x = true} (sym (le-leb (0 - 64 * at) k (omega arith))) }

  pub first_of_all : (bit : ℕ) → at < 24 → bit < 64 → has_bit (get_or numbers.words at 0) bit ≡ true → ((k : ℕ) → k < 64 → has_bit (get_or numbers.words at 0) k ≡ true → bit ≤ k) → IsFirstNumber numbers 0 (64 * at + bit)
  first_of_all = first_in numbers 0 at (get_or numbers.words at 0) whole_word none_before_word

  pub none_at_all : 24 ≤ at → NoNumber numbers 0
  none_at_all all = record { none = λ m small after has. none_before_word m after (omega arith) has }

-- a set whose word was changed at one bit
pub without_number : (old new : Numbers) (at bit word : ℕ) → length old.words ≡ 24 → at < 24 → bit < 64 → new.words ≡ set old.words at word → ((k : ℕ) → k < 64 → has_bit word k ≡ (has_bit (get_or old.words at 0) k && not (k == bit))) →
    (n : ℕ) → n < 1536 → has_number new n ≡ (has_number old n && not (is_named (Some (64 * at + bit)) n))
unfolding has_number
without_number old new at bit word size small within is bits n few = search (rules, cases_eq, and-true, ne_eqb, eq-eqb)

-- words that have the rows of the boards
pub states_by : (numbers : Numbers) (S : States) → ((r : Rotation) → LiesWithin (S r) 24) → ((w : ℕ) → w < 24 → (r : Rotation) → rotation_index r ≡ w / 6 → IsFourRows (S r) (4 * (w % 6)) (get_or numbers.words w 0)) → ((r : Rotation) → rotation_index r < 4) → states_in numbers ≡ S
unfolding states_in has_number
states_by numbers S lies rows few = fun_ext (λ r. fun_ext (λ x. fun_ext (λ y. same r x y)))
  where
    at : (r : Rotation) (x y : ℕ) → x < 16 → y < 24 → has_bit (get_or numbers.words (number_of_state (rotation_index r) y x / 64) 0) (number_of_state (rotation_index r) y x % 64) ≡ S r x y
    at r x y column row =
        let n = number_of_state (rotation_index r) y x in
        let index = few r in
        let w : n / 64 < 24 = omega arith in
        let turn : rotation_index r ≡ n / 64 / 6 = omega arith in
        let p : n % 64 % 16 ≡ x = omega arith in
        let q : 4 * (n / 64 % 6) + n % 64 / 16 ≡ y = omega arith in
        (rows (n / 64) w r turn).bits (n % 64) (omega arith) ∙ (λ i. S r (p i) (q i))

    same : (r : Rotation) (x y : ℕ) → states_in numbers r x y ≡ S r x y
    same r x y = search (rules, same_from_both, and_parts, ltb-true, and_from, lt-ltb, at)

-- one word changed
one_more : (P : ℕ → ℕ → Type 0) (words : List ℕ) (at word w : ℕ) → at < length words → P at word → (w ≢ at → P w (get_or words w 0)) → P w (get_or (set words at word) w 0)
one_more P words at word w in_bounds here others = search (rules, cases_eq)

-- one word more of each rotation
abbrev pub four_set : List ℕ → ℕ → ℕ → ℕ → ℕ → ℕ → List ℕ
four_set words at a b c d = set (set (set (set words at a) (at + 6) b) (at + 12) c) (at + 18) d

pub four_set-length : (words : List ℕ) (at a b c d : ℕ) → length words ≡ 24 → length (four_set words at a b c d) ≡ 24
four_set-length words at a b c d size = search rules

pub four_more : (P : ℕ → ℕ → Type 0) (words : List ℕ) (at a b c d : ℕ) → length words ≡ 24 → at < 6 → ((w : ℕ) → w < 24 → w % 6 < at → P w (get_or words w 0)) → P at a → P (at + 6) b → P (at + 12) c → P (at + 18) d →
    (w : ℕ) → w < 24 → w % 6 < at + 1 → P w (get_or (four_set words at a b c d) w 0)
four_more P words at a b c d size small before is_a is_b is_c is_d w below within = search (rules, one_more)

-- the words of later rows stay
pub four_later : (words : List ℕ) (at a b c d w : ℕ) → at + 1 ≤ w % 6 → get_or (four_set words at a b c d) w 0 ≡ get_or words w 0
four_later words at a b c d w later = search rules

-- the word has the four rows of its rotation
abbrev pub HasRows : States → ℕ → ℕ → Type 0
HasRows S w word = (r : Rotation) → rotation_index r ≡ w / 6 → IsFourRows (S r) (4 * (w % 6)) word

pub rows_here : (S : States) (q : Rotation) (w at index word : ℕ) → w ≡ at + 6 * index → at < 6 → rotation_index q ≡ index → IsFourRows (S q) (4 * at) word → HasRows S w word
rows_here S q w at index word is small here rows r turn = search (rules, rotation_index-injective)

-- the word has the bits of some rows of its rotation
abbrev pub KeepsRows : Numbers → List ℕ → ℕ → ℕ → Type 0
KeepsRows old rows w word = (k : ℕ) → k < 64 → has_bit word k ≡ (has_bit (get_or old.words w 0) k && nat_lt k (16 * (get_or rows (w / 6) 0 - 4 * (w % 6))))

pub keeps_here : (old : Numbers) (rows : List ℕ) (w at index word : ℕ) → w ≡ at + 6 * index → at < 6 → ((k : ℕ) → k < 64 → has_bit word k ≡ (has_bit (get_or old.words w 0) k && nat_lt k (16 * (get_or rows index 0 - 4 * at)))) → KeepsRows old rows w word
keeps_here old rows w at index word is small bits k within = search rules

pub under_all : (rows : List ℕ) (top : ℕ) → get_or rows 0 0 ≤ top → get_or rows 1 0 ≤ top → get_or rows 2 0 ≤ top → get_or rows 3 0 ≤ top → (index : ℕ) → index < 4 → get_or rows index 0 ≤ top
under_all rows top a b c d h6 few = search rules

-- no row that is kept is in a later word
pub keeps_none : (old : Numbers) (rows : List ℕ) (w word : ℕ) → word ≡ 0 → get_or rows (w / 6) 0 ≤ 4 * (w % 6) → KeepsRows old rows w word
keeps_none old rows w word none low k within = search (rules, has_bit-zero, le-ltb)

pub keeps_rows : (old new : Numbers) (rows : List ℕ) → ((w : ℕ) → w < 24 → KeepsRows old rows w (get_or new.words w 0)) → (index y x : ℕ) → index < 4 → y < 24 → x < 16 → has_number new (number_of_state index y x) ≡ (has_number old (number_of_state index y x) && nat_lt y (get_or rows index 0))
unfolding has_number
keeps_rows old new rows keeps index y x few row column = search (rules, same_from_both, ltb-true, lt-ltb)
