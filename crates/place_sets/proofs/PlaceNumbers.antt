-- The numbers of states, and the order that they have in common with the places of states.
use Rattle.std.proofs.Common.{◌≡◌, ◌↔◌, ℕ, ◌+◌, ◌*◌, ◌/◌, ◌%◌, ◌<◌, ◌≤◌, min, true, nat_lt, ◌&&◌, sym, subst, arith, rules}
use Rattle.std.proofs.lemmas.Bool.{and_parts, and_from, cases_lt, cases_order, lt-ltb, ltb-true}
use Rattle.srs.specs.declared.piece.Piece.{Piece}
use Rattle.srs.specs.declared.rotation.Rotation.{Rotation}
use Rattle.srs.specs.declared.placement.Placement.{Placement}
use Rattle.srs.specs.Rotation.{rotation_index}
use Rattle.srs.proofs.CallerLemmas.{rotation_index-injective, rotation_index-small}
use Rattle.place_sets.specs.declared.numbers.Numbers.{Numbers}
use Rattle.place_sets.specs.Numbers.{has_number, number_of_state, states_in, IsFirstNumber, NoNumber}
use Rattle.place_sets.specs.Scan.{rising_number, IsFirstState, NoState}
use Rattle.place_sets.specs.States.{has_state}

pub number-within : (numbers : Numbers) (r : Rotation) (x y : ℕ) → states_in numbers r x y ≡ true → (x < 16) × (y < 24)
unfolding states_in
number-within numbers r x y held = search (rules, and_parts, ltb-true)

pub number-has : (numbers : Numbers) (r : Rotation) (x y : ℕ) → states_in numbers r x y ≡ true → has_number numbers (number_of_state (rotation_index r) y x) ≡ true
unfolding states_in
number-has numbers r x y held = (and_parts (nat_lt x 16 && nat_lt y 24) _ held).1

pub has-number : (numbers : Numbers) (r : Rotation) (x y : ℕ) → x < 16 → y < 24 → has_number numbers (number_of_state (rotation_index r) y x) ≡ true → states_in numbers r x y ≡ true
unfolding states_in
has-number numbers r x y column row has = and_from _ _ (and_from _ _ (lt-ltb x 16 column) (lt-ltb y 24 row)) has

-- the least number of the states from a rotation, row and column on
pub starts_high : (first y x index b a : ℕ) → y < 256 → x ≤ 256 → 24 ≤ y → b < 24 → a < 16 → (rising_number first y x ≤ rising_number index b a) ↔ (384 * (first + 1) ≤ number_of_state index b a)
starts_high first y x index b a row column high small_b small_a = search (rules, cases_lt)

pub starts_low : (first y x index b a : ℕ) → x ≤ 256 → y < 24 → b < 24 → a < 16 → (rising_number first y x ≤ rising_number index b a) ↔ (384 * first + 16 * y + min x 16 ≤ number_of_state index b a)
starts_low first y x index b a column low small_b small_a = search (rules, cases_order)

-- the state with a number
pub record HasNumber (n : ℕ) (s : Placement) : Type 0 where
  pub rotation : rotation_index s.rotation ≡ n / 384
  pub row : s.y ≡ n % 384 / 16
  pub column : s.x ≡ n % 16

pub number_is : (n : ℕ) (s : Placement) → n < 1536 → HasNumber n s → number_of_state (rotation_index s.rotation) s.y s.x ≡ n
number_is n s small is = let r = is.rotation in let y = is.row in let x = is.column in omega arith

pub same_number : (n : ℕ) (s q : Placement) → HasNumber n s → s.piece ≡ q.piece → q.x < 16 → q.y < 24 → number_of_state (rotation_index q.rotation) q.y q.x ≡ n → s ≡ q
same_number n s q is kind column row e = search (rules, rotation_index-injective)

number_order : (p y x q b a : ℕ) → y < 24 → x < 16 → b < 24 → a < 16 → number_of_state p y x ≤ number_of_state q b a → rising_number p y x ≤ rising_number q b a
number_order p y x q b a row column small_b small_a after = (starts_low p y x q b a (omega arith) row small_b small_a).1 (omega arith)

-- the first number from the start on is that of the first state
pub first_state-some : (numbers : Numbers) (piece : Piece) (from start n : ℕ) (s : Placement) → ((index b a : ℕ) → b < 24 → a < 16 → (from ≤ rising_number index b a) ↔ (start ≤ number_of_state index b a)) → IsFirstNumber numbers start n → s.piece ≡ piece → HasNumber n s → IsFirstState (states_in numbers) piece from s
unfolding has_state
first_state-some numbers piece from start n s begins is kind at =
    let r = at.rotation in
    let row = at.row in
    let column = at.column in
    let number = number_is n s is.small at in
    let small_x : s.x < 16 = omega arith in
    let small_y : s.y < 24 = omega arith in
    record {
      kind = kind;
      held = has-number numbers s.rotation s.x s.y small_x small_y (subst (λ m. has_number numbers m ≡ true) (sym number) is.has);
      after = (begins (rotation_index s.rotation) s.y s.x small_y small_x).1 (omega (arith, is.after));
      first = λ other after held.
          let within = number-within numbers other.rotation other.x other.y held in
          let few = rotation_index-small other.rotation in
          let m = number_of_state (rotation_index other.rotation) other.y other.x in
          let later : start ≤ m = (begins (rotation_index other.rotation) other.y other.x within.1 within.0).0 after in
          let least = is.first m (omega (arith, within.0, within.1)) later (number-has numbers other.rotation other.x other.y held) in
          number_order (rotation_index s.rotation) s.y s.x (rotation_index other.rotation) other.y other.x small_y small_x within.1 within.0 (omega (arith, least));
    }

pub first_state-none : (numbers : Numbers) (from start : ℕ) → ((index b a : ℕ) → b < 24 → a < 16 → (from ≤ rising_number index b a) ↔ (start ≤ number_of_state index b a)) → NoNumber numbers start → NoState (states_in numbers) from
unfolding has_state
first_state-none numbers from start begins is = record {
  none = λ other after held.
      let within = number-within numbers other.rotation other.x other.y held in
      let few = rotation_index-small other.rotation in
      is.none (number_of_state (rotation_index other.rotation) other.y other.x) (omega (arith, within.0, within.1)) ((begins (rotation_index other.rotation) other.y other.x within.1 within.0).0 after) (number-has numbers other.rotation other.x other.y held);
}
