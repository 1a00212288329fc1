-- Numbers are read as the sequence that they are of.
use Rattle.std.proofs.Common.{◌≡◌, ℕ, ◌+◌, ◌-◌, ◌*◌, ◌<◌, ◌≤◌, ◌&&◌, nat_le, if◌then◌else◌, List, [], ◌∷◌, ◌++◌, length, take, drop, get_or, append-nil, All, Option, Some, None, refl, ap, sym, subst, ◌∙◌, arith, append_assoc, length-append, rules}
use Rattle.std.proofs.lemmas.List.{nil_from_length, take_rest}
use Rattle.std.proofs.lemmas.List.Concat.{flat_map-cons}
use Rattle.std.proofs.lemmas.List.Elements.{All-head, All-nil, All-tail}
use Rattle.std.proofs.lemmas.Option.{none-some, option_and_then_some, same_Some}
use Rattle.srs.specs.declared.piece.Piece.{Piece}
use Rattle.srs.specs.declared.rotation.Rotation.{Rotation}
use Rattle.srs.specs.declared.placement.Placement.{Placement}
use Rattle.srs.specs.Piece.{piece_code, piece_with_code}
use Rattle.srs.specs.Rotation.{rotation_index}
use Rattle.srs.specs.Cells.{HasPivotInWell}
use Rattle.placement_numbers.specs.Numbers.{AreNumbersOf, numbers_of, sequence_numbers}
use Rattle.placement_numbers.specs.Reading.{placement_in, placements_in, rotation_at}

-- ---- one placement

placement_read : (q : Placement) → HasPivotInWell q → placement_in (piece_code q.piece) (rotation_index q.rotation) q.x q.y ≡ Some q
unfolding placement_in
placement_read q within = search rules

-- the placement has these numbers
record HasNumbers (code index column row : ℕ) (q : Placement) : Type 0 where
  pub are : code ∷ index ∷ column ∷ row ∷ [] ≡ numbers_of q
  pub within : HasPivotInWell q

parts_only : (code index column row : ℕ) (piece : Piece) (rotation : Rotation) (q : Placement) → piece_with_code code ≡ Some piece → rotation_at index ≡ Some rotation
    → (if nat_le column 9 && nat_le row 22 then Some (record { piece = piece; rotation = rotation; x = column; y = row }) else None) ≡ Some q
    → HasNumbers code index column row q
parts_only code index column row piece rotation q piece_is rotation_is read = search rules

placement_only : (code index column row : ℕ) (q : Placement) → placement_in code index column row ≡ Some q → HasNumbers code index column row q
unfolding placement_in
placement_only code index column row q read =
    option_and_then_some _ (piece_with_code code) q read (λ piece piece_is rest.
    option_and_then_some _ (rotation_at index) q rest (λ rotation rotation_is same.
    parts_only code index column row piece rotation q piece_is rotation_is same))

-- ---- sequences

pub numbers_length : (sequence : List Placement) → length (sequence_numbers sequence) ≡ 4 * length sequence
numbers_length [] = refl
numbers_length (q ∷ sequence) = search (rules, length-append, flat_map-cons, numbers_length sequence)

placements_read : (sequence : List Placement) → All HasPivotInWell sequence → placements_in (sequence_numbers sequence) ≡ Some sequence
unfolding placements_in
placements_read [] within = refl
placements_read (q ∷ sequence) within =
    ap placements_in (flat_map-cons numbers_of q sequence)
    ∙ rw (placement_read q (All-head HasPivotInWell q sequence within), placements_read sequence (All-tail HasPivotInWell q sequence within)) refl

-- numbers of a sequence, whatever its length
record AreThoseOf (numbers : List ℕ) (sequence : List Placement) : Type 0 where
  pub are : numbers ≡ sequence_numbers sequence
  pub within : All HasPivotInWell sequence

more_only : (code index column row : ℕ) (rest : List ℕ) (q : Placement) (more : List Placement) → HasNumbers code index column row q → AreThoseOf rest more
    → AreThoseOf (code ∷ index ∷ column ∷ row ∷ rest) (q ∷ more)
more_only code index column row rest q more here there = search rules

placements_only : (numbers : List ℕ) (sequence : List Placement) → placements_in numbers ≡ Some sequence → AreThoseOf numbers sequence
unfolding placements_in
placements_only [] sequence read = subst (AreThoseOf []) (same_Some [] sequence read) (record { are = refl; within = All-nil HasPivotInWell })
placements_only (a ∷ []) sequence read = absurd (none-some sequence read)
placements_only (a ∷ b ∷ []) sequence read = absurd (none-some sequence read)
placements_only (a ∷ b ∷ c ∷ []) sequence read = absurd (none-some sequence read)
placements_only (a ∷ b ∷ c ∷ d ∷ rest) sequence read =
    option_and_then_some _ (placement_in a b c d) sequence read (λ q q_is later.
    option_and_then_some _ (placements_in rest) sequence later (λ more more_is same.
    subst (AreThoseOf (a ∷ b ∷ c ∷ d ∷ rest)) (same_Some (q ∷ more) sequence same)
    (more_only a b c d rest q more (placement_only a b c d q q_is) (placements_only rest more more_is))))

pub read_sequence : (numbers : List ℕ) (sequence : List Placement) → placements_in numbers ≡ Some sequence → AreNumbersOf (length sequence) numbers sequence
read_sequence numbers sequence read =
    let all = placements_only numbers sequence read in
    record { are = all.are; count = refl; within = all.within }

pub sequence_read : (needed : ℕ) (numbers : List ℕ) (sequence : List Placement) → AreNumbersOf needed numbers sequence → placements_in numbers ≡ Some sequence
sequence_read needed numbers sequence is = ap placements_in is.are ∙ placements_read sequence is.within

pub one_sequence : (needed other : ℕ) (numbers : List ℕ) (first second : List Placement) → AreNumbersOf needed numbers first → AreNumbersOf other numbers second → first ≡ second
one_sequence needed other numbers first second is also =
    same_Some first second (sym (sequence_read needed numbers first is) ∙ sequence_read other numbers second also)

pub four_each : (needed : ℕ) (numbers : List ℕ) (sequence : List Placement) → AreNumbersOf needed numbers sequence → length numbers ≡ 4 * needed
four_each needed numbers sequence is = ap length is.are ∙ numbers_length sequence ∙ ap (λ n. 4 * n) is.count

-- ---- while they are read

-- these placements, and then those that are read
abbrev pub with_front : List Placement → Option (List Placement) → Option (List Placement)
with_front read None = None
with_front read (Some more) = Some (read ++ more)

-- of these numbers some were read as these placements, and the rest is left
pub record HasRead (numbers : List ℕ) (read : List Placement) (rest : List ℕ) : Type 0 where
  pub is : placements_in numbers ≡ with_front read (placements_in rest)

pub read_all : (numbers : List ℕ) (read : List Placement) → HasRead numbers read [] → placements_in numbers ≡ Some (read ++ [])
unfolding placements_in
read_all numbers read so_far = so_far.is

pub read_more : (numbers : List ℕ) (read : List Placement) (code index column row : ℕ) (rest : List ℕ) (q : Placement) → placement_in code index column row ≡ Some q
    → HasRead numbers read (code ∷ index ∷ column ∷ row ∷ rest) → HasRead numbers (read ++ q ∷ []) rest
unfolding placements_in
read_more numbers read code index column row rest q here so_far = search (rules, append_assoc)

pub not_read : (numbers : List ℕ) (read : List Placement) (code index column row : ℕ) (rest : List ℕ) → placement_in code index column row ≡ None
    → HasRead numbers read (code ∷ index ∷ column ∷ row ∷ rest) → placements_in numbers ≡ None
unfolding placements_in
not_read numbers read code index column row rest none so_far = so_far.is ∙ rw (none) refl

-- ---- four numbers that stand first

four_first : (rest : List ℕ) → 4 ≤ length rest
    → rest ≡ get_or rest 0 0 ∷ get_or rest 1 0 ∷ get_or rest 2 0 ∷ get_or rest 3 0 ∷ take (length rest - 4) (drop 4 rest)
four_first [] long = absurd (omega (arith, long))
four_first (a ∷ []) long = absurd (omega (arith, long))
four_first (a ∷ b ∷ []) long = absurd (omega (arith, long))
four_first (a ∷ b ∷ c ∷ []) long = absurd (omega (arith, long))
four_first (a ∷ b ∷ c ∷ d ∷ rest) long = ap (λ (l : List ℕ). a ∷ b ∷ c ∷ d ∷ l) (sym (take_rest (a ∷ b ∷ c ∷ d ∷ rest) 4))

module _ (numbers : List ℕ) (read : List Placement) (rest : List ℕ) (long : 4 ≤ length rest) (so_far : HasRead numbers read rest)
    (answer : Option Placement) (is : answer ≡ placement_in (get_or rest 0 0) (get_or rest 1 0) (get_or rest 2 0) (get_or rest 3 0)) where
  pub next_read : (q : Placement) (all : List Placement) → answer ≡ Some q → all ≡ read ++ q ∷ [] → HasRead numbers all (take (length rest - 4) (drop 4 rest))
  next_read q all found pushed =
      subst (λ all. HasRead numbers all (take (length rest - 4) (drop 4 rest))) (sym pushed)
      (read_more numbers read _ _ _ _ _ q (sym is ∙ found) (subst (HasRead numbers read) (four_first rest long) so_far))

  pub none_read : (needed : ℕ) → answer ≡ None → (sequence : List Placement) → AreNumbersOf needed numbers sequence → ⊥
  none_read needed none sequence of =
      let unread = not_read numbers read _ _ _ _ _ (sym is ∙ none) (subst (HasRead numbers read) (four_first rest long) so_far) in
      none-some sequence (sym unread ∙ sequence_read needed numbers sequence of)

  pub fewer_left : length (take (length rest - 4) (drop 4 rest)) + 4 ≡ length rest
  fewer_left = let size = ap length (four_first rest long) in omega (arith, size)

pub wrong_length : (needed : ℕ) (numbers : List ℕ) → (length numbers ≡ 4 * needed → ⊥) → (sequence : List Placement) → AreNumbersOf needed numbers sequence → ⊥
wrong_length needed numbers other sequence of = other (four_each needed numbers sequence of)

pub all_read : (needed : ℕ) (numbers : List ℕ) (read : List Placement) (rest : List ℕ) → HasRead numbers read rest → length rest < 4 → 4 * length read + length rest ≡ 4 * needed
    → AreNumbersOf needed numbers read
all_read needed numbers read rest so_far short size =
    let none : length rest ≡ 0 = omega (arith, short, size) in
    let count : length read ≡ needed = omega (arith, short, size) in
    let whole = read_all numbers read (subst (HasRead numbers read) (nil_from_length rest none) so_far) ∙ ap Some (append-nil read) in
    subst (λ n. AreNumbersOf n numbers read) count (read_sequence numbers read whole)
